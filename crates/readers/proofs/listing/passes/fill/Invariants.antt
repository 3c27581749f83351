use Rattle.std.proofs.Common.{◌≡◌, ◌++◌, vec_items, vec_capacity}
use Rattle.readers.specs.Reading.{run}
use Rattle.readers.specs.Items.{items_left}
use Rattle.readers.proofs.Items.{run_items}
use Rattle.readers.proofs.listing.passes.fill.Given as goal

abbrev pub invariant-loop-command : goal.invariant-loop-command
invariant-loop-command l = record {
  items : vec_items l.commands ++ run_items (items_left l.command-iterator) ≡ run 0 l.bytes;
  room : vec_capacity l.commands ≡ vec_capacity l.initial.commands;
}
