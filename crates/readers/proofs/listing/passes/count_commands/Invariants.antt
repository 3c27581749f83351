use Rattle.std.proofs.Common.{◌≡◌, length}
use Rattle.readers.specs.Reading.{given, broken, run}
use Rattle.readers.specs.Items.{items_left}
use Rattle.readers.proofs.Items.{counted}
use Rattle.readers.proofs.listing.passes.count_commands.Given as goal

abbrev pub invariant-loop-at : goal.invariant-loop-at
invariant-loop-at l = given (broken 0 0 0 l.bytes) (length (run 0 l.bytes)) ≡ counted l.count (items_left l.at-iterator)
