use Rattle.std.proofs.Common.{◌≡◌, Ok}
use Rattle.readers.specs.Flow.{flow}
use Rattle.readers.specs.Reading.{run}
use Rattle.readers.specs.Items.{items_left}
use Rattle.readers.proofs.Items.{flow_items}
use Rattle.readers.proofs.listing.passes.check_flow.Given as goal

abbrev pub invariant-loop-at : goal.invariant-loop-at
invariant-loop-at l = flow l.count (Ok tt) 0 (run 0 l.bytes) ≡ flow_items l.count l.end (items_left l.at-iterator)
