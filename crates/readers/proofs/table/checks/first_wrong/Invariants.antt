use Rattle.std.proofs.Common.{take}
use Rattle.readers.specs.TableRefusals.{AllFit}
use Rattle.readers.proofs.table.checks.first_wrong.Given as goal

abbrev pub invariant-loop-at : goal.invariant-loop-at
invariant-loop-at l = AllFit l.locations (take l.at l.records)
