use Rattle.std.proofs.Common.{take}
use Rattle.locks.specs.Schedules.{Runs, from_starts}
use Rattle.search.proofs.threads.TwoThreads.make_moves.Given as goal

-- the moves so far lead here
abbrev pub invariant-loop-place : goal.invariant-loop-place
invariant-loop-place g l =
    Runs l.self.left l.self.right (from_starts l.self.left l.self.right) (take l.place-counter l.moves) l.reached
