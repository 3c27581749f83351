use Rattle.std.proofs.Common.{take, string_bytes}
use Rattle.locks.specs.Schedules.{Runs, from_starts}
use Rattle.transcript.specs.Lines.{Adds}
use Rattle.transcript.proofs.TraceLaws.{FirstLines}
use Rattle.transcript.proofs.trace.write_trace.Given as goal

-- the moves so far lead here, and their lines are written
abbrev pub invariant-loop-number : goal.invariant-loop-number
invariant-loop-number g l = record {
  reached : Runs l.threads.left l.threads.right (from_starts l.threads.left l.threads.right) (take l.number-index l.moves) l.reached;
  written : Adds (FirstLines l.threads.left l.threads.right l.moves l.number-index) (string_bytes l.initial.written) (string_bytes l.written);
}
