use Rattle.std.proofs.Common.{◌≡◌, ◌*◌, ◌++◌, length, take, drop}
use Rattle.review.specs.SinglePair.{moves_bytes}
use Rattle.review.proofs.entry.moves.write_moves.Given as goal

abbrev pub invariant-loop-place : goal.invariant-loop-place
invariant-loop-place l = record {
  written : l.run ≡ moves_bytes (take l.place l.moves) ++ drop (2 * l.place) l.initial.run;
  long : length l.run ≡ length l.initial.run;
}
