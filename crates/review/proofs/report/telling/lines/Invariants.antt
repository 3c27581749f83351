use Rattle.std.proofs.Common.{◌≡◌, ◌≤◌, length, take, vec_items, vec_capacity}
use Rattle.review.specs.Telling.{AllTell}
use Rattle.review.proofs.report.telling.lines.Given as goal

abbrev pub invariant-loop-place : goal.invariant-loop-place
invariant-loop-place l = record {
  tell : AllTell (take l.place l.pairs) (take l.place l.answers) (vec_items l.lines);
  many : length (vec_items l.lines) ≡ l.place;
  room : length l.pairs ≤ vec_capacity l.lines;
}
