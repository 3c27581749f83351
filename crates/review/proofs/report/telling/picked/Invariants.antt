use Rattle.std.proofs.Common.{◌≡◌, ◌≤◌, length, take, vec_items, vec_capacity}
use Rattle.review.specs.Picking.{Picks}
use Rattle.review.proofs.report.telling.picked.Given as goal

abbrev pub invariant-loop-place : goal.invariant-loop-place
invariant-loop-place l = record {
  picks : Picks l.lines (take l.place-index l.places) (vec_items l.picked);
  many : length (vec_items l.picked) ≡ l.place-index;
  room : length l.places ≤ vec_capacity l.picked;
}
