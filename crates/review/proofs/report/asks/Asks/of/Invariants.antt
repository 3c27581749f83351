use Rattle.std.proofs.Common.{◌≡◌, ◌≤◌, length, take, vec_items, vec_capacity}
use Rattle.review.specs.Picking.{Picks}
use Rattle.review.proofs.report.asks.Asks.of.Given as goal

abbrev pub invariant-loop-pair : goal.invariant-loop-pair
invariant-loop-pair l = record {
  picks : Picks (vec_items l.asked) (vec_items l.places) (take l.pair-index l.pairs);
  few : length (vec_items l.asked) ≤ l.pair-index;
  many : length (vec_items l.places) ≡ l.pair-index;
  room : length l.pairs ≤ vec_capacity l.asked;
  space : length l.pairs ≤ vec_capacity l.places;
}
