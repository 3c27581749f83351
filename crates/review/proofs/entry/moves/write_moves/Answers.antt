use Rattle.std.proofs.Common.{◌≡◌, ◌/◌, ◌%◌, get_or, ap, ◌∙◌, arith}
use Rattle.std.proofs.lemmas.List.{length-set}
use Rattle.review.proofs.Moves.{move_more}
use Rattle.review.proofs.entry.moves.write_moves.Goals as goal

pub loop-place-preserved : goal.loop-place-preserved
loop-place-preserved c =
    let moves = c.args.moves.now in
    let run = c.loop-place.run in
    let i = c.loop-place.place in
    let small = c.type_inv.moves i in
    let high : get_or c.to_be_bytes.result 0 0 ≡ get_or moves i 0 / 256 = ap (λ xs. get_or xs 0 0) c.to_be_bytes.ensures ∙ (let q : get_or moves i 0 / 256 % 256 ≡ get_or moves i 0 / 256 = omega (arith, small) in q) in
    let low : get_or c.to_be_bytes.result 1 0 ≡ get_or moves i 0 % 256 = ap (λ xs. get_or xs 1 0) c.to_be_bytes.ensures in
    record {
      written = move_more c.args.run.now run moves i 0 _ _ high low c.loop-place-test.true c.requires c.loop-place.invariant.written;
      long = length-set _ _ _ ∙ length-set _ _ _ ∙ c.loop-place.invariant.long;
    }
