use Rattle.review.proofs.Filling.{moves_more}
use Rattle.review.proofs.lines.putting.put_moves.Goals as goal

pub loop-number-preserved : goal.loop-number-preserved
loop-number-preserved c = λ before text f. moves_more before text _ _ c.args.moves.now c.loop-number.number-index _ c.loop-number-test.true (c.put_move-end.ensures before _ (c.loop-number.invariant before text f))
