use Rattle.review.proofs.Filling.{moved_left, moved_right}
use Rattle.review.proofs.lines.putting.put_move.Goals as goal

pub returns-then-number-lt-FIRST_RIGHT : goal.returns-then-number-lt-FIRST_RIGHT
returns-then-number-lt-FIRST_RIGHT c = λ before text f. moved_left before text _ _ c.args.number c.if-number-lt-FIRST_RIGHT.true (c.put_choice.ensures before text f)

pub returns-else-number-lt-FIRST_RIGHT : goal.returns-else-number-lt-FIRST_RIGHT
returns-else-number-lt-FIRST_RIGHT c = λ before text f. moved_right before text _ _ c.args.number c.if-number-lt-FIRST_RIGHT.false (c.put_choice-else-number-lt-FIRST_RIGHT.ensures before text f)
