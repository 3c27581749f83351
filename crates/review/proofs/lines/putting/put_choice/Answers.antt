use Rattle.std.proofs.Common.{◌∷◌, [], sym}
use Rattle.std.proofs.lemmas.Fmt.{decimal_digit}
use Rattle.review.proofs.Filling.{joined}
use Rattle.review.proofs.lines.putting.put_choice.Goals as goal

pub returns-then-choice-lt10 : goal.returns-then-choice-lt10
returns-then-choice-lt10 c = λ before text f. rw (decimal_digit c.args.choice c.if-choice-lt10.true) (c.put.ensures before text f)

pub returns-else-choice-lt10 : goal.returns-else-choice-lt10
returns-else-choice-lt10 c = λ before text f. joined before _ text (32 ∷ c.args.letter ∷ []) _ _ (rw (sym c.from.ensures) (c.put_number.ensures before _ (c.put-end.ensures before text f)))
