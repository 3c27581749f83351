use Rattle.std.proofs.Common.{◌≡◌, ◌∷◌, length, ap, ◌∙◌, arith}
use Rattle.task.specs.Remaining.{words_of, words_left}
use Rattle.task.proofs.Pieced.{words_first}
use Rattle.task.proofs.pieces.WordsIterator.next.Goals as goal
use Rattle.task.proofs.pieces.WordsIterator.next.Goals.{After-cut}

first : (c : After-cut) → words_left c.args.self.now ≡ c.cut.result.0.now ∷ words_of c.cut.result.1
first c = ap words_of c.in_ok-self.was ∙ words_first c.in_ok-self.field-0.now _ c.cut.result.1 c.cut.ensures.first c.cut.ensures.whole

pub returns-clause-steps : goal.returns-clause-steps
returns-clause-steps c = first (goal.at.returns-clause-steps c).After-cut

pub returns-clause-goes : goal.returns-clause-goes
returns-clause-goes c = record { on = λ _. (tt, tt, omega (arith, ap length (first (goal.at.returns-clause-goes c).After-cut))); keeps = tt; rests = λ _. tt }
