use Rattle.std.proofs.Common.{◌≡◌, ◌∷◌, length, ap, sym, arith, false-eqb, refl, ◌∙◌}
use Rattle.task.specs.Remaining.{lines_left}
use Rattle.task.specs.Pieces.{lines}
use Rattle.task.proofs.Pieced.{lines_first}
use Rattle.task.proofs.pieces.LinesIterator.next.Goals as goal
use Rattle.task.proofs.pieces.LinesIterator.next.Goals.{After-unwrap_or-self}

first : (c : After-unwrap_or-self) → lines_left c.args.self.now ≡ c.cut.result.0.now ∷ lines c.unwrap_or-self.result.now
first c =
    lines_first c.args.self.now.rest.now _ c.cut.result.1 _ refl (omega (arith, false-eqb _ 0 c.if-is_empty.ensures)) c.cut.ensures.first c.cut.ensures.whole ∙ ap (λ r. c.cut.result.0.now ∷ lines r.now) (sym c.unwrap_or-self.ensures)

pub returns-clause-steps : goal.returns-clause-steps
returns-clause-steps c = first (goal.at.returns-clause-steps c).After-unwrap_or-self

pub returns-clause-goes : goal.returns-clause-goes
returns-clause-goes c = record { on = λ _. (tt, tt, omega (arith, ap length (first (goal.at.returns-clause-goes c).After-unwrap_or-self))); keeps = tt; rests = λ _. tt }
