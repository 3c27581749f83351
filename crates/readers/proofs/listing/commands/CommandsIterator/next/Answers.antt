use Rattle.std.proofs.Common.{◌<◌, [], ◌∷◌, length, Err, sym, ap, ◌∙◌, arith, false-eqb, true-eqb}
use Rattle.std.proofs.lemmas.List.{nil_from_length}
use Rattle.readers.specs.Items.{items_from}
use Rattle.readers.proofs.Items.{items_more, items_wrong}
use Rattle.readers.proofs.listing.commands.CommandsIterator.next.Goals as goal

pub returns-then-is_empty-clause-steps : goal.returns-then-is_empty-clause-steps
returns-then-is_empty-clause-steps c =
    let none = ap (items_from 0 c.args.self.now.at) (nil_from_length c.args.self.now.rest.now (true-eqb _ 0 c.if-is_empty.ensures)) in
    (none, none)

pub returns-in-Ok-clause-steps : goal.returns-in-Ok-clause-steps
returns-in-Ok-clause-steps c = items_more _ _ _ _ c.in-Ok.ensures.0 c.in-Ok.ensures.1

pub returns-in-Ok-clause-goes : goal.returns-in-Ok-clause-goes
returns-in-Ok-clause-goes c =
    let fewer = ap length (items_more c.args.self.now.at _ _ _ c.in-Ok.ensures.0 c.in-Ok.ensures.1) in
    record { on = λ _. (tt, tt, omega (arith, fewer)); keeps = tt; rests = λ _. tt }

pub returns-in-Err : goal.returns-in-Err
returns-in-Err c =
    let some : 0 < length c.args.self.now.rest.now = omega (arith, false-eqb _ 0 c.if-is_empty.ensures) in
    let last = items_wrong c.args.self.now.at _ _ some c.in-Err.ensures in
    let steps = last ∙ ap (λ f. (c.args.self.now.at, Err f) ∷ []) (sym c.at.ensures) in
    record { steps = steps; goes = record { on = λ _. (tt, tt, omega (arith, ap length last)); keeps = tt; rests = λ _. tt } }
