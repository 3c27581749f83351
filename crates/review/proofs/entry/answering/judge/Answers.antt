use Rattle.std.proofs.Common.{[], length, ap, refl, subst, ◌∙◌, min, vec_items}
use Rattle.std.proofs.lemmas.List.{length-take}
use Rattle.runs.specs.Scripts.{written}
use Rattle.review.specs.SinglePair.{Ran}
use Rattle.review.proofs.Entering.{ran_says}
use Rattle.review.proofs.Scripts.{begun, asked_more}
use Rattle.review.proofs.entry.answering.judge.Goals as goal

pub returns : goal.returns
returns c =
    let room = c.args.room in
    let lent = vec_items c.truncate.new.self in
    let summarising = written c.add_summaries.new.script in
    let asking = written c.add_ask.new.script in
    let places = ap length c.truncate.ensures.items ∙ length-take _ _ ∙ ap (min _) room.every_move in
    let script = asked_more _ _ summarising asking [] c.args.pair _ lent c.add_ask.ensures refl (begun _ _ (written room.script) summarising lent room.no_calls c.add_summaries.ensures) in
    ran_says _ _ _ _ _ c.run-ran.result c.run-ran.ensures.right c.args.pair c.args.moves.now lent places script c.tell.result c.tell.new.moves
    (subst (λ zs. Ran zs c.args.moves.now c.tell.result c.tell.new.moves) c.deref.ensures.value c.tell.ensures)
