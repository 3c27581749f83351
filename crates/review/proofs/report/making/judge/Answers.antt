use Rattle.std.proofs.Common.{ℕ, length, replicate, vec_items, ap, subst, ◌∙◌}
use Rattle.std.proofs.lemmas.List.{length-replicate}
use Rattle.review.specs.Asking.{review_calls}
use Rattle.review.specs.Telling.{Told}
use Rattle.review.specs.Picking.{Picks}
use Rattle.review.specs.Reports.{left_graph, right_graph, as_text, ReviewAnswers}
use Rattle.review.proofs.Judging.{as_many, told_answers, memory_or}
use Rattle.review.proofs.Picking.{places_within}
use Rattle.review.proofs.report.making.judge.Goals as goal

pub tell-requires : goal.tell-requires
tell-requires c =
    let asked = vec_items c.in_ok-asks.asks.pairs in
    let lent = replicate {A = ℕ} c.most_moves.result 0 in
    let script = c.in_ok-script.ensures _ _ ∙ ap (λ ps. review_calls ps lent) c.deref-2.ensures.value in
    record {
      as_many = ap length c.deref-3.ensures.value ∙ as_many _ _ _ _ _ c.run-ran.result c.run-ran.ensures.right asked lent script;
      within = places_within asked (vec_items c.in_ok-asks.asks.places) c.deref.result.now c.in_ok-asks.ensures;
    }

pub returns : goal.returns
returns c =
    let pairs = vec_items c.into_parts-left.result.2 in
    let asked = vec_items c.in_ok-asks.asks.pairs in
    let places = vec_items c.in_ok-asks.asks.places in
    let answers = vec_items c.run-ran.result.answers in
    let lent = replicate {A = ℕ} c.most_moves.result 0 in
    let script = c.in_ok-script.ensures _ _ ∙ ap (λ ps. review_calls ps lent) c.deref-2.ensures.value in
    let long = length-replicate {A = ℕ} c.most_moves.result 0 ∙ c.most_moves.ensures.value in
    let picks = subst (Picks asked places) c.deref.ensures.value c.in_ok-asks.ensures in
    let r = as_text vec_items c.tell.result in
    memory_or r c.tell.ensures (λ told.
    subst (λ m. ReviewAnswers (left_graph m) (right_graph m) m.pairs r) c.into_parts-left.ensures
    (told_answers _ _ _ _ _ c.run-ran.result c.run-ran.ensures.right asked lent long script pairs places picks r
    (subst (λ zs. Told asked places zs r) c.deref-3.ensures.value told)))
