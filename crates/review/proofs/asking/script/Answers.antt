use Rattle.std.proofs.Common.{◌≡◌, ℕ, ◌+◌, length, map, take, get_or, replicate, vec_items, sym, ap, subst, ◌∙◌, arith}
use Rattle.std.proofs.lemmas.List.{take_all, take_more, length_push}
use Rattle.runs.specs.declared.calls.Call.TheVariants as code
use Rattle.runs.specs.Calls.{ask, call_meaning}
use Rattle.runs.specs.Scripts.{written}
use Rattle.search.specs.declared.threads.Pair.{Pair}
use Rattle.review.specs.Asking.{question_of, review_calls, ScriptSays}
use Rattle.review.proofs.Scripts.{asked_more}
use Rattle.review.proofs.asking.script.Goals as goal

pub loop-pair-preserved : goal.loop-pair-preserved
loop-pair-preserved g c =
    let so_far = c.loop-pair.invariant in
    let pairs = c.args.pairs.now in
    let i = c.loop-pair.pair-index in
    let none : Pair = record { left = 0; right = 0 } in
    let pair = get_or pairs i none in
    let old = written c.loop-pair.script in
    let new = written c.add_ask.new.script in
    let zeros = replicate {A = ℕ} c.args.places 0 in
    let blank : vec_items c.in_ok-list.list ≡ zeros = c.in_ok-list.ensures.items_if_clones_equal (λ y e. e) in
    let call = code.Ask (question_of pair) c.in_ok-list.list in
    let is = c.add_ask.ensures in
    let many = so_far.many in
    record {
      says = λ f h.
          subst (λ ps. map (call_meaning f h) new.calls ≡ review_calls ps zeros) (sym (take_more pairs i none c.loop-pair-test.true))
          (asked_more f h old new (take i pairs) pair call zeros is (ap (ask (question_of pair)) blank) (so_far.says f h));
      many = ap (λ s. length s.calls) is ∙ length_push old.calls call ∙ (let r : length old.calls + 1 ≡ i + 1 + 2 = omega arith in r);
      most = ap (λ s. s.most) is ∙ so_far.most;
    }

pub returns : goal.returns
returns g c = subst (λ ps. ScriptSays c.loop-pair.script ps (replicate c.args.places 0)) (take_all _ _ c.loop-pair-test.false) c.loop-pair.invariant.says
