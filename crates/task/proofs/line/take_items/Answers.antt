use Rattle.std.proofs.Common.{Err, sym, ap, ◌∙◌, refl}
use Rattle.std.proofs.lemmas.Result.{err_from_is_err_and}
use Rattle.task.proofs.Lines.{broke, each_more, each_none, each_full}
use Rattle.task.proofs.line.take_items.Goals as goal

pub returns-in_err-item_of : goal.returns-in_err-item_of
returns-in_err-item_of g c = λ meaning wrong computes.
    let said = computes _ _ record { shown = c.in-Some.word; shows = refl; says = record { met = c.item_of.ensures } } in
    let gone = err_from_is_err_and c.from_residual.result c.from_residual.ensures.1 in
    broke _ _ _ c.in_err-item_of.field-0.0 gone.0 gone.1 gone.2
    (sym (c.loop-word.invariant.2 meaning wrong computes) ∙ each_none meaning wrong c.loop-word.items _ c.in-Some.word.now _ c.in-Some.ensures.steps _ (sym c.in_err-item_of.was ∙ said))

pub loop-word-preserved : goal.loop-word-preserved
loop-word-preserved g c = (
  tt,
  tt,
  λ meaning wrong computes.
      let said = computes _ _ record { shown = c.in-Some.word; shows = refl; says = record { met = c.item_of.ensures } } in
      let pushed = c.in_ok-push.ensures in
      rw pushed.1
      (sym (each_more meaning wrong c.loop-word.items _ c.in-Some.word.now _ c.in-Some.ensures.steps _ (sym c.in_ok-item_of.was ∙ said) pushed.0)
      ∙ c.loop-word.invariant.2 meaning wrong computes),
)

pub returns-in_err-push : goal.returns-in_err-push
returns-in_err-push g c = λ meaning wrong computes.
    let said = computes _ _ record { shown = c.in-Some.word; shows = refl; says = record { met = c.item_of.ensures } } in
    let gone = err_from_is_err_and c.from_residual-in_err-push.result c.from_residual-in_err-push.ensures.1 in
    let full = c.in_err-push.ensures in
    broke _ _ _ c.in_err-push.field-0.0 gone.0 gone.1 gone.2
    (sym (c.loop-word.invariant.2 meaning wrong computes) ∙ each_full meaning wrong c.loop-word.items _ c.in-Some.word.now _ c.in-Some.ensures.steps _ (sym c.in_ok-item_of.was ∙ said) full.0 ∙ ap Err (sym full.1))
