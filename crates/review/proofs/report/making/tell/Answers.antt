use Rattle.std.proofs.Common.{◌<◌, drop, length, inr, vec_items, Ok, ap, subst, sym, ◌∙◌}
use Rattle.std.specs.List.{All}
use Rattle.review.specs.Telling.{AllTell, lines_text}
use Rattle.review.specs.Picking.{Picks}
use Rattle.review.proofs.Judging.{part_behind}
use Rattle.review.proofs.report.making.tell.Goals as goal

pub picked-requires : goal.picked-requires
picked-requires c =
    let as_many = ap length c.deref-2.ensures.value ∙ c.in_ok-lines.ensures.len ∙ ap length c.deref.ensures.value in
    subst (All (λ n. n < length c.deref-2.result.now)) (sym c.deref-3.ensures.value) (subst (λ k. All (λ n. n < k) c.args.asks.now.places.items) (sym as_many) c.requires.within)

pub returns : goal.returns
returns c =
    let lines = vec_items c.in_ok-lines.lines in
    let picked = vec_items c.in_ok-picked.field-0 in
    let told = subst (λ ps. AllTell ps (drop 2 c.args.answers.now) lines) c.deref.ensures.value (subst (λ zs. AllTell c.deref.result.now zs lines) (part_behind c.args.answers.now) c.in_ok-lines.ensures.tell) in
    let picks = subst (λ ls. Picks ls c.args.asks.now.places.items picked) c.deref-2.ensures.value (subst (λ ns. Picks c.deref-2.result.now ns picked) c.deref-3.ensures.value c.in_ok-picked.ensures) in
    inr (inr (inr (c.in_default.ensures, c.in_default-summary.ensures, (lines, picked, told, picks, ap (λ x. Ok x) (c.in_ok-text.ensures ∙ ap lines_text c.deref-4.ensures.value)))))
