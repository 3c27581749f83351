use Rattle.std.proofs.Common.{◌+◌, length, vec_items, ap, ◌∙◌, arith}
use Rattle.std.proofs.lemmas.List.{length_push}
use Rattle.review.proofs.Picking.{pick_next}
use Rattle.review.proofs.report.telling.picked.Goals as goal

pub loop-place-preserved : goal.loop-place-preserved
loop-place-preserved c =
    let before = vec_items c.loop-place.picked in
    let so_far = c.loop-place.invariant in
    let pushed = c.push_reserved.ensures.items in
    record {
      picks = pick_next c.args.lines.now c.args.places.now before _ c.loop-place.place-index _ c.loop-place-test.true c.requires pushed so_far.picks;
      many = ap length pushed ∙ length_push before _ ∙ ap (λ n. n + 1) so_far.many;
      room = omega (arith, c.push_reserved.ensures.capacity, so_far.room);
    }
