use Rattle.std.proofs.Common.{◌+◌, ◌∷◌, [], ◌++◌, length, take, get_or, vec_items, sym, ap, subst, ◌∙◌, arith}
use Rattle.std.proofs.lemmas.List.{take_more, length_push}
use Rattle.search.specs.declared.threads.Pair.{Pair}
use Rattle.review.specs.Picking.{Picks}
use Rattle.review.proofs.Picking.{pick_more, kept_picks, kept_length}
use Rattle.review.proofs.report.asks.Asks.of.Goals as goal

pub loop-pair-preserved : goal.loop-pair-preserved
loop-pair-preserved c =
    let pairs = c.args.pairs.now in
    let i = c.loop-pair.pair-index in
    let old = vec_items c.loop-pair.asked in
    let new = vec_items c.place_of.new.asked in
    let places = vec_items c.loop-pair.places in
    let so_far = c.loop-pair.invariant in
    let pushed = c.push_reserved.ensures.items in
    let none : Pair = record { left = 0; right = 0 } in
    let pair = get_or pairs i none in
    let found = c.place_of.ensures.found in
    let longer = kept_length old new pair c.place_of.ensures.kept in
    let few = so_far.few in
    let more = pick_more new places (take i pairs) c.place_of.result pair found (kept_picks old new pair places (take i pairs) c.place_of.ensures.kept so_far.picks) in
    record {
      picks = subst (λ ns. Picks new ns (take (i + 1) pairs)) (sym pushed) (subst (Picks new (places ++ c.place_of.result ∷ [])) (sym (take_more pairs i none c.loop-pair-test.true)) more);
      few = omega arith;
      many = ap length pushed ∙ length_push places _ ∙ ap (λ n. n + 1) so_far.many;
      room = omega (arith, c.place_of.ensures.capacity, so_far.room);
      space = omega (arith, c.push_reserved.ensures.capacity, so_far.space);
    }
