use Rattle.std.proofs.Common.{◌+◌, length, take, get_or, vec_items, sym, ap, subst, ◌∙◌, arith}
use Rattle.std.proofs.lemmas.List.{take_all, length_push}
use Rattle.search.specs.declared.threads.Pair.{Pair}
use Rattle.review.specs.Telling.{Tells, AllTell}
use Rattle.review.proofs.Telling.{tell_more}
use Rattle.review.proofs.report.telling.lines.Goals as goal

pub loop-place-preserved : goal.loop-place-preserved
loop-place-preserved c =
    let pairs = c.args.pairs.now in
    let answers = c.args.answers.now in
    let before = vec_items c.loop-place.lines in
    let so_far = c.loop-place.invariant in
    let answer = c.index-answers-place.result in
    let pushed = c.push_reserved.ensures.items in
    let pair : Pair = record { left = 0; right = 0 } in
    let tells : Tells (get_or pairs c.loop-place.place pair) (get_or answers c.loop-place.place answer) c.line_of.result =
    subst (λ z. Tells (get_or pairs c.loop-place.place pair) z c.line_of.result) c.index-answers-place.is c.line_of.ensures in
    record {
      tell = subst (AllTell (take (c.loop-place.place + 1) pairs) (take (c.loop-place.place + 1) answers)) (sym pushed)
          (tell_more pairs answers before c.loop-place.place pair answer c.line_of.result c.requires c.loop-place-test.true tells so_far.tell);
      many = ap length pushed ∙ length_push before c.line_of.result ∙ ap (λ n. n + 1) so_far.many;
      room = omega (arith, c.push_reserved.ensures.capacity, so_far.room);
    }

pub returns : goal.returns
returns c =
    let past = c.loop-place-test.false in
    let pairs = c.args.pairs.now in
    let answers = c.args.answers.now in
    let place = c.loop-place.place in
    let lines = vec_items c.loop-place.lines in
    record {
      tell =
          subst (λ ps. AllTell ps answers lines) (take_all place pairs past)
          (subst (λ zs. AllTell (take place pairs) zs lines) (take_all place answers (omega (arith, c.requires))) c.loop-place.invariant.tell);
      len = let many = c.loop-place.invariant.many in let within = c.loop-place.auto in omega arith;
    }
