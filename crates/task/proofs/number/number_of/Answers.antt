use Rattle.std.proofs.Common.{◌≡◌, arith, false-eqb, rules}
use Rattle.task.proofs.Digits.{number_folded}
use Rattle.task.proofs.number.number_of.Goals as goal

pub returns : goal.returns
returns c =
    let rest : c.iter.result.rest.now ≡ c.args.word.now = cc c.iter.ensures.rest in
    number_folded _ c.args.limit c.ranges.limit.fits _ _ _ (λ n x v f' k. search rules) c.iter.result c.try_fold.new.self c.args.word.now rest (omega (arith, false-eqb _ 0 c.if-is_empty.ensures)) c.try_fold.ensures.ran
