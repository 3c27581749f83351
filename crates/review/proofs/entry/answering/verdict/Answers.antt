use Rattle.std.proofs.Common.{Err, refl, ap, ◌∙◌, inl, inr}
use Rattle.std.proofs.lemmas.Result.{err_from_is_err_and}
use Rattle.review.proofs.entry.answering.verdict.Goals as goal

pub returns-in_err-read : goal.returns-in_err-read
returns-in_err-read c =
    let told = err_from_is_err_and c.from_residual.result c.from_residual.ensures.1 in
    inl (_, c.in_err-read.ensures.reads.says, told.1 ∙ ap (λ r. Err r) told.2, refl)

pub returns-in_err-read-2 : goal.returns-in_err-read-2
returns-in_err-read-2 c =
    let told = err_from_is_err_and c.from_residual-in_err-read-2.result c.from_residual-in_err-read-2.ensures.1 in
    inr (inl (_, _, c.in_ok-read.ensures.reads.says, c.in_err-read-2.ensures.reads.says, told.1 ∙ ap (λ r. Err r) told.2, refl))

pub returns : goal.returns
returns c = inr (inr (_, _, c.in_ok-read.ensures.reads.says, c.in_ok-read-2.ensures.reads.says, c.judge.ensures))
