use Rattle.std.proofs.Common.{Ok, sym, subst}
use Rattle.std.proofs.lemmas.Result.{err_from_is_err_and}
use Rattle.review.specs.Reviews.{FileRead, content_of, review_of}
use Rattle.review.proofs.OneAnswer.{read_whole, read_refused}
use Rattle.review.proofs.file.review.Review.read.Goals as goal

pub returns-in_err-fill : goal.returns-in_err-fill
returns-in_err-fill c =
    let p = err_from_is_err_and c.from_residual.result c.from_residual.ensures.1 in
    rw (p.1, p.2) (read_refused c.args.file.now (review_of c.args.self.now) c.in_err-fill.field-0.0 c.in_err-fill.ensures)

pub returns : goal.returns
returns c =
    subst (λ shown. FileRead c.args.file.now (review_of c.args.self.now) (Ok tt) (content_of shown)) (sym c.swap.ensures.x_after)
    (read_whole c.args.file.now (review_of c.args.self.now) (content_of c.fill.new.self) c.in_ok-fill.ensures)
