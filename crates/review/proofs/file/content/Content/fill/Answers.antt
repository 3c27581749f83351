use Rattle.std.proofs.Common.{Ok, subst}
use Rattle.std.proofs.lemmas.Result.{err_from_is_err_and}
use Rattle.review.specs.Readers.{standing, HandsOut}
use Rattle.review.specs.Reviews.{content_of}
use Rattle.review.proofs.Reading.{goes_on, faulty}
use Rattle.review.proofs.file.content.Content.fill.Goals as goal

pub loop-section-preserved : goal.loop-section-preserved
loop-section-preserved c =
    goes_on c.args.file.now (standing c.loop-section.reader) (standing c.next_section.new.self) (content_of c.loop-section.self) (content_of c.enter.new.self) c.in-Some.section c.loop-section.invariant
    (subst (λ o. HandsOut (standing c.loop-section.reader) (Ok o) (standing c.next_section.new.self)) c.in-Some.is c.in_ok-section.ensures)
    c.in_ok-enter.ensures

pub returns-in_err-enter : goal.returns-in_err-enter
returns-in_err-enter c =
    let p = err_from_is_err_and c.from_residual-in_err-enter.result c.from_residual-in_err-enter.ensures.1 in
    rw (p.1, p.2)
    (faulty c.args.file.now (standing c.loop-section.reader) (standing c.next_section.new.self) (content_of c.loop-section.self) (content_of c.enter.new.self) c.in-Some.section c.in_err-enter.field-0.0 c.loop-section.invariant
    (subst (λ o. HandsOut (standing c.loop-section.reader) (Ok o) (standing c.next_section.new.self)) c.in-Some.is c.in_ok-section.ensures)
    c.in_err-enter.ensures)
