use Rattle.std.proofs.Common.{◌≡◌, take, vec_items, subst}
use Rattle.std.specs.Prelude.{IfSome}
use Rattle.review.proofs.Reporting.{read_so}
use Rattle.review.proofs.report.writing.read_file.Goals as goal

pub returns : goal.returns
returns g c =
    let file = vec_items c.read_to_end.new.buf in
    subst (λ r. IfSome (g.R.Read.remaining r) (λ bytes. file ≡ take 32769 bytes)) c.take.ensures.inner
    (read_so (g.R.Read.remaining c.take.result.inner) file _ _ 32769 c.new-file.ensures.items c.take.ensures.limit c.in_ok-read_to_end.ensures.bytes)
