use Rattle.review.proofs.Judging.{if_ok}
use Rattle.review.proofs.Reporting.{reports}
use Rattle.review.proofs.report.writing.report_text.Goals as goal

pub returns : goal.returns
returns c = if_ok c.in_text.result c.in_text.ensures (λ text stands. reports _ _ _ c.report.ensures stands)
