use Rattle.std.proofs.Common.{vec_items, subst}
use Rattle.output.specs.Fronts.{WritesText}
use Rattle.review.specs.Reports.{Reports}
use Rattle.review.proofs.Reporting.{printed, nothing_printed}
use Rattle.review.proofs.report.writing.print_report.Goals as goal

pub returns : goal.returns
returns g c =
    let before = g.W.Write.contents c.args.output.now in
    let written = subst (λ bytes. WritesText before (g.W.Write.contents c.print.new.output) bytes c.print.result) c.deref-2.ensures.value c.print.ensures in
    printed (g.R.Read.remaining c.args.input) (vec_items c.in_ok-file.file) (vec_items c.in_ok-text.text) before _ c.print.result c.in_ok-file.ensures
    (subst (λ bytes. Reports bytes (vec_items c.in_ok-text.text)) c.deref.ensures.value c.in_ok-text.ensures) written

pub returns-in_err-file : goal.returns-in_err-file
returns-in_err-file g c = nothing_printed (g.R.Read.remaining c.args.input) (g.W.Write.contents c.args.output.now) c.from_residual.result c.from_residual.ensures.0

pub returns-in_err-text : goal.returns-in_err-text
returns-in_err-text g c =
    let step = c.from_residual-in_err-text in
    nothing_printed (g.R.Read.remaining c.args.input) (g.W.Write.contents c.args.output.now) step.result step.ensures.0
