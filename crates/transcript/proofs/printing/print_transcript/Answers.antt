use Rattle.transcript.proofs.TextLaws.{printed, nothing_printed}
use Rattle.transcript.proofs.printing.print_transcript.Goals as goal

pub returns : goal.returns
returns g c =
    let read = c.in_ok-read_to_end.ensures.bytes in
    printed (g.R.Read.remaining c.args.input) _ _ _ _ _ _ _ c.print.result c.new-text.ensures.items read c.as_slice.ensures.value c.in_ok-written.ensures c.as_bytes.ensures.value c.print.ensures

pub returns-in_err-read_to_end : goal.returns-in_err-read_to_end
returns-in_err-read_to_end g c = nothing_printed (g.R.Read.remaining c.args.input) (g.W.Write.contents c.args.output.now) c.from_residual.result c.from_residual.ensures.0

pub returns-in_err-written : goal.returns-in_err-written
returns-in_err-written g c =
    let step = c.from_residual-in_err-written in
    nothing_printed (g.R.Read.remaining c.args.input) (g.W.Write.contents c.args.output.now) step.result step.ensures.0
