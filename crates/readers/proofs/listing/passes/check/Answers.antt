use Rattle.std.proofs.Common.{◌<◌, length, sym, ap, ◌∙◌, arith, false-eqb}
use Rattle.std.proofs.lemmas.Result.{err_from_is_err_and}
use Rattle.readers.specs.Reading.{run}
use Rattle.readers.proofs.Checks.{then_flow, refusal_by_count}
use Rattle.readers.proofs.listing.passes.check.Goals as goal

pub returns-in_err-count : goal.returns-in_err-count
returns-in_err-count c =
    let some : 0 < length c.args.bytes.now = omega (arith, false-eqb _ 0 c.if-is_empty.ensures) in
    let p = err_from_is_err_and c.from_residual.result c.from_residual.ensures.1 in
    rw (p.1, p.2) (ap (then_flow (run 0 c.args.bytes.now)) c.in_err-count.ensures ∙ sym (refusal_by_count _ some))

pub returns : goal.returns
returns c =
    let some : 0 < length c.args.bytes.now = omega (arith, false-eqb _ 0 c.if-is_empty.ensures) in
    c.check_flow.ensures ∙ ap (then_flow (run 0 c.args.bytes.now)) c.in_ok-count.ensures ∙ sym (refusal_by_count _ some)
