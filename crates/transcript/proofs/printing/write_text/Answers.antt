use Rattle.std.proofs.Common.{sym, ◌∙◌}
use Rattle.std.proofs.lemmas.Result.{on_ok_weaker}
use Rattle.transcript.proofs.TextLaws.{text_read, text_refused}
use Rattle.transcript.proofs.printing.write_text.Goals as goal

pub returns-in-Ok : goal.returns-in-Ok
returns-in-Ok c =
    on_ok_weaker c.write_task.result (λ a. text_read c.args.text.now _ _ _ _ (sym c.in-Ok.is ∙ c.read.ensures.answer) c.read.ensures.place a) c.write_task.ensures

pub returns : goal.returns
returns c =
    on_ok_weaker c.writeln.result (λ line. text_refused c.args.text.now _ _ c.in-Err.fault (sym c.in-Err.is ∙ c.read.ensures.answer) line) c.writeln.ensures.bytes
