use Rattle.std.proofs.Common.{refl}
use Rattle.std.proofs.lemmas.Result.{on_ok_weaker}
use Rattle.transcript.specs.Lines.{pair_line}
use Rattle.transcript.specs.Verdicts.{moves_of}
use Rattle.transcript.proofs.VerdictLaws.{asked_says}
use Rattle.transcript.proofs.verdict.write_asked.Goals as goal

pub returns : goal.returns
returns g c =
    let p = c.args.pair in
    let answer = c.ask-answer.result in
    let moves = moves_of answer c.ask-answer.new.list in
    let says = asked_says _ _ _ _ p _ answer _ c.requires.left c.requires.right c.requires.room c.ask-answer.ensures in
    on_ok_weaker c.write_answer.result (λ e. (pair_line p answer moves, e, (answer, moves, says, refl))) c.write_answer.ensures
