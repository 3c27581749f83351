use Rattle.std.proofs.Common.{length, refl}
use Rattle.std.proofs.lemmas.Result.{on_ok_weaker}
use Rattle.search.specs.declared.threads.Pair.{Pair}
use Rattle.task.specs.Places.{task_of}
use Rattle.transcript.proofs.TaskLaws.{OfTask, played}
use Rattle.transcript.proofs.threads.write_played.Goals as goal

pub returns : goal.returns
returns g c =
    let t = task_of c.args.task.now in
    let p : Pair = record { left = c.left_location.result; right = c.right_location.result } in
    let left = c.left_location.ensures in
    let right = c.right_location.ensures in
    let of : OfTask t p c.moves-moves.result.now (length c.moves-moves.result.now) = record { pair = cc; schedule = c.moves-moves.ensures.value; long = refl } in
    on_ok_weaker c.write_verdict.result
    (λ verdict. played _ _ t p _ _ _ _ _ _ c.replay.result of c.in_ok-write_trace.ensures c.replay.ensures c.in_ok-write_ending.ensures verdict)
    c.write_verdict.ensures
