use Rattle.task.proofs.Judged.{accepted}
use Rattle.task.proofs.laws.accepted_texts_say_their_tasks.Goals as goal

pub returns : goal.returns
returns c = accepted
