use Rattle.task.proofs.Judged.{reasons}
use Rattle.task.proofs.laws.faults_have_their_reasons.Goals as goal

pub returns : goal.returns
returns c = reasons
