use Rattle.worked_threads.proofs.Worked.{worked_threads_come_out_lem}
use Rattle.worked_threads.proofs.worked_threads_come_out.Goals as goal

pub returns : goal.returns
returns c = worked_threads_come_out_lem
