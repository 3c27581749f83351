use Rattle.task.proofs.Back.{written_reads_back}
use Rattle.task.proofs.Properly.{read_is_proper}
use Rattle.task.proofs.laws.written_tasks_read_back.Goals as goal

pub returns : goal.returns
returns c = record { law = written_reads_back; proper = read_is_proper }
