use Rattle.review.proofs.WorkedFiles.{worked_files_are_refused}
use Rattle.review.proofs.file.laws.worked_files_are_refused.Goals as goal

pub returns : goal.returns
returns c = worked_files_are_refused
