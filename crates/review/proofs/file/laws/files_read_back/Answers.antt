use Rattle.review.proofs.OneAnswer.{files_read_back}
use Rattle.review.proofs.file.laws.files_read_back.Goals as goal

pub returns : goal.returns
returns c = files_read_back
