use Rattle.review.proofs.Filling.{moves_are_told}
use Rattle.review.proofs.lines.laws.moves_are_told.Goals as goal

pub returns : goal.returns
returns c = moves_are_told
