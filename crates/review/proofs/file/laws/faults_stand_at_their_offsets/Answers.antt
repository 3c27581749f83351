use Rattle.review.proofs.Offsets.{faults_stand_at_their_offsets}
use Rattle.review.proofs.file.laws.faults_stand_at_their_offsets.Goals as goal

pub returns : goal.returns
returns c = faults_stand_at_their_offsets
