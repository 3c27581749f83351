use Rattle.review.proofs.Scripts.{added}
use Rattle.review.proofs.asking.add.Goals as goal

pub returns : goal.returns
returns g c = added _ _ _ c.add.result c.add.ensures c.requires
