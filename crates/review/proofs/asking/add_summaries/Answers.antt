use Rattle.review.proofs.Scripts.{behind}
use Rattle.review.proofs.asking.add_summaries.Goals as goal

pub returns : goal.returns
returns g c = behind _ _ _ _ _ c.add.ensures c.add-2.ensures
