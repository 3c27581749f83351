use Rattle.layers.proofs.Renaming.{renaming_changes_locks_alone}
use Rattle.layers.proofs.renamed.laws.renaming_changes_locks_alone.Goals as goal

pub returns : goal.returns
returns c = renaming_changes_locks_alone
