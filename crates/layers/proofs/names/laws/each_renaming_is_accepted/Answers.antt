use Rattle.layers.proofs.Setting.{each_renaming_is_accepted}
use Rattle.layers.proofs.names.laws.each_renaming_is_accepted.Goals as goal

pub returns : goal.returns
returns c = each_renaming_is_accepted
