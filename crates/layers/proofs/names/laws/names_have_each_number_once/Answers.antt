use Rattle.layers.proofs.Setting.{names_have_each_number_once}
use Rattle.layers.proofs.names.laws.names_have_each_number_once.Goals as goal

pub returns : goal.returns
returns c = names_have_each_number_once
