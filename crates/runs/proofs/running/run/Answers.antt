use Rattle.runs.proofs.PointLaws.{in_force_is_the_last_exchange}
use Rattle.runs.proofs.SameLaws.{same_states_same_answers}
use Rattle.runs.proofs.running.run.Goals as goal

-- src/running.rt:23:1
pub returns-clause-same : goal.returns-clause-same
returns-clause-same g c = same_states_same_answers

-- src/running.rt:23:1
pub returns-clause-in_force : goal.returns-clause-in_force
returns-clause-in_force g c = in_force_is_the_last_exchange
