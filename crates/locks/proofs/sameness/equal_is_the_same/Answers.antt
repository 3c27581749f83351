use Rattle.locks.proofs.Comparing.{locks_same, states_same}
use Rattle.locks.proofs.sameness.equal_is_the_same.Goals as goal

pub returns-clause-locks : goal.returns-clause-locks
returns-clause-locks c = locks_same

pub returns-clause-states : goal.returns-clause-states
returns-clause-states c = states_same
