use Rattle.search.proofs.ReplayLaws.{one_answer}
use Rattle.search.proofs.threads.TwoThreads.replay.Goals as goal

pub returns : goal.returns
returns g c = one_answer _ _ _ _ _ _ c.answer.ensures
