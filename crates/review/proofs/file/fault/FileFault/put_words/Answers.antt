use Rattle.review.proofs.Filling.{nothing}
use Rattle.review.proofs.file.fault.FileFault.put_words.Goals as goal

pub returns-in-EndsEarly : goal.returns-in-EndsEarly
returns-in-EndsEarly c = rw c.in-EndsEarly.is (c.put.ensures c.args.space.now _ (nothing c.args.space.now))

pub returns-in-NotAllowed : goal.returns-in-NotAllowed
returns-in-NotAllowed c = rw c.in-NotAllowed.is (c.put-in-NotAllowed.ensures c.args.space.now _ (nothing c.args.space.now))
