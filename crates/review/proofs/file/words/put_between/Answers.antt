use Rattle.review.proofs.Filling.{nothing}
use Rattle.review.proofs.file.words.put_between.Goals as goal

pub returns : goal.returns
returns c =
    let before = c.args.space.now in
    let first = c.put-end.ensures before _ (nothing before) in
    let second = c.put_number-end.ensures before _ first in
    c.put.ensures before _ second
