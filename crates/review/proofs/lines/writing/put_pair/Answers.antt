use Rattle.std.proofs.Common.{sym}
use Rattle.review.proofs.Filling.{nothing}
use Rattle.review.proofs.lines.writing.put_pair.Goals as goal

pub returns : goal.returns
returns c =
    let before = c.args.space.now in
    let first = c.put_number-end.ensures before _ (nothing before) in
    let second = c.put-end.ensures before _ first in
    let third = c.put_number-end-2.ensures before _ second in
    rw (sym c.from.ensures, sym c.from-2.ensures) (c.put.ensures before _ third)
