use Rattle.review.proofs.lines.writing.put_reached.Goals as goal

pub returns : goal.returns
returns c =
    let before = c.args.space.now in
    let first = c.put-end.ensures before _ c.put_pair-end.ensures in
    let second = c.put_number-end.ensures before _ first in
    let third = c.put-end-2.ensures before _ second in
    c.put_moves.ensures before _ third
