use Rattle.review.proofs.Filling.{nothing}
use Rattle.review.proofs.file.words.put_byte.Goals as goal

pub returns : goal.returns
returns c =
    let before = c.args.space.now in
    let first = c.put-end.ensures before _ (nothing before) in
    let second = rw (c.hex_digit.ensures, c.hex_digit-2.ensures) at (c.put-end-2.ensures before _ first) in
    c.put.ensures before _ second
