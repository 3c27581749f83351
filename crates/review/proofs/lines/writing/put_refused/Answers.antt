use Rattle.std.proofs.Common.{sym, ◌∙◌}
use Rattle.review.proofs.Filling.{nothing}
use Rattle.review.proofs.lines.writing.put_refused.Goals as goal

pub returns : goal.returns
returns c =
    let before = c.args.space.now in
    let first = c.put-end.ensures before _ (nothing before) in
    let second = c.put_number-end.ensures before _ first in
    let third = c.put-end-2.ensures before _ second in
    let fourth = c.put_number-end-2.ensures before _ third in
    let fifth = c.put-end-3.ensures before _ fourth in
    rw (sym c.from.ensures, sym (c.as_bytes.ensures.value ∙ c.name.ensures)) (c.put.ensures before _ fifth)
