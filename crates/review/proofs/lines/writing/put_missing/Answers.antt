use Rattle.std.proofs.Common.{sym, ◌∙◌}
use Rattle.review.proofs.lines.writing.put_missing.Goals as goal

pub returns : goal.returns
returns c =
    let before = c.args.space.now in
    let first = c.put-end.ensures before _ c.put_pair-end.ensures in
    rw (sym (c.from.ensures ∙ c.missing_number.ensures)) (c.put_number.ensures before _ first)
