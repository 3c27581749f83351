use Rattle.std.proofs.Common.{◌≡◌, take, vec_items}
use Rattle.review.specs.Telling.{lines_text}
use Rattle.review.proofs.report.joining.joined.Given as goal

abbrev pub invariant-loop-line : goal.invariant-loop-line
invariant-loop-line l = vec_items l.text ≡ lines_text (take l.line-index l.lines)
