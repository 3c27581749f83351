use Rattle.review.specs.Lines.{Filled, said}
use Rattle.review.proofs.lines.line.Line.put_in.Goals.{in-Reached, in-Never, in-Missing, in-Refused}
use Rattle.review.proofs.lines.line.Line.put_in.Goals as goal

pub returns : goal.returns
returns c =
    let before = c.args.space.now in
    let without : Filled before (said c.args.self.now) c.match-self.space c.match-self.end = elim c.match-self.branch [
      | in-Reached w ↦ rw (w.in-Reached.is, w.space-is, w.end-is) w.put_reached-end.ensures
      | in-Never w ↦ rw (w.in-Never.is, w.space-is, w.end-is) (w.put-end.ensures before _ w.put_pair-end.ensures)
      | in-Missing w ↦ rw (w.in-Missing.is, w.space-is, w.end-is) w.put_missing-end.ensures
      | in-Refused w ↦ rw (w.in-Refused.is, w.space-is, w.end-is) w.put_refused-end.ensures
    ] in
    c.put.ensures before _ without
