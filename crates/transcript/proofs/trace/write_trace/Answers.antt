use Rattle.std.proofs.Common.{◌≡◌, ℕ, List, ◌++◌, refl, ap, ◌∙◌}
use Rattle.locks.specs.declared.together.Configuration.{Configuration}
use Rattle.locks.specs.Graphs.{Graph}
use Rattle.locks.specs.Schedules.{from_starts}
use Rattle.search.proofs.ReplayLaws.{run_goes_on}
use Rattle.transcript.specs.Lines.{ended, start_line, move_line}
use Rattle.transcript.specs.Tracing.{Traced}
use Rattle.transcript.proofs.LineLaws.{adds_more, adds_after}
use Rattle.transcript.proofs.TraceLaws.{one_line_more, traced_whole, traced_up_to}
use Rattle.transcript.proofs.trace.write_trace.Goals as goal

-- the line of the starts is written
started : (G H : Graph) (start : Configuration) (before after : List ℕ) → start ≡ from_starts G H → after ≡ before ++ ended (start_line start) → after ≡ before ++ ended (start_line (from_starts G H))
started G H start before after e line = line ∙ ap (λ d. before ++ ended (start_line d)) e

pub loop-number-preserved : goal.loop-number-preserved
loop-number-preserved g c =
    let moves = c.args.moves.now in
    let i = c.loop-number.number-index in
    let runs = run_goes_on _ _ _ _ _ moves i c.loop-number-test.true c.loop-number.invariant.reached c.in-Some.ensures.1 in
    record {
      reached = runs;
      written = adds_more _ _ _ _ _ (move_line c.in-Some.chosen c.in-Some.next) c.loop-number.invariant.written c.in_ok-write_move.ensures
          (λ lines first. one_line_more _ _ moves i lines c.in-Some.chosen c.in-Some.next c.loop-number-test.true c.in-Some.ensures.0 runs first);
    }

pub returns-in_default : goal.returns-in_default
returns-in_default g c =
    let G = c.args.threads.now.left in
    let H = c.args.threads.now.right in
    let stuck = c.in_default.ensures in
    adds_after _ (Traced G H c.args.moves.now) _ _ _ (start_line (from_starts G H)) (started G H _ _ _ c.at_starts-reached.ensures c.in_ok-write_start.ensures) c.loop-number.invariant.written
    (λ lines first. (lines, refl, traced_up_to G H c.args.moves.now c.loop-number.number-index c.loop-number.reached stuck.0 lines c.loop-number-test.true c.loop-number.invariant.reached stuck.1 first))

pub returns : goal.returns
returns g c =
    let G = c.args.threads.now.left in
    let H = c.args.threads.now.right in
    adds_after _ (Traced G H c.args.moves.now) _ _ _ (start_line (from_starts G H)) (started G H _ _ _ c.at_starts-reached.ensures c.in_ok-write_start.ensures) c.loop-number.invariant.written
    (λ lines first. (lines, refl, traced_whole G H c.args.moves.now c.loop-number.number-index lines c.loop-number-test.false c.loop-number.auto.number-index-end first))
