use Rattle.std.proofs.Common.{rules, tests, ◌≡◌, get_or, Ok, Err, refl, sym, subst}
use Rattle.search.specs.declared.playing.MoveFault.{MoveFault}
use Rattle.search.specs.declared.replaying.ReplayFault.TheVariants as fault
use Rattle.search.specs.Playing.{Made}
use Rattle.search.specs.Replaying.{MovesSay}
use Rattle.search.proofs.ReplayLaws.{run_goes_on, stops_there}
use Rattle.search.proofs.threads.TwoThreads.make_moves.Goals as goal

pub returns-in_err-reached : goal.returns-in_err-reached
returns-in_err-reached g c =
    let failed : (f : MoveFault) × (c.make_move.result ≡ Err f) × (c.from_residual.result ≡ Err (fault.Fails f c.loop-place.place-counter)) = search (rules, tests) in
    let G = c.args.self.now.left in
    let H = c.args.self.now.right in
    let i = c.loop-place.place-counter in
    subst (λ r. MovesSay G H c.args.moves.now r) (sym failed.2)
    (stops_there G H c.args.moves.now i c.loop-place.reached failed.0 _ c.loop-place-test.true c.loop-place.invariant
    (subst (Made G H c.loop-place.reached (get_or c.args.moves.now i 0)) failed.1 c.make_move.ensures) refl)

pub loop-place-preserved : goal.loop-place-preserved
loop-place-preserved g c =
    let n = get_or c.args.moves.now c.loop-place.place-counter 0 in
    let made : c.make_move.result ≡ Ok c.in_ok-reached.reached = search (rules, tests) in
    run_goes_on _ _ _ _ _ c.args.moves.now c.loop-place.place-counter c.loop-place-test.true c.loop-place.invariant
    (subst (Made c.args.self.now.left c.args.self.now.right c.loop-place.reached n) made c.make_move.ensures)
