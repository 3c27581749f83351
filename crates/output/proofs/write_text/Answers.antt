use Rattle.std.proofs.Common.{arith, length-drop}
use Rattle.std.proofs.lemmas.List.{take_rest}
use Rattle.output.proofs.Growing.{joined, stays, take_further}
use Rattle.output.proofs.write_text.Goals.{in-Ok, in-Err}
use Rattle.output.proofs.write_text.Goals as goal

pub loop-preserved : goal.loop-preserved
loop-preserved g c =
    let before = g.W.Write.contents c.args.output.now in
    let between = g.W.Write.contents c.loop.output in
    let after = g.W.Write.contents c.write.new.self in
    elim c.match-write.branch [
      | in-Ok w ↦
          let further = take_further c.loop.at w.in-Ok.count c.args.text.now in
          let most = w.in-Ok.ensures.bound in
          let written = rw (take_rest c.args.text.now c.loop.at) at w.in-Ok.ensures.bytes in
          record {
            within = omega (arith, length-drop c.loop.at c.args.text.now);
            so_far = rw w.at-is (joined before between after _ _ _ further c.loop.invariant.so_far written);
          }
      | in-Err w ↦ record { within = omega arith; so_far = rw w.at-is (stays before between after _ c.loop.invariant.so_far (rw w.in-Err.is at c.write.ensures.bytes)) }
    ]
