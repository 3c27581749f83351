use Rattle.std.proofs.Common.{length, sym, ap, ◌∙◌, arith}
use Rattle.std.specs.Prelude.{vec_items}
use Rattle.std.specs.Vec.Iter.{into_iter_items}
use Rattle.search.specs.Folders.{contents}
use Rattle.runs.proofs.ChainLaws.{goes_on, ends}
use Rattle.runs.proofs.RunLaws.{run_right}
use Rattle.runs.proofs.running.make_calls.Goals as goal

-- src/running.rt:57:5
pub loop-call-preserved : goal.loop-call-preserved
loop-call-preserved g c =
    let rest = ap length c.in-Some.ensures.items in
    let len = c.push_reserved.ensures.len in
    let capacity = c.push_reserved.ensures.capacity in
    let room = c.loop-call.invariant.1 in
    let left = c.loop-call.invariant.2 in
    let fewer = c.in-Some.ensures.cases.1 in (
      goes_on _ _ _ (contents c.loop-call.first) (contents c.obey.new.first) _ (contents c.loop-call.second) (contents c.obey.new.second) _ (into_iter_items c.loop-call.rest) (into_iter_items c.next.new.self)
          (vec_items c.loop-call.answers) (vec_items c.push_reserved.new.self) c.in-Some.call c.obey.result c.loop-call.invariant.0 c.in-Some.ensures.items c.obey.ensures c.push_reserved.ensures.items,
      omega arith,
      omega arith,
    )

-- src/running.rt:41:1
pub returns : goal.returns
returns g c =
    run_right _ _ g.met.A.ThreadGraph.bounded g.met.B.ThreadGraph.bounded (contents c.args.first) (contents c.args.second) _ _ c.requires.0 c.requires.1
    (ends _ _ _ (contents c.loop-call.first) _ (contents c.loop-call.second) (vec_items c.args.script.calls) (into_iter_items c.loop-call.rest) (vec_items c.loop-call.answers) c.loop-call.invariant.0 (sym c.loop-call.invariant.2 ∙ c.in_default.ensures.cases.0))
