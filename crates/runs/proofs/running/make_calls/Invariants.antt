use Rattle.std.proofs.Common.{◌≡◌, ◌+◌, ◌≤◌, length}
use Rattle.std.specs.Prelude.{vec_items, vec_len, vec_capacity}
use Rattle.std.specs.Vec.Iter.{into_iter_items, into_iter_len}
use Rattle.search.specs.Folders.{contents}
use Rattle.runs.proofs.ChainLaws.{Continues}
use Rattle.runs.proofs.running.make_calls.Given as goal

-- the calls made so far have their answers, and there are places for the others'
abbrev pub invariant-loop-call : goal.invariant-loop-call
invariant-loop-call g l =
    Continues g.A.ThreadGraph.meaning g.B.ThreadGraph.meaning (contents l.fn.first) (contents l.fn.second) (vec_items l.fn.script.calls) (vec_items l.answers) (contents l.first) (contents l.second) (into_iter_items l.rest)
    × (vec_len l.answers + length (into_iter_items l.rest) ≤ vec_capacity l.answers) × (into_iter_len l.rest ≡ length (into_iter_items l.rest))

abbrev pub decreases-loop-call : goal.decreases-loop-call
decreases-loop-call g l = length (into_iter_items l.rest)
