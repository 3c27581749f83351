use Rattle.std.proofs.Common.{List, ℕ, ◌++◌, take}
use Rattle.review.specs.Lines.{Filled, moves_text}
use Rattle.review.proofs.lines.putting.put_moves.Given as goal

abbrev pub invariant-loop-number : goal.invariant-loop-number
invariant-loop-number l = (before text : List ℕ) → Filled before text l.initial.space l.at → Filled before (text ++ moves_text (take l.number-index l.moves)) l.space l.end
