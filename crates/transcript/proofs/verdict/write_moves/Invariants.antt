use Rattle.std.proofs.Common.{◌≡◌, ◌++◌, string_bytes, take}
use Rattle.transcript.specs.Lines.{moves_text}
use Rattle.transcript.proofs.verdict.write_moves.Given as goal

abbrev pub invariant-loop-number : goal.invariant-loop-number
invariant-loop-number l = string_bytes l.written ≡ string_bytes l.initial.written ++ moves_text (take l.number-index l.moves)
