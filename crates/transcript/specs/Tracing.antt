-- What is written of the moves of a schedule.
use Rattle.std.specs.Prelude.{◌≡◌, ℕ, ◌+◌, ◌⊎◌, List, ◌∷◌, length, take, Some, Result}
use Rattle.std.specs.List.{slice_get}
use Rattle.locks.specs.declared.moves.Move.{Move}
use Rattle.locks.specs.declared.together.Configuration.{Configuration}
use Rattle.locks.specs.Graphs.{Graph}
use Rattle.locks.specs.Moves.{move_named}
use Rattle.locks.specs.Schedules.{Runs, from_starts}
use Rattle.search.specs.declared.playing.MoveFault.{MoveFault}
use Rattle.search.specs.declared.replaying.ReplayFault.{ReplayFault}
use Rattle.search.specs.declared.threads.Pair.{Pair}
use Rattle.search.specs.Replaying.{FailsAt, Replayed}
use Rattle.transcript.specs.Lines.{start_line, move_line, replay_line}

-- the move at place i, and where it leads after those before it
abbrev pub LineOfMove : Graph → Graph → List ℕ → ℕ → List ℕ → Type 0
LineOfMove G H moves i line =
    (n : ℕ) × (m : Move) × (c : Configuration) × (slice_get moves i ≡ Some n) × (move_named n ≡ Some m)
    × Runs G H (from_starts G H) (take (i + 1) moves) c × (line ≡ move_line m c)

abbrev pub LinesOfMoves : Graph → Graph → List ℕ → List (List ℕ) → Type 0
LinesOfMoves G H moves lines = (i : ℕ) (line : List ℕ) → slice_get lines i ≡ Some line → LineOfMove G H moves i line

-- a line for each move, up to the first that cannot be made
pub record MovesTraced (G H : Graph) (moves : List ℕ) (lines : List (List ℕ)) : Type 0 where
  pub each : LinesOfMoves G H moves lines
  pub up_to : (length lines ≡ length moves) ⊎ ((f : MoveFault) × FailsAt G H moves (length lines) f)

-- both starts, and then the moves
abbrev pub Traced : Graph → Graph → List ℕ → List (List ℕ) → Type 0
Traced G H moves lines =
    (made : List (List ℕ)) × (lines ≡ start_line (from_starts G H) ∷ made) × MovesTraced G H moves made

-- how the replay of the schedule ends
abbrev pub ReplayLine : Graph → Graph → Pair → List ℕ → List ℕ → Type 0
ReplayLine G H p moves line =
    (r : Result (Unit {0}) ReplayFault) × Replayed G H p.left p.right moves r × (line ≡ replay_line p (length moves) r)
