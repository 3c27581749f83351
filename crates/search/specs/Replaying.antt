-- What the replay of a schedule answers.
use Rattle.std.specs.Prelude.{◌≡◌, ℕ, List, length, take, Some, Ok, Err, Result, ◌≢◌}
use Rattle.std.specs.List.{slice_get}
use Rattle.locks.specs.declared.refusals.Part.TheVariants.{Replay}
use Rattle.locks.specs.declared.refusals.Refusal.{Refusal}
use Rattle.locks.specs.declared.together.Configuration.{Configuration}
use Rattle.locks.specs.Graphs.{Graph}
use Rattle.locks.specs.Schedules.{Runs, Replays, from_starts}
use Rattle.search.specs.declared.playing.MoveFault.{MoveFault}
use Rattle.search.specs.declared.playing.MoveFault.TheVariants.{NoStep, CannotBeTaken}
use Rattle.search.specs.declared.replaying.ReplayFault.{ReplayFault}
use Rattle.search.specs.declared.replaying.ReplayFault.TheVariants.{NoLocation, Fails, EndsElsewhere}
use Rattle.locks.specs.Together.{side_number}
use Rattle.search.specs.Playing.{NoSuchStep, BlockedStep}
use Rattle.search.specs.Sides.{BothThere, Missing}

-- the number, the place and the part of each refusal
abbrev pub replay_refusal : ReplayFault → Refusal
replay_refusal (NoLocation s) = record { number = 17; place = side_number s; part = Replay }
replay_refusal (Fails NoStep i) = record { number = 19; place = i; part = Replay }
replay_refusal (Fails CannotBeTaken i) = record { number = 20; place = i; part = Replay }
replay_refusal (EndsElsewhere n) = record { number = 21; place = n; part = Replay }

-- the moves before place i can be made from both starts, and then there is something about the move at i
pub record Stops (G H : Graph) (ns : List ℕ) (i : ℕ) (Why : Configuration → ℕ → Type 0) : Type 0 where
  pub here : Configuration
  pub before : Runs G H (from_starts G H) (take i ns) here
  pub n : ℕ
  pub there : slice_get ns i ≡ Some n
  pub why : Why here n

-- every move can be made, and the threads end elsewhere
pub record Elsewhere (G H : Graph) (a b : ℕ) (ns : List ℕ) : Type 0 where
  pub last : Configuration
  pub runs : Runs G H (from_starts G H) ns last
  pub other : last.left.location ≡ a → last.right.location ≢ b

-- some move is the first that cannot be made, for this reason
abbrev pub FailsAt : Graph → Graph → List ℕ → ℕ → MoveFault → Type 0
FailsAt G H ns i NoStep = Stops G H ns i (NoSuchStep G H)
FailsAt G H ns i CannotBeTaken = Stops G H ns i (BlockedStep G H)

-- what each answer says of the moves, apart from the pair
abbrev pub MovesSay : Graph → Graph → List ℕ → Result Configuration ReplayFault → Type 0
MovesSay G H ns (Ok c) = Runs G H (from_starts G H) ns c
MovesSay G H ns (Err (NoLocation s)) = ⊥
MovesSay G H ns (Err (Fails f i)) = FailsAt G H ns i f
MovesSay G H ns (Err (EndsElsewhere n)) = ⊥

-- the condition of each answer
abbrev pub ReplaySays : Graph → Graph → ℕ → ℕ → List ℕ → Result (Unit {0}) ReplayFault → Type 0
ReplaySays G H a b ns (Ok _) = BothThere G H a b × Replays G H a b ns
ReplaySays G H a b ns (Err (NoLocation s)) = Missing G H a b s
ReplaySays G H a b ns (Err (Fails f i)) = BothThere G H a b × FailsAt G H ns i f
ReplaySays G H a b ns (Err (EndsElsewhere n)) = BothThere G H a b × Elsewhere G H a b ns × (n ≡ length ns)

-- the answer is the one whose condition holds, and no other answer's condition does
pub record Replayed (G H : Graph) (a b : ℕ) (ns : List ℕ) (r : Result (Unit {0}) ReplayFault) : Type 0 where
  pub says : ReplaySays G H a b ns r
  pub only : (s : Result (Unit {0}) ReplayFault) → ReplaySays G H a b ns s → s ≡ r
