-- One move of two threads, in any configuration.
use Rattle.std.specs.Prelude.{◌≡◌, ℕ, false, Ok, Err, Result}
use Rattle.locks.specs.declared.moves.Move.{Move}
use Rattle.locks.specs.declared.steps.Step.{Step}
use Rattle.locks.specs.declared.together.Configuration.{Configuration}
use Rattle.locks.specs.Graphs.{Graph}
use Rattle.locks.specs.Schedules.{NamesStep, Makes}
use Rattle.locks.specs.Together.{can}
use Rattle.search.specs.declared.playing.MoveFault.{MoveFault}
use Rattle.search.specs.declared.playing.MoveFault.TheVariants.{NoStep, CannotBeTaken}

-- the number names no move, or its move no step
abbrev pub NoSuchStep : Graph → Graph → Configuration → ℕ → Type 0
NoSuchStep G H c n = (m : Move) (s : Step) → NamesStep G H c n m s → ⊥

-- the step is there, and cannot be taken
pub record BlockedStep (G H : Graph) (c : Configuration) (n : ℕ) : Type 0 where
  pub move : Move
  pub step : Step
  pub names : NamesStep G H c n move step
  pub cannot : can move.side step c ≡ false

abbrev pub Made : Graph → Graph → Configuration → ℕ → Result Configuration MoveFault → Type 0
Made G H c n (Ok d) = Makes G H c n d
Made G H c n (Err NoStep) = NoSuchStep G H c n
Made G H c n (Err CannotBeTaken) = BlockedStep G H c n
