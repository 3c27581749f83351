-- When a table is read, and why one is refused.
use Rattle.std.specs.Prelude.{◌≡◌, ℕ, ◌<◌, ◌≤◌, ◌⊎◌, List, length, take, Some, Ok, Err, Result, All}
use Rattle.std.specs.List.{slice_get}
use Rattle.locks.specs.Limits.{most_locations, most_steps}
use Rattle.readers.specs.declared.table.fault.TableFault.{TableFault}
use Rattle.readers.specs.declared.table.fault.TableFault.TheVariants.{LocationCount, StartMissing, WrongRecord, TooManySteps}
use Rattle.readers.specs.declared.table.record.Record.{Record}
use Rattle.readers.specs.Records.{Fits, records_at}

-- each record spells a step
abbrev pub AllFit : ℕ → List Record → Type 0
AllFit n rs = All (Fits n) rs

-- no location has too many steps
abbrev pub AllFew : List Record → Type 0
AllFew rs = (l : ℕ) → length (records_at l rs) ≤ most_steps

-- the number of locations is one that a graph may have
pub record CountFits (n : ℕ) : Type 0 where
  pub some : 0 < n
  pub few : n ≤ most_locations

-- at i stands the first record that spells no step
pub record FirstWrong (n : ℕ) (rs : List Record) (i : ℕ) : Type 0 where
  pub it : Record
  pub there : slice_get rs i ≡ Some it
  pub wrong : Fits n it → ⊥
  pub fit_before : AllFit n (take i rs)

-- at i stands the first record that is one too many for its location
pub record FirstTooMany (rs : List Record) (i : ℕ) : Type 0 where
  pub it : Record
  pub there : slice_get rs i ≡ Some it
  pub full : length (records_at it.from (take i rs)) ≡ most_steps
  pub few_before : AllFew (take i rs)

-- The condition of each answer. That of a later fault has in it that no earlier one's holds; that of acceptance, that
-- none does.
abbrev pub TableAnswers : ℕ → ℕ → List Record → Result (Unit {0}) TableFault → Type 0
TableAnswers n start rs (Ok u) = CountFits n × (start < n) × AllFit n rs × AllFew rs
TableAnswers n start rs (Err LocationCount) = (n ≡ 0) ⊎ (most_locations < n)
TableAnswers n start rs (Err StartMissing) = CountFits n × (n ≤ start)
TableAnswers n start rs (Err (WrongRecord i)) = CountFits n × (start < n) × FirstWrong n rs i
TableAnswers n start rs (Err (TooManySteps i)) = CountFits n × (start < n) × AllFit n rs × FirstTooMany rs i
