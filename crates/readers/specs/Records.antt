-- Edge tables in the subject's words: what a record spells, and what a list of them says.
use Rattle.std.specs.Prelude.{◌≡◌, ℕ, ◌<◌, ◌≤◌, List, [], map, length, filter, Some, None, Option, slice_index_or, ◌==◌}
use Rattle.locks.specs.declared.steps.Step.{Step}
use Rattle.locks.specs.Graphs.{Graph}
use Rattle.locks.specs.Limits.{lock_limit}
use Rattle.locks.specs.Steps.{kind_number}
use Rattle.readers.specs.declared.table.record.Record.{Record}

-- the record of a step of location l
abbrev pub record_of : ℕ → Step → Record
record_of l s = record { from = l; kind = kind_number s.kind; lock = s.lock; to = s.target }

-- a record that spells a step among n locations
pub record Fits (n : ℕ) (r : Record) : Type 0 where
  pub from_there : r.from < n
  pub to_there : r.to < n
  pub kind_known : r.kind ≤ 2
  pub lock_known : r.lock < lock_limit
  pub plain_without : r.kind ≡ 0 → r.lock ≡ 0

-- the step that a record spells, or that it spells none
abbrev pub Spells : ℕ → Record → Option Step → Type 0
Spells n r (Some s) = Fits n r × (record_of r.from s ≡ r)
Spells n r None = Fits n r → ⊥

-- the records of a location, in list order
abbrev pub records_at : ℕ → List Record → List Record
records_at l rs = filter (λ r. r.from == l) rs

-- what records say of the steps of n locations: those of each, written as records, are its records in list order
pub record RowsSay (n : ℕ) (rs : List Record) (steps : List (List Step)) : Type 0 where
  pub locations_are : length steps ≡ n
  pub steps_are : (l : ℕ) → map (record_of l) (slice_index_or steps l []) ≡ records_at l rs

-- what a table says of a graph
pub record TableSays (n start : ℕ) (rs : List Record) (G : Graph) : Type 0 where
  pub start_is : G.start ≡ start
  pub rows : RowsSay n rs G.steps
