-- What a thread graph means: where it starts, and for each location the list of its steps.
use Rattle.std.specs.Prelude.{◌≡◌, ℕ, ◌<◌, ◌≤◌, List, [], length, Some, Option, slice_index_or}
use Rattle.std.specs.List.{slice_get}
use Rattle.locks.specs.declared.steps.Kind.TheVariants.{Plain}
use Rattle.locks.specs.declared.steps.Step.{Step}
use Rattle.locks.specs.Limits.{lock_limit, most_locations, most_steps}

-- the steps of location n are the list at place n
pub record Graph : Type 0 where
  pub start : ℕ
  pub steps : List (List Step)

abbrev pub locations : Graph → ℕ
locations G = length G.steps

-- a location outside the graph has no steps
abbrev pub steps_at : Graph → ℕ → List Step
steps_at G l = slice_index_or G.steps l []

-- a step outside the graph is absent
abbrev pub step_at : Graph → ℕ → ℕ → Option Step
step_at G l n = slice_get (steps_at G l) n

-- a step leads to a location, its number names a lock, and a plain one has lock 0
pub record StepFits (G : Graph) (s : Step) : Type 0 where
  pub target_there : s.target < locations G
  pub lock_there : s.lock < lock_limit
  pub plain_without : s.kind ≡ Plain → s.lock ≡ 0

-- the bounds that every graph keeps
pub record Bounded (G : Graph) : Type 0 where
  pub not_empty : 0 < locations G
  pub few_locations : locations G ≤ most_locations
  pub start_there : G.start < locations G
  pub few_steps : (l : ℕ) → length (steps_at G l) ≤ most_steps
  pub steps_fit : (l n : ℕ) (s : Step) → step_at G l n ≡ Some s → StepFits G s
