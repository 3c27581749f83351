-- Graphs whose locks are renamed.
use Rattle.std.specs.Prelude.{◌≡◌, ℕ, List, map, length, Some}
use Rattle.locks.specs.declared.steps.Kind.{Kind}
use Rattle.locks.specs.declared.steps.Kind.TheVariants.{Plain, Take, Give}
use Rattle.locks.specs.declared.steps.Step.{Step}
use Rattle.locks.specs.Graphs.{Graph, locations, steps_at, step_at}
use Rattle.layers.specs.Numbers.{in_order, number_of}

-- a plain step has no lock to rename
abbrev pub renamed_lock : List ℕ → Kind → ℕ → ℕ
renamed_lock ns Plain k = k
renamed_lock ns Take k = number_of ns k
renamed_lock ns Give k = number_of ns k

abbrev pub renamed_step : List ℕ → Step → Step
renamed_step ns s = record { kind = s.kind; lock = renamed_lock ns s.kind s.lock; target = s.target }

-- the graph beneath, with the number of each lock in place of the lock
abbrev pub renamed_graph : List ℕ → Graph → Graph
renamed_graph ns G = record { start = G.start; steps = map (map (renamed_step ns)) G.steps }

-- a step and the same with its lock renamed: the kind and the target stay; a take or a give has the number of its lock
pub record IsRenamed (ns : List ℕ) (s t : Step) : Type 0 where
  pub same_kind : t.kind ≡ s.kind
  pub same_target : t.target ≡ s.target
  pub plain_same : s.kind ≡ Plain → t.lock ≡ s.lock
  pub take_renamed : s.kind ≡ Take → t.lock ≡ number_of ns s.lock
  pub give_renamed : s.kind ≡ Give → t.lock ≡ number_of ns s.lock

-- Locations and start stay, each step is renamed, and where each lock has its own number the graph stays.
pub record RenamingChangesLocksAlone : Type 0 where
  pub same_start : (ns : List ℕ) (G : Graph) → (renamed_graph ns G).start ≡ G.start
  pub same_locations : (ns : List ℕ) (G : Graph) → locations (renamed_graph ns G) ≡ locations G
  pub same_count : (ns : List ℕ) (G : Graph) (l : ℕ) → length (steps_at (renamed_graph ns G) l) ≡ length (steps_at G l)
  pub each_step : (ns : List ℕ) (G : Graph) (l n : ℕ) (s : Step) → step_at G l n ≡ Some s → (t : Step) × (step_at (renamed_graph ns G) l n ≡ Some t) × IsRenamed ns s t
  pub in_order_same : (G : Graph) → renamed_graph in_order G ≡ G
