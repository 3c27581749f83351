-- Two threads side by side, and whether their graphs have the locations of a pair.
use Rattle.std.specs.Prelude.{ℕ, ◌<◌, ◌≤◌, List}
use Rattle.locks.specs.declared.together.Side.{Side}
use Rattle.locks.specs.declared.together.Side.TheVariants.{Left, Right}
use Rattle.locks.specs.Graphs.{Graph, locations}
use Rattle.search.specs.declared.entries.Entry.{Entry}
use Rattle.search.specs.Folders.{Contents}

-- two graphs, and the entries of their summaries
pub record SideBySide : Type 0 where
  pub left : Graph
  pub right : Graph
  pub lefts : List Entry
  pub rights : List Entry

-- those of two folders, by what each kind of graph means
abbrev pub side_by_side : {L R : Type 0} → (L → Graph) → (R → Graph) → Contents L → Contents R → SideBySide
side_by_side l r c d =
    record { left = l c.graph; right = r d.graph; lefts = c.summary; rights = d.summary }

abbrev pub BothThere : Graph → Graph → ℕ → ℕ → Type 0
BothThere G H a b = (a < locations G) × (b < locations H)

-- this side's graph is the first that has no such location, the left one before the right
abbrev pub Missing : Graph → Graph → ℕ → ℕ → Side → Type 0
Missing G H a b Left = locations G ≤ a
Missing G H a b Right = (a < locations G) × (locations H ≤ b)
