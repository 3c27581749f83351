-- What is said of two threads and of a pair of their locations, whatever says it in the end.
use Rattle.std.specs.Prelude.{ℕ, ◌≤◌, ◌⊎◌, List, length}
use Rattle.locks.specs.declared.together.Side.{Side}
use Rattle.locks.specs.declared.together.Side.TheVariants.{Left, Right}
use Rattle.locks.specs.Graphs.{Graph}
use Rattle.locks.specs.Shortest.{Shortest, NoSchedule}
use Rattle.pairs.specs.Answers.{longest}
use Rattle.search.specs.declared.faults.SummariseFault.{SummariseFault}
use Rattle.search.specs.declared.threads.Pair.{Pair}
use Rattle.search.specs.Sides.{BothThere, Missing}
use Rattle.search.specs.Summarising.{Accepted, Refused}

-- the fault of a summary, the left one first, or what is said of two accepted threads
abbrev pub BySummaries : Graph → Graph → (Side → SummariseFault → Type 0) → Type 0 → Type 0
BySummaries G H refusing accepting =
    ((f : SummariseFault) × Refused G f × refusing Left f)
    ⊎ (((f : SummariseFault) × Accepted G × Refused H f × refusing Right f)
    ⊎ (Accepted G × Accepted H × accepting))

-- a location is not in its graph, or no schedule leads to the pair, or these moves are a shortest one
abbrev pub ByPair : Graph → Graph → Pair → (Side → Type 0) → Type 0 → (List ℕ → Type 0) → Type 0
ByPair G H p missing never reached =
    ((s : Side) × Missing G H p.left p.right s × missing s)
    ⊎ ((BothThere G H p.left p.right × NoSchedule G H p.left p.right × never)
    ⊎ ((moves : List ℕ) × BothThere G H p.left p.right × Shortest G H p.left p.right moves × (length moves ≤ longest) × reached moves))
