-- What is written of a pair of locations.
use Rattle.std.specs.Prelude.{◌≡◌, ℕ, List, [], length, take, Ok, Err}
use Rattle.locks.specs.declared.together.Side.TheVariants.{Left, Right}
use Rattle.locks.specs.Graphs.{Graph}
use Rattle.locks.specs.Shortest.{NoSchedule, Shortest}
use Rattle.pairs.specs.Answers.{Answer}
use Rattle.pairs.specs.declared.answers.AskFault.TheVariants.{NoSummary, NoLocation, TooShort}
use Rattle.pairs.specs.declared.answers.Verdict.TheVariants.{Never, Reached}
use Rattle.search.specs.declared.faults.SummariseFault.{SummariseFault}
use Rattle.search.specs.declared.threads.Pair.{Pair}
use Rattle.search.specs.Sides.{BothThere, Missing}
use Rattle.search.specs.Summarising.{Accepted, Refused}
use Rattle.transcript.specs.Lines.{pair_line}

-- the summary of a graph is refused
abbrev pub SummaryRefused : Graph → Type 0
SummaryRefused G = (f : SummariseFault) × Refused G f

-- both graphs have a summary
abbrev pub BothAccepted : Graph → Graph → Type 0
BothAccepted G H = Accepted G × Accepted H

-- The condition of each answer, with the moves of a schedule. A refused summary comes first, the left one before the
-- right, then a location that is missing, likewise. No schedule is ever too long.
abbrev pub PairSays : Graph → Graph → Pair → Answer → List ℕ → Type 0
PairSays G H p (Err (NoSummary Left)) moves = SummaryRefused G
PairSays G H p (Err (NoSummary Right)) moves = Accepted G × SummaryRefused H
PairSays G H p (Err (NoLocation s)) moves = BothAccepted G H × Missing G H p.left p.right s
PairSays G H p (Err (TooShort n)) moves = ⊥
PairSays G H p (Ok Never) moves = BothAccepted G H × BothThere G H p.left p.right × NoSchedule G H p.left p.right
PairSays G H p (Ok (Reached n)) moves =
    BothAccepted G H × BothThere G H p.left p.right × Shortest G H p.left p.right moves × (n ≡ length moves)

-- never, or a shortest schedule, or why there is no answer
abbrev pub PairLine : Graph → Graph → Pair → List ℕ → Type 0
PairLine G H p line = (answer : Answer) × (moves : List ℕ) × PairSays G H p answer moves × (line ≡ pair_line p answer moves)

-- the moves that an answer tells of, at the front of a list
abbrev pub moves_of : Answer → List ℕ → List ℕ
moves_of (Ok Never) list = []
moves_of (Ok (Reached n)) list = take n list
moves_of (Err f) list = []
