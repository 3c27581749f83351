-- What is written of one thread.
use Rattle.std.specs.Prelude.{◌≡◌, ℕ, List, Result}
use Rattle.locks.specs.declared.together.Side.{Side}
use Rattle.locks.specs.Graphs.{Graph, locations}
use Rattle.search.specs.declared.entries.Entry.{Entry}
use Rattle.search.specs.declared.faults.SummariseFault.{SummariseFault}
use Rattle.search.specs.Summarising.{Summarised}
use Rattle.transcript.specs.Lines.{thread_line}

-- summarise was called on the graph, and left these entries
abbrev pub SummaryTried : Graph → List Entry → Type 0
SummaryTried G es = (r : Result ℕ SummariseFault) × Summarised G r es

-- by the answer of its summary, which has these entries
abbrev pub LineBySummary : Side → Graph → List Entry → List ℕ → Type 0
LineBySummary s G es line =
    (r : Result ℕ SummariseFault) × Summarised G r es × (line ≡ thread_line s (locations G) r)

-- its number of locations, and of locked states that it reaches alone, or why its summary is refused
abbrev pub ThreadLine : Side → Graph → List ℕ → Type 0
ThreadLine s G line = (es : List Entry) × LineBySummary s G es line
