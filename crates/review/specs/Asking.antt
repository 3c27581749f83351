-- The calls that a review makes, and which of the summaries are refused.
use Rattle.std.specs.Prelude.{◌≡◌, ℕ, ◌⊎◌, List, ◌∷◌, ◌++◌, map, Some, Ok, Err, Result}
use Rattle.std.specs.List.{slice_get}
use Rattle.locks.specs.declared.together.Side.{Side}
use Rattle.locks.specs.declared.together.Side.TheVariants as side
use Rattle.locks.specs.Graphs.{Graph}
use Rattle.runs.specs.declared.calls.Answer.{Answer}
use Rattle.runs.specs.declared.calls.Answer.TheVariants as back
use Rattle.runs.specs.declared.calls.Call.{Call}
use Rattle.runs.specs.declared.calls.Question.{Question}
use Rattle.runs.specs.declared.calls.WhichFolder.TheVariants.{First, Second}
use Rattle.runs.specs.declared.scripts.Script.{Script}
use Rattle.runs.specs.Calls.{CallMeaning, summarise, ask, call_meaning}
use Rattle.runs.specs.Scripts.{ScriptContents, written}
use Rattle.search.specs.declared.faults.SummariseFault.{SummariseFault}
use Rattle.search.specs.declared.threads.Pair.{Pair}

-- the left location is of the first folder, the right one of the second
abbrev pub question_of : Pair → Question
question_of p = record { left = record { folder = First; location = p.left }; right = record { folder = Second; location = p.right } }

-- an ask for each pair, each with such a list
abbrev pub asks_of : List Pair → List ℕ → List CallMeaning
asks_of pairs list = map (λ p. ask (question_of p) list) pairs

-- both summaries, and then each pair
abbrev pub review_calls : List Pair → List ℕ → List CallMeaning
review_calls pairs list = summarise First ∷ summarise Second ∷ asks_of pairs list

-- whatever graphs mean, since no call has one
abbrev pub ScriptSays : {A B : Type 0} → Script A B → List Pair → List ℕ → Type 0
ScriptSays {A} {B} s pairs list = (f : A → Graph) (g : B → Graph) → map (call_meaning f g) (written s).calls ≡ review_calls pairs list

-- these calls more at the end
abbrev pub more_calls : {A B : Type 0} → ScriptContents A B → List (Call A B) → ScriptContents A B
more_calls s cs = record { calls = s.calls ++ cs; most = s.most }

-- the answer at this place is a refused summarise, or none is there
abbrev pub SummaryTold : {A B : Type 0} → List (Answer A B) → ℕ → Result (Unit {0}) SummariseFault → Type 0
SummaryTold answers n (Err f) = slice_get answers n ≡ Some (back.Summarised (Err f))
SummaryTold answers n (Ok u) = (f : SummariseFault) → slice_get answers n ≡ Some (back.Summarised (Err f)) → ⊥

-- the fault of a summary, the left one's first, or what is said of the other answers
abbrev pub ByAnswers : {A B : Type 0} → List (Answer A B) → (Side → SummariseFault → Type 0) → Type 0 → Type 0
ByAnswers answers refusing accepting =
    ((f : SummariseFault) × SummaryTold answers 0 (Err f) × refusing side.Left f)
    ⊎ ((SummaryTold answers 0 (Ok tt) × ((f : SummariseFault) × SummaryTold answers 1 (Err f) × refusing side.Right f))
    ⊎ (SummaryTold answers 0 (Ok tt) × SummaryTold answers 1 (Ok tt) × accepting))
