-- What a review file is answered with, and what is printed of it.
use Rattle.std.specs.Prelude.{◌≡◌, ℕ, List, length, ◌⊎◌, ◌++◌, Some, Ok, Err, Result}
use Rattle.std.specs.List.{slice_get, flat_map}
use Rattle.layers.specs.Renaming.{renamed_graph}
use Rattle.locks.specs.declared.refusals.Refusal.{Refusal}
use Rattle.locks.specs.declared.together.Side.{Side}
use Rattle.locks.specs.declared.together.Side.TheVariants.{Left, Right}
use Rattle.locks.specs.Graphs.{Graph}
use Rattle.readers.specs.Graph.{listing_graph}
use Rattle.search.specs.declared.faults.SummariseFault.{SummariseFault}
use Rattle.search.specs.declared.threads.Pair.{Pair}
use Rattle.search.specs.Faults.{summarise_refusal}
use Rattle.review.specs.declared.file.fault.FileFault.{FileFault}
use Rattle.review.specs.declared.file.fault.Within.{Within}
use Rattle.review.specs.declared.file.fault.Within.TheVariants as where_
use Rattle.review.specs.declared.report.error.ReportError.{ReportError}
use Rattle.review.specs.declared.report.error.ReportError.TheVariants.{OutOfMemory, File, Summary}
use Rattle.review.specs.Cases.{BySummaries, ByPair}
use Rattle.review.specs.FileFaults.{file_refusal, within}
use Rattle.review.specs.Lines.{newline, reached_text, never_text, missing_text, refused_text}
use Rattle.review.specs.Reviews.{Meaning, FileSays}

-- the graphs of the two threads; the right one's locks are renamed
abbrev pub left_graph : Meaning → Graph
left_graph m = listing_graph m.lefts

abbrev pub right_graph : Meaning → Graph
right_graph m = renamed_graph m.numbers (listing_graph m.rights)

-- a refusal by its number and place, and where it arose
abbrev pub refusal_line : Refusal → Within → List ℕ
refusal_line r w = refused_text r.number r.place w ++ newline

-- the line of a pair
abbrev pub PairLine : Graph → Graph → Pair → List ℕ → Type 0
PairLine G H p line =
    ByPair G H p (λ s. line ≡ missing_text p ++ newline) (line ≡ never_text p ++ newline) (λ moves. line ≡ reached_text p moves ++ newline)

-- a line for each pair, in order
pub record PairLines (G H : Graph) (pairs : List Pair) (text : List ℕ) : Type 0 where
  pub lines : List (List ℕ)
  pub whole : text ≡ flat_map (λ line. line) lines
  pub as_many : length lines ≡ length pairs
  pub each : (i : ℕ) (p : Pair) (line : List ℕ) → slice_get pairs i ≡ Some p → slice_get lines i ≡ Some line → PairLine G H p line

-- an answer with its text in place of what holds the text
abbrev pub as_text : {V : Type 0} → (V → List ℕ) → Result V ReportError → Result (List ℕ) ReportError
as_text items (Ok v) = Ok (items v)
as_text items (Err e) = Err e

-- the fault of a summary, or the lines of the pairs
abbrev pub ReviewAnswers : Graph → Graph → List Pair → Result (List ℕ) ReportError → Type 0
ReviewAnswers G H pairs r = BySummaries G H (λ s f. r ≡ Err (Summary s f)) ((text : List ℕ) × (r ≡ Ok text) × PairLines G H pairs text)

-- the answer by what a file says, or by its fault
abbrev pub FileAnswers : Result Meaning FileFault → Result (List ℕ) ReportError → Type 0
FileAnswers (Ok m) r = ReviewAnswers (left_graph m) (right_graph m) m.pairs r
FileAnswers (Err f) r = r ≡ Err (File f)

-- memory is out, or this holds of the answer
abbrev pub OutOfMemoryOr : Result (List ℕ) ReportError → Type 0 → Type 0
OutOfMemoryOr r P = (r ≡ Err OutOfMemory) ⊎ P

-- memory is out, whatever stands in the file, or the answer is the file's
abbrev pub Reported : List ℕ → Result (List ℕ) ReportError → Type 0
Reported file r = OutOfMemoryOr r ((q : Result Meaning FileFault) × FileSays file q × FileAnswers q r)

abbrev pub of_thread : Side → Within
of_thread Left = where_.Left
of_thread Right = where_.Right

-- the text is the line of this summary's refusal
abbrev pub RefusalPrinted : List ℕ → Side → SummariseFault → Type 0
RefusalPrinted text s f = text ≡ refusal_line (summarise_refusal f) (of_thread s)

-- the refusal of a summary, or the lines of the pairs
abbrev pub ReviewSays : Graph → Graph → List Pair → List ℕ → Type 0
ReviewSays G H pairs text = BySummaries G H (RefusalPrinted text) (PairLines G H pairs text)

-- the report of a file by what it says
abbrev pub ReportOf : Result Meaning FileFault → List ℕ → Type 0
ReportOf (Ok m) text = ReviewSays (left_graph m) (right_graph m) m.pairs text
ReportOf (Err f) text = text ≡ refusal_line (file_refusal f) (within f)

-- the text is the report of the file
abbrev pub Reports : List ℕ → List ℕ → Type 0
Reports file text = (q : Result Meaning FileFault) × FileSays file q × ReportOf q text

-- the text that stands for an answer; none stands for being out of memory
abbrev pub StandsFor : Result (List ℕ) ReportError → List ℕ → Type 0
StandsFor (Ok lines) text = text ≡ lines
StandsFor (Err OutOfMemory) text = ⊥
StandsFor (Err (File f)) text = text ≡ refusal_line (file_refusal f) (within f)
StandsFor (Err (Summary s f)) text = RefusalPrinted text s f
