-- What is written of a text.
use Rattle.std.specs.Prelude.{◌≡◌, ℕ, List, [], ◌∷◌, ◌++◌, Ok, Err, Result}
use Rattle.locks.specs.declared.together.Side.TheVariants.{Left, Right}
use Rattle.locks.specs.Graphs.{Graph}
use Rattle.readers.specs.declared.listing.command.Command.{Command}
use Rattle.readers.specs.declared.listing.fault.ListingFault.{ListingFault}
use Rattle.readers.specs.Graph.{listing_graph}
use Rattle.readers.specs.Saying.{ListingSays}
use Rattle.search.specs.declared.threads.Pair.{Pair}
use Rattle.task.specs.declared.fault.TextFault.{TextFault}
use Rattle.task.specs.Accepted.{TextSays}
use Rattle.task.specs.Faults.{fault_text}
use Rattle.task.specs.Reasons.{Refused}
use Rattle.task.specs.Spelled.{TaskValue}
use Rattle.transcript.specs.Lines.{text_of, listing_line}
use Rattle.transcript.specs.Threads.{ThreadLine}
use Rattle.transcript.specs.Tracing.{Traced, ReplayLine}
use Rattle.transcript.specs.Verdicts.{PairLine}

abbrev pub pair_of : TaskValue → Pair
pair_of t = record { left = t.left_location; right = t.right_location }

-- after the lines of two threads: the moves, how the replay ends, and what is answered of the pair
pub record PlayedAndJudged (G H : Graph) (t : TaskValue) (lines : List (List ℕ)) : Type 0 where
  pub trace : List (List ℕ)
  pub ending : List ℕ
  pub verdict : List ℕ
  pub lines_are : lines ≡ trace ++ ending ∷ verdict ∷ []
  pub traced : Traced G H t.moves trace
  pub replayed : ReplayLine G H (pair_of t) t.moves ending
  pub judged : PairLine G H (pair_of t) verdict

-- the line of the right thread and all that follows, or why its listing is refused, which is the last line then
abbrev pub RightSays : Graph → TaskValue → Result (List Command) ListingFault → List (List ℕ) → Type 0
RightSays G t (Ok cs) lines =
    (line : List ℕ) × (rest : List (List ℕ)) × (lines ≡ line ∷ rest) × ThreadLine Right (listing_graph cs) line × PlayedAndJudged G (listing_graph cs) t rest
RightSays G t (Err f) lines = lines ≡ listing_line Right f ∷ []

-- the same of the left thread; only after its line is the right listing looked at
abbrev pub LeftSays : TaskValue → Result (List Command) ListingFault → List (List ℕ) → Type 0
LeftSays t (Ok cs) lines =
    (line : List ℕ) × (rest : List (List ℕ)) × (lines ≡ line ∷ rest) × ThreadLine Left (listing_graph cs) line
    × ((r : Result (List Command) ListingFault) × ListingSays t.right r × RightSays (listing_graph cs) t r rest)
LeftSays t (Err f) lines = lines ≡ listing_line Left f ∷ []

abbrev pub TaskSays : TaskValue → List (List ℕ) → Type 0
TaskSays t lines = (l : Result (List Command) ListingFault) × ListingSays t.left l × LeftSays t l lines

-- a text says a task, or has a first fault
abbrev pub TextIs : List ℕ → Result TaskValue TextFault → Type 0
TextIs text (Ok t) = TextSays text t
TextIs text (Err f) = Refused text f

-- the lines of the task, or just that of the fault
abbrev pub LinesAre : Result TaskValue TextFault → List (List ℕ) → Type 0
LinesAre (Ok t) lines = TaskSays t lines
LinesAre (Err f) lines = lines ≡ fault_text f ∷ []

abbrev pub TextTold : List ℕ → List (List ℕ) → Type 0
TextTold text lines = (r : Result TaskValue TextFault) × TextIs text r × LinesAre r lines

-- the transcript of a text
abbrev pub Transcribes : List ℕ → List ℕ → Type 0
Transcribes text written = (lines : List (List ℕ)) × (written ≡ text_of lines) × TextTold text lines
