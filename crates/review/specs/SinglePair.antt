-- What is answered of one pair of two listings.
use Rattle.std.specs.Prelude.{◌≡◌, ℕ, ◌*◌, ◌/◌, ◌<◌, ◌≤◌, ◌⊎◌, List, ◌++◌, length, drop, take, vec_items, Some, None, Option, Ok, Err, Result}
use Rattle.std.specs.List.{slice_get, flat_map}
use Rattle.locks.specs.declared.refusals.Refusal.{Refusal}
use Rattle.locks.specs.declared.together.Side.{Side}
use Rattle.locks.specs.Graphs.{Graph}
use Rattle.pairs.specs.Answers.{ask_refusal, longest}
use Rattle.pairs.specs.declared.answers.AskFault.TheVariants.{NoLocation, TooShort}
use Rattle.pairs.specs.declared.answers.Verdict.{Verdict}
use Rattle.pairs.specs.declared.answers.Verdict.TheVariants.{Never, Reached}
use Rattle.readers.specs.declared.listing.command.Command as listed
use Rattle.readers.specs.declared.listing.fault.ListingFault.{ListingFault}
use Rattle.readers.specs.Encoding.{two_bytes}
use Rattle.readers.specs.Faults.{listing_refusal}
use Rattle.readers.specs.Graph.{listing_graph}
use Rattle.readers.specs.Saying.{ListingSays}
use Rattle.runs.specs.declared.calls.Answer.{Answer}
use Rattle.runs.specs.declared.calls.Answer.TheVariants as back
use Rattle.runs.specs.Scripts.{written, blank}
use Rattle.search.specs.declared.faults.SummariseFault.{SummariseFault}
use Rattle.search.specs.declared.threads.Pair.{Pair}
use Rattle.search.specs.Faults.{summarise_refusal}
use Rattle.review.specs.declared.entry.room.VerdictRoom.{VerdictRoom}
use Rattle.review.specs.Asking.{ByAnswers}
use Rattle.review.specs.Cases.{BySummaries, ByPair}

-- there is room for three calls, which are none yet, and the list has a place for each move of a shortest schedule
abbrev pub RoomMade : VerdictRoom → Type 0
RoomMade room = (written room.script ≡ blank 3) × (length (vec_items room.list) ≡ longest)

-- each move is two bytes, the higher first
abbrev pub moves_bytes : List ℕ → List ℕ
moves_bytes ms = flat_map two_bytes ms

-- a shortest schedule stands at the front of the run, or has no room there: that is for half as many moves as it has bytes
abbrev pub MovesSay : List ℕ → List ℕ → Result Verdict Refusal → List ℕ → Type 0
MovesSay moves before q after =
    ((length before / 2 < length moves) × (q ≡ Err (ask_refusal (TooShort (length moves)))) × (after ≡ before))
    ⊎ ((length moves ≤ length before / 2) × (q ≡ Ok (Reached (length moves))) × (after ≡ moves_bytes moves ++ drop (2 * length moves) before))

-- the answer to an ask, and the run of bytes after it
abbrev pub PairSays : Graph → Graph → Pair → List ℕ → Result Verdict Refusal → List ℕ → Type 0
PairSays G H p before q after =
    ByPair G H p (λ s. (q ≡ Err (ask_refusal (NoLocation s))) × (after ≡ before)) ((q ≡ Ok Never) × (after ≡ before)) (λ moves. MovesSay moves before q after)

-- the answer is the refusal of this fault, whichever thread it arose in, and the run stays
abbrev pub RefusalAnswered : List ℕ → Result Verdict Refusal → List ℕ → Side → SummariseFault → Type 0
RefusalAnswered before q after s f = (q ≡ Err (summarise_refusal f)) × (after ≡ before)

-- the refusal of a summary, or the answer to the ask
abbrev pub GraphsSay : Graph → Graph → Pair → List ℕ → Result Verdict Refusal → List ℕ → Type 0
GraphsSay G H p before q after = BySummaries G H (RefusalAnswered before q after) (PairSays G H p before q after)

-- the refusal of a listing, the left one first, or the answer by their graphs
abbrev pub ListingsSay : List ℕ → List ℕ → Pair → List ℕ → Result Verdict Refusal → List ℕ → Type 0
ListingsSay l r p before q after =
    ((f : ListingFault) × ListingSays l (Err f) × (q ≡ Err (listing_refusal f)) × (after ≡ before))
    ⊎ (((cs : List listed.Command) × (f : ListingFault) × ListingSays l (Ok cs) × ListingSays r (Err f) × (q ≡ Err (listing_refusal f)) × (after ≡ before))
    ⊎ ((cs : List listed.Command) × (ds : List listed.Command) × ListingSays l (Ok cs) × ListingSays r (Ok ds) × GraphsSay (listing_graph cs) (listing_graph ds) p before q after))

-- what the answer to an ask says
abbrev pub AskTold : {A B : Type 0} → Option (Answer A B) → List ℕ → Result Verdict Refusal → List ℕ → Type 0
AskTold (Some (back.Asked (Ok (Reached n)) list)) before q after = n ≤ length (vec_items list) → 2 * n ≤ length before → (q ≡ Ok (Reached n)) × (after ≡ moves_bytes (take n (vec_items list)) ++ drop (2 * n) before)
AskTold (Some (back.Asked (Ok Never) list)) before q after = (q ≡ Ok Never) × (after ≡ before)
AskTold (Some (back.Asked (Err f) list)) before q after = (q ≡ Err (ask_refusal f)) × (after ≡ before)
AskTold (Some (back.ExchangedFirst k)) before q after = Unit {0}
AskTold (Some (back.ExchangedSecond k)) before q after = Unit {0}
AskTold (Some (back.Summarised r)) before q after = Unit {0}
AskTold (Some (back.Entry e)) before q after = Unit {0}
AskTold (Some (back.Replayed r ms)) before q after = Unit {0}
AskTold None before q after = Unit {0}

-- what the answers of a run say: the refusal of a summary, or the answer to the ask
abbrev pub Ran : {A B : Type 0} → List (Answer A B) → List ℕ → Result Verdict Refusal → List ℕ → Type 0
Ran answers before q after = ByAnswers answers (RefusalAnswered before q after) (AskTold (slice_get answers 2) before q after)
