-- The lines of a transcript, byte by byte.
use Rattle.std.specs.Prelude.{◌≡◌, ℕ, List, [], ◌∷◌, ◌++◌, codes, decimal, Some, None, Ok, Err, Option, Result}
use Rattle.std.specs.List.{flat_map}
use Rattle.locks.specs.declared.moves.Move.{Move}
use Rattle.locks.specs.declared.together.Configuration.{Configuration}
use Rattle.locks.specs.declared.together.Side.{Side}
use Rattle.locks.specs.declared.together.Side.TheVariants.{Left, Right}
use Rattle.locks.specs.Moves.{move_named}
use Rattle.locks.specs.Printed.{move_text, configuration_text}
use Rattle.locks.specs.Refusals.{refusal_text}
use Rattle.pairs.specs.Answers.{Answer, ask_refusal}
use Rattle.pairs.specs.declared.answers.Verdict.TheVariants.{Never, Reached}
use Rattle.readers.specs.declared.listing.fault.ListingFault.{ListingFault}
use Rattle.readers.specs.Faults.{listing_refusal}
use Rattle.search.specs.declared.faults.SummariseFault.{SummariseFault}
use Rattle.search.specs.declared.replaying.ReplayFault.{ReplayFault}
use Rattle.search.specs.declared.threads.Pair.{Pair}
use Rattle.search.specs.Faults.{summarise_refusal}
use Rattle.search.specs.Replaying.{replay_refusal}

-- a line and its LF
abbrev pub ended : List ℕ → List ℕ
ended line = line ++ 10 ∷ []

-- the lines, one after another
abbrev pub text_of : List (List ℕ) → List ℕ
text_of lines = flat_map ended lines

-- lines of which this holds are added to a text
abbrev pub Adds : (List (List ℕ) → Type 0) → List ℕ → List ℕ → Type 0
Adds Says before after = (lines : List (List ℕ)) × (after ≡ before ++ text_of lines) × Says lines

-- a line of which this holds is added
abbrev pub AddsLine : (List ℕ → Type 0) → List ℕ → List ℕ → Type 0
AddsLine Says before after = (line : List ℕ) × (after ≡ before ++ ended line) × Says line

abbrev pub side_name : Side → List ℕ
side_name Left = codes "left"
side_name Right = codes "right"

-- why the listing of a thread is refused
abbrev pub listing_line : Side → ListingFault → List ℕ
listing_line s f = side_name s ++ (codes ": " ++ refusal_text (listing_refusal f))

-- how many locked states a thread reaches alone, or why its summary is refused
abbrev pub states_text : Result ℕ SummariseFault → List ℕ
states_text (Ok n) = codes "locked states " ++ decimal n
states_text (Err f) = refusal_text (summarise_refusal f)

-- how many locations a thread has, and what became of its summary
abbrev pub thread_line : Side → ℕ → Result ℕ SummariseFault → List ℕ
thread_line s n r = side_name s ++ (codes ": locations " ++ (decimal n ++ (codes ", " ++ states_text r)))

-- where both threads are at first
abbrev pub start_line : Configuration → List ℕ
start_line c = codes "start: " ++ configuration_text c

-- a move, and where both threads are after it
abbrev pub move_line : Move → Configuration → List ℕ
move_line m c = move_text m ++ (codes ": " ++ configuration_text c)

-- whether a schedule of n moves replays to the pair, or why not
abbrev pub replay_line : Pair → ℕ → Result (Unit {0}) ReplayFault → List ℕ
replay_line p n (Ok u) = codes "replays to " ++ (decimal p.left ++ (codes " " ++ (decimal p.right ++ (codes ", moves " ++ decimal n))))
replay_line p n (Err f) = refusal_text (replay_refusal f)

-- a move after a space, if the number names one
abbrev pub spaced_move : Option Move → List ℕ
spaced_move None = []
spaced_move (Some m) = codes " " ++ move_text m

abbrev pub moves_text : List ℕ → List ℕ
moves_text ns = flat_map (λ n. spaced_move (move_named n)) ns

-- what is answered of the pair, with the moves of a schedule to it
abbrev pub pair_line : Pair → Answer → List ℕ → List ℕ
pair_line p (Ok Never) ns = decimal p.left ++ (codes " " ++ (decimal p.right ++ codes " never"))
pair_line p (Ok (Reached n)) ns =
    decimal p.left ++ (codes " " ++ (decimal p.right ++ (codes " reached " ++ (decimal n ++ (codes ":" ++ moves_text ns)))))
pair_line p (Err f) ns = refusal_text (ask_refusal f)
