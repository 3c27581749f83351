-- What the definitions yield for the worked threads.
use Rattle.std.specs.Prelude.{◌≡◌, ◌≢◌, ℕ, true, ◌⊎◌, List, [], ◌∷◌, length, Some, Ok, Err}
use Rattle.std.specs.List.{slice_get, AllByRecursion}
use Rattle.locks.specs.declared.held.Held.{Held}
use Rattle.locks.specs.declared.refusals.Part.TheVariants.{Summarise, Ask}
use Rattle.locks.specs.declared.sets.LockSet.{LockSet}
use Rattle.locks.specs.Graphs.{Graph}
use Rattle.locks.specs.Held.{holds}
use Rattle.locks.specs.Sets.{none, add, has}
use Rattle.locks.specs.Shortest.{NoSchedule, Shortest}
use Rattle.locks.specs.States.{State}
use Rattle.locks.specs.Walks.{Reached, Distance}
use Rattle.pairs.specs.declared.answers.AskFault.{AskFault}
use Rattle.pairs.specs.Answers.{ask_refusal, Answered}
use Rattle.readers.specs.declared.listing.command.Command.{Command}
use Rattle.readers.specs.Graph.{listing_graph}
use Rattle.readers.specs.Saying.{ListingSays}
use Rattle.search.specs.declared.entries.Entry.{Entry}
use Rattle.search.specs.declared.faults.SummariseFault.{SummariseFault}
use Rattle.search.specs.Faults.{summarise_refusal}
use Rattle.search.specs.Summaries.{Apart}
use Rattle.search.specs.Summarising.{Summarised}
use Rattle.worked_threads.specs.Threads.{inner_one, inner_zero, two_ways, outer_given_first, five_taken, four_taken, given_untaken, taken_twice}

-- the bytes say a run of commands, and this holds of the graph that it means
abbrev pub OfThread : List ℕ → (Graph → Type 0) → Type 0
OfThread bytes P = (cs : List Command) × ListingSays bytes (Ok cs) × P (listing_graph cs)

abbrev pub OfThreads : List ℕ → List ℕ → (Graph → Graph → Type 0) → Type 0
OfThreads left right P = OfThread left (λ G. OfThread right (λ H. P G H))

-- both hold this lock
abbrev pub BothHold : ℕ → State → State → Type 0
BothHold k σ τ = (holds k σ.held ≡ true) × (holds k τ.held ≡ true)

-- each holds one lock, not the same, and each lock is in the other's history
pub record CrossedHistories (σ τ : State) : Type 0 where
  pub k : Held
  pub m : Held
  pub left_holds : σ.held ≡ k ∷ []
  pub right_holds : τ.held ≡ m ∷ []
  pub differ : k.lock ≢ m.lock
  pub right_in_left : has m.lock k.history ≡ true
  pub left_in_right : has k.lock m.history ≡ true

-- no schedule replays to the pair, and why: this holds of any locked states in which the two threads alone are there
pub record NeverFor (G H : Graph) (a b : ℕ) (Why : State → State → Type 0) : Type 0 where
  pub never : NoSchedule G H a b
  pub why : (σ τ : State) → Reached G σ → Reached H τ → σ.location ≡ a → τ.location ≡ b → Why σ τ

-- the thread alone reaches n different locked states and no other, and n is what summarise answers
pub record Counts (G : Graph) (n : ℕ) : Type 0 where
  pub states : List State
  pub count : length states ≡ n
  pub differ : Apart states
  pub reached : AllByRecursion (Reached G) states
  pub no_other : (σ : State) → Reached G σ → (i : ℕ) × (slice_get states i ≡ Some σ)
  pub summary : List Entry
  pub answer : Summarised G (Ok n) summary

-- summarise answers the refusal with this number and place
pub record Refuses (G : Graph) (number place : ℕ) : Type 0 where
  pub fault : SummariseFault
  pub answer : Summarised G (Err fault) []
  pub refusal : summarise_refusal fault ≡ record { number = number; place = place; part = Summarise }

-- where both threads are summarised, ask answers the refusal with this number and place to a list of k places,
-- whatever stands in it
pub record AskRefuses (G H : Graph) (a b k number place : ℕ) : Type 0 where
  pub fault : AskFault
  pub answer : (list : List ℕ) → length list ≡ k → Answered (λ s. Unit {0}) (λ s. ⊥) G H a b list (Err fault) list
  pub refusal : ask_refusal fault ≡ record { number = number; place = place; part = Ask }

-- lock 0 alone is held, with this history
abbrev pub holding_zero : ℕ → LockSet → State
holding_zero l history = record { location = l; held = record { lock = 0; history = history } ∷ [] }

-- these two locked states and no other are reached at the location, at these distances
pub record TwoAt (G : Graph) (l : ℕ) (σ τ : State) (d e : ℕ) : Type 0 where
  pub first : Distance G σ d
  pub second : Distance G τ e
  pub no_other : (ρ : State) → Reached G ρ → ρ.location ≡ l → (ρ ≡ σ) ⊎ (ρ ≡ τ)

pub record WorkedThreadsComeOut : Type 0 where
  pub both_starts : OfThreads inner_one inner_zero (λ G H. Shortest G H 0 0 [])
  pub left_first : OfThreads inner_one inner_zero (λ G H. Shortest G H 3 1 (0 ∷ 0 ∷ 0 ∷ 256 ∷ []))
  pub left_first_in_a_short_list : OfThreads inner_one inner_zero (λ G H. AskRefuses G H 3 1 3 18 4)
  pub right_first : OfThreads inner_one inner_zero (λ G H. Shortest G H 1 3 (256 ∷ 256 ∷ 256 ∷ 0 ∷ []))
  pub never_by_histories : OfThreads inner_one inner_zero (λ G H. NeverFor G H 3 3 CrossedHistories)
  pub never_with_a_lock_in_common : OfThreads inner_one inner_zero (λ G H. NeverFor G H 2 1 (BothHold 1))
  pub by_the_short_way : OfThreads two_ways inner_zero (λ G H. Shortest G H 5 3 (256 ∷ 256 ∷ 256 ∷ 0 ∷ 1 ∷ []))
  pub inner_one_states : OfThread inner_one (λ G. Counts G 4)
  pub inner_zero_states : OfThread inner_zero (λ G. Counts G 4)
  pub two_ways_states : OfThread two_ways (λ G. Counts G 7)
  pub two_ways_meet : OfThread two_ways (λ G. TwoAt G 5 (holding_zero 5 none) (holding_zero 5 (add 1 none)) 2 5)
  pub outer_given_first_refused : OfThread outer_given_first (λ G. Refuses G 14 32)
  pub five_taken_refused : OfThread five_taken (λ G. Refuses G 15 64)
  pub four_taken_states : OfThread four_taken (λ G. Counts G 5)
  pub given_untaken_states : OfThread given_untaken (λ G. Counts G 1)
  pub taken_twice_states : OfThread taken_twice (λ G. Counts G 2)
