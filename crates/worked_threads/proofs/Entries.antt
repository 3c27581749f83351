-- Entries of a summary, made from the step by which each state after the start is reached.
use Rattle.std.proofs.Common.{◌≡◌, ℕ, zero, suc, ◌+◌, min, List, [], ◌∷◌, ◌++◌, reverse, length, Some, None, Option, refl, ap, arith}
use Rattle.std.specs.List.{slice_get}
use Rattle.locks.specs.Alone.{After, next, waits, nesting_fault, depth_fault, alone}
use Rattle.locks.specs.declared.held.Held.{Held}
use Rattle.locks.specs.declared.states.LockedState.{LockedState}
use Rattle.locks.specs.declared.steps.Step.{Step}
use Rattle.locks.specs.Graphs.{Graph, step_at}
use Rattle.locks.specs.Held.{fresh}
use Rattle.locks.specs.States.{State, beginning}
use Rattle.search.specs.declared.entries.Entry.{Entry}
use Rattle.search.specs.Summaries.{state_in}

-- so many locks: those of the list, and then any

abbrev padded : ℕ → List Held → List Held
padded zero hs = []
padded (suc n) [] = fresh 0 ∷ padded n []
padded (suc n) (h ∷ hs) = h ∷ padded n hs

pub length_padded : (n : ℕ) (hs : List Held) → length (padded n hs) ≡ n
length_padded zero hs = refl
length_padded (suc n) [] = ap suc (length_padded n [])
length_padded (suc n) (h ∷ hs) = ap suc (length_padded n hs)

abbrev locked : State → LockedState
locked σ =
    record {
      location = σ.location;
      held = record {
        items = padded 4 (reverse σ.held);
        depth = min 4 (length σ.held);
        whole = length_padded 4 (reverse σ.held);
        few = omega arith;
      };
    }

abbrev entry_of : State → ℕ → ℕ → ℕ → Entry
entry_of σ d parent choice = record { state = locked σ; distance = d; parent = parent; choice = choice }

-- the entry to which step `choice` of the one at place `parent` leads, if it leads on

abbrev after_step : ℕ → ℕ → Entry → After → List Entry
after_step parent choice e (next τ) = entry_of τ (e.distance + 1) parent choice ∷ []
after_step parent choice e waits = []
after_step parent choice e nesting_fault = []
after_step parent choice e depth_fault = []

abbrev by_step : ℕ → ℕ → Entry → Option Step → List Entry
by_step parent choice e None = []
by_step parent choice e (Some s) = after_step parent choice e (alone s (state_in e))

abbrev from_entry : Graph → ℕ → ℕ → Option Entry → List Entry
from_entry G parent choice None = []
from_entry G parent choice (Some e) = by_step parent choice e (step_at G e.state.location choice)

-- parents and choices, in order
abbrev grown : Graph → List Entry → List (ℕ × ℕ) → List Entry
grown G es [] = es
grown G es (w ∷ ws) = grown G (es ++ from_entry G w.0 w.1 (slice_get es w.0)) ws

abbrev pub entries : Graph → List (ℕ × ℕ) → List Entry
entries G ws = grown G (entry_of (beginning G.start) 0 0 0 ∷ []) ws
