-- A test that entries are a graph's summary, and a test for the least place of a fault.
use Rattle.std.proofs.Common.{◌≡◌, ℕ, zero, suc, ◌+◌, ◌<◌, ◌≤◌, Bool, true, false, cond, ◌&&◌, eqb, ltb, leb, List, [], ◌∷◌, map, length, Some, None, Ok, Err, Option, sym, refl, ap, ◌∙◌, subst, arith}
use Rattle.std.proofs.lemmas.List.{length-map}
use Rattle.std.proofs.lemmas.Bool.{and_parts, both_ways, eqb-true, ne_eqb, leb-true, le-leb, ltb-true, cond-false}
use Rattle.std.specs.List.{slice_get}
use Rattle.locks.specs.Alone.{After, next, waits, nesting_fault, depth_fault, alone, fault_of}
use Rattle.locks.specs.declared.faults.Fault.{Fault}
use Rattle.locks.specs.declared.faults.Fault.TheVariants as fault
use Rattle.locks.specs.declared.steps.Step.{Step}
use Rattle.locks.specs.Graphs.{Graph, step_at, steps_at}
use Rattle.locks.specs.States.{State, beginning}
use Rattle.locks.proofs.Basics.{nth_there}
use Rattle.search.specs.declared.entries.Entry.{Entry}
use Rattle.search.specs.declared.faults.SummariseFault.TheVariants.{Reaches}
use Rattle.search.specs.Faults.{EntryFault, Least, place_of}
use Rattle.search.specs.Searching.{Followed, Searched}
use Rattle.search.specs.Summaries.{most_states, state_in, StartEntry, LaterEntry, Tree}
use Rattle.search.specs.Summarising.{Summarised}
use Rattle.search.proofs.SearchLaws.{all_apart, all_reached, listed_lists}
use Rattle.search.proofs.SummaryLaws.{says_ok, refused_nesting, refused_depth, one_answer}
use Rattle.worked_threads.specs.Worked.{Counts, Refuses}
use Rattle.worked_threads.proofs.Tests.{implies, implies_says, every, every_says, some, some_says, on, on_says, same_state, state_says, says_state}

-- what a step comes to

abbrev arrives : After → State → Bool
arrives (next τ) σ = same_state τ σ
arrives waits σ = false
arrives nesting_fault σ = false
arrives depth_fault σ = false

arrives_says : (a : After) (σ : State) → arrives a σ ≡ true → a ≡ next σ
arrives_says (next τ) σ t = ap next (state_says τ σ t)
arrives_says waits σ t = absurd (both_ways false refl t)
arrives_says nesting_fault σ t = absurd (both_ways false refl t)
arrives_says depth_fault σ t = absurd (both_ways false refl t)

abbrev onward : After → (State → Bool) → Bool
onward (next τ) f = f τ
onward waits f = true
onward nesting_fault f = true
onward depth_fault f = true

onward_says : (a : After) (f : State → Bool) (τ : State) → onward a f ≡ true → a ≡ next τ → f τ ≡ true
onward_says a f τ t e = subst (λ x. onward x f ≡ true) e t

-- one entry, two entries, one step of an entry

abbrev start_test : Graph → Entry → Bool
start_test G e =
    same_state (state_in e) (beginning G.start) && (eqb e.distance 0 && (eqb e.parent 0 && eqb e.choice 0))

abbrev led_test : Graph → Entry → Entry → Bool
led_test G e p =
    eqb e.distance (p.distance + 1) && on (step_at G p.state.location e.choice) (λ s. arrives (alone s (state_in p)) (state_in e))

abbrev later_test : Graph → List Entry → ℕ → Entry → Bool
later_test G es i e = ltb e.parent i && on (slice_get es e.parent) (led_test G e)

abbrev entry_test : Graph → List Entry → ℕ → Entry → Bool
entry_test G es i e = leb e.distance i && cond (eqb i 0) (start_test G e) (later_test G es i e)

abbrev pair_test : ℕ → Entry → ℕ → Entry → Bool
pair_test i e j f =
    implies (same_state (state_in e) (state_in f)) (eqb i j) && implies (leb i j) (leb e.distance f.distance)

abbrev near_test : List Entry → Entry → State → Bool
near_test es e τ = some (λ j f. same_state (state_in f) τ && leb f.distance (e.distance + 1)) es

abbrev step_test : List Entry → Entry → ℕ → Step → Bool
step_test es e n s = onward (alone s (state_in e)) (near_test es e)

abbrev whole_test : Graph → List Entry → ℕ → Entry → Bool
whole_test G es i e =
    entry_test G es i e && (every (λ j f. pair_test i e j f) es && every (λ n s. step_test es e n s) (steps_at G e.state.location))

-- the entries are all that a search finds
abbrev pub search_test : Graph → List Entry → Bool
search_test G es = ltb 0 (length es) && (leb (length es) most_states && every (whole_test G es) es)

start_says : (G : Graph) (e : Entry) → start_test G e ≡ true → StartEntry G e
start_says G e t =
    let p = and_parts (same_state (state_in e) (beginning G.start)) (eqb e.distance 0 && (eqb e.parent 0 && eqb e.choice 0)) t in
    let q = and_parts (eqb e.distance 0) (eqb e.parent 0 && eqb e.choice 0) p.1 in
    let r = and_parts (eqb e.parent 0) (eqb e.choice 0) q.1 in
    record {
      start = state_says (state_in e) (beginning G.start) p.0;
      near = eqb-true e.distance 0 q.0;
      no_parent = eqb-true e.parent 0 r.0;
      no_choice = eqb-true e.choice 0 r.1;
    }

later_says : (G : Graph) (es : List Entry) (i : ℕ) (e : Entry) → later_test G es i e ≡ true → LaterEntry G es i e
later_says G es i e t =
    let p = and_parts (ltb e.parent i) (on (slice_get es e.parent) (led_test G e)) t in
    let q = on_says (slice_get es e.parent) (led_test G e) p.1 in
    let from = q.0 in
    let arrived : Step → Bool = λ s. arrives (alone s (state_in from)) (state_in e) in
    let there = step_at G from.state.location e.choice in
    let r = and_parts (eqb e.distance (from.distance + 1)) (on there arrived) q.2 in
    let s = on_says there arrived r.1 in
    record {
      parent_entry = from;
      lower = ltb-true e.parent i p.0;
      there = q.1;
      leads = record { step = s.0; there = s.1; taken = arrives_says (alone s.0 (state_in from)) (state_in e) s.2 };
      further = eqb-true e.distance (from.distance + 1) r.0;
    }

module _ (G : Graph) (es : List Entry) (test : search_test G es ≡ true) where
  some_and_few : (0 < length es) × (length es ≤ most_states) × (every (whole_test G es) es ≡ true)
  some_and_few =
      let p = and_parts (ltb 0 (length es)) (leb (length es) most_states && every (whole_test G es) es) test in
      let q = and_parts (leb (length es) most_states) (every (whole_test G es) es) p.1 in
      (ltb-true 0 (length es) p.0, leb-true (length es) most_states q.0, q.1)

  at_entry : (i : ℕ) (e : Entry) → slice_get es i ≡ Some e
      → (entry_test G es i e ≡ true) × (every (λ j f. pair_test i e j f) es ≡ true) × (every (λ n s. step_test es e n s) (steps_at G e.state.location) ≡ true)
  at_entry i e h =
      let pairs = every (λ j f. pair_test i e j f) es in
      let steps = every (λ n s. step_test es e n s) (steps_at G e.state.location) in
      let p = and_parts (entry_test G es i e) (pairs && steps) (every_says (whole_test G es) es some_and_few.2 i e h) in
      let q = and_parts pairs steps p.1 in
      (p.0, q.0, q.1)

  own : (i : ℕ) (e : Entry) → slice_get es i ≡ Some e → (e.distance ≤ i) × (cond (eqb i 0) (start_test G e) (later_test G es i e) ≡ true)
  own i e h =
      let p = and_parts (leb e.distance i) (cond (eqb i 0) (start_test G e) (later_test G es i e)) (at_entry i e h).0 in
      (leb-true e.distance i p.0, p.1)

  two : (i j : ℕ) (e f : Entry) → slice_get es i ≡ Some e → slice_get es j ≡ Some f → (state_in e ≡ state_in f → i ≡ j) × (i ≤ j → e.distance ≤ f.distance)
  two i j e f h k =
      let same = same_state (state_in e) (state_in f) in
      let p = and_parts (implies same (eqb i j)) (implies (leb i j) (leb e.distance f.distance)) (every_says (λ m g. pair_test i e m g) es (at_entry i e h).1 j f k) in (
        (λ q. eqb-true i j (implies_says same (eqb i j) p.0 (says_state (state_in e) (state_in f) q))),
        (λ q. leb-true e.distance f.distance (implies_says (leb i j) (leb e.distance f.distance) p.1 (le-leb i j q))),
      )

  onwards : (i : ℕ) (e : Entry) → slice_get es i ≡ Some e → (n : ℕ) → Followed G es e n
  onwards i e h n τ l =
      let t = every_says (λ m s. step_test es e m s) (steps_at G e.state.location) (at_entry i e h).2 n l.step l.there in
      let near : ℕ → Entry → Bool = λ j f. same_state (state_in f) τ && leb f.distance (e.distance + 1) in
      let r = some_says near es (onward_says (alone l.step (state_in e)) (near_test es e) τ t l.taken) in
      let f = r.1 in
      let p = and_parts (same_state (state_in f) τ) (leb f.distance (e.distance + 1)) r.3 in
      (f.distance, listed_lists es τ f.distance (r.0, f, r.2, state_says (state_in f) τ p.0, refl), leb-true f.distance (e.distance + 1) p.1)

  tree : Tree G es
  tree =
      record {
        first = λ e h. start_says G e (own 0 e h).1;
        later = λ i e b h.
            later_says G es i e
            (sym (cond-false (eqb i 0) (start_test G e) (later_test G es i e) (ne_eqb i 0 (λ z. absurd (omega arith)))) ∙ (own i e h).1);
        differ = λ i j e f h k same. (two i j e f h k).0 same;
      }

  pub searched : Searched G es (length es)
  searched =
      record {
        tree = tree;
        some = some_and_few.0;
        head_in = omega arith;
        followed = λ i e b h n. onwards i e h n;
        in_order = λ i j e f o h k. (two i j e f h k).1 o;
        close = λ e f j h k. absurd (let z = nth_there es (length es) e h in omega arith);
        near = λ i e h. (own i e h).0;
      }

  pub few_entries : length es ≤ most_states
  few_entries = some_and_few.1

-- faults

abbrev is_fault : Fault → After → Bool
is_fault f (next τ) = false
is_fault f waits = false
is_fault fault.Nesting nesting_fault = true
is_fault fault.Depth nesting_fault = false
is_fault fault.Nesting depth_fault = false
is_fault fault.Depth depth_fault = true

fault_says : (f : Fault) (a : After) → is_fault f a ≡ true → a ≡ fault_of f
fault_says f (next τ) t = absurd (both_ways false refl t)
fault_says f waits t = absurd (both_ways false refl t)
fault_says fault.Nesting nesting_fault t = refl
fault_says fault.Depth nesting_fault t = absurd (both_ways false refl t)
fault_says fault.Nesting depth_fault t = absurd (both_ways false refl t)
fault_says fault.Depth depth_fault t = refl

says_fault : (f : Fault) → is_fault f (fault_of f) ≡ true
says_fault fault.Nesting = refl
says_fault fault.Depth = refl

-- the places of all faults pass
abbrev places_test : Graph → Fault → List Entry → (ℕ → Bool) → Bool
places_test G f es g =
    every (λ i e. every (λ n s. implies (is_fault f (alone s (state_in e))) (g (place_of (state_in e) n))) (steps_at G e.state.location)) es

-- some fault has the place
abbrev place_test : Graph → Fault → List Entry → ℕ → Bool
place_test G f es p =
    some (λ i e. some (λ n s. is_fault f (alone s (state_in e)) && eqb p (place_of (state_in e) n)) (steps_at G e.state.location)) es

abbrev pub fault_test : Graph → Fault → List Entry → Option ℕ → Bool
fault_test G f es None = places_test G f es (λ q. false)
fault_test G f es (Some p) = place_test G f es p && places_test G f es (leb p)

places_say : (G : Graph) (f : Fault) (es : List Entry) (g : ℕ → Bool) → places_test G f es g ≡ true → (p : ℕ) → EntryFault G f es p → g p ≡ true
places_say G f es g t p h =
    let e = h.1 in
    let σ = state_in e in
    let here : ℕ → Step → Bool = λ n s. implies (is_fault f (alone s σ)) (g (place_of σ n)) in
    let r = every_says (λ i d. every (λ n s. implies (is_fault f (alone s (state_in d))) (g (place_of (state_in d) n))) (steps_at G d.state.location)) es t h.0 e h.3 in
    let q = every_says here (steps_at G e.state.location) r h.2 h.4.0 h.4.1 in
    let is = subst (λ a. is_fault f a ≡ true) (sym h.4.2) (says_fault f) in
    subst (λ x. g x ≡ true) (sym h.5) (implies_says (is_fault f (alone h.4.0 σ)) (g (place_of σ h.2)) q is)

place_says : (G : Graph) (f : Fault) (es : List Entry) (p : ℕ) → place_test G f es p ≡ true → EntryFault G f es p
place_says G f es p t =
    let r = some_says (λ i e. some (λ n s. is_fault f (alone s (state_in e)) && eqb p (place_of (state_in e) n)) (steps_at G e.state.location)) es t in
    let e = r.1 in
    let q = some_says (λ n s. is_fault f (alone s (state_in e)) && eqb p (place_of (state_in e) n)) (steps_at G e.state.location) r.3 in
    let n = q.0 in
    let s = q.1 in
    let a = and_parts (is_fault f (alone s (state_in e))) (eqb p (place_of (state_in e) n)) q.3 in
    (r.0, e, n, r.2, (s, q.2, fault_says f (alone s (state_in e)) a.0), eqb-true p (place_of (state_in e) n) a.1)

least_says : (G : Graph) (f : Fault) (es : List Entry) (o : Option ℕ) → fault_test G f es o ≡ true → Least (EntryFault G f es) o
least_says G f es None t = λ p h. both_ways false refl (places_say G f es (λ q. false) t p h)
least_says G f es (Some p) t =
    let r = and_parts (place_test G f es p) (places_test G f es (leb p)) t in
    (place_says G f es p r.0, λ q h. leb-true p q (places_say G f es (leb p) r.1 q h))

-- the answers of summarise

abbrev pub count_test : Graph → List Entry → Bool
count_test G es = search_test G es && (fault_test G fault.Nesting es None && fault_test G fault.Depth es None)

pub count_answer : (G : Graph) (es : List Entry) → count_test G es ≡ true → Summarised G (Ok (length es)) es
count_answer G es t =
    let free = fault_test G fault.Nesting es None && fault_test G fault.Depth es None in
    let p = and_parts (search_test G es) free t in
    let q = and_parts (fault_test G fault.Nesting es None) (fault_test G fault.Depth es None) p.1 in
    one_answer G (Ok (length es)) es
    (says_ok G es (length es) (searched G es p.0) (few_entries G es p.0) (least_says G fault.Nesting es None q.0) (least_says G fault.Depth es None q.1) refl)

abbrev pub nesting_test : Graph → List Entry → ℕ → Bool
nesting_test G es p = search_test G es && fault_test G fault.Nesting es (Some p)

pub nesting_refuses : (G : Graph) (es : List Entry) (p : ℕ) → nesting_test G es p ≡ true → Refuses G 14 p
nesting_refuses G es p t =
    let r = and_parts (search_test G es) (fault_test G fault.Nesting es (Some p)) t in
    record {
      fault = Reaches fault.Nesting p;
      answer = one_answer G (Err (Reaches fault.Nesting p)) []
          (refused_nesting G es p (searched G es r.0) (few_entries G es r.0) (least_says G fault.Nesting es (Some p) r.1), refl);
      refusal = refl;
    }

abbrev pub depth_test : Graph → List Entry → ℕ → Bool
depth_test G es p = search_test G es && (fault_test G fault.Nesting es None && fault_test G fault.Depth es (Some p))

pub depth_refuses : (G : Graph) (es : List Entry) (p : ℕ) → depth_test G es p ≡ true → Refuses G 15 p
depth_refuses G es p t =
    let r = and_parts (search_test G es) (fault_test G fault.Nesting es None && fault_test G fault.Depth es (Some p)) t in
    let q = and_parts (fault_test G fault.Nesting es None) (fault_test G fault.Depth es (Some p)) r.1 in
    record {
      fault = Reaches fault.Depth p;
      answer = one_answer G (Err (Reaches fault.Depth p)) []
          (refused_depth G es p (searched G es r.0) (few_entries G es r.0) (least_says G fault.Nesting es None q.0) (least_says G fault.Depth es (Some p) q.1), refl);
      refusal = refl;
    }

-- the states of a summary, without their entries

listed : (es : List Entry) (i : ℕ) (e : Entry) (σ : State) → slice_get es i ≡ Some e → state_in e ≡ σ → slice_get (map state_in es) i ≡ Some σ
listed [] i e σ h q = cc
listed (x ∷ es) zero e σ h q = let same : x ≡ e = cc in ap Some (ap state_in same ∙ q)
listed (x ∷ es) (suc i) e σ h q = listed es i e σ h q

pub counted : (G : Graph) (es : List Entry) → count_test G es ≡ true → Counts G (length es)
counted G es t =
    let a = count_answer G es t in
    let s = a.says.1 in
    record {
      states = map state_in es;
      count = length-map es state_in;
      differ = all_apart es s.tree.differ;
      reached = all_reached G es s.reached;
      no_other = λ σ r. let l = s.all_reached σ r in (l.0, listed es l.0 l.1 σ l.2 l.3);
      summary = es;
      answer = a;
    }
