-- Tests for a replay, for the states at a location, and for the pairs of two summaries that agree.
use Rattle.std.proofs.Common.{arith, ◌≡◌, ℕ, ◌+◌, ◌<◌, Bool, true, false, not, ◌&&◌, ◌||◌, eqb, ltb, leb, List, [], ◌∷◌, length, Ok, Err, sym, refl, ap, ◌∙◌, subst, ap₂, inl, inr, ⊎_elim}
use Rattle.std.proofs.lemmas.Bool.{and_parts, and_from, or_cases, both_ways, not_from_false, not-true, eqb-true, eq-eqb, leb-true, ltb-true}
use Rattle.std.specs.List.{AllByRecursion}
use Rattle.locks.specs.Agreement.{bars, Unbarred}
use Rattle.locks.specs.Decomposition.{Agreeing}
use Rattle.locks.specs.declared.held.Held.{Held}
use Rattle.locks.specs.declared.moves.Move.{Move}
use Rattle.locks.specs.declared.steps.Step.{Step}
use Rattle.locks.specs.declared.together.Configuration.{Configuration}
use Rattle.locks.specs.Graphs.{Graph, step_at, locations}
use Rattle.locks.specs.Moves.{move_named}
use Rattle.locks.specs.Schedules.{Replays, Runs, from_starts, graph_of}
use Rattle.locks.specs.Shortest.{Judged, LeastLength, NoSchedule, Shortest}
use Rattle.locks.specs.States.{State}
use Rattle.locks.specs.Together.{position_of, advance}
use Rattle.locks.specs.Held.{holds}
use Rattle.locks.specs.Sets.{has}
use Rattle.locks.specs.Walks.{Reached, Distance}
use Rattle.locks.proofs.Distances.{reached_states_have_distances_lem, one_distance}
use Rattle.locks.proofs.LeastSum.{shortest_is_the_least_sum_lem, no_shorter}
use Rattle.pairs.specs.declared.answers.AskFault.TheVariants.{TooShort}
use Rattle.pairs.specs.Answers.{AskSays, longest}
use Rattle.pairs.proofs.AskLaws.{one_judgement}
use Rattle.readers.specs.declared.listing.command.Command.{Command}
use Rattle.readers.specs.Graph.{listing_graph}
use Rattle.readers.proofs.Checks.{listing}
use Rattle.readers.specs.Saying.{ListingSays}
use Rattle.readers.specs.GraphLaws.{listing_bounded}
use Rattle.readers.proofs.Saying.{listing_says}
use Rattle.search.specs.declared.entries.Entry.{Entry}
use Rattle.search.specs.Summaries.{state_in, Summary}
use Rattle.search.proofs.SearchLaws.{EntryAt}
use Rattle.worked_threads.specs.Worked.{BothHold, CrossedHistories, NeverFor, AskRefuses, TwoAt}
use Rattle.worked_threads.proofs.Summing.{count_test, count_answer}
use Rattle.worked_threads.proofs.Tests.{implies, implies_says, every, every_says, some, some_says, on, on_says, same_state, state_says}

-- a thread that is read from bytes, with all its entries and no fault

abbrev all_bytes : List ℕ → Bool
all_bytes [] = true
all_bytes (b ∷ bs) = ltb b 256 && all_bytes bs

bytes_say : (bs : List ℕ) → all_bytes bs ≡ true → AllByRecursion (λ b. b < 256) bs
bytes_say [] t = tt
bytes_say (b ∷ bs) t = let p = and_parts (ltb b 256) (all_bytes bs) t in (ltb-true b 256 p.0, bytes_say bs p.1)

pub bytes_read : (bs : List ℕ) (cs : List Command) → all_bytes bs ≡ true → listing bs ≡ Ok cs → ListingSays bs (Ok cs)
bytes_read bs cs t e = listing_says bs (Ok cs) (bytes_say bs t) e

pub record Thread (bytes : List ℕ) (cs : List Command) (es : List Entry) : Type 0 where
  pub bytes_small : all_bytes bytes ≡ true
  pub reads : listing bytes ≡ Ok cs
  pub test : count_test (listing_graph cs) es ≡ true

module _ {bytes : List ℕ} {cs : List Command} {es : List Entry} (thread : Thread bytes cs es) where
  pub said : ListingSays bytes (Ok cs)
  said = bytes_read bytes cs thread.bytes_small thread.reads

  pub summary : Summary (listing_graph cs) es
  summary = (count_answer (listing_graph cs) es thread.test).says.1

  pub judged : Judged (listing_graph cs)
  judged =
      record {
        bounded = listing_bounded cs said.1;
        faultless = (count_answer (listing_graph cs) es thread.test).says.0.1;
      }

-- replays

abbrev pub replay_test : Graph → Graph → ℕ → ℕ → Configuration → List ℕ → Bool
replay_test G H a b c [] = eqb c.left.location a && eqb c.right.location b
replay_test G H a b c (n ∷ ns) =
    on (move_named n) (λ m. on (step_at (graph_of m.side G H) (position_of m.side c).location m.choice) (λ s. on (advance m.side s c) (λ d. replay_test G H a b d ns)))

replay_runs : (G H : Graph) (a b : ℕ) (c : Configuration) (ns : List ℕ) → replay_test G H a b c ns ≡ true → (d : Configuration) × Runs G H c ns d × (d.left.location ≡ a) × (d.right.location ≡ b)
replay_runs G H a b c [] t =
    let p = and_parts (eqb c.left.location a) (eqb c.right.location b) t in
    (c, refl, eqb-true c.left.location a p.0, eqb-true c.right.location b p.1)
replay_runs G H a b c (n ∷ ns) t =
    let ahead : Configuration → Bool = λ d. replay_test G H a b d ns in
    let taken : Move → Step → Bool = λ m s. on (advance m.side s c) ahead in
    let there : Move → Bool = λ m. on (step_at (graph_of m.side G H) (position_of m.side c).location m.choice) (taken m) in
    let p = on_says (move_named n) there t in
    let m = p.0 in
    let q = on_says (step_at (graph_of m.side G H) (position_of m.side c).location m.choice) (taken m) p.2 in
    let s = q.0 in
    let r = on_says (advance m.side s c) ahead q.2 in
    let later = replay_runs G H a b r.0 ns r.2 in
    (later.0, (r.0, record { move = m; step = s; names = record { named = p.1; there = q.1 }; taken = r.1 }, later.1), later.2, later.3)

replays : (G H : Graph) (a b : ℕ) (ns : List ℕ) → replay_test G H a b (from_starts G H) ns ≡ true → Replays G H a b ns
replays G H a b ns t =
    let r = replay_runs G H a b (from_starts G H) ns t in
    record { last = r.0; runs = r.1; left_there = r.2; right_there = r.3 }

-- agreement

abbrev unbarred_by : Held → List Held → Bool
unbarred_by k [] = true
unbarred_by k (m ∷ ms) = not (bars k m) && unbarred_by k ms

abbrev unbarred : List Held → List Held → Bool
unbarred [] ms = true
unbarred (k ∷ ks) ms = unbarred_by k ms && unbarred ks ms

says_unbarred_by : (k : Held) (ms : List Held) → AllByRecursion (λ m. bars k m ≡ false) ms → unbarred_by k ms ≡ true
says_unbarred_by k [] a = refl
says_unbarred_by k (m ∷ ms) a =
    and_from (not (bars k m)) (unbarred_by k ms) (not_from_false (bars k m) a.0) (says_unbarred_by k ms a.1)

says_unbarred : (ks ms : List Held) → Unbarred ks ms → unbarred ks ms ≡ true
says_unbarred [] ms a = refl
says_unbarred (k ∷ ks) ms a =
    and_from (unbarred_by k ms) (unbarred ks ms) (says_unbarred_by k ms a.0) (says_unbarred ks ms a.1)

abbrev agreeing_test : ℕ → ℕ → State → State → Bool
agreeing_test a b σ τ = eqb σ.location a && (eqb τ.location b && unbarred σ.held τ.held)

says_agreeing : (a b : ℕ) (σ τ : State) → Agreeing a b σ τ → agreeing_test a b σ τ ≡ true
says_agreeing a b σ τ g =
    let near = and_from (eqb τ.location b) (unbarred σ.held τ.held) (eq-eqb τ.location b g.right_there) (says_unbarred σ.held τ.held g.agree) in
    and_from (eqb σ.location a) (eqb τ.location b && unbarred σ.held τ.held) (eq-eqb σ.location a g.left_there) near

-- the sums of the distances of agreeing states at the pair pass
abbrev pub sums_test : List Entry → List Entry → ℕ → ℕ → (ℕ → Bool) → Bool
sums_test es fs a b g =
    every (λ i e. every (λ j f. implies (agreeing_test a b (state_in e) (state_in f)) (g (e.distance + f.distance))) fs) es

at_distance : (G : Graph) (es : List Entry) → Summary G es → (σ : State) (d : ℕ) → Distance G σ d → EntryAt es σ d
at_distance G es s σ d p =
    let l = s.all_reached σ (p.0.0, p.0.1) in
    let far = subst (λ x. Distance G x l.1.distance) l.3 (s.no_nearer l.0 l.1 l.2) in
    (l.0, l.1, l.2, l.3, one_distance G σ l.1.distance d far p)

sums_say : (G H : Graph) (es fs : List Entry) → Summary G es → Summary H fs → (a b : ℕ) (g : ℕ → Bool) → sums_test es fs a b g ≡ true
    → (σ τ : State) (d e : ℕ) → Distance G σ d → Distance H τ e → Agreeing a b σ τ → g (d + e) ≡ true
sums_say G H es fs s t a b g test σ τ d e p q agree =
    let x = at_distance G es s σ d p in
    let y = at_distance H fs t τ e q in
    let left = x.1 in
    let right = y.1 in
    let pair : Entry → Entry → Bool = λ k m. implies (agreeing_test a b (state_in k) (state_in m)) (g (k.distance + m.distance)) in
    let row = every_says (λ i k. every (λ j m. pair k m) fs) es test x.0 left x.2 in
    let cell = every_says (λ j m. pair left m) fs row y.0 right y.2 in
    let there = subst (λ z. Agreeing a b z (state_in right)) (sym x.3) (subst (λ z. Agreeing a b σ z) (sym y.3) agree) in
    let passed = implies_says (agreeing_test a b (state_in left) (state_in right)) (g (left.distance + right.distance)) cell (says_agreeing a b (state_in left) (state_in right) there) in
    subst (λ n. g n ≡ true) (ap₂ (λ m n. m + n) x.4 y.4) passed

module _ {left right : List ℕ} {cs ds : List Command} {es fs : List Entry} (L : Thread left cs es) (R : Thread right ds fs) (a b : ℕ) where
  abbrev pub shortest_test : List ℕ → Bool
  shortest_test ns =
      replay_test (listing_graph cs) (listing_graph ds) a b (from_starts (listing_graph cs) (listing_graph ds)) ns && sums_test es fs a b (leb (length ns))

  pub shortest : (ns : List ℕ) → shortest_test ns ≡ true → Shortest (listing_graph cs) (listing_graph ds) a b ns
  shortest ns t =
      let G = listing_graph cs in
      let H = listing_graph ds in
      let p = and_parts (replay_test G H a b (from_starts G H) ns) (sums_test es fs a b (leb (length ns))) t in
      let r = replays G H a b ns p.0 in (
        r,
        record {
          schedule = ns;
          replays = r;
          long = refl;
          none_shorter = no_shorter G H (judged L) (judged R) a b (length ns) (λ σ τ d e x y agree.
              leb-true (length ns) (d + e) (sums_say G H es fs (summary L) (summary R) a b (leb (length ns)) p.1 σ τ d e x y agree));
        },
      )

  pub never : sums_test es fs a b (λ n. false) ≡ true → NoSchedule (listing_graph cs) (listing_graph ds) a b
  never t =
      let G = listing_graph cs in
      let H = listing_graph ds in
      (shortest_is_the_least_sum_lem G H (judged L) (judged R) a b).never_reached (λ σ τ r u agree.
      let x = reached_states_have_distances_lem G σ r in
      let y = reached_states_have_distances_lem H τ u in
      both_ways false refl (sums_say G H es fs (summary L) (summary R) a b (λ n. false) t σ τ x.0 y.0 x.1 y.1 agree))

-- the states at a location

abbrev at_test : List Entry → State → ℕ → Bool
at_test es σ d = some (λ i e. same_state (state_in e) σ && eqb e.distance d) es

at_says : (G : Graph) (es : List Entry) → Summary G es → (σ : State) (d : ℕ) → at_test es σ d ≡ true → Distance G σ d
at_says G es s σ d t =
    let r = some_says (λ i e. same_state (state_in e) σ && eqb e.distance d) es t in
    let e = r.1 in
    let p = and_parts (same_state (state_in e) σ) (eqb e.distance d) r.3 in
    subst (Distance G σ) (eqb-true e.distance d p.1)
    (subst (λ x. Distance G x e.distance) (state_says (state_in e) σ p.0) (s.no_nearer r.0 e r.2))

abbrev among_test : List Entry → ℕ → State → State → Bool
among_test es l σ τ = every (λ i e. implies (eqb e.state.location l) (same_state (state_in e) σ || same_state (state_in e) τ)) es

abbrev pub two_test : List Entry → ℕ → State → State → ℕ → ℕ → Bool
two_test es l σ τ d e = at_test es σ d && (at_test es τ e && among_test es l σ τ)

pub two_at : (G : Graph) (es : List Entry) → Summary G es → (l : ℕ) (σ τ : State) (d e : ℕ) → two_test es l σ τ d e ≡ true → TwoAt G l σ τ d e
two_at G es s l σ τ d e t =
    let p = and_parts (at_test es σ d) (at_test es τ e && among_test es l σ τ) t in
    let q = and_parts (at_test es τ e) (among_test es l σ τ) p.1 in
    record {
      first = at_says G es s σ d p.0;
      second = at_says G es s τ e q.0;
      no_other = λ ρ r there.
          let x = s.all_reached ρ r in
          let k = x.1 in
          let either = same_state (state_in k) σ || same_state (state_in k) τ in
          let here = every_says (λ i y. implies (eqb y.state.location l) (same_state (state_in y) σ || same_state (state_in y) τ)) es q.1 x.0 k x.2 in
          let found = implies_says (eqb k.state.location l) either here (eq-eqb k.state.location l (ap (λ y. y.location) x.3 ∙ there)) in
          ⊎_elim
          (λ m. inl (sym x.3 ∙ state_says (state_in k) σ m))
          (λ m. inr (sym x.3 ∙ state_says (state_in k) τ m))
          (or_cases (same_state (state_in k) σ) (same_state (state_in k) τ) found);
    }

-- why a pair is never reached

-- all locked states at the pair pass, by twos
abbrev pub there_test : List Entry → List Entry → ℕ → ℕ → (State → State → Bool) → Bool
there_test es fs a b g =
    every (λ i e. every (λ j f. implies (eqb e.state.location a && eqb f.state.location b) (g (state_in e) (state_in f))) fs) es

there_says : (G H : Graph) (es fs : List Entry) → Summary G es → Summary H fs → (a b : ℕ) (g : State → State → Bool) → there_test es fs a b g ≡ true
    → (σ τ : State) → Reached G σ → Reached H τ → σ.location ≡ a → τ.location ≡ b → g σ τ ≡ true
there_says G H es fs s t a b g test σ τ r u p q =
    let x = s.all_reached σ r in
    let y = t.all_reached τ u in
    let e = x.1 in
    let f = y.1 in
    let pair : Entry → Entry → Bool = λ k m. implies (eqb k.state.location a && eqb m.state.location b) (g (state_in k) (state_in m)) in
    let cell = every_says (λ j m. pair e m) fs (every_says (λ i k. every (λ j m. pair k m) fs) es test x.0 e x.2) y.0 f y.2 in
    let here = and_from (eqb e.state.location a) (eqb f.state.location b) (eq-eqb e.state.location a (ap (λ z. z.location) x.3 ∙ p)) (eq-eqb f.state.location b (ap (λ z. z.location) y.3 ∙ q)) in
    let passed = implies_says (eqb e.state.location a && eqb f.state.location b) (g (state_in e) (state_in f)) cell here in
    subst (λ z. g z τ ≡ true) x.3 (subst (λ z. g (state_in e) z ≡ true) y.3 passed)

abbrev pub both_hold : ℕ → State → State → Bool
both_hold k σ τ = holds k σ.held && holds k τ.held

abbrev crossed_held : List Held → List Held → Bool
crossed_held (k ∷ []) (m ∷ []) = not (eqb k.lock m.lock) && (has m.lock k.history && has k.lock m.history)
crossed_held ks ms = false

abbrev pub crossed : State → State → Bool
crossed σ τ = crossed_held σ.held τ.held

crossed_by : (σ τ : State) (ks ms : List Held) → σ.held ≡ ks → τ.held ≡ ms → crossed_held ks ms ≡ true → CrossedHistories σ τ
crossed_by σ τ [] ms d e t = absurd (both_ways false refl t)
crossed_by σ τ (k ∷ []) [] d e t = absurd (both_ways false refl t)
crossed_by σ τ (k ∷ l ∷ ks) ms d e t = absurd (both_ways false refl t)
crossed_by σ τ (k ∷ []) (m ∷ n ∷ ms) d e t = absurd (both_ways false refl t)
crossed_by σ τ (k ∷ []) (m ∷ []) d e t =
    let p = and_parts (not (eqb k.lock m.lock)) (has m.lock k.history && has k.lock m.history) t in
    let q = and_parts (has m.lock k.history) (has k.lock m.history) p.1 in
    record {
      k = k;
      m = m;
      left_holds = d;
      right_holds = e;
      differ = λ z. both_ways (eqb k.lock m.lock) (not-true (eqb k.lock m.lock) p.0) (eq-eqb k.lock m.lock z);
      right_in_left = q.0;
      left_in_right = q.1;
    }

module _ {left right : List ℕ} {cs ds : List Command} {es fs : List Entry} (L : Thread left cs es) (R : Thread right ds fs) (a b : ℕ) where
  pub never_crossed : sums_test es fs a b (λ n. false) ≡ true → there_test es fs a b crossed ≡ true → NeverFor (listing_graph cs) (listing_graph ds) a b CrossedHistories
  never_crossed t u =
      record {
        never = never L R a b t;
        why = λ σ τ r v p q. crossed_by σ τ σ.held τ.held refl refl (there_says (listing_graph cs) (listing_graph ds) es fs (summary L) (summary R) a b crossed u σ τ r v p q);
      }

  pub never_holding : (k : ℕ) → sums_test es fs a b (λ n. false) ≡ true → there_test es fs a b (both_hold k) ≡ true → NeverFor (listing_graph cs) (listing_graph ds) a b (BothHold k)
  never_holding k t u =
      record {
        never = never L R a b t;
        why = λ σ τ r v p q. and_parts (holds k σ.held) (holds k τ.held) (there_says (listing_graph cs) (listing_graph ds) es fs (summary L) (summary R) a b (both_hold k) u σ τ r v p q);
      }

-- a list that is too short for a shortest schedule

abbrev pub short_test : Graph → Graph → ℕ → ℕ → ℕ → List ℕ → Bool
short_test G H a b k ns = ltb a (locations G) && (ltb b (locations H) && (ltb k (length ns) && leb (length ns) longest))

pub too_short : (G H : Graph) (a b k : ℕ) (ns : List ℕ) → Shortest G H a b ns → short_test G H a b k ns ≡ true → AskRefuses G H a b k 18 (length ns)
too_short G H a b k ns s t =
    let p = and_parts (ltb a (locations G)) (ltb b (locations H) && (ltb k (length ns) && leb (length ns) longest)) t in
    let q = and_parts (ltb b (locations H)) (ltb k (length ns) && leb (length ns) longest) p.1 in
    let r = and_parts (ltb k (length ns)) (leb (length ns) longest) q.1 in
    let says : AskSays (λ s. Unit {0}) (λ s. ⊥) (NoSchedule G H a b) (LeastLength G H a b) G H a b k (Err (TooShort (length ns))) = (
      tt,
      tt,
      (ltb-true a (locations G) p.0, ltb-true b (locations H) q.0),
      s.1,
      ltb-true k (length ns) r.0,
    ) in
    record {
      fault = TooShort (length ns);
      answer = λ list e.
          let here = subst (λ n. AskSays (λ s. Unit {0}) (λ s. ⊥) (NoSchedule G H a b) (LeastLength G H a b) G H a b n (Err (TooShort (length ns)))) (sym e) says in
          record {
            says = here;
            only = λ x f. one_judgement (λ s. Unit {0}) (λ s. ⊥) G H a b (length list) (λ s n h. n) (Err (TooShort (length ns))) x here f;
            moves = tt;
            list = refl;
            not_long = λ _ _ n l. let p = l.none_shorter ns s.0 in let q = leb-true (length ns) longest r.1 in omega arith;
          };
      refusal = refl;
    }
