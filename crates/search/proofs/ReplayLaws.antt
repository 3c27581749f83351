-- Runs of moves, and that a replay has one answer.
use Rattle.std.proofs.Common.{◌≡◌, ℕ, suc, ◌+◌, ◌<◌, cond, ◌&&◌, eqb, ltb, List, [], ◌∷◌, ◌++◌, length, get_or, take, drop, Some, None, Ok, Err, Option, Result, sym, refl, ap, ◌∙◌, subst, ⊎_elim, append-nil, arith}
use Rattle.std.proofs.lemmas.List.{take_more, length-take-le, take-append-drop, drop_more}
use Rattle.std.proofs.lemmas.Option.{slice_get-get_or}
use Rattle.std.proofs.lemmas.Bool.{eq-eqb, eqb-true, cases_Bool, lt-ltb, le-ltb, cond-true, cond-false, and_from, and_parts}
use Rattle.std.specs.List.{slice_get}
use Rattle.locks.specs.declared.moves.Move.{Move}
use Rattle.locks.specs.declared.steps.Step.{Step}
use Rattle.locks.specs.declared.together.Configuration.{Configuration}
use Rattle.locks.specs.declared.together.Side.TheVariants.{Left, Right}
use Rattle.locks.specs.Graphs.{Graph, locations, step_at}
use Rattle.locks.specs.Moves.{move_named}
use Rattle.locks.specs.Schedules.{NamesStep, Makes, Runs, from_starts, graph_of}
use Rattle.locks.specs.Together.{can, after, position_of}
use Rattle.search.specs.declared.playing.MoveFault.{MoveFault}
use Rattle.search.specs.declared.playing.MoveFault.TheVariants.{NoStep, CannotBeTaken}
use Rattle.search.specs.declared.replaying.ReplayFault.{ReplayFault}
use Rattle.search.specs.declared.replaying.ReplayFault.TheVariants as fault
use Rattle.search.specs.Playing.{NoSuchStep, BlockedStep, Made}
use Rattle.search.specs.Sides.{BothThere}
use Rattle.search.specs.Replaying.{Stops, FailsAt, MovesSay, ReplaySays, Replayed}
use Rattle.locks.proofs.Interleaving.{runs_more}
use Rattle.locks.proofs.Basics.{some_none, some_some, nth_there}

-- one move more at the end of a run

pub run_goes_on : (G H : Graph) (c d e : Configuration) (ns : List ℕ) (i : ℕ) → i < length ns → Runs G H c (take i ns) d → Makes G H d (get_or ns i 0) e → Runs G H c (take (i + 1) ns) e
run_goes_on G H c d e ns i h r m =
    subst (λ xs. Runs G H c xs e) (sym (take_more ns i 0 h)) (runs_more G H c d e (take i ns) (get_or ns i 0) r m)

stops : (G H : Graph) (ns : List ℕ) (i : ℕ) (d : Configuration) (Why : Configuration → ℕ → Type 0) → i < length ns → Runs G H (from_starts G H) (take i ns) d → Why d (get_or ns i 0) → Stops G H ns i Why
stops G H ns i d Why h r w =
    record { here = d; before = r; n = get_or ns i 0; there = slice_get-get_or ns i 0 h; why = w }

stops_by : (G H : Graph) (ns : List ℕ) (i : ℕ) (d : Configuration) (f : MoveFault) → i < length ns → Runs G H (from_starts G H) (take i ns) d → Made G H d (get_or ns i 0) (Err f)
    → FailsAt G H ns i f
stops_by G H ns i d NoStep h r m = stops G H ns i d (NoSuchStep G H) h r m
stops_by G H ns i d CannotBeTaken h r m = stops G H ns i d (BlockedStep G H) h r m

pub stops_there : (G H : Graph) (ns : List ℕ) (i : ℕ) (d : Configuration) (f : MoveFault) (s : ReplayFault) → i < length ns → Runs G H (from_starts G H) (take i ns) d → Made G H d (get_or ns i 0) (Err f)
    → s ≡ fault.Fails f i → MovesSay G H ns (Err s)
stops_there G H ns i d f s h r m e = subst (λ x. MovesSay G H ns (Err x)) (sym e) (stops_by G H ns i d f h r m)

-- the answer as a function, so that there is only one

made_step : Option Step → Move → Configuration → Result Configuration MoveFault
made_step None m c = Err NoStep
made_step (Some s) m c = cond (can m.side s c) (Ok (after m.side s c)) (Err CannotBeTaken)

made_move : Graph → Graph → Option Move → Configuration → Result Configuration MoveFault
made_move G H None c = Err NoStep
made_move G H (Some m) c = made_step (step_at (graph_of m.side G H) (position_of m.side c).location m.choice) m c

made : Graph → Graph → Configuration → ℕ → Result Configuration MoveFault
made G H c n = made_move G H (move_named n) c

named_is : (G H : Graph) (c : Configuration) (n : ℕ) (m : Move) (s : Step) → NamesStep G H c n m s
    → made G H c n ≡ cond (can m.side s c) (Ok (after m.side s c)) (Err CannotBeTaken)
unfolding made made_move made_step
named_is G H c n m s h = ap (λ o. made_move G H o c) h.named ∙ ap (λ o. made_step o m c) h.there

makes_is : (G H : Graph) (c d : Configuration) (n : ℕ) → Makes G H c n d → made G H c n ≡ Ok d
makes_is G H c d n h =
    let side = h.move.side in
    let s = h.step in
    let Y : Result Configuration MoveFault = Ok (after side s c) in
    ⊎_elim
    (λ t. named_is G H c n h.move s h.names ∙ cond-true (can side s c) Y (Err CannotBeTaken) t
    ∙ ap {B = Result Configuration MoveFault} Ok (some_some _ _ (sym (cond-true (can side s c) (Some (after side s c)) None t) ∙ h.taken)))
    (λ f. some_none d (sym h.taken ∙ cond-false (can side s c) (Some (after side s c)) None f))
    (cases_Bool (can side s c))

blocked_is : (G H : Graph) (c : Configuration) (n : ℕ) → BlockedStep G H c n → made G H c n ≡ Err CannotBeTaken
blocked_is G H c n h =
    named_is G H c n h.move h.step h.names ∙ cond-false (can h.move.side h.step c) (Ok (after h.move.side h.step c)) (Err CannotBeTaken) h.cannot

absent_step : (G H : Graph) (c : Configuration) (n : ℕ) → NoSuchStep G H c n → (m : Move) (o : Option Step) → move_named n ≡ Some m
    → step_at (graph_of m.side G H) (position_of m.side c).location m.choice ≡ o → made_step o m c ≡ Err NoStep
unfolding made_step
absent_step G H c n h m None e f = refl
absent_step G H c n h m (Some s) e f = absurd (h m s (record { named = e; there = f }))

absent_move : (G H : Graph) (c : Configuration) (n : ℕ) → NoSuchStep G H c n → (o : Option Move) → move_named n ≡ o → made_move G H o c ≡ Err NoStep
unfolding made_move
absent_move G H c n h None e = refl
absent_move G H c n h (Some m) e = absent_step G H c n h m _ e refl

absent_is : (G H : Graph) (c : Configuration) (n : ℕ) → NoSuchStep G H c n → made G H c n ≡ Err NoStep
unfolding made
absent_is G H c n h = absent_move G H c n h (move_named n) refl

abbrev Answer : Type 0
Answer = Result (Unit {0}) ReplayFault

abbrev ended : ℕ → ℕ → Configuration → ℕ → Answer
ended a b c i = cond (eqb c.left.location a && eqb c.right.location b) (Ok tt) (Err (fault.EndsElsewhere i))

abbrev play_on : Result Configuration MoveFault → ℕ → (Configuration → Answer) → Answer
play_on (Ok d) i go = go d
play_on (Err f) i go = Err (fault.Fails f i)

abbrev play : Graph → Graph → ℕ → ℕ → Configuration → ℕ → List ℕ → Answer
play G H a b c i [] = ended a b c i
play G H a b c i (n ∷ ns) = play_on (made G H c n) i (λ d. play G H a b d (i + 1) ns)

play_runs : (G H : Graph) (a b : ℕ) (c d : Configuration) (i : ℕ) (ns ms : List ℕ) → Runs G H c ns d → play G H a b c i (ns ++ ms) ≡ play G H a b d (i + length ns) ms
play_runs G H a b c d i [] ms r =
    ap (λ x. play G H a b x i ms) r ∙ ap (λ j. play G H a b d j ms) (let e : i ≡ i + 0 = omega arith in e)
play_runs G H a b c d i (n ∷ ns) ms r =
    ap (λ m. play_on m i (λ x. play G H a b x (i + 1) (ns ++ ms))) (makes_is G H c r.0 n r.1)
    ∙ play_runs G H a b r.0 d (i + 1) ns ms r.2
    ∙ ap (λ j. play G H a b d j ms) (let e : (i + 1) + length ns ≡ i + suc (length ns) = omega arith in e)

-- the run of all moves
play_whole : (G H : Graph) (a b : ℕ) (c d : Configuration) (ns : List ℕ) → Runs G H c ns d → play G H a b c 0 ns ≡ ended a b d (length ns)
play_whole G H a b c d ns r =
    ap (λ xs. play G H a b c 0 xs) (sym (append-nil ns)) ∙ play_runs G H a b c d 0 ns [] r
    ∙ ap (λ j. ended a b d j) (let e : 0 + length ns ≡ length ns = omega arith in e)

nth_is : (ns : List ℕ) (i n : ℕ) → slice_get ns i ≡ Some n → get_or ns i 0 ≡ n
nth_is ns i n e = some_some _ _ (sym (slice_get-get_or ns i 0 (nth_there ns i n e)) ∙ e)

split_at : (ns : List ℕ) (i n : ℕ) → slice_get ns i ≡ Some n → ns ≡ take i ns ++ n ∷ drop (i + 1) ns
split_at ns i n e =
    let h = nth_there ns i n e in
    sym (take-append-drop i ns) ∙ ap (λ xs. take i ns ++ xs) (drop_more ns i 0 h)
    ∙ ap (λ x. take i ns ++ x ∷ drop (i + 1) ns) (nth_is ns i n e)

stop_same : (f : MoveFault) (j k : ℕ) (go : Configuration → Answer) → j ≡ k → play_on (Err f) j go ≡ play_on (Err f) k (λ d. Ok tt)
stop_same f j k go p = ap {B = Answer} (λ x. Err (fault.Fails f x)) p

-- the run up to a move that cannot be made
play_stops : (G H : Graph) (a b : ℕ) (ns : List ℕ) (i : ℕ) (Why : Configuration → ℕ → Type 0) (f : MoveFault) → (s : Stops G H ns i Why)
    → made G H s.here s.n ≡ Err f → play G H a b (from_starts G H) 0 ns ≡ play_on (Err f) i (λ d. Ok tt)
play_stops G H a b ns i Why f s e =
    let h = nth_there ns i s.n s.there in
    let j : 0 + length (take i ns) ≡ i = omega (arith, length-take-le i ns (omega arith)) in
    ap (λ xs. play G H a b (from_starts G H) 0 xs) (split_at ns i s.n s.there)
    ∙ play_runs G H a b (from_starts G H) s.here 0 (take i ns) (s.n ∷ drop (i + 1) ns) s.before
    ∙ ap (λ m. play_on m (0 + length (take i ns)) (λ x. play G H a b x (0 + length (take i ns) + 1) (drop (i + 1) ns))) e
    ∙ stop_same f (0 + length (take i ns)) i (λ d. Ok tt) j

replay_answer : Graph → Graph → ℕ → ℕ → List ℕ → Answer
replay_answer G H a b ns =
    cond (ltb a (locations G))
    (cond (ltb b (locations H)) (play G H a b (from_starts G H) 0 ns) (Err (fault.NoLocation Right)))
    (Err (fault.NoLocation Left))

both_answer : (G H : Graph) (a b : ℕ) (ns : List ℕ) → BothThere G H a b → replay_answer G H a b ns ≡ play G H a b (from_starts G H) 0 ns
unfolding replay_answer
both_answer G H a b ns h =
    cond-true (ltb a (locations G)) _ (Err (fault.NoLocation Left)) (lt-ltb a (locations G) h.0)
    ∙ cond-true (ltb b (locations H)) _ (Err (fault.NoLocation Right)) (lt-ltb b (locations H) h.1)

ended_there : (a b : ℕ) (c : Configuration) (n : ℕ) → c.left.location ≡ a → c.right.location ≡ b → ended a b c n ≡ Ok tt
ended_there a b c n p q = cond-true (eqb c.left.location a && eqb c.right.location b) (Ok tt) _ (and_from _ _ (eq-eqb _ a p) (eq-eqb _ b q))

ended_other : (a b : ℕ) (c : Configuration) (n : ℕ) → (c.left.location ≡ a → c.right.location ≡ b → ⊥) → ended a b c n ≡ Err (fault.EndsElsewhere n)
ended_other a b c n o =
    ⊎_elim
    (λ t. let ps = and_parts (eqb c.left.location a) (eqb c.right.location b) t in absurd (o (eqb-true _ a ps.0) (eqb-true _ b ps.1)))
    (λ f. cond-false (eqb c.left.location a && eqb c.right.location b) (Ok tt) (Err (fault.EndsElsewhere n)) f)
    (cases_Bool (eqb c.left.location a && eqb c.right.location b))

says_answer : (G H : Graph) (a b : ℕ) (ns : List ℕ) (s : Answer) → ReplaySays G H a b ns s → s ≡ replay_answer G H a b ns
unfolding replay_answer
says_answer G H a b ns (Ok u) h =
    sym (both_answer G H a b ns h.0 ∙ play_whole G H a b _ h.1.last ns h.1.runs ∙ ended_there a b h.1.last (length ns) h.1.left_there h.1.right_there)
says_answer G H a b ns (Err (fault.NoLocation Left)) h =
    sym (cond-false (ltb a (locations G)) _ (Err (fault.NoLocation Left)) (le-ltb a (locations G) h))
says_answer G H a b ns (Err (fault.NoLocation Right)) h =
    sym (cond-true (ltb a (locations G)) _ (Err (fault.NoLocation Left)) (lt-ltb a (locations G) h.0)
    ∙ cond-false (ltb b (locations H)) _ (Err (fault.NoLocation Right)) (le-ltb b (locations H) h.1))
says_answer G H a b ns (Err (fault.Fails NoStep i)) h =
    sym (both_answer G H a b ns h.0 ∙ play_stops G H a b ns i (NoSuchStep G H) NoStep h.1 (absent_is G H h.1.here h.1.n h.1.why))
says_answer G H a b ns (Err (fault.Fails CannotBeTaken i)) h =
    sym (both_answer G H a b ns h.0 ∙ play_stops G H a b ns i (BlockedStep G H) CannotBeTaken h.1 (blocked_is G H h.1.here h.1.n h.1.why))
says_answer G H a b ns (Err (fault.EndsElsewhere n)) h =
    ap {B = Answer} (λ m. Err (fault.EndsElsewhere m)) h.2
    ∙ sym (both_answer G H a b ns h.0 ∙ play_whole G H a b _ h.1.last ns h.1.runs ∙ ended_other a b h.1.last (length ns) h.1.other)

pub one_answer : (G H : Graph) (a b : ℕ) (ns : List ℕ) (r : Answer) → ReplaySays G H a b ns r → Replayed G H a b ns r
one_answer G H a b ns r h =
    record { says = h; only = λ s k. says_answer G H a b ns s k ∙ sym (says_answer G H a b ns r h) }
