-- What the answers to the calls of a review say of its threads and its pairs.
use Rattle.std.proofs.Common.{◌≡◌, ℕ, zero, suc, ◌+◌, ◌-◌, ◌<◌, ◌≤◌, ◌⊎◌, false, List, [], ◌∷◌, ◌++◌, map, length, take, drop, Some, None, Option, Ok, Err, Result, vec_items, sym, refl, ap, subst, ◌∙◌, inl, inr, lit<, arith}
use Rattle.std.specs.Prelude.{IfOk}
use Rattle.std.specs.List.{slice_get, flat_map}
use Rattle.std.specs.Option.{option_map}
use Rattle.std.proofs.lemmas.List.{length-map, length-take-le, length-drop, take_all}
use Rattle.std.proofs.lemmas.Option.{slice_get-map}
use Rattle.locks.specs.declared.faults.Fault.TheVariants as fault
use Rattle.locks.specs.declared.refusals.Refusal.{Refusal}
use Rattle.locks.specs.declared.together.Side.{Side}
use Rattle.locks.specs.declared.together.Side.TheVariants.{Left, Right}
use Rattle.locks.specs.Graphs.{Graph}
use Rattle.locks.specs.Shortest.{LeastLength}
use Rattle.pairs.specs.Answers as asking
use Rattle.pairs.specs.Answers.{longest, Answered, ask_refusal}
use Rattle.pairs.specs.declared.answers.AskFault.TheVariants.{NoSummary, NoLocation, TooShort}
use Rattle.pairs.specs.declared.answers.Verdict.TheVariants.{Never, Reached}
use Rattle.runs.specs.declared.calls.Answer.{Answer}
use Rattle.runs.specs.declared.calls.Answer.TheVariants as back
use Rattle.runs.specs.declared.calls.Call.{Call}
use Rattle.runs.specs.declared.calls.WhichFolder.{WhichFolder}
use Rattle.runs.specs.declared.calls.WhichFolder.TheVariants.{First, Second}
use Rattle.runs.specs.declared.running.Outcome.{Outcome}
use Rattle.runs.specs.Calls.{CallMeaning, AnswerMeaning, summarise, ask, summarised, asked, numbered, call_meaning, answer_meaning, in_force, by_which, last_of, put_by, renews, folder_at}
use Rattle.runs.specs.Rules.{KeepsTheRules, IsSummarised, NotSummarised, SummarisedBy}
use Rattle.runs.specs.Running.{RunRight}
use Rattle.search.specs.declared.entries.Entry.{Entry}
use Rattle.search.specs.declared.faults.SummariseFault.{SummariseFault}
use Rattle.search.specs.declared.faults.SummariseFault.TheVariants.{TooManyStates, Reaches}
use Rattle.search.specs.declared.threads.Pair.{Pair}
use Rattle.search.specs.Faults.{summarise_refusal}
use Rattle.search.specs.Summarising.{Accepted, Refused, Summarised}
use Rattle.search.proofs.SummaryLaws.{accepted_not_refused}
use Rattle.review.specs.declared.lines.line.Line.{Line}
use Rattle.review.specs.declared.report.error.ReportError.{ReportError}
use Rattle.review.specs.declared.report.error.ReportError.TheVariants.{Summary}
use Rattle.review.specs.Asking.{question_of, asks_of, review_calls, SummaryTold, ByAnswers}
use Rattle.review.specs.Cases.{BySummaries}
use Rattle.review.specs.Telling.{Told, told, LinesTell, lines_text}
use Rattle.review.specs.Lines.{line_text}
use Rattle.review.specs.Picking.{Picks}
use Rattle.review.specs.Reports.{PairLine, PairLines, ReviewAnswers, OutOfMemoryOr}
use Rattle.review.proofs.Picking.{as_many_picked, picked_at}

-- asks leave the folders as they are

no_put : (w : WhichFolder) (ps : List Pair) (lent : List ℕ) (i : ℕ) → flat_map (put_by w) (take i (asks_of ps lent)) ≡ []
no_put w ps lent zero = refl
no_put w [] lent (suc i) = refl
no_put w (p ∷ ps) lent (suc i) = no_put w ps lent i

none_renews : (w : WhichFolder) (ps : List Pair) (lent : List ℕ) (i k : ℕ) (c : CallMeaning) → slice_get (take i (asks_of ps lent)) k ≡ Some c → renews w c ≡ false
none_renews w ps lent zero k c e = cc
none_renews w [] lent (suc i) k c e = cc
none_renews w (p ∷ ps) lent (suc i) zero c e = let is : ask (question_of p) lent ≡ c = cc in subst (λ x. renews w x ≡ false) is refl
none_renews w (p ∷ ps) lent (suc i) (suc k) c e = none_renews w ps lent i k c e

module _ (G H : Graph) (ps : List Pair) (lent : List ℕ) where
  -- the calls before the ask of pair i
  abbrev before : ℕ → List CallMeaning
  before i = summarise First ∷ summarise Second ∷ take i (asks_of ps lent)

  stays : (w : WhichFolder) (i : ℕ) → in_force w G H (before i) ≡ by_which G H w
  stays w i = ap (last_of (by_which G H w)) (no_put w ps lent i)

  done : (w : WhichFolder) (i : ℕ) → (j : ℕ) × SummarisedBy w (before i) j
  done First i = (0, record { call = refl; last = after })
    where
      after : (k : ℕ) (c : CallMeaning) → 0 < k → slice_get (before i) k ≡ Some c → renews First c ≡ false
      after zero c h e = absurd (omega arith)
      after (suc zero) c h e = let is : summarise Second ≡ c = cc in subst (λ x. renews First x ≡ false) is refl
      after (suc (suc k)) c h e = none_renews First ps lent i k c e
  done Second i = (1, record { call = refl; last = after })
    where
      after : (k : ℕ) (c : CallMeaning) → 1 < k → slice_get (before i) k ≡ Some c → renews Second c ≡ false
      after zero c h e = absurd (omega arith)
      after (suc zero) c h e = absurd (omega arith)
      after (suc (suc k)) c h e = none_renews Second ps lent i k c e

  ready : (w : WhichFolder) (i : ℕ) → Accepted (by_which G H w) → IsSummarised w G H (before i)
  ready w i a = (done w i, subst Accepted (sym (stays w i)) a)

  not_lacking : {X : Type 0} (w : WhichFolder) (i : ℕ) → Accepted (by_which G H w) → NotSummarised w G H (before i) → X
  not_lacking w i a (inl never) = let d = done w i in absurd (never d.0 d.1)
  not_lacking w i a (inr some) = absurd (accepted_not_refused (by_which G H w) some.0 a (subst (λ K. Refused K some.0) (stays w i) some.1))

  -- what an ask of pair i says: both folders have a summary
  abbrev pub Asked : ℕ → Pair → asking.Answer → List ℕ → Type 0
  Asked i p r after =
      Answered (λ s. IsSummarised (folder_at (question_of p) s) G H (before i)) (λ s. NotSummarised (folder_at (question_of p) s) G H (before i)) G H p.left p.right lent r after

  pub no_summary_missing : {X : Type 0} (i : ℕ) (p : Pair) (s : Side) (after : List ℕ) → Accepted G → Accepted H → Asked i p (Err (NoSummary s)) after → X
  no_summary_missing i p Left after a b h = not_lacking First i a h.says
  no_summary_missing i p Right after a b h = not_lacking Second i b h.says.1

  pub many_moves : (i : ℕ) (p : Pair) (n : ℕ) (after : List ℕ) → Asked i p (Ok (Reached n)) after → length (take n after) ≡ n
  many_moves i p n after h =
      let list = h.list in
      let within = h.says.4 in
      let long = list.0 in
      length-take-le n after (omega arith)

  pub bounded : (i : ℕ) (p : Pair) (r : asking.Answer) (n : ℕ) (after : List ℕ) → Accepted G → Accepted H → Asked i p r after → LeastLength G H p.left p.right n → n ≤ longest
  bounded i p r n after a b h least = h.not_long (ready First i a) (ready Second i b) n least

  pub not_too_short : (i : ℕ) (p : Pair) (n : ℕ) (after : List ℕ) → Accepted G → Accepted H → Asked i p (Err (TooShort n)) after → length lent < longest
  not_too_short i p n after a b h =
      let s = h.says in
      let bound = bounded i p (Err (TooShort n)) n after a b h s.3 in
      let past = s.4 in
      omega arith

-- the line of an answer, where the lists are long enough
pair_line : (G H : Graph) (ps : List Pair) (lent : List ℕ) → length lent ≡ longest → (i : ℕ) (p : Pair) (r : asking.Answer) (after : List ℕ) → Accepted G → Accepted H → Asked G H ps lent i p r after → PairLine G H p (told p (asked (numbered ask_refusal r) after))
pair_line G H ps lent long i p (Ok Never) after a b h = let s = h.says in inr (inl (s.2, s.3, refl))
pair_line G H ps lent long i p (Ok (Reached n)) after a b h =
    let s = h.says in
    let many = many_moves G H ps lent i p n after h in
    let few = bounded G H ps lent i p (Ok (Reached n)) n after a b h s.3 in
    inr (inr (take n after, s.2, (h.moves, subst (LeastLength G H p.left p.right) (sym many) s.3), (let low : length (take n after) ≤ longest = omega arith in low), refl))
pair_line G H ps lent long i p (Err (NoSummary s)) after a b h = no_summary_missing G H ps lent i p s after a b h
pair_line G H ps lent long i p (Err (NoLocation s)) after a b h = inl (s, h.says.2, refl)
pair_line G H ps lent long i p (Err (TooShort n)) after a b h = let short = not_too_short G H ps lent i p n after a b h in absurd (omega arith)

-- no two faults of a summary have one refusal

apart : {X : Type 0} (r s : Refusal) → r ≡ s → r.number < s.number → X
apart r s h less = let same = ap (λ x. x.number) h in absurd (omega arith)

one_fault : (e d : SummariseFault) → summarise_refusal e ≡ summarise_refusal d → e ≡ d
one_fault TooManyStates TooManyStates h = refl
one_fault TooManyStates (Reaches fault.Nesting p) h = apart _ _ h (lit< tt)
one_fault TooManyStates (Reaches fault.Depth p) h = apart _ _ h (lit< tt)
one_fault (Reaches fault.Nesting p) TooManyStates h = apart _ _ (sym h) (lit< tt)
one_fault (Reaches fault.Nesting p) (Reaches fault.Nesting n) h = ap (Reaches fault.Nesting) (ap (λ r. r.place) h)
one_fault (Reaches fault.Nesting p) (Reaches fault.Depth n) h = apart _ _ h (lit< tt)
one_fault (Reaches fault.Depth p) TooManyStates h = apart _ _ (sym h) (lit< tt)
one_fault (Reaches fault.Depth p) (Reaches fault.Nesting n) h = apart _ _ (sym h) (lit< tt)
one_fault (Reaches fault.Depth p) (Reaches fault.Depth n) h = ap (Reaches fault.Depth) (ap (λ r. r.place) h)

-- a run of these calls

first_of_two : {X : Type 0} (xs : List X) → 2 ≤ length xs → (x : X) × (slice_get xs 0 ≡ Some x)
first_of_two [] h = absurd (omega arith)
first_of_two (x ∷ xs) h = (x, refl)

second_of_two : {X : Type 0} (xs : List X) → 2 ≤ length xs → (x : X) × (slice_get xs 1 ≡ Some x)
second_of_two [] h = absurd (omega arith)
second_of_two (x ∷ []) h = absurd (omega arith)
second_of_two (x ∷ y ∷ xs) h = (y, refl)

behind_two : {X : Type 0} (xs : List X) (i : ℕ) → slice_get (drop 2 xs) i ≡ slice_get xs (suc (suc i))
behind_two [] i = refl
behind_two (x ∷ []) i = refl
behind_two (x ∷ y ∷ xs) i = refl

module _ {A B : Type 0} (f : A → Graph) (g : B → Graph) where
  abbrev pub means : Answer A B → AnswerMeaning
  means = answer_meaning f g

  -- what a summarise says by its answer: the fault that applies, or that the graph is accepted
  abbrev Summed : Graph → Answer A B → Type 0
  Summed K x =
      ((e : SummariseFault) × (x ≡ back.Summarised (Err e)) × Refused K e)
      ⊎ (((e : SummariseFault) → x ≡ back.Summarised (Err e) → ⊥) × Accepted K)

  by_answer : (K : Graph) (x : Answer A B) (q : Result ℕ SummariseFault) (table : List Entry) → means x ≡ summarised (numbered summarise_refusal q) → Summarised K q table → Summed K x
  by_answer K (back.Summarised (Ok n)) (Ok m) table e s = inr ((λ d no. cc), s.says.0)
  by_answer K (back.Summarised (Ok n)) (Err d) table e s = cc
  by_answer K (back.Summarised (Err x)) (Ok m) table e s = cc
  by_answer K (back.Summarised (Err x)) (Err d) table e s = inl (x, refl, subst (Refused K) (one_fault d x (let same : summarise_refusal d ≡ summarise_refusal x = cc in same)) s.says.0)
  by_answer K (back.ExchangedFirst k) q table e s = cc
  by_answer K (back.ExchangedSecond k) q table e s = cc
  by_answer K (back.Entry k) q table e s = cc
  by_answer K (back.Asked k list) q table e s = cc
  by_answer K (back.Replayed k list) q table e s = cc

-- lines and the answers that they tell

told_at : (ps : List Pair) (zs : List AnswerMeaning) (ls : List Line) (i : ℕ) (p : Pair) (line : List ℕ) → LinesTell ps zs ls → slice_get ps i ≡ Some p → slice_get (map line_text ls) i ≡ Some line → (z : AnswerMeaning) × (slice_get zs i ≡ Some z) × (line ≡ told p z)
told_at [] zs ls i p line t e k = cc
told_at (q ∷ ps) [] ls i p line t e k = absurd t
told_at (q ∷ ps) (z ∷ zs) [] i p line t e k = absurd t
told_at (q ∷ ps) (z ∷ zs) (l ∷ ls) zero p line t e k =
    let pair : q ≡ p = cc in
    let text : line_text l ≡ line = cc in
    (z, refl, sym text ∙ t.0 ∙ ap (λ x. told x z) pair)
told_at (q ∷ ps) (z ∷ zs) (l ∷ ls) (suc i) p line t e k = told_at ps zs ls i p line t.1 e k

as_many_lines : (ps : List Pair) (zs : List AnswerMeaning) (ls : List Line) → LinesTell ps zs ls → length ls ≡ length ps
as_many_lines [] zs [] t = refl
as_many_lines [] zs (l ∷ ls) t = absurd t
as_many_lines (p ∷ ps) [] ls t = absurd t
as_many_lines (p ∷ ps) (z ∷ zs) [] t = absurd t
as_many_lines (p ∷ ps) (z ∷ zs) (l ∷ ls) t = ap suc (as_many_lines ps zs ls t.1)

in_lines : (ls : List Line) → lines_text ls ≡ flat_map (λ line. line) (map line_text ls)
in_lines [] = refl
in_lines (l ∷ ls) = ap (λ xs. line_text l ++ xs) (in_lines ls)

module _ {A B : Type 0} (f : A → Graph) (g : B → Graph) (a : A) (b : B) (cs : List (Call A B)) (ran : Outcome A B) (right : RunRight f g a b cs ran) (ps : List Pair) (lent : List ℕ) (script : map (call_meaning f g) cs ≡ review_calls ps lent) where
  abbrev answers : List (Answer A B)
  answers = vec_items ran.answers

  rules : KeepsTheRules (f a) (g b) (review_calls ps lent) (map (means f g) answers) right.tables
  rules = subst (λ c. KeepsTheRules (f a) (g b) c (map (means f g) answers) right.tables) script right.rules

  pub as_many : length answers ≡ length ps + 2
  as_many =
      let all = rules.as_many in
      let long = length-map answers (means f g) in
      let asks = length-map ps (λ p. ask (question_of p) lent) in
      omega arith

  answer_is : (n : ℕ) (x : Answer A B) → slice_get answers n ≡ Some x → slice_get (map (means f g) answers) n ≡ Some (means f g x)
  answer_is n x e = slice_get-map (means f g) answers n ∙ ap (option_map (means f g)) e

  left_summary : (x : Answer A B) → slice_get answers 0 ≡ Some x → Summed f g (f a) x
  left_summary x e = let rule = rules.each 0 (summarise First) (means f g x) refl (answer_is 0 x e) in by_answer f g (f a) x rule.0 _ rule.1 rule.2

  right_summary : (x : Answer A B) → slice_get answers 1 ≡ Some x → Summed f g (g b) x
  right_summary x e = let rule = rules.each 1 (summarise Second) (means f g x) refl (answer_is 1 x e) in by_answer f g (g b) x rule.0 _ rule.1 rule.2

  pub asked_of : (i : ℕ) (p : Pair) (x : Answer A B) → slice_get ps i ≡ Some p → slice_get answers (suc (suc i)) ≡ Some x → (r : asking.Answer) × (after : List ℕ) × (means f g x ≡ asked (numbered ask_refusal r) after) × Asked (f a) (g b) ps lent i p r after
  asked_of i p x e h =
      let q = question_of p in
      let call = slice_get-map (λ r. ask (question_of r) lent) ps i ∙ ap (option_map (λ r. ask (question_of r) lent)) e in
      let rule = rules.each (suc (suc i)) (ask q lent) (means f g x) call (answer_is (suc (suc i)) x h) in
      let has = λ (s : Side). IsSummarised (folder_at q s) (f a) (g b) (before (f a) (g b) ps lent i) in
      let lacks = λ (s : Side). NotSummarised (folder_at q s) (f a) (g b) (before (f a) (g b) ps lent i) in (
        rule.0,
        rule.1,
        rule.2,
        subst (λ K. Answered has lacks (f a) K p.left p.right lent rule.0 rule.1) (stays (f a) (g b) ps lent Second i)
            (subst (λ K. Answered has lacks K (in_force Second (f a) (g b) (before (f a) (g b) ps lent i)) p.left p.right lent rule.0 rule.1) (stays (f a) (g b) ps lent First i) rule.3),
      )

  some_answer : 2 ≤ length answers
  some_answer = let many = as_many in omega arith

  -- a refused summary, by the answer at its place
  refused_by : (K : Graph) (n : ℕ) (e : SummariseFault) → ((x : Answer A B) → slice_get answers n ≡ Some x → Summed f g K x) → SummaryTold answers n (Err e) → Refused K e
  refused_by K n e summed h = by (summed (back.Summarised (Err e)) h)
    where
      by : Summed f g K (back.Summarised (Err e)) → Refused K e
      by (inl q) = let same : q.0 ≡ e = (let is = q.1 in cc) in subst (Refused K) same q.2
      by (inr q) = absurd (q.0 e refl)

  accepted_by : (K : Graph) (n : ℕ) (x : Answer A B) → slice_get answers n ≡ Some x → Summed f g K x → SummaryTold answers n (Ok tt) → Accepted K
  accepted_by K n x e (inl q) h = absurd (h q.0 (e ∙ ap (λ y. Some y) q.1))
  accepted_by K n x e (inr q) h = q.1

  accepted_left : SummaryTold answers 0 (Ok tt) → Accepted (f a)
  accepted_left h = let x = first_of_two answers some_answer in accepted_by (f a) 0 x.0 x.1 (left_summary x.0 x.1) h

  accepted_right : SummaryTold answers 1 (Ok tt) → Accepted (g b)
  accepted_right h = let x = second_of_two answers some_answer in accepted_by (g b) 1 x.0 x.1 (right_summary x.0 x.1) h

  -- what follows from the answers, where both graphs are accepted, and the faults
  pub by_summaries : (refusing : Side → SummariseFault → Type 0) (X Y : Type 0) → (Accepted (f a) → Accepted (g b) → X → Y) → ByAnswers answers refusing X → BySummaries (f a) (g b) refusing Y
  by_summaries refusing X Y k (inl t) = inl (t.0, refused_by (f a) 0 t.0 left_summary t.1, t.2)
  by_summaries refusing X Y k (inr (inl t)) = let s = t.1 in inr (inl (s.0, accepted_left t.0, refused_by (g b) 1 s.0 right_summary s.1, s.2))
  by_summaries refusing X Y k (inr (inr t)) = let one = accepted_left t.0 in let two = accepted_right t.1 in inr (inr (one, two, k one two t.2))

-- the lines of a run

some_injective : {X : Type 0} {x y : X} → Some x ≡ Some y → x ≡ y
some_injective e = cc

of_some : {X Y : Type 0} (f : X → Y) (o : Option X) (y : Y) → option_map f o ≡ Some y → (x : X) × (o ≡ Some x) × (y ≡ f x)
of_some f (Some x) y h = (x, refl, let same : y ≡ f x = cc in same)
of_some f None y h = cc

module _ {A B : Type 0} (f : A → Graph) (g : B → Graph) (a : A) (b : B) (cs : List (Call A B)) (ran : Outcome A B) (right : RunRight f g a b cs ran) (ps : List Pair) (lent : List ℕ) (long : length lent ≡ longest) (script : map (call_meaning f g) cs ≡ review_calls ps lent) where
  abbrev behind : List (Answer A B)
  behind = drop 2 (vec_items ran.answers)

  each_line : (ls : List Line) → Accepted (f a) → Accepted (g b) → LinesTell ps (map (means f g) behind) ls → (i : ℕ) (p : Pair) (line : List ℕ) → slice_get ps i ≡ Some p → slice_get (map line_text ls) i ≡ Some line → PairLine (f a) (g b) p line
  each_line ls one two tell i p line e h =
      let at = told_at ps (map (means f g) behind) ls i p line tell e h in
      let x = of_some (means f g) (slice_get behind i) at.0 (sym (slice_get-map (means f g) behind i) ∙ at.1) in
      let asked_so = asked_of f g a b cs ran right ps lent script i p x.0 e (sym (behind_two (vec_items ran.answers) i) ∙ x.1) in
      let line_is : line ≡ told p (asked (numbered ask_refusal asked_so.0) asked_so.1) = at.2 ∙ ap (told p) (x.2 ∙ asked_so.2) in
      subst (PairLine (f a) (g b) p) (sym line_is) (pair_line (f a) (g b) ps lent long i p asked_so.0 asked_so.1 one two asked_so.3)

  module _ (pairs : List Pair) (ns : List ℕ) (places : Picks ps ns pairs) where
    -- the line of a pair is the one of its ask
    picked_line : (ls picked : List Line) → Accepted (f a) → Accepted (g b) → LinesTell ps (map (means f g) behind) ls → Picks ls ns picked → (i : ℕ) (p : Pair) (line : List ℕ) → slice_get pairs i ≡ Some p → slice_get (map line_text picked) i ≡ Some line → PairLine (f a) (g b) p line
    picked_line ls picked one two tell picks i p line e h =
        let asked_at = picked_at ps ns pairs i p places e in
        let l = of_some line_text (slice_get picked i) line (sym (slice_get-map line_text picked i) ∙ h) in
        let told_there = picked_at ls ns picked i l.0 picks l.1 in
        let same : told_there.0 ≡ asked_at.0 = some_injective (sym told_there.1 ∙ asked_at.1) in
        let text = slice_get-map line_text ls asked_at.0 ∙ ap (option_map line_text) (subst (λ n. slice_get ls n ≡ Some l.0) same told_there.2) ∙ ap (λ x. Some x) (sym l.2) in
        each_line ls one two tell asked_at.0 p line asked_at.2 text

    picked_lines : (ls picked : List Line) (text : List ℕ) → Accepted (f a) → Accepted (g b) → LinesTell ps (map (means f g) behind) ls → Picks ls ns picked → text ≡ lines_text picked → PairLines (f a) (g b) pairs text
    picked_lines ls picked text one two tell picks is = record {
      lines = map line_text picked;
      whole = is ∙ in_lines picked;
      as_many = length-map picked line_text ∙ as_many_picked ls ns picked picks ∙ sym (as_many_picked ps ns pairs places);
      each = picked_line ls picked one two tell picks;
    }

    -- what is told of a run's answers is what its graphs are answered with
    pub told_answers : (r : Result (List ℕ) ReportError) → Told ps ns (vec_items ran.answers) r → ReviewAnswers (f a) (g b) pairs r
    told_answers r t = by_summaries f g a b cs ran right ps lent script (λ s e. r ≡ Err (Summary s e)) _ ((text : List ℕ) × (r ≡ Ok text) × PairLines (f a) (g b) pairs text)
        (λ one two x. (lines_text x.1, x.4, picked_lines x.0 x.1 (lines_text x.1) one two (x.2 f g) x.3 refl)) t

pub memory_or : {P Q : Type 0} (r : Result (List ℕ) ReportError) → OutOfMemoryOr r P → (P → Q) → OutOfMemoryOr r Q
memory_or r (inl out) k = inl out
memory_or r (inr h) k = inr (k h)

pub if_ok : {X E : Type 0} {P Q : X → Type 0} (r : Result X E) → IfOk r P → ((x : X) → P x → Q x) → IfOk r Q
if_ok (Ok x) h k = k x h
if_ok (Err e) h k = h

-- the answers behind the two summaries, as a part of them all
pub part_behind : {X : Type 0} (xs : List X) → take (length xs - 2) (drop 2 xs) ≡ drop 2 xs
part_behind xs = take_all (length xs - 2) (drop 2 xs) (let long = length-drop 2 xs in omega arith)
