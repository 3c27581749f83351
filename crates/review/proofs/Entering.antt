-- What the answers to the calls about one pair say of its graphs.
use Rattle.std.proofs.Common.{◌≡◌, ℕ, ◌*◌, ◌/◌, ◌<◌, ◌≤◌, List, [], ◌∷◌, ◌++◌, map, length, take, drop, min, Some, Ok, Err, Result, vec_items, sym, refl, ap, subst, ◌∙◌, inl, inr, arith}
use Rattle.std.specs.List.{slice_get}
use Rattle.locks.specs.declared.refusals.Refusal.{Refusal}
use Rattle.locks.specs.Graphs.{Graph}
use Rattle.locks.specs.Shortest.{LeastLength}
use Rattle.pairs.specs.Answers as asking
use Rattle.pairs.specs.Answers.{ask_refusal, longest}
use Rattle.pairs.specs.declared.answers.AskFault.TheVariants.{NoSummary, NoLocation, TooShort}
use Rattle.pairs.specs.declared.answers.Verdict.{Verdict}
use Rattle.pairs.specs.declared.answers.Verdict.TheVariants.{Never, Reached}
use Rattle.runs.specs.declared.calls.Answer.{Answer}
use Rattle.runs.specs.declared.calls.Answer.TheVariants as back
use Rattle.runs.specs.declared.calls.Call.{Call}
use Rattle.runs.specs.declared.running.Outcome.{Outcome}
use Rattle.runs.specs.Calls.{asked, numbered, call_meaning}
use Rattle.runs.specs.Running.{RunRight}
use Rattle.search.specs.declared.threads.Pair.{Pair}
use Rattle.search.specs.Summarising.{Accepted}
use Rattle.review.specs.SinglePair.{moves_bytes, PairSays, RefusalAnswered, GraphsSay, AskTold, Ran}
use Rattle.review.specs.Asking.{review_calls}
use Rattle.review.proofs.Judging.{means, Asked, no_summary_missing, many_moves, bounded, as_many, asked_of, by_summaries}

-- a list of so many places has room for a schedule just where the run has
module _ (G H : Graph) (p : Pair) (before lent : List ℕ) (room : length lent ≡ min (length before / 2) longest) where
  -- by the answer of the code and the answer that the rule gives
  by_ask : {A B : Type 0} (f : A → Graph) (g : B → Graph) (x : Answer A B) (r : asking.Answer) (after : List ℕ) (q : Result Verdict Refusal) (run : List ℕ) → Accepted G → Accepted H → means f g x ≡ asked (numbered ask_refusal r) after → Asked G H (p ∷ []) lent 0 p r after → AskTold (Some x) before q run → PairSays G H p before q run
  by_ask f g (back.Asked (Ok Never) list) (Ok Never) after q run a b e h t = let s = h.says in inr (inl (s.2, s.3, (t.0, t.1)))
  by_ask f g (back.Asked (Ok Never) list) (Ok (Reached n)) after q run a b e h t = cc
  by_ask f g (back.Asked (Ok Never) list) (Err d) after q run a b e h t = cc
  by_ask f g (back.Asked (Ok (Reached n)) list) (Ok Never) after q run a b e h t = cc
  by_ask f g (back.Asked (Ok (Reached n)) list) (Err d) after q run a b e h t = cc
  by_ask f g (back.Asked (Ok (Reached n)) list) (Ok (Reached m)) after q run a b e h t =
      let s = h.says in
      let same : n ≡ m = cc in
      let items : vec_items list ≡ after = cc in
      let kept = h.list in
      let long = kept.0 in
      let within = s.4 in
      let held = ap length items in
      let told = t (omega arith) (omega arith) in
      let many = many_moves G H (p ∷ []) lent 0 p m after h in
      let made : take n (vec_items list) ≡ take m after = ap (λ k. take k (vec_items list)) same ∙ ap (take m) items in
      let count : n ≡ length (take m after) = same ∙ sym many in
      let few = bounded G H (p ∷ []) lent 0 p (Ok (Reached m)) m after a b h s.3 in
      inr (inr (
        take m after,
        s.2,
        (h.moves, subst (LeastLength G H p.left p.right) (sym many) s.3),
        (let low : length (take m after) ≤ longest = omega arith in low),
        inr (
          (let low : length (take m after) ≤ length before / 2 = omega arith in low),
          told.0 ∙ ap (λ k. Ok (Reached k)) count,
          told.1 ∙ ap (λ xs. moves_bytes xs ++ drop (2 * n) before) made ∙ ap (λ k. moves_bytes (take m after) ++ drop (2 * k) before) count,
        ),
      ))
  by_ask f g (back.Asked (Err d) list) (Ok v) after q run a b e h t = cc
  by_ask f g (back.Asked (Err d) list) (Err (NoSummary s)) after q run a b e h t = no_summary_missing G H (p ∷ []) lent 0 p s after a b h
  by_ask f g (back.Asked (Err d) list) (Err (NoLocation s)) after q run a b e h t =
      let same : ask_refusal d ≡ ask_refusal (NoLocation s) = cc in
      inl (s, h.says.2, (t.0 ∙ ap (λ x. Err x) same, t.1))
  by_ask f g (back.Asked (Err d) list) (Err (TooShort n)) after q run a b e h t =
      let same : ask_refusal d ≡ ask_refusal (TooShort n) = cc in
      let s = h.says in
      let past = s.4 in
      let few = bounded G H (p ∷ []) lent 0 p (Err (TooShort n)) n after a b h s.3 in
      let least = s.3 in
      let long = least.long in
      inr (inr (
        least.schedule,
        s.2,
        (least.replays, subst (LeastLength G H p.left p.right) (sym long) least),
        (let low : length least.schedule ≤ longest = omega arith in low),
        inl ((let over : length before / 2 < length least.schedule = omega arith in over), t.0 ∙ ap (λ x. Err x) same ∙ ap (λ k. Err (ask_refusal (TooShort k))) (sym long), t.1),
      ))
  by_ask f g (back.ExchangedFirst k) r after q run a b e h t = cc
  by_ask f g (back.ExchangedSecond k) r after q run a b e h t = cc
  by_ask f g (back.Summarised k) r after q run a b e h t = cc
  by_ask f g (back.Entry k) r after q run a b e h t = cc
  by_ask f g (back.Replayed k list) r after q run a b e h t = cc

third : {X : Type 0} (xs : List X) → 3 ≤ length xs → (x : X) × (slice_get xs 2 ≡ Some x)
third [] h = absurd (omega arith)
third (x ∷ []) h = absurd (omega arith)
third (x ∷ y ∷ []) h = absurd (omega arith)
third (x ∷ y ∷ z ∷ xs) h = (z, refl)

pub ran_says : {A B : Type 0} (f : A → Graph) (g : B → Graph) (a : A) (b : B) (cs : List (Call A B)) (ran : Outcome A B) (right : RunRight f g a b cs ran) (p : Pair) (before lent : List ℕ) (room : length lent ≡ min (length before / 2) longest) (script : map (call_meaning f g) cs ≡ review_calls (p ∷ []) lent) (q : Result Verdict Refusal) (run : List ℕ)
    → Ran (vec_items ran.answers) before q run → GraphsSay (f a) (g b) p before q run
ran_says f g a b cs ran right p before lent room script q run t =
    let many = as_many f g a b cs ran right (p ∷ []) lent script in
    let x = third (vec_items ran.answers) (omega arith) in
    let z = asked_of f g a b cs ran right (p ∷ []) lent script 0 p x.0 refl x.1 in
    by_summaries f g a b cs ran right (p ∷ []) lent script (RefusalAnswered before q run) (AskTold (slice_get (vec_items ran.answers) 2) before q run) (PairSays (f a) (g b) p before q run)
    (λ one two told. by_ask (f a) (g b) p before lent room f g x.0 z.0 z.1 q run one two z.2 z.3 (subst (λ o. AskTold o before q run) x.1 told)) t
