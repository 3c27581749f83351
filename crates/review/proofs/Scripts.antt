-- The script of a review.
use Rattle.std.proofs.Common.{◌≡◌, ℕ, ◌<◌, List, [], ◌∷◌, ◌++◌, map, length, Ok, Err, Result, sym, refl, ap, ◌∙◌, append_assoc, arith}
use Rattle.std.proofs.lemmas.List.{map-append}
use Rattle.locks.specs.Graphs.{Graph}
use Rattle.runs.specs.declared.calls.Call.{Call}
use Rattle.runs.specs.declared.calls.Call.TheVariants as code
use Rattle.runs.specs.declared.calls.WhichFolder.TheVariants.{First, Second}
use Rattle.runs.specs.Calls.{ask, summarise, call_meaning}
use Rattle.runs.specs.Scripts.{ScriptContents, Added}
use Rattle.search.specs.declared.threads.Pair.{Pair}
use Rattle.review.specs.Asking.{question_of, review_calls, more_calls}

-- where there is room the call is added
pub added : {A B : Type 0} (s t : ScriptContents A B) (c : Call A B) (r : Result (Unit {0}) (Call A B)) → Added s c r t → length s.calls < s.most → t ≡ more_calls s (c ∷ [])
added s t c (Ok u) a h = a.1
added s t c (Err d) a h = let full = a.0 in absurd (omega arith)

-- one call more behind others
pub behind : {A B : Type 0} (s t u : ScriptContents A B) (c d : Call A B) → t ≡ more_calls s (c ∷ []) → u ≡ more_calls t (d ∷ []) → u ≡ more_calls s (c ∷ d ∷ [])
behind s t u c d first second =
    second ∙ ap (λ x. more_calls x (d ∷ [])) first ∙ ap (λ cs. record { calls = cs; most = s.most }) (append_assoc s.calls (c ∷ []) (d ∷ []))

none : {X : Type 0} (xs : List X) → length xs ≡ 0 → xs ≡ []
none [] h = refl
none (x ∷ xs) h = absurd (omega arith)

-- both summaries in a script without calls
pub begun : {A B : Type 0} (f : A → Graph) (g : B → Graph) (s t : ScriptContents A B) (lent : List ℕ) → length s.calls ≡ 0 → t ≡ more_calls s (code.Summarise First ∷ code.Summarise Second ∷ []) → map (call_meaning f g) t.calls ≡ review_calls [] lent
begun f g s t lent h is =
    ap (λ x. map (call_meaning f g) x.calls) is ∙ ap (λ cs. map (call_meaning f g) (cs ++ code.Summarise First ∷ code.Summarise Second ∷ [])) (none s.calls h)

-- and an ask of one pair more
pub asked_more : {A B : Type 0} (f : A → Graph) (g : B → Graph) (s t : ScriptContents A B) (pairs : List Pair) (p : Pair) (c : Call A B) (lent : List ℕ) → t ≡ more_calls s (c ∷ []) → call_meaning f g c ≡ ask (question_of p) lent → map (call_meaning f g) s.calls ≡ review_calls pairs lent → map (call_meaning f g) t.calls ≡ review_calls (pairs ++ p ∷ []) lent
asked_more f g s t pairs p c lent is means says =
    ap (λ x. map (call_meaning f g) x.calls) is
    ∙ map-append (call_meaning f g) s.calls (c ∷ [])
    ∙ ap (λ xs. xs ++ call_meaning f g c ∷ []) says
    ∙ ap (λ x. review_calls pairs lent ++ x ∷ []) means
    ∙ ap (λ xs. summarise First ∷ summarise Second ∷ xs) (sym (map-append (λ r. ask (question_of r) lent) pairs (p ∷ [])))
