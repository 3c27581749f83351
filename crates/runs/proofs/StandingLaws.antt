-- How a folder stands: with the graph in force, and the entries of its last summarise since that came.
use Rattle.std.proofs.Common.{◌≡◌, ℕ, ◌<◌, ◌⊎◌, List, [], ◌∷◌, ◌++◌, length, Some, None, Ok, Err, Option, Result, sym, refl, ap, ◌∙◌, subst, inl, inr, ⊎_elim, arith}
use Rattle.std.proofs.lemmas.Option.{slice_get_within}
use Rattle.std.specs.Prelude.{slice_index_or}
use Rattle.locks.specs.Graphs.{Graph}
use Rattle.locks.specs.States.{beginning}
use Rattle.search.specs.declared.entries.Entry.{Entry}
use Rattle.search.specs.declared.faults.SummariseFault.{SummariseFault}
use Rattle.search.specs.Summaries.{Summary}
use Rattle.search.specs.Summarising.{Accepted, Summarised}
use Rattle.search.proofs.SummaryLaws.{accepted_not_refused}
use Rattle.pairs.specs.Asking.{OfGraph}
use Rattle.runs.specs.declared.calls.WhichFolder.{WhichFolder}
use Rattle.runs.specs.Calls.{CallMeaning, put_by, last_of, in_force}
use Rattle.runs.specs.Rules.{SomeRefusal, NeverSince, IsSummarised, NotSummarised, EntriesAre}
use Rattle.runs.proofs.PointLaws.{noted, summarised_at, in_force_after, summarised_after, last_is_noted, noted_is_last}

-- never summarised since the graph came, or by its last summarise
abbrev pub Standing : Option ℕ → Graph → List Entry → Type 0
Standing None K es = es ≡ []
Standing (Some i) K es = (r : Result ℕ SummariseFault) × Summarised K r es

-- the entries of the last summarise, at this place
abbrev entries_by : Option ℕ → List (List Entry) → List Entry
entries_by None tables = []
entries_by (Some i) tables = slice_index_or tables i []

-- these are the folder's graph and entries after the calls, to which these tables belong
pub record Kept (w : WhichFolder) (G H : Graph) (before : List CallMeaning) (tables : List (List Entry)) (K : Graph) (es : List Entry) : Type 0 where
  pub graph : in_force w G H before ≡ K
  pub stands : Standing (summarised_at w before) K es
  pub entries : (later : List (List Entry)) → entries_by (summarised_at w before) (tables ++ later) ≡ es

none_some : (i : ℕ) (o : Option ℕ) → o ≡ None → o ≡ Some i → ⊥
none_some i o p q = let r : None ≡ Some i = sym p ∙ q in cc

some_entries : (K : Graph) (es : List Entry) → Summary K es → 0 < length es
some_entries K es s =
    let l = s.all_reached (beginning K.start) ([], refl) in
    let h = slice_get_within es l.0 l.1 l.2 in
    omega arith

no_entries : (es : List Entry) → es ≡ [] → 0 < length es → ⊥
no_entries es e h = let l = ap length e in omega arith

-- With entries exactly where the calls say that it is summarised. A graph is accepted by summarise or refused.

has_entries : (K : Graph) (i : ℕ) (es : List Entry) → Standing (Some i) K es → Accepted K → 0 < length es
has_entries K i es (Ok n, s) a = some_entries K es s.says.1
has_entries K i es (Err f, s) a = absurd (accepted_not_refused K f a s.says.0)

ready_by : (K : Graph) (es : List Entry) (o : Option ℕ) → Standing o K es → 0 < length es → ((i : ℕ) × (o ≡ Some i)) × Accepted K
ready_by K es None s h = absurd (no_entries es s h)
ready_by K es (Some i) (Ok n, s) h = ((i, refl), s.says.0)
ready_by K es (Some i) (Err f, s) h = absurd (no_entries es s.says.1 h)

unready_by : (K : Graph) (es : List Entry) (o : Option ℕ) → Standing o K es → es ≡ [] → (o ≡ None) ⊎ SomeRefusal K
unready_by K es None s e = inl refl
unready_by K es (Some i) (Ok n, s) e = absurd (no_entries es e (some_entries K es s.says.1))
unready_by K es (Some i) (Err f, s) e = inr (f, s.says.0)

there_by : (K : Graph) (es : List Entry) (o : Option ℕ) → Standing o K es → (i : ℕ) → o ≡ Some i → Accepted K → 0 < length es
there_by K es None s i e a = absurd (none_some i None refl e)
there_by K es (Some j) s i e a = has_entries K j es s a

gone_by : (K : Graph) (es : List Entry) (o : Option ℕ) → Standing o K es → (o ≡ None) ⊎ SomeRefusal K → es ≡ []
gone_by K es None s n = s
gone_by K es (Some i) (Ok m, s) (inl e) = absurd (none_some i (Some i) e refl)
gone_by K es (Some i) (Ok m, s) (inr r) = absurd (accepted_not_refused K r.0 s.says.0 r.1)
gone_by K es (Some i) (Err f, s) n = s.says.1

summary_by : (K : Graph) (es : List Entry) (o : Option ℕ) → Standing o K es → OfGraph K es
summary_by K es None s h = absurd (no_entries es s h)
summary_by K es (Some i) (Ok n, s) h = (s.says.0.1, s.says.1)
summary_by K es (Some i) (Err f, s) h = absurd (no_entries es s.says.1 h)

none_by : (w : WhichFolder) (before : List CallMeaning) → NeverSince w before → (o : Option ℕ) → summarised_at w before ≡ o → o ≡ None
none_by w before a None e = refl
none_by w before a (Some i) e = absurd (a i (noted_is_last w before i e))

never_none : (w : WhichFolder) (before : List CallMeaning) → NeverSince w before → summarised_at w before ≡ None
never_none w before a = none_by w before a (summarised_at w before) refl

module _ (w : WhichFolder) (G H : Graph) (before : List CallMeaning) (tables : List (List Entry)) (K : Graph) (es : List Entry) (k : Kept w G H before tables K es) where
  pub ready : 0 < length es → IsSummarised w G H before
  ready h = let r = ready_by K es (summarised_at w before) k.stands h in ((r.0.0, noted_is_last w before r.0.0 r.0.1), subst Accepted (sym k.graph) r.1)

  pub there : IsSummarised w G H before → 0 < length es
  there s = there_by K es (summarised_at w before) k.stands s.0.0 (last_is_noted w before s.0.0 s.0.1) (subst Accepted k.graph s.1)

  pub unready : es ≡ [] → NotSummarised w G H before
  unready e = subst (λ x. NeverSince w before ⊎ SomeRefusal x) (sym k.graph)
      (⊎_elim (λ n. inl (λ i s. none_some i (summarised_at w before) n (last_is_noted w before i s))) inr (unready_by K es (summarised_at w before) k.stands e))

  pub gone : NotSummarised w G H before → es ≡ []
  gone n = gone_by K es (summarised_at w before) k.stands
      (⊎_elim (λ a. inl (never_none w before a)) inr (subst (λ x. NeverSince w before ⊎ SomeRefusal x) k.graph n))

  pub of_graph : OfGraph K es
  of_graph = summary_by K es (summarised_at w before) k.stands

  pub entries_are : (later : List (List Entry)) → EntriesAre w before (tables ++ later) es
  entries_are later =
      record {
        by_the_last = λ i s. sym (k.entries later) ∙ ap (λ o. entries_by o (tables ++ later)) (last_is_noted w before i s);
        never = λ a. sym (k.entries later) ∙ ap (λ o. entries_by o (tables ++ later)) (never_none w before a);
      }

-- one call more

table_at : (tables : List (List Entry)) (t : List Entry) (later : List (List Entry)) → slice_index_or (tables ++ t ∷ later) (length tables) [] ≡ t
table_at [] t later = refl
table_at (x ∷ tables) t later = table_at tables t later

pub snoc_append : {A : Type 0} (xs : List A) (x : A) (ys : List A) → (xs ++ x ∷ []) ++ ys ≡ xs ++ x ∷ ys
snoc_append [] x ys = refl
snoc_append (z ∷ xs) x ys = ap (λ zs. z ∷ zs) (snoc_append xs x ys)

module _ (w : WhichFolder) (G H : Graph) (before : List CallMeaning) (tables : List (List Entry)) (K : Graph) (es : List Entry) (k : Kept w G H before tables K es) (c : CallMeaning) (t : List Entry) where
  abbrev After : Graph → List Entry → Type 0
  After K' es' = Kept w G H (before ++ c ∷ []) (tables ++ t ∷ []) K' es'

  moved : (K' : Graph) (es' : List Entry) (o : Option ℕ) → last_of K (put_by w c) ≡ K' → noted w (length before) c (summarised_at w before) ≡ o → Standing o K' es'
      → ((later : List (List Entry)) → entries_by o (tables ++ t ∷ later) ≡ es') → After K' es'
  moved K' es' o p q s e =
      let r = summarised_after w before c ∙ q in
      record {
        graph = in_force_after w G H before c ∙ ap (λ x. last_of x (put_by w c)) k.graph ∙ p;
        stands = subst (λ x. Standing x K' es') (sym r) s;
        entries = λ later. ap (λ x. entries_by x ((tables ++ t ∷ []) ++ later)) r ∙ ap (entries_by o) (snoc_append tables t later) ∙ e later;
      }

  -- a call that leaves the folder as it is
  pub left : put_by w c ≡ [] → noted w (length before) c (summarised_at w before) ≡ summarised_at w before → After K es
  left p q = moved K es (summarised_at w before) (ap (last_of K) p) q k.stands (λ later. k.entries (t ∷ later))

  -- another graph
  pub put : (K' : Graph) → put_by w c ≡ K' ∷ [] → noted w (length before) c (summarised_at w before) ≡ None → After K' []
  put K' p q = moved K' [] None (ap (last_of K) p) q refl (λ later. refl)

  -- a summarise of the folder
  pub filled : length tables ≡ length before → put_by w c ≡ [] → noted w (length before) c (summarised_at w before) ≡ Some (length before)
      → (r : Result ℕ SummariseFault) → Summarised K r t → After K t
  filled l p q r s = moved K t (Some (length before)) (ap (last_of K) p) q (r, s) (λ later. ap (λ n. slice_index_or (tables ++ t ∷ later) n []) (sym l) ∙ table_at tables t later)
