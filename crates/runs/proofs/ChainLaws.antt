-- A chain of calls on two folders, each of which does what it should, keeps the rules.
use Rattle.std.proofs.Common.{◌≡◌, ℕ, zero, suc, List, [], ◌∷◌, ◌++◌, map, take, length, Some, Result, sym, refl, ap, ◌∙◌, subst, append-nil, arith, length-append}
use Rattle.std.specs.List.{slice_get}
use Rattle.std.specs.Prelude.{slice_index_or, vec_items}
use Rattle.locks.specs.declared.together.Side.{Side}
use Rattle.locks.specs.declared.together.Side.TheVariants.{Left, Right}
use Rattle.locks.specs.Graphs.{Graph}
use Rattle.search.specs.declared.entries.Entry.{Entry}
use Rattle.search.specs.Folders.{Contents, unsummarised}
use Rattle.search.specs.Replaying.{Replayed}
use Rattle.search.specs.Summarising.{Summarised}
use Rattle.pairs.specs.Answers as pair
use Rattle.pairs.specs.Answers.{Answered}
use Rattle.pairs.specs.Asking.{Asked, EntriesThere, EntriesMissing}
use Rattle.pairs.proofs.AskLaws.{answer_reworded}
use Rattle.runs.specs.declared.calls.WhichFolder.{WhichFolder}
use Rattle.runs.specs.declared.calls.WhichFolder.TheVariants.{First, Second}
use Rattle.runs.specs.declared.calls.Question.{Question}
use Rattle.runs.specs.declared.calls.Call.{Call}
use Rattle.runs.specs.declared.calls.Call.TheVariants as code
use Rattle.runs.specs.declared.calls.Answer.{Answer}
use Rattle.runs.specs.Calls.{CallMeaning, exchange, summarise, entry, ask, replay, AnswerMeaning, exchanged, call_meaning, answer_meaning, by_which, folder_at, in_force, put_by}
use Rattle.runs.specs.Rules.{IsSummarised, NotSummarised, Rule}
use Rattle.runs.specs.Obeying.{graph_of, entries_in, Obeys}
use Rattle.runs.proofs.PointLaws.{noted, summarised_at}
use Rattle.runs.proofs.StandingLaws.{Kept, ready, there, unready, gone, of_graph, entries_are, snoc_append, left, put, filled}

module _ {A B : Type 0} (of_first : A → Graph) (of_second : B → Graph) where
  -- the calls, made one after another
  abbrev pub Obeyed : Contents A → Contents B → List (Call A B) → List (Answer A B) → Contents A → Contents B → Type 0
  Obeyed f s [] [] f' s' = (f' ≡ f) × (s' ≡ s)
  Obeyed f s [] (z ∷ zs) f' s' = ⊥
  Obeyed f s (c ∷ cs) [] f' s' = ⊥
  Obeyed f s (c ∷ cs) (z ∷ zs) f' s' = (g : Contents A) × (t : Contents B) × Obeys of_first of_second f s c z g t × Obeyed g t cs zs f' s'

  -- whatever the calls that are left get for answers, with these before them it makes the chain of all calls
  abbrev pub Continues : Contents A → Contents B → List (Call A B) → List (Answer A B) → Contents A → Contents B → List (Call A B) → Type 0
  Continues f s cs zs g t rest = (ys : List (Answer A B)) (f' : Contents A) (s' : Contents B) → Obeyed g t rest ys f' s' → Obeyed f s cs (zs ++ ys) f' s'

  pub goes_on : (f g g' : Contents A) (s t t' : Contents B) (cs rest rest' : List (Call A B)) (zs zs' : List (Answer A B)) (c : Call A B) (z : Answer A B)
      → Continues f s cs zs g t rest → rest ≡ c ∷ rest' → Obeys of_first of_second g t c z g' t' → zs' ≡ zs ++ z ∷ [] → Continues f s cs zs' g' t' rest'
  goes_on f g g' s t t' cs rest rest' zs zs' c z k e o d ys f' s' x =
      subst (λ y. Obeyed f s cs y f' s') (sym (snoc_append zs z ys) ∙ ap (λ y. y ++ ys) (sym d)) (k (z ∷ ys) f' s' (subst (λ y. Obeyed g t y (z ∷ ys) f' s') (sym e) (g', t', o, x)))

  pub ends : (f g : Contents A) (s t : Contents B) (cs rest : List (Call A B)) (zs : List (Answer A B)) → Continues f s cs zs g t rest → length rest ≡ 0 → Obeyed f s cs zs g t
  ends f g s t cs [] zs k e = subst (λ y. Obeyed f s cs y g t) (append-nil zs) (k [] g t (refl, refl))
  ends f g s t cs (c ∷ rest) zs k e = absurd (omega arith)

  -- the entries that belong to a call: those that a summarise leaves
  abbrev table_of : Call A B → Contents A → Contents B → List Entry
  table_of (code.ExchangeFirst g) f s = []
  table_of (code.ExchangeSecond g) f s = []
  table_of (code.Summarise w) f s = by_which f.summary s.summary w
  table_of (code.Entry w n) f s = []
  table_of (code.Ask q list) f s = []
  table_of (code.Replay q moves) f s = []

  module _ (G H : Graph) where
    -- both folders after these calls
    abbrev Stands : List CallMeaning → List (List Entry) → Contents A → Contents B → Type 0
    Stands before ts f s = (w : WhichFolder) → Kept w G H before ts (graph_of of_first of_second f s w) (entries_in of_first of_second f s w)

    module _ (before : List CallMeaning) (ts : List (List Entry)) (f : Contents A) (s : Contents B) (k : Stands before ts f s) where
      -- one call more, by what it does to each folder

      abbrev Next : CallMeaning → List Entry → Contents A → Contents B → Type 0
      Next c t f' s' = Stands (before ++ c ∷ []) (ts ++ t ∷ []) f' s'

      put_first : (g : A) → Next (exchange First (of_first g)) [] (unsummarised g) s
      put_first g First = put First G H before ts (of_first f.graph) f.summary (k First) (exchange First (of_first g)) [] (of_first g) refl refl
      put_first g Second = left Second G H before ts (of_second s.graph) s.summary (k Second) (exchange First (of_first g)) [] refl refl

      put_second : (g : B) → Next (exchange Second (of_second g)) [] f (unsummarised g)
      put_second g First = left First G H before ts (of_first f.graph) f.summary (k First) (exchange Second (of_second g)) [] refl refl
      put_second g Second = put Second G H before ts (of_second s.graph) s.summary (k Second) (exchange Second (of_second g)) [] (of_second g) refl refl

      unchanged : (f' : Contents A) (s' : Contents B) (c : CallMeaning) → ((w : WhichFolder) → put_by w c ≡ []) → ((w : WhichFolder) → noted w (length before) c (summarised_at w before) ≡ summarised_at w before)
          → f' ≡ f → s' ≡ s → Next c [] f' s'
      unchanged f' s' c p q d e =
          subst (λ x. Next c [] x s') (sym d) (subst (λ y. Next c [] f y) (sym e)
          (λ w. left w G H before ts (graph_of of_first of_second f s w) (entries_in of_first of_second f s w) (k w) c [] (p w) (q w)))

      module _ (len : length ts ≡ length before) where
        filled_first : (f' : Contents A) (x : Result ℕ _) → Summarised (of_first f.graph) x f'.summary → f'.graph ≡ f.graph → Next (summarise First) f'.summary f' s
        filled_first f' x m e First = subst (λ g. Kept First G H (before ++ summarise First ∷ []) (ts ++ f'.summary ∷ []) (of_first g) f'.summary) (sym e)
            (filled First G H before ts (of_first f.graph) f.summary (k First) (summarise First) f'.summary len refl refl x m)
        filled_first f' x m e Second = left Second G H before ts (of_second s.graph) s.summary (k Second) (summarise First) f'.summary refl refl

        filled_second : (s' : Contents B) (x : Result ℕ _) → Summarised (of_second s.graph) x s'.summary → s'.graph ≡ s.graph → Next (summarise Second) s'.summary f s'
        filled_second s' x m e First = left First G H before ts (of_first f.graph) f.summary (k First) (summarise Second) s'.summary refl refl
        filled_second s' x m e Second = subst (λ g. Kept Second G H (before ++ summarise Second ∷ []) (ts ++ s'.summary ∷ []) (of_second g) s'.summary) (sym e)
            (filled Second G H before ts (of_second s.graph) s.summary (k Second) (summarise Second) s'.summary len refl refl x m)

        step : (f' : Contents A) (s' : Contents B) (c : Call A B) (z : Answer A B) → Obeys of_first of_second f s c z f' s' → Next (call_meaning of_first of_second c) (table_of c f' s') f' s'
        step f' s' (code.ExchangeFirst g) z o =
            subst (λ x. Next (exchange First (of_first g)) [] x s') (sym o.1) (subst (λ y. Next (exchange First (of_first g)) [] (unsummarised g) y) (sym o.2) (put_first g))
        step f' s' (code.ExchangeSecond g) z o =
            subst (λ x. Next (exchange Second (of_second g)) [] x s') (sym o.1) (subst (λ y. Next (exchange Second (of_second g)) [] f y) (sym o.2) (put_second g))
        step f' s' (code.Summarise First) z o = subst (λ y. Next (summarise First) f'.summary f' y) (sym o.4) (filled_first f' o.0 o.2 o.3)
        step f' s' (code.Summarise Second) z o = subst (λ x. Next (summarise Second) s'.summary x s') (sym o.3) (filled_second s' o.0 o.2 o.4)
        step f' s' (code.Entry w n) z o = unchanged f' s' (entry w n) (λ _. refl) (λ _. refl) o.1 o.2
        step f' s' (code.Ask q list) z o = unchanged f' s' (ask q (vec_items list)) (λ _. refl) (λ _. refl) o.4 o.5
        step f' s' (code.Replay q moves) z o = unchanged f' s' (replay q (vec_items moves)) (λ _. refl) (λ _. refl) o.3 o.4

      -- and by what it must answer

      module _ (q : Question) where
        abbrev lefts : List Entry
        lefts = entries_in of_first of_second f s (folder_at q Left)

        abbrev rights : List Entry
        rights = entries_in of_first of_second f s (folder_at q Right)

        ready_at : (side : Side) → EntriesThere lefts rights side → IsSummarised (folder_at q side) G H before
        ready_at Left h = ready (folder_at q Left) G H before ts _ _ (k (folder_at q Left)) h
        ready_at Right h = ready (folder_at q Right) G H before ts _ _ (k (folder_at q Right)) h

        there_at : (side : Side) → IsSummarised (folder_at q side) G H before → EntriesThere lefts rights side
        there_at Left h = there (folder_at q Left) G H before ts _ _ (k (folder_at q Left)) h
        there_at Right h = there (folder_at q Right) G H before ts _ _ (k (folder_at q Right)) h

        unready_at : (side : Side) → EntriesMissing lefts rights side → NotSummarised (folder_at q side) G H before
        unready_at Left h = unready (folder_at q Left) G H before ts _ _ (k (folder_at q Left)) h
        unready_at Right h = unready (folder_at q Right) G H before ts _ _ (k (folder_at q Right)) h

        gone_at : (side : Side) → NotSummarised (folder_at q side) G H before → EntriesMissing lefts rights side
        gone_at Left h = gone (folder_at q Left) G H before ts _ _ (k (folder_at q Left)) h
        gone_at Right h = gone (folder_at q Right) G H before ts _ _ (k (folder_at q Right)) h

        -- said of the graphs in force
        in_point : (P : Graph → Graph → Type 0) → P (graph_of of_first of_second f s (folder_at q Left)) (graph_of of_first of_second f s (folder_at q Right)) → P (in_force (folder_at q Left) G H before) (in_force (folder_at q Right) G H before)
        in_point P x =
            subst (λ X. P X (in_force (folder_at q Right) G H before)) (sym (k (folder_at q Left)).graph)
            (subst (λ Y. P (graph_of of_first of_second f s (folder_at q Left)) Y) (sym (k (folder_at q Right)).graph) x)

        answered : (list : List ℕ) (x : pair.Answer) (after : List ℕ)
            → Asked (graph_of of_first of_second f s (folder_at q Left)) (graph_of of_first of_second f s (folder_at q Right)) lefts rights q.left.location q.right.location list x after
            → Answered (λ side. IsSummarised (folder_at q side) G H before) (λ side. NotSummarised (folder_at q side) G H before)
            (in_force (folder_at q Left) G H before) (in_force (folder_at q Right) G H before) q.left.location q.right.location list x after
        answered list x after a =
            in_point (λ X Y. Answered (λ side. IsSummarised (folder_at q side) G H before) (λ side. NotSummarised (folder_at q side) G H before) X Y q.left.location q.right.location list x after)
            (answer_reworded (EntriesThere lefts rights) (EntriesMissing lefts rights) (λ side. IsSummarised (folder_at q side) G H before) (λ side. NotSummarised (folder_at q side) G H before)
            ready_at there_at unready_at gone_at _ _ q.left.location q.right.location list x after
            (a.judges (of_graph (folder_at q Left) G H before ts _ _ (k (folder_at q Left))) (of_graph (folder_at q Right) G H before ts _ _ (k (folder_at q Right)))))

      rule : (later : List (List Entry)) (f' : Contents A) (s' : Contents B) (c : Call A B) (z : Answer A B) → Obeys of_first of_second f s c z f' s' → Rule G H before (ts ++ later) (table_of c f' s') (call_meaning of_first of_second c) (answer_meaning of_first of_second z)
      rule later f' s' (code.ExchangeFirst g) z o = ap (answer_meaning of_first of_second) o.0 ∙ ap (exchanged First) (sym (k First).graph)
      rule later f' s' (code.ExchangeSecond g) z o = ap (answer_meaning of_first of_second) o.0 ∙ ap (exchanged Second) (sym (k Second).graph)
      rule later f' s' (code.Summarise First) z o = (o.0, ap (answer_meaning of_first of_second) o.1, subst (λ K. Summarised K o.0 f'.summary) (sym (k First).graph) o.2)
      rule later f' s' (code.Summarise Second) z o = (o.0, ap (answer_meaning of_first of_second) o.1, subst (λ K. Summarised K o.0 s'.summary) (sym (k Second).graph) o.2)
      rule later f' s' (code.Entry w n) z o = (entries_in of_first of_second f s w, ap (answer_meaning of_first of_second) o.0, entries_are w G H before ts (graph_of of_first of_second f s w) (entries_in of_first of_second f s w) (k w) later)
      rule later f' s' (code.Ask q list) z o = (o.0, o.1, o.2, answered q (vec_items list) o.0 o.1 o.3)
      rule later f' s' (code.Replay q moves) z o =
          (o.0, ap (answer_meaning of_first of_second) o.1, in_point q (λ X Y. Replayed X Y q.left.location q.right.location (vec_items moves) o.0) o.2)

    -- the rules for calls that come after others
    abbrev Keeping : List CallMeaning → List (List Entry) → List (Call A B) → List (Answer A B) → List (List Entry) → Type 0
    Keeping before ts cs zs us =
        (i : ℕ) (c : CallMeaning) (z : AnswerMeaning) → slice_get (map (call_meaning of_first of_second) cs) i ≡ Some c → slice_get (map (answer_meaning of_first of_second) zs) i ≡ Some z
        → Rule G H (before ++ take i (map (call_meaning of_first of_second) cs)) (ts ++ us) (slice_index_or us i []) c z

    -- the first of them, and the others
    keeping : (before : List CallMeaning) (ts : List (List Entry)) (c : Call A B) (z : Answer A B) (cs : List (Call A B)) (zs : List (Answer A B)) (t : List Entry) (us : List (List Entry))
        → Rule G H before (ts ++ t ∷ us) t (call_meaning of_first of_second c) (answer_meaning of_first of_second z) → Keeping (before ++ call_meaning of_first of_second c ∷ []) (ts ++ t ∷ []) cs zs us → Keeping before ts (c ∷ cs) (z ∷ zs) (t ∷ us)
    keeping before ts c z cs zs t us first others zero d y p q =
        let e : call_meaning of_first of_second c ≡ d = cc in
        let g : answer_meaning of_first of_second z ≡ y = cc in
        subst (λ b. Rule G H b (ts ++ t ∷ us) t d y) (sym (append-nil before))
        (subst (λ x. Rule G H before (ts ++ t ∷ us) t x y) e (subst (λ x. Rule G H before (ts ++ t ∷ us) t (call_meaning of_first of_second c) x) g first))
    keeping before ts c z cs zs t us first others (suc i) d y p q =
        subst (λ b. Rule G H b (ts ++ t ∷ us) (slice_index_or us i []) d y) (snoc_append before (call_meaning of_first of_second c) (take i (map (call_meaning of_first of_second) cs)))
        (subst (λ x. Rule G H ((before ++ call_meaning of_first of_second c ∷ []) ++ take i (map (call_meaning of_first of_second) cs)) x (slice_index_or us i []) d y) (snoc_append ts t us) (others i d y p q))

    -- what a chain of calls that comes after others yields
    pub record Yields (before : List CallMeaning) (ts : List (List Entry)) (cs : List (Call A B)) (zs : List (Answer A B)) (f' : Contents A) (s' : Contents B) : Type 0 where
      pub tables : List (List Entry)
      pub as_many : length zs ≡ length cs
      pub each : Keeping before ts cs zs tables
      pub stands : Stands (before ++ map (call_meaning of_first of_second) cs) (ts ++ tables) f' s'

    one_more : {X Y : Type 0} (xs : List X) (x : X) (ys : List Y) (y : Y) → length xs ≡ length ys → length (xs ++ x ∷ []) ≡ length (ys ++ y ∷ [])
    one_more xs x ys y e = let p = length-append xs (x ∷ []) in let q = length-append ys (y ∷ []) in omega arith

    pub along : (cs : List (Call A B)) (zs : List (Answer A B)) (before : List CallMeaning) (ts : List (List Entry)) (f f' : Contents A) (s s' : Contents B)
        → length ts ≡ length before → Stands before ts f s → Obeyed f s cs zs f' s' → Yields before ts cs zs f' s'
    along [] [] before ts f f' s s' len k o =
        record {
          tables = [];
          as_many = refl;
          each = λ i c z p q. absurd cc;
          stands = subst (λ b. Stands b (ts ++ []) f' s') (sym (append-nil before)) (subst (λ x. Stands before x f' s') (sym (append-nil ts))
              (subst (λ x. Stands before ts x s') (sym o.0) (subst (λ y. Stands before ts f y) (sym o.1) k)));
        }
    along [] (z ∷ zs) before ts f f' s s' len k o = absurd o
    along (c ∷ cs) [] before ts f f' s s' len k o = absurd o
    along (c ∷ cs) (z ∷ zs) before ts f f' s s' len k o =
        let g = o.0 in
        let h = o.1 in
        let t = table_of c g h in
        let y = along cs zs (before ++ call_meaning of_first of_second c ∷ []) (ts ++ t ∷ []) g f' h s' (one_more ts t before (call_meaning of_first of_second c) len) (step before ts f s k len g h c z o.2) o.3 in
        record {
          tables = t ∷ y.tables;
          as_many = ap suc y.as_many;
          each = keeping before ts c z cs zs t y.tables (rule before ts f s k (t ∷ y.tables) g h c z o.2) y.each;
          stands = subst (λ b. Stands b (ts ++ t ∷ y.tables) f' s') (snoc_append before (call_meaning of_first of_second c) (map (call_meaning of_first of_second) cs))
              (subst (λ x. Stands ((before ++ call_meaning of_first of_second c ∷ []) ++ map (call_meaning of_first of_second) cs) x f' s') (snoc_append ts t y.tables) y.stands);
        }
