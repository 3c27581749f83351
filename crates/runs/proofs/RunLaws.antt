-- What a run yields: the rules, and the graphs and entries that it leaves.
use Rattle.std.proofs.Common.{◌≡◌, ℕ, zero, suc, List, [], ◌∷◌, ◌++◌, map, Some, sym, refl, ap, ◌∙◌, subst, append_assoc, append-nil}
use Rattle.std.proofs.lemmas.List.{length-map}
use Rattle.std.specs.List.{flat_map, slice_get}
use Rattle.std.specs.Prelude.{vec_items}
use Rattle.locks.specs.Graphs.{Graph, Bounded}
use Rattle.search.specs.declared.entries.Entry.{Entry}
use Rattle.search.specs.Folders.{Contents, contents, unsummarised}
use Rattle.runs.specs.declared.calls.WhichFolder.{WhichFolder}
use Rattle.runs.specs.declared.calls.WhichFolder.TheVariants.{First, Second}
use Rattle.runs.specs.declared.calls.Call.{Call}
use Rattle.runs.specs.declared.calls.Call.TheVariants as code
use Rattle.runs.specs.declared.calls.Answer.{Answer}
use Rattle.runs.specs.declared.calls.Answer.TheVariants as back
use Rattle.runs.specs.declared.running.Outcome.{Outcome}
use Rattle.runs.specs.Calls.{CallMeaning, exchange, asked, call_meaning, answer_meaning}
use Rattle.runs.specs.Obeying.{graph_of, entries_in, Obeys}
use Rattle.runs.specs.Rules.{EntriesAre}
use Rattle.runs.specs.Running.{firsts_by, seconds_by, firsts_back, seconds_back, RunRight}
use Rattle.runs.proofs.ChainLaws.{Obeyed, along}
use Rattle.runs.proofs.StandingLaws.{Kept, entries_are}

module _ {A B : Type 0} (of_first : A → Graph) (of_second : B → Graph) where
  -- the graphs of one folder: each is handed back when the next comes

  module _ {X : Type 0} (by : Call A B → List X) (of : Answer A B → List X) (now : Contents A → Contents B → X)
      (one : (f g : Contents A) (s t : Contents B) (c : Call A B) (z : Answer A B) → Obeys of_first of_second f s c z g t → of z ++ now g t ∷ [] ≡ now f s ∷ by c) where
    passed_on : (cs : List (Call A B)) (zs : List (Answer A B)) (f g : Contents A) (s t : Contents B) → Obeyed of_first of_second f s cs zs g t → flat_map of zs ++ now g t ∷ [] ≡ now f s ∷ flat_map by cs
    passed_on [] [] f g s t o = ap (λ x. now x t ∷ []) o.0 ∙ ap (λ y. now f y ∷ []) o.1
    passed_on [] (z ∷ zs) f g s t o = absurd o
    passed_on (c ∷ cs) [] f g s t o = absurd o
    passed_on (c ∷ cs) (z ∷ zs) f g s t o =
        append_assoc (of z) (flat_map of zs) (now g t ∷ [])
        ∙ ap (λ xs. of z ++ xs) (passed_on cs zs o.0 g o.1 t o.3)
        ∙ sym (append_assoc (of z) (now o.0 o.1 ∷ []) (flat_map by cs))
        ∙ ap (λ xs. xs ++ flat_map by cs) (one f o.0 s o.1 c z o.2)

  ask_first : (z : Answer A B) (x : _) (after : List ℕ) → answer_meaning of_first of_second z ≡ asked x after → firsts_back z ≡ []
  ask_first (back.ExchangedFirst g) x after e = absurd cc
  ask_first (back.ExchangedSecond g) x after e = refl
  ask_first (back.Summarised y) x after e = refl
  ask_first (back.Entry y) x after e = refl
  ask_first (back.Asked y list) x after e = refl
  ask_first (back.Replayed y moves) x after e = refl

  ask_second : (z : Answer A B) (x : _) (after : List ℕ) → answer_meaning of_first of_second z ≡ asked x after → seconds_back z ≡ []
  ask_second (back.ExchangedFirst g) x after e = refl
  ask_second (back.ExchangedSecond g) x after e = absurd cc
  ask_second (back.Summarised y) x after e = refl
  ask_second (back.Entry y) x after e = refl
  ask_second (back.Asked y list) x after e = refl
  ask_second (back.Replayed y moves) x after e = refl

  nothing_back : {X : Type 0} (xs : List X) (x y : X) → xs ≡ [] → x ≡ y → xs ++ x ∷ [] ≡ y ∷ []
  nothing_back xs x y e d = ap (λ zs. zs ++ x ∷ []) e ∙ ap (λ z. z ∷ []) d

  one_first : (f g : Contents A) (s t : Contents B) (c : Call A B) (z : Answer A B) → Obeys of_first of_second f s c z g t → firsts_back z ++ g.graph ∷ [] ≡ f.graph ∷ firsts_by c
  one_first f g s t (code.ExchangeFirst h) z o = ap (λ x. firsts_back x ++ g.graph ∷ []) o.0 ∙ ap (λ x. f.graph ∷ x.graph ∷ []) o.1
  one_first f g s t (code.ExchangeSecond h) z o = nothing_back (firsts_back z) g.graph f.graph (ap firsts_back o.0) (ap (λ x. x.graph) o.1)
  one_first f g s t (code.Summarise First) z o = nothing_back (firsts_back z) g.graph f.graph (ap firsts_back o.1) o.3
  one_first f g s t (code.Summarise Second) z o = nothing_back (firsts_back z) g.graph f.graph (ap firsts_back o.1) (ap (λ x. x.graph) o.3)
  one_first f g s t (code.Entry w n) z o = nothing_back (firsts_back z) g.graph f.graph (ap firsts_back o.0) (ap (λ x. x.graph) o.1)
  one_first f g s t (code.Ask q list) z o = nothing_back (firsts_back z) g.graph f.graph (ask_first z _ o.1 o.2) (ap (λ x. x.graph) o.4)
  one_first f g s t (code.Replay q moves) z o = nothing_back (firsts_back z) g.graph f.graph (ap firsts_back o.1) (ap (λ x. x.graph) o.3)

  one_second : (f g : Contents A) (s t : Contents B) (c : Call A B) (z : Answer A B) → Obeys of_first of_second f s c z g t → seconds_back z ++ t.graph ∷ [] ≡ s.graph ∷ seconds_by c
  one_second f g s t (code.ExchangeFirst h) z o = nothing_back (seconds_back z) t.graph s.graph (ap seconds_back o.0) (ap (λ x. x.graph) o.2)
  one_second f g s t (code.ExchangeSecond h) z o = ap (λ x. seconds_back x ++ t.graph ∷ []) o.0 ∙ ap (λ x. s.graph ∷ x.graph ∷ []) o.2
  one_second f g s t (code.Summarise First) z o = nothing_back (seconds_back z) t.graph s.graph (ap seconds_back o.1) (ap (λ x. x.graph) o.4)
  one_second f g s t (code.Summarise Second) z o = nothing_back (seconds_back z) t.graph s.graph (ap seconds_back o.1) o.4
  one_second f g s t (code.Entry w n) z o = nothing_back (seconds_back z) t.graph s.graph (ap seconds_back o.0) (ap (λ x. x.graph) o.2)
  one_second f g s t (code.Ask q list) z o = nothing_back (seconds_back z) t.graph s.graph (ask_second z _ o.1 o.2) (ap (λ x. x.graph) o.5)
  one_second f g s t (code.Replay q moves) z o = nothing_back (seconds_back z) t.graph s.graph (ap seconds_back o.1) (ap (λ x. x.graph) o.4)

  -- every kind's graphs are within the bounds

  module _ (left_bounded : (g : A) → Bounded (of_first g)) (right_bounded : (g : B) → Bounded (of_second g)) where
    exchanged_within : (c : Call A B) (w : WhichFolder) (K : Graph) → call_meaning of_first of_second c ≡ exchange w K → Bounded K
    exchanged_within (code.ExchangeFirst g) w K e = subst Bounded (let p : of_first g ≡ K = cc in p) (left_bounded g)
    exchanged_within (code.ExchangeSecond g) w K e = subst Bounded (let p : of_second g ≡ K = cc in p) (right_bounded g)
    exchanged_within (code.Summarise v) w K e = absurd cc
    exchanged_within (code.Entry v n) w K e = absurd cc
    exchanged_within (code.Ask q list) w K e = absurd cc
    exchanged_within (code.Replay q moves) w K e = absurd cc

    later_within : (cs : List (Call A B)) (i : ℕ) (w : WhichFolder) (K : Graph) → slice_get (map (call_meaning of_first of_second) cs) i ≡ Some (exchange w K) → Bounded K
    later_within [] i w K e = absurd cc
    later_within (c ∷ cs) zero w K e = exchanged_within c w K (let p : call_meaning of_first of_second c ≡ exchange w K = cc in p)
    later_within (c ∷ cs) (suc i) w K e = later_within cs i w K e

    -- the whole run

    begun : (g : A) (h : B) (w : WhichFolder) → Kept w (of_first g) (of_second h) [] [] (graph_of of_first of_second (unsummarised g) (unsummarised h) w) (entries_in of_first of_second (unsummarised g) (unsummarised h) w)
    begun g h First = record { graph = refl; stands = refl; entries = λ later. refl }
    begun g h Second = record { graph = refl; stands = refl; entries = λ later. refl }

    left_entries : (w : WhichFolder) (G H : Graph) (cs : List CallMeaning) (ts : List (List Entry)) (K : Graph) (es : List Entry) → Kept w G H cs ts K es → EntriesAre w cs ts es
    left_entries w G H cs ts K es k = subst (λ x. EntriesAre w cs x es) (append-nil ts) (entries_are w G H cs ts K es k [])

    opened_right : (g : A) (h : B) (cs : List (Call A B)) (ran : Outcome A B)
        → Obeyed of_first of_second (unsummarised g) (unsummarised h) cs (vec_items ran.answers) (contents ran.first) (contents ran.second) → RunRight of_first of_second g h cs ran
    opened_right g h cs ran o =
        let y = along of_first of_second (of_first g) (of_second h) cs (vec_items ran.answers) [] [] (unsummarised g) (contents ran.first) (unsummarised h) (contents ran.second) refl (begun g h) o in
        record {
          tables = y.tables;
          rules = record { as_many = length-map (vec_items ran.answers) (answer_meaning of_first of_second) ∙ y.as_many ∙ sym (length-map cs (call_meaning of_first of_second)); each = y.each };
          within = record { first = left_bounded g; second = right_bounded h; later = later_within cs };
          first_graphs = passed_on firsts_by firsts_back (λ f s. f.graph) one_first cs (vec_items ran.answers) (unsummarised g) (contents ran.first) (unsummarised h) (contents ran.second) o;
          second_graphs = passed_on seconds_by seconds_back (λ f s. s.graph) one_second cs (vec_items ran.answers) (unsummarised g) (contents ran.first) (unsummarised h) (contents ran.second) o;
          first_entries = left_entries First (of_first g) (of_second h) (map (call_meaning of_first of_second) cs) y.tables (of_first (contents ran.first).graph) (contents ran.first).summary (y.stands First);
          second_entries = left_entries Second (of_first g) (of_second h) (map (call_meaning of_first of_second) cs) y.tables (of_second (contents ran.second).graph) (contents ran.second).summary (y.stands Second);
        }

    pub run_right : (f : Contents A) (s : Contents B) (cs : List (Call A B)) (ran : Outcome A B) → f ≡ unsummarised f.graph → s ≡ unsummarised s.graph
        → Obeyed of_first of_second f s cs (vec_items ran.answers) (contents ran.first) (contents ran.second) → RunRight of_first of_second f.graph s.graph cs ran
    run_right f s cs ran e d o =
        opened_right f.graph s.graph cs ran
        (subst (λ x. Obeyed of_first of_second x (unsummarised s.graph) cs (vec_items ran.answers) (contents ran.first) (contents ran.second)) e
        (subst (λ y. Obeyed of_first of_second f y cs (vec_items ran.answers) (contents ran.first) (contents ran.second)) d o))
