-- Records by location, as a list of them grows, and the graph of a whole table.
use Rattle.std.proofs.Common.{◌≡◌, ℕ, zero, suc, ◌≤◌, ◌+◌, ◌<◌, eqb, List, [], ◌∷◌, ◌++◌, map, length, take, drop, set, get_or, Some, None, Option, sym, refl, ap, subst, ◌∙◌, ⊎_elim, arith, true, false}
use Rattle.std.specs.Prelude.{All, Ok}
use Rattle.std.specs.List.{slice_get}
use Rattle.std.specs.Option.{option_map, is_some}
use Rattle.std.proofs.lemmas.Bool.{cond-true, cond-false, cases_lt, eq-eqb}
use Rattle.std.proofs.lemmas.Bool.Decides.{eqb_tells}
use Rattle.std.proofs.lemmas.List.{get_or_past, take_more, take-append-drop, get_or-set_same, get_or-set_other, map-append, append-nil, length-append, length-map, length-set, map-set, get_or-map, ext_get_or}
use Rattle.std.proofs.lemmas.List.Elements.{filter-append, All-filter, All-push}
use Rattle.std.proofs.lemmas.Option.{slice_get-get_or, slice_get_within, get_or_from_slice_get, slice_get-map}
use Rattle.locks.specs.declared.steps.Step.{Step}
use Rattle.locks.specs.declared.steps.Kind.{Kind}
use Rattle.locks.specs.declared.steps.Kind.TheVariants.{Plain}
use Rattle.locks.specs.declared.steps.Kind.TheVariants as kind
use Rattle.locks.specs.Graphs.{Graph, Bounded, StepFits, locations, steps_at, step_at}
use Rattle.locks.specs.Limits.{most_locations, most_steps}
use Rattle.locks.specs.Steps.{kind_number}
use Rattle.readers.specs.declared.table.record.Record.{Record}
use Rattle.readers.specs.Records.{Fits, Spells, RowsSay, TableSays, record_of, records_at}
use Rattle.readers.specs.declared.table.row.Row.{Row}
use Rattle.readers.specs.Rows.{row_steps, rows_steps}
use Rattle.readers.specs.Tables.{TablesSayOneGraph}
use Rattle.readers.specs.TableRefusals.{AllFit, AllFew, CountFits, FirstTooMany, TableAnswers}

-- one record more

own : (r : Record) → records_at r.from (r ∷ []) ≡ r ∷ []
own r = cond-true (eqb r.from r.from) (r ∷ []) [] (eq-eqb r.from r.from refl)

not_own : (l : ℕ) (r : Record) → eqb r.from l ≡ false → records_at l (r ∷ []) ≡ []
not_own l r e = cond-false (eqb r.from l) (r ∷ []) [] e

records_push : (l : ℕ) (rs : List Record) (r : Record) → records_at l (rs ++ r ∷ []) ≡ records_at l rs ++ records_at l (r ∷ [])
records_push l rs r = filter-append (λ x. eqb x.from l) rs (r ∷ [])

pub records_own : (rs : List Record) (r : Record) → records_at r.from (rs ++ r ∷ []) ≡ records_at r.from rs ++ r ∷ []
records_own rs r = records_push r.from rs r ∙ ap (λ xs. records_at r.from rs ++ xs) (own r)

pub records_other : (l : ℕ) (rs : List Record) (r : Record) → eqb r.from l ≡ false → records_at l (rs ++ r ∷ []) ≡ records_at l rs
records_other l rs r e = records_push l rs r ∙ ap (λ xs. records_at l rs ++ xs) (not_own l r e) ∙ append-nil (records_at l rs)

-- a location has room for a record of it that is still to come
pub room_for : (rs : List Record) (i : ℕ) (d : Record) → i < length rs → AllFew rs → length (records_at (get_or rs i d).from (take i rs)) < most_steps
room_for rs i d h few =
    let r = get_or rs i d in
    let whole : records_at r.from (take (i + 1) rs) ++ records_at r.from (drop (i + 1) rs) ≡ records_at r.from rs =
    sym (filter-append (λ x. eqb x.from r.from) (take (i + 1) rs) (drop (i + 1) rs)) ∙ ap (records_at r.from) (take-append-drop (i + 1) rs) in
    let more = ap length (ap (records_at r.from) (take_more rs i d h) ∙ records_own (take i rs) r) in
    let sum = ap length whole in
    let parts = length-append (records_at r.from (take (i + 1) rs)) (records_at r.from (drop (i + 1) rs)) in
    let pushed = length-append (records_at r.from (take i rs)) (r ∷ []) in
    let all = few r.from in
    omega arith

-- one more that fits
pub fit_more : (n : ℕ) (rs : List Record) (i : ℕ) (d : Record) (o : Option Step) → i < length rs → Spells n (get_or rs i d) o → is_some o ≡ true → AllFit n (take i rs) → AllFit n (take (i + 1) rs)
fit_more n rs i d (Some s) h spelt some fit = subst (AllFit n) (sym (take_more rs i d h)) (All-push (Fits n) (take i rs) (get_or rs i d) fit spelt.0)
fit_more n rs i d None h spelt some fit = cc

-- a record whose location is full, by the counts so far, is the first that is one too many
pub too_many : (n : ℕ) (rs : List Record) (counts : List ℕ) (i from : ℕ) (d : Record) → n ≤ most_locations → AllFit n rs → i < length rs → from ≡ (get_or rs i d).from → ((k : ℕ) → k < most_locations → get_or counts k 0 ≡ length (records_at k (take i rs))) → AllFew (take i rs) → most_steps ≤ get_or counts from 0 → FirstTooMany rs i
too_many n rs counts i from d less fit h is counted few full =
    let fits = fit i d h in
    let low = fits.from_there in
    let there = few (get_or rs i d).from in
    let count = counted (get_or rs i d).from (omega arith) in
    let here = ap (λ l. get_or counts l 0) is in
    record { it = get_or rs i d; there = slice_get-get_or rs i d h; full = omega arith; few_before = few }

-- the steps of the records so far, and of one more

step_entered : (l : ℕ) (steps : List (List Step)) (rs : List Record) (r : Record) (s : Step) → r.from < length steps → record_of r.from s ≡ r → ((k : ℕ) → map (record_of k) (get_or steps k []) ≡ records_at k rs)
    → map (record_of l) (get_or (set steps r.from (get_or steps r.from [] ++ s ∷ [])) l []) ≡ records_at l (rs ++ r ∷ [])
step_entered l steps rs r s h is say =
    ⊎_elim
    (λ p. let here : map (record_of r.from) (get_or (set steps r.from (get_or steps r.from [] ++ s ∷ [])) r.from []) ≡ records_at r.from (rs ++ r ∷ []) =
    ap (map (record_of r.from)) (get_or-set_same steps r.from (get_or steps r.from [] ++ s ∷ []) [] h)
    ∙ map-append (record_of r.from) (get_or steps r.from []) (s ∷ [])
    ∙ ap (λ xs. xs ++ record_of r.from s ∷ []) (say r.from)
    ∙ ap (λ x. records_at r.from rs ++ x ∷ []) is
    ∙ sym (records_own rs r) in
    subst (λ k. map (record_of k) (get_or (set steps r.from (get_or steps r.from [] ++ s ∷ [])) k []) ≡ records_at k (rs ++ r ∷ [])) p.1 here)
    (λ p. ap (map (record_of l)) (get_or-set_other steps r.from l (get_or steps r.from [] ++ s ∷ []) [] (λ q. p.1 (sym q)))
    ∙ say l
    ∙ sym (records_other l rs r p.0))
    (eqb_tells r.from l)

pub enter : (n : ℕ) (rs : List Record) (steps : List (List Step)) (r : Record) (s : Step) → Fits n r → record_of r.from s ≡ r → RowsSay n rs steps → RowsSay n (rs ++ r ∷ []) (set steps r.from (get_or steps r.from [] ++ s ∷ []))
enter n rs steps r s fits is say =
    let many = say.locations_are in
    let low = fits.from_there in
    record {
      locations_are = length-set steps r.from (get_or steps r.from [] ++ s ∷ []) ∙ say.locations_are;
      steps_are = λ l. step_entered l steps rs r s (omega arith) is say.steps_are;
    }

pub table_said : (n start : ℕ) (rs : List Record) (steps : List (List Step)) → RowsSay n rs steps → TableSays n start rs (record { start = start; steps = steps })
table_said n start rs steps say = record { start_is = refl; rows = say }

-- the graph of a whole table is within the bounds

few_there : (n start : ℕ) (rs : List Record) (G : Graph) → AllFew rs → TableSays n start rs G → (l : ℕ) → length (steps_at G l) ≤ most_steps
few_there n start rs G few t l =
    let long = length-map (steps_at G l) (record_of l) in
    let same = ap length (t.rows.steps_are l) in
    let low = few l in
    omega arith

step_fits : (n start : ℕ) (rs : List Record) (G : Graph) → AllFit n rs → TableSays n start rs G → (l i : ℕ) (s : Step) → step_at G l i ≡ Some s → StepFits G s
step_fits n start rs G fit t l i s e =
    let within = slice_get_within (steps_at G l) i s e in
    let long = length-map (steps_at G l) (record_of l) in
    let same = ap length (t.rows.steps_are l) in
    let there : slice_get (map (record_of l) (steps_at G l)) i ≡ Some (record_of l s) =
    slice_get-map (record_of l) (steps_at G l) i ∙ ap (λ o. option_map (record_of l) o) e in
    let it : get_or (records_at l rs) i (record_of l s) ≡ record_of l s =
    get_or_from_slice_get (records_at l rs) i (record_of l s) (record_of l s) (ap (λ xs. slice_get xs i) (sym (t.rows.steps_are l)) ∙ there) in
    let kept = All-filter (λ r. eqb r.from l) (Fits n) rs fit in
    let fits : Fits n (record_of l s) = subst (Fits n) it (kept i (record_of l s) (omega arith)) in
    let many = t.rows.locations_are in
    let to = fits.to_there in
    record {
      target_there = omega arith;
      lock_there = fits.lock_known;
      plain_without = λ p. fits.plain_without (ap kind_number p);
    }

pub bounded : (n start : ℕ) (rs : List Record) (G : Graph) → CountFits n → start < n → AllFit n rs → AllFew rs → TableSays n start rs G → Bounded G
bounded n start rs G count low fit few t =
    let many = t.rows.locations_are in
    let begin = t.start_is in
    let some = count.some in
    let less = count.few in
    record {
      not_empty = omega arith;
      few_locations = omega arith;
      start_there = omega arith;
      few_steps = few_there n start rs G few t;
      steps_fit = step_fits n start rs G fit t;
    }

-- the same of rows

row_there : (rows : List Row) (at : ℕ) (row : Row) → at < length rows → row ≡ get_or rows at row → row_steps row ≡ get_or (rows_steps rows) at []
row_there rows at row h is = ap row_steps is ∙ sym (get_or-map row_steps rows at row [] h)

pub row_has_room : (n : ℕ) (rs : List Record) (rows : List Row) (i at : ℕ) (d : Record) (row : Row) → i < length rs → AllFew rs → Fits n (get_or rs i d) → at ≡ (get_or rs i d).from → row ≡ get_or rows at row → RowsSay n (take i rs) (rows_steps rows) → length (row_steps row) < most_steps
row_has_room n rs rows i at d row h few fits from is say =
    let low = fits.from_there in
    let many = say.locations_are in
    let every = length-map rows row_steps in
    let in_rows : at < length rows = omega arith in
    let room = room_for rs i d h few in
    let here = ap length (row_there rows at row in_rows is) in
    let long = length-map (get_or (rows_steps rows) at []) (record_of at) in
    let same = ap length (say.steps_are at) in
    let moved = ap (λ l. length (records_at l (take i rs))) from in
    omega arith

pub row_entered : (n : ℕ) (rs : List Record) (rows : List Row) (i at : ℕ) (d : Record) (row new : Row) (s : Step) → i < length rs → Fits n (get_or rs i d) × (record_of (get_or rs i d).from s ≡ get_or rs i d) → at ≡ (get_or rs i d).from → row ≡ get_or rows at row → row_steps new ≡ row_steps row ++ s ∷ [] → RowsSay n (take i rs) (rows_steps rows) → RowsSay n (take (i + 1) rs) (rows_steps (set rows at new))
row_entered n rs rows i at d row new s h spelt from is pushed say =
    let r = get_or rs i d in
    let steps = rows_steps rows in
    let low = spelt.0.from_there in
    let many = say.locations_are in
    let long = length-map rows row_steps in
    let in_rows : at < length rows = omega arith in
    let grown : row_steps new ≡ get_or steps at [] ++ s ∷ [] = pushed ∙ ap (λ xs. xs ++ s ∷ []) (row_there rows at row in_rows is) in
    let is_set : rows_steps (set rows at new) ≡ set steps r.from (get_or steps r.from [] ++ s ∷ []) =
    map-set row_steps rows at new ∙ ap (set steps at) grown ∙ ap (λ l. set steps l (get_or steps l [] ++ s ∷ [])) from in
    subst (λ xs. RowsSay n xs (rows_steps (set rows at new))) (sym (take_more rs i d h))
    (subst (RowsSay n (take i rs ++ r ∷ [])) (sym is_set) (enter n (take i rs) steps r s spelt.0 spelt.1 say))

-- what the records say is one graph

same_kind : (a b : Kind) → kind_number a ≡ kind_number b → a ≡ b
same_kind Plain Plain e = refl
same_kind Plain kind.Take e = cc
same_kind Plain kind.Give e = cc
same_kind kind.Take Plain e = cc
same_kind kind.Take kind.Take e = refl
same_kind kind.Take kind.Give e = cc
same_kind kind.Give Plain e = cc
same_kind kind.Give kind.Take e = cc
same_kind kind.Give kind.Give e = refl

same_step : (l : ℕ) (s t : Step) → record_of l s ≡ record_of l t → s ≡ t
same_step l s t e =
    let kinds = same_kind s.kind t.kind (ap (λ r. r.kind) e) in
    let locks = ap (λ r. r.lock) e in
    let targets = ap (λ r. r.to) e in
    ap (λ k. record { kind = k; lock = s.lock; target = s.target }) kinds
    ∙ ap (λ k. record { kind = t.kind; lock = k; target = s.target }) locks
    ∙ ap (λ k. record { kind = t.kind; lock = t.lock; target = k }) targets

same_steps : (l : ℕ) (xs ys : List Step) → map (record_of l) xs ≡ map (record_of l) ys → xs ≡ ys
same_steps l [] [] e = refl
same_steps l [] (y ∷ ys) e = cc
same_steps l (x ∷ xs) [] e = cc
same_steps l (x ∷ xs) (y ∷ ys) e =
    let first : record_of l x ≡ record_of l y = cc in
    let rest : map (record_of l) xs ≡ map (record_of l) ys = cc in
    ap (λ z. z ∷ xs) (same_step l x y first) ∙ ap (λ zs. y ∷ zs) (same_steps l xs ys rest)

one_graph : (n start : ℕ) (rs : List Record) (G H : Graph) → TableSays n start rs G → TableSays n start rs H → G ≡ H
one_graph n start rs G H t u =
    let starts = t.start_is ∙ sym u.start_is in
    let steps = ext_get_or [] G.steps H.steps (t.rows.locations_are ∙ sym u.rows.locations_are)
    (λ l h. same_steps l (steps_at G l) (steps_at H l) (t.rows.steps_are l ∙ sym (u.rows.steps_are l))) in
    ap (λ s. record { start = s; steps = G.steps }) starts ∙ ap (λ ss. record { start = H.start; steps = ss }) steps

-- a table of which a graph within the bounds is what it says is accepted

unfiltered : (P : Record → Type 0) (l : ℕ) (rs : List Record) → All P (records_at l rs) → (i : ℕ) (d : Record) → i < length rs → (get_or rs i d).from ≡ l → P (get_or rs i d)
unfiltered P l [] p i d h e = absurd (omega arith)
unfiltered P l (r ∷ rs) p zero d h e =
    let here = cond-true (eqb r.from l) (r ∷ records_at l rs) (records_at l rs) (eq-eqb r.from l e) in
    (subst (All P) here p) 0 d (omega arith)
unfiltered P l (r ∷ rs) p (suc i) d h e =
    unfiltered P l rs (⊎_elim
    (λ q. (λ j c k. (subst (All P) (cond-true (eqb r.from l) (r ∷ records_at l rs) (records_at l rs) q.0) p) (suc j) c (omega arith)))
    (λ q. subst (All P) (cond-false (eqb r.from l) (r ∷ records_at l rs) (records_at l rs) q.0) p)
    (eqb_tells r.from l)) i d (omega arith) e

all_map : (P : Record → Type 0) (f : Step → Record) (xs : List Step) → ((i : ℕ) (s : Step) → slice_get xs i ≡ Some s → P (f s)) → All P (map f xs)
all_map P f [] h i d k = absurd (omega arith)
all_map P f (x ∷ xs) h zero d k = h 0 x refl
all_map P f (x ∷ xs) h (suc i) d k = all_map P f xs (λ j s e. h (suc j) s e) i d (omega arith)

known_kind : (d : Kind) → kind_number d ≤ 2
known_kind Plain = omega arith
known_kind kind.Take = omega arith
known_kind kind.Give = omega arith

plain_kind : (d : Kind) → kind_number d ≡ 0 → d ≡ Plain
plain_kind Plain e = refl
plain_kind kind.Take e = cc
plain_kind kind.Give e = cc

location_there : (G : Graph) (l i : ℕ) (s : Step) → step_at G l i ≡ Some s → l < locations G
location_there G l i s e =
    let within = slice_get_within (steps_at G l) i s e in
    ⊎_elim (λ low. low) (λ high. let none = ap length (get_or_past G.steps l [] high) in absurd (omega arith)) (cases_lt l (locations G))

record_fits : (n start : ℕ) (rs : List Record) (G : Graph) → TableSays n start rs G → Bounded G → (l i : ℕ) (s : Step) → step_at G l i ≡ Some s → Fits n (record_of l s)
record_fits n start rs G t b l i s e =
    let fits = b.steps_fit l i s e in
    let many = t.rows.locations_are in
    let low = location_there G l i s e in
    let to = fits.target_there in
    record {
      from_there = omega arith;
      to_there = omega arith;
      kind_known = known_kind s.kind;
      lock_known = fits.lock_there;
      plain_without = λ p. fits.plain_without (plain_kind s.kind p);
    }

accepted : (n start : ℕ) (rs : List Record) (G : Graph) → TableSays n start rs G → Bounded G → TableAnswers n start rs (Ok tt)
accepted n start rs G t b =
    let many = t.rows.locations_are in
    let begin = t.start_is in
    let some = b.not_empty in
    let less = b.few_locations in
    let there = b.start_there in (
      record { some = omega arith; few = omega arith },
      (let low : start < n = omega arith in low),
      (λ i d h. unfiltered (Fits n) (get_or rs i d).from rs (subst (All (Fits n)) (t.rows.steps_are (get_or rs i d).from) (all_map (Fits n) (record_of (get_or rs i d).from) (steps_at G (get_or rs i d).from) (λ j s e. record_fits n start rs G t b (get_or rs i d).from j s e))) i d h refl),
      (λ l. let long = length-map (steps_at G l) (record_of l) in let same = ap length (t.rows.steps_are l) in let few = b.few_steps l in omega arith),
    )

pub tables_say_one_graph : TablesSayOneGraph
tables_say_one_graph = record {
  one = one_graph;
  within = λ n start rs G says t. bounded n start rs G says.0 says.1 says.2 says.3 t;
  exact = accepted;
}
