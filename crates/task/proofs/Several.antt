-- The items of a line, by what they say.
use Rattle.std.proofs.Common.{◌≡◌, ℕ, ◌+◌, ◌<◌, ◌≤◌, ◌⊎◌, List, [], ◌∷◌, ◌++◌, length, Some, None, Ok, Err, Option, inl, inr, ⊎_elim, sym, refl, ap, ◌∙◌, subst, append_assoc, append-nil, arith, length-append}
use Rattle.std.proofs.ByRecursion.{All-push, All-weaker}
use Rattle.std.proofs.lemmas.Bool.{cases_lt}
use Rattle.std.specs.List.{AllByRecursion}
use Rattle.std.specs.Option.{ok_or}
use Rattle.task.specs.declared.fault.Wrong.{Wrong}
use Rattle.task.specs.declared.fault.Wrong.TheVariants.{Number, TooMany}
use Rattle.task.specs.Items.{Pairwise, IsLocation}
use Rattle.task.specs.Reasons.{Lacks, AllSay, WrongInList}
use Rattle.task.specs.Spelled.{each, pair_of}
use Rattle.task.specs.Words.{number_of, both}
use Rattle.task.proofs.Lines.{each_more, each_full, each_none}
use Rattle.task.proofs.Said.{Reads, location_reads}

-- the values that items say
pub values : (Says : List ℕ → ℕ → Type 0) (items : List (List ℕ)) → AllSay Says items → (xs : List ℕ) × Pairwise Says items xs × (length xs ≡ length items)
values Says [] h = ([], tt, refl)
values Says (item ∷ items) h =
    let more = values Says items h.1 in
    (h.0.0 ∷ more.0, (h.0.1, more.1), omega (arith, more.2))

module _ (Says : List ℕ → ℕ → Type 0) (spells : List ℕ → Option ℕ) (reads : Reads Says spells) where
  pub none_read : (item : List ℕ) → ((x : ℕ) → Says item x → ⊥) → spells item ≡ None
  none_read item nothing = go (spells item) refl
    where
      go : (o : Option ℕ) → spells item ≡ o → o ≡ None
      go None e = refl
      go (Some x) e = absurd (nothing x (reads.said item x e))

  -- each item has none of the lower bytes, as the space and LF are
  pub items_lack : (at : ℕ) → at < 48 → (items : List (List ℕ)) (xs : List ℕ) → Pairwise Says items xs → AllByRecursion (Lacks at) items
  items_lack at low [] xs h = tt
  items_lack at low (item ∷ items) [] h = absurd h
  items_lack at low (item ∷ items) (x ∷ xs) h =
      (All-weaker (λ b. 48 ≤ b) (λ b. b ≡ at → ⊥) (λ b high same. omega arith) item (reads.high item x h.0), items_lack at low items xs h.1)

  module _ (wrong : Wrong) where
    read_more : (got : List ℕ) (item : List ℕ) (items : List (List ℕ)) (x : ℕ) → Says item x → length got < 4096 → each spells wrong got (item ∷ items) ≡ each spells wrong (got ++ x ∷ []) items
    read_more got item items x says room =
        each_more spells wrong got (item ∷ items) item items refl x (ap (λ o. ok_or o wrong) (sym (reads.read item x says))) room

    pub all_read : (got : List ℕ) (items : List (List ℕ)) (xs : List ℕ) → Pairwise Says items xs → length got + length xs ≤ 4096 → each spells wrong got items ≡ Ok (got ++ xs)
    all_read got [] [] h room = ap Ok (sym (append-nil got))
    all_read got [] (x ∷ xs) h room = absurd h
    all_read got (item ∷ items) [] h room = absurd h
    all_read got (item ∷ items) (x ∷ xs) h room =
        let longer = length-append got (x ∷ []) in
        read_more got item items x h.0 (omega arith)
        ∙ all_read (got ++ x ∷ []) items xs h.1 (omega arith)
        ∙ ap Ok (append_assoc got (x ∷ []) xs)

    malformed_read : (got : List ℕ) (front : List (List ℕ)) (item : List ℕ) (back : List (List ℕ)) → AllSay Says front → length got + length front ≤ 4096 → ((x : ℕ) → Says item x → ⊥) → each spells wrong got (front ++ item ∷ back) ≡ Err wrong
    malformed_read got [] item back h room nothing =
        each_none spells wrong got (item ∷ back) item back refl wrong (ap (λ o. ok_or o wrong) (sym (none_read item nothing)))
    malformed_read got (first ∷ front) item back h room nothing =
        let longer = length-append got (h.0.0 ∷ []) in
        read_more got first (front ++ item ∷ back) h.0.0 h.0.1 (omega arith)
        ∙ malformed_read (got ++ h.0.0 ∷ []) front item back h.1 (omega arith) nothing

    surplus_read : (got : List ℕ) (front : List (List ℕ)) (item : List ℕ) (back : List (List ℕ)) → AllSay Says front → length got + length front ≡ 4096 → (x : ℕ) → Says item x → each spells wrong got (front ++ item ∷ back) ≡ Err TooMany
    surplus_read got [] item back h full x says =
        each_full spells wrong got (item ∷ back) item back refl x (ap (λ o. ok_or o wrong) (sym (reads.read item x says))) (omega arith)
    surplus_read got (first ∷ front) item back h full x says =
        let longer = length-append got (h.0.0 ∷ []) in
        read_more got first (front ++ item ∷ back) h.0.0 h.0.1 (omega arith)
        ∙ surplus_read (got ++ h.0.0 ∷ []) front item back h.1 (omega arith) x says

    pub wrong_read : (w : Wrong) (items : List (List ℕ)) → WrongInList Says wrong w items → each spells wrong [] items ≡ Err w
    wrong_read w items h =
        ⊎_elim
        (λ malformed.
        let m = malformed.1 in
        ap (each spells wrong []) m.split ∙ malformed_read [] m.front m.item m.back m.all_say (omega (arith, m.few)) m.nothing ∙ ap Err (sym malformed.0))
        (λ many.
        let m = many.1 in
        ap (each spells wrong []) m.split ∙ surplus_read [] m.front m.item m.back m.all_say (omega (arith, m.full)) m.says.0 m.says.1 ∙ ap Err (sym many.0))
        h

    -- the items are right, or something is wrong with them
    abbrev pub Judged : List (List ℕ) → Type 0
    Judged items = (AllSay Says items × (length items ≤ 4096)) ⊎ ((w : Wrong) × WrongInList Says wrong w items)

    next_judged : (front : List (List ℕ)) (item : List ℕ) (back : List (List ℕ)) → AllSay Says front → length front ≤ 4096 → (AllSay Says (front ++ item ∷ []) → length front < 4096 → Judged ((front ++ item ∷ []) ++ back)) → (o : Option ℕ) → spells item ≡ o → Judged (front ++ item ∷ back)
    next_judged front item back h few next None e =
        inr (wrong, inl (refl, record { front = front; item = item; back = back; split = refl; all_say = h; few = few; nothing = λ x says. cc (reads.read item x says) }))
    next_judged front item back h few next (Some x) e =
        let says = reads.said item x e in
        ⊎_elim
        (λ less. subst Judged (append_assoc front (item ∷ []) back) (next (All-push (λ i. (x : ℕ) × Says i x) front item h (x, says)) less))
        (λ full. inr (TooMany, inr (refl, record { front = front; item = item; back = back; split = refl; all_say = h; full = omega arith; says = (x, says) })))
        (cases_lt (length front) 4096)

    judged_from : (front back : List (List ℕ)) → AllSay Says front → length front ≤ 4096 → Judged (front ++ back)
    judged_from front [] h few = subst Judged (sym (append-nil front)) (inl (h, few))
    judged_from front (item ∷ back) h few =
        next_judged front item back h few
        (λ more less. let longer = length-append front (item ∷ []) in judged_from (front ++ item ∷ []) back more (omega arith))
        (spells item) refl

    pub judged : (items : List (List ℕ)) → Judged items
    judged items = judged_from [] items tt (omega arith)

-- just two locations
abbrev IsPair : List (List ℕ) → Type 0
IsPair items = (left : ℕ) × (right : ℕ) × Pairwise IsLocation items (left ∷ right ∷ [])

pub pair_read : (items : List (List ℕ)) (left right : ℕ) → Pairwise IsLocation items (left ∷ right ∷ []) → pair_of items ≡ Ok (left, right)
pair_read [] left right h = absurd h
pair_read (a ∷ []) left right h = absurd h.1
pair_read (a ∷ b ∷ []) left right h =
    let first = location_reads.read a left h.0 in
    let second = location_reads.read b right h.1.0 in
    rw (first, second)
pair_read (a ∷ b ∷ c ∷ items) left right h = absurd h.1.1

-- the items are two locations, or they are refused
pub pair_judged : (items : List (List ℕ)) → IsPair items ⊎ (pair_of items ≡ Err Number)
pair_judged [] = inr refl
pair_judged (a ∷ []) = inr refl
pair_judged (a ∷ b ∷ []) = go (number_of 4294967295 a) (number_of 4294967295 b) refl refl
  where
    go : (x y : Option ℕ) → number_of 4294967295 a ≡ x → number_of 4294967295 b ≡ y → IsPair (a ∷ b ∷ []) ⊎ (ok_or (both x y) Number ≡ Err Number)
    go None y p q = inr refl
    go (Some x) None p q = inr refl
    go (Some x) (Some y) p q = inl (x, y, (location_reads.said a x p, (location_reads.said b y q, tt)))
pair_judged (a ∷ b ∷ c ∷ items) = inr refl

pub no_pair : (items : List (List ℕ)) → ((left right : ℕ) → Pairwise IsLocation items (left ∷ right ∷ []) → ⊥) → pair_of items ≡ Err Number
no_pair items none = ⊎_elim (λ pair. absurd (none pair.0 pair.1 pair.2)) (λ refused. refused) (pair_judged items)

pub refused_pair : (items : List (List ℕ)) → pair_of items ≡ Err Number → (left right : ℕ) → Pairwise IsLocation items (left ∷ right ∷ []) → ⊥
refused_pair items refused left right h = cc (pair_read items left right h)
