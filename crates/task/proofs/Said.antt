-- What an item says is what it is read as.
use Rattle.std.proofs.Common.{◌≡◌, ℕ, suc, ◌+◌, ◌-◌, ◌*◌, ◌^◌, ◌<◌, ◌≤◌, true, eqb, leb, List, [], ◌∷◌, length, Some, None, Option, inl, inr, ⊎_elim, sym, refl, ap, ◌∙◌, subst, arith}
use Rattle.std.proofs.Math.Nat.{pow-succ'}
use Rattle.std.proofs.lemmas.Bool.{and_parts, and_from, le-leb, leb-true, eqb-true, cond_both}
use Rattle.std.proofs.lemmas.Bool.Decides.{nat_tests}
use Rattle.std.specs.List.{AllByRecursion}
use Rattle.std.specs.Option.{option_map}
use Rattle.std.specs.Str.{all_ascii_digits}
use Rattle.task.specs.Items.{Pairwise, IsDigit, IsHexDigit, IsByte, place_value, IsNumber, IsLocation, IsMove}
use Rattle.task.specs.Words.{value_from, number_of, hex_digit, both, byte_of, move_number}
use Rattle.task.proofs.Digits.{number_is}

-- the reader of an item and what items say agree, and an item has no space and no LF
pub record Reads (Says : List ℕ → ℕ → Type 0) (spells : List ℕ → Option ℕ) : Type 0 where
  pub read : (item : List ℕ) (x : ℕ) → Says item x → spells item ≡ Some x
  pub said : (item : List ℕ) (x : ℕ) → spells item ≡ Some x → Says item x
  pub high : (item : List ℕ) (x : ℕ) → Says item x → AllByRecursion (λ b. 48 ≤ b) item

-- hexadecimal digits
digit_read : (d : ℕ) → d < 10 → hex_digit (48 + d) ≡ Some d
digit_read d h = grind (arith, nat_tests)

small_read : (d : ℕ) → 10 ≤ d → d < 16 → hex_digit (87 + d) ≡ Some d
small_read d l h = grind (arith, nat_tests)

capital_read : (d : ℕ) → 10 ≤ d → d < 16 → hex_digit (55 + d) ≡ Some d
capital_read d l h = grind (arith, nat_tests)

hex_read : (c d : ℕ) → IsHexDigit c d → hex_digit c ≡ Some d
hex_read c d h =
    ⊎_elim
    (λ digit. ap hex_digit digit.0 ∙ digit_read d digit.1)
    (λ letter. ⊎_elim
    (λ small. ap hex_digit small ∙ small_read d letter.1 letter.2)
    (λ capital. ap hex_digit capital ∙ capital_read d letter.1 letter.2)
    letter.0)
    h

hex_said : (c d : ℕ) → hex_digit c ≡ Some d → IsHexDigit c d
hex_said c d =
    cond_both _ _ _ (λ o. o ≡ Some d → IsHexDigit c d)
    (λ digit h.
    let low = leb-true 48 c (and_parts (leb 48 c) (leb c 57) digit).0 in
    let high = leb-true c 57 (and_parts (leb 48 c) (leb c 57) digit).1 in
    let same : c - 48 ≡ d = cc in
    inl (omega arith, omega arith))
    (λ _.
    cond_both _ _ _ (λ o. o ≡ Some d → IsHexDigit c d)
    (λ small h.
    let low = leb-true 97 c (and_parts (leb 97 c) (leb c 102) small).0 in
    let high = leb-true c 102 (and_parts (leb 97 c) (leb c 102) small).1 in
    let same : c - 87 ≡ d = cc in
    inr (inl (omega arith), omega arith, omega arith))
    (λ _.
    cond_both _ _ _ (λ o. o ≡ Some d → IsHexDigit c d)
    (λ capital h.
    let low = leb-true 65 c (and_parts (leb 65 c) (leb c 70) capital).0 in
    let high = leb-true c 70 (and_parts (leb 65 c) (leb c 70) capital).1 in
    let same : c - 55 ≡ d = cc in
    inr (inr (omega arith), omega arith, omega arith))
    (λ _ h. cc)))

hex_high : (c d : ℕ) → IsHexDigit c d → 48 ≤ c
hex_high c d h = ⊎_elim (λ digit. omega arith) (λ letter. ⊎_elim (λ small. omega arith) (λ capital. omega arith) letter.0) h

-- bytes
byte_read : (item : List ℕ) (b : ℕ) → IsByte item b → byte_of item ≡ Some b
byte_read [] b h = absurd h.2
byte_read (c ∷ []) b h = absurd h.2.1
byte_read (c ∷ e ∷ []) b h =
    let high = hex_read c h.0 h.2.0 in
    let low = hex_read e h.1 h.2.1.0 in
    rw (high, low) (ap Some (sym h.3))
byte_read (c ∷ e ∷ x ∷ xs) b h = absurd h.2.1.1

byte_said : (item : List ℕ) (b : ℕ) → byte_of item ≡ Some b → IsByte item b
byte_said [] b h = cc
byte_said (c ∷ []) b h = cc
byte_said (c ∷ e ∷ []) b h = go (hex_digit c) (hex_digit e) refl refl h
  where
    go : (high low : Option ℕ) → hex_digit c ≡ high → hex_digit e ≡ low → option_map (λ d. 16 * d.0 + d.1) (both high low) ≡ Some b → IsByte (c ∷ e ∷ []) b
    go None low p q is = cc
    go (Some x) None p q is = cc
    go (Some x) (Some y) p q is =
        let same : 16 * x + y ≡ b = cc in
        (x, y, (hex_said c x p, (hex_said e y q, tt)), sym same)
byte_said (c ∷ e ∷ x ∷ xs) b h = cc

byte_high : (item : List ℕ) (b : ℕ) → IsByte item b → AllByRecursion (λ b. 48 ≤ b) item
byte_high [] b h = tt
byte_high (c ∷ []) b h = absurd h.2.1
byte_high (c ∷ e ∷ []) b h = (hex_high c h.0 h.2.0, (hex_high e h.1 h.2.1.0, tt))
byte_high (c ∷ e ∷ x ∷ xs) b h = absurd h.2.1.1

pub byte_reads : Reads IsByte byte_of
byte_reads = record { read = byte_read; said = byte_said; high = byte_high }

-- numbers
places_step : (n d p q v : ℕ) → q ≡ 10 * p → (10 * n + d) * p + v ≡ n * q + (d * p + v)
places_step n d p q v h = rw h (omega arith)

value_places : (n : ℕ) (item ds : List ℕ) → Pairwise IsDigit item ds → value_from n item ≡ n * 10 ^ length ds + place_value ds
value_places n [] [] h = omega arith
value_places n [] (d ∷ ds) h = absurd h
value_places n (c ∷ item) [] h = absurd h
value_places n (c ∷ item) (d ∷ ds) h =
    let digit : 10 * n + (c - 48) ≡ 10 * n + d = omega (arith, h.0.0) in
    ap (λ k. value_from k item) digit ∙ value_places (10 * n + d) item ds h.1
    ∙ places_step n d (10 ^ length ds) (10 ^ suc (length ds)) (place_value ds) (pow-succ' 10 (length ds))

digits_are : (item ds : List ℕ) → Pairwise IsDigit item ds → all_ascii_digits item ≡ true
digits_are [] ds h = refl
digits_are (c ∷ item) [] h = absurd h
digits_are (c ∷ item) (d ∷ ds) h =
    and_from _ (all_ascii_digits item) (and_from (leb 48 c) (leb c 57) (le-leb 48 c (omega (arith, h.0.0))) (le-leb c 57 (omega (arith, h.0.0, h.0.1)))) (digits_are item ds h.1)

digits_high : (item ds : List ℕ) → Pairwise IsDigit item ds → AllByRecursion (λ b. 48 ≤ b) item
digits_high [] ds h = tt
digits_high (c ∷ item) [] h = absurd h
digits_high (c ∷ item) (d ∷ ds) h = (omega (arith, h.0.0), digits_high item ds h.1)

digits_of : (item : List ℕ) → all_ascii_digits item ≡ true → (ds : List ℕ) × Pairwise IsDigit item ds
digits_of [] h = ([], tt)
digits_of (c ∷ item) h =
    let parts = and_parts _ (all_ascii_digits item) h in
    let range = and_parts (leb 48 c) (leb c 57) parts.0 in
    let low = leb-true 48 c range.0 in
    let high = leb-true c 57 range.1 in
    let more = digits_of item parts.1 in
    ((c - 48) ∷ more.0, ((omega arith, omega arith), more.1))

number_read : (limit : ℕ) (item : List ℕ) (n : ℕ) → IsNumber limit item n → number_of limit item ≡ Some n
number_read limit item n h =
    let places = value_places 0 item h.0 h.1 in
    let value : value_from 0 item ≡ n = omega (arith, places, h.3) in
    number_is limit item h.2 (digits_are item h.0 h.1) (omega (arith, value, h.4)) ∙ ap Some value

number_said : (limit : ℕ) (item : List ℕ) (n : ℕ) → number_of limit item ≡ Some n → IsNumber limit item n
number_said limit [] n h = cc
number_said limit (c ∷ cs) n found =
    cond_both _ _ _ (λ o. o ≡ Some n → IsNumber limit (c ∷ cs) n)
    (λ right h.
    let parts = and_parts (all_ascii_digits (c ∷ cs)) (leb (value_from 0 (c ∷ cs)) limit) right in
    let digits = digits_of (c ∷ cs) parts.0 in
    let places = value_places 0 (c ∷ cs) digits.0 digits.1 in
    let same : value_from 0 (c ∷ cs) ≡ n = cc in
    let small = leb-true (value_from 0 (c ∷ cs)) limit parts.1 in
    (digits.0, digits.1, omega arith, omega (arith, places, same), omega (arith, small, same)))
    (λ _ h. cc)
    found

number_high : (limit : ℕ) (item : List ℕ) (n : ℕ) → IsNumber limit item n → AllByRecursion (λ b. 48 ≤ b) item
number_high limit item n h = digits_high item h.0 h.1

pub location_reads : Reads IsLocation (number_of 4294967295)
location_reads = record { read = number_read 4294967295; said = number_said 4294967295; high = number_high 4294967295 }

-- moves
move_read : (item : List ℕ) (m : ℕ) → IsMove item m → move_number item ≡ Some m
move_read item m h =
    ⊎_elim
    (λ left. ap move_number left.1 ∙ number_read 255 left.0 m left.2)
    (λ right. ap move_number right.2 ∙ ap (option_map (λ n. 256 + n)) (number_read 65279 right.0 right.1 right.3) ∙ ap Some (sym right.4))
    h

right_said : (cs : List ℕ) (m : ℕ) (o : Option ℕ) → number_of 65279 cs ≡ o → option_map (λ n. 256 + n) o ≡ Some m → (n : ℕ) × IsNumber 65279 cs n × (m ≡ 256 + n)
right_said cs m None e h = cc
right_said cs m (Some n) e h = let same : 256 + n ≡ m = cc in (n, number_said 65279 cs n e, sym same)

move_said : (item : List ℕ) (m : ℕ) → move_number item ≡ Some m → IsMove item m
move_said [] m h = cc
move_said (side ∷ cs) m found =
    cond_both (eqb side 76) _ _ (λ o. o ≡ Some m → IsMove (side ∷ cs) m)
    (λ left h. inl (cs, ap (λ s. s ∷ cs) (eqb-true side 76 left), number_said 255 cs m h))
    (λ _.
    cond_both (eqb side 82) _ _ (λ o. o ≡ Some m → IsMove (side ∷ cs) m)
    (λ right h.
    let number = right_said cs m (number_of 65279 cs) refl h in
    inr (cs, number.0, ap (λ s. s ∷ cs) (eqb-true side 82 right), number.1, number.2))
    (λ _ h. cc))
    found

move_high : (item : List ℕ) (m : ℕ) → IsMove item m → AllByRecursion (λ b. 48 ≤ b) item
move_high [] m h = tt
move_high (side ∷ cs) m h =
    ⊎_elim
    (λ left.
    let first : side ≡ 76 = cc (left.1) in
    let rest : left.0 ≡ cs = cc (left.1) in
    (omega arith, subst (AllByRecursion (λ b. 48 ≤ b)) rest (number_high 255 left.0 m left.2)))
    (λ right.
    let first : side ≡ 82 = cc (right.2) in
    let rest : right.0 ≡ cs = cc (right.2) in
    (omega arith, subst (AllByRecursion (λ b. 48 ≤ b)) rest (number_high 65279 right.0 right.1 right.3)))
    h

pub move_reads : Reads IsMove move_number
move_reads = record { read = move_read; said = move_said; high = move_high }
