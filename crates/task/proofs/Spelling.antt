-- A byte, a number and a move that are written are read back.
use Rattle.std.proofs.Common.{◌≡◌, ℕ, ◌+◌, ◌-◌, ◌/◌, ◌%◌, ◌^◌, ◌<◌, ◌≤◌, true, ltb, leb, List, [], ◌∷◌, ◌++◌, map, length, Some, Ok, decimal, Option, sym, refl, ap, ◌∙◌, append_assoc, append-nil, mod-lt, div-lt_iff_lt-mul, arith, lit<, length-append}
use native.Mathlib.Nat.{div-add-mod}
use Rattle.std.proofs.lemmas.Fmt.{decimal_nonempty, digits_decimal, digits_value-decimal}
use Rattle.std.proofs.lemmas.Bool.{and_parts, leb-true, cond_both, ltb-true, ltb-false}
use Rattle.std.proofs.lemmas.Bool.Decides.{nat_tests}
use Rattle.std.specs.Option.{ok_or, option_map}
use Rattle.std.specs.List.{AllByRecursion}
use Rattle.std.specs.Str.{all_ascii_digits}
use Rattle.task.specs.declared.fault.Wrong.{Wrong}
use Rattle.task.specs.Spelled.{each}
use Rattle.task.specs.Words.{number_of, hex_digit, byte_of, move_number}
use Rattle.task.specs.Written.{hex_letter, byte_word, move_word}
use Rattle.task.proofs.Digits.{number_is, own}
use Rattle.task.proofs.Lines.{each_more}
use Rattle.task.specs.Reasons.{Lacks}

-- bytes
hex_back : (d : ℕ) → d < 16 → hex_digit (hex_letter d) ≡ Some d
hex_back d h = grind (arith, nat_tests)

high_digit : (b : ℕ) → b < 256 → b / 16 < 16
high_digit b h = (div-lt_iff_lt-mul (lit< tt)).1 h

pub byte_back : (b : ℕ) → b < 256 → byte_of (byte_word b) ≡ Some b
byte_back b h =
    let high = hex_back (b / 16) (high_digit b h) in
    let low = hex_back (b % 16) (mod-lt b (lit< tt)) in
    rw (high, low) (ap Some (div-add-mod b 16))

letter_high : (d : ℕ) → 48 ≤ hex_letter d
letter_high d = cond_both (ltb d 10) (48 + d) (87 + d) (λ x. 48 ≤ x) (λ _. omega arith) (λ _. omega arith)

pub byte_lacks : (at : ℕ) → at < 48 → (b : ℕ) → Lacks at (byte_word b)
byte_lacks at low b = (λ e. omega (arith, letter_high (b / 16)), (λ e. omega (arith, letter_high (b % 16)), tt))

-- numbers
pub number_back : (limit n : ℕ) → n ≤ limit → n < 2 ^ 64 → number_of limit (decimal n) ≡ Some n
number_back limit n h fits =
    let value = digits_value-decimal own n fits in
    number_is limit (decimal n) (decimal_nonempty n fits) (digits_decimal own n fits) (omega arith) ∙ ap Some value

digits_lack : (at : ℕ) → at < 48 → (ds : List ℕ) → all_ascii_digits ds ≡ true → Lacks at ds
digits_lack at low [] h = tt
digits_lack at low (c ∷ cs) h =
    let both-are = and_parts _ (all_ascii_digits cs) h in
    let high = leb-true 48 c (and_parts (leb 48 c) (leb c 57) both-are.0).0 in
    (λ e. omega arith, digits_lack at low cs both-are.1)

pub number_lacks : (at : ℕ) → at < 48 → (n : ℕ) → n < 2 ^ 64 → Lacks at (decimal n)
number_lacks at low n fits = digits_lack at low (decimal n) (digits_decimal own n fits)

-- moves
pub move_back : (m : ℕ) → m < 2 ^ 16 → move_number (move_word m) ≡ Some m
move_back m h =
    cond_both (ltb m 256) (76 ∷ decimal m) (82 ∷ decimal (m - 256)) (λ w. move_number w ≡ Some m)
    (λ small. let lt = ltb-true m 256 small in number_back 255 m (omega arith) (omega arith))
    (λ large. let ge = ltb-false m 256 large in
    let sum : 256 + (m - 256) ≡ m = omega arith in
    ap (option_map (λ n. 256 + n)) (number_back 65279 (m - 256) (omega arith) (omega arith)) ∙ ap Some sum)

pub move_lacks : (at : ℕ) → at < 48 → (m : ℕ) → m < 2 ^ 16 → Lacks at (move_word m)
move_lacks at low m h =
    cond_both (ltb m 256) (76 ∷ decimal m) (82 ∷ decimal (m - 256)) (Lacks at)
    (λ _. (λ e. omega arith, number_lacks at low m (omega arith)))
    (λ _. (λ e. omega arith, number_lacks at low (m - 256) (omega arith)))

-- the items of a line
pub each_back : (spells : List ℕ → Option ℕ) (wrong : Wrong) (write : ℕ → List ℕ) (got xs : List ℕ) → AllByRecursion (λ x. spells (write x) ≡ Some x) xs → length got + length xs ≤ 4096 → each spells wrong got (map write xs) ≡ Ok (got ++ xs)
each_back spells wrong write got [] h room = ap Ok (sym (append-nil got))
each_back spells wrong write got (x ∷ xs) h room =
    let longer = length-append got (x ∷ []) in
    each_more spells wrong got (map write (x ∷ xs)) (write x) (map write xs) refl x (ap (λ o. ok_or o wrong) (sym h.0)) (omega arith)
    ∙ each_back spells wrong write (got ++ x ∷ []) xs h.1 (omega arith)
    ∙ ap Ok (append_assoc got (x ∷ []) xs)
