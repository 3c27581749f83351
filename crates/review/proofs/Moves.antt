-- Moves as bytes.
use Rattle.std.proofs.Common.{◌≡◌, ℕ, zero, suc, ◌+◌, ◌*◌, ◌/◌, ◌%◌, ◌<◌, ◌≤◌, List, [], ◌∷◌, ◌++◌, length, take, drop, get_or, set, sym, refl, ap, ◌∙◌, append_assoc, append-nil, arith}
use Rattle.std.proofs.lemmas.Grind.{flat_map-append}
use Rattle.std.proofs.lemmas.List.{take_more, length-append, length-take-le}
use Rattle.readers.specs.Encoding.{two_bytes}
use Rattle.review.specs.SinglePair.{moves_bytes}

-- two places behind a front
set_two : (front rest : List ℕ) (x y h l : ℕ) → set (set (front ++ x ∷ y ∷ rest) (length front) h) (suc (length front)) l ≡ front ++ h ∷ l ∷ rest
set_two [] rest x y h l = refl
set_two (p ∷ front) rest x y h l = ap (λ xs. p ∷ xs) (set_two front rest x y h l)

two_more : (xs : List ℕ) (n : ℕ) → n + 2 ≤ length xs → (x : ℕ) × (y : ℕ) × (drop n xs ≡ x ∷ y ∷ drop (suc (suc n)) xs)
two_more [] n h = absurd (omega arith)
two_more (x ∷ []) n h = absurd (omega arith)
two_more (x ∷ y ∷ xs) zero h = (x, y, refl)
two_more (x ∷ y ∷ xs) (suc n) h = two_more (y ∷ xs) n (omega arith)

pub twice_long : (ms : List ℕ) → length (moves_bytes ms) ≡ 2 * length ms
twice_long [] = refl
twice_long (m ∷ ms) =
    let rest = twice_long ms in
    let sum = length-append (two_bytes m) (moves_bytes ms) in
    omega arith

-- one move more behind those that are written
pub move_more : (old run ms : List ℕ) (i d high low : ℕ) → high ≡ get_or ms i d / 256 → low ≡ get_or ms i d % 256 → i < length ms → 2 * length ms ≤ length old → run ≡ moves_bytes (take i ms) ++ drop (2 * i) old
    → set (set run (2 * i) high) (2 * i + 1) low ≡ moves_bytes (take (i + 1) ms) ++ drop (2 * (i + 1)) old
move_more old run ms i d high low up down h room is =
    let m = get_or ms i d in
    let front = moves_bytes (take i ms) in
    let long : length front ≡ 2 * i = twice_long (take i ms) ∙ ap (λ n. 2 * n) (length-take-le i ms (omega arith)) in
    let two = two_more old (2 * i) (omega arith) in
    let opened : run ≡ front ++ two.0 ∷ two.1 ∷ drop (suc (suc (2 * i))) old = is ∙ ap (λ xs. front ++ xs) two.2 in
    let places : set (set run (2 * i) (m / 256)) (2 * i + 1) (m % 256) ≡ set (set run (length front) (m / 256)) (suc (length front)) (m % 256) =
    ap (λ n. set (set run n (m / 256)) (2 * i + 1) (m % 256)) (sym long) ∙ ap (λ n. set (set run (length front) (m / 256)) n (m % 256)) (let q : 2 * i + 1 ≡ suc (length front) = omega arith in q) in
    let grown : moves_bytes (take (i + 1) ms) ≡ front ++ two_bytes m =
    ap moves_bytes (take_more ms i d h) ∙ flat_map-append two_bytes (take i ms) (m ∷ []) ∙ ap (λ xs. front ++ xs) (append-nil (two_bytes m)) in
    ap (λ n. set (set run (2 * i) n) (2 * i + 1) low) up
    ∙ ap (λ n. set (set run (2 * i) (m / 256)) (2 * i + 1) n) down
    ∙ places
    ∙ ap (λ xs. set (set xs (length front) (m / 256)) (suc (length front)) (m % 256)) opened
    ∙ set_two front (drop (suc (suc (2 * i))) old) two.0 two.1 (m / 256) (m % 256)
    ∙ sym (append_assoc front (two_bytes m) (drop (suc (suc (2 * i))) old))
    ∙ ap (λ xs. xs ++ drop (suc (suc (2 * i))) old) (sym grown)
    ∙ ap (λ n. moves_bytes (take (i + 1) ms) ++ drop n old) (let q : suc (suc (2 * i)) ≡ 2 * (i + 1) = omega arith in q)
