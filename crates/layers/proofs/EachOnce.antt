-- Numbers below n, as many as n and no two the same: each number below n is among them.
use Rattle.std.proofs.Common.{◌≡◌, ℕ, zero, suc, ◌<◌, ◌≤◌, ◌⊎◌, cond, eqb, ltb, sym, ap, ◌∙◌, inl, inr, ⊎_elim, arith}
use Rattle.std.proofs.lemmas.Bool.{cond-true, cond-false, cases_lt, lt-ltb, le-ltb}
use Rattle.std.proofs.lemmas.Bool.Decides.{eqb_tells}

-- f of the numbers below n are below m, and no two of them are the same
pub record Places (n m : ℕ) (f : ℕ → ℕ) : Type 0 where
  pub low : (i : ℕ) → i < n → f i < m
  pub apart : (i j : ℕ) → i < n → j < n → f i ≡ f j → i ≡ j

-- the last place moved to where the greatest number stood
abbrev moved : ℕ → (ℕ → ℕ) → ℕ → ℕ
moved n f i = cond (eqb (f i) n) (f (suc n)) (f i)

-- what stands at i afterwards
abbrev Moved : ℕ → (ℕ → ℕ) → ℕ → Type 0
Moved n f i = ((f i ≡ n) × (moved n f i ≡ f (suc n))) ⊎ ((f i ≡ n → ⊥) × (moved n f i ≡ f i))

moved_is : (n : ℕ) (f : ℕ → ℕ) (i : ℕ) → Moved n f i
moved_is n f i =
    ⊎_elim
    (λ p. inl (p.1, cond-true (eqb (f i) n) (f (suc n)) (f i) p.0))
    (λ p. inr (p.1, cond-false (eqb (f i) n) (f (suc n)) (f i) p.0))
    (eqb_tells (f i) n)

moved_low : (n : ℕ) (f : ℕ → ℕ) → Places (suc (suc n)) (suc n) f → (i : ℕ) → i < suc n → Moved n f i → moved n f i < n
moved_low n f p i h (inl q) =
    let last = p.low (suc n) (omega arith) in
    let is = q.1 in
    ⊎_elim (λ k. omega arith) (λ k. let same = p.apart i (suc n) (omega arith) (omega arith) (q.0 ∙ (let r : n ≡ f (suc n) = omega arith in r)) in absurd (omega arith)) (cases_lt (f (suc n)) n)
moved_low n f p i h (inr q) =
    let low = p.low i (omega arith) in
    let is = q.1 in
    ⊎_elim (λ k. omega arith) (λ k. absurd (q.0 (omega arith))) (cases_lt (f i) n)

moved_apart : (n : ℕ) (f : ℕ → ℕ) → Places (suc (suc n)) (suc n) f → (i j : ℕ) → i < suc n → j < suc n → moved n f i ≡ moved n f j → Moved n f i → Moved n f j → i ≡ j
moved_apart n f p i j h k e (inl q) (inl r) = p.apart i j (omega arith) (omega arith) (q.0 ∙ sym r.0)
moved_apart n f p i j h k e (inl q) (inr r) = let same = p.apart (suc n) j (omega arith) (omega arith) (sym q.1 ∙ e ∙ r.1) in absurd (omega arith)
moved_apart n f p i j h k e (inr q) (inl r) = let same = p.apart i (suc n) (omega arith) (omega arith) (sym q.1 ∙ e ∙ r.1) in absurd (omega arith)
moved_apart n f p i j h k e (inr q) (inr r) = p.apart i j (omega arith) (omega arith) (sym q.1 ∙ e ∙ r.1)

-- there is no place for one more
no_room : (n : ℕ) (f : ℕ → ℕ) → Places (suc n) n f → ⊥
no_room zero f p = let h = p.low 0 (omega arith) in omega arith
no_room (suc n) f p = no_room n (moved n f) (record {
  low = λ i h. moved_low n f p i h (moved_is n f i);
  apart = λ i j h k e. moved_apart n f p i j h k e (moved_is n f i) (moved_is n f j);
})

-- either m is among the first b numbers, or it is not
among : (f : ℕ → ℕ) (m b : ℕ) → ((k : ℕ) × (k < b) × (f k ≡ m)) ⊎ ((k : ℕ) → k < b → f k ≡ m → ⊥)
among f m zero = inr (λ k h e. omega arith)
among f m (suc b) =
    ⊎_elim
    (λ p. inl (p.0, (let h = p.1 in let r : p.0 < suc b = omega arith in r), p.2))
    (λ none. ⊎_elim
    (λ e. inl (b, omega arith, e.1))
    (λ e. inr (λ k h is. ⊎_elim (λ low. none k low is) (λ high. e.1 (ap f (let r : b ≡ k = omega arith in r) ∙ is)) (cases_lt k b)))
    (eqb_tells (f b) m))
    (among f m b)

-- f with m behind its first n numbers
abbrev longer : ℕ → ℕ → (ℕ → ℕ) → ℕ → ℕ
longer n m f i = cond (ltb i n) (f i) m

longer_in : (n m : ℕ) (f : ℕ → ℕ) (i : ℕ) → i < n → longer n m f i ≡ f i
longer_in n m f i h = cond-true (ltb i n) (f i) m (lt-ltb i n h)

longer_end : (n m : ℕ) (f : ℕ → ℕ) (i : ℕ) → n ≤ i → longer n m f i ≡ m
longer_end n m f i h = cond-false (ltb i n) (f i) m (le-ltb i n h)

longer_places : (n m : ℕ) (f : ℕ → ℕ) → m < n → Places n n f → ((k : ℕ) → k < n → f k ≡ m → ⊥) → Places (suc n) n (longer n m f)
longer_places n m f h p none = record {
  low = λ i k. ⊎_elim
      (λ q. let is = longer_in n m f i q in let low = p.low i q in omega arith)
      (λ q. let is = longer_end n m f i q in omega arith)
      (cases_lt i n);
  apart = λ i j k l e. ⊎_elim
      (λ q. ⊎_elim
      (λ r. p.apart i j q r (sym (longer_in n m f i q) ∙ e ∙ longer_in n m f j r))
      (λ r. absurd (none i q (sym (longer_in n m f i q) ∙ e ∙ longer_end n m f j r)))
      (cases_lt j n))
      (λ q. ⊎_elim
      (λ r. absurd (none j r (sym (longer_in n m f j r) ∙ sym e ∙ longer_end n m f i q)))
      (λ r. omega arith)
      (cases_lt j n))
      (cases_lt i n);
}

-- each number below n is at some place
pub each_there : (n : ℕ) (f : ℕ → ℕ) → Places n n f → (m : ℕ) → m < n → (k : ℕ) × (k < n) × (f k ≡ m)
each_there n f p m h = ⊎_elim (λ found. found) (λ none. absurd (no_room n (longer n m f) (longer_places n m f h p none))) (among f m n)
