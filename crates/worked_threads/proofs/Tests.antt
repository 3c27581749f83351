-- Tests that compute, over lists, options and locked states, and what each says when it is true.
use Rattle.std.proofs.Common.{◌≡◌, ℕ, zero, suc, Bool, true, false, not, ◌&&◌, ◌||◌, eqb, List, [], ◌∷◌, Some, None, Option, refl, subst, ap₂}
use Rattle.std.proofs.lemmas.Bool.{and_parts, and_from, both_ways, eqb-true, eq-eqb}
use Rattle.std.specs.List.{slice_get}
use Rattle.locks.specs.declared.held.Held.{Held}
use Rattle.locks.specs.declared.sets.LockSet.{LockSet}
use Rattle.locks.specs.States.{State}

-- a conclusion where the condition is true
abbrev pub implies : Bool → Bool → Bool
implies x y = not x || y

pub implies_says : (x y : Bool) → implies x y ≡ true → x ≡ true → y ≡ true
implies_says true y t h = t
implies_says false y t h = absurd (both_ways false refl h)

-- every element of a list, with its place

module _ {A : Type 0} where
  abbrev pub every : (ℕ → A → Bool) → List A → Bool
  every f [] = true
  every f (x ∷ xs) = f 0 x && every (λ i. f (suc i)) xs

  pub every_says : (f : ℕ → A → Bool) (xs : List A) → every f xs ≡ true → (i : ℕ) (x : A) → slice_get xs i ≡ Some x → f i x ≡ true
  every_says f [] t i x h = cc
  every_says f (y ∷ xs) t zero x h =
      let same : y ≡ x = cc in subst (λ z. f 0 z ≡ true) same (and_parts (f 0 y) (every (λ i. f (suc i)) xs) t).0
  every_says f (y ∷ xs) t (suc i) x h =
      every_says (λ j. f (suc j)) xs (and_parts (f 0 y) (every (λ j. f (suc j)) xs) t).1 i x h

  -- some element of a list, with its place
  abbrev pub some : (ℕ → A → Bool) → List A → Bool
  some f [] = false
  some f (x ∷ xs) = f 0 x || some (λ i. f (suc i)) xs

  abbrev Found : (ℕ → A → Bool) → List A → Type 0
  Found f xs = (i : ℕ) × (x : A) × (slice_get xs i ≡ Some x) × (f i x ≡ true)

  found_by : (f : ℕ → A → Bool) (x : A) (xs : List A) (b : Bool) → f 0 x ≡ b → (b || some (λ i. f (suc i)) xs) ≡ true → (some (λ i. f (suc i)) xs ≡ true → Found (λ i. f (suc i)) xs) → Found f (x ∷ xs)
  found_by f x xs true e t later = (0, x, refl, e)
  found_by f x xs false e t later = let r = later t in (suc r.0, r.1, r.2, r.3)

  pub some_says : (f : ℕ → A → Bool) (xs : List A) → some f xs ≡ true → Found f xs
  some_says f [] t = absurd (both_ways false refl t)
  some_says f (x ∷ xs) t = found_by f x xs (f 0 x) refl t (some_says (λ i. f (suc i)) xs)

  -- there is a value, and it passes
  abbrev pub on : Option A → (A → Bool) → Bool
  on None f = false
  on (Some x) f = f x

  pub on_says : (o : Option A) (f : A → Bool) → on o f ≡ true → (x : A) × (o ≡ Some x) × (f x ≡ true)
  on_says None f t = absurd (both_ways false refl t)
  on_says (Some x) f t = (x, refl, t)

-- the same locked state

abbrev pub same_lock : Held → Held → Bool
same_lock h k = eqb h.lock k.lock && eqb h.history.bits k.history.bits

abbrev pub same_held : List Held → List Held → Bool
same_held [] [] = true
same_held [] (k ∷ ks) = false
same_held (h ∷ hs) [] = false
same_held (h ∷ hs) (k ∷ ks) = same_lock h k && same_held hs ks

abbrev pub same_state : State → State → Bool
same_state σ τ = eqb σ.location τ.location && same_held σ.held τ.held

set_is : (s t : LockSet) → s.bits ≡ t.bits → s ≡ t
set_is s t e = λ i. record { bits = e i }

lock_says : (h k : Held) → same_lock h k ≡ true → h ≡ k
lock_says h k t =
    let p = and_parts (eqb h.lock k.lock) (eqb h.history.bits k.history.bits) t in
    let e = eqb-true h.lock k.lock p.0 in
    let f = set_is h.history k.history (eqb-true h.history.bits k.history.bits p.1) in
    λ i. record { lock = e i; history = f i }

held_says : (hs ks : List Held) → same_held hs ks ≡ true → hs ≡ ks
held_says [] [] t = refl
held_says [] (k ∷ ks) t = absurd (both_ways false refl t)
held_says (h ∷ hs) [] t = absurd (both_ways false refl t)
held_says (h ∷ hs) (k ∷ ks) t =
    let p = and_parts (same_lock h k) (same_held hs ks) t in
    ap₂ (λ x xs. x ∷ xs) (lock_says h k p.0) (held_says hs ks p.1)

pub state_says : (σ τ : State) → same_state σ τ ≡ true → σ ≡ τ
state_says σ τ t =
    let p = and_parts (eqb σ.location τ.location) (same_held σ.held τ.held) t in
    let e = eqb-true σ.location τ.location p.0 in
    let f = held_says σ.held τ.held p.1 in
    λ i. record { location = e i; held = f i }

held_itself : (hs : List Held) → same_held hs hs ≡ true
held_itself [] = refl
held_itself (h ∷ hs) =
    and_from (same_lock h h) (same_held hs hs)
    (and_from (eqb h.lock h.lock) (eqb h.history.bits h.history.bits) (eq-eqb h.lock h.lock refl) (eq-eqb h.history.bits h.history.bits refl))
    (held_itself hs)

pub says_state : (σ τ : State) → σ ≡ τ → same_state σ τ ≡ true
says_state σ τ e =
    subst (λ x. same_state σ x ≡ true) e
    (and_from (eqb σ.location σ.location) (same_held σ.held σ.held) (eq-eqb σ.location σ.location refl) (held_itself σ.held))
