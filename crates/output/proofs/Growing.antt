-- What a writer holds, from one write to the next.
use Rattle.std.proofs.Common.{◌≡◌, ℕ, zero, suc, ◌+◌, ◌≤◌, List, [], ◌∷◌, ◌++◌, length, take, drop, Some, None, Option, Ok, Err, Result, refl, ap, sym, ◌∙◌, zero-add, append_assoc, append-nil, inl, inr, arith}
use Rattle.std.specs.Prelude.{IsErr}
use Rattle.std.proofs.lemmas.List.{take_all}
use Rattle.std.specs.Io.KnownBytes.{Appends, Keeps}
use Rattle.output.specs.Fronts.{WritesText, Prints}

pub joined : (a b c : Option (List ℕ)) (xs ys zs : List ℕ) → xs ++ ys ≡ zs → Appends a b xs → Appends b c ys → Appends a c zs
joined None b c xs ys zs e h k = tt
joined (Some a) None c xs ys zs e h k = absurd h
joined (Some a) (Some b) None xs ys zs e h k = absurd k
joined (Some a) (Some b) (Some c) xs ys zs e h k = k ∙ ap (λ l. l ++ ys) h ∙ append_assoc a xs ys ∙ ap (λ l. a ++ l) e

pub stays : (a b c : Option (List ℕ)) (xs : List ℕ) → Appends a b xs → Keeps b c → Appends a c xs
stays None b c xs h k = tt
stays (Some a) None c xs h k = absurd h
stays (Some a) (Some b) None xs h k = absurd k
stays (Some a) (Some b) (Some c) xs h k = k ∙ h

pub nothing : (a : Option (List ℕ)) (xs : List ℕ) → Appends a a (take 0 xs)
nothing None xs = tt
nothing (Some a) xs = sym (append-nil a)

none_taken : (n : ℕ) → take {A = ℕ} n [] ≡ []
none_taken zero = refl
none_taken (suc n) = refl

-- the front, and then the front of what is left
pub take_further : (i n : ℕ) (xs : List ℕ) → take i xs ++ take n (drop i xs) ≡ take (i + n) xs
take_further zero n xs = ap (λ m. take m xs) (sym (zero-add n))
take_further (suc i) n [] = none_taken n ∙ sym (none_taken (suc i + n))
take_further (suc i) n (x ∷ xs) =
    let e : suc (i + n) ≡ suc i + n = omega arith in
    ap (λ l. x ∷ l) (take_further i n xs) ∙ ap (λ m. take m (x ∷ xs)) e

-- where all was written, a failing flush leaves the whole text as a front
pub flushed : {E : Type 0} (a b c : Option (List ℕ)) (text : List ℕ) (r : Result (Unit {0}) E) → Appends a b text → Keeps b c → WritesText a c text r
flushed a b c text (Ok u) h k = stays a b c text h k
flushed a b c text (Err e) h k = let none : length text ≤ length text = omega arith in (length text, rw (take_all (length text) text none) (stays a b c text h k))

-- a text of which this holds is printed as far as it is written
pub prints : {E : Type 0} (Says : List ℕ → Type 0) (a b : Option (List ℕ)) (text : List ℕ) (r : Result (Unit {0}) E) → Says text → WritesText a b text r → Prints Says a b r
prints Says a b text (Ok u) says h = (text, says, h)
prints Says a b text (Err e) says h = inr (text, says, h)

kept : (a : Option (List ℕ)) → Keeps a a
kept None = tt
kept (Some xs) = refl

-- where nothing is written, that is an error
pub prints_nothing : {E : Type 0} (Says : List ℕ → Type 0) (a : Option (List ℕ)) (r : Result (Unit {0}) E) → IsErr r → Prints Says a a r
prints_nothing Says a (Ok u) h = cc
prints_nothing Says a (Err e) h = inl (kept a)
