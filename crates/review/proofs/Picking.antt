-- Laws of elements by their places.
use Rattle.std.proofs.Common.{◌≡◌, ℕ, zero, suc, ◌+◌, ◌<◌, ◌≤◌, ◌⊎◌, List, [], ◌∷◌, ◌++◌, map, length, take, get_or, Some, sym, refl, ap, subst, ◌∙◌, inl, inr, arith}
use Rattle.std.specs.List.{slice_get, All}
use Rattle.std.proofs.lemmas.List.{map-append, length-map, length_push, take_more}
use Rattle.std.proofs.lemmas.List.Elements.{All-nil, All-cons, All-get_or}
use Rattle.std.proofs.lemmas.Option.{slice_get_within, slice_get-get_or}
use Rattle.review.specs.Picking.{Picks}

get_longer : {X : Type 0} (xs : List X) (y x : X) (n : ℕ) → slice_get xs n ≡ Some x → slice_get (xs ++ y ∷ []) n ≡ Some x
get_longer [] y x n h = cc
get_longer (z ∷ xs) y x zero h = h
get_longer (z ∷ xs) y x (suc n) h = get_longer xs y x n h

-- as many as there are places
pub as_many_picked : {X : Type 0} (xs : List X) (ns : List ℕ) (ys : List X) → Picks xs ns ys → length ys ≡ length ns
as_many_picked xs ns ys h = sym (length-map ys (λ y. Some y)) ∙ ap length (sym h) ∙ length-map ns (slice_get xs)

-- an element is the one at its place
pub picked_at : {X : Type 0} (xs : List X) (ns : List ℕ) (ys : List X) (i : ℕ) (y : X) → Picks xs ns ys → slice_get ys i ≡ Some y → (n : ℕ) × (slice_get ns i ≡ Some n) × (slice_get xs n ≡ Some y)
picked_at xs [] [] i y h e = cc
picked_at xs [] (z ∷ ys) i y h e = cc
picked_at xs (n ∷ ns) [] i y h e = cc
picked_at xs (n ∷ ns) (z ∷ ys) zero y h e = (n, refl, (let is : slice_get xs n ≡ Some z = cc in let same : Some z ≡ Some y = cc in is ∙ same))
picked_at xs (n ∷ ns) (z ∷ ys) (suc i) y h e = let rest : Picks xs ns ys = cc in picked_at xs ns ys i y rest e

-- one place more
pub pick_more : {X : Type 0} (xs : List X) (ns : List ℕ) (ys : List X) (n : ℕ) (y : X) → slice_get xs n ≡ Some y → Picks xs ns ys → Picks xs (ns ++ n ∷ []) (ys ++ y ∷ [])
pick_more xs ns ys n y e h =
    map-append (slice_get xs) ns (n ∷ [])
    ∙ ap (λ os. os ++ slice_get xs n ∷ []) h
    ∙ ap (λ o. map (λ x. Some x) ys ++ o ∷ []) e
    ∙ sym (map-append (λ x. Some x) ys (y ∷ []))

-- one element more to pick from
pub pick_longer : {X : Type 0} (xs : List X) (z : X) (ns : List ℕ) (ys : List X) → Picks xs ns ys → Picks (xs ++ z ∷ []) ns ys
pick_longer xs z [] [] h = refl
pick_longer xs z [] (y ∷ ys) h = cc
pick_longer xs z (n ∷ ns) [] h = cc
pick_longer xs z (n ∷ ns) (y ∷ ys) h =
    let first : slice_get xs n ≡ Some y = cc in
    let rest : Picks xs ns ys = cc in
    let one = get_longer xs z y n first in
    let more = pick_longer xs z ns ys rest in
    cc

-- the places are all within the list
pub places_within : {X : Type 0} (xs : List X) (ns : List ℕ) (ys : List X) → Picks xs ns ys → All (λ n. n < length xs) ns
places_within xs [] ys h = All-nil (λ m. m < length xs)
places_within xs (n ∷ ns) [] h = cc
places_within xs (n ∷ ns) (y ∷ ys) h = let first : slice_get xs n ≡ Some y = cc in let rest : Picks xs ns ys = cc in All-cons (λ m. m < length xs) n ns (slice_get_within xs n y first) (places_within xs ns ys rest)

-- a list that is the same, or has one element more
pub kept_picks : {X : Type 0} (old new : List X) (z : X) (ns : List ℕ) (ys : List X) → (new ≡ old) ⊎ (new ≡ old ++ z ∷ []) → Picks old ns ys → Picks new ns ys
kept_picks old new z ns ys (inl same) h = subst (λ xs. Picks xs ns ys) (sym same) h
kept_picks old new z ns ys (inr more) h = subst (λ xs. Picks xs ns ys) (sym more) (pick_longer old z ns ys h)

pub kept_length : {X : Type 0} (old new : List X) (z : X) → (new ≡ old) ⊎ (new ≡ old ++ z ∷ []) → length new ≤ length old + 1
kept_length old new z (inl same) = let long = ap length same in omega arith
kept_length old new z (inr more) = let long = ap length more ∙ length_push old z in omega arith

-- the element at the next place
pub pick_next : {X : Type 0} (xs : List X) (ns : List ℕ) (ys new : List X) (i : ℕ) (d : X) → i < length ns → All (λ n. n < length xs) ns → new ≡ ys ++ get_or xs (get_or ns i 0) d ∷ [] → Picks xs (take i ns) ys → Picks xs (take (i + 1) ns) new
pick_next xs ns ys new i d h within is picks =
    let n = get_or ns i 0 in
    let there = slice_get-get_or xs n d (All-get_or (λ m. m < length xs) ns i 0 h within) in
    subst (Picks xs (take (i + 1) ns)) (sym is) (subst (λ ms. Picks xs ms (ys ++ get_or xs n d ∷ [])) (sym (take_more ns i 0 h)) (pick_more xs (take i ns) ys n (get_or xs n d) there picks))
