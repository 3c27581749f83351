-- Elements of a list, by their places.
use Rattle.std.specs.Prelude.{◌≡◌, ℕ, List, map, Some}
use Rattle.std.specs.List.{slice_get}

-- these are the elements at the places, in the order of the places
abbrev pub Picks : {X : Type 0} → List X → List ℕ → List X → Type 0
Picks xs places picked = map (slice_get xs) places ≡ map (λ x. Some x) picked
