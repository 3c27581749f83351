-- How a text falls into lines, and a line into words.
use Rattle.std.specs.Prelude.{ℕ, cond, List, [], ◌∷◌, ◌==◌}

-- b stands in front of the first piece
abbrev pub onto : ℕ → List (List ℕ) → List (List ℕ)
onto b [] = (b ∷ []) ∷ []
onto b (piece ∷ pieces) = (b ∷ piece) ∷ pieces

-- the pieces of a text between the bytes `at`; `last` is what an empty rest gives
abbrev pub cuts : ℕ → List (List ℕ) → List ℕ → List (List ℕ)
cuts at last [] = last
cuts at last (b ∷ bs) = cond (b == at) ([] ∷ cuts at last bs) (onto b (cuts at last bs))

-- each line ends with LF, which may be missing after the last
abbrev pub lines : List ℕ → List (List ℕ)
lines text = cuts 10 [] text

-- words stand between single spaces, so two spaces have an empty word between them
abbrev pub words : List ℕ → List (List ℕ)
words line = cuts 32 ([] ∷ []) line
