-- What an item says: which digits and letters stand for which number, apart from how they are read.
use Rattle.std.specs.Prelude.{◌≡◌, ℕ, ◌+◌, ◌*◌, ◌^◌, ◌<◌, ◌≤◌, ◌⊎◌, List, [], ◌∷◌, length}

-- the lists are equally long, and R holds of each pair
abbrev pub Pairwise : {X Y : Type 0} → (X → Y → Type 0) → List X → List Y → Type 0
Pairwise R [] [] = Unit {0}
Pairwise R [] (y ∷ ys) = ⊥
Pairwise R (x ∷ xs) [] = ⊥
Pairwise R (x ∷ xs) (y ∷ ys) = R x y × Pairwise R xs ys

-- `0` to `9`
abbrev pub IsDigit : ℕ → ℕ → Type 0
IsDigit c d = (c ≡ 48 + d) × (d < 10)

-- these, and `a` to `f` or `A` to `F` from ten on
abbrev pub IsHexDigit : ℕ → ℕ → Type 0
IsHexDigit c d = IsDigit c d ⊎ (((c ≡ 87 + d) ⊎ (c ≡ 55 + d)) × (10 ≤ d) × (d < 16))

-- two hexadecimal digits, the higher one first
abbrev pub IsByte : List ℕ → ℕ → Type 0
IsByte item b = (high : ℕ) × (low : ℕ) × Pairwise IsHexDigit item (high ∷ low ∷ []) × (b ≡ 16 * high + low)

-- a digit counts a power of ten, which is the number of the digits behind it
abbrev pub place_value : List ℕ → ℕ
place_value [] = 0
place_value (d ∷ ds) = d * 10 ^ length ds + place_value ds

-- one or more decimal digits, and at most the limit. Zeros may lead
abbrev pub IsNumber : ℕ → List ℕ → ℕ → Type 0
IsNumber limit item n = (digits : List ℕ) × Pairwise IsDigit item digits × (0 < length item) × (n ≡ place_value digits) × (n ≤ limit)

abbrev pub IsLocation : List ℕ → ℕ → Type 0
IsLocation item n = IsNumber 4294967295 item n

-- `L` and the number of the move, or `R` and a number that is 256 less
abbrev pub IsMove : List ℕ → ℕ → Type 0
IsMove item m =
    ((number : List ℕ) × (item ≡ 76 ∷ number) × IsNumber 255 number m)
    ⊎ ((number : List ℕ) × (n : ℕ) × (item ≡ 82 ∷ number) × IsNumber 65279 number n × (m ≡ 256 + n))
