-- The numbers that locks may be given.
use Rattle.std.specs.Prelude.{◌≡◌, ℕ, ◌<◌, ◌≤◌, ◌⊎◌, List, [], ◌∷◌, length, slice_index_or}
use Rattle.locks.specs.Limits.{lock_limit}

-- the number at a place
abbrev pub number_at : List ℕ → ℕ → ℕ
number_at ns k = slice_index_or ns k 0

-- the number at place k is no lock, or stood before
abbrev pub Wrong : List ℕ → ℕ → Type 0
Wrong ns k = (lock_limit ≤ number_at ns k) ⊎ ((j : ℕ) × (j < k) × (number_at ns j ≡ number_at ns k))

-- as many numbers as there are locks, each a lock and no two the same: each lock stands there once
pub record EachOnce (ns : List ℕ) : Type 0 where
  pub as_many : length ns ≡ lock_limit
  pub locks : (k : ℕ) → k < lock_limit → number_at ns k < lock_limit
  pub apart : (j k : ℕ) → j < lock_limit → k < lock_limit → number_at ns j ≡ number_at ns k → j ≡ k

-- 0 to 7
abbrev pub in_order : List ℕ
in_order = 0 ∷ 1 ∷ 2 ∷ 3 ∷ 4 ∷ 5 ∷ 6 ∷ 7 ∷ []

-- the number that lock k has; what is no lock keeps its own
abbrev pub number_of : List ℕ → ℕ → ℕ
number_of ns k = slice_index_or ns k k
