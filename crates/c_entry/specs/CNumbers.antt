-- What a C program is answered.
use Rattle.std.specs.Prelude.{◌≡◌, ◌≢◌, ℕ, ◌+◌, ◌-◌, ◌^◌, ◌<◌, ◌⊎◌, List, ℤ, pos, negsuc, Ok, Err, Result}
use Rattle.locks.specs.declared.refusals.Refusal.{Refusal}
use Rattle.pairs.specs.declared.answers.Verdict.{Verdict}
use Rattle.pairs.specs.declared.answers.Verdict.TheVariants.{Never, Reached}
use Rattle.search.specs.declared.threads.Pair.{Pair}
use Rattle.review.specs.SinglePair.{ListingsSay}

-- the count of moves, −1 for never, or −(100 + number) for a refusal; negsuc n is −(n + 1)
abbrev pub c_number : Result Verdict Refusal → ℤ
c_number (Ok (Reached n)) = pos n
c_number (Ok Never) = negsuc 0
c_number (Err r) = negsuc (99 + r.number)

-- a count of moves that a signed number of 64 bits can have
abbrev pub FewMoves : Result Verdict Refusal → Type 0
FewMoves (Ok (Reached n)) = n < 2 ^ 63
FewMoves (Ok Never) = Unit {0}
FewMoves (Err r) = Unit {0}

-- the least number of 64 bits
abbrev pub no_memory : ℤ
no_memory = negsuc (2 ^ 63 - 1)

-- what is to be said of the listings, as a number
abbrev pub Numbered : List ℕ → List ℕ → Pair → List ℕ → ℤ → List ℕ → Type 0
Numbered l r p before n after = (q : Result Verdict Refusal) × ListingsSay l r p before q after × (n ≡ c_number q)

-- the number for being out of memory, with the run as it was
abbrev pub OutOfMemory : List ℕ → ℤ → List ℕ → Type 0
OutOfMemory before n after = (n ≡ no_memory) × (after ≡ before)

-- A room that was made gives what is to be said, and never the number for being out of memory. That number comes where no
-- room could be made.
abbrev pub ByRoom : {R E : Type 0} → Result R E → List ℕ → List ℕ → Pair → List ℕ → ℤ → List ℕ → Type 0
ByRoom (Ok room) l r p before n after = Numbered l r p before n after × (n ≢ no_memory)
ByRoom (Err e) l r p before n after = OutOfMemory before n after

-- what is to be said of the listings, as a number, or the number for being out of memory with the run as it was
abbrev pub CAnswers : List ℕ → List ℕ → ℕ → ℕ → List ℕ → ℤ → List ℕ → Type 0
CAnswers l r a b before n after = Numbered l r (record { left = a; right = b }) before n after ⊎ OutOfMemory before n after
