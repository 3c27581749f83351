-- Names of locks, and how they are set.
use Rattle.std.specs.Prelude.{◌≡◌, ℕ, ◌<◌, List, length, Ok, Err, Result}
use Rattle.locks.specs.Limits.{lock_limit}
use Rattle.layers.specs.declared.names.Names.{Names}
use Rattle.layers.specs.declared.names.fault.NamesFault.{NamesFault}
use Rattle.layers.specs.Numbers.{EachOnce, Wrong, number_of}

abbrev pub numbers_in : Names → List ℕ
numbers_in n = n.numbers

-- at i stands the first number that is no lock, or that stood before
pub record FirstWrong (ns : List ℕ) (i : ℕ) : Type 0 where
  pub there : i < length ns
  pub wrong : Wrong ns i
  pub right_before : (k : ℕ) → k < i → Wrong ns k → ⊥

-- the condition of each answer
abbrev pub NumbersAnswer : List ℕ → Result (Unit {0}) NamesFault → Type 0
NumbersAnswer ns (Ok u) = (k : ℕ) → k < length ns → Wrong ns k → ⊥
NumbersAnswer ns (Err f) = FirstWrong ns f.at

-- the numbers afterwards: those given, or those that stood there before
abbrev pub Holds : List ℕ → List ℕ → Result (Unit {0}) NamesFault → List ℕ → Type 0
Holds given before (Ok u) after = after ≡ given
Holds given before (Err f) after = after ≡ before

-- the answer is the one whose condition holds, no other answer's condition does, and a refusal leaves the names
pub record NamesSet (given before : List ℕ) (r : Result (Unit {0}) NamesFault) (after : List ℕ) : Type 0 where
  pub says : NumbersAnswer given r
  pub only : (q : Result (Unit {0}) NamesFault) → NumbersAnswer given q → q ≡ r
  pub holds : Holds given before r after

-- lock k has the number m
abbrev pub Has : Names → ℕ → ℕ → Type 0
Has n k m = (k < lock_limit) × (number_of (numbers_in n) k ≡ m)

-- each number that a lock may have is that of just one lock
abbrev pub NamesHaveEachNumberOnce : Type 0
NamesHaveEachNumberOnce = (n : Names) (m : ℕ) → m < lock_limit → (k : ℕ) × Has n k m × ((j : ℕ) → Has n j m → j ≡ k)

-- eight numbers are accepted where each lock stands there once, and nowhere else
pub record EachRenamingIsAccepted : Type 0 where
  pub accepted : (ns : List ℕ) → EachOnce ns → NumbersAnswer ns (Ok tt)
  pub no_other : (ns : List ℕ) → length ns ≡ lock_limit → NumbersAnswer ns (Ok tt) → EachOnce ns
