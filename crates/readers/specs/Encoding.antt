-- Listings in the subject's words: how commands are written, and which runs of commands are well formed.
use Rattle.std.specs.Prelude.{◌≡◌, ℕ, ◌/◌, ◌%◌, ◌<◌, ◌≤◌, List, [], ◌∷◌, ◌++◌, length}
use Rattle.std.specs.List.{flat_map, AllByRecursion}
use Rattle.locks.specs.Limits.{lock_limit}
use Rattle.readers.specs.declared.listing.command.Command.{Command}
use Rattle.readers.specs.declared.listing.command.Command.TheVariants.{Stop, Pass, Take, Give, Goto, Either}
use Rattle.readers.specs.Flow.{most}

-- the higher byte comes first
abbrev pub two_bytes : ℕ → List ℕ
two_bytes t = t / 256 ∷ t % 256 ∷ []

-- the bytes of one command
abbrev pub written : Command → List ℕ
written Stop = 0 ∷ []
written Pass = 1 ∷ []
written (Take k) = 2 ∷ k ∷ []
written (Give k) = 3 ∷ k ∷ []
written (Goto t) = 4 ∷ two_bytes t
written (Either t u) = 5 ∷ two_bytes t ++ two_bytes u

-- the highest byte that begins a command
abbrev pub highest : ℕ
highest = 5

-- the commands, one after another
abbrev pub encode : List Command → List ℕ
encode cs = flat_map written cs

abbrev pub LockIsKnown : Command → Type 0
LockIsKnown Stop = Unit {0}
LockIsKnown Pass = Unit {0}
LockIsKnown (Take k) = k < lock_limit
LockIsKnown (Give k) = k < lock_limit
LockIsKnown (Goto t) = Unit {0}
LockIsKnown (Either t u) = Unit {0}

-- each target is one of n commands
abbrev pub LeadsInside : ℕ → Command → Type 0
LeadsInside n Stop = Unit {0}
LeadsInside n Pass = Unit {0}
LeadsInside n (Take k) = Unit {0}
LeadsInside n (Give k) = Unit {0}
LeadsInside n (Goto t) = t < n
LeadsInside n (Either t u) = (t < n) × (u < n)

-- the last command of a run may be a stop or a jump
abbrev pub MayEnd : Command → Type 0
MayEnd Stop = Unit {0}
MayEnd Pass = ⊥
MayEnd (Take k) = ⊥
MayEnd (Give k) = ⊥
MayEnd (Goto t) = Unit {0}
MayEnd (Either t u) = Unit {0}

-- a target is below the number of commands, so it fits two bytes
pub record WellFormed (cs : List Command) : Type 0 where
  pub few : length cs ≤ most
  pub locks_known : AllByRecursion LockIsKnown cs
  pub leads_inside : AllByRecursion (LeadsInside (length cs)) cs
  pub ends : (front : List Command) × (last : Command) × (cs ≡ front ++ last ∷ []) × MayEnd last
