-- What stands at the front of the bytes that are left.
use Rattle.std.specs.Prelude.{◌≡◌, ◌≢◌, ℕ, ◌+◌, ◌<◌, ◌≤◌, ◌⊎◌, List, [], ◌∷◌, ◌++◌, length, Ok, Err, Result}
use Rattle.std.specs.Borrow.{Bor}
use Rattle.readers.specs.Encoding.{two_bytes}
use Rattle.review.specs.declared.file.kind.CommandKind.{CommandKind}
use Rattle.review.specs.declared.file.kind.CommandKind.TheVariants.{Left, Right, Pair, Rename, End}
use Rattle.review.specs.declared.file.phase.Phase.{Phase}
use Rattle.review.specs.declared.file.phase.Phase.TheVariants.{AfterEnd}
use Rattle.review.specs.declared.file.section.Section.{Section}
use Rattle.review.specs.declared.file.taking.Wrong.{Wrong}
use Rattle.review.specs.declared.file.taking.Wrong.TheVariants.{NotAllowed, EndsEarly}
use Rattle.review.specs.Commands.{Command, pair, kind_of, first_byte, operands, written, Sized, header}
use Rattle.review.specs.Order.{Allowed}
use Rattle.review.specs.Sections.{command_of, Begins}

-- a byte stands here that begins no command which may stand next
abbrev pub Forbidden : Phase → List ℕ → Type 0
Forbidden p bs = (b : ℕ) × (more : List ℕ) × (bs ≡ b ∷ more) × ((k : CommandKind) → first_byte k ≡ b → Allowed p k → ⊥)

-- a byte stands here that begins a command which may stand next, and no command stands here whole
abbrev pub CutShort : Phase → List ℕ → Type 0
CutShort p bs =
    (k : CommandKind) × (more : List ℕ) × (bs ≡ first_byte k ∷ more) × Allowed p k
    × ((c : Command) (rest : List ℕ) → Sized c → bs ≡ written c ++ rest → ⊥)

-- the bytes end where a command must stand, or within one
abbrev pub EndsThere : Phase → List ℕ → Type 0
EndsThere p bs = ((bs ≡ []) × (p ≢ AfterEnd)) ⊎ CutShort p bs

-- the command stands at the front, and these bytes follow it
abbrev pub Stands : Phase → List ℕ → Command → List ℕ → Type 0
Stands p bs c rest = Allowed p (kind_of c) × Sized c × (bs ≡ written c ++ rest)

-- a command is taken off at this offset, or it is told why none is
abbrev pub TakesOff : Phase → ℕ → List ℕ → Result (Section × Bor (List ℕ)) Wrong → Type 0
TakesOff p at bs (Ok t) = Stands p bs (command_of t.0) t.1.now × Begins t.0 (at + header (kind_of (command_of t.0)))
TakesOff p at bs (Err NotAllowed) = Forbidden p bs
TakesOff p at bs (Err EndsEarly) = (bs ≡ []) ⊎ CutShort p bs

-- how many bytes follow the first byte of a command at the least
abbrev pub least : CommandKind → ℕ
least Left = 2
least Right = 2
least Pair = 4
least Rename = 8
least End = 0

-- the kind of the command that begins here with n bytes behind its first, or why there is none
abbrev pub KindHere : Phase → ℕ → ℕ → Result CommandKind Wrong → Type 0
KindHere p b n (Ok k) = (b ≡ first_byte k) × Allowed p k × (least k ≤ n)
KindHere p b n (Err NotAllowed) = (k : CommandKind) → first_byte k ≡ b → Allowed p k → ⊥
KindHere p b n (Err EndsEarly) = (k : CommandKind) × (b ≡ first_byte k) × Allowed p k × (n < least k)

-- the run of bytes whose length the size spells, or too few bytes for it
abbrev pub TakesRun : List ℕ → List ℕ → Result (Bor (List ℕ) × Bor (List ℕ)) Wrong → Type 0
TakesRun size bs (Ok t) = (length t.0.now < 65536) × (size ≡ two_bytes (length t.0.now)) × (bs ≡ t.0.now ++ t.1.now)
TakesRun size bs (Err NotAllowed) = ⊥
TakesRun size bs (Err EndsEarly) = (xs ys : List ℕ) → length xs < 65536 → size ≡ two_bytes (length xs) → bs ≡ xs ++ ys → ⊥

-- the section of a PAIR with these operands
abbrev pub TakesPair : List ℕ → Section → Type 0
TakesPair ns x = (a : ℕ) × (b : ℕ) × (command_of x ≡ pair a b) × Sized (pair a b) × (ns ≡ operands (pair a b))
