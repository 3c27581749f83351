-- A reader of a file, and what it hands out.
use Rattle.std.specs.Prelude.{◌≡◌, ℕ, ◌+◌, ◌<◌, ◌≤◌, List, length, Some, None, Ok, Err, Option, Result}
use Rattle.review.specs.declared.file.fault.FileFault.{FileFault}
use Rattle.review.specs.declared.file.fault.FileFault.TheVariants.{TooLong, EndsEarly, NotAllowed, InLeft, InRight, InNames}
use Rattle.review.specs.declared.file.phase.Phase.{Phase}
use Rattle.review.specs.declared.file.phase.Phase.TheVariants.{BeforeLeft, AfterEnd}
use Rattle.review.specs.declared.file.reader.Reader.{Reader}
use Rattle.review.specs.declared.file.section.Section.{Section}
use Rattle.review.specs.Commands.{kind_of, header}
use Rattle.review.specs.Limits.{most_bytes}
use Rattle.review.specs.Order.{phase_after}
use Rattle.review.specs.Sections.{command_of, Begins}
use Rattle.review.specs.Taking.{Forbidden, EndsThere, Stands}

-- where a reader stands: what may stand next, the bytes that are left, and how many the file has
pub record Standing : Type 0 where
  pub phase : Phase
  pub rest : List ℕ
  pub size : ℕ

abbrev pub standing : Reader → Standing
standing r = record { phase = r.phase; rest = r.rest.now; size = r.size }

-- a file that is not too long is read from its first byte on
abbrev pub Opens : List ℕ → Result Reader FileFault → Type 0
Opens bs (Ok r) = (length bs ≤ most_bytes) × (standing r ≡ record { phase = BeforeLeft; rest = bs; size = length bs })
Opens bs (Err f) = (most_bytes < length bs) × (f ≡ TooLong)

-- the offset of the first byte that is left
abbrev pub StandsAt : Standing → ℕ → Type 0
StandsAt s at = at + length s.rest ≡ s.size

-- a command was taken off, and this is its section
pub record TookOff (s : Standing) (x : Section) (t : Standing) : Type 0 where
  pub command : Stands s.phase s.rest (command_of x) t.rest
  pub place : (at : ℕ) → StandsAt s at → Begins x (at + header (kind_of (command_of x)))
  pub phase : t.phase ≡ phase_after (kind_of (command_of x))
  pub size : t.size ≡ s.size

-- the next section, nothing behind END, or a fault, which leaves the reader where it stood
abbrev pub HandsOut : Standing → Result (Option Section) FileFault → Standing → Type 0
HandsOut s (Ok (Some x)) t = TookOff s x t
HandsOut s (Ok None) t = (s.phase ≡ AfterEnd) × (length s.rest ≡ 0) × (t ≡ s)
HandsOut s (Err (NotAllowed at)) t = Forbidden s.phase s.rest × StandsAt s at × (t ≡ s)
HandsOut s (Err (EndsEarly at)) t = EndsThere s.phase s.rest × (at ≡ s.size) × (t ≡ s)
HandsOut s (Err TooLong) t = ⊥
HandsOut s (Err (InLeft f place)) t = ⊥
HandsOut s (Err (InRight f place)) t = ⊥
HandsOut s (Err (InNames f place)) t = ⊥
