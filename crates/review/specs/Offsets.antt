-- Where in a file its faults stand.
use Rattle.std.specs.Prelude.{◌≡◌, ℕ, ◌<◌, ◌≤◌, List, ◌++◌, length, drop, Err}
use Rattle.review.specs.declared.file.fault.FileFault.{FileFault}
use Rattle.review.specs.declared.file.fault.FileFault.TheVariants.{TooLong, EndsEarly, NotAllowed, InLeft, InRight, InNames}
use Rattle.review.specs.declared.file.phase.Phase.TheVariants.{BeforeLeft}
use Rattle.review.specs.Commands.{Command, left, right, rename}
use Rattle.review.specs.FileFaults.{file_offset}
use Rattle.review.specs.Limits.{most_bytes}
use Rattle.review.specs.Order.{phase_behind}
use Rattle.review.specs.Reviews.{Front, FaultIn, FileSays}
use Rattle.review.specs.Taking.{Forbidden}

-- the bytes of the file from the offset on are those of the faulty section from the fault's own place on, and what follows
pub record InSection (bs : List ℕ) (c : Command) (section : List ℕ) (place own offset : ℕ) : Type 0 where
  pub faulty : FaultIn bs c place
  pub inside : own ≤ length section
  pub from_there : drop offset bs ≡ drop own section ++ faulty.more

-- what stands at the offset of a fault
abbrev pub StandsThere : List ℕ → FileFault → ℕ → Type 0
StandsThere bs TooLong offset = (offset ≡ most_bytes) × (offset < length bs)
StandsThere bs (EndsEarly at) offset = offset ≡ length bs
StandsThere bs (NotAllowed at) offset = (cs : List Command) × Front bs cs (drop offset bs) × Forbidden (phase_behind BeforeLeft cs) (drop offset bs)
StandsThere bs (InLeft f place) offset = (l : List ℕ) × InSection bs (left l) l place f.at offset
StandsThere bs (InRight f place) offset = (l : List ℕ) × InSection bs (right l) l place f.at offset
StandsThere bs (InNames f place) offset = (ns : List ℕ) × InSection bs (rename ns) ns place f.at offset × (f.at < 8)

-- no fault of a file stands behind the file's end, and at its offset stands what it speaks of
abbrev pub FaultsStandAtTheirOffsets : Type 0
FaultsStandAtTheirOffsets = (bs : List ℕ) (f : FileFault) → FileSays bs (Err f) → (file_offset f ≤ length bs) × StandsThere bs f (file_offset f)
