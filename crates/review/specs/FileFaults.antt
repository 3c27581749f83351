-- The refusals of a file.
use Rattle.std.specs.Prelude.{ℕ, ◌+◌, List, codes}
use Rattle.layers.specs.NamesFaults.{names_refusal}
use Rattle.locks.specs.declared.refusals.Part.TheVariants.{File}
use Rattle.locks.specs.declared.refusals.Refusal.{Refusal}
use Rattle.readers.specs.Faults.{listing_refusal}
use Rattle.review.specs.declared.file.fault.FileFault.{FileFault}
use Rattle.review.specs.declared.file.fault.FileFault.TheVariants.{TooLong, EndsEarly, NotAllowed, InLeft, InRight, InNames}
use Rattle.review.specs.declared.file.fault.Within.{Within}
use Rattle.review.specs.declared.file.fault.Within.TheVariants as part
use Rattle.review.specs.Limits.{most_bytes, counted}

abbrev pub of_file : ℕ → ℕ → Refusal
of_file number place = record { number = number; place = place; part = File }

-- the number, the place and the part of a refusal: that of a section is the section's own
abbrev pub file_refusal : FileFault → Refusal
file_refusal TooLong = of_file 25 most_bytes
file_refusal (EndsEarly at) = of_file 23 at
file_refusal (NotAllowed at) = of_file 22 at
file_refusal (InLeft f place) = listing_refusal f
file_refusal (InRight f place) = listing_refusal f
file_refusal (InNames f place) = names_refusal f

-- Where in the file the fault stands: at the first byte too many, at the file's end, at the byte that may not stand there,
-- or as far into the section as the section's own fault says.
abbrev pub file_offset : FileFault → ℕ
file_offset TooLong = most_bytes
file_offset (EndsEarly at) = at
file_offset (NotAllowed at) = at
file_offset (InLeft f place) = counted (place + f.at)
file_offset (InRight f place) = counted (place + f.at)
file_offset (InNames f place) = counted (place + f.at)

-- where the fault is
abbrev pub within : FileFault → Within
within TooLong = part.File
within (EndsEarly at) = part.File
within (NotAllowed at) = part.File
within (InLeft f place) = part.Left
within (InRight f place) = part.Right
within (InNames f place) = part.Names

-- the word for it
abbrev pub within_name : Within → List ℕ
within_name part.Left = codes "left"
within_name part.Right = codes "right"
within_name part.Names = codes "names"
within_name part.File = codes "file"
