-- What the definitions yield for worked files.
use Rattle.std.specs.Prelude.{◌≡◌, ℕ, List, [], ◌∷◌, length, Err}
use Rattle.locks.specs.declared.refusals.Part.TheVariants as part
use Rattle.readers.specs.declared.listing.fault.Wrong.TheVariants.{NoBytes}
use Rattle.readers.specs.Faults.{fault}
use Rattle.review.specs.declared.file.fault.FileFault.TheVariants.{TooLong, EndsEarly, NotAllowed, InLeft}
use Rattle.review.specs.Commands.{left, right, rename, pair, end, encode}
use Rattle.review.specs.FileFaults.{file_refusal}
use Rattle.review.specs.LineFaults.{line_refusal}
use Rattle.review.specs.Reviews.{FileSays}

-- a file with each command, byte by byte
abbrev pub WorkedFileIsItsBytes : Type 0
WorkedFileIsItsBytes =
    encode (left (0x02 ∷ 0 ∷ 0x00 ∷ []) ∷ right (0x01 ∷ 0x00 ∷ []) ∷ rename (1 ∷ 0 ∷ 2 ∷ 3 ∷ 4 ∷ 5 ∷ 6 ∷ 7 ∷ []) ∷ pair 1 256 ∷ end ∷ [])
    ≡ 0x10 ∷ 0 ∷ 3 ∷ 0x02 ∷ 0 ∷ 0x00 ∷ 0x11 ∷ 0 ∷ 2 ∷ 0x01 ∷ 0x00 ∷ 0x13 ∷ 1 ∷ 0 ∷ 2 ∷ 3 ∷ 4 ∷ 5 ∷ 6 ∷ 7 ∷ 0x12 ∷ 0 ∷ 1 ∷ 1 ∷ 0 ∷ 0x1f ∷ []

-- files that are refused, and with which numbers
pub record WorkedFilesAreRefused : Type 0 where
  pub no_bytes : FileSays [] (Err (EndsEarly 0))
  pub right_first : FileSays (0x11 ∷ []) (Err (NotAllowed 0))
  pub section_cut_short : FileSays (0x10 ∷ 0 ∷ 7 ∷ 0x02 ∷ []) (Err (EndsEarly 4))
  pub section_of_no_bytes : FileSays (0x10 ∷ 0 ∷ 0 ∷ []) (Err (InLeft (fault NoBytes 0) 3))
  pub rename_behind_a_pair : FileSays (0x10 ∷ 0 ∷ 1 ∷ 0x00 ∷ 0x11 ∷ 0 ∷ 1 ∷ 0x00 ∷ 0x12 ∷ 0 ∷ 0 ∷ 0 ∷ 0 ∷ 0x13 ∷ []) (Err (NotAllowed 13))
  pub byte_behind_end : FileSays (0x10 ∷ 0 ∷ 1 ∷ 0x00 ∷ 0x11 ∷ 0 ∷ 1 ∷ 0x00 ∷ 0x1f ∷ 0 ∷ []) (Err (NotAllowed 9))
  pub just_short_enough : (bs : List ℕ) → length (0x00 ∷ bs) ≡ 32768 → FileSays (0x00 ∷ bs) (Err (NotAllowed 0))
  pub too_long : (bs : List ℕ) → length bs ≡ 32769 → FileSays bs (Err TooLong)
  pub not_allowed : file_refusal (NotAllowed 9) ≡ record { number = 22; place = 9; part = part.File }
  pub ends_early : file_refusal (EndsEarly 4) ≡ record { number = 23; place = 4; part = part.File }
  pub over_long : file_refusal TooLong ≡ record { number = 25; place = 32768; part = part.File }
  pub no_room : line_refusal (record { needed = 7 }) ≡ record { number = 24; place = 7; part = part.Line }
