-- The lines of a report, byte by byte.
use Rattle.std.specs.Prelude.{◌≡◌, ℕ, ◌-◌, ◌<◌, ◌≤◌, cond, List, [], ◌∷◌, ◌++◌, length, drop, codes, Ok, Err, Result, nat_lt}
use Rattle.std.specs.Fmt.{decimal}
use Rattle.std.specs.List.{flat_map}
use Rattle.locks.specs.declared.together.Side.TheVariants.{Left, Right}
use Rattle.locks.specs.Limits.{first_right}
use Rattle.locks.specs.Moves.{number_of}
use Rattle.pairs.specs.Answers.{ask_refusal}
use Rattle.pairs.specs.declared.answers.AskFault.TheVariants.{NoLocation}
use Rattle.search.specs.declared.threads.Pair.{Pair}
use Rattle.review.specs.declared.file.fault.Within.{Within}
use Rattle.review.specs.FileFaults.{within_name}
use Rattle.review.specs.declared.lines.fault.LineFault.{LineFault}
use Rattle.review.specs.declared.lines.line.Line.{Line}
use Rattle.review.specs.declared.lines.line.Line.TheVariants.{Reached, Never, Missing, Refused}
use Rattle.review.specs.Limits.{counted}

-- a newline
abbrev pub newline : List ℕ
newline = 10 ∷ []

-- both locations, each with a space behind it
abbrev pub pair_text : Pair → List ℕ
pair_text p = ((decimal p.left ++ codes " ") ++ decimal p.right) ++ codes " "

-- L and the move, or R and the move less 256, behind a space
abbrev pub move_text : ℕ → List ℕ
move_text m = cond (nat_lt m first_right) (codes " L" ++ decimal m) (codes " R" ++ decimal (m - first_right))

-- a number below 256 is told as L and itself, 256 and any number more as R and that number
abbrev pub MovesAreTold : Type 0
MovesAreTold =
    ((choice : ℕ) → choice < first_right → move_text (number_of Left choice) ≡ codes " L" ++ decimal choice)
    × ((choice : ℕ) → move_text (number_of Right choice) ≡ codes " R" ++ decimal choice)

abbrev pub moves_text : List ℕ → List ℕ
moves_text ms = flat_map move_text ms

abbrev pub reached_text : Pair → List ℕ → List ℕ
reached_text p ms = (((pair_text p ++ codes "reached ") ++ decimal (length ms)) ++ codes ":") ++ moves_text ms

abbrev pub refused_text : ℕ → ℕ → Within → List ℕ
refused_text number place within =
    ((((codes "refused " ++ decimal number) ++ codes " at ") ++ decimal place) ++ codes " in ") ++ within_name within

abbrev pub never_text : Pair → List ℕ
never_text p = pair_text p ++ codes "never"

-- the number of the refusal of a pair for a missing location, which is the same on both sides
abbrev pub missing_number : ℕ
missing_number = (ask_refusal (NoLocation Left)).number

abbrev pub missing_text : Pair → List ℕ
missing_text p = (pair_text p ++ codes "refused ") ++ decimal missing_number

-- what a line says, without its newline
abbrev pub said : Line → List ℕ
said (Reached p ms) = reached_text p ms.now
said (Never p) = never_text p
said (Missing p) = missing_text p
said (Refused number place within) = refused_text number place within

abbrev pub line_text : Line → List ℕ
line_text l = said l ++ newline

-- The text stands at the front of the space, up to `at`, where it fits, and the rest is as it was before.
pub record Filled (before text after : List ℕ) (at : ℕ) : Type 0 where
  pub long : length after ≡ length before
  pub end : at ≡ counted (length text)
  pub fits : length text ≤ length before → after ≡ text ++ drop (length text) before

-- the line is written and its length answered, or the space is too little and stays as it was
abbrev pub LineWritten : List ℕ → List ℕ → Result ℕ LineFault → List ℕ → Type 0
LineWritten text before (Ok n) after = (length text ≤ length before) × (n ≡ length text) × (after ≡ text ++ drop (length text) before)
LineWritten text before (Err f) after = (length before < length text) × (f.needed ≡ counted (length text)) × (after ≡ before)
