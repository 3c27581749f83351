-- What is wrong with a file, in words.
use Rattle.std.specs.Prelude.{ℕ, ◌+◌, ◌-◌, ◌/◌, ◌%◌, cond, List, [], ◌∷◌, ◌++◌, codes, nat_lt}
use Rattle.std.specs.Fmt.{decimal}
use Rattle.layers.specs.declared.names.fault.NamesFault.{NamesFault}
use Rattle.locks.specs.Limits.{lock_limit}
use Rattle.readers.specs.declared.listing.command.Command.{Command}
use Rattle.readers.specs.declared.listing.command.Command.TheVariants.{Stop, Pass, Take, Give, Goto, Either}
use Rattle.readers.specs.declared.listing.fault.Wrong.{Wrong}
use Rattle.readers.specs.declared.listing.fault.Wrong.TheVariants.{NoBytes, TooManyCommands, UnknownCommand, CutOff, UnknownLock, MissingTarget, RunsOffTheEnd}
use Rattle.readers.specs.Flow.{most}
use Rattle.review.specs.declared.file.fault.FileFault.{FileFault}
use Rattle.review.specs.declared.file.fault.FileFault.TheVariants.{TooLong, EndsEarly, NotAllowed, InLeft, InRight, InNames}
use Rattle.review.specs.Limits.{most_bytes}

abbrev pub command_name : Command → List ℕ
command_name Stop = codes "STOP"
command_name Pass = codes "PASS"
command_name (Take k) = codes "TAKE"
command_name (Give k) = codes "GIVE"
command_name (Goto t) = codes "GOTO"
command_name (Either t u) = codes "EITHER"

-- a number in the midst of words
abbrev pub with_number : List ℕ → ℕ → List ℕ → List ℕ
with_number before n after = (before ++ decimal n) ++ after

-- a digit to the base 16
abbrev pub hex_digit : ℕ → ℕ
hex_digit d = cond (nat_lt d 10) (48 + d) (87 + d)

-- a byte in the midst of words, by its two digits
abbrev pub with_byte : List ℕ → ℕ → List ℕ → List ℕ
with_byte before b after = (before ++ (hex_digit (b / 16) ∷ hex_digit (b % 16) ∷ [])) ++ after

-- what a command names or where it leads, as its bytes have it
abbrev pub operand_words : Command → List ℕ
operand_words Stop = []
operand_words Pass = []
operand_words (Take k) = codes " names lock " ++ decimal k
operand_words (Give k) = codes " names lock " ++ decimal k
operand_words (Goto t) = codes " leads to " ++ decimal t
operand_words (Either t u) = ((codes " leads to " ++ decimal t) ++ codes " and ") ++ decimal u

abbrev pub command_words : Command → List ℕ
command_words c = command_name c ++ operand_words c

abbrev pub wrong_words : Wrong → List ℕ
wrong_words NoBytes = codes "the listing has no bytes"
wrong_words TooManyCommands = with_number (codes "a listing has at most ") most (codes " commands, and here is one more")
wrong_words (UnknownCommand b) = with_byte (codes "byte ") b (codes " begins no command")
wrong_words (CutOff b) = with_byte (codes "the listing ends within the command that byte ") b (codes " begins")
wrong_words (UnknownLock c) = (command_words c ++ codes ", and locks go from 0 to ") ++ decimal (lock_limit - 1)
wrong_words (MissingTarget c) = command_words c ++ codes ", and the listing lacks such a command"
wrong_words (RunsOffTheEnd c) = (codes "the last command is " ++ command_name c) ++ codes ", which leads on to another"

-- what is wrong with the number at this place
abbrev pub names_words : NamesFault → List ℕ
names_words f =
    (with_number (codes "the number at place ") f.at (codes " stands at an earlier place too, or is above ")) ++ decimal (lock_limit - 1)

abbrev pub file_words : FileFault → List ℕ
file_words TooLong = with_number (codes "the file has more than ") most_bytes (codes " bytes")
file_words (EndsEarly at) = codes "the file ends before its END"
file_words (NotAllowed at) = codes "no command that may stand here begins with this byte"
file_words (InLeft f place) = wrong_words f.wrong
file_words (InRight f place) = wrong_words f.wrong
file_words (InNames f place) = names_words f
