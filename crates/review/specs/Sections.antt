-- The sections that a reader hands out.
use Rattle.std.specs.Prelude.{◌≡◌, ℕ}
use Rattle.review.specs.declared.file.section.Section.{Section}
use Rattle.review.specs.declared.file.section.Section.TheVariants as code
use Rattle.review.specs.Commands.{Command, left, right, rename, pair, end}

-- the command whose section it is
abbrev pub command_of : Section → Command
command_of (code.Left bytes place) = left bytes.now
command_of (code.Right bytes place) = right bytes.now
command_of (code.Rename numbers place) = rename numbers.now
command_of (code.Pair a b) = pair a b
command_of code.End = end

-- the section begins at this offset; PAIR and END have none
abbrev pub Begins : Section → ℕ → Type 0
Begins (code.Left bytes place) n = place ≡ n
Begins (code.Right bytes place) n = place ≡ n
Begins (code.Rename numbers place) n = place ≡ n
Begins (code.Pair a b) n = Unit {0}
Begins code.End n = Unit {0}
