-- The commands of a review file, and how they are written.
use Rattle.std.specs.Prelude.{◌≡◌, ℕ, ◌<◌, List, [], ◌∷◌, ◌++◌, length, drop}
use Rattle.std.specs.List.{flat_map}
use Rattle.readers.specs.Encoding.{two_bytes}
use Rattle.review.specs.declared.file.kind.CommandKind.{CommandKind}
use Rattle.review.specs.declared.file.kind.CommandKind.TheVariants as kind

-- LEFT and RIGHT with the bytes of a listing, RENAME with its numbers, PAIR with two locations, and END
pub data Command : Type 0 where
  left : List ℕ → Command
  right : List ℕ → Command
  rename : List ℕ → Command
  pair : ℕ → ℕ → Command
  end : Command

abbrev pub kind_of : Command → CommandKind
kind_of (left bs) = kind.Left
kind_of (right bs) = kind.Right
kind_of (pair a b) = kind.Pair
kind_of (rename ns) = kind.Rename
kind_of end = kind.End

-- the byte that begins a command
abbrev pub first_byte : CommandKind → ℕ
first_byte kind.Left = 0x10
first_byte kind.Right = 0x11
first_byte kind.Pair = 0x12
first_byte kind.Rename = 0x13
first_byte kind.End = 0x1f

-- and what follows it
abbrev pub operands : Command → List ℕ
operands (left bs) = two_bytes (length bs) ++ bs
operands (right bs) = two_bytes (length bs) ++ bs
operands (pair a b) = two_bytes a ++ two_bytes b
operands (rename ns) = ns
operands end = []

abbrev pub written : Command → List ℕ
written c = first_byte (kind_of c) ∷ operands c

-- the commands, one after another
abbrev pub encode : List Command → List ℕ
encode cs = flat_map written cs

-- lengths and locations fit two bytes, and a renaming has eight numbers
abbrev pub Sized : Command → Type 0
Sized (left bs) = length bs < 65536
Sized (right bs) = length bs < 65536
Sized (pair a b) = (a < 65536) × (b < 65536)
Sized (rename ns) = length ns ≡ 8
Sized end = Unit {0}

-- how many bytes of a command stand before its section; PAIR and END have none
abbrev pub header : CommandKind → ℕ
header kind.Left = 3
header kind.Right = 3
header kind.Pair = 1
header kind.Rename = 1
header kind.End = 1

-- behind so many bytes of LEFT, RIGHT and RENAME stands the section, and nothing else
abbrev pub SectionsStandBehindHeaders : Type 0
SectionsStandBehindHeaders =
    (bs : List ℕ)
    → (drop (header kind.Left) (written (left bs)) ≡ bs)
    × (drop (header kind.Right) (written (right bs)) ≡ bs)
    × (drop (header kind.Rename) (written (rename bs)) ≡ bs)
