-- Why a text is refused, in the subject's words.
use Rattle.std.specs.Prelude.{◌≡◌, ◌≢◌, ℕ, suc, ◌<◌, ◌≤◌, ◌⊎◌, List, [], ◌∷◌, ◌++◌, length, Err, codes}
use Rattle.std.specs.List.{AllByRecursion}
use Rattle.task.specs.declared.fault.TextFault.{TextFault}
use Rattle.task.specs.declared.fault.Wrong.{Wrong}
use Rattle.task.specs.declared.fault.Wrong.TheVariants.{Missing, Keyword, Byte, Number, Move, TooMany, Surplus}
use Rattle.task.specs.Items.{Pairwise, IsByte, IsLocation, IsMove}
use Rattle.task.specs.Accepted.{LineSays}
use Rattle.task.specs.Spelled.{spelled}
use Rattle.task.specs.Written.{line_text}

-- the byte is not in the list
abbrev pub Lacks : ℕ → List ℕ → Type 0
Lacks at bs = AllByRecursion (λ b. b ≢ at) bs

-- the lines of a text
pub data Row : Type 0 where
  left_row : Row
  right_row : Row
  pair_row : Row
  move_row : Row

abbrev pub rows : List Row
rows = left_row ∷ right_row ∷ pair_row ∷ move_row ∷ []

-- what a line begins with
abbrev pub word : Row → List ℕ
word left_row = codes "left"
word right_row = codes "right"
word pair_row = codes "pair"
word move_row = codes "moves"

-- at most 4096 bytes or moves, and just two locations
abbrev pub ProperLine : Row → List ℕ → Type 0
ProperLine left_row line = (bytes : List ℕ) × LineSays IsByte (codes "left") line bytes × (length bytes ≤ 4096)
ProperLine right_row line = (bytes : List ℕ) × LineSays IsByte (codes "right") line bytes × (length bytes ≤ 4096)
ProperLine pair_row line = (left : ℕ) × (right : ℕ) × LineSays IsLocation (codes "pair") line (left ∷ right ∷ [])
ProperLine move_row line = (moves : List ℕ) × LineSays IsMove (codes "moves") line moves × (length moves ≤ 4096)

-- some bytes are there, the line goes up to their first LF or to their end, and the rest follows
pub record FirstLine (text line rest : List ℕ) : Type 0 where
  pub some : 0 < length text
  pub without : Lacks 10 line
  pub there : (text ≡ line ++ 10 ∷ rest) ⊎ ((text ≡ line) × (rest ≡ []))

-- proper lines stand in front of the rest
abbrev pub Before : List Row → List ℕ → List ℕ → Type 0
Before [] text rest = text ≡ rest
Before (row ∷ more) text rest =
    (line : List ℕ) × (below : List ℕ) × FirstLine text line below × ProperLine row line × Before more below rest

-- the word, and then a space or nothing
abbrev pub BeginsWith : List ℕ → List ℕ → Type 0
BeginsWith word line = (line ≡ word) ⊎ ((more : List ℕ) × (line ≡ word ++ 32 ∷ more))

-- each item says something
abbrev pub AllSay : (List ℕ → ℕ → Type 0) → List (List ℕ) → Type 0
AllSay Says items = AllByRecursion (λ item. (x : ℕ) × Says item x) items

-- behind at most 4096 items that say something stands one that says nothing
pub record FirstMalformed (Says : List ℕ → ℕ → Type 0) (items : List (List ℕ)) : Type 0 where
  pub front : List (List ℕ)
  pub item : List ℕ
  pub back : List (List ℕ)
  pub split : items ≡ front ++ item ∷ back
  pub all_say : AllSay Says front
  pub few : length front ≤ 4096
  pub nothing : (x : ℕ) → Says item x → ⊥

-- behind 4096 items stands one more, and each says something
pub record OneTooMany (Says : List ℕ → ℕ → Type 0) (items : List (List ℕ)) : Type 0 where
  pub front : List (List ℕ)
  pub item : List ℕ
  pub back : List (List ℕ)
  pub split : items ≡ front ++ item ∷ back
  pub all_say : AllSay Says front
  pub full : length front ≡ 4096
  pub says : (x : ℕ) × Says item x

-- a list of bytes or moves: the first item that is none, or one too many, whichever comes first
abbrev pub WrongInList : (List ℕ → ℕ → Type 0) → Wrong → Wrong → List (List ℕ) → Type 0
WrongInList Says malformed w items = ((w ≡ malformed) × FirstMalformed Says items) ⊎ ((w ≡ TooMany) × OneTooMany Says items)

-- what is wrong with the items of a line
abbrev pub WrongItems : Row → Wrong → List (List ℕ) → Type 0
WrongItems left_row w items = WrongInList IsByte Byte w items
WrongItems right_row w items = WrongInList IsByte Byte w items
WrongItems pair_row w items = (w ≡ Number) × ((left right : ℕ) → Pairwise IsLocation items (left ∷ right ∷ []) → ⊥)
WrongItems move_row w items = WrongInList IsMove Move w items

-- what is wrong with a line: its word, or its items, which stand behind one space each and have none in them
abbrev pub WrongLine : Row → Wrong → List ℕ → Type 0
WrongLine row w line =
    ((w ≡ Keyword) × (BeginsWith (word row) line → ⊥))
    ⊎ ((items : List (List ℕ)) × (line ≡ line_text (word row) items) × AllByRecursion (Lacks 32) items × WrongItems row w items)

-- what is wrong where these lines should follow: there is text where none should follow; or none, or a wrong line
abbrev pub WrongThere : List Row → Wrong → List ℕ → Type 0
WrongThere [] w rest = (w ≡ Surplus) × (0 < length rest)
WrongThere (row ∷ more) w rest =
    ((w ≡ Missing) × (rest ≡ []))
    ⊎ ((line : List ℕ) × (below : List ℕ) × FirstLine rest line below × WrongLine row w line)

-- the lines in front of the fault are right, and what is wrong is in the next one
pub record Refused (text : List ℕ) (f : TextFault) : Type 0 where
  pub front : List Row
  pub back : List Row
  pub split : rows ≡ front ++ back
  pub number : f.line ≡ suc (length front)
  pub rest : List ℕ
  pub before : Before front text rest
  pub wrong : WrongThere back f.wrong rest

-- each fault has its reason, and where the reason holds there is that fault
pub record FaultsHaveTheirReasons : Type 0 where
  pub told : (text : List ℕ) (f : TextFault) → spelled text ≡ Err f → Refused text f
  pub only : (text : List ℕ) (f : TextFault) → Refused text f → spelled text ≡ Err f
