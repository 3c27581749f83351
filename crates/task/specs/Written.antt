-- How a task is written, and that it is read back.
use Rattle.std.specs.Prelude.{◌≡◌, ℕ, ◌+◌, ◌-◌, ◌/◌, ◌%◌, ◌^◌, ◌<◌, ◌≤◌, Bool, true, false, cond, List, [], ◌∷◌, ◌++◌, map, length, Ok, codes, decimal, nat_lt}
use Rattle.std.specs.List.{AllByRecursion}
use Rattle.task.specs.Spelled.{TaskValue, spelled}

-- lowercase
abbrev pub hex_letter : ℕ → ℕ
hex_letter d = cond (nat_lt d 10) (48 + d) (87 + d)

abbrev pub byte_word : ℕ → List ℕ
byte_word b = hex_letter (b / 16) ∷ hex_letter (b % 16) ∷ []

abbrev pub move_word : ℕ → List ℕ
move_word m = cond (nat_lt m 256) (76 ∷ decimal m) (82 ∷ decimal (m - 256))

-- each item after its space
abbrev pub spaced : List (List ℕ) → List ℕ
spaced [] = []
spaced (w ∷ ws) = 32 ∷ (w ++ spaced ws)

abbrev pub line_text : List ℕ → List (List ℕ) → List ℕ
line_text keyword ws = keyword ++ spaced ws

-- the LF after the last line may be there or not
abbrev pub ending : Bool → List ℕ
ending true = 10 ∷ []
ending false = []

unfoldable pub written : Bool → TaskValue → List ℕ
written closed t =
    line_text (codes "left") (map byte_word t.left) ++ (10 ∷
    (line_text (codes "right") (map byte_word t.right) ++ (10 ∷
    (line_text (codes "pair") (decimal t.left_location ∷ decimal t.right_location ∷ []) ++ (10 ∷
    (line_text (codes "moves") (map move_word t.moves) ++ ending closed))))))

-- each byte, number and move is one, and there is room for all
pub record Proper (t : TaskValue) : Type 0 where
  pub left_bytes : AllByRecursion (λ b. b < 256) t.left
  pub left_room : length t.left ≤ 4096
  pub right_bytes : AllByRecursion (λ b. b < 256) t.right
  pub right_room : length t.right ≤ 4096
  pub left_location : t.left_location < 2 ^ 32
  pub right_location : t.right_location < 2 ^ 32
  pub move_numbers : AllByRecursion (λ m. m < 2 ^ 16) t.moves
  pub move_room : length t.moves ≤ 4096

-- a proper task that is written is read back as that very task
abbrev pub WrittenReadsBack : Type 0
WrittenReadsBack = (closed : Bool) (t : TaskValue) → Proper t → spelled (written closed t) ≡ Ok t

-- every task that a text spells is a proper one
abbrev pub ReadIsProper : Type 0
ReadIsProper = (text : List ℕ) (t : TaskValue) → spelled text ≡ Ok t → Proper t
