-- Which texts are accepted, and as which task, in the subject's words.
use Rattle.std.specs.Prelude.{◌≡◌, ℕ, ◌≤◌, Bool, List, [], ◌∷◌, ◌++◌, length, Ok, codes}
use Rattle.task.specs.Items.{Pairwise, IsByte, IsLocation, IsMove}
use Rattle.task.specs.Spelled.{TaskValue, spelled}
use Rattle.task.specs.Written.{line_text, ending}

-- the line is its word and then, each behind one space, items that say the values
abbrev pub LineSays : (List ℕ → ℕ → Type 0) → List ℕ → List ℕ → List ℕ → Type 0
LineSays Says word line values = (items : List (List ℕ)) × (line ≡ line_text word items) × Pairwise Says items values

-- a text of four lines, and the task that they say. The last LF may be missing
pub record TextSays (text : List ℕ) (t : TaskValue) : Type 0 where
  pub left_line : List ℕ
  pub right_line : List ℕ
  pub pair_line : List ℕ
  pub move_line : List ℕ
  pub closed : Bool
  pub text_is : text ≡ left_line ++ (10 ∷ (right_line ++ (10 ∷ (pair_line ++ (10 ∷ (move_line ++ ending closed))))))
  pub left_says : LineSays IsByte (codes "left") left_line t.left
  pub left_room : length t.left ≤ 4096
  pub right_says : LineSays IsByte (codes "right") right_line t.right
  pub right_room : length t.right ≤ 4096
  pub pair_says : LineSays IsLocation (codes "pair") pair_line (t.left_location ∷ t.right_location ∷ [])
  pub moves_say : LineSays IsMove (codes "moves") move_line t.moves
  pub move_room : length t.moves ≤ 4096

-- a text is read exactly where it says a task, and then as that task
pub record AcceptedTextsSayTheirTasks : Type 0 where
  pub told : (text : List ℕ) (t : TaskValue) → spelled text ≡ Ok t → TextSays text t
  pub only : (text : List ℕ) (t : TaskValue) → TextSays text t → spelled text ≡ Ok t
