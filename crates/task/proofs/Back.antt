-- A task that is written is read back.
use Rattle.std.proofs.Common.{◌≡◌, ℕ, ◌^◌, ◌<◌, ◌≤◌, Bool, true, List, [], ◌∷◌, ◌++◌, map, length, Ok, codes, decimal, Result, refl, ap, arith, lit<}
use Rattle.std.proofs.ByRecursion.{All-map, All-weaker}
use Rattle.std.specs.List.{AllByRecursion}
use Rattle.task.specs.declared.fault.TextFault.{TextFault}
use Rattle.task.specs.declared.fault.Wrong.{Wrong}
use Rattle.task.specs.declared.fault.Wrong.TheVariants.{Byte, Move}
use Rattle.task.specs.Pieces.{lines}
use Rattle.task.specs.Spelled.{TaskValue, told, at_line, line_of, bytes, pair_of, move_numbers_of, spelled}
use Rattle.task.specs.Words.{byte_of, move_number}
use Rattle.task.specs.Written.{byte_word, move_word, line_text, ending, written, Proper, WrittenReadsBack}
use Rattle.task.proofs.Lines.{opens}
use Rattle.task.specs.Reasons.{Lacks}
use Rattle.task.proofs.Pieced.{absent, lacks_if, cuts_piece, words_spaced, lines_last, lacks_line}
use Rattle.task.proofs.Spelling.{byte_back, byte_lacks, number_back, number_lacks, move_back, move_lacks, each_back}
use Rattle.task.proofs.Stages.{all_lines}

-- the keyword and the items of a line can be told apart, and from the next line
pub record Plain (keyword : List ℕ) (ws : List (List ℕ)) : Type 0 where
  pub keyword_space : Lacks 32 keyword
  pub items_space : AllByRecursion (Lacks 32) ws
  pub keyword_end : Lacks 10 keyword
  pub items_end : AllByRecursion (Lacks 10) ws

line_back : {X : Type 0} (keyword : List ℕ) (spells : List (List ℕ) → Result X Wrong) (ws : List (List ℕ)) (all rest : List (List ℕ)) (x : X) → Plain keyword ws → all ≡ line_text keyword ws ∷ rest → spells ws ≡ Ok x → line_of keyword spells all ≡ Ok (x, rest)
line_back keyword spells ws all rest x plain first is =
    rw (opens keyword all (line_text keyword ws) keyword rest ws first (words_spaced keyword ws plain.keyword_space plain.items_space) refl)
    (ap (told (λ y. (y, rest))) is)

bytes_back : (xs : List ℕ) → AllByRecursion (λ b. b < 256) xs → length xs ≤ 4096 → bytes (map byte_word xs) ≡ Ok xs
bytes_back xs small room = each_back byte_of Byte byte_word [] xs (All-weaker _ _ byte_back xs small) (omega arith)

moves_back : (xs : List ℕ) → AllByRecursion (λ m. m < 2 ^ 16) xs → length xs ≤ 4096 → move_numbers_of (map move_word xs) ≡ Ok xs
moves_back xs small room = each_back move_number Move move_word [] xs (All-weaker _ _ move_back xs small) (omega arith)

pair_back : (a b : ℕ) → a < 2 ^ 32 → b < 2 ^ 32 → pair_of (decimal a ∷ decimal b ∷ []) ≡ Ok (a, b)
pair_back a b ha hb =
    let first = number_back 4294967295 a (omega arith) (omega arith) in
    let second = number_back 4294967295 b (omega arith) (omega arith) in
    rw (first, second)

plain_items : (keyword : List ℕ) (P : ℕ → Type 0) (write : ℕ → List ℕ) → absent 32 keyword ≡ true → absent 10 keyword ≡ true → ((at : ℕ) → at < 48 → (x : ℕ) → P x → Lacks at (write x)) → (xs : List ℕ) → AllByRecursion P xs → Plain keyword (map write xs)
plain_items keyword P write space end lacks xs all =
    record {
      keyword_space = lacks_if 32 keyword space;
      items_space = All-map (Lacks 32) write xs (All-weaker P (λ x. Lacks 32 (write x)) (lacks 32 (lit< tt)) xs all);
      keyword_end = lacks_if 10 keyword end;
      items_end = All-map (Lacks 10) write xs (All-weaker P (λ x. Lacks 10 (write x)) (lacks 10 (lit< tt)) xs all);
    }

first_line_lem : (keyword : List ℕ) (ws : List (List ℕ)) (rest : List ℕ) → Plain keyword ws → lines (line_text keyword ws ++ (10 ∷ rest)) ≡ line_text keyword ws ∷ lines rest
first_line_lem keyword ws rest plain = cuts_piece 10 [] (line_text keyword ws) rest (lacks_line keyword ws plain.keyword_end plain.items_end)

module _ (closed : Bool) (t : TaskValue) (proper : Proper t) where
  byte_plain : (keyword : List ℕ) → absent 32 keyword ≡ true → absent 10 keyword ≡ true → (xs : List ℕ) → AllByRecursion (λ b. b < 256) xs → Plain keyword (map byte_word xs)
  byte_plain keyword space end xs small = plain_items keyword (λ b. b < 256) byte_word space end (λ at low b _. byte_lacks at low b) xs small

  pair_plain : Plain (codes "pair") (decimal t.left_location ∷ decimal t.right_location ∷ [])
  pair_plain =
      plain_items (codes "pair") (λ n. n < 2 ^ 32) decimal refl refl (λ at low n h. number_lacks at low n (omega arith)) (t.left_location ∷ t.right_location ∷ []) (proper.left_location, (proper.right_location, tt))

  move_plain : Plain (codes "moves") (map move_word t.moves)
  move_plain = plain_items (codes "moves") (λ m. m < 2 ^ 16) move_word refl refl move_lacks t.moves proper.move_numbers

  abbrev move_text : List ℕ
  move_text = line_text (codes "moves") (map move_word t.moves) ++ ending closed

  abbrev pair_text : List ℕ
  pair_text = line_text (codes "pair") (decimal t.left_location ∷ decimal t.right_location ∷ []) ++ (10 ∷ move_text)

  abbrev right_text : List ℕ
  right_text = line_text (codes "right") (map byte_word t.right) ++ (10 ∷ pair_text)

  move_line : lines move_text ≡ line_text (codes "moves") (map move_word t.moves) ∷ []
  move_line = lines_last closed 109 _ (lacks_line (codes "moves") (map move_word t.moves) move_plain.keyword_end move_plain.items_end)

  pub reads_back : ◌≡◌ {A = Result TaskValue TextFault} (spelled (written closed t)) (Ok t)
  unfolding written
  reads_back =
      let left-plain = byte_plain (codes "left") refl refl t.left proper.left_bytes in
      let right-plain = byte_plain (codes "right") refl refl t.right proper.right_bytes in
      let left = line_back (codes "left") bytes _ _ _ t.left left-plain (first_line_lem (codes "left") _ right_text left-plain) (bytes_back t.left proper.left_bytes proper.left_room) in
      let right = line_back (codes "right") bytes _ _ _ t.right right-plain (first_line_lem (codes "right") _ pair_text right-plain) (bytes_back t.right proper.right_bytes proper.right_room) in
      let pair = line_back (codes "pair") pair_of _ _ _ (t.left_location, t.right_location) pair_plain (first_line_lem (codes "pair") _ move_text pair_plain) (pair_back t.left_location t.right_location proper.left_location proper.right_location) in
      let moves = line_back (codes "moves") move_numbers_of _ _ [] t.moves move_plain move_line (moves_back t.moves proper.move_numbers proper.move_room) in
      all_lines (written closed t) (lines (written closed t)) refl (t.left, lines right_text) (ap (at_line 1) left) (t.right, lines pair_text) (ap (at_line 2) right) ((t.left_location, t.right_location), lines move_text) (ap (at_line 3) pair) (t.moves, []) (ap (at_line 4) moves) refl

pub written_reads_back : WrittenReadsBack
written_reads_back closed t proper = reads_back closed t proper
