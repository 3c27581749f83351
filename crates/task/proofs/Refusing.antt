-- Where a reason holds there is its fault.
use Rattle.std.proofs.Common.{◌≡◌, ℕ, suc, ◌≤◌, ◌⊎◌, List, [], ◌∷◌, ◌++◌, length, Ok, Err, Option, Result, codes, inl, inr, ⊎_elim, sym, refl, ap, ◌∙◌, subst, arith, lit<}
use Rattle.task.specs.declared.fault.TextFault.{TextFault}
use Rattle.task.specs.declared.fault.Wrong.{Wrong}
use Rattle.task.specs.declared.fault.Wrong.TheVariants.{Byte, Move}
use Rattle.task.specs.Accepted.{LineSays}
use Rattle.task.specs.Items.{IsByte, IsLocation, IsMove}
use Rattle.task.specs.Pieces.{lines}
use Rattle.task.specs.Reasons.{Lacks, Row, left_row, right_row, pair_row, move_row, rows, word, ProperLine, FirstLine, Before, WrongItems, WrongThere}
use Rattle.task.specs.Spelled.{TaskValue, each, bytes, pair_of, move_numbers_of, line_of, at_line, spelled}
use Rattle.task.specs.Words.{number_of, byte_of, move_number}
use Rattle.task.proofs.Cut.{first_line, lines_there, line_read, line_refused, word_refused}
use Rattle.task.proofs.Pieced.{lacks_if}
use Rattle.task.proofs.Said.{Reads, byte_reads, location_reads, move_reads}
use Rattle.task.proofs.Several.{items_lack, all_read, wrong_read, pair_read, no_pair}
use Rattle.task.proofs.Stages.{fault_in_left, fault_in_right, fault_in_pair, fault_in_moves, surplus}

pub plain_word : (row : Row) → Lacks 32 (word row)
plain_word left_row = lacks_if 32 (codes "left") refl
plain_word right_row = lacks_if 32 (codes "right") refl
plain_word pair_row = lacks_if 32 (codes "pair") refl
plain_word move_row = lacks_if 32 (codes "moves") refl

-- a proper line
list_read : (row : Row) (Says : List ℕ → ℕ → Type 0) (item_of : List ℕ → Option ℕ) (reads : Reads Says item_of) (wrong : Wrong) (text line rest xs : List ℕ) → FirstLine text line rest → LineSays Says (word row) line xs → length xs ≤ 4096 → line_of (word row) (each item_of wrong []) (lines text) ≡ Ok (xs, lines rest)
list_read row Says item_of reads wrong text line rest xs first says room =
    line_read (word row) (plain_word row) (each item_of wrong []) text line rest first says.0 xs says.1
    (items_lack Says item_of reads 32 (lit< tt) says.0 xs says.2)
    (all_read Says item_of reads wrong [] says.0 xs says.2 (omega arith))

pub left_read : (text line rest xs : List ℕ) → FirstLine text line rest → LineSays IsByte (codes "left") line xs → length xs ≤ 4096 → line_of (codes "left") bytes (lines text) ≡ Ok (xs, lines rest)
left_read = list_read left_row IsByte byte_of byte_reads Byte

pub right_read : (text line rest xs : List ℕ) → FirstLine text line rest → LineSays IsByte (codes "right") line xs → length xs ≤ 4096 → line_of (codes "right") bytes (lines text) ≡ Ok (xs, lines rest)
right_read = list_read right_row IsByte byte_of byte_reads Byte

pub pair_line_read : (text line rest : List ℕ) (left right : ℕ) → FirstLine text line rest → LineSays IsLocation (codes "pair") line (left ∷ right ∷ []) → line_of (codes "pair") pair_of (lines text) ≡ Ok ((left, right), lines rest)
pair_line_read text line rest left right first says =
    line_read (codes "pair") (plain_word pair_row) pair_of text line rest first says.0 (left, right) says.1
    (items_lack IsLocation (number_of 4294967295) location_reads 32 (lit< tt) says.0 (left ∷ right ∷ []) says.2)
    (pair_read says.0 left right says.2)

pub moves_read : (text line rest xs : List ℕ) → FirstLine text line rest → LineSays IsMove (codes "moves") line xs → length xs ≤ 4096 → line_of (codes "moves") move_numbers_of (lines text) ≡ Ok (xs, lines rest)
moves_read = list_read move_row IsMove move_number move_reads Move

-- a wrong one, or none
row_refused : {X : Type 0} (row : Row) (spells : List (List ℕ) → Result X Wrong) → ((w : Wrong) (items : List (List ℕ)) → WrongItems row w items → spells items ≡ Err w) → (more : List Row) (w : Wrong) (text : List ℕ) → WrongThere (row ∷ more) w text → line_of (word row) spells (lines text) ≡ Err w
row_refused row spells faults more w text h =
    ⊎_elim
    (λ missing. ap (λ t. line_of (word row) spells (lines t)) missing.1 ∙ ap Err (sym missing.0))
    (λ there. ⊎_elim
    (λ other. word_refused (word row) (plain_word row) spells text there.0 there.1 there.2 other.1 ∙ ap Err (sym other.0))
    (λ wrong. line_refused (word row) (plain_word row) spells text there.0 there.1 there.2 wrong.0 w wrong.1 wrong.2 (faults w wrong.0 wrong.3))
    there.3)
    h

-- the fault by the lines in front of it, counted from this one
abbrev RefusedFrom : List Row → List ℕ → ℕ → Wrong → Type 0
RefusedFrom [] text n w = (n ≡ 1) × WrongThere [] w text
RefusedFrom (row ∷ more) text n w =
    ((n ≡ 1) × WrongThere (row ∷ more) w text)
    ⊎ ((line : List ℕ) × (below : List ℕ) × (m : ℕ) × FirstLine text line below × ProperLine row line × (n ≡ suc m) × RefusedFrom more below m w)

refused_here : (all : List Row) (text : List ℕ) (w : Wrong) → WrongThere all w text → RefusedFrom all text 1 w
refused_here [] text w h = (refl, h)
refused_here (row ∷ more) text w h = inl (refl, h)

refused_from : (all front back : List Row) (text rest : List ℕ) (w : Wrong) → all ≡ front ++ back → Before front text rest → WrongThere back w rest → RefusedFrom all text (suc (length front)) w
refused_from all [] back text rest w split before wrong =
    refused_here all text w (subst (λ b. WrongThere b w text) (sym split) (subst (WrongThere back w) (sym before) wrong))
refused_from [] (row ∷ front) back text rest w split before wrong = cc
refused_from (r ∷ all) (row ∷ front) back text rest w split before wrong =
    let same : row ≡ r = cc in
    let more : all ≡ front ++ back = cc in
    inr (
      before.0,
      before.1,
      suc (length front),
      before.2,
      subst (λ q. ProperLine q before.0) same before.3,
      refl,
      refused_from all front back before.1 rest w more before.4 wrong,
    )

at_number : (w : Wrong) (n m : ℕ) → n ≡ m → ◌≡◌ {A = Result TaskValue TextFault} (Err (record { line = n; wrong = w })) (Err (record { line = m; wrong = w }))
at_number w n m h = ap (λ k. Err (record { line = k; wrong = w })) h

bytes_wrong : (w : Wrong) (items : List (List ℕ)) → WrongItems left_row w items → bytes items ≡ Err w
bytes_wrong = wrong_read IsByte byte_of byte_reads Byte

moves_wrong : (w : Wrong) (items : List (List ℕ)) → WrongItems move_row w items → move_numbers_of items ≡ Err w
moves_wrong = wrong_read IsMove move_number move_reads Move

pair_wrong : (w : Wrong) (items : List (List ℕ)) → WrongItems pair_row w items → pair_of items ≡ Err w
pair_wrong w items h = no_pair items h.1 ∙ ap Err (sym h.0)

module _ (text : List ℕ) (w : Wrong) where
  abbrev Faulty : ℕ → Type 0
  Faulty n = ◌≡◌ {A = Result TaskValue TextFault} (spelled text) (Err (record { line = n; wrong = w }))

  module _ (left : List ℕ) (rest : List ℕ) (left_is : line_of (codes "left") bytes (lines text) ≡ Ok (left, lines rest)) where
    module _ (right : List ℕ) (under : List ℕ) (right_is : line_of (codes "right") bytes (lines rest) ≡ Ok (right, lines under)) where
      module _ (a b : ℕ) (below : List ℕ) (pair_is : line_of (codes "pair") pair_of (lines under) ≡ Ok ((a, b), lines below)) where
        from_end : (moves : List ℕ) (last : List ℕ) → line_of (codes "moves") move_numbers_of (lines below) ≡ Ok (moves, lines last) → WrongThere [] w last → Faulty 5
        from_end moves last moves_are h =
            let more = first_line last h.1 in
            surplus text (lines text) refl (left, lines rest) (ap (at_line 1) left_is) (right, lines under) (ap (at_line 2) right_is) ((a, b), lines below) (ap (at_line 3) pair_is) (moves, lines last) (ap (at_line 4) moves_are) more.0 (lines more.1) (lines_there last more.0 more.1 more.2)
            ∙ ap (λ v. Err (record { line = 5; wrong = v })) (sym h.0)

        from_moves : (n : ℕ) → RefusedFrom (move_row ∷ []) below n w → Faulty (suc (suc (suc n)))
        from_moves n h =
            ⊎_elim
            (λ here.
            fault_in_moves text (lines text) refl (left, lines rest) (ap (at_line 1) left_is) (right, lines under) (ap (at_line 2) right_is) ((a, b), lines below) (ap (at_line 3) pair_is) (record { line = 4; wrong = w }) (ap (at_line 4) (row_refused move_row move_numbers_of moves_wrong [] w below here.1))
            ∙ at_number w 4 (suc (suc (suc n))) (omega (arith, here.0)))
            (λ there.
            from_end there.4.0 there.1 (moves_read below there.0 there.1 there.4.0 there.3 there.4.1 there.4.2) there.6.1
            ∙ at_number w 5 (suc (suc (suc n))) (omega (arith, there.5, there.6.0)))
            h

      from_pair : (n : ℕ) → RefusedFrom (pair_row ∷ move_row ∷ []) under n w → Faulty (suc (suc n))
      from_pair n h =
          ⊎_elim
          (λ here.
          fault_in_pair text (lines text) refl (left, lines rest) (ap (at_line 1) left_is) (right, lines under) (ap (at_line 2) right_is) (record { line = 3; wrong = w }) (ap (at_line 3) (row_refused pair_row pair_of pair_wrong (move_row ∷ []) w under here.1))
          ∙ at_number w 3 (suc (suc n)) (omega (arith, here.0)))
          (λ there.
          from_moves there.4.0 there.4.1 there.1 (pair_line_read under there.0 there.1 there.4.0 there.4.1 there.3 there.4.2) there.2 there.6
          ∙ at_number w (suc (suc (suc there.2))) (suc (suc n)) (omega (arith, there.5)))
          h

    from_right : (n : ℕ) → RefusedFrom (right_row ∷ pair_row ∷ move_row ∷ []) rest n w → Faulty (suc n)
    from_right n h =
        ⊎_elim
        (λ here.
        fault_in_right text (lines text) refl (left, lines rest) (ap (at_line 1) left_is) (record { line = 2; wrong = w }) (ap (at_line 2) (row_refused right_row bytes bytes_wrong (pair_row ∷ move_row ∷ []) w rest here.1))
        ∙ at_number w 2 (suc n) (omega (arith, here.0)))
        (λ there.
        from_pair there.4.0 there.1 (right_read rest there.0 there.1 there.4.0 there.3 there.4.1 there.4.2) there.2 there.6
        ∙ at_number w (suc (suc there.2)) (suc n) (omega (arith, there.5)))
        h

  from_left : (n : ℕ) → RefusedFrom rows text n w → Faulty n
  from_left n h =
      ⊎_elim
      (λ here.
      fault_in_left text (lines text) refl (record { line = 1; wrong = w }) (ap (at_line 1) (row_refused left_row bytes bytes_wrong (right_row ∷ pair_row ∷ move_row ∷ []) w text here.1))
      ∙ at_number w 1 n (omega (arith, here.0)))
      (λ there.
      from_right there.4.0 there.1 (left_read text there.0 there.1 there.4.0 there.3 there.4.1 there.4.2) there.2 there.6
      ∙ at_number w (suc there.2) n (omega (arith, there.5)))
      h

pub refused : (front back : List Row) (text rest : List ℕ) (w : Wrong) → rows ≡ front ++ back → Before front text rest → WrongThere back w rest → spelled text ≡ Err (record { line = suc (length front); wrong = w })
refused front back text rest w split before wrong =
    from_left text w (suc (length front)) (refused_from rows front back text rest w split before wrong)
