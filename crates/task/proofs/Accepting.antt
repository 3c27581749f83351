-- A text that says a task is accepted as it.
use Rattle.std.proofs.Common.{◌≡◌, ℕ, ◌<◌, Bool, true, false, List, [], ◌∷◌, ◌++◌, length, Ok, codes, Option, inl, inr, ⊎_elim, sym, refl, ap, ◌∙◌, subst, append-nil, arith, lit<, length-append}
use Rattle.task.specs.Accepted.{LineSays, TextSays}
use Rattle.task.specs.Items.{IsByte, IsLocation, IsMove}
use Rattle.task.specs.Pieces.{lines}
use Rattle.task.specs.Reasons.{Lacks, Row, left_row, right_row, pair_row, move_row, rows, word, FirstLine, Before}
use Rattle.task.specs.Spelled.{TaskValue, at_line, spelled}
use Rattle.task.specs.Words.{number_of, byte_of, move_number}
use Rattle.task.specs.Written.{ending}
use Rattle.task.proofs.Pieced.{lacks_if, lacks_line}
use Rattle.task.proofs.Refusing.{left_read, right_read, pair_line_read, moves_read}
use Rattle.task.proofs.Said.{Reads, byte_reads, location_reads, move_reads}
use Rattle.task.proofs.Several.{items_lack}
use Rattle.task.proofs.Stages.{all_lines}

-- no LF is in a proper line
endless_word : (row : Row) → Lacks 10 (word row)
endless_word left_row = lacks_if 10 (codes "left") refl
endless_word right_row = lacks_if 10 (codes "right") refl
endless_word pair_row = lacks_if 10 (codes "pair") refl
endless_word move_row = lacks_if 10 (codes "moves") refl

endless : (row : Row) (Says : List ℕ → ℕ → Type 0) (spells : List ℕ → Option ℕ) → Reads Says spells → (line xs : List ℕ) → LineSays Says (word row) line xs → Lacks 10 line
endless row Says spells reads line xs says =
    subst (Lacks 10) (sym says.1) (lacks_line (word row) says.0 (endless_word row) (items_lack Says spells reads 10 (lit< tt) says.0 xs says.2))

cut_first : (text line rest : List ℕ) → Lacks 10 line → text ≡ line ++ 10 ∷ rest → FirstLine text line rest
cut_first text line rest without is =
    record { some = omega (arith, ap length is, length-append line (10 ∷ rest)); without = without; there = inl is }

last_line : (closed : Bool) (line : List ℕ) → 0 < length line → Lacks 10 line → FirstLine (line ++ ending closed) line []
last_line true line some without = cut_first (line ++ ending true) line [] without refl
last_line false line some without =
    record { some = omega (arith, ap length (append-nil line)); without = without; there = inr (append-nil line, refl) }

pub says_read : (text : List ℕ) (t : TaskValue) → TextSays text t → spelled text ≡ Ok t
says_read text t s =
    let under_pair = s.move_line ++ ending s.closed in
    let under_right = s.pair_line ++ (10 ∷ under_pair) in
    let under_left = s.right_line ++ (10 ∷ under_right) in
    let some_moves : 0 < length s.move_line = omega (arith, ap length s.moves_say.1) in
    let first = cut_first text s.left_line under_left (endless left_row IsByte byte_of byte_reads s.left_line t.left s.left_says) s.text_is in
    let second = cut_first under_left s.right_line under_right (endless right_row IsByte byte_of byte_reads s.right_line t.right s.right_says) refl in
    let third = cut_first under_right s.pair_line under_pair (endless pair_row IsLocation (number_of 4294967295) location_reads s.pair_line (t.left_location ∷ t.right_location ∷ []) s.pair_says) refl in
    let fourth = last_line s.closed s.move_line some_moves (endless move_row IsMove move_number move_reads s.move_line t.moves s.moves_say) in
    let left = left_read text s.left_line under_left t.left first s.left_says s.left_room in
    let right = right_read under_left s.right_line under_right t.right second s.right_says s.right_room in
    let pair = pair_line_read under_right s.pair_line under_pair t.left_location t.right_location third s.pair_says in
    let moves = moves_read under_pair s.move_line [] t.moves fourth s.moves_say s.move_room in
    all_lines text (lines text) refl (t.left, lines under_left) (ap (at_line 1) left) (t.right, lines under_right) (ap (at_line 2) right) ((t.left_location, t.right_location), lines under_pair) (ap (at_line 3) pair) (t.moves, []) (ap (at_line 4) moves) refl

-- and four right lines say a task
closed_first : (text line rest : List ℕ) → FirstLine text line rest → 0 < length rest → text ≡ line ++ 10 ∷ rest
closed_first text line rest first some =
    ⊎_elim (λ cut. cut) (λ whole. absurd (omega (arith, ap length whole.1))) first.there

closed_last : (text line rest : List ℕ) → FirstLine text line rest → rest ≡ [] → (closed : Bool) × (text ≡ line ++ ending closed)
closed_last text line rest first none =
    ⊎_elim {C = (closed : Bool) × (text ≡ line ++ ending closed)}
    (λ cut. (true, cut ∙ ap (λ r. line ++ 10 ∷ r) none))
    (λ whole. (false, whole.0 ∙ sym (append-nil line)))
    first.there

pub lines_say : (text : List ℕ) → Before rows text [] → (t : TaskValue) × TextSays text t
lines_say text h =
    let second = h.4 in
    let third = second.4 in
    let fourth = third.4 in
    let last = closed_last third.1 fourth.0 fourth.1 fourth.2 fourth.4 in
    let in_pair = closed_first second.1 third.0 third.1 third.2 fourth.2.some ∙ ap (λ r. third.0 ++ 10 ∷ r) last.1 in
    let in_right = closed_first h.1 second.0 second.1 second.2 third.2.some ∙ ap (λ r. second.0 ++ 10 ∷ r) in_pair in
    let in_left = closed_first text h.0 h.1 h.2 second.2.some ∙ ap (λ r. h.0 ++ 10 ∷ r) in_right in (
      record { left = h.3.0; right = second.3.0; left_location = third.3.0; right_location = third.3.1; moves = fourth.3.0 },
      record {
        left_line = h.0;
        right_line = second.0;
        pair_line = third.0;
        move_line = fourth.0;
        closed = last.0;
        text_is = in_left;
        left_says = h.3.1;
        left_room = h.3.2;
        right_says = second.3.1;
        right_room = second.3.2;
        pair_says = third.3.2;
        moves_say = fourth.3.1;
        move_room = fourth.3.2;
      },
    )
