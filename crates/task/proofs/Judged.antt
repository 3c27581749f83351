-- Each text says a task, or has a first fault.
use Rattle.std.proofs.Common.{◌≡◌, ℕ, suc, ◌≤◌, ◌⊎◌, List, [], ◌∷◌, ◌++◌, length, Ok, Err, Option, inl, inr, ⊎_elim, sym, refl, ap, ◌∙◌, subst, arith}
use Rattle.task.specs.declared.fault.TextFault.{TextFault}
use Rattle.task.specs.declared.fault.Wrong.{Wrong}
use Rattle.task.specs.declared.fault.Wrong.TheVariants.{Missing, Keyword, Byte, Number, Move, Surplus}
use Rattle.task.specs.Accepted.{LineSays, TextSays, AcceptedTextsSayTheirTasks}
use Rattle.task.specs.Items.{IsByte, IsMove}
use Rattle.task.specs.Reasons.{Row, left_row, right_row, pair_row, move_row, rows, word, ProperLine, Before, WrongInList, WrongItems, WrongLine, WrongThere, Refused, FaultsHaveTheirReasons}
use Rattle.task.specs.Spelled.{TaskValue, spelled}
use Rattle.task.specs.Words.{byte_of, move_number}
use Rattle.task.specs.Written.{line_text}
use Rattle.task.proofs.Accepting.{says_read, lines_say}
use Rattle.task.proofs.Cut.{first_line, line_worded}
use Rattle.task.proofs.Refusing.{plain_word, refused}
use Rattle.task.proofs.Said.{Reads, byte_reads, move_reads}
use Rattle.task.proofs.Several.{values, judged, pair_judged, refused_pair}

-- a line is right, or something is wrong with its items
list_judged : (Says : List ℕ → ℕ → Type 0) (spells : List ℕ → Option ℕ) → Reads Says spells → (wrong : Wrong) (keyword line : List ℕ) (items : List (List ℕ)) → line ≡ line_text keyword items → ((xs : List ℕ) × LineSays Says keyword line xs × (length xs ≤ 4096)) ⊎ ((w : Wrong) × WrongInList Says wrong w items)
list_judged Says spells reads wrong keyword line items is =
    ⊎_elim
    (λ all. let v = values Says items all.0 in inl (v.0, (items, is, v.1), omega (arith, v.2, all.1)))
    (λ some. inr some)
    (judged Says spells reads wrong items)

items_judged : (row : Row) (line : List ℕ) (items : List (List ℕ)) → line ≡ line_text (word row) items → ProperLine row line ⊎ ((w : Wrong) × WrongItems row w items)
items_judged left_row line items is = list_judged IsByte byte_of byte_reads Byte (word left_row) line items is
items_judged right_row line items is = list_judged IsByte byte_of byte_reads Byte (word right_row) line items is
items_judged pair_row line items is =
    ⊎_elim
    (λ pair. inl (pair.0, pair.1, (items, is, pair.2)))
    (λ none. inr (Number, (refl, refused_pair items none)))
    (pair_judged items)
items_judged move_row line items is = list_judged IsMove move_number move_reads Move (word move_row) line items is

line_judged : (row : Row) (line : List ℕ) → ProperLine row line ⊎ ((w : Wrong) × WrongLine row w line)
line_judged row line =
    ⊎_elim
    (λ other. inr (Keyword, inl (refl, other)))
    (λ begun. ⊎_elim
    (λ right. inl right)
    (λ wrong. inr (wrong.0, inr (begun.0, begun.1, begun.2, wrong.1)))
    (items_judged row line begun.0 begun.1))
    (line_worded (word row) line (plain_word row))

-- proper lines up to the end of the text, or the first fault
abbrev Fault : List Row → List ℕ → Type 0
Fault all text = (w : Wrong) × (front : List Row) × (back : List Row) × (rest : List ℕ) × (all ≡ front ++ back) × Before front text rest × WrongThere back w rest

text_judged : (all : List Row) (text : List ℕ) → Before all text [] ⊎ Fault all text
text_judged [] [] = inl refl
text_judged [] (b ∷ bs) = inr (Surplus, [], [], b ∷ bs, refl, refl, (refl, omega arith))
text_judged (row ∷ more) [] = inr (Missing, [], row ∷ more, [], refl, refl, inl (refl, refl))
text_judged (row ∷ more) (b ∷ bs) =
    let first = first_line (b ∷ bs) (omega arith) in
    ⊎_elim
    (λ right. ⊎_elim
    (λ all. inl (first.0, first.1, first.2, right, all))
    (λ fault. inr (fault.0, row ∷ fault.1, fault.2, fault.3, ap (λ l. row ∷ l) fault.4, (first.0, first.1, first.2, right, fault.5), fault.6))
    (text_judged more first.1))
    (λ wrong. inr (wrong.0, [], row ∷ more, b ∷ bs, refl, refl, inr (first.0, first.1, first.2, wrong.1)))
    (line_judged row first.0)

-- the answer to a text is told by its lines
same_task : (text : List ℕ) (s t : TaskValue) → spelled text ≡ Ok s → spelled text ≡ Ok t → s ≡ t
same_task text s t first second = cc

same_fault : (text : List ℕ) (e f : TextFault) → spelled text ≡ Err e → spelled text ≡ Err f → e ≡ f
same_fault text e f first second = cc

one_answer : (text : List ℕ) (t : TaskValue) (f : TextFault) → spelled text ≡ Ok t → spelled text ≡ Err f → ⊥
one_answer text t f first second = cc

fault_read : (text : List ℕ) (h : Fault rows text) → spelled text ≡ Err (record { line = suc (length h.1); wrong = h.0 })
fault_read text h = refused h.1 h.2 text h.3 h.0 h.4 h.5 h.6

told_task : (text : List ℕ) (t : TaskValue) → spelled text ≡ Ok t → TextSays text t
told_task text t is =
    ⊎_elim
    (λ all. let said = lines_say text all in subst (TextSays text) (same_task text said.0 t (says_read text said.0 said.1) is) said.1)
    (λ fault. absurd (one_answer text t (record { line = suc (length fault.1); wrong = fault.0 }) is (fault_read text fault)))
    (text_judged rows text)

told_fault : (text : List ℕ) (f : TextFault) → spelled text ≡ Err f → Refused text f
told_fault text f is =
    ⊎_elim
    (λ all. let said = lines_say text all in absurd (one_answer text said.0 f (says_read text said.0 said.1) is))
    (λ fault.
    let e : TextFault = record { line = suc (length fault.1); wrong = fault.0 } in
    subst (Refused text) {x = e} (same_fault text e f (fault_read text fault) is) (record {
      front = fault.1;
      back = fault.2;
      split = fault.4;
      number = refl;
      rest = fault.3;
      before = fault.5;
      wrong = fault.6;
    }))
    (text_judged rows text)

only_fault : (text : List ℕ) (f : TextFault) → Refused text f → spelled text ≡ Err f
only_fault text f h =
    refused h.front h.back text h.rest f.wrong h.split h.before h.wrong ∙ ap (λ k. Err (record { line = k; wrong = f.wrong })) (sym h.number)

pub accepted : AcceptedTextsSayTheirTasks
accepted = record { told = told_task; only = says_read }

pub reasons : FaultsHaveTheirReasons
reasons = record { told = told_fault; only = only_fault }
