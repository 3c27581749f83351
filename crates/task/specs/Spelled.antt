-- What task a text spells, or its first fault.
use Rattle.std.specs.Prelude.{◌≡◌, ℕ, cond, List, [], ◌∷◌, ◌++◌, length, Some, None, Ok, Err, codes, Option, Result, nat_lt}
use Rattle.std.specs.Borrow.{Bor}
use Rattle.std.specs.Fn.{FnReturnsAt, Shared}
use Rattle.std.specs.Option.{ok_or}
use Rattle.std.specs.Str.{bytes_eq}
use Rattle.task.specs.declared.fault.TextFault.{TextFault}
use Rattle.task.specs.declared.fault.Wrong.{Wrong}
use Rattle.task.specs.declared.fault.Wrong.TheVariants.{Missing, Keyword, Byte, Number, Move, TooMany, Surplus}
use Rattle.task.specs.Pieces.{lines, words}
use Rattle.task.specs.Words.{number_of, both, byte_of, move_number}

pub record TaskValue : Type 0 where
  pub left : List ℕ
  pub right : List ℕ
  pub left_location : ℕ
  pub right_location : ℕ
  pub moves : List ℕ

-- the answer r, with its value seen through `view`
abbrev pub told : {A B E : Type 0} → (A → B) → Result A E → Result B E
told view (Ok x) = Ok (view x)
told view (Err e) = Err e

abbrev pub and_then : {A B E : Type 0} → Result A E → (A → Result B E) → Result B E
and_then (Ok x) next = next x
and_then (Err e) next = Err e

abbrev pub or_wrong : {A B : Type 0} → Option A → Wrong → (A → Result B Wrong) → Result B Wrong
or_wrong None wrong next = Err wrong
or_wrong (Some x) wrong next = next x

-- what each word spells, after those that are in `got`, at most 4096 in all
abbrev pub each : {X : Type 0} → (List ℕ → Option X) → Wrong → List X → List (List ℕ) → Result (List X) Wrong
each spells wrong got [] = Ok got
each spells wrong got (w ∷ ws) =
    or_wrong (spells w) wrong (λ x. cond (nat_lt (length got) 4096) (each spells wrong (got ++ x ∷ []) ws) (Err TooMany))

-- each call of f at a word answers what it spells, or else that fault
abbrev pub Computes : {F X : Type 0} → Shared F (Bor (List ℕ) × Unit {0}) (Result X Wrong) → F → (List ℕ → Option X) → Wrong → Type 0
Computes g f spells wrong = (word : List ℕ) (answer : Result _ Wrong) → FnReturnsAt g f word answer → answer ≡ ok_or (spells word) wrong

abbrev pub bytes : List (List ℕ) → Result (List ℕ) Wrong
bytes ws = each byte_of Byte [] ws

abbrev pub move_numbers_of : List (List ℕ) → Result (List ℕ) Wrong
move_numbers_of ws = each move_number Move [] ws

-- just two numbers of 32 bits
abbrev pub pair_of : List (List ℕ) → Result (ℕ × ℕ) Wrong
pair_of [] = Err Number
pair_of (a ∷ []) = Err Number
pair_of (a ∷ b ∷ []) = ok_or (both (number_of 4294967295 a) (number_of 4294967295 b)) Number
pair_of (a ∷ b ∷ c ∷ ws) = Err Number

abbrev opened_by : List ℕ → List (List ℕ) → List (List ℕ) → Result (List (List ℕ) × List (List ℕ)) Wrong
opened_by keyword [] ls = Err Keyword
opened_by keyword (w ∷ ws) ls = cond (bytes_eq w keyword) (Ok (ws, ls)) (Err Keyword)

-- the words after the keyword of the first line, and the other lines
abbrev pub opened : List ℕ → List (List ℕ) → Result (List (List ℕ) × List (List ℕ)) Wrong
opened keyword [] = Err Missing
opened keyword (l ∷ ls) = opened_by keyword (words l) ls

-- what the first line spells, and the other lines
abbrev pub line_of : {X : Type 0} → List ℕ → (List (List ℕ) → Result X Wrong) → List (List ℕ) → Result (X × List (List ℕ)) Wrong
line_of keyword spells ls = and_then (opened keyword ls) (λ o. told (λ x. (x, o.1)) (spells o.0))

abbrev pub at_line : {X : Type 0} → ℕ → Result X Wrong → Result X TextFault
at_line n (Ok x) = Ok x
at_line n (Err w) = Err (record { line = n; wrong = w })

abbrev pub ended : List (List ℕ) → TaskValue → Result TaskValue TextFault
ended [] t = Ok t
ended (l ∷ ls) t = Err (record { line = 5; wrong = Surplus })

unfoldable pub spelled : List ℕ → Result TaskValue TextFault
spelled text =
    and_then (at_line 1 (line_of (codes "left") bytes (lines text))) (λ left.
    and_then (at_line 2 (line_of (codes "right") bytes left.1)) (λ right.
    and_then (at_line 3 (line_of (codes "pair") pair_of right.1)) (λ pair.
    and_then (at_line 4 (line_of (codes "moves") move_numbers_of pair.1)) (λ moves.
    ended moves.1 (record {
      left = left.0;
      right = right.0;
      left_location = pair.0.0;
      right_location = pair.0.1;
      moves = moves.0;
    })))))
