-- What a text spells is a proper task.
use Rattle.std.proofs.Common.{◌≡◌, ℕ, ◌+◌, ◌-◌, ◌*◌, ◌^◌, ◌<◌, ◌≤◌, true, cond, ◌&&◌, eqb, ltb, leb, List, [], ◌∷◌, ◌++◌, length, Some, None, Ok, Err, codes, Option, Result, sym, refl, ap, ◌∙◌, subst, ⊎_elim, arith, length-append}
use Rattle.std.proofs.ByRecursion.{All-push}
use Rattle.std.proofs.lemmas.Bool.{and_parts, leb-true, ltb-true, cond_both, cond-true, cond-false, cases_Bool}
use Rattle.std.specs.Option.{option_map, ok_or}
use Rattle.std.specs.List.{AllByRecursion}
use Rattle.std.specs.Str.{all_ascii_digits}
use Rattle.task.specs.declared.fault.TextFault.{TextFault}
use Rattle.task.specs.declared.fault.Wrong.{Wrong}
use Rattle.task.specs.declared.fault.Wrong.TheVariants.{Byte, Move, Number, TooMany}
use Rattle.task.specs.Pieces.{lines}
use Rattle.task.specs.Spelled.{TaskValue, told, and_then, or_wrong, each, bytes, move_numbers_of, pair_of, opened, line_of, at_line, ended, spelled}
use Rattle.task.specs.Words.{value_from, number_of, hex_digit, both, byte_of, move_number}
use Rattle.task.specs.Written.{Proper, ReadIsProper}

-- what an answer has, it has below the limit
abbrev Under : ℕ → Option ℕ → Type 0
Under limit o = (x : ℕ) → o ≡ Some x → x < limit

under_none : (limit : ℕ) → Under limit None
under_none limit x h = cc

under_some : (limit v : ℕ) → v < limit → Under limit (Some v)
under_some limit v h x e = let same : v ≡ x = cc in omega arith

hex_range : (low high back c : ℕ) → high < back + 16 → (leb low c && leb c high) ≡ true → Under 16 (Some (c - back))
hex_range low high back c h e = let top = leb-true c high (and_parts (leb low c) (leb c high) e).1 in under_some 16 (c - back) (omega arith)

hex_under : (c : ℕ) → Under 16 (hex_digit c)
hex_under c =
    cond_both _ _ _ (Under 16) (hex_range 48 57 48 c (omega arith)) (λ _.
    cond_both _ _ _ (Under 16) (hex_range 97 102 87 c (omega arith)) (λ _.
    cond_both _ _ _ (Under 16) (hex_range 65 70 55 c (omega arith)) (λ _. under_none 16)))

joined_under : (a b : Option ℕ) → Under 16 a → Under 16 b → Under 256 (option_map (λ d. 16 * d.0 + d.1) (both a b))
joined_under None b ha hb = under_none 256
joined_under (Some h) None ha hb = under_none 256
joined_under (Some h) (Some l) ha hb = under_some 256 (16 * h + l) (omega (arith, ha h refl, hb l refl))

byte_under : (w : List ℕ) → Under 256 (byte_of w)
byte_under [] = under_none 256
byte_under (a ∷ []) = under_none 256
byte_under (a ∷ b ∷ []) = joined_under (hex_digit a) (hex_digit b) (hex_under a) (hex_under b)
byte_under (a ∷ b ∷ c ∷ cs) = under_none 256

number_under : (limit top : ℕ) → limit < top → (w : List ℕ) → Under top (number_of limit w)
number_under limit top h [] = under_none top
number_under limit top h (c ∷ cs) =
    cond_both _ _ _ (Under top)
    (λ e. let small = leb-true (value_from 0 (c ∷ cs)) limit (and_parts (all_ascii_digits (c ∷ cs)) (leb (value_from 0 (c ∷ cs)) limit) e).1 in under_some top (value_from 0 (c ∷ cs)) (omega arith))
    (λ _. under_none top)

past_left : (o : Option ℕ) → Under 65280 o → Under (2 ^ 16) (option_map (λ n. 256 + n) o)
past_left None h = under_none (2 ^ 16)
past_left (Some n) h = under_some (2 ^ 16) (256 + n) (omega (arith, h n refl))

move_under : (w : List ℕ) → Under (2 ^ 16) (move_number w)
move_under [] = under_none (2 ^ 16)
move_under (side ∷ cs) =
    cond_both (eqb side 76) _ _ (Under (2 ^ 16)) (λ _. number_under 255 (2 ^ 16) (omega arith) cs) (λ _.
    cond_both (eqb side 82) _ _ (Under (2 ^ 16)) (λ _. past_left _ (number_under 65279 65280 (omega arith) cs)) (λ _. under_none (2 ^ 16)))

-- what each word spells
module _ (spells : List ℕ → Option ℕ) (wrong : Wrong) (limit : ℕ) (under : (w : List ℕ) → Under limit (spells w)) where
  abbrev Fine : List ℕ → Type 0
  Fine out = AllByRecursion (λ x. x < limit) out × (length out ≤ 4096)

  one_more : (o : Option ℕ) (got : List ℕ) (out : List ℕ) (next : ℕ → Result (List ℕ) Wrong) → Under limit o → Fine got → ((x : ℕ) → Fine (got ++ x ∷ []) → next x ≡ Ok out → Fine out) → or_wrong o wrong (λ x. cond (ltb (length got) 4096) (next x) (Err TooMany)) ≡ Ok out → Fine out
  one_more None got out next u fine on h = cc
  one_more (Some x) got out next u fine on h =
      ⊎_elim
      (λ room.
      let less = ltb-true (length got) 4096 room in
      let longer = length-append got (x ∷ []) in
      on x (All-push (λ y. y < limit) got x fine.0 (u x refl), omega arith) (sym (cond-true _ (next x) (Err TooMany) room) ∙ h))
      (λ full. cc (sym (cond-false _ (next x) (Err TooMany) full) ∙ h))
      (cases_Bool (ltb (length got) 4096))

  each_fine : (got : List ℕ) (ws : List (List ℕ)) (out : List ℕ) → Fine got → each spells wrong got ws ≡ Ok out → Fine out
  each_fine got [] out fine h = let same : got ≡ out = cc in subst Fine same fine
  each_fine got (w ∷ ws) out fine h =
      one_more (spells w) got out (λ x. each spells wrong (got ++ x ∷ []) ws) (under w) fine (λ x. each_fine (got ++ x ∷ []) ws out) h

pair_fine : (ws : List (List ℕ)) (p : ℕ × ℕ) → pair_of ws ≡ Ok p → (p.0 < 2 ^ 32) × (p.1 < 2 ^ 32)
pair_fine [] p h = cc
pair_fine (a ∷ []) p h = cc
pair_fine (a ∷ b ∷ []) p h =
    go (number_of 4294967295 a) (number_of 4294967295 b) (number_under 4294967295 (2 ^ 32) (omega arith) a) (number_under 4294967295 (2 ^ 32) (omega arith) b) h
  where
    go : (x y : Option ℕ) → Under (2 ^ 32) x → Under (2 ^ 32) y → ok_or (both x y) Number ≡ Ok p → (p.0 < 2 ^ 32) × (p.1 < 2 ^ 32)
    go None y ux uy e = cc
    go (Some x) None ux uy e = cc
    go (Some x) (Some y) ux uy e =
        let same : ◌≡◌ {A = ℕ × ℕ} (x, y) p = cc in
        subst (λ q. (q.0 < 2 ^ 32) × (q.1 < 2 ^ 32)) same (ux x refl, uy y refl)
pair_fine (a ∷ b ∷ c ∷ ws) p h = cc

-- from the whole answer to its parts
then_ok : {A B E : Type 0} (r : Result A E) (next : A → Result B E) (y : B) → and_then r next ≡ Ok y → (x : A) × (r ≡ Ok x) × (next x ≡ Ok y)
then_ok (Ok x) next y h = (x, refl, h)
then_ok (Err e) next y h = cc

told_ok : {A B E : Type 0} (view : A → B) (r : Result A E) (y : B) → told view r ≡ Ok y → (x : A) × (r ≡ Ok x) × (view x ≡ y)
told_ok view (Ok x) y h = (x, refl, (cc))
told_ok view (Err e) y h = cc

at_ok : {X : Type 0} (n : ℕ) (r : Result X Wrong) (x : X) → at_line n r ≡ Ok x → r ≡ Ok x
at_ok n (Ok y) x h = let same : y ≡ x = cc in ap Ok same
at_ok n (Err w) x h = cc

line_ok : {X : Type 0} (n : ℕ) (keyword : List ℕ) (spells : List (List ℕ) → Result X Wrong) (ls : List (List ℕ)) (p : X × List (List ℕ)) → at_line n (line_of keyword spells ls) ≡ Ok p → (ws : List (List ℕ)) × (spells ws ≡ Ok p.0)
line_ok n keyword spells ls p h =
    let open_is = then_ok (opened keyword ls) (λ o. told (λ x. (x, o.1)) (spells o.0)) p (at_ok n (line_of keyword spells ls) p h) in
    let read = told_ok (λ x. (x, open_is.0.1)) (spells open_is.0.0) p open_is.2 in
    (open_is.0.0, read.1 ∙ ap (λ q. Ok q.0) read.2)

ended_ok : (ls : List (List ℕ)) (s t : TaskValue) → ended ls s ≡ Ok t → s ≡ t
ended_ok [] s t h = cc
ended_ok (l ∷ ls) s t h = cc

bytes_fine : (ws : List (List ℕ)) (out : List ℕ) → bytes ws ≡ Ok out → AllByRecursion (λ b. b < 256) out × (length out ≤ 4096)
bytes_fine ws out h = each_fine byte_of Byte 256 byte_under [] ws out (tt, omega arith) h

moves_fine : (ws : List (List ℕ)) (out : List ℕ) → move_numbers_of ws ≡ Ok out → AllByRecursion (λ m. m < 2 ^ 16) out × (length out ≤ 4096)
moves_fine ws out h = each_fine move_number Move (2 ^ 16) move_under [] ws out (tt, omega arith) h

-- what is left of the text after each line
abbrev at_end : List ℕ → List ℕ → ℕ × ℕ → List ℕ × List (List ℕ) → Result TaskValue TextFault
at_end left right pair moves = ended moves.1 (record { left = left; right = right; left_location = pair.0; right_location = pair.1; moves = moves.0 })

abbrev after_pair : List ℕ → List ℕ → (ℕ × ℕ) × List (List ℕ) → Result TaskValue TextFault
after_pair left right pair = and_then (at_line 4 (line_of (codes "moves") move_numbers_of pair.1)) (at_end left right pair.0)

abbrev after_right : List ℕ → List ℕ × List (List ℕ) → Result TaskValue TextFault
after_right left right = and_then (at_line 3 (line_of (codes "pair") pair_of right.1)) (after_pair left right.0)

abbrev after_left : List ℕ × List (List ℕ) → Result TaskValue TextFault
after_left left = and_then (at_line 2 (line_of (codes "right") bytes left.1)) (after_right left.0)

pub read_is_proper : ReadIsProper
unfolding spelled
read_is_proper text t h =
    let left = then_ok (at_line 1 (line_of (codes "left") bytes (lines text))) after_left t h in
    let right = then_ok (at_line 2 (line_of (codes "right") bytes left.0.1)) (after_right left.0.0) t left.2 in
    let pair = then_ok (at_line 3 (line_of (codes "pair") pair_of right.0.1)) (after_pair left.0.0 right.0.0) t right.2 in
    let moves = then_ok (at_line 4 (line_of (codes "moves") move_numbers_of pair.0.1)) (at_end left.0.0 right.0.0 pair.0.0) t pair.2 in
    let left-line = line_ok 1 (codes "left") bytes (lines text) left.0 left.1 in
    let right-line = line_ok 2 (codes "right") bytes left.0.1 right.0 right.1 in
    let pair_line = line_ok 3 (codes "pair") pair_of right.0.1 pair.0 pair.1 in
    let move_line = line_ok 4 (codes "moves") move_numbers_of pair.0.1 moves.0 moves.1 in
    let left-fine = bytes_fine left-line.0 left.0.0 left-line.1 in
    let right-fine = bytes_fine right-line.0 right.0.0 right-line.1 in
    let numbers = pair_fine pair_line.0 pair.0.0 pair_line.1 in
    let move-fine = moves_fine move_line.0 moves.0.0 move_line.1 in
    let task : TaskValue = record { left = left.0.0; right = right.0.0; left_location = pair.0.0.0; right_location = pair.0.0.1; moves = moves.0.0 } in
    subst Proper {x = task} (ended_ok moves.0.1 task t moves.2) (record {
      left_bytes = left-fine.0;
      left_room = left-fine.1;
      right_bytes = right-fine.0;
      right_room = right-fine.1;
      left_location = numbers.0;
      right_location = numbers.1;
      move_numbers = move-fine.0;
      move_room = move-fine.1;
    })
