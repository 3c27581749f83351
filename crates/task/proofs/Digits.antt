-- A number read by its digits.
use Rattle.std.proofs.Common.{◌≡◌, ℕ, ◌+◌, ◌-◌, ◌*◌, ◌^◌, ◌<◌, ◌≤◌, true, false, ◌&&◌, cond, nat_le, leb, List, [], ◌∷◌, length, Option, Some, None, Bor, Iter, MatchOption, ControlFlow, Continue, Break, ⊎_elim, sym, refl, ap, subst, ◌∙◌, arith, rules}
use Rattle.std.proofs.lemmas.Bool.{and_left, and_right, and_from, lt-leb, le-leb, leb-true, cond-true, cond-false, cases_Bool, cases_lt, and_parts}
use Rattle.std.proofs.lemmas.Fn.{fronts}
use Rattle.std.proofs.lemmas.Str.{digit_value_digit}
use Rattle.std.proofs.lemmas.Str.Parse.{IsNumeralModel, numerals_by_fold, digit_from_value}
use Rattle.std.specs.Char.{digit_value, is_ascii_digit}
use Rattle.std.specs.ControlFlow.{continue_value}
use Rattle.std.specs.Fn.{Called, Mut}
use Rattle.std.specs.Iterator.{TryFoldsItems, TryFoldTurn, Yields}
use Rattle.std.specs.List.{FoldsTo}
use Rattle.std.specs.Option.{SomeIff}
use Rattle.std.specs.Str.{all_ascii_digits}
use Rattle.task.specs.Words.{value_from, number_of}

pub own : IsNumeralModel (λ ds. all_ascii_digits ds ≡ true) (value_from 0)
own = numerals_by_fold _ (search rules) value_from (search rules)

pub number_is : (limit : ℕ) (ws : List ℕ) → 0 < length ws → all_ascii_digits ws ≡ true → value_from 0 ws ≤ limit → number_of limit ws ≡ Some (value_from 0 ws)
number_is limit [] some all h = absurd (omega arith)
number_is limit (c ∷ cs) some all h = cond-true _ _ _ (and_from _ _ all (le-leb _ _ h))

pub number_no_digits : (limit : ℕ) (ws : List ℕ) → all_ascii_digits ws ≡ false → number_of limit ws ≡ None
number_no_digits limit [] h = refl
number_no_digits limit (c ∷ cs) h = cond-false _ _ _ (and_left _ _ h)

pub number_too_large : (limit : ℕ) (ws : List ℕ) → limit < value_from 0 ws → number_of limit ws ≡ None
number_too_large limit [] h = refl
number_too_large limit (c ∷ cs) h = cond-false _ _ _ (and_right (all_ascii_digits (c ∷ cs)) _ (lt-leb _ _ h))

-- further digits never make a number smaller
pub value_grows : (n : ℕ) (cs : List ℕ) → n ≤ value_from n cs
value_grows n [] = omega arith
value_grows n (c ∷ cs) = omega (arith, value_grows (10 * n + (c - 48)) cs)

-- what digits make after those whose value is n, up to the limit
abbrev more : ℕ → ℕ → List ℕ → Option ℕ
more limit n cs = cond (all_ascii_digits cs && nat_le (value_from n cs) limit) (Some (value_from n cs)) None

-- r is what the one digit c makes of n, up to the limit
abbrev pub OneMore : ℕ → ℕ → ℕ → Option ℕ → Type 0
OneMore limit n c r = SomeIff r ((digit_value c < 10) × (n * 10 + digit_value c < 2 ^ 32) × (n * 10 + digit_value c ≤ limit)) (n * 10 + digit_value c)

is_digit : (c : ℕ) → digit_value c < 10 → (is_ascii_digit c ≡ true) × (c - 48 ≡ digit_value c)
is_digit c h =
    let k = digit_from_value c h in
    (and_from _ _ (le-leb 48 c k.0) (le-leb c 57 k.1), omega (arith, digit_value_digit c k))

more_none : (limit n : ℕ) (ws : List ℕ) → length ws ≡ 0 → n ≤ limit → Some n ≡ more limit n ws
more_none limit n [] e h = sym (cond-true _ _ _ (le-leb _ _ h))
more_none limit n (c ∷ cs) e h = absurd (omega arith)

more_digit : (limit n c m : ℕ) (cs : List ℕ) → OneMore limit n c (Some m) → more limit m cs ≡ more limit n (c ∷ cs)
more_digit limit n c m cs h =
    let d = is_digit c h.0.0 in
    let next : m ≡ 10 * n + (c - 48) = omega (arith, h.1, d.1) in
    ap (λ k. more limit k cs) next
    ∙ ap (λ t. cond ((t && all_ascii_digits cs) && nat_le (value_from (10 * n + (c - 48)) cs) limit) (Some (value_from (10 * n + (c - 48)) cs)) None) (sym d.0)

more_refused : (limit n c : ℕ) (cs : List ℕ) → limit < 2 ^ 32 → OneMore limit n c None → None ≡ more limit n (c ∷ cs)
more_refused limit n c cs fits h =
    let next = 10 * n + (c - 48) in
    ⊎_elim
    (λ digit.
    let range = and_parts (leb 48 c) (leb c 57) digit in
    let value : digit_value c + 48 ≡ c = digit_value_digit c (leb-true 48 c range.0, leb-true c 57 range.1) in
    ⊎_elim
    (λ large. sym (cond-false _ _ _ (and_right (all_ascii_digits (c ∷ cs)) _ (lt-leb _ _ (omega (arith, large, value_grows next cs))))))
    (λ small. absurd (h (omega (arith, value, leb-true c 57 range.1), omega (arith, value, small, fits), omega (arith, value, small))))
    (cases_lt limit next))
    (λ other. sym (cond-false _ _ _ (and_left _ _ (and_left _ _ other))))
    (cases_Bool (is_ascii_digit c))

number_more : (limit : ℕ) (ws : List ℕ) → 0 < length ws → number_of limit ws ≡ more limit 0 ws
number_more limit [] some = absurd (omega arith)
number_more limit (c ∷ cs) some = refl

abbrev Branches : {E : Type 0} → Option ℕ → ControlFlow E ℕ → Type 0
Branches v b = v ≡ continue_value b

module _ (E : Type 0) {F : Type 0} (limit : ℕ) (fits : limit < 2 ^ 32) (g : Mut F (ℕ × (Bor ℕ × Unit {0})) (Option ℕ)) (f : F) (r : Option ℕ) (step : (n : ℕ) (x : Bor ℕ) (v : Option ℕ) (f' : F) → Called g f (n, (x, tt)) v f' → OneMore limit n x.now v × (f' ≡ f)) where
  -- the items came to their end, or the call at the last one was the first to break off
  abbrev Ends : F → ℕ → Option (Bor ℕ) → Type 0
  Ends f' a o = MatchOption o (Branches {E = E} r (Continue a)) (λ x. (v : Option ℕ) × (h : F) × (e : E) × Called g f' (a, (x, tt)) v h × Branches {E = E} v (Break e) × (r ≡ None))

  end : (o : Option (Bor ℕ)) (s u : Iter ℕ) (n : ℕ) → n ≤ limit → fronts s o u → Ends f n o → r ≡ more limit n s.rest.now
  end None s u n small at ends = ends ∙ more_none limit n s.rest.now at.0 small
  end (Some x) s u n small at ends =
      let refused : OneMore limit n x.now None = subst (OneMore limit n x.now) ends.4 (step n x ends.0 ends.1 ends.3).0 in
      ends.5 ∙ more_refused limit n x.now u.rest.now fits refused ∙ ap (more limit n) (sym at)

  folded : (xs : List (Bor ℕ)) (o : Option (Bor ℕ)) (s t u : Iter ℕ) (f' : F) (n a : ℕ) → n ≤ limit → Yields fronts s xs t → fronts t o u → FoldsTo {P = F × ℕ} (TryFoldTurn g (Branches {E = E})) (f, n) xs (f', a) → Ends f' a o → r ≡ more limit n s.rest.now
  folded [] o s t u f' n a small came at turns ends =
      end o s u n small (subst (λ k. fronts k o u) (sym came) at) (subst (λ (q : F × ℕ). Ends q.0 q.1 o) (sym turns) ends)
  folded (x ∷ xs) o s t u f' n a small came at turns ends =
      let called = step n x turns.1.0 turns.0.0 turns.1.1 in
      let one : OneMore limit n x.now (Some turns.0.1) = subst (OneMore limit n x.now) turns.1.2 called.0 in
      let rest = subst (λ k. FoldsTo {P = F × ℕ} (TryFoldTurn g (Branches {E = E})) (k, turns.0.1) xs (f', a)) called.1 turns.2 in
      folded xs o came.0 t u f' turns.0.1 a (omega (arith, one.0.2, one.1)) came.2 at rest ends
      ∙ more_digit limit n x.now turns.0.1 came.0.rest.now one
      ∙ ap (more limit n) (sym came.1)

  pub number_folded : (s u : Iter ℕ) (ws : List ℕ) → s.rest.now ≡ ws → 0 < length ws → TryFoldsItems fronts g (Branches {E = E}) (λ _ v. v ≡ None) s f 0 r u → r ≡ number_of limit ws
  number_folded s u ws is some d =
      folded d.0 d.1 s d.4.0 u d.2 0 d.3 (omega arith) d.4.1 d.4.2 d.5 d.6 ∙ ap (more limit 0) is ∙ sym (number_more limit ws some)
