-- The four lines of a text, one after the other.
use Rattle.std.proofs.Common.{◌≡◌, ℕ, List, [], ◌∷◌, Ok, Err, codes, Result, sym, refl, ap, ◌∙◌}
use Rattle.task.specs.declared.fault.TextFault.{TextFault}
use Rattle.task.specs.declared.fault.Wrong.{Wrong}
use Rattle.task.specs.declared.fault.Wrong.TheVariants.{Surplus}
use Rattle.task.specs.Pieces.{lines}
use Rattle.task.specs.Spelled.{told, at_line, line_of, bytes, pair_of, move_numbers_of, spelled}

at_told : {A B : Type 0} (n : ℕ) (view : A → B) (r : Result A Wrong) → at_line n (told view r) ≡ told view (at_line n r)
at_told n view (Ok x) = refl
at_told n view (Err w) = refl

-- what a line spells, from what the code answered
pub line_is : {A B : Type 0} (n : ℕ) (view : A → B) (r : Result A Wrong) (spec : Result B Wrong) (a : Result A TextFault) → told view r ≡ spec → a ≡ at_line n r → at_line n spec ≡ told view a
line_is n view r spec a told_is is = ap (at_line n) (sym told_is) ∙ at_told n view r ∙ ap (told view) (sym is)

module _ (text : List ℕ) (all : List (List ℕ)) (whole : all ≡ lines text) where
  pub fault_in_left : (e : TextFault) → at_line 1 (line_of (codes "left") bytes all) ≡ Err e → spelled text ≡ Err e
  unfolding spelled
  fault_in_left e h = rw (← whole, h)

  module _ (left : List ℕ × List (List ℕ)) (left_is : at_line 1 (line_of (codes "left") bytes all) ≡ Ok left) where
    pub fault_in_right : (e : TextFault) → at_line 2 (line_of (codes "right") bytes left.1) ≡ Err e → spelled text ≡ Err e
    unfolding spelled
    fault_in_right e h = rw (← whole, left_is, h)

    module _ (right : List ℕ × List (List ℕ)) (right_is : at_line 2 (line_of (codes "right") bytes left.1) ≡ Ok right) where
      pub fault_in_pair : (e : TextFault) → at_line 3 (line_of (codes "pair") pair_of right.1) ≡ Err e → spelled text ≡ Err e
      unfolding spelled
      fault_in_pair e h = rw (← whole, left_is, right_is, h)

      module _ (pair : (ℕ × ℕ) × List (List ℕ)) (pair_is : at_line 3 (line_of (codes "pair") pair_of right.1) ≡ Ok pair) where
        pub fault_in_moves : (e : TextFault) → at_line 4 (line_of (codes "moves") move_numbers_of pair.1) ≡ Err e → spelled text ≡ Err e
        unfolding spelled
        fault_in_moves e h = rw (← whole, left_is, right_is, pair_is, h)

        module _ (moves : List ℕ × List (List ℕ)) (moves_is : at_line 4 (line_of (codes "moves") move_numbers_of pair.1) ≡ Ok moves) where
          pub all_lines : moves.1 ≡ [] → spelled text ≡ Ok (record { left = left.0; right = right.0; left_location = pair.0.0; right_location = pair.0.1; moves = moves.0 })
          unfolding spelled
          all_lines none = rw (← whole, left_is, right_is, pair_is, moves_is, none)

          pub surplus : (l : List ℕ) (ls : List (List ℕ)) → moves.1 ≡ l ∷ ls → spelled text ≡ Err (record { line = 5; wrong = Surplus })
          unfolding spelled
          surplus l ls more = rw (← whole, left_is, right_is, pair_is, moves_is, more)
