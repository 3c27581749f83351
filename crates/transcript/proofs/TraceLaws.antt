-- The lines of the moves that can be made.
use Rattle.std.proofs.Common.{◌≡◌, ℕ, suc, ◌+◌, ◌<◌, ◌≤◌, ◌⊎◌, List, [], ◌∷◌, ◌++◌, length, get_or, take, Some, Err, refl, subst, zero, sym, ap, ◌∙◌, inl, inr, ⊎_elim, arith}
use Rattle.std.proofs.lemmas.List.{length_push}
use Rattle.std.proofs.lemmas.Option.{slice_get-get_or}
use Rattle.std.specs.List.{slice_get}
use Rattle.locks.specs.declared.moves.Move.{Move}
use Rattle.locks.specs.declared.together.Configuration.{Configuration}
use Rattle.locks.specs.Graphs.{Graph}
use Rattle.locks.specs.Moves.{move_named}
use Rattle.locks.specs.Schedules.{Runs, from_starts}
use Rattle.transcript.specs.Lines.{move_line}
use Rattle.search.specs.declared.playing.MoveFault.{MoveFault}
use Rattle.search.specs.declared.replaying.ReplayFault.TheVariants.{Fails}
use Rattle.search.specs.Playing.{Made}
use Rattle.search.specs.Replaying.{FailsAt}
use Rattle.search.proofs.ReplayLaws.{stops_there}
use Rattle.transcript.specs.Tracing.{LineOfMove, LinesOfMoves, MovesTraced}

-- the lines of the first n moves
pub record FirstLines (G H : Graph) (moves : List ℕ) (n : ℕ) (lines : List (List ℕ)) : Type 0 where
  pub as_many : length lines ≡ n
  pub each : LinesOfMoves G H moves lines

pub no_lines : (G H : Graph) (moves : List ℕ) → FirstLines G H moves 0 []
no_lines G H moves = record { as_many = refl; each = λ i line e. cc }

pushed : {X : Type 0} (xs : List X) (x y : X) (i : ℕ) → slice_get (xs ++ x ∷ []) i ≡ Some y → (slice_get xs i ≡ Some y) ⊎ ((i ≡ length xs) × (x ≡ y))
pushed [] x y zero e = inr (refl, (cc))
pushed [] x y (suc i) e = cc
pushed (z ∷ xs) x y zero e = inl e
pushed (z ∷ xs) x y (suc i) e = ⊎_elim inl (λ p. inr (ap suc p.0, p.1)) (pushed xs x y i e)

pub one_line_more : (G H : Graph) (moves : List ℕ) (i : ℕ) (lines : List (List ℕ)) (m : Move) (c : Configuration) → i < length moves → move_named (get_or moves i 0) ≡ Some m
    → Runs G H (from_starts G H) (take (i + 1) moves) c → FirstLines G H moves i lines → FirstLines G H moves (i + 1) (lines ++ move_line m c ∷ [])
one_line_more G H moves i lines m c h named r f =
    let here : (j : ℕ) → j ≡ i → LineOfMove G H moves j (move_line m c) = λ j at. (
      get_or moves i 0,
      m,
      c,
      ap (slice_get moves) at ∙ slice_get-get_or moves i 0 h,
      named,
      (let P : ℕ → Type 0 = λ k. Runs G H (from_starts G H) (take (k + 1) moves) c in subst P (sym at) r),
      refl,
    ) in
    record {
      as_many = length_push lines (move_line m c) ∙ ap (λ n. n + 1) f.as_many;
      each = λ j line e.
          ⊎_elim (f.each j line) (λ p. subst (LineOfMove G H moves j) p.1 (here j (p.0 ∙ f.as_many))) (pushed lines (move_line m c) line j e);
    }

-- the trace ends before a move that cannot be made
pub traced_up_to : (G H : Graph) (moves : List ℕ) (i : ℕ) (here : Configuration) (f : MoveFault) (lines : List (List ℕ)) → i < length moves → Runs G H (from_starts G H) (take i moves) here
    → Made G H here (get_or moves i 0) (Err f) → FirstLines G H moves i lines → MovesTraced G H moves lines
traced_up_to G H moves i here f lines h r m first =
    let P : ℕ → Type 0 = λ n. FailsAt G H moves n f in
    record { each = first.each; up_to = inr (f, subst P (sym first.as_many) (stops_there G H moves i here f (Fails f i) h r m refl)) }

-- or with the last move
pub traced_whole : (G H : Graph) (moves : List ℕ) (i : ℕ) (lines : List (List ℕ)) → length moves ≤ i → i ≤ length moves → FirstLines G H moves i lines → MovesTraced G H moves lines
traced_whole G H moves i lines h k first =
    record { each = first.each; up_to = inl (first.as_many ∙ (let e : i ≡ length moves = omega arith in e)) }
