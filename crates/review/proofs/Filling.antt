-- Texts put one behind another.
use Rattle.std.proofs.Common.{◌≡◌, ℕ, ◌+◌, ◌-◌, ◌<◌, ◌≤◌, ltb, List, [], ◌∷◌, ◌++◌, length, take, get_or, codes, sym, refl, ap, subst, ◌∙◌, append_assoc, append-nil, arith}
use Rattle.std.specs.Fmt.{decimal}
use Rattle.std.proofs.lemmas.Bool.{cond-true, cond-false, lt-ltb, le-ltb}
use Rattle.std.proofs.lemmas.Grind.{flat_map-append}
use Rattle.std.proofs.lemmas.List.{take_more}
use Rattle.review.specs.Lines.{Filled, move_text, moves_text, MovesAreTold}

-- nothing is put yet
pub nothing : (before : List ℕ) → Filled before [] before 0
nothing before = record { long = refl; end = refl; fits = λ h. refl }

-- two texts put are both as one
pub joined : (before after text a b : List ℕ) (at : ℕ) → Filled before ((text ++ a) ++ b) after at → Filled before (text ++ (a ++ b)) after at
joined before after text a b at f = subst (λ xs. Filled before xs after at) (append_assoc text a b) f

pub moved_left : (before text after : List ℕ) (at m : ℕ) → m < 256 → Filled before (text ++ (codes " L" ++ decimal m)) after at → Filled before (text ++ move_text m) after at
moved_left before text after at m h f =
    subst (λ xs. Filled before (text ++ xs) after at) (sym (cond-true (ltb m 256) (codes " L" ++ decimal m) (codes " R" ++ decimal (m - 256)) (lt-ltb m 256 h))) f

pub moved_right : (before text after : List ℕ) (at m : ℕ) → 256 ≤ m → Filled before (text ++ (codes " R" ++ decimal (m - 256))) after at → Filled before (text ++ move_text m) after at
moved_right before text after at m h f =
    subst (λ xs. Filled before (text ++ xs) after at) (sym (cond-false (ltb m 256) (codes " L" ++ decimal m) (codes " R" ++ decimal (m - 256)) (le-ltb m 256 h))) f

pub moves_more : (before text after : List ℕ) (at : ℕ) (ms : List ℕ) (i d : ℕ) → i < length ms → Filled before ((text ++ moves_text (take i ms)) ++ move_text (get_or ms i d)) after at → Filled before (text ++ moves_text (take (i + 1) ms)) after at
moves_more before text after at ms i d h f =
    let one : moves_text (get_or ms i d ∷ []) ≡ move_text (get_or ms i d) = append-nil (move_text (get_or ms i d)) in
    let more : moves_text (take (i + 1) ms) ≡ moves_text (take i ms) ++ move_text (get_or ms i d) =
    ap moves_text (take_more ms i d h) ∙ flat_map-append move_text (take i ms) (get_or ms i d ∷ []) ∙ ap (λ xs. moves_text (take i ms) ++ xs) one in
    subst (λ xs. Filled before (text ++ xs) after at) (sym more) (joined before after text (moves_text (take i ms)) (move_text (get_or ms i d)) at f)

pub moves_are_told : MovesAreTold
moves_are_told = (
  (λ choice h. cond-true (ltb choice 256) (codes " L" ++ decimal choice) (codes " R" ++ decimal (choice - 256)) (lt-ltb choice 256 h)),
  (λ choice.
      let right = codes " R" ++ decimal (256 + choice - 256) in
      let back : 256 + choice - 256 ≡ choice = omega arith in
      cond-false (ltb (256 + choice) 256) (codes " L" ++ decimal (256 + choice)) right (le-ltb (256 + choice) 256 (omega arith)) ∙ ap (λ n. codes " R" ++ decimal n) back),
)
