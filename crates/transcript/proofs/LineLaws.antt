-- Lines that are added to a text.
use Rattle.std.proofs.Common.{◌≡◌, ℕ, List, [], ◌∷◌, ◌++◌, sym, ap, ◌∙◌, append_assoc, append-nil}
use Rattle.std.proofs.lemmas.List.{flat_map_more}
use Rattle.std.proofs.lemmas.Grind.{flat_map-append}
use Rattle.transcript.specs.Lines.{ended, text_of, Adds}

-- no line
pub adds_none : (Says : List (List ℕ) → Type 0) (text : List ℕ) → Says [] → Adds Says text text
adds_none Says text h = ([], sym (append-nil text), h)

-- one line more
pub adds_more : (Says Next : List (List ℕ) → Type 0) (before text after line : List ℕ) → Adds Says before text → after ≡ text ++ ended line
    → ((lines : List (List ℕ)) → Says lines → Next (lines ++ line ∷ [])) → Adds Next before after
adds_more Says Next before text after line a e next =
    (a.0 ++ line ∷ [], e ∙ ap (λ t. t ++ ended line) a.1 ∙ flat_map_more ended before a.0 line, next a.0 a.2)

-- a line, and others after it
pub adds_after : (Says Next : List (List ℕ) → Type 0) (before text after line : List ℕ) → text ≡ before ++ ended line → Adds Says text after
    → ((lines : List (List ℕ)) → Says lines → Next (line ∷ lines)) → Adds Next before after
adds_after Says Next before text after line e a next =
    (line ∷ a.0, a.1 ∙ ap (λ t. t ++ text_of a.0) e ∙ append_assoc before (ended line) (text_of a.0), next a.0 a.2)

-- a line alone
pub adds_one : (Next : List (List ℕ) → Type 0) (before after line : List ℕ) → after ≡ before ++ ended line → Next (line ∷ []) → Adds Next before after
adds_one Next before after line e h = (line ∷ [], e ∙ ap (λ t. before ++ t) (sym (append-nil (ended line))), h)

-- some lines, and two after them
pub adds_two : (Says Next : List (List ℕ) → Type 0) (before text middle after x y : List ℕ) → Adds Says before text → middle ≡ text ++ ended x → after ≡ middle ++ ended y
    → ((lines : List (List ℕ)) → Says lines → Next (lines ++ x ∷ y ∷ [])) → Adds Next before after
adds_two Says Next before text middle after x y a d e next =
    let last : after ≡ text ++ text_of (x ∷ y ∷ []) =
    e ∙ ap (λ t. t ++ ended y) d ∙ append_assoc text (ended x) (ended y) ∙ ap (λ t. text ++ (ended x ++ t)) (sym (append-nil (ended y))) in (
      a.0 ++ x ∷ y ∷ [],
      last ∙ ap (λ t. t ++ text_of (x ∷ y ∷ [])) a.1 ∙ append_assoc before (text_of a.0) (text_of (x ∷ y ∷ []))
          ∙ ap (λ t. before ++ t) (sym (flat_map-append ended a.0 (x ∷ y ∷ []))),
      next a.0 a.2,
    )
