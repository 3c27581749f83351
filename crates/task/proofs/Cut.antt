-- The first line of a text, and the items of a line.
use Rattle.std.proofs.Common.{◌≡◌, ◌≢◌, ℕ, ◌<◌, ◌⊎◌, List, [], ◌∷◌, ◌++◌, length, Ok, Err, Result, inl, inr, ⊎_elim, sym, refl, ap, ◌∙◌, subst, append-nil, arith}
use Rattle.std.proofs.lemmas.Bool.{cases_eq, cases_Bool, false_from_ne_true}
use Rattle.std.proofs.lemmas.Slice.Eq.{bytes_eq-Decides}
use Rattle.std.specs.List.{AllByRecursion}
use Rattle.std.specs.Str.{bytes_eq}
use Rattle.task.specs.declared.fault.Wrong.{Wrong}
use Rattle.task.specs.declared.fault.Wrong.TheVariants.{Keyword}
use Rattle.task.specs.Pieces.{lines, words}
use Rattle.task.specs.Reasons.{Lacks, FirstLine, BeginsWith}
use Rattle.task.specs.Spelled.{told, opened, line_of}
use Rattle.task.specs.Written.{spaced, line_text}
use Rattle.task.proofs.Lines.{opens}
use Rattle.task.proofs.Pieced.{cuts_piece, words_alone, lines_alone, words_spaced}

-- a text up to its first LF, if it has one
abbrev Parted : List ℕ → Type 0
Parted text = (line : List ℕ) × (rest : List ℕ) × Lacks 10 line × ((text ≡ line ++ 10 ∷ rest) ⊎ ((text ≡ line) × (rest ≡ [])))

parted : (text : List ℕ) → Parted text
parted [] = ([], [], tt, inr (refl, refl))
parted (b ∷ bs) =
    let more = parted bs in
    ⊎_elim {C = Parted (b ∷ bs)}
    (λ end. ([], bs, tt, inl (ap (λ x. x ∷ bs) end)))
    (λ other. (
      b ∷ more.0,
      more.1,
      (other, more.2),
      ⊎_elim (λ cut. inl (ap (λ l. b ∷ l) cut)) (λ whole. inr (ap (λ l. b ∷ l) whole.0, whole.1)) more.3,
    ))
    (cases_eq b 10)

pub first_line : (text : List ℕ) → 0 < length text → (line : List ℕ) × (rest : List ℕ) × FirstLine text line rest
first_line text some =
    let p = parted text in
    (p.0, p.1, record { some = some; without = p.2; there = p.3 })

whole_line : (line : List ℕ) → 0 < length line → Lacks 10 line → lines line ≡ line ∷ []
whole_line [] some without = absurd (omega arith)
whole_line (b ∷ line) some without = lines_alone b line without

pub lines_there : (text line rest : List ℕ) → FirstLine text line rest → lines text ≡ line ∷ lines rest
lines_there text line rest first =
    ⊎_elim
    (λ cut. ap lines cut ∙ cuts_piece 10 [] line rest first.without)
    (λ whole.
    ap lines whole.0 ∙ whole_line line (omega (arith, ap length whole.0, first.some)) first.without ∙ ap (λ r. line ∷ lines r) (sym whole.1))
    first.there

-- a line as a word and the items behind it
abbrev Worded : List ℕ → Type 0
Worded line = (w : List ℕ) × (items : List (List ℕ)) × (line ≡ line_text w items) × Lacks 32 w × AllByRecursion (Lacks 32) items

pub worded : (line : List ℕ) → Worded line
worded [] = ([], [], refl, tt, tt)
worded (b ∷ bs) =
    let more = worded bs in
    ⊎_elim {C = Worded (b ∷ bs)}
    (λ space. ([], more.0 ∷ more.1, ap (λ x. x ∷ bs) space ∙ ap (λ l. 32 ∷ l) more.2, tt, (more.3, more.4)))
    (λ other. (b ∷ more.0, more.1, ap (λ l. b ∷ l) more.2, (other, more.3), more.4))
    (cases_eq b 32)

worded_begins : (w : List ℕ) (items : List (List ℕ)) → BeginsWith w (line_text w items)
worded_begins w [] = inl (append-nil w)
worded_begins w (item ∷ items) = inr (item ++ spaced items, refl)

-- the first of the words is the one that the line begins with
first_word : (keyword line w : List ℕ) (ws : List (List ℕ)) → Lacks 32 keyword → BeginsWith keyword line → words line ≡ w ∷ ws → w ≡ keyword
first_word keyword line w ws plain begins is =
    ⊎_elim
    (λ alone. let read : words line ≡ keyword ∷ [] = ap words alone ∙ words_alone keyword plain in cc)
    (λ spaced_out.
    let read : words line ≡ keyword ∷ words spaced_out.0 = ap words spaced_out.1 ∙ cuts_piece 32 ([] ∷ []) keyword spaced_out.0 plain in cc)
    begins

-- a line does not begin with its word, or is it and the items
pub line_worded : (keyword line : List ℕ) → Lacks 32 keyword → (BeginsWith keyword line → ⊥) ⊎ ((items : List (List ℕ)) × (line ≡ line_text keyword items) × AllByRecursion (Lacks 32) items)
line_worded keyword line plain =
    let w = worded line in
    let split = ap words w.2 ∙ words_spaced w.0 w.1 w.3 w.4 in
    ⊎_elim
    (λ same. inr (w.1, w.2 ∙ ap (λ k. line_text k w.1) ((bytes_eq-Decides w.0 keyword).0 same), w.4))
    (λ other. inl (λ begins. cc (other, (bytes_eq-Decides w.0 keyword).1 (first_word keyword line w.0 w.1 plain begins split))))
    (cases_Bool (bytes_eq w.0 keyword))

module _ {X : Type 0} (keyword : List ℕ) (plain : Lacks 32 keyword) (spells : List (List ℕ) → Result X Wrong) (text line rest : List ℕ) (first : FirstLine text line rest) where
  opened_line : (items : List (List ℕ)) → line ≡ line_text keyword items → AllByRecursion (Lacks 32) items → opened keyword (lines text) ≡ Ok (items, lines rest)
  opened_line items is lack =
      opens keyword (lines text) line keyword (lines rest) items (lines_there text line rest first) (ap words is ∙ words_spaced keyword items plain lack) refl

  pub line_read : (items : List (List ℕ)) (x : X) → line ≡ line_text keyword items → AllByRecursion (Lacks 32) items → spells items ≡ Ok x → line_of keyword spells (lines text) ≡ Ok (x, lines rest)
  line_read items x is lack read = rw (opened_line items is lack) (ap (told (λ y. (y, lines rest))) read)

  pub line_refused : (items : List (List ℕ)) (w : Wrong) → line ≡ line_text keyword items → AllByRecursion (Lacks 32) items → spells items ≡ Err w → line_of keyword spells (lines text) ≡ Err w
  line_refused items w is lack read = rw (opened_line items is lack) (ap (told (λ y. (y, lines rest))) read)

  pub word_refused : (BeginsWith keyword line → ⊥) → line_of keyword spells (lines text) ≡ Err Keyword
  word_refused other =
      let w = worded line in
      let split = ap words w.2 ∙ words_spaced w.0 w.1 w.3 w.4 in
      let ne : w.0 ≢ keyword = λ same. other (subst (BeginsWith keyword) (sym w.2) (subst (λ k. BeginsWith k (line_text w.0 w.1)) same (worded_begins w.0 w.1))) in
      let no = false_from_ne_true (bytes_eq w.0 keyword) (λ yes. ne ((bytes_eq-Decides w.0 keyword).0 yes)) in
      rw (lines_there text line rest first, split, no)
