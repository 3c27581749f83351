-- Pieces that lack the byte between them are found again.
use Rattle.std.proofs.Common.{◌≡◌, ◌≢◌, ℕ, ◌<◌, Bool, length, Some, None, Option, sym, unwrap_or, MatchOption, All, Bor, true, false, not, ◌&&◌, eqb, List, [], ◌∷◌, ◌++◌, refl, ap, ◌∙◌, append-nil, arith}
use Rattle.std.proofs.ByRecursion.{All-append}
use Rattle.std.proofs.lemmas.Bool.{and_parts, eqb-false, not-true, eq-eqb, ne_eqb, cond-true, cond-false}
use Rattle.std.proofs.lemmas.List.Elements.{recursion_from_All}
use Rattle.std.specs.List.{AllByRecursion}
use Rattle.task.specs.Remaining.{words_of}
use Rattle.task.specs.Pieces.{onto, cuts, lines, words}
use Rattle.task.specs.Reasons.{Lacks}
use Rattle.task.specs.Written.{spaced, line_text, ending}

abbrev pub absent : ℕ → List ℕ → Bool
absent at [] = true
absent at (b ∷ bs) = not (eqb b at) && absent at bs

-- for a text that is written out
pub lacks_if : (at : ℕ) (bs : List ℕ) → absent at bs ≡ true → Lacks at bs
lacks_if at [] h = tt
lacks_if at (b ∷ bs) h =
    let parts = and_parts (not (eqb b at)) (absent at bs) h in
    (eqb-false b at (not-true (eqb b at) parts.0), lacks_if at bs parts.1)

pub cuts_piece : (at : ℕ) (last : List (List ℕ)) (w rest : List ℕ) → Lacks at w → cuts at last (w ++ (at ∷ rest)) ≡ w ∷ cuts at last rest
cuts_piece at last [] rest h = cond-true _ _ _ (eq-eqb at at refl)
cuts_piece at last (b ∷ w) rest h = cond-false _ _ _ (ne_eqb b at h.0) ∙ ap (onto b) (cuts_piece at last w rest h.1)

pub words_alone : (w : List ℕ) → Lacks 32 w → words w ≡ w ∷ []
words_alone [] h = refl
words_alone (b ∷ w) h = cond-false _ _ _ (ne_eqb b 32 h.0) ∙ ap (onto b) (words_alone w h.1)

pub words_spaced : (w : List ℕ) (ws : List (List ℕ)) → Lacks 32 w → AllByRecursion (Lacks 32) ws → words (w ++ spaced ws) ≡ w ∷ ws
words_spaced w [] h hs = ap words (append-nil w) ∙ words_alone w h
words_spaced w (v ∷ vs) h hs = cuts_piece 32 ([] ∷ []) w (v ++ spaced vs) h ∙ ap (λ l. w ∷ l) (words_spaced v vs hs.0 hs.1)

pub lines_alone : (b : ℕ) (w : List ℕ) → Lacks 10 (b ∷ w) → lines (b ∷ w) ≡ (b ∷ w) ∷ []
lines_alone b [] h = cond-false _ _ _ (ne_eqb b 10 h.0)
lines_alone b (c ∷ w) h = cond-false _ _ _ (ne_eqb b 10 h.0) ∙ ap (onto b) (lines_alone c w h.1)

-- what a text gives first, cut before its first space or LF
pub words_first : (text word : List ℕ) (rest : Option (Bor (List ℕ))) → All (λ b. b ≢ 32) word → MatchOption rest (text ≡ word) (λ r. text ≡ word ++ 32 ∷ r.now) → words text ≡ word ∷ words_of rest
words_first text word None lacks whole = ap words whole ∙ words_alone word (recursion_from_All _ word lacks)
words_first text word (Some rest) lacks whole = ap words whole ∙ cuts_piece 32 ([] ∷ []) word rest.now (recursion_from_All _ word lacks)

pub lines_first : (text line : List ℕ) (rest : Option (Bor (List ℕ))) (none : Bor (List ℕ)) → none.now ≡ [] → 0 < length text → All (λ b. b ≢ 10) line → MatchOption rest (text ≡ line) (λ r. text ≡ line ++ 10 ∷ r.now) → lines text ≡ line ∷ lines (unwrap_or rest none).now
lines_first text [] None none empty some lacks whole = absurd (omega (arith, ap length whole))
lines_first text (b ∷ line) None none empty some lacks whole = ap lines whole ∙ lines_alone b line (recursion_from_All _ (b ∷ line) lacks) ∙ ap (λ l. (b ∷ line) ∷ lines l) (sym empty)
lines_first text line (Some rest) none empty some lacks whole = ap lines whole ∙ cuts_piece 10 [] line rest.now (recursion_from_All _ line lacks)

pub lines_last : (closed : Bool) (b : ℕ) (w : List ℕ) → Lacks 10 (b ∷ w) → lines ((b ∷ w) ++ ending closed) ≡ (b ∷ w) ∷ []
lines_last true b w h = cuts_piece 10 [] (b ∷ w) [] h
lines_last false b w h = ap lines (append-nil (b ∷ w)) ∙ lines_alone b w h

pub lacks_line : (keyword : List ℕ) (ws : List (List ℕ)) → Lacks 10 keyword → AllByRecursion (Lacks 10) ws → Lacks 10 (line_text keyword ws)
lacks_line keyword [] h hs = All-append _ keyword [] h tt
lacks_line keyword (w ∷ ws) h hs = All-append _ keyword (32 ∷ (w ++ spaced ws)) h (λ e. omega arith, lacks_line w ws hs.0 hs.1)
