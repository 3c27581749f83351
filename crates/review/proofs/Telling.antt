-- The lines of answers.
use Rattle.std.proofs.Common.{◌≡◌, ℕ, ◌+◌, ◌<◌, List, [], ◌∷◌, ◌++◌, map, length, take, get_or, sym, ap, subst, ◌∙◌, arith}
use Rattle.std.proofs.lemmas.List.{take_more, map-append, length-map, length-take-le}
use Rattle.runs.specs.declared.calls.Answer.{Answer}
use Rattle.runs.specs.Calls.{AnswerMeaning, answer_meaning}
use Rattle.search.specs.declared.threads.Pair.{Pair}
use Rattle.review.specs.declared.lines.line.Line.{Line}
use Rattle.review.specs.Telling.{told, Tells, LinesTell, AllTell}
use Rattle.review.specs.Lines.{line_text}

lines_push : (ps : List Pair) (zs : List AnswerMeaning) (ls : List Line) (p : Pair) (z : AnswerMeaning) (l : Line) → length ps ≡ length zs → line_text l ≡ told p z → LinesTell ps zs ls → LinesTell (ps ++ p ∷ []) (zs ++ z ∷ []) (ls ++ l ∷ [])
lines_push [] [] [] p z l h e t = (e, tt)
lines_push [] [] (k ∷ ls) p z l h e t = absurd t
lines_push [] (y ∷ zs) ls p z l h e t = absurd (omega arith)
lines_push (q ∷ ps) [] ls p z l h e t = absurd (omega arith)
lines_push (q ∷ ps) (y ∷ zs) [] p z l h e t = absurd t
lines_push (q ∷ ps) (y ∷ zs) (k ∷ ls) p z l h e t = (t.0, lines_push ps zs ls p z l (omega arith) e t.1)

pub tell_more : {A B : Type 0} (pairs : List Pair) (answers : List (Answer A B)) (lines : List Line) (i : ℕ) (d : Pair) (e : Answer A B) (l : Line) → length pairs ≡ length answers → i < length pairs → Tells (get_or pairs i d) (get_or answers i e) l → AllTell (take i pairs) (take i answers) lines → AllTell (take (i + 1) pairs) (take (i + 1) answers) (lines ++ l ∷ [])
tell_more pairs answers lines i d e l same h tells all = λ f g.
    let front = take_more pairs i d h in
    let behind : map (answer_meaning f g) (take (i + 1) answers) ≡ map (answer_meaning f g) (take i answers) ++ answer_meaning f g (get_or answers i e) ∷ [] =
    ap (map (answer_meaning f g)) (take_more answers i e (omega arith)) ∙ map-append (answer_meaning f g) (take i answers) (get_or answers i e ∷ []) in
    let long : length (take i pairs) ≡ length (map (answer_meaning f g) (take i answers)) =
    length-take-le i pairs (omega arith) ∙ sym (length-take-le i answers (omega arith)) ∙ sym (length-map (take i answers) (answer_meaning f g)) in
    subst (λ ps. LinesTell ps (map (answer_meaning f g) (take (i + 1) answers)) (lines ++ l ∷ [])) (sym front)
    (subst (λ zs. LinesTell (take i pairs ++ get_or pairs i d ∷ []) zs (lines ++ l ∷ [])) (sym behind)
    (lines_push (take i pairs) (map (answer_meaning f g) (take i answers)) lines (get_or pairs i d) (answer_meaning f g (get_or answers i e)) l long (tells f g) (all f g)))
