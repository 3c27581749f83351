-- The texts of the answers about pairs.
use Rattle.std.specs.Prelude.{◌≡◌, ℕ, List, [], ◌∷◌, ◌++◌, map, take, drop, Ok, Err, Result}
use Rattle.std.specs.List.{flat_map}
use Rattle.locks.specs.Graphs.{Graph}
use Rattle.pairs.specs.declared.answers.Verdict.TheVariants.{Never, Reached}
use Rattle.runs.specs.declared.calls.Answer.{Answer}
use Rattle.runs.specs.Calls.{AnswerMeaning, exchanged, summarised, entry_is, asked, replayed, answer_meaning}
use Rattle.search.specs.declared.threads.Pair.{Pair}
use Rattle.review.specs.declared.lines.line.Line.{Line}
use Rattle.review.specs.declared.report.error.ReportError.{ReportError}
use Rattle.review.specs.declared.report.error.ReportError.TheVariants.{Summary}
use Rattle.review.specs.Asking.{ByAnswers}
use Rattle.review.specs.Lines.{newline, reached_text, never_text, missing_text, line_text}
use Rattle.review.specs.Picking.{Picks}

-- the text of an answer about a pair
abbrev pub told : Pair → AnswerMeaning → List ℕ
told p (asked (Ok (Reached n)) list) = reached_text p (take n list) ++ newline
told p (asked (Ok Never) list) = never_text p ++ newline
told p (asked (Err r) list) = missing_text p ++ newline
told p (exchanged w K) = missing_text p ++ newline
told p (summarised r) = missing_text p ++ newline
told p (entry_is e) = missing_text p ++ newline
told p (replayed r moves) = missing_text p ++ newline

-- the line is what the answer says, whatever graphs mean
abbrev pub Tells : {A B : Type 0} → Pair → Answer A B → Line → Type 0
Tells {A} {B} p a l = (f : A → Graph) (g : B → Graph) → line_text l ≡ told p (answer_meaning f g a)

abbrev pub lines_text : List Line → List ℕ
lines_text lines = flat_map line_text lines

-- each line is what its pair's answer says
abbrev pub LinesTell : List Pair → List AnswerMeaning → List Line → Type 0
LinesTell [] zs [] = Unit {0}
LinesTell [] zs (l ∷ ls) = ⊥
LinesTell (p ∷ ps) [] ls = ⊥
LinesTell (p ∷ ps) (z ∷ zs) [] = ⊥
LinesTell (p ∷ ps) (z ∷ zs) (l ∷ ls) = (line_text l ≡ told p z) × LinesTell ps zs ls

abbrev pub AllTell : {A B : Type 0} → List Pair → List (Answer A B) → List Line → Type 0
AllTell {A} {B} pairs answers lines = (f : A → Graph) (g : B → Graph) → LinesTell pairs (map (answer_meaning f g) answers) lines

-- what becomes of the answers about these pairs: the fault of a summary, or the lines at the places
abbrev pub Told : {A B : Type 0} → List Pair → List ℕ → List (Answer A B) → Result (List ℕ) ReportError → Type 0
Told pairs places answers r =
    ByAnswers answers (λ s f. r ≡ Err (Summary s f)) ((lines : List Line) × (picked : List Line) × AllTell pairs (drop 2 answers) lines × Picks lines places picked × (r ≡ Ok (lines_text picked)))
