-- What is printed of the answer to a file.
use Rattle.std.proofs.Common.{◌≡◌, ℕ, ◌+◌, ◌<◌, ◌≤◌, ◌⊎◌, List, [], ◌++◌, length, take, Some, None, Option, Ok, Err, Result, ap, subst, sym, ◌∙◌, inl, inr, arith}
use Rattle.std.specs.Prelude.{IfSome, IsErr}
use Rattle.std.specs.Option.{option_map}
use Rattle.output.specs.Fronts.{WritesText, Prints}
use Rattle.output.proofs.Growing.{prints, prints_nothing}
use Rattle.std.proofs.lemmas.Bool.{cases_lt}
use Rattle.std.proofs.lemmas.List.{take_all, length-take-le}
use Rattle.locks.specs.declared.together.Side.{Side}
use Rattle.locks.specs.declared.together.Side.TheVariants.{Left, Right}
use Rattle.locks.specs.Graphs.{Graph}
use Rattle.search.specs.declared.faults.SummariseFault.{SummariseFault}
use Rattle.search.specs.declared.threads.Pair.{Pair}
use Rattle.review.specs.declared.file.fault.FileFault.{FileFault}
use Rattle.review.specs.declared.file.fault.FileFault.TheVariants.{TooLong, EndsEarly, NotAllowed, InLeft, InRight, InNames}
use Rattle.review.specs.declared.report.error.ReportError.{ReportError}
use Rattle.review.specs.declared.report.error.ReportError.TheVariants.{Summary}
use Rattle.review.specs.Limits.{most_bytes}
use Rattle.review.specs.Reports.{left_graph, right_graph, PairLines, ReviewAnswers, FileAnswers, Reported, RefusalPrinted, ReviewSays, ReportOf, Reports, StandsFor}
use Rattle.review.specs.Reviews.{Meaning, FileSays}

-- the text that stands for an answer is the report

of_fault : (r : Result (List ℕ) ReportError) (text : List ℕ) (s : Side) (f : SummariseFault) → r ≡ Err (Summary s f) → StandsFor r text → RefusalPrinted text s f
of_fault r text s f is stands = subst (λ x. StandsFor x text) is stands

of_lines : (G H : Graph) (pairs : List Pair) (r : Result (List ℕ) ReportError) (text lines : List ℕ) → r ≡ Ok lines → StandsFor r text → PairLines G H pairs lines → PairLines G H pairs text
of_lines G H pairs r text lines is stands h = let same : text ≡ lines = subst (λ x. StandsFor x text) is stands in subst (PairLines G H pairs) (sym same) h

of_review : (G H : Graph) (pairs : List Pair) (r : Result (List ℕ) ReportError) (text : List ℕ) → StandsFor r text → ReviewAnswers G H pairs r → ReviewSays G H pairs text
of_review G H pairs r text stands (inl t) = inl (t.0, t.1, of_fault r text Left t.0 t.2 stands)
of_review G H pairs r text stands (inr (inl t)) = inr (inl (t.0, t.1, t.2, of_fault r text Right t.0 t.3 stands))
of_review G H pairs r text stands (inr (inr t)) = let x = t.2 in inr (inr (t.0, t.1, of_lines G H pairs r text x.0 x.1 stands x.2))

of_file : (q : Result Meaning FileFault) (r : Result (List ℕ) ReportError) (text : List ℕ) → StandsFor r text → FileAnswers q r → ReportOf q text
of_file (Ok m) r text stands h = of_review (left_graph m) (right_graph m) m.pairs r text stands h
of_file (Err f) r text stands h = subst (λ x. StandsFor x text) h stands

pub reports : (file : List ℕ) (r : Result (List ℕ) ReportError) (text : List ℕ) → Reported file r → StandsFor r text → Reports file text
reports file r text (inl out) stands = absurd (subst (λ x. StandsFor x text) out stands)
reports file r text (inr t) stands = (t.0, t.1, of_file t.0 r text stands t.2)

-- of a file that is too long one byte more than a file may have is enough

short_enough : {X : Type 0} (bs : List ℕ) → most_bytes < length bs → length bs ≤ most_bytes → X
short_enough bs h k = absurd (omega arith)

only_long : (bs cs : List ℕ) (q : Result Meaning FileFault) → most_bytes < length bs → most_bytes < length cs → FileSays bs q → FileSays cs q
only_long bs cs (Ok m) h k s = short_enough bs h s.0
only_long bs cs (Err TooLong) h k s = k
only_long bs cs (Err (EndsEarly at)) h k s = short_enough bs h s.0
only_long bs cs (Err (NotAllowed at)) h k s = short_enough bs h s.0
only_long bs cs (Err (InLeft f place)) h k s = short_enough bs h s.0
only_long bs cs (Err (InRight f place)) h k s = short_enough bs h s.0
only_long bs cs (Err (InNames f place)) h k s = short_enough bs h s.0

of_all : (bs text : List ℕ) → Reports (take (most_bytes + 1) bs) text → Reports bs text
of_all bs text r = by (cases_lt most_bytes (length bs))
  where
    by : (most_bytes < length bs) ⊎ (length bs ≤ most_bytes) → Reports bs text
    by (inl long) =
        let cut : length (take (most_bytes + 1) bs) ≡ most_bytes + 1 = length-take-le (most_bytes + 1) bs (omega arith) in
        (r.0, only_long (take (most_bytes + 1) bs) bs r.0 (omega arith) long r.1, r.2)
    by (inr short) = subst (λ xs. Reports xs text) (take_all (most_bytes + 1) bs (omega arith)) r

pub printed : {E : Type 0} (known : Option (List ℕ)) (file text : List ℕ) (a b : Option (List ℕ)) (r : Result (Unit {0}) E) → IfSome known (λ bytes. file ≡ take (most_bytes + 1) bytes) → Reports file text → WritesText a b text r → IfSome known (λ bytes. Prints (Reports bytes) a b r)
printed None file text a b r h says w = tt
printed (Some bytes) file text a b r h says w = prints (Reports bytes) a b text r (of_all bytes text (subst (λ xs. Reports xs text) h says)) w

-- an error before anything is written
pub nothing_printed : {E : Type 0} (known : Option (List ℕ)) (a : Option (List ℕ)) (r : Result (Unit {0}) E) → IsErr r → IfSome known (λ bytes. Prints (Reports bytes) a a r)
nothing_printed None a r h = tt
nothing_printed (Some bytes) a r h = prints_nothing (Reports bytes) a r h

-- what a reader gives of its bytes, as far as it is read
pub read_so : (known : Option (List ℕ)) (file before : List ℕ) (n m : ℕ) → before ≡ [] → n ≡ m → IfSome (option_map (take n) known) (λ bytes. file ≡ before ++ bytes) → IfSome known (λ bytes. file ≡ take m bytes)
read_so None file before n m e f h = tt
read_so (Some bytes) file before n m e f h = h ∙ ap (λ xs. xs ++ take n bytes) e ∙ ap (λ k. take k bytes) f
