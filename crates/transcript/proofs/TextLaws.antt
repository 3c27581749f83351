-- What a reading of a text answers, in the subject's words.
use Rattle.std.proofs.Common.{◌≡◌, ℕ, List, [], ◌++◌, Some, None, Ok, Err, Option, Result, IfSome, refl, sym, ap, ◌∙◌, subst}
use Rattle.std.specs.Prelude.{IsErr}
use Rattle.output.specs.Fronts.{WritesText, Prints}
use Rattle.output.proofs.Growing.{prints, prints_nothing}
use Rattle.task.specs.declared.fault.TextFault.{TextFault}
use Rattle.task.specs.Contents.{kept}
use Rattle.task.specs.Faults.{fault_text}
use Rattle.task.specs.Spelled.{TaskValue, spelled, told}
use Rattle.task.proofs.Judged.{accepted, reasons}
use Rattle.transcript.specs.Lines.{ended, Adds}
use Rattle.transcript.specs.Transcripts.{TaskSays, TextTold, Transcribes}
use Rattle.transcript.proofs.LineLaws.{adds_one}

-- the answer, apart from the task
abbrev answered : Result TaskValue TextFault → Result (Unit {0}) TextFault
answered q = told (λ _. tt) q

spelled_task : (old t : TaskValue) (q : Result TaskValue TextFault) → Ok tt ≡ answered q → t ≡ kept old q → q ≡ Ok t
spelled_task old t (Ok u) e p = ap Ok (sym p)
spelled_task old t (Err f) e p = cc

spelled_fault : (f : TextFault) (q : Result TaskValue TextFault) → Err f ≡ answered q → q ≡ Err f
spelled_fault f (Ok u) e = cc
spelled_fault f (Err g) e = cc

module _ (text before after : List ℕ) where
  pub text_read : (old t : TaskValue) → Ok tt ≡ answered (spelled text) → t ≡ kept old (spelled text) → Adds (TaskSays t) before after → Adds (TextTold text) before after
  text_read old t e p a = (a.0, a.1, (Ok t, accepted.told text t (spelled_task old t (spelled text) e p), a.2))

  pub text_refused : (f : TextFault) → Err f ≡ answered (spelled text) → after ≡ before ++ ended (fault_text f) → Adds (TextTold text) before after
  text_refused f e line = adds_one (TextTold text) before after (fault_text f) line (Err f, reasons.told text f (spelled_fault f (spelled text) e), refl)

-- what was left to read was read, and its transcript was written as far as it goes
pub printed : {E : Type 0} (o : Option (List ℕ)) (start read text bytes written : List ℕ) (old new : Option (List ℕ)) (r : Result (Unit {0}) E) → start ≡ [] → IfSome o (λ left. read ≡ start ++ left) → text ≡ read
    → Transcribes text bytes → written ≡ bytes → WritesText old new written r → IfSome o (λ left. Prints (Transcribes left) old new r)
printed None start read text bytes written old new r s h e t w a = tt
printed (Some left) start read text bytes written old new r s h e t w a =
    let P : List ℕ → Type 0 = λ x. Transcribes x bytes in
    prints (Transcribes left) old new bytes r (subst P (e ∙ h ∙ ap (λ x. x ++ left) s) t) (subst (λ x. WritesText old new x r) w a)

-- an error before anything is written
pub nothing_printed : {E : Type 0} (o : Option (List ℕ)) (old : Option (List ℕ)) (r : Result (Unit {0}) E) → IsErr r → IfSome o (λ left. Prints (Transcribes left) old old r)
nothing_printed None old r h = tt
nothing_printed (Some left) old r h = prints_nothing (Transcribes left) old r h
