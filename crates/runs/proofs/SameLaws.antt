-- Graphs with the same locked states at the same distances get the same answers.
use Rattle.std.proofs.Common.{◌≡◌, ℕ, zero, suc, Bool, true, false, cond, List, [], ◌∷◌, take, Some, Ok, Err, sym, refl, ap, subst, inl, inr, arith}
use Rattle.std.specs.List.{flat_map, slice_get}
use Rattle.locks.specs.declared.together.Side.{Side}
use Rattle.locks.specs.declared.together.Side.TheVariants.{Left, Right}
use Rattle.locks.specs.Graphs.{Graph, Bounded}
use Rattle.locks.specs.Shortest.{Judged, LeastLength, NoSchedule}
use Rattle.locks.specs.Walks.{Distance}
use Rattle.locks.proofs.LeastSum.{turned, same_states_same_answer_lem}
use Rattle.search.specs.declared.entries.Entry.{Entry}
use Rattle.search.specs.Sides.{BothThere}
use Rattle.search.proofs.SummaryLaws.{accepted_not_refused}
use Rattle.locks.specs.Together.{side_number}
use Rattle.pairs.specs.declared.answers.AskFault.{AskFault}
use Rattle.pairs.specs.declared.answers.AskFault.TheVariants.{NoSummary, NoLocation, TooShort}
use Rattle.pairs.specs.declared.answers.Verdict.TheVariants.{Never, Reached}
use Rattle.pairs.specs.Answers.{Answer, AskSays, Answered, ask_refusal}
use Rattle.runs.specs.declared.calls.WhichFolder.{WhichFolder}
use Rattle.runs.specs.declared.calls.WhichFolder.TheVariants.{First, Second}
use Rattle.runs.specs.Calls.{CallMeaning, exchange, summarise, entry, ask, replay, AnswerMeaning, asked, same, put_by, last_of, by_which, folder_at, in_force, numbered}
use Rattle.runs.specs.Rules.{IsSummarised, NotSummarised, KeepsTheRules, GraphsWithin, AskedAt, SameStatesSameAnswers}
use Rattle.runs.proofs.PointLaws.{last_after}

-- the graph in force is within the bounds

put_within : (b : Bool) (K M : Graph) → Bounded K → Bounded M → Bounded (last_of K (cond b (M ∷ []) []))
put_within true K M k m = m
put_within false K M k m = k

call_within : (w : WhichFolder) (K : Graph) (c : CallMeaning) → Bounded K → ((v : WhichFolder) (M : Graph) → c ≡ exchange v M → Bounded M) → Bounded (last_of K (put_by w c))
call_within w K (exchange v M) k m = put_within (same w v) K M k (m v M refl)
call_within w K (summarise v) k m = k
call_within w K (entry v n) k m = k
call_within w K (ask q list) k m = k
call_within w K (replay q ns) k m = k

calls_within : (w : WhichFolder) (K : Graph) (cs : List CallMeaning) → Bounded K → ((i : ℕ) (v : WhichFolder) (M : Graph) → slice_get cs i ≡ Some (exchange v M) → Bounded M) → Bounded (last_of K (flat_map (put_by w) cs))
calls_within w K [] k m = k
calls_within w K (c ∷ cs) k m =
    subst Bounded (sym (last_after K (put_by w c) (flat_map (put_by w) cs)))
    (calls_within w (last_of K (put_by w c)) cs (call_within w K c k (λ v M e. m 0 v M (ap Some e))) (λ i v M e. m (suc i) v M e))

taken_there : {A : Type 0} (cs : List A) (n i : ℕ) (c : A) → slice_get (take n cs) i ≡ Some c → slice_get cs i ≡ Some c
taken_there [] zero i c e = absurd cc
taken_there [] (suc n) i c e = absurd cc
taken_there (x ∷ cs) zero i c e = absurd cc
taken_there (x ∷ cs) (suc n) zero c e = e
taken_there (x ∷ cs) (suc n) (suc i) c e = taken_there cs n i c e

opened_within : (w : WhichFolder) (G H : Graph) → Bounded G → Bounded H → Bounded (by_which G H w)
opened_within First G H g h = g
opened_within Second G H g h = h

in_force_within : (w : WhichFolder) (G H : Graph) (cs : List CallMeaning) (i : ℕ) → GraphsWithin G H cs → Bounded (in_force w G H (take i cs))
in_force_within w G H cs i b =
    calls_within w (by_which G H w) (take i cs) (opened_within w G H b.first b.second) (λ j v M e. b.later j v M (taken_there cs i j (exchange v M) e))

-- summarised, or not

not_both : (w : WhichFolder) (G H : Graph) (before : List CallMeaning) → NotSummarised w G H before → IsSummarised w G H before → ⊥
not_both w G H before (inl never) s = never s.0.0 s.0.1
not_both w G H before (inr r) s = accepted_not_refused (in_force w G H before) r.0 s.1 r.1

-- a refusal's number and place tell which it is

same_side : (s t : Side) → side_number s ≡ side_number t → s ≡ t
same_side Left Left e = refl
same_side Left Right e = absurd (omega arith)
same_side Right Left e = absurd (omega arith)
same_side Right Right e = refl

same_fault : (f g : AskFault) → ask_refusal f ≡ ask_refusal g → f ≡ g
same_fault (NoSummary s) (NoSummary t) e = ap NoSummary (same_side s t (ap (λ x. x.place) e))
same_fault (NoLocation s) (NoLocation t) e = ap NoLocation (same_side s t (ap (λ x. x.place) e))
same_fault (TooShort m) (TooShort n) e = ap TooShort (ap (λ x. x.place) e)
same_fault (NoSummary s) (NoLocation t) e = let d = ap (λ x. x.number) e in absurd (omega arith)
same_fault (NoSummary s) (TooShort n) e = let d = ap (λ x. x.number) e in absurd (omega arith)
same_fault (NoLocation s) (NoSummary t) e = let d = ap (λ x. x.number) e in absurd (omega arith)
same_fault (NoLocation s) (TooShort n) e = let d = ap (λ x. x.number) e in absurd (omega arith)
same_fault (TooShort m) (NoSummary t) e = let d = ap (λ x. x.number) e in absurd (omega arith)
same_fault (TooShort m) (NoLocation t) e = let d = ap (λ x. x.number) e in absurd (omega arith)

same_answer : (r s : Answer) → numbered ask_refusal r ≡ numbered ask_refusal s → r ≡ s
same_answer (Ok x) (Ok y) e = let d : x ≡ y = cc in ap {B = Answer} (λ v. Ok v) d
same_answer (Ok x) (Err g) e = absurd cc
same_answer (Err f) (Ok y) e = absurd cc
same_answer (Err f) (Err g) e = let d : ask_refusal f ≡ ask_refusal g = cc in ap {B = Answer} (λ v. Err v) (same_fault f g d)

-- what an ask that is answered for its pair says, in terms of its graphs
module _ (G H : Graph) (cs : List CallMeaning) (zs : List AnswerMeaning) (ts : List (List Entry)) (within : GraphsWithin G H cs) (keeps : KeepsTheRules G H cs zs ts)
    (i a b k : ℕ) (L R : Graph) (r : Answer) (x : AskedAt G H cs zs i a b k L R r) where
  abbrev Has : Side → Type 0
  Has s = IsSummarised (folder_at x.question s) G H (take i cs)

  abbrev Lacks : Side → Type 0
  Lacks s = NotSummarised (folder_at x.question s) G H (take i cs)

  ready_at : (s : Side) → Has s
  ready_at Left = x.left_ready
  ready_at Right = x.right_ready

  lacking : (s : Side) → Lacks s → ⊥
  lacking s l = not_both (folder_at x.question s) G H (take i cs) l (ready_at s)

  left_judged : Judged L
  left_judged = subst Judged x.left_graph (record { bounded = in_force_within (folder_at x.question Left) G H cs i within; faultless = x.left_ready.1.1 })

  right_judged : Judged R
  right_judged = subst Judged x.right_graph (record { bounded = in_force_within (folder_at x.question Right) G H cs i within; faultless = x.right_ready.1.1 })

  answered_at : Answered Has Lacks L R a b x.list r x.after
  answered_at =
      let p = keeps.each i (ask x.question x.list) (asked (numbered ask_refusal r) x.after) x.call x.answer in
      let e : p.0 ≡ r = let q = p.2 in same_answer p.0 r (let n : numbered ask_refusal p.0 ≡ numbered ask_refusal r = cc in n) in
      let d : p.1 ≡ x.after = let q = p.2 in cc in
      subst (λ X. Answered Has Lacks X R a b x.list r x.after) x.left_graph
      (subst (λ Y. Answered Has Lacks (in_force (folder_at x.question Left) G H (take i cs)) Y a b x.list r x.after) x.right_graph
      (subst (λ m. Answered Has Lacks (in_force (folder_at x.question Left) G H (take i cs)) (in_force (folder_at x.question Right) G H (take i cs)) m b x.list r x.after) x.left_location
      (subst (λ n. Answered Has Lacks (in_force (folder_at x.question Left) G H (take i cs)) (in_force (folder_at x.question Right) G H (take i cs)) x.question.left.location n x.list r x.after) x.right_location
      (subst (λ y. Answered Has Lacks (in_force (folder_at x.question Left) G H (take i cs)) (in_force (folder_at x.question Right) G H (take i cs)) x.question.left.location x.question.right.location x.list y x.after) e
      (subst (λ ys. Answered Has Lacks (in_force (folder_at x.question Left) G H (take i cs)) (in_force (folder_at x.question Right) G H (take i cs)) x.question.left.location x.question.right.location x.list p.0 ys) d p.3)))))

  abbrev Says : Answer → Type 0
  Says s = AskSays Has Lacks (NoSchedule L R a b) (LeastLength L R a b) L R a b k s

  says : Says r
  says = subst (λ n. AskSays Has Lacks (NoSchedule L R a b) (LeastLength L R a b) L R a b n r) x.long answered_at.says

  only : (s : Answer) → Says s → s ≡ r
  only s f = answered_at.only s (subst (λ n. AskSays Has Lacks (NoSchedule L R a b) (LeastLength L R a b) L R a b n s) (sym x.long) f)

-- the condition of an answer by other graphs that have the locations and the same schedules' lengths
said_again : (There Gone There' Gone' : Side → Type 0) (L R L' R' : Graph) (a b k : ℕ) → ((s : Side) → There s) → ((s : Side) → Gone' s → ⊥) → BothThere L R a b → BothThere L' R' a b
    → (NoSchedule L' R' a b → NoSchedule L R a b) → ((n : ℕ) → LeastLength L' R' a b n → LeastLength L R a b n) → (r : Answer)
    → AskSays There' Gone' (NoSchedule L' R' a b) (LeastLength L' R' a b) L' R' a b k r → AskSays There Gone (NoSchedule L R a b) (LeastLength L R a b) L R a b k r
said_again There Gone There' Gone' L R L' R' a b k has nor t t' none some (Err (NoSummary Left)) s = absurd (nor Left s)
said_again There Gone There' Gone' L R L' R' a b k has nor t t' none some (Err (NoSummary Right)) s = absurd (nor Right s.1)
said_again There Gone There' Gone' L R L' R' a b k has nor t t' none some (Err (NoLocation Left)) s = absurd (let p = t'.0 in let q = s.2 in omega arith)
said_again There Gone There' Gone' L R L' R' a b k has nor t t' none some (Err (NoLocation Right)) s = absurd (let p = t'.1 in let q = s.2.1 in omega arith)
said_again There Gone There' Gone' L R L' R' a b k has nor t t' none some (Err (TooShort n)) s = (has Left, has Right, t, some n s.3, s.4)
said_again There Gone There' Gone' L R L' R' a b k has nor t t' none some (Ok Never) s = (has Left, has Right, t, none s.3)
said_again There Gone There' Gone' L R L' R' a b k has nor t t' none some (Ok (Reached n)) s = (has Left, has Right, t, some n s.3, s.4)

pub same_states_same_answers : SameStatesSameAnswers
same_states_same_answers G H G' H' cs cs' zs zs' ts ts' w w' k k' i j a b n L R L' R' r r' x y p q =
    let same = same_states_same_answer_lem L' R' L R (left_judged G' H' cs' zs' ts' w' k' j a b n L' R' r' y) (right_judged G' H' cs' zs' ts' w' k' j a b n L' R' r' y)
    (left_judged G H cs zs ts w k i a b n L R r x) (right_judged G H cs zs ts w k i a b n L R r x) (turned (Distance L) (Distance L') p) (turned (Distance R) (Distance R') q) a b in
    sym (only G H cs zs ts w k i a b n L R r x r'
    (said_again _ (Lacks G H cs zs ts w k i a b n L R r x) (Has G' H' cs' zs' ts' w' k' j a b n L' R' r' y) _ L R L' R' a b n (ready_at G H cs zs ts w k i a b n L R r x) (lacking G' H' cs' zs' ts' w' k' j a b n L' R' r' y) x.both_there y.both_there
    same.1 same.0 r' (says G' H' cs' zs' ts' w' k' j a b n L' R' r' y)))
