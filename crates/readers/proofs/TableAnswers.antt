-- Of a table at most one answer's condition holds.
use Rattle.std.proofs.Common.{◌≡◌, ℕ, zero, suc, ◌<◌, ◌≤◌, ◌⊎◌, List, [], ◌∷◌, length, take, Ok, Err, Result, sym, refl, ap, subst, ◌∙◌, inl, inr, ⊎_elim, arith}
use Rattle.std.specs.List.{slice_get}
use Rattle.std.proofs.lemmas.Bool.{cases_order}
use Rattle.std.proofs.lemmas.List.{take-take}
use Rattle.std.proofs.lemmas.Option.{slice_get_within, get_or_from_slice_get}
use Rattle.locks.specs.Limits.{most_locations, most_steps}
use Rattle.readers.specs.declared.table.fault.TableFault.{TableFault}
use Rattle.readers.specs.declared.table.fault.TableFault.TheVariants.{LocationCount, StartMissing, WrongRecord, TooManySteps}
use Rattle.readers.specs.declared.table.record.Record.{Record}
use Rattle.readers.specs.Records.{Fits, records_at}
use Rattle.readers.specs.TableRefusals.{AllFit, AllFew, CountFits, FirstWrong, FirstTooMany, TableAnswers}
use Rattle.readers.proofs.TableLaws.{room_for}

-- the conditions of two answers exclude each other

no_count : {X : Type 0} (n : ℕ) → CountFits n → (n ≡ 0) ⊎ (most_locations < n) → X
no_count n c (inl e) = let some = c.some in absurd (omega arith)
no_count n c (inr h) = let few = c.few in absurd (omega arith)

no_start : {X : Type 0} (n start : ℕ) → start < n → n ≤ start → X
no_start n start h k = absurd (omega arith)

not_wrong : {X : Type 0} (n : ℕ) (rs : List Record) (i : ℕ) → FirstWrong n rs i → AllFit n rs → X
not_wrong n rs i f fit = absurd (f.wrong (subst (Fits n) (get_or_from_slice_get rs i f.it f.it f.there) (fit i f.it (slice_get_within rs i f.it f.there))))

not_too_many : {X : Type 0} (rs : List Record) (i : ℕ) → FirstTooMany rs i → AllFew rs → X
not_too_many rs i f few =
    let room = room_for rs i f.it (slice_get_within rs i f.it f.there) few in
    let full = subst (λ r. length (records_at r.from (take i rs)) ≡ most_steps) (sym (get_or_from_slice_get rs i f.it f.it f.there)) f.full in
    absurd (omega arith)

-- what is the first of its sort in a list is so in each front part that has it

get_take : {X : Type 0} (xs : List X) (j i : ℕ) → i < j → slice_get (take j xs) i ≡ slice_get xs i
get_take xs zero i h = absurd (omega arith)
get_take [] (suc j) i h = refl
get_take (x ∷ xs) (suc j) zero h = refl
get_take (x ∷ xs) (suc j) (suc i) h = get_take xs j i (omega arith)

wrong_in_front : (n : ℕ) (rs : List Record) (i j : ℕ) → i < j → FirstWrong n rs i → FirstWrong n (take j rs) i
wrong_in_front n rs i j h f = record {
  it = f.it;
  there = get_take rs j i h ∙ f.there;
  wrong = f.wrong;
  fit_before = subst (AllFit n) (sym (take-take i j rs (omega arith))) f.fit_before;
}

too_many_in_front : (rs : List Record) (i j : ℕ) → i < j → FirstTooMany rs i → FirstTooMany (take j rs) i
too_many_in_front rs i j h f =
    let same = sym (take-take i j rs (omega arith)) in
    record {
      it = f.it;
      there = get_take rs j i h ∙ f.there;
      full = subst (λ xs. length (records_at f.it.from xs) ≡ most_steps) same f.full;
      few_before = subst AllFew same f.few_before;
    }

one_wrong : (n : ℕ) (rs : List Record) (i j : ℕ) → FirstWrong n rs i → FirstWrong n rs j → i ≡ j
one_wrong n rs i j f g =
    ⊎_elim (λ e. e)
    (⊎_elim
    (λ h. not_wrong n (take j rs) i (wrong_in_front n rs i j h f) g.fit_before)
    (λ h. not_wrong n (take i rs) j (wrong_in_front n rs j i h g) f.fit_before))
    (cases_order i j)

one_too_many : (rs : List Record) (i j : ℕ) → FirstTooMany rs i → FirstTooMany rs j → i ≡ j
one_too_many rs i j f g =
    ⊎_elim (λ e. e)
    (⊎_elim
    (λ h. not_too_many (take j rs) i (too_many_in_front rs i j h f) g.few_before)
    (λ h. not_too_many (take i rs) j (too_many_in_front rs j i h g) f.few_before))
    (cases_order i j)

-- at most one answer's condition holds
pub one_answer : (n start : ℕ) (rs : List Record) (q r : Result (Unit {0}) TableFault) → TableAnswers n start rs q → TableAnswers n start rs r → q ≡ r
one_answer n start rs (Ok u) (Ok v) a b = refl
one_answer n start rs (Ok u) (Err LocationCount) a b = no_count n a.0 b
one_answer n start rs (Ok u) (Err StartMissing) a b = no_start n start a.1 b.1
one_answer n start rs (Ok u) (Err (WrongRecord j)) a b = not_wrong n rs j b.2 a.2
one_answer n start rs (Ok u) (Err (TooManySteps j)) a b = not_too_many rs j b.3 a.3
one_answer n start rs (Err LocationCount) (Ok v) a b = no_count n b.0 a
one_answer n start rs (Err LocationCount) (Err LocationCount) a b = refl
one_answer n start rs (Err LocationCount) (Err StartMissing) a b = no_count n b.0 a
one_answer n start rs (Err LocationCount) (Err (WrongRecord j)) a b = no_count n b.0 a
one_answer n start rs (Err LocationCount) (Err (TooManySteps j)) a b = no_count n b.0 a
one_answer n start rs (Err StartMissing) (Ok v) a b = no_start n start b.1 a.1
one_answer n start rs (Err StartMissing) (Err LocationCount) a b = no_count n a.0 b
one_answer n start rs (Err StartMissing) (Err StartMissing) a b = refl
one_answer n start rs (Err StartMissing) (Err (WrongRecord j)) a b = no_start n start b.1 a.1
one_answer n start rs (Err StartMissing) (Err (TooManySteps j)) a b = no_start n start b.1 a.1
one_answer n start rs (Err (WrongRecord i)) (Ok v) a b = not_wrong n rs i a.2 b.2
one_answer n start rs (Err (WrongRecord i)) (Err LocationCount) a b = no_count n a.0 b
one_answer n start rs (Err (WrongRecord i)) (Err StartMissing) a b = no_start n start a.1 b.1
one_answer n start rs (Err (WrongRecord i)) (Err (WrongRecord j)) a b = ap (λ k. Err (WrongRecord k)) (one_wrong n rs i j a.2 b.2)
one_answer n start rs (Err (WrongRecord i)) (Err (TooManySteps j)) a b = not_wrong n rs i a.2 b.2
one_answer n start rs (Err (TooManySteps i)) (Ok v) a b = not_too_many rs i a.3 b.3
one_answer n start rs (Err (TooManySteps i)) (Err LocationCount) a b = no_count n a.0 b
one_answer n start rs (Err (TooManySteps i)) (Err StartMissing) a b = no_start n start a.1 b.1
one_answer n start rs (Err (TooManySteps i)) (Err (WrongRecord j)) a b = not_wrong n rs j b.2 a.2
one_answer n start rs (Err (TooManySteps i)) (Err (TooManySteps j)) a b = ap (λ k. Err (TooManySteps k)) (one_too_many rs i j a.3 b.3)
