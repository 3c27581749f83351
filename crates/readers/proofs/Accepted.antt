-- What is known of bytes that are not refused.
use Rattle.std.specs.Prelude.{◌≡◌, ℕ, zero, suc, pred, ◌+◌, ◌/◌, ◌%◌, ◌<◌, ◌≤◌, Bool, true, false, cond, not, List, [], ◌∷◌, ◌++◌, length, drop, Ok, Err, Result, nat_le, refl}
use Rattle.std.proofs.Common.{sym, ap, subst, ◌∙◌, arith}
use Rattle.std.specs.List.{AllByRecursion}
use Rattle.std.proofs.lemmas.Bool.{cond_both, lt-ltb, le-leb, leb-false, and_from}
use Rattle.locks.specs.Limits.{lock_limit}
use Rattle.readers.specs.declared.listing.command.Command.{Command}
use Rattle.readers.specs.declared.listing.command.Command.TheVariants.{Stop, Pass, Take, Give, Goto, Either}
use Rattle.readers.specs.declared.listing.fault.Wrong.{Wrong}
use Rattle.readers.specs.declared.listing.fault.Wrong.TheVariants.{RunsOffTheEnd}
use Rattle.readers.specs.declared.listing.fault.ListingFault.{ListingFault}
use Rattle.readers.specs.Bytes.{first, width}
use Rattle.readers.specs.Encoding.{written, encode, highest}
use Rattle.readers.specs.Faults.{fault}
use Rattle.readers.specs.Flow.{most, inside, goes_on, command_lock_known, end_at, flow, all_lead_inside, all_locks_known, stops_at_the_end, is_well_formed}
use Rattle.readers.specs.Reading.{go_on, broken, taken, run, or_flow, refusal}
use Rattle.readers.proofs.Spelling.{Spelt, spelt}
use Rattle.readers.proofs.Steps.{width_drop}

pub not_refused : {X : Type 0} (e : ListingFault) → ◌≡◌ {A = Result (Unit {0}) ListingFault} (Err e) (Ok tt) → X
not_refused e h = cc

-- P of a run, from P of no command and of one more
module _ (n at b : ℕ) (bs : List ℕ) (P : List Command → Type 0)
    (more : (c : Command) → first highest (b ∷ bs) ≡ Ok c → n < most → broken (pred (width c)) (suc n) (suc at) bs ≡ Ok tt → P (c ∷ run (pred (width c)) bs)) where
  by_first : (r : Result Command Wrong) → first highest (b ∷ bs) ≡ r → n < most → go_on r at (λ d. broken (pred (width d)) (suc n) (suc at) bs) ≡ Ok tt → P (taken r (λ d. run (pred (width d)) bs))
  by_first (Ok c) e small h = more c e small h
  by_first (Err w) e small h = not_refused (fault w at) h

  -- the first command of a run that is not broken
  by_command : broken 0 n at (b ∷ bs) ≡ Ok tt → P (run 0 (b ∷ bs))
  by_command =
      cond_both (nat_le most n) _ _ (λ r. r ≡ Ok tt → P (run 0 (b ∷ bs)))
      (λ _ h. not_refused _ h)
      (λ t h. by_first (first highest (b ∷ bs)) refl (leb-false most n t) h)

pub few : (s n at : ℕ) (bs : List ℕ) → n ≤ most → broken s n at bs ≡ Ok tt → n + length (run s bs) ≤ most
few s n at [] room h = omega arith
few zero n at (b ∷ bs) room h =
    by_command n at b bs (λ cs. n + length cs ≤ most) (λ c _ small k. let rest = few (pred (width c)) (suc n) (suc at) bs small k in omega arith) h
few (suc s) n at (b ∷ bs) room h = few s n (suc at) bs room h

pub lock_known : (bs : List ℕ) (c : Command) → Spelt bs c → command_lock_known c ≡ true
lock_known bs Stop s = refl
lock_known bs Pass s = refl
lock_known bs (Take k) s = lt-ltb k lock_limit s.2
lock_known bs (Give k) s = lt-ltb k lock_limit s.2
lock_known bs (Goto t) s = refl
lock_known bs (Either t u) s = refl

pub locks_known : (s n at : ℕ) (bs : List ℕ) → broken s n at bs ≡ Ok tt → all_locks_known (run s bs) ≡ true
locks_known s n at [] h = refl
locks_known zero n at (b ∷ bs) h =
    by_command n at b bs (λ cs. all_locks_known cs ≡ true)
    (λ c e _ k. and_from _ _ (lock_known (b ∷ bs) c (spelt (b ∷ bs) c e)) (locks_known (pred (width c)) (suc n) (suc at) bs k)) h
locks_known (suc s) n at (b ∷ bs) h = locks_known s n (suc at) bs h

-- the bytes of a command are those that it was read from
pub spelt_written : (bs : List ℕ) (c : Command) → AllByRecursion (λ b. b < 256) bs → Spelt bs c → bs ≡ written c ++ drop (width c) bs
spelt_written bs Stop a s = rw s.1 refl
spelt_written bs Pass a s = rw s.1 refl
spelt_written bs (Take k) a s = rw s.1 refl
spelt_written bs (Give k) a s = rw s.1 refl
spelt_written bs (Goto t) a s =
    let low = subst (AllByRecursion (λ b. b < 256)) s.3 a in
    let is = s.4 in
    let high : s.1 ≡ t / 256 = omega (arith, low.1.1.0) in
    let rest : s.2 ≡ t % 256 = omega (arith, low.1.1.0) in
    s.3 ∙ ap (λ x. 4 ∷ x ∷ s.2 ∷ s.0) high ∙ ap (λ x. 4 ∷ t / 256 ∷ x ∷ s.0) rest ∙ ap (λ xs. 4 ∷ t / 256 ∷ t % 256 ∷ drop 3 xs) (sym s.3)
spelt_written bs (Either t u) a s =
    let low = subst (AllByRecursion (λ b. b < 256)) s.5 a in
    let is = s.6 in
    let also = s.7 in
    let a₁ : s.1 ≡ t / 256 = omega (arith, low.1.1.0) in
    let a₂ : s.2 ≡ t % 256 = omega (arith, low.1.1.0) in
    let a₃ : s.3 ≡ u / 256 = omega (arith, low.1.1.1.1.0) in
    let a₄ : s.4 ≡ u % 256 = omega (arith, low.1.1.1.1.0) in
    s.5
    ∙ ap (λ x. 5 ∷ x ∷ s.2 ∷ s.3 ∷ s.4 ∷ s.0) a₁
    ∙ ap (λ x. 5 ∷ t / 256 ∷ x ∷ s.3 ∷ s.4 ∷ s.0) a₂
    ∙ ap (λ x. 5 ∷ t / 256 ∷ t % 256 ∷ x ∷ s.4 ∷ s.0) a₃
    ∙ ap (λ x. 5 ∷ t / 256 ∷ t % 256 ∷ u / 256 ∷ x ∷ s.0) a₄
    ∙ ap (λ xs. 5 ∷ t / 256 ∷ t % 256 ∷ u / 256 ∷ u % 256 ∷ drop 5 xs) (sym s.5)

pub bytes_written : (s n at : ℕ) (bs : List ℕ) → AllByRecursion (λ b. b < 256) bs → broken s n at bs ≡ Ok tt → drop s bs ≡ encode (run s bs)
bytes_written zero n at [] a h = refl
bytes_written (suc s) n at [] a h = refl
bytes_written zero n at (b ∷ bs) a h =
    by_command n at b bs (λ cs. b ∷ bs ≡ encode cs)
    (λ c e _ k.
    spelt_written (b ∷ bs) c a (spelt (b ∷ bs) c e)
    ∙ ap (λ xs. written c ++ xs) (width_drop c b bs ∙ bytes_written (pred (width c)) (suc n) (suc at) bs a.1 k)) h
bytes_written (suc s) n at (b ∷ bs) a h = bytes_written s n (suc at) bs a.1 h

-- no command leads outside, and the last one does not lead on
ends_well : (at : ℕ) (c : Command) → end_at at c ≡ Ok tt → not (goes_on c) ≡ true
ends_well at c = go (goes_on c)
  where
    go : (b : Bool) → ◌≡◌ {A = Result (Unit {0}) ListingFault} (cond b (Err (fault (RunsOffTheEnd c) at)) (Ok tt)) (Ok tt) → not b ≡ true
    go true h = not_refused _ h
    go false h = refl

pub flows : (n : ℕ) (end : Result (Unit {0}) ListingFault) (at : ℕ) (c : Command) (cs : List Command) → flow n end at (c ∷ cs) ≡ Ok tt → (all_lead_inside n (c ∷ cs) ≡ true) × (stops_at_the_end (c ∷ cs) ≡ true)
flows n end at c [] =
    cond_both (inside n c) _ _ (λ r. r ≡ Ok tt → (all_lead_inside n (c ∷ []) ≡ true) × (stops_at_the_end (c ∷ []) ≡ true))
    (λ t h. (and_from _ _ t refl, ends_well at c h))
    (λ _ h. not_refused _ h)
flows n end at c (d ∷ cs) =
    cond_both (inside n c) _ _ (λ r. r ≡ Ok tt → (all_lead_inside n (c ∷ d ∷ cs) ≡ true) × (stops_at_the_end (c ∷ d ∷ cs) ≡ true))
    (λ t h. let rest = flows n (end_at at c) (at + width c) d cs h in (and_from _ _ t rest.0, rest.1))
    (λ _ h. not_refused _ h)

pub some_command : (n at b : ℕ) (bs : List ℕ) → broken 0 n at (b ∷ bs) ≡ Ok tt → 0 < length (run 0 (b ∷ bs))
some_command n at b bs h = by_command n at b bs (λ cs. 0 < length cs) (λ c _ _ _. omega arith) h

flows_some : (n : ℕ) (cs : List Command) → 0 < length cs → flow n (Ok tt) 0 cs ≡ Ok tt → (all_lead_inside n cs ≡ true) × (stops_at_the_end cs ≡ true)
flows_some n [] some h = absurd (omega arith)
flows_some n (c ∷ cs) some h = flows n (Ok tt) 0 c cs h

-- neither of the two passes refuses
pub parts : (r : Result (Unit {0}) ListingFault) (cs : List Command) → or_flow r cs ≡ Ok tt → (r ≡ Ok tt) × (flow (length cs) (Ok tt) 0 cs ≡ Ok tt)
parts (Ok u) cs h = (refl, h)
parts (Err e) cs h = not_refused e h

pub not_broken : (bs : List ℕ) → refusal bs ≡ Ok tt → broken 0 0 0 bs ≡ Ok tt
not_broken [] h = not_refused _ h
not_broken (b ∷ bs) h = (parts (broken 0 0 0 (b ∷ bs)) (run 0 (b ∷ bs)) h).0

pub few_commands : (bs : List ℕ) → refusal bs ≡ Ok tt → length (run 0 bs) ≤ most
few_commands bs h = let all = few 0 0 0 bs (omega arith) (not_broken bs h) in omega arith

pub accepted_sound : (bs : List ℕ) → refusal bs ≡ Ok tt → is_well_formed (run 0 bs) ≡ true
accepted_sound [] h = not_refused _ h
accepted_sound (b ∷ bs) h =
    let whole = parts (broken 0 0 0 (b ∷ bs)) (run 0 (b ∷ bs)) h in
    let led = flows_some (length (run 0 (b ∷ bs))) (run 0 (b ∷ bs)) (some_command 0 0 b bs whole.0) whole.1 in
    and_from _ _ (le-leb _ most (few_commands (b ∷ bs) h))
    (and_from _ _ (locks_known 0 0 0 (b ∷ bs) whole.0) (and_from _ _ led.0 led.1))
