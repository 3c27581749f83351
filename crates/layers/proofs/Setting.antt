-- Which numbers are accepted as names.
use Rattle.std.proofs.Common.{◌≡◌, ℕ, ◌+◌, ◌<◌, ◌≤◌, cond, ltb, true, false, List, length, Ok, Err, Result, sym, refl, ap, subst, ◌∙◌, inl, inr, ⊎_elim, arith}
use Rattle.std.proofs.lemmas.Bool.{cond-true, cases_lt, cases_order, lt-ltb}
use Rattle.std.proofs.lemmas.Bool.Decides.{eqb_tells}
use Rattle.std.proofs.lemmas.List.{get_or_default}
use Rattle.locks.specs.declared.sets.LockSet.{LockSet}
use Rattle.locks.specs.Limits.{lock_limit}
use Rattle.locks.specs.Sets.{none, has, add}
use Rattle.locks.proofs.SetLaws.{has_none, has_add_same, has_add_other}
use Rattle.layers.specs.declared.names.fault.NamesFault.{NamesFault}
use Rattle.layers.specs.Naming.{FirstWrong, NumbersAnswer, NamesHaveEachNumberOnce, EachRenamingIsAccepted, numbers_in}
use Rattle.layers.specs.Numbers.{EachOnce, Wrong, number_at, number_of}
use Rattle.layers.proofs.EachOnce.{each_there}

-- none of the numbers before this place is wrong
abbrev pub Right : List ℕ → ℕ → Type 0
Right ns at = (k : ℕ) → k < at → Wrong ns k → ⊥

-- the set has just the numbers before this place
pub record Seen (ns : List ℕ) (at : ℕ) (s : LockSet) : Type 0 where
  pub stood : (n : ℕ) → has n s ≡ true → (j : ℕ) × (j < at) × (number_at ns j ≡ n)
  pub noted : (j : ℕ) → j < at → has (number_at ns j) s ≡ true

no_member : {X : Type 0} (n : ℕ) (s : LockSet) → has n s ≡ true → has n s ≡ false → X
no_member n s t f = let q : true ≡ false = sym t ∙ f in cc

pub seen_none : (ns : List ℕ) → Seen ns 0 none
seen_none ns = record { stood = λ n t. no_member n none t (has_none n); noted = λ j h. absurd (omega arith) }

pub seen_more : (ns : List ℕ) (at : ℕ) (s : LockSet) → Seen ns at s → Seen ns (at + 1) (add (number_at ns at) s)
seen_more ns at s seen = record {
  stood = λ n t. ⊎_elim
      (λ e. (at, omega arith, e.1))
      (λ e. let b = seen.stood n (sym (has_add_other n (number_at ns at) s (λ q. e.1 (sym q))) ∙ t) in (b.0, (let h = b.1 in let r : b.0 < at + 1 = omega arith in r), b.2))
      (eqb_tells (number_at ns at) n);
  noted = λ j h. ⊎_elim
      (λ low. ⊎_elim
      (λ e. ap (λ n. has n (add (number_at ns at) s)) (sym e.1) ∙ has_add_same (number_at ns at) s)
      (λ e. has_add_other (number_at ns j) (number_at ns at) s (λ q. e.1 (sym q)) ∙ seen.noted j low)
      (eqb_tells (number_at ns at) (number_at ns j)))
      (λ high. ap (λ k. has (number_at ns k) (add (number_at ns at) s)) (let r : j ≡ at = omega arith in r) ∙ has_add_same (number_at ns at) s)
      (cases_lt j at);
}

-- the set after the next number was noted in it
pub seen_next : (ns : List ℕ) (at : ℕ) (s t : LockSet) → number_at ns at < lock_limit → t ≡ cond (ltb (number_at ns at) lock_limit) (add (number_at ns at) s) s → Seen ns at s → Seen ns (at + 1) t
seen_next ns at s t h is seen = rw (is ∙ cond-true (ltb (number_at ns at) lock_limit) (add (number_at ns at) s) s (lt-ltb _ _ h)) (seen_more ns at s seen)

pub right_next : (ns : List ℕ) (at : ℕ) (s : LockSet) → number_at ns at < lock_limit → has (number_at ns at) s ≡ false → Seen ns at s → Right ns at → Right ns (at + 1)
right_next ns at s h new seen right k low wrong = ⊎_elim (λ q. right k q wrong) (λ q. here (let r : k ≡ at = omega arith in r) wrong) (cases_lt k at)
  where
    here : k ≡ at → Wrong ns k → ⊥
    here e (inl w) = let same = ap (number_at ns) e in omega arith
    here e (inr w) =
        let noted = seen.noted w.0 (let q = w.1 in omega arith) in
        no_member (number_at ns at) s (ap (λ n. has n s) (sym (w.2 ∙ ap (number_at ns) e)) ∙ noted) new

pub wrong_by_size : (ns : List ℕ) (at : ℕ) → at < length ns → lock_limit ≤ number_at ns at → Right ns at → FirstWrong ns at
wrong_by_size ns at h big right = record { there = h; wrong = inl big; right_before = right }

pub wrong_by_repeating : (ns : List ℕ) (at : ℕ) (s : LockSet) → at < length ns → has (number_at ns at) s ≡ true → Seen ns at s → Right ns at → FirstWrong ns at
wrong_by_repeating ns at s h old seen right = record { there = h; wrong = inr (seen.stood (number_at ns at) old); right_before = right }

-- numbers of which none is wrong

known : (ns : List ℕ) → Right ns lock_limit → (k : ℕ) → k < lock_limit → number_at ns k < lock_limit
known ns right k h = ⊎_elim (λ low. low) (λ high. absurd (right k h (inl high))) (cases_lt (number_at ns k) lock_limit)

apart : (ns : List ℕ) → Right ns lock_limit → (j k : ℕ) → j < lock_limit → k < lock_limit → number_at ns j ≡ number_at ns k → j ≡ k
apart ns right j k h i e =
    ⊎_elim (λ q. q)
    (⊎_elim
    (λ q. absurd (right k i (inr (j, q, e))))
    (λ q. absurd (right j h (inr (k, q, sym e)))))
    (cases_order j k)

pub each_once : (ns : List ℕ) → length ns ≡ lock_limit → Right ns (length ns) → EachOnce ns
each_once ns many right =
    let all = subst (Right ns) many right in
    record { as_many = many; locks = known ns all; apart = apart ns all }

-- at most one answer's condition holds

one_place : (ns : List ℕ) (i j : ℕ) → FirstWrong ns i → FirstWrong ns j → i ≡ j
one_place ns i j f g =
    ⊎_elim (λ q. q)
    (⊎_elim (λ q. absurd (g.right_before i q f.wrong)) (λ q. absurd (f.right_before j q g.wrong)))
    (cases_order i j)

pub one_answer : (ns : List ℕ) (q r : Result (Unit {0}) NamesFault) → NumbersAnswer ns q → NumbersAnswer ns r → q ≡ r
one_answer ns (Ok u) (Ok v) a b = refl
one_answer ns (Ok u) (Err f) a b = absurd (a f.at b.there b.wrong)
one_answer ns (Err f) (Ok v) a b = absurd (b f.at a.there a.wrong)
one_answer ns (Err f) (Err g) a b = ap (λ k. Err (record { at = k })) (one_place ns f.at g.at a b)

-- names hold each number once

named : (ns : List ℕ) (k : ℕ) → EachOnce ns → k < lock_limit → number_of ns k ≡ number_at ns k
named ns k e h = let many = e.as_many in get_or_default ns k k 0 (omega arith)

pub names_have_each_number_once : NamesHaveEachNumberOnce
names_have_each_number_once n m h =
    let ns = numbers_in n in
    let once = n.each_once in
    let at = each_there lock_limit (number_at ns) (record { low = once.locks; apart = once.apart }) m h in (
      at.0,
      (at.1, named ns at.0 once at.1 ∙ at.2),
      λ j has. once.apart j at.0 has.0 at.1 (sym (named ns j once has.0) ∙ has.1 ∙ sym at.2),
    )

none_wrong : (ns : List ℕ) → EachOnce ns → (k : ℕ) → k < lock_limit → Wrong ns k → ⊥
none_wrong ns e k h (inl big) = let low = e.locks k h in omega arith
none_wrong ns e k h (inr w) = let lt = w.1 in let same = e.apart w.0 k (omega arith) h w.2 in omega arith

pub each_renaming_is_accepted : EachRenamingIsAccepted
each_renaming_is_accepted = record {
  accepted = λ ns e k h. none_wrong ns e k (let many = e.as_many in omega arith);
  no_other = λ ns many right. each_once ns many right;
}
