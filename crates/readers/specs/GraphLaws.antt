-- The graph of a well-formed run of commands keeps the bounds, and its questions are answered command by command.
use Rattle.std.specs.Prelude.{◌≡◌, ℕ, zero, suc, ◌+◌, ◌<◌, ◌≤◌, ◌⊎◌, List, [], ◌∷◌, length, get_or, Option, Some, None, MatchOption, nat_lt, slice_index_or, refl}
use Rattle.std.proofs.Common.{zero-add, arith, inl, inr, ⊎_elim, sym, ap, subst, ◌∙◌}
use Rattle.std.proofs.ByRecursion.{All-get_or}
use Rattle.std.proofs.lemmas.List.{get_or_past, get_or_push, length_push}
use Rattle.std.proofs.lemmas.Bool.{cases_Bool, cases_lt, cond-true, cond-false, ltb-true, ltb-false}
use Rattle.std.specs.List.{slice_get}
use Rattle.locks.specs.declared.steps.Kind.TheVariants as kind
use Rattle.locks.specs.declared.steps.Step.{Step}
use Rattle.locks.specs.Graphs.{Graph, Bounded, StepFits, locations, steps_at, step_at}
use Rattle.locks.specs.Limits.{lock_limit}
use Rattle.readers.specs.declared.listing.command.Command.{Command}
use Rattle.readers.specs.declared.listing.command.Command.TheVariants.{Stop, Pass, Take, Give, Goto, Either}
use Rattle.readers.specs.Encoding.{WellFormed, LockIsKnown, LeadsInside, MayEnd}
use Rattle.readers.specs.Graph.{plain_to, steps_of, steps_from, listing_graph}
use Rattle.readers.specs.Place.{command_at}

pub length_steps : (n : ℕ) (cs : List Command) → length (steps_from n cs) ≡ length cs
length_steps n [] = refl
length_steps n (c ∷ cs) = ap suc (length_steps (n + 1) cs)

steps_there : (n i : ℕ) (cs : List Command) (d : Command) → i < length cs → slice_index_or (steps_from n cs) i [] ≡ steps_of (n + i) (slice_index_or cs i d)
steps_there n i [] d h = absurd (omega arith)
steps_there n zero (c ∷ cs) d h = ap (λ m. steps_of m c) (let e : n ≡ n + 0 = omega arith in e)
steps_there n (suc i) (c ∷ cs) d h =
    steps_there (n + 1) i cs d (omega arith) ∙ ap (λ m. steps_of m (slice_index_or cs i d)) (let e : (n + 1) + i ≡ n + suc i = omega arith in e)

pub steps_here : (i : ℕ) (cs : List Command) (d : Command) → i < length cs → steps_at (listing_graph cs) i ≡ steps_of i (slice_index_or cs i d)
steps_here i cs d h = steps_there 0 i cs d h ∙ ap (λ m. steps_of m (slice_index_or cs i d)) (zero-add i)

pub steps_outside : (i : ℕ) (cs : List Command) → length cs ≤ i → steps_at (listing_graph cs) i ≡ []
steps_outside i cs h = get_or_past (steps_from 0 cs) i [] (let l = length_steps 0 cs in omega arith)

-- what the look-up of a command says

pub command_there : (cs : List Command) (n : ℕ) (c : Command) → Some c ≡ command_at cs n → (n < length cs) × (c ≡ slice_index_or cs n Stop)
command_there cs n c e =
    ⊎_elim
    (λ t. let q = cond-true (nat_lt n (length cs)) (Some (slice_index_or cs n Stop)) None t in
    (ltb-true n (length cs) t, (let same : c ≡ get_or cs n Stop = cc in same)))
    (λ f. let q = cond-false (nat_lt n (length cs)) (Some (slice_index_or cs n Stop)) None f in cc)
    (cases_Bool (nat_lt n (length cs)))

pub command_missing : (cs : List Command) (n : ℕ) → None ≡ command_at cs n → length cs ≤ n
command_missing cs n e =
    ⊎_elim
    (λ t. let q = cond-true (nat_lt n (length cs)) (Some (slice_index_or cs n Stop)) None t in cc)
    (λ f. ltb-false n (length cs) f)
    (cases_Bool (nat_lt n (length cs)))

-- the steps of a command at its location

pub found_steps : (cs : List Command) (n : ℕ) (c : Command) → Some c ≡ command_at cs n → steps_of n c ≡ steps_at (listing_graph cs) n
found_steps cs n c e =
    let p = command_there cs n c e in
    ap (steps_of n) p.1 ∙ sym (steps_here n cs Stop p.0)

pub missing_steps : (cs : List Command) (n : ℕ) → None ≡ command_at cs n → [] ≡ steps_at (listing_graph cs) n
missing_steps cs n e = sym (steps_outside n cs (command_missing cs n e))

-- how many steps there are at a location, from the command that is looked up there
pub counted_steps : (cs : List Command) (n r : ℕ) (o : Option Command) → o ≡ command_at cs n → MatchOption o (r ≡ 0) (λ c. (m : ℕ) → r ≡ length (steps_of m c)) → r ≡ length (steps_at (listing_graph cs) n)
counted_steps cs n r (Some c) e h = h n ∙ ap length (found_steps cs n c e)
counted_steps cs n r None e h = h ∙ ap length (missing_steps cs n e)

-- the bounds

two_at_most : (n : ℕ) (c : Command) → length (steps_of n c) ≤ 16
two_at_most n Stop = omega arith
two_at_most n Pass = omega arith
two_at_most n (Take k) = omega arith
two_at_most n (Give k) = omega arith
two_at_most n (Goto t) = omega arith
two_at_most n (Either t u) = omega arith

-- a command that leads on is not the last
leads_on : (cs : List Command) → WellFormed cs → (i : ℕ) → i < length cs → (MayEnd (slice_index_or cs i Stop) → ⊥) → i + 1 < length cs
leads_on cs w i h no_end =
    let front = w.ends.0 in
    let last = w.ends.1 in
    let is = w.ends.2 in
    let l : length cs ≡ length front + 1 = ap length is ∙ length_push front last in
    ⊎_elim
    (λ k. k)
    (λ k. absurd (no_end (subst MayEnd (sym (ap (λ xs. get_or xs i Stop) is ∙ get_or_push front last Stop i (omega arith))) w.ends.3)))
    (cases_lt (i + 1) (length cs))

only : (s t : Step) (n : ℕ) → slice_get (s ∷ []) n ≡ Some t → s ≡ t
only s t zero e = cc
only s t (suc n) e = cc

either : (s u t : Step) (n : ℕ) → slice_get (s ∷ u ∷ []) n ≡ Some t → (s ≡ t) ⊎ (u ≡ t)
either s u t zero e = inl (let r : s ≡ t = cc in r)
either s u t (suc n) e = inr (only u t n e)

plain_fits : (G : Graph) (t : ℕ) → t < locations G → StepFits G (plain_to t)
plain_fits G t h = record { target_there = h; lock_there = omega arith; plain_without = λ _. refl }

take_fits : (G : Graph) (k t : ℕ) → k < lock_limit → t < locations G → StepFits G (record { kind = kind.Take; lock = k; target = t })
take_fits G k t l h = record { target_there = h; lock_there = l; plain_without = λ e. cc }

give_fits : (G : Graph) (k t : ℕ) → k < lock_limit → t < locations G → StepFits G (record { kind = kind.Give; lock = k; target = t })
give_fits G k t l h = record { target_there = h; lock_there = l; plain_without = λ e. cc }

command_fits : (G : Graph) (i m : ℕ) (c : Command) (n : ℕ) (s : Step) → locations G ≡ m → LockIsKnown c → LeadsInside m c → ((MayEnd c → ⊥) → i + 1 < m) → slice_get (steps_of i c) n ≡ Some s → StepFits G s
command_fits G i m Stop n s l k t o e = cc
command_fits G i m Pass n s l k t o e = subst (StepFits G) (only _ s n e) (plain_fits G (i + 1) (let h = o (λ x. x) in omega arith))
command_fits G i m (Take j) n s l k t o e = subst (StepFits G) (only _ s n e) (take_fits G j (i + 1) k (let h = o (λ x. x) in omega arith))
command_fits G i m (Give j) n s l k t o e = subst (StepFits G) (only _ s n e) (give_fits G j (i + 1) k (let h = o (λ x. x) in omega arith))
command_fits G i m (Goto u) n s l k t o e = subst (StepFits G) (only _ s n e) (plain_fits G u (omega arith))
command_fits G i m (Either u v) n s l k t o e =
    ⊎_elim
    (λ q. subst (StepFits G) q (plain_fits G u (let h = t.0 in omega arith)))
    (λ q. subst (StepFits G) q (plain_fits G v (let h = t.1 in omega arith)))
    (either _ _ s n e)

few_at : (cs : List Command) (l : ℕ) → length (steps_at (listing_graph cs) l) ≤ 16
few_at cs l =
    ⊎_elim
    (λ h. subst (λ xs. length xs ≤ 16) (sym (steps_here l cs Stop h)) (two_at_most l (slice_index_or cs l Stop)))
    (λ h. subst (λ xs. length xs ≤ 16) (sym (steps_outside l cs h)) (let z : 0 ≤ 16 = omega arith in z))
    (cases_lt l (length cs))

fits_at : (cs : List Command) → WellFormed cs → (l n : ℕ) (s : Step) → step_at (listing_graph cs) l n ≡ Some s → StepFits (listing_graph cs) s
fits_at cs w l n s e =
    ⊎_elim
    (λ h. command_fits (listing_graph cs) l (length cs) (slice_index_or cs l Stop) n s (length_steps 0 cs)
    (All-get_or LockIsKnown cs l Stop h w.locks_known) (All-get_or (LeadsInside (length cs)) cs l Stop h w.leads_inside) (leads_on cs w l h)
    (ap (λ xs. slice_get xs n) (sym (steps_here l cs Stop h)) ∙ e))
    (λ h. let q = ap (λ xs. slice_get xs n) (sym (steps_outside l cs h)) ∙ e in cc)
    (cases_lt l (length cs))

pub listing_bounded : (cs : List Command) → WellFormed cs → Bounded (listing_graph cs)
listing_bounded cs w =
    let l = length_steps 0 cs in
    let m : length cs ≡ length w.ends.0 + 1 = ap length w.ends.2 ∙ length_push w.ends.0 w.ends.1 in
    let few = w.few in
    record {
      not_empty = omega arith;
      few_locations = omega arith;
      start_there = omega arith;
      few_steps = few_at cs;
      steps_fit = fits_at cs w;
    }
