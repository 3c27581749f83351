-- The computed test of a run of commands says what the words say.
use Rattle.std.specs.Prelude.{◌≡◌, ℕ, true, not, List, [], ◌∷◌, ◌++◌, length, Decides, nat_le, nat_lt, refl}
use Rattle.std.proofs.Common.{ap, ◌∙◌}
use Rattle.std.specs.List.{AllByRecursion}
use Rattle.std.proofs.lemmas.Bool.{le-leb, leb-true, and_from, and_parts}
use Rattle.std.proofs.lemmas.Bool.Decides.{Decides-ltb, Decides-and}
use Rattle.std.proofs.ByRecursion.{Decides-by_and}
use Rattle.locks.specs.Limits.{lock_limit}
use Rattle.readers.specs.declared.listing.command.Command.{Command}
use Rattle.readers.specs.declared.listing.command.Command.TheVariants.{Stop, Pass, Take, Give, Goto, Either}
use Rattle.readers.specs.Encoding.{LockIsKnown, LeadsInside, MayEnd, WellFormed}
use Rattle.readers.specs.Flow.{most, inside, goes_on, command_lock_known, all_lead_inside, all_locks_known, stops_at_the_end, is_well_formed}

-- the computed tests say what the words say
pub knows_lock : (c : Command) → Decides (command_lock_known c) (LockIsKnown c)
knows_lock Stop = (λ _. tt, λ _. refl)
knows_lock Pass = (λ _. tt, λ _. refl)
knows_lock (Take k) = Decides-ltb k lock_limit
knows_lock (Give k) = Decides-ltb k lock_limit
knows_lock (Goto t) = (λ _. tt, λ _. refl)
knows_lock (Either t u) = (λ _. tt, λ _. refl)

pub leads_in : (n : ℕ) (c : Command) → Decides (inside n c) (LeadsInside n c)
leads_in n Stop = (λ _. tt, λ _. refl)
leads_in n Pass = (λ _. tt, λ _. refl)
leads_in n (Take k) = (λ _. tt, λ _. refl)
leads_in n (Give k) = (λ _. tt, λ _. refl)
leads_in n (Goto t) = Decides-ltb t n
leads_in n (Either t u) = Decides-and (nat_lt t n) (nat_lt u n) (Decides-ltb t n) (Decides-ltb u n)

pub all_locks : (cs : List Command) → Decides (all_locks_known cs) (AllByRecursion LockIsKnown cs)
all_locks = Decides-by_and command_lock_known LockIsKnown all_locks_known knows_lock refl (λ _ _. refl)

pub all_inside : (n : ℕ) (cs : List Command) → Decides (all_lead_inside n cs) (AllByRecursion (LeadsInside n) cs)
all_inside n = Decides-by_and (inside n) (LeadsInside n) (all_lead_inside n) (leads_in n) refl (λ _ _. refl)

pub may_end : (c : Command) → not (goes_on c) ≡ true → MayEnd c
may_end Stop h = tt
may_end Pass h = cc
may_end (Take k) h = cc
may_end (Give k) h = cc
may_end (Goto t) h = tt
may_end (Either t u) h = tt

pub ends_there : (c : Command) → MayEnd c → not (goes_on c) ≡ true
ends_there Stop h = refl
ends_there Pass h = absurd h
ends_there (Take k) h = absurd h
ends_there (Give k) h = absurd h
ends_there (Goto t) h = refl
ends_there (Either t u) h = refl

abbrev Ends : List Command → Type 0
Ends cs = (front : List Command) × (last : Command) × (cs ≡ front ++ last ∷ []) × MayEnd last

stops : (cs : List Command) → stops_at_the_end cs ≡ true → Ends cs
stops [] h = cc
stops (c ∷ []) h = ([], c, refl, may_end c h)
stops (c ∷ d ∷ cs) h =
    let e = stops (d ∷ cs) h in
    (c ∷ e.0, e.1, ap (λ l. c ∷ l) e.2, e.3)

pub stopped : (front : List Command) (last : Command) → MayEnd last → stops_at_the_end (front ++ last ∷ []) ≡ true
stopped [] last h = ends_there last h
stopped (c ∷ []) last h = ends_there last h
stopped (c ∷ d ∷ front) last h = stopped (d ∷ front) last h

-- the computed test is the one that the words give
pub well_formed : (cs : List Command) → Decides (is_well_formed cs) (WellFormed cs)
well_formed cs = (
  λ h.
      let p = and_parts (nat_le (length cs) most) _ h in
      let q = and_parts (all_locks_known cs) _ p.1 in
      let r = and_parts (all_lead_inside (length cs) cs) (stops_at_the_end cs) q.1 in
      record {
        few = leb-true _ _ p.0;
        locks_known = (all_locks cs).0 q.0;
        leads_inside = (all_inside (length cs) cs).0 r.0;
        ends = stops cs r.1;
      },
  λ w.
      let e = w.ends in
      and_from _ _ (le-leb _ _ w.few)
      (and_from _ _ ((all_locks cs).1 w.locks_known)
      (and_from _ _ ((all_inside (length cs) cs).1 w.leads_inside) (ap stops_at_the_end e.2 ∙ stopped e.0 e.1 e.3))),
)
