-- Where a run leads outside, or on past its end.
use Rattle.std.proofs.Common.{◌≡◌, ℕ, ◌+◌, ◌<◌, Bool, true, false, cond, not, List, [], ◌∷◌, ◌++◌, length, Ok, Err, Result, refl, ap, ◌∙◌, subst, arith, length-append}
use Rattle.std.specs.List.{AllByRecursion}
use Rattle.std.proofs.lemmas.Bool.{cond_both, cond-true, cond-false}
use Rattle.std.proofs.lemmas.Bool.Decides.{not_from_Decides}
use Rattle.readers.specs.declared.listing.command.Command.{Command}
use Rattle.readers.specs.declared.listing.command.Command.TheVariants.{Stop, Pass, Take, Give, Goto, Either}
use Rattle.readers.specs.declared.listing.fault.Wrong.{Wrong}
use Rattle.readers.specs.declared.listing.fault.Wrong.TheVariants.{NoBytes, TooManyCommands, UnknownCommand, CutOff, UnknownLock, MissingTarget, RunsOffTheEnd}
use Rattle.readers.specs.declared.listing.fault.ListingFault.{ListingFault}
use Rattle.readers.specs.Bytes.{width}
use Rattle.readers.specs.Encoding.{written, encode, LeadsInside, MayEnd}
use Rattle.readers.specs.Faults.{fault}
use Rattle.readers.specs.Flow.{inside, goes_on, end_at, flow}
use Rattle.readers.specs.Reading.{run}
use Rattle.readers.specs.Refusals.{WholeRun, Refused}
use Rattle.readers.specs.FormLaws.{leads_in, ends_there}
use Rattle.readers.proofs.Sizes.{width_written, false_from, same_fault}

-- from the offset `at` on, the first command that leads outside is c
abbrev pub Outside : ℕ → ℕ → Command → List Command → ℕ → Type 0
Outside n at c cs place =
    (front : List Command) × (back : List Command) × (cs ≡ front ++ c ∷ back)
    × (place ≡ at + length (encode front)) × AllByRecursion (LeadsInside n) front × (LeadsInside n c → ⊥)

-- none leads outside, and the last one is c and leads on
abbrev pub On : ℕ → ℕ → Command → List Command → ℕ → Type 0
On n at c cs place =
    (front : List Command) × (cs ≡ front ++ c ∷ [])
    × (place ≡ at + length (encode front)) × AllByRecursion (LeadsInside n) cs × (MayEnd c → ⊥)

abbrev pub Led : Wrong → ℕ → ℕ → List Command → ℕ → Type 0
Led NoBytes n at cs place = ⊥
Led TooManyCommands n at cs place = ⊥
Led (UnknownCommand b) n at cs place = ⊥
Led (CutOff b) n at cs place = ⊥
Led (UnknownLock c) n at cs place = ⊥
Led (MissingTarget c) n at cs place = Outside n at c cs place
Led (RunsOffTheEnd c) n at cs place = On n at c cs place

further : (c : Command) (front : List Command) (at place : ℕ) → place ≡ at + width c + length (encode front) → place ≡ at + length (encode (c ∷ front))
further c front at place e =
    let long = width_written c in
    let sum = length-append (written c) (encode front) in
    omega arith

led_more : (w : Wrong) (n at : ℕ) (c : Command) (cs : List Command) (place : ℕ) → LeadsInside n c → Led w n (at + width c) cs place → Led w n at (c ∷ cs) place
led_more NoBytes n at c cs place fine h = absurd h
led_more TooManyCommands n at c cs place fine h = absurd h
led_more (UnknownCommand b) n at c cs place fine h = absurd h
led_more (CutOff b) n at c cs place fine h = absurd h
led_more (UnknownLock d) n at c cs place fine h = absurd h
led_more (MissingTarget d) n at c cs place fine h =
    (c ∷ h.0, h.1, ap (λ l. c ∷ l) h.2, further c h.0 at place h.3, (fine, h.4), h.5)
led_more (RunsOffTheEnd d) n at c cs place fine h =
    (c ∷ h.0, ap (λ l. c ∷ l) h.1, further c h.0 at place h.2, (fine, h.3), h.4)

no_end : (c : Command) → goes_on c ≡ true → MayEnd c → ⊥
no_end c h m = let e = ends_there c m in let f : not (goes_on c) ≡ false = ap not h in cc

led_end : (n at : ℕ) (c : Command) (f : ListingFault) → LeadsInside n c → end_at at c ≡ Err f → Led f.wrong n at (c ∷ []) f.at
led_end n at c f fine = go (goes_on c) refl
  where
    go : (b : Bool) → goes_on c ≡ b → ◌≡◌ {A = Result (Unit {0}) ListingFault} (cond b (Err (fault (RunsOffTheEnd c) at)) (Ok tt)) (Err f) → Led f.wrong n at (c ∷ []) f.at
    go true e h =
        subst (λ g. Led g.wrong n at (c ∷ []) g.at) (same_fault _ f h)
        ([], refl, omega arith, (fine, tt), no_end c e)
    go false e h = cc

led_out : (n at : ℕ) (c : Command) (cs : List Command) (f : ListingFault) → inside n c ≡ false → ◌≡◌ {A = Result (Unit {0}) ListingFault} (Err (fault (MissingTarget c) at)) (Err f) → Led f.wrong n at (c ∷ cs) f.at
led_out n at c cs f out h =
    subst (λ g. Led g.wrong n at (c ∷ cs) g.at) (same_fault _ f h)
    ([], cs, refl, omega arith, tt, not_from_Decides (inside n c) (leads_in n c) out)

led : (n : ℕ) (end : Result (Unit {0}) ListingFault) (at : ℕ) (c : Command) (cs : List Command) (f : ListingFault) → flow n end at (c ∷ cs) ≡ Err f → Led f.wrong n at (c ∷ cs) f.at
led n end at c [] f =
    cond_both (inside n c) _ _ (λ r. r ≡ Err f → Led f.wrong n at (c ∷ []) f.at)
    (λ y h. led_end n at c f ((leads_in n c).0 y) h) (λ out h. led_out n at c [] f out h)
led n end at c (d ∷ cs) f =
    cond_both (inside n c) _ _ (λ r. r ≡ Err f → Led f.wrong n at (c ∷ d ∷ cs) f.at)
    (λ y h. led_more f.wrong n at c (d ∷ cs) f.at ((leads_in n c).0 y) (led n (end_at at c) (at + width c) d cs f h))
    (λ out h. led_out n at c (d ∷ cs) f out h)

pub led_some : (n : ℕ) (cs : List Command) (f : ListingFault) → 0 < length cs → flow n (Ok tt) 0 cs ≡ Err f → Led f.wrong n 0 cs f.at
led_some n [] f some h = absurd (omega arith)
led_some n (c ∷ cs) f some h = led n (Ok tt) 0 c cs f h

pub led_refused : (w : Wrong) (bs : List ℕ) (cs : List Command) (place : ℕ) → WholeRun bs cs → Led w (length cs) 0 cs place → Refused w bs place
led_refused NoBytes bs cs place run h = absurd h
led_refused TooManyCommands bs cs place run h = absurd h
led_refused (UnknownCommand b) bs cs place run h = absurd h
led_refused (CutOff b) bs cs place run h = absurd h
led_refused (UnknownLock c) bs cs place run h = absurd h
led_refused (MissingTarget c) bs cs place run h =
    let there = h.3 in
    (cs, run, record { front = h.0; back = h.1; split = h.2; place = omega arith; inside_before = h.4; missing = h.5 })
led_refused (RunsOffTheEnd c) bs cs place run h =
    let there = h.2 in
    (cs, run, record { front = h.0; split = h.1; place = omega arith; all_inside = h.3; on = h.4 })

pub flow_outside : (n : ℕ) (end : Result (Unit {0}) ListingFault) (at : ℕ) (front : List Command) (c : Command) (back : List Command) → AllByRecursion (LeadsInside n) front → (LeadsInside n c → ⊥) → flow n end at (front ++ c ∷ back) ≡ Err (fault (MissingTarget c) (at + length (encode front)))
flow_outside n end at [] c back fine out =
    let there : at ≡ at + 0 = omega arith in
    cond-false _ _ _ (false_from (inside n c) (leads_in n c) out) ∙ ap (λ p. Err (fault (MissingTarget c) p)) there
flow_outside n end at (d ∷ front) c back fine out =
    cond-true _ _ _ ((leads_in n d).1 fine.0)
    ∙ flow_outside n (end_at at d) (at + width d) front c back fine.1 out
    ∙ ap (λ p. Err (fault (MissingTarget c) p)) (further d front at (at + width d + length (encode front)) refl)

leads_on : (at : ℕ) (c : Command) → (MayEnd c → ⊥) → end_at at c ≡ Err (fault (RunsOffTheEnd c) at)
leads_on at Stop h = absurd (h tt)
leads_on at Pass h = refl
leads_on at (Take k) h = refl
leads_on at (Give k) h = refl
leads_on at (Goto t) h = absurd (h tt)
leads_on at (Either t u) h = absurd (h tt)

pub flow_on : (n : ℕ) (end : Result (Unit {0}) ListingFault) (at : ℕ) (front : List Command) (c : Command) → AllByRecursion (LeadsInside n) (front ++ c ∷ []) → (MayEnd c → ⊥) → flow n end at (front ++ c ∷ []) ≡ Err (fault (RunsOffTheEnd c) (at + length (encode front)))
flow_on n end at [] c fine out =
    let there : at ≡ at + 0 = omega arith in
    cond-true _ _ _ ((leads_in n c).1 fine.0) ∙ leads_on at c out ∙ ap (λ p. Err (fault (RunsOffTheEnd c) p)) there
flow_on n end at (d ∷ front) c fine out =
    cond-true _ _ _ ((leads_in n d).1 fine.0)
    ∙ flow_on n (end_at at d) (at + width d) front c fine.1 out
    ∙ ap (λ p. Err (fault (RunsOffTheEnd c) p)) (further d front at (at + width d + length (encode front)) refl)
