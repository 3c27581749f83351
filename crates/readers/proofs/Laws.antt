-- Bytes that are read are a well-formed run of commands, written one after another, and each such run is read.
use Rattle.std.specs.Prelude.{◌≡◌, ℕ, ◌+◌, ◌*◌, ◌/◌, ◌%◌, ◌<◌, ◌≤◌, Bool, true, false, cond, not, List, [], ◌∷◌, ◌++◌, length, drop, Ok, Err, Result, refl}
use Rattle.std.proofs.Common.{ap, subst, ◌∙◌, arith, length-append}
use Rattle.std.specs.List.{AllByRecursion}
use Rattle.std.proofs.lemmas.Bool.{cond-true, lt-ltb, and_parts}
use Rattle.locks.specs.Limits.{lock_limit}
use Rattle.readers.specs.declared.listing.command.Command.{Command}
use Rattle.readers.specs.declared.listing.command.Command.TheVariants.{Stop, Pass, Take, Give, Goto, Either}
use Rattle.readers.specs.declared.listing.fault.ListingFault.{ListingFault}
use Rattle.readers.specs.declared.listing.fault.Wrong.TheVariants.{RunsOffTheEnd}
use Rattle.readers.specs.Bytes.{first, width}
use Rattle.readers.specs.Encoding.{written, encode, LockIsKnown, WellFormed, highest}
use Rattle.readers.specs.Faults.{fault}
use Rattle.readers.specs.Flow.{most, inside, goes_on, end_at, flow, all_lead_inside, stops_at_the_end}
use Rattle.readers.specs.Reading.{given, broken, run, or_flow, refusal}
use Rattle.readers.proofs.Steps.{width_some, run_more, broken_more}
use Rattle.readers.proofs.Checks.{refusal_some, listing}
use Rattle.readers.proofs.Accepted.{not_broken, bytes_written, accepted_sound}
use Rattle.readers.proofs.Sizes.{width_written}
use Rattle.readers.specs.FormLaws.{all_inside, stopped, well_formed}

-- a written command is read
pub first_written : (c : Command) (rest : List ℕ) → LockIsKnown c → first highest (written c ++ rest) ≡ Ok c
first_written Stop rest h = refl
first_written Pass rest h = refl
first_written (Take k) rest h = cond-true _ _ _ (lt-ltb k lock_limit h)
first_written (Give k) rest h = cond-true _ _ _ (lt-ltb k lock_limit h)
first_written (Goto t) rest h =
    let is : 256 * (t / 256) + t % 256 ≡ t = omega arith in
    ap (λ x. Ok (Goto x)) is
first_written (Either t u) rest h =
    let is : 256 * (t / 256) + t % 256 ≡ t = omega arith in
    let also : 256 * (u / 256) + u % 256 ≡ u = omega arith in
    ap (λ x. Ok (Either x (256 * (u / 256) + u % 256))) is ∙ ap (λ x. Ok (Either t x)) also

pub drop_written : (c : Command) (rest : List ℕ) → drop (width c) (written c ++ rest) ≡ rest
drop_written Stop rest = refl
drop_written Pass rest = refl
drop_written (Take k) rest = refl
drop_written (Give k) rest = refl
drop_written (Goto t) rest = refl
drop_written (Either t u) rest = refl

pub run_encode : (cs : List Command) → AllByRecursion LockIsKnown cs → run 0 (encode cs) ≡ cs
run_encode [] h = refl
run_encode (c ∷ cs) h =
    run_more (written c ++ encode cs) c (first_written c (encode cs) h.0)
    ∙ ap (λ l. c ∷ l) (ap (run 0) (drop_written c (encode cs)) ∙ run_encode cs h.1)

pub broken_encode : (cs : List Command) (n at : ℕ) → n + length cs ≤ most → AllByRecursion LockIsKnown cs → broken 0 n at (encode cs) ≡ Ok tt
broken_encode [] n at room h = refl
broken_encode (c ∷ cs) n at room h =
    let small : n < most = omega arith in
    let left : n + 1 + length cs ≤ most = omega arith in
    broken_more n at (written c ++ encode cs) c small (first_written c (encode cs) h.0)
    ∙ ap (broken 0 (n + 1) (at + width c)) (drop_written c (encode cs))
    ∙ broken_encode cs (n + 1) (at + width c) left h.1

ends_so : (at : ℕ) (c : Command) → not (goes_on c) ≡ true → end_at at c ≡ Ok tt
ends_so at c = go (goes_on c)
  where
    go : (b : Bool) → not b ≡ true → ◌≡◌ {A = Result (Unit {0}) ListingFault} (cond b (Err (fault (RunsOffTheEnd c) at)) (Ok tt)) (Ok tt)
    go true h = cc
    go false h = refl

flow_so : (n : ℕ) (end : Result (Unit {0}) ListingFault) (at : ℕ) (c : Command) (cs : List Command) → all_lead_inside n (c ∷ cs) ≡ true → stops_at_the_end (c ∷ cs) ≡ true → flow n end at (c ∷ cs) ≡ Ok tt
flow_so n end at c [] h k = cond-true _ _ _ (and_parts (inside n c) _ h).0 ∙ ends_so at c k
flow_so n end at c (d ∷ cs) h k =
    let p = and_parts (inside n c) _ h in
    cond-true _ _ _ p.0 ∙ flow_so n (end_at at c) (at + width c) d cs p.1 k

flow_all : (n : ℕ) (cs : List Command) → all_lead_inside n cs ≡ true → stops_at_the_end cs ≡ true → flow n (Ok tt) 0 cs ≡ Ok tt
flow_all n [] h k = refl
flow_all n (c ∷ cs) h k = flow_so n (Ok tt) 0 c cs h k

some_bytes : (cs : List Command) → 0 < length cs → 0 < length (encode cs)
some_bytes [] h = absurd (omega arith)
some_bytes (c ∷ cs) h =
    let wide = width_some c in
    let long = width_written c in
    let sum = length-append (written c) (encode cs) in
    omega arith

-- of written commands only where they lead is left to ask
pub refusal_encode : (cs : List Command) → 0 < length cs → length cs ≤ most → AllByRecursion LockIsKnown cs → refusal (encode cs) ≡ flow (length cs) (Ok tt) 0 cs
refusal_encode cs some few known =
    refusal_some (encode cs) (some_bytes cs some)
    ∙ ap (λ r. or_flow r (run 0 (encode cs))) (broken_encode cs 0 0 (omega arith) known)
    ∙ ap (λ l. flow (length l) (Ok tt) 0 l) (run_encode cs known)

has_some : (cs : List Command) → stops_at_the_end cs ≡ true → 0 < length cs
has_some [] h = cc
has_some (c ∷ cs) h = omega arith

pub encoded_read : (cs : List Command) → WellFormed cs → listing (encode cs) ≡ Ok cs
encoded_read cs w =
    let e = w.ends in
    let stop : stops_at_the_end cs ≡ true = ap stops_at_the_end e.2 ∙ stopped e.0 e.1 e.3 in
    let fine : refusal (encode cs) ≡ Ok tt =
    refusal_encode cs (has_some cs stop) w.few w.locks_known
    ∙ flow_all (length cs) cs ((all_inside (length cs) cs).1 w.leads_inside) stop in
    ap (λ r. given r (run 0 (encode cs))) fine ∙ ap Ok (run_encode cs w.locks_known)

given_is : {X : Type 0} (r : Result (Unit {0}) ListingFault) (x y : X) → given r x ≡ Ok y → (r ≡ Ok tt) × (x ≡ y)
given_is (Ok u) x y h = (refl, cc)
given_is (Err e) x y h = cc

pub read_encoded : (bs : List ℕ) (cs : List Command) → AllByRecursion (λ b. b < 256) bs → listing bs ≡ Ok cs → (bs ≡ encode cs) × WellFormed cs
read_encoded bs cs a h =
    let p = given_is (refusal bs) (run 0 bs) cs h in (
      bytes_written 0 0 0 bs a (not_broken bs p.0) ∙ ap encode p.1,
      subst WellFormed p.1 ((well_formed (run 0 bs)).0 (accepted_sound bs p.0)),
    )
