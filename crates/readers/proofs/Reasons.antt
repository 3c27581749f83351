-- Each refusal and its reason.
use Rattle.std.proofs.Common.{◌≡◌, ℕ, zero, suc, ◌+◌, ◌<◌, ◌≤◌, List, [], ◌∷◌, ◌++◌, length, Ok, Err, Result, sym, refl, ap, ◌∙◌, subst, append_assoc, arith, length-append}
use Rattle.std.specs.List.{AllByRecursion}
use Rattle.std.proofs.lemmas.Bool.{cond-true, cond-false, lt-ltb}
use Rattle.std.proofs.lemmas.Bool.Decides.{Decides-ltb}
use Rattle.locks.specs.Limits.{lock_limit}
use Rattle.readers.specs.declared.listing.command.Command.{Command}
use Rattle.readers.specs.declared.listing.command.Command.TheVariants.{Stop, Pass, Take, Give, Goto, Either}
use Rattle.readers.specs.declared.listing.fault.Wrong.{Wrong}
use Rattle.readers.specs.declared.listing.fault.Wrong.TheVariants.{NoBytes, TooManyCommands, UnknownCommand, CutOff, UnknownLock, MissingTarget, RunsOffTheEnd}
use Rattle.readers.specs.declared.listing.fault.ListingFault.{ListingFault}
use Rattle.readers.specs.Bytes.{first, width}
use Rattle.readers.specs.Encoding.{written, encode, LockIsKnown, LeadsInside, highest}
use Rattle.readers.specs.Faults.{fault}
use Rattle.readers.specs.Flow.{most, flow}
use Rattle.readers.specs.Reading.{given, broken, run, or_flow, refusal}
use Rattle.readers.specs.Refusals.{operands, WrongBytes, WholeRun, Refused}
use Rattle.readers.proofs.Steps.{width_some, broken_more, broken_many, broken_wrong}
use Rattle.readers.proofs.Checks.{refusal_some, listing}
use Rattle.readers.proofs.Accepted.{few, some_command, bytes_written, locks_known}
use Rattle.readers.specs.FormLaws.{all_locks}
use Rattle.readers.proofs.Laws.{first_written, drop_written, refusal_encode}
use Rattle.readers.proofs.Leading.{led_some, led_refused, flow_outside, flow_on}
use Rattle.readers.proofs.Sizes.{width_written, false_from, same_fault}
use Rattle.readers.proofs.Stuck.{stuck, stuck_refused}

given_fault : {X : Type 0} (r : Result (Unit {0}) ListingFault) (x : X) (f : ListingFault) → given r x ≡ Err f → r ≡ Err f
given_fault (Ok u) x f h = cc
given_fault (Err e) x f h = ap Err (same_fault e f h)

told_some : (b : ℕ) (bs : List ℕ) (f : ListingFault) → AllByRecursion (λ x. x < 256) (b ∷ bs) → (r : Result (Unit {0}) ListingFault) → broken 0 0 0 (b ∷ bs) ≡ r → or_flow r (run 0 (b ∷ bs)) ≡ Err f → Refused f.wrong (b ∷ bs) f.at
told_some b bs f small (Ok u) e h =
    let some = some_command 0 0 b bs e in
    let count = few 0 0 0 (b ∷ bs) (omega arith) e in
    let whole : WholeRun (b ∷ bs) (run 0 (b ∷ bs)) =
    record {
      some = some;
      few = omega arith;
      whole = bytes_written 0 0 0 (b ∷ bs) small e;
      locks_known = (all_locks (run 0 (b ∷ bs))).0 (locks_known 0 0 0 (b ∷ bs) e);
    } in
    led_refused f.wrong (b ∷ bs) (run 0 (b ∷ bs)) f.at whole (led_some (length (run 0 (b ∷ bs))) (run 0 (b ∷ bs)) f some h)
told_some b bs f small (Err g) e h =
    stuck_refused f.wrong (b ∷ bs) f.at
    (stuck 0 0 0 (b ∷ bs) f (omega arith) small (e ∙ ap Err (same_fault g f h)))

pub told : (bs : List ℕ) (f : ListingFault) → AllByRecursion (λ b. b < 256) bs → listing bs ≡ Err f → Refused f.wrong bs f.at
told [] f small h = subst (λ g. Refused g.wrong [] g.at) (same_fault (fault NoBytes 0) f h) (refl, refl)
told (b ∷ bs) f small h =
    told_some b bs f small (broken 0 0 0 (b ∷ bs)) refl (given_fault (refusal (b ∷ bs)) (run 0 (b ∷ bs)) f h)

-- the other way: whole commands are passed over
broken_behind : (cs : List Command) (rest : List ℕ) (n at : ℕ) → n + length cs ≤ most → AllByRecursion LockIsKnown cs → broken 0 n at (encode cs ++ rest) ≡ broken 0 (n + length cs) (at + length (encode cs)) rest
broken_behind [] rest n at room known =
    let a : n ≡ n + 0 = omega arith in
    let b : at ≡ at + 0 = omega arith in
    ap (λ m. broken 0 m at rest) a ∙ ap (λ p. broken 0 (n + 0) p rest) b
broken_behind (c ∷ cs) rest n at room known =
    let small : n < most = omega arith in
    let left : n + 1 + length cs ≤ most = omega arith in
    let long = width_written c in
    let sum = length-append (written c) (encode cs) in
    let count : n + 1 + length cs ≡ n + length (c ∷ cs) = omega arith in
    let there : at + width c + length (encode cs) ≡ at + length (encode (c ∷ cs)) = omega arith in
    ap (broken 0 n at) (append_assoc (written c) (encode cs) rest)
    ∙ broken_more n at (written c ++ (encode cs ++ rest)) c small (first_written c (encode cs ++ rest) known.0)
    ∙ ap (broken 0 (n + 1) (at + width c)) (drop_written c (encode cs ++ rest))
    ∙ broken_behind cs rest (n + 1) (at + width c) left known.1
    ∙ ap (λ m. broken 0 m (at + width c + length (encode cs)) rest) count
    ∙ ap (λ p. broken 0 (n + length (c ∷ cs)) p rest) there

refused_bytes : (bs : List ℕ) (e : ListingFault) → 0 < length bs → broken 0 0 0 bs ≡ Err e → refusal bs ≡ Err e
refused_bytes bs e some h = refusal_some bs some ∙ ap (λ r. or_flow r (run 0 bs)) h

-- what is wrong behind whole commands is what the bytes are refused for
behind : (w : Wrong) (bs : List ℕ) (place : ℕ) → (i : WrongBytes w bs place) → length i.before ≤ most → 0 < length i.rest → ((n : ℕ) → n ≡ length i.before → broken 0 n place i.rest ≡ Err (fault w place)) → refusal bs ≡ Err (fault w place)
behind w bs place i room some stops =
    let long = length-append (encode i.before) i.rest in
    let same = ap length i.split in
    let count : 0 + length i.before ≡ length i.before = omega arith in
    let where' = i.place in
    let there : 0 + length (encode i.before) ≡ place = omega arith in
    refused_bytes bs (fault w place) (omega arith)
    (ap (broken 0 0 0) i.split
    ∙ broken_behind i.before i.rest 0 0 (omega arith) i.locks_known
    ∙ ap (λ p. broken 0 (0 + length i.before) p i.rest) there
    ∙ stops (0 + length i.before) count)

-- where the first command of the rest cannot be taken off
behind_first : (w : Wrong) (bs : List ℕ) (place : ℕ) (i : WrongBytes w bs place) → length i.before < most → 0 < length i.rest → first highest i.rest ≡ Err w → refusal bs ≡ Err (fault w place)
behind_first w bs place i few some e =
    behind w bs place i (omega arith) some (λ n same. broken_wrong n place i.rest w some (omega arith) e)

six : (P : ℕ → Type 0) → P 0 → P 1 → P 2 → P 3 → P 4 → P 5 → (b : ℕ) → b ≤ highest → P b
six P a₀ a₁ a₂ a₃ a₄ a₅ zero h = a₀
six P a₀ a₁ a₂ a₃ a₄ a₅ (suc zero) h = a₁
six P a₀ a₁ a₂ a₃ a₄ a₅ (suc (suc zero)) h = a₂
six P a₀ a₁ a₂ a₃ a₄ a₅ (suc (suc (suc zero))) h = a₃
six P a₀ a₁ a₂ a₃ a₄ a₅ (suc (suc (suc (suc zero)))) h = a₄
six P a₀ a₁ a₂ a₃ a₄ a₅ (suc (suc (suc (suc (suc zero))))) h = a₅
six P a₀ a₁ a₂ a₃ a₄ a₅ (suc (suc (suc (suc (suc (suc b)))))) h = absurd (omega arith)

abbrev Cut : ℕ → Type 0
Cut b = (more : List ℕ) → length more < operands b → first highest (b ∷ more) ≡ Err (CutOff b)

cut_lock : (b : ℕ) → operands b ≡ 1 → first highest (b ∷ []) ≡ Err (CutOff b) → Cut b
cut_lock b one e [] h = e
cut_lock b one e (k ∷ more) h = absurd (omega arith)

cut_goto : Cut 4
cut_goto [] h = refl
cut_goto (x ∷ []) h = refl
cut_goto (x ∷ y ∷ more) h = absurd (omega arith)

cut_either : Cut 5
cut_either [] h = refl
cut_either (x ∷ []) h = refl
cut_either (x ∷ y ∷ []) h = refl
cut_either (x ∷ y ∷ z ∷ []) h = refl
cut_either (x ∷ y ∷ z ∷ u ∷ more) h = absurd (omega arith)

cut : (b : ℕ) → b ≤ highest → Cut b
cut = six Cut (λ more h. absurd (omega arith)) (λ more h. absurd (omega arith)) (cut_lock 2 refl refl) (cut_lock 3 refl refl) cut_goto cut_either

unknown_lock : (c : Command) (more : List ℕ) → (LockIsKnown c → ⊥) → first highest (written c ++ more) ≡ Err (UnknownLock c)
unknown_lock Stop more h = absurd (h tt)
unknown_lock Pass more h = absurd (h tt)
unknown_lock (Take k) more h = cond-false _ _ _ (false_from _ (Decides-ltb k lock_limit) h)
unknown_lock (Give k) more h = cond-false _ _ _ (false_from _ (Decides-ltb k lock_limit) h)
unknown_lock (Goto t) more h = absurd (h tt)
unknown_lock (Either t u) more h = absurd (h tt)

some_in : (b : ℕ) (more rest : List ℕ) → rest ≡ b ∷ more → 0 < length rest
some_in b more rest e = omega (arith, ap length e)

some_written : (c : Command) (more rest : List ℕ) → rest ≡ written c ++ more → 0 < length rest
some_written c more rest e = omega (arith, ap length e, length-append (written c) more, width_written c, width_some c)

whole_refusal : (bs : List ℕ) (cs : List Command) → WholeRun bs cs → refusal bs ≡ flow (length cs) (Ok tt) 0 cs
whole_refusal bs cs w = ap refusal w.whole ∙ refusal_encode cs w.some w.few w.locks_known

only_so : (w : Wrong) (bs : List ℕ) (place : ℕ) → Refused w bs place → refusal bs ≡ Err (fault w place)
only_so NoBytes bs place h = ap refusal h.0 ∙ ap (λ p. Err (fault NoBytes p)) (sym h.1)
only_so TooManyCommands bs place i =
    let x = i.wrong in
    let full = x.0 in
    behind TooManyCommands bs place i (omega arith) x.1 (λ n e. broken_many n place i.rest x.1 (omega arith))
only_so (UnknownCommand b) bs place i =
    let x = i.wrong in
    behind_first (UnknownCommand b) bs place i x.0 (some_in b x.1.0 i.rest x.1.1) (ap (first highest) x.1.1 ∙ cond-true _ _ _ (lt-ltb highest b x.1.2))
only_so (CutOff b) bs place i =
    let x = i.wrong in
    behind_first (CutOff b) bs place i x.0 (some_in b x.1.0 i.rest x.1.1) (ap (first highest) x.1.1 ∙ cut b x.1.2 x.1.0 x.1.3)
only_so (UnknownLock c) bs place i =
    let x = i.wrong in
    behind_first (UnknownLock c) bs place i x.0 (some_written c x.1.0 i.rest x.1.1) (ap (first highest) x.1.1 ∙ unknown_lock c x.1.0 x.1.2)
only_so (MissingTarget c) bs place h =
    let cs = h.0 in
    let o = h.2 in
    let at = o.place in
    let there : 0 + length (encode o.front) ≡ place = omega arith in
    whole_refusal bs cs h.1
    ∙ ap (flow (length cs) (Ok tt) 0) o.split
    ∙ flow_outside (length cs) (Ok tt) 0 o.front c o.back o.inside_before o.missing
    ∙ ap (λ p. Err (fault (MissingTarget c) p)) there
only_so (RunsOffTheEnd c) bs place h =
    let cs = h.0 in
    let o = h.2 in
    let at = o.place in
    let there : 0 + length (encode o.front) ≡ place = omega arith in
    whole_refusal bs cs h.1
    ∙ ap (flow (length cs) (Ok tt) 0) o.split
    ∙ flow_on (length cs) (Ok tt) 0 o.front c (subst (AllByRecursion (LeadsInside (length cs))) o.split o.all_inside) o.on
    ∙ ap (λ p. Err (fault (RunsOffTheEnd c) p)) there

pub only : (bs : List ℕ) (f : ListingFault) → Refused f.wrong bs f.at → listing bs ≡ Err f
only bs f h = ap (λ r. given r (run 0 bs)) (only_so f.wrong bs f.at h)
