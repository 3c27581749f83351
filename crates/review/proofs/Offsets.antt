-- Faults stand at their offsets.
use Rattle.std.proofs.Common.{◌≡◌, ℕ, ◌+◌, ◌≤◌, List, ◌∷◌, ◌++◌, [], length, drop, sym, refl, ap, subst, ◌∙◌, arith, append_assoc, length-append}
use Rattle.std.proofs.lemmas.Grind.{flat_map-append}
use Rattle.std.proofs.lemmas.List.{drop-append-le}
use Rattle.std.proofs.Math.Seq.{drop-append-add, drop-append_seam}
use Rattle.readers.specs.declared.listing.command.Command as listed
use Rattle.readers.specs.declared.listing.fault.Wrong.{Wrong}
use Rattle.readers.specs.declared.listing.fault.Wrong.TheVariants as wrong
use Rattle.readers.specs.Encoding.{two_bytes}
use Rattle.readers.specs.Encoding as listings
use Rattle.readers.specs.Refusals.{Refused, WrongBytes}
use Rattle.review.specs.declared.file.fault.FileFault.TheVariants.{TooLong, EndsEarly, NotAllowed, InLeft, InRight, InNames}
use Rattle.review.specs.Commands.{Command, left, right, rename, kind_of, written, encode, header}
use Rattle.review.specs.Limits.{most_bytes, counted}
use Rattle.review.specs.Offsets.{InSection, FaultsStandAtTheirOffsets}
use Rattle.review.specs.Order.{phase_behind}
use Rattle.review.specs.declared.file.phase.Phase.TheVariants.{BeforeLeft}
use Rattle.review.specs.Reviews.{Front, FaultIn}
use Rattle.review.specs.Taking.{Forbidden}

-- the fault of a listing stands in its bytes, or at their end

in_bytes : (w : Wrong) (bs : List ℕ) (at : ℕ) → WrongBytes w bs at → at ≤ length bs
in_bytes w bs at h =
    let long = ap length h.split in
    let sum = length-append (listings.encode h.before) h.rest in
    let place = h.place in
    omega arith

in_run : (bs : List ℕ) (cs front back : List listed.Command) (at : ℕ) → bs ≡ listings.encode cs → cs ≡ front ++ back → at ≡ length (listings.encode front) → at ≤ length bs
in_run bs cs front back at whole split place =
    let long = ap length (whole ∙ ap listings.encode split ∙ flat_map-append listings.written front back) in
    let sum = length-append (listings.encode front) (listings.encode back) in
    omega arith

own_place : (w : Wrong) (bs : List ℕ) (at : ℕ) → Refused w bs at → at ≤ length bs
own_place wrong.NoBytes bs at h = let none = h.1 in omega arith
own_place wrong.TooManyCommands bs at h = in_bytes _ bs at h
own_place (wrong.UnknownCommand b) bs at h = in_bytes _ bs at h
own_place (wrong.CutOff b) bs at h = in_bytes _ bs at h
own_place (wrong.UnknownLock c) bs at h = in_bytes _ bs at h
own_place (wrong.MissingTarget c) bs at h = let o = h.2 in in_run bs h.0 o.front (c ∷ o.back) at h.1.whole o.split o.place
own_place (wrong.RunsOffTheEnd c) bs at h = let o = h.2 in in_run bs h.0 o.front _ at h.1.whole o.split o.place

-- an offset in a file is counted as it is
counted_whole : (n : ℕ) → n ≤ most_bytes → counted n ≡ n
counted_whole n h = omega arith

-- behind the commands in front and the header stand the section and what follows
in_section : (bs : List ℕ) (c : Command) (head section : List ℕ) (place own : ℕ) → FaultIn bs c place → written c ≡ head ++ section → length head ≡ header (kind_of c) → own ≤ length section → length bs ≤ most_bytes → (counted (place + own) ≤ length bs) × InSection bs c section place own (counted (place + own))
in_section bs c head section place own i is width inside short =
    let before = encode i.front ++ head in
    let back = section ++ i.more in
    let whole : bs ≡ before ++ back =
    i.before.split
    ∙ ap (λ xs. encode i.front ++ xs) (i.stands.2 ∙ ap (λ xs. xs ++ i.more) is ∙ append_assoc head section i.more)
    ∙ sym (append_assoc (encode i.front) head back) in
    let there : place ≡ length before = i.there ∙ ap (λ n. length (encode i.front) + n) (sym width) ∙ sym (length-append (encode i.front) head) in
    let long = ap length whole in
    let sum = length-append before back in
    let tail = length-append section i.more in
    let within : place + own ≤ length bs = omega arith in
    let exact : counted (place + own) ≡ length before + own = counted_whole (place + own) (omega arith) ∙ ap (λ n. n + own) there in (
      omega arith,
      record {
        faulty = i;
        inside = inside;
        from_there =
            ap (λ n. drop n bs) exact ∙ ap (drop (length before + own)) whole ∙ drop-append-add before back own
            ∙ drop-append-le own section i.more inside;
      },
    )

pub faults_stand_at_their_offsets : FaultsStandAtTheirOffsets
faults_stand_at_their_offsets bs TooLong says = (omega arith, (refl, says))
faults_stand_at_their_offsets bs (EndsEarly at) says = let is = says.2 in (omega arith, is)
faults_stand_at_their_offsets bs (NotAllowed at) says =
    let at_end = says.1 in
    let front = at_end.2 in
    let rest : drop at bs ≡ at_end.1 = ap (λ n. drop n bs) at_end.4 ∙ ap (drop (length (encode at_end.0))) front.split ∙ drop-append_seam (encode at_end.0) at_end.1 in
    let long = ap length front.split in
    let sum = length-append (encode at_end.0) at_end.1 in
    let is = at_end.4 in
    (omega arith, (at_end.0, subst (Front bs at_end.0) (sym rest) front, subst (Forbidden (phase_behind BeforeLeft at_end.0)) (sym rest) at_end.3))
faults_stand_at_their_offsets bs (InLeft f place) says =
    let s = says.1 in
    let l = s.0 in
    let there = in_section bs (left l) (0x10 ∷ two_bytes (length l)) l place f.at s.1 refl refl (own_place f.wrong l f.at s.2) says.0 in
    (there.0, (l, there.1))
faults_stand_at_their_offsets bs (InRight f place) says =
    let s = says.1 in
    let l = s.0 in
    let there = in_section bs (right l) (0x11 ∷ two_bytes (length l)) l place f.at s.1 refl refl (own_place f.wrong l f.at s.2) says.0 in
    (there.0, (l, there.1))
faults_stand_at_their_offsets bs (InNames f place) says =
    let s = says.1 in
    let ns = s.0 in
    let first = s.2.there in
    let eight = s.1.stands.1 in
    let there = in_section bs (rename ns) (0x13 ∷ []) ns place f.at s.1 refl refl (omega arith) says.0 in
    (there.0, (ns, there.1, omega arith))
