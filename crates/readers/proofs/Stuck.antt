-- Where bytes stop being commands.
use Rattle.std.proofs.Common.{◌≡◌, ℕ, zero, suc, pred, ◌+◌, ◌<◌, ◌≤◌, leb, List, [], ◌∷◌, ◌++◌, length, drop, Ok, Err, Result, sym, refl, ap, ◌∙◌, subst, append_assoc, arith, length-append}
use Rattle.std.specs.List.{AllByRecursion}
use Rattle.std.proofs.lemmas.Bool.{cond_both, leb-true, leb-false}
use Rattle.readers.specs.declared.listing.command.Command.{Command}
use Rattle.readers.specs.declared.listing.fault.Wrong.{Wrong}
use Rattle.readers.specs.declared.listing.fault.Wrong.TheVariants.{NoBytes, TooManyCommands, UnknownCommand, CutOff, UnknownLock, MissingTarget, RunsOffTheEnd}
use Rattle.readers.specs.declared.listing.fault.ListingFault.{ListingFault}
use Rattle.readers.specs.Bytes.{first, width}
use Rattle.readers.specs.Encoding.{written, encode, LockIsKnown, highest}
use Rattle.readers.specs.Faults.{fault}
use Rattle.readers.specs.Flow.{most}
use Rattle.readers.specs.Reading.{go_on, broken}
use Rattle.readers.specs.Refusals.{WrongThere, WrongBytes, Refused}
use Rattle.readers.proofs.Spelling.{spelt}
use Rattle.readers.proofs.Steps.{width_some, width_drop}
use Rattle.readers.proofs.Accepted.{lock_known, spelt_written}
use Rattle.readers.specs.FormLaws.{knows_lock}
use Rattle.readers.proofs.Failing.{first_fails}
use Rattle.readers.proofs.Sizes.{width_written, same_fault}

-- whole commands, and then what is wrong
pub record Stuck (w : Wrong) (xs : List ℕ) (n at place : ℕ) : Type 0 where
  before : List Command
  rest : List ℕ
  split : xs ≡ encode before ++ rest
  known : AllByRecursion LockIsKnown before
  there : place ≡ at + length (encode before)
  wrong : WrongThere w (n + length before) rest

here : (w : Wrong) (b : ℕ) (bs : List ℕ) (n at : ℕ) (f : ListingFault) → fault w at ≡ f → WrongThere w n (b ∷ bs) → Stuck f.wrong (b ∷ bs) n (at + 0) f.at
here w b bs n at f e h =
    let same : n ≡ n + 0 = omega arith in
    subst (λ g. Stuck g.wrong (b ∷ bs) n (at + 0) g.at) e
    (record { before = []; rest = b ∷ bs; split = refl; known = tt; there = omega arith; wrong = subst (λ m. WrongThere w m (b ∷ bs)) same h })

stuck_more : (b : ℕ) (bs : List ℕ) (n at : ℕ) (f : ListingFault) (c : Command) → AllByRecursion (λ x. x < 256) (b ∷ bs) → first highest (b ∷ bs) ≡ Ok c → Stuck f.wrong (drop (pred (width c)) bs) (suc n) (suc at + pred (width c)) f.at → Stuck f.wrong (b ∷ bs) n (at + 0) f.at
stuck_more b bs n at f c small e i =
    let wide = width_some c in
    let long = width_written c in
    let sum = length-append (written c) (encode i.before) in
    let place = i.there in
    let count : suc n + length i.before ≡ n + length (c ∷ i.before) = omega arith in
    record {
      before = c ∷ i.before;
      rest = i.rest;
      split =
          spelt_written (b ∷ bs) c small (spelt (b ∷ bs) c e)
          ∙ ap (λ xs. written c ++ xs) (width_drop c b bs ∙ i.split)
          ∙ sym (append_assoc (written c) (encode i.before) i.rest);
      known = ((knows_lock c).0 (lock_known (b ∷ bs) c (spelt (b ∷ bs) c e)), i.known);
      there = omega arith;
      wrong = subst (λ m. WrongThere f.wrong m i.rest) count i.wrong;
    }

-- the ways in which the first command can be refused
by_wrong : (n at b : ℕ) (bs : List ℕ) (f : ListingFault) (P : Type 0) → ((c : Command) → first highest (b ∷ bs) ≡ Ok c → n < most → broken (pred (width c)) (suc n) (suc at) bs ≡ Err f → P) → ((w : Wrong) → WrongThere w n (b ∷ bs) → fault w at ≡ f → P) → n ≤ most → broken 0 n at (b ∷ bs) ≡ Err f → P
by_wrong n at b bs f P more stop room =
    cond_both (leb most n) _ _ (λ r. r ≡ Err f → P)
    (λ y h. let full = leb-true most n y in stop TooManyCommands (omega arith, omega arith) (same_fault _ f h))
    (λ out h. go (first highest (b ∷ bs)) refl (leb-false most n out) h)
  where
    go : (r : Result Command Wrong) → first highest (b ∷ bs) ≡ r → n < most → go_on r at (λ d. broken (pred (width d)) (suc n) (suc at) bs) ≡ Err f → P
    go (Ok c) e small h = more c e small h
    go (Err w) e small h = stop w (first_fails b bs w e n small) (same_fault _ f h)

pub stuck : (s n at : ℕ) (bs : List ℕ) (f : ListingFault) → n ≤ most → AllByRecursion (λ x. x < 256) bs → broken s n at bs ≡ Err f → Stuck f.wrong (drop s bs) n (at + s) f.at
stuck s n at [] f room small h = cc
stuck zero n at (b ∷ bs) f room small h =
    by_wrong n at b bs f (Stuck f.wrong (b ∷ bs) n (at + 0) f.at)
    (λ c e low k. stuck_more b bs n at f c small e (stuck (pred (width c)) (suc n) (suc at) bs f low small.1 k))
    (λ w there e. here w b bs n at f e there) room h
stuck (suc s) n at (b ∷ bs) f room small h =
    let along : suc at + s ≡ at + suc s = omega arith in
    subst (λ a. Stuck f.wrong (drop s bs) n a f.at) along (stuck s n (suc at) bs f room small.1 h)

wrong_bytes : (w : Wrong) (bs : List ℕ) (place : ℕ) → Stuck w bs 0 0 place → WrongBytes w bs place
wrong_bytes w bs place i =
    let count : 0 + length i.before ≡ length i.before = omega arith in
    let at = i.there in
    record {
      before = i.before;
      rest = i.rest;
      split = i.split;
      locks_known = i.known;
      place = omega arith;
      wrong = subst (λ m. WrongThere w m i.rest) count i.wrong;
    }

pub stuck_refused : (w : Wrong) (bs : List ℕ) (place : ℕ) → Stuck w bs 0 0 place → Refused w bs place
stuck_refused NoBytes bs place i = absurd i.wrong
stuck_refused TooManyCommands bs place i = wrong_bytes TooManyCommands bs place i
stuck_refused (UnknownCommand b) bs place i = wrong_bytes (UnknownCommand b) bs place i
stuck_refused (CutOff b) bs place i = wrong_bytes (CutOff b) bs place i
stuck_refused (UnknownLock c) bs place i = wrong_bytes (UnknownLock c) bs place i
stuck_refused (MissingTarget c) bs place i = absurd i.wrong
stuck_refused (RunsOffTheEnd c) bs place i = absurd i.wrong
