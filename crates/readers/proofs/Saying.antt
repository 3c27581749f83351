-- What bytes say in the subject's words is what `listing` computes.
use Rattle.std.proofs.Common.{◌≡◌, ℕ, ◌<◌, List, get_or, Fits, w8, arith, Ok, Err, Result, sym, refl, ap, ◌∙◌}
use Rattle.std.specs.List.{AllByRecursion}
use Rattle.std.proofs.ByRecursion.{All-from_get_or}
use Rattle.readers.specs.declared.listing.command.Command.{Command}
use Rattle.readers.specs.declared.listing.fault.ListingFault.{ListingFault}
use Rattle.readers.specs.Reading.{given, run, refusal}
use Rattle.readers.proofs.Checks.{listing}
use Rattle.readers.specs.Saying.{ListingSays, read_as, Stays, ListingRead, BytesSayOneListing}
use Rattle.readers.proofs.Laws.{encoded_read, read_encoded}
use Rattle.readers.proofs.Reasons.{told, only}

pub says_listing : (bs : List ℕ) (q : Result (List Command) ListingFault) → ListingSays bs q → listing bs ≡ q
says_listing bs (Ok cs) h = ap listing h.0 ∙ encoded_read cs h.1
says_listing bs (Err f) h = only bs f h

pub listing_says : (bs : List ℕ) (q : Result (List Command) ListingFault) → AllByRecursion (λ b. b < 256) bs → listing bs ≡ q → ListingSays bs q
listing_says bs (Ok cs) small e = read_encoded bs cs small e
listing_says bs (Err f) small e = told bs f small e

pub one_listing : (bs : List ℕ) (q r : Result (List Command) ListingFault) → ListingSays bs q → ListingSays bs r → q ≡ r
one_listing bs q r h k = sym (says_listing bs q h) ∙ says_listing bs r k

pub bytes_say_one_listing_lem : BytesSayOneListing
bytes_say_one_listing_lem = record { some = λ bs small. (listing bs, listing_says bs (listing bs) small refl); only = one_listing }

-- a reading that answers and leaves what `listing` computes
module _ (bytes : List ℕ) (fits : (i : ℕ) → Fits w8 (get_or bytes i 0)) where
  small : AllByRecursion (λ b. b < 256) bytes
  small = All-from_get_or (λ b. b < 256) bytes 0 (λ i _. let h = fits i in omega arith)

  as_listing : (before : List Command) (r : Result (Unit {0}) ListingFault) (after : List Command) → listing bytes ≡ read_as r after → Stays r before after → ListingRead bytes before r after
  as_listing before r after e s = record {
    says = listing_says bytes (read_as r after) small e;
    only = λ q h. sym (says_listing bytes q h) ∙ e;
    stays = s;
  }

  pub read_accepted : (before after : List Command) → Ok tt ≡ refusal bytes → after ≡ run 0 bytes → ListingRead bytes before (Ok tt) after
  read_accepted before after h filled =
      as_listing before (Ok tt) after (ap (λ r. given r (run 0 bytes)) (sym h) ∙ ap Ok (sym filled)) tt

  pub read_refused : (before : List Command) (f : ListingFault) → Err f ≡ refusal bytes → ListingRead bytes before (Err f) before
  read_refused before f h = as_listing before (Err f) before (ap (λ r. given r (run 0 bytes)) (sym h)) refl
