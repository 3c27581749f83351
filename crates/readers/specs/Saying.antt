-- What bytes say of a listing, and what a reading of them answers and leaves.
use Rattle.std.specs.Prelude.{◌≡◌, ℕ, ◌<◌, List, Ok, Err, Result}
use Rattle.std.specs.List.{AllByRecursion}
use Rattle.readers.specs.declared.listing.command.Command.{Command}
use Rattle.readers.specs.declared.listing.fault.ListingFault.{ListingFault}
use Rattle.readers.specs.Encoding.{encode, WellFormed}
use Rattle.readers.specs.Refusals.{Refused}

-- bytes say a run of commands where they are that run, well formed, written out; or they have the reason of a refusal
abbrev pub ListingSays : List ℕ → Result (List Command) ListingFault → Type 0
ListingSays bs (Ok cs) = (bs ≡ encode cs) × WellFormed cs
ListingSays bs (Err f) = Refused f.wrong bs f.at

-- an answer beside what the place then holds
abbrev pub read_as : Result (Unit {0}) ListingFault → List Command → Result (List Command) ListingFault
read_as (Ok u) cs = Ok cs
read_as (Err f) cs = Err f

-- a refusal leaves the place as it was
abbrev pub Stays : Result (Unit {0}) ListingFault → List Command → List Command → Type 0
Stays (Ok u) before after = Unit {0}
Stays (Err f) before after = after ≡ before

-- the answer is the one that the bytes have, they have no other, and a refusal leaves the place as it was
pub record ListingRead (bytes : List ℕ) (before : List Command) (r : Result (Unit {0}) ListingFault) (after : List Command) : Type 0 where
  pub says : ListingSays bytes (read_as r after)
  pub only : (q : Result (List Command) ListingFault) → ListingSays bytes q → q ≡ read_as r after
  pub stays : Stays r before after

-- each list of bytes says a run of commands or has a refusal, and no list of numbers has two of these
pub record BytesSayOneListing : Type 0 where
  pub some : (bs : List ℕ) → AllByRecursion (λ b. b < 256) bs → (q : Result (List Command) ListingFault) × ListingSays bs q
  pub only : (bs : List ℕ) (q r : Result (List Command) ListingFault) → ListingSays bs q → ListingSays bs r → q ≡ r
