-- How a whole listing is read.
use Rattle.std.specs.Prelude.{ℕ, zero, suc, pred, cond, List, [], ◌∷◌, length, Ok, Err, Result, nat_le}
use Rattle.readers.specs.declared.listing.command.Command.{Command}
use Rattle.readers.specs.declared.listing.fault.Wrong.{Wrong}
use Rattle.readers.specs.declared.listing.fault.Wrong.TheVariants.{NoBytes, TooManyCommands}
use Rattle.readers.specs.declared.listing.fault.ListingFault.{ListingFault}
use Rattle.readers.specs.Bytes.{first, width}
use Rattle.readers.specs.Encoding.{highest}
use Rattle.readers.specs.Faults.{fault}
use Rattle.readers.specs.Flow.{most, flow}

abbrev pub given : {X : Type 0} → Result (Unit {0}) ListingFault → X → Result X ListingFault
given (Ok u) x = Ok x
given (Err e) x = Err e

-- what follows a command, or the fault where there is none
abbrev pub go_on : Result Command Wrong → ℕ → (Command → Result (Unit {0}) ListingFault) → Result (Unit {0}) ListingFault
go_on (Ok c) at next = next c
go_on (Err w) at next = Err (fault w at)

-- the first command, from the nth on, that cannot be taken off the bytes. `skip` bytes belong to the command before
abbrev pub broken : ℕ → ℕ → ℕ → List ℕ → Result (Unit {0}) ListingFault
broken skip n at [] = Ok tt
broken zero n at (b ∷ bs) =
    cond (nat_le most n) (Err (fault TooManyCommands at))
    (go_on (first highest (b ∷ bs)) at (λ c. broken (pred (width c)) (suc n) (suc at) bs))
broken (suc skip) n at (b ∷ bs) = broken skip n (suc at) bs

abbrev pub taken : Result Command Wrong → (Command → List Command) → List Command
taken (Ok c) next = c ∷ next c
taken (Err w) next = []

-- the commands up to the first that cannot be taken off
abbrev pub run : ℕ → List ℕ → List Command
run skip [] = []
run zero (b ∷ bs) = taken (first highest (b ∷ bs)) (λ c. run (pred (width c)) bs)
run (suc skip) (b ∷ bs) = run skip bs

abbrev pub or_flow : Result (Unit {0}) ListingFault → List Command → Result (Unit {0}) ListingFault
or_flow (Ok u) cs = flow (length cs) (Ok tt) 0 cs
or_flow (Err e) cs = Err e

-- why the bytes are refused, if they are
abbrev pub refusal : List ℕ → Result (Unit {0}) ListingFault
refusal [] = Err (fault NoBytes 0)
refusal (b ∷ bs) = or_flow (broken 0 0 0 (b ∷ bs)) (run 0 (b ∷ bs))
