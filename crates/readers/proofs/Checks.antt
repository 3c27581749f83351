-- What the two passes of a check say together.
use Rattle.std.specs.Prelude.{◌≡◌, ℕ, ◌<◌, List, [], ◌∷◌, length, Ok, Err, Result, refl}
use Rattle.std.proofs.Common.{◌∙◌, arith}
use Rattle.readers.specs.declared.listing.command.Command.{Command}
use Rattle.readers.specs.declared.listing.fault.ListingFault.{ListingFault}
use Rattle.readers.specs.Flow.{flow}
use Rattle.readers.specs.Reading.{given, broken, run, or_flow, refusal}

pub refusal_some : (bs : List ℕ) → 0 < length bs → refusal bs ≡ or_flow (broken 0 0 0 bs) (run 0 bs)
refusal_some [] h = absurd (omega arith)
refusal_some (b ∷ bs) h = refl

-- where the commands lead, once they are counted
abbrev pub then_flow : List Command → Result ℕ ListingFault → Result (Unit {0}) ListingFault
then_flow cs (Ok n) = flow n (Ok tt) 0 cs
then_flow cs (Err f) = Err f

pub refusal_by_count : (bs : List ℕ) → 0 < length bs → refusal bs ≡ then_flow (run 0 bs) (given (broken 0 0 0 bs) (length (run 0 bs)))
refusal_by_count bs some = refusal_some bs some ∙ go (broken 0 0 0 bs)
  where
    go : (r : Result (Unit {0}) ListingFault) → or_flow r (run 0 bs) ≡ then_flow (run 0 bs) (given r (length (run 0 bs)))
    go (Ok u) = refl
    go (Err f) = refl

-- the commands of the bytes, or why they are refused
abbrev pub listing : List ℕ → Result (List Command) ListingFault
listing bs = given (refusal bs) (run 0 bs)
