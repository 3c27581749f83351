-- Small facts that the proofs on refusals share.
use Rattle.std.proofs.Common.{◌≡◌, length, Bool, true, false, Decides, Err, Result, refl}
use Rattle.readers.specs.declared.listing.command.Command.{Command}
use Rattle.readers.specs.declared.listing.command.Command.TheVariants.{Stop, Pass, Take, Give, Goto, Either}
use Rattle.readers.specs.declared.listing.fault.ListingFault.{ListingFault}
use Rattle.readers.specs.Bytes.{width}
use Rattle.readers.specs.Encoding.{written}

pub width_written : (c : Command) → length (written c) ≡ width c
width_written Stop = refl
width_written Pass = refl
width_written (Take k) = refl
width_written (Give k) = refl
width_written (Goto t) = refl
width_written (Either t u) = refl

pub false_from : {P : Type 0} (r : Bool) → Decides r P → (P → ⊥) → r ≡ false
false_from true d h = absurd (h (d.0 refl))
false_from false d h = refl

pub same_fault : {X : Type 0} (e f : ListingFault) → ◌≡◌ {A = Result X ListingFault} (Err e) (Err f) → e ≡ f
same_fault e f h = cc
