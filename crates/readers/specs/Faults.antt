-- The refusals of a listing.
use Rattle.std.specs.Prelude.{ℕ}
use Rattle.locks.specs.declared.refusals.Part.TheVariants.{Listing}
use Rattle.locks.specs.declared.refusals.Refusal.{Refusal}
use Rattle.readers.specs.declared.listing.fault.Wrong.{Wrong}
use Rattle.readers.specs.declared.listing.fault.Wrong.TheVariants.{NoBytes, TooManyCommands, UnknownCommand, CutOff, UnknownLock, MissingTarget, RunsOffTheEnd}
use Rattle.readers.specs.declared.listing.fault.ListingFault.{ListingFault}

abbrev pub fault : Wrong → ℕ → ListingFault
fault w n = record { wrong = w; at = n }

abbrev pub number : Wrong → ℕ
number NoBytes = 1
number (UnknownCommand b) = 2
number (CutOff b) = 3
number TooManyCommands = 4
number (UnknownLock c) = 5
number (MissingTarget c) = 6
number (RunsOffTheEnd c) = 7

-- the number, the place and the part of a refusal
abbrev pub listing_refusal : ListingFault → Refusal
listing_refusal f = record { number = number f.wrong; place = f.at; part = Listing }
