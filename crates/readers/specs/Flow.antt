-- Where the commands of a run lead.
use Rattle.std.specs.Prelude.{ℕ, ◌+◌, Bool, true, false, cond, not, ◌&&◌, List, [], ◌∷◌, length, Ok, Err, Result, nat_le, nat_lt}
use Rattle.locks.specs.Limits.{lock_limit, most_locations}
use Rattle.readers.specs.declared.listing.command.Command.{Command}
use Rattle.readers.specs.declared.listing.command.Command.TheVariants.{Stop, Pass, Take, Give, Goto, Either}
use Rattle.readers.specs.declared.listing.fault.Wrong.{Wrong}
use Rattle.readers.specs.declared.listing.fault.Wrong.TheVariants.{UnknownLock, MissingTarget, RunsOffTheEnd}
use Rattle.readers.specs.declared.listing.fault.ListingFault.{ListingFault}
use Rattle.readers.specs.Bytes.{width}
use Rattle.readers.specs.Faults.{fault}

-- a listing has at most so many commands
abbrev pub most : ℕ
most = most_locations

-- each target is one of n commands
abbrev pub inside : ℕ → Command → Bool
inside n Stop = true
inside n Pass = true
inside n (Take k) = true
inside n (Give k) = true
inside n (Goto t) = nat_lt t n
inside n (Either t u) = nat_lt t n && nat_lt u n

-- the command leads on to the next one
abbrev pub goes_on : Command → Bool
goes_on Stop = false
goes_on Pass = true
goes_on (Take k) = true
goes_on (Give k) = true
goes_on (Goto t) = false
goes_on (Either t u) = false

-- the lock is one that there is
abbrev pub command_lock_known : Command → Bool
command_lock_known Stop = true
command_lock_known Pass = true
command_lock_known (Take k) = nat_lt k lock_limit
command_lock_known (Give k) = nat_lt k lock_limit
command_lock_known (Goto t) = true
command_lock_known (Either t u) = true

-- the command, where its lock is one that there is
abbrev pub with_known_lock : Command → Result Command Wrong
with_known_lock c = cond (command_lock_known c) (Ok c) (Err (UnknownLock c))

-- what a run that ends with the command c at this offset is refused for
abbrev pub end_at : ℕ → Command → Result (Unit {0}) ListingFault
end_at at c = cond (goes_on c) (Err (fault (RunsOffTheEnd c) at)) (Ok tt)

-- the first command that leads to no command, else what the last one is refused for: `end` if there is none
abbrev pub flow : ℕ → Result (Unit {0}) ListingFault → ℕ → List Command → Result (Unit {0}) ListingFault
flow n end at [] = end
flow n end at (c ∷ cs) = cond (inside n c) (flow n (end_at at c) (at + width c) cs) (Err (fault (MissingTarget c) at))

abbrev pub all_lead_inside : ℕ → List Command → Bool
all_lead_inside n [] = true
all_lead_inside n (c ∷ cs) = inside n c && all_lead_inside n cs

abbrev pub all_locks_known : List Command → Bool
all_locks_known [] = true
all_locks_known (c ∷ cs) = command_lock_known c && all_locks_known cs

-- there is a last command, and it does not lead on
abbrev pub stops_at_the_end : List Command → Bool
stops_at_the_end [] = false
stops_at_the_end (c ∷ []) = not (goes_on c)
stops_at_the_end (c ∷ d ∷ cs) = stops_at_the_end (d ∷ cs)

abbrev pub is_well_formed : List Command → Bool
is_well_formed cs = nat_le (length cs) most && (all_locks_known cs && (all_lead_inside (length cs) cs && stops_at_the_end cs))
