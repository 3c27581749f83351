-- What the place of a listing holds.
use Rattle.std.specs.Prelude.{ℕ, cond, List, length, Some, None, vec_items, Option, nat_lt, slice_index_or}
use Rattle.readers.specs.declared.listing.command.Command.{Command}
use Rattle.readers.specs.declared.listing.command.Command.TheVariants.{Stop}
use Rattle.readers.specs.declared.listing.place.Listing.{Listing}

abbrev pub commands_in : Listing → List Command
commands_in l = vec_items l.commands

abbrev pub command_at : List Command → ℕ → Option Command
command_at cs n = cond (nat_lt n (length cs)) (Some (slice_index_or cs n Stop)) None
