-- The commands of bytes, each at its offset.
use Rattle.std.specs.Prelude.{ℕ, zero, suc, pred, List, [], ◌∷◌, Ok, Err, Result}
use Rattle.readers.specs.declared.listing.command.Command.{Command}
use Rattle.readers.specs.declared.listing.commands.Commands.{Commands}
use Rattle.readers.specs.declared.listing.fault.ListingFault.{ListingFault}
use Rattle.readers.specs.declared.listing.fault.Wrong.{Wrong}
use Rattle.readers.specs.Bytes.{first, width}
use Rattle.readers.specs.Encoding.{highest}
use Rattle.readers.specs.Faults.{fault}

-- an offset, with the command there or its fault
abbrev pub Item : Type 0
Item = ℕ × Result Command ListingFault

-- a command and the items behind it, or a fault alone
abbrev pub item_then : ℕ → Result Command Wrong → (Command → List Item) → List Item
item_then at (Ok c) behind = (at, Ok c) ∷ behind c
item_then at (Err w) behind = (at, Err (fault w at)) ∷ []

-- the items from the offset `at` on, up to the first fault. `skip` bytes belong to the command before
abbrev pub items_from : ℕ → ℕ → List ℕ → List Item
items_from skip at [] = []
items_from zero at (b ∷ bs) = item_then at (first highest (b ∷ bs)) (λ c. items_from (pred (width c)) (suc at) bs)
items_from (suc skip) at (b ∷ bs) = items_from skip (suc at) bs

-- the items that are still to come
abbrev pub items_left : Commands → List Item
items_left s = items_from 0 s.at s.rest.now
