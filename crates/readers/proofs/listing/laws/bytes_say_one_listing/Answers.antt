use Rattle.readers.proofs.Saying.{bytes_say_one_listing_lem}
use Rattle.readers.proofs.listing.laws.bytes_say_one_listing.Goals as goal

pub returns : goal.returns
returns c = bytes_say_one_listing_lem
