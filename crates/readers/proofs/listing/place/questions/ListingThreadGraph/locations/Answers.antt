use Rattle.std.proofs.Common.{sym, ◌∙◌}
use Rattle.readers.specs.Place.{commands_in}
use Rattle.readers.specs.GraphLaws.{length_steps}
use Rattle.readers.proofs.listing.place.questions.ListingThreadGraph.locations.Goals as goal

pub returns : goal.returns
returns c = c.len.ensures ∙ c.args.self.now.commands.ok.0 ∙ sym (length_steps 0 (commands_in c.args.self.now))
