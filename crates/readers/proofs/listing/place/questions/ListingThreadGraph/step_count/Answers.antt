use Rattle.std.proofs.Common.{ap, ◌∙◌}
use Rattle.readers.specs.Place.{commands_in, command_at}
use Rattle.readers.specs.GraphLaws.{counted_steps}
use Rattle.readers.proofs.listing.place.questions.ListingThreadGraph.step_count.Goals as goal

pub returns : goal.returns
returns c = counted_steps _ _ _ _ (c.command.ensures ∙ ap (command_at (commands_in c.args.self.now)) c.from.ensures) c.map_or.ensures
