use Rattle.std.proofs.Common.{ap, ◌∙◌}
use Rattle.std.specs.List.{slice_get}
use Rattle.readers.specs.Place.{commands_in, command_at}
use Rattle.readers.specs.GraphLaws.{found_steps, missing_steps}
use Rattle.readers.proofs.listing.place.questions.ListingThreadGraph.step.Goals as goal

pub returns-in_err-command : goal.returns-in_err-command
returns-in_err-command c =
    let none = c.in_err-command.ensures ∙ ap (command_at (commands_in c.args.self.now)) c.from.ensures in
    c.from_residual.ensures ∙ ap (λ xs. slice_get xs c.args.choice) (missing_steps _ _ none)

pub returns : goal.returns
returns c =
    let some = c.in_ok-command.ensures ∙ ap (command_at (commands_in c.args.self.now)) c.from.ensures in
    c.step.ensures ∙ ap (λ xs. slice_get xs c.args.choice) (found_steps _ _ _ some)
