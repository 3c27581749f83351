-- The graph that a run of commands means: command n is location n, and the start is location 0.
use Rattle.std.specs.Prelude.{ℕ, ◌+◌, List, [], ◌∷◌}
use Rattle.locks.specs.declared.steps.Kind.TheVariants as kind
use Rattle.locks.specs.declared.steps.Step.{Step}
use Rattle.locks.specs.Graphs.{Graph}
use Rattle.readers.specs.declared.listing.command.Command.{Command}
use Rattle.readers.specs.declared.listing.command.Command.TheVariants.{Stop, Pass, Take, Give, Goto, Either}

abbrev pub plain_to : ℕ → Step
plain_to t = record { kind = kind.Plain; lock = 0; target = t }

-- the steps of a command at location n
abbrev pub steps_of : ℕ → Command → List Step
steps_of n Stop = []
steps_of n Pass = plain_to (n + 1) ∷ []
steps_of n (Take k) = record { kind = kind.Take; lock = k; target = n + 1 } ∷ []
steps_of n (Give k) = record { kind = kind.Give; lock = k; target = n + 1 } ∷ []
steps_of n (Goto t) = plain_to t ∷ []
steps_of n (Either t u) = plain_to t ∷ plain_to u ∷ []

-- the steps of the commands from location n on
abbrev pub steps_from : ℕ → List Command → List (List Step)
steps_from n [] = []
steps_from n (c ∷ cs) = steps_of n c ∷ steps_from (n + 1) cs

abbrev pub listing_graph : List Command → Graph
listing_graph cs = record { start = 0; steps = steps_from 0 cs }
