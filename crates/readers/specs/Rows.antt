-- The steps of a graph by location, as a place of a table keeps them.
use Rattle.std.specs.Prelude.{ℕ, List, [], map, take, replicate}
use Rattle.locks.specs.declared.steps.Step.{Step}
use Rattle.locks.specs.Graphs.{Graph}
use Rattle.readers.specs.declared.table.row.Row.{Row}

abbrev pub row_steps : Row → List Step
row_steps r = take r.count r.steps

abbrev pub rows_steps : List Row → List (List Step)
rows_steps rows = map row_steps rows

abbrev pub rows_graph : ℕ → List Row → Graph
rows_graph start rows = record { start = start; steps = rows_steps rows }

-- n locations, each without steps
abbrev pub bare : ℕ → List (List Step)
bare n = replicate n []
