use Rattle.std.proofs.Common.{◌≡◌, vec_capacity}
use Rattle.readers.specs.Rows.{bare, rows_steps}
use Rattle.readers.proofs.table.place.reading.clear.Given as goal

abbrev pub invariant-loop : goal.invariant-loop
invariant-loop l = record {
  rows : rows_steps l.rows.items ≡ bare l.counter;
  room : vec_capacity l.rows ≡ vec_capacity l.initial.rows;
}
