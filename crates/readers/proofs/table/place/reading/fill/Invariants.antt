use Rattle.std.proofs.Common.{◌≡◌, vec_capacity, take}
use Rattle.readers.specs.Records.{RowsSay}
use Rattle.readers.specs.Rows.{rows_steps}
use Rattle.readers.proofs.table.place.reading.fill.Given as goal

abbrev pub invariant-loop-record : goal.invariant-loop-record
invariant-loop-record l = record {
  say : RowsSay l.locations (take l.record-index l.records) (rows_steps l.rows.items);
  room : vec_capacity l.rows ≡ vec_capacity l.initial.rows;
}
