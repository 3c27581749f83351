use Rattle.std.proofs.Common.{◌≡◌, ℕ, ◌<◌, length, take, slice_index_or}
use Rattle.readers.specs.Records.{records_at}
use Rattle.readers.specs.TableRefusals.{AllFew}
use Rattle.readers.proofs.table.checks.first_too_many.Given as goal

abbrev pub invariant-loop-at : goal.invariant-loop-at
invariant-loop-at l = record {
  whole : length l.counts ≡ 512;
  counted : (k : ℕ) → k < 512 → slice_index_or l.counts k 0 ≡ length (records_at k (take l.at l.records));
  few : AllFew (take l.at l.records);
}
