use Rattle.std.proofs.Common.{ap, ◌∙◌}
use Rattle.std.specs.Prelude.{vec_capacity}
use Rattle.readers.proofs.TableLaws.{row_has_room, row_entered}
use Rattle.readers.proofs.table.place.reading.fill.Goals.{in-Some, in_default}
use Rattle.readers.proofs.table.place.reading.fill.Goals as goal

pub push-requires : goal.push-requires
push-requires c = row_has_room c.args.locations c.args.records.now c.loop-record.rows.items c.loop-record.record-index c.from.result _ _ c.loop-record-test.true c.requires.few c.in-Some.ensures.0 c.from.ensures c.index_mut.ensures.value c.loop-record.invariant.say

pub loop-record-preserved : goal.loop-record-preserved
loop-record-preserved c = elim c.match-step.branch [
  | in-Some w ↦ record {
    say = rw w.rows-is (row_entered c.args.locations c.args.records.now c.loop-record.rows.items c.loop-record.record-index w.from.result _ _ _ _ c.loop-record-test.true w.in-Some.ensures w.from.ensures w.index_mut.ensures.value w.push.ensures c.loop-record.invariant.say);
    room = ap vec_capacity w.rows-is ∙ c.loop-record.invariant.room;
  }
  | in_default w ↦ absurd (w.in_default.ensures (c.requires.fit c.loop-record.record-index _ c.loop-record-test.true))
]
