use Rattle.std.proofs.Common.{refl, arith}
use Rattle.std.proofs.lemmas.List.{get_or-replicate}
use Rattle.readers.proofs.TableLaws.{too_many}
use Rattle.readers.proofs.table.checks.first_too_many.Goals as goal

pub loop-at-init : goal.loop-at-init
loop-at-init c = record {
  whole = refl;
  counted = λ k h. get_or-replicate 512 k 0 0 h;
  few = λ l. omega arith;
}

pub returns-then-counts-from-ge-MOST_STEPS : goal.returns-then-counts-from-ge-MOST_STEPS
returns-then-counts-from-ge-MOST_STEPS c =
    too_many c.args.locations c.args.records.now c.loop-at.counts c.loop-at.at c.from-from.result _ c.requires.few c.requires.fit c.loop-at-test.true c.from-from.ensures c.loop-at.invariant.counted c.loop-at.invariant.few c.if-counts-from-ge-MOST_STEPS.true
