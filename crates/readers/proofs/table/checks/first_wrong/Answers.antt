use Rattle.std.proofs.Common.{subst}
use Rattle.std.proofs.lemmas.List.{take_all}
use Rattle.readers.specs.TableRefusals.{AllFit}
use Rattle.readers.proofs.TableLaws.{fit_more}
use Rattle.readers.proofs.table.checks.first_wrong.Goals as goal

pub loop-at-preserved : goal.loop-at-preserved
loop-at-preserved c = fit_more c.args.locations c.args.records.now c.loop-at.at _ _ c.loop-at-test.true c.step.ensures c.if-is_none.ensures c.loop-at.invariant

pub returns : goal.returns
returns c = subst (AllFit c.args.locations) (take_all _ _ c.loop-at-test.false) c.loop-at.invariant
