use Rattle.layers.proofs.Setting.{Right, Seen}
use Rattle.layers.proofs.names.setting.check.Given as goal

abbrev pub invariant-loop-at : goal.invariant-loop-at
invariant-loop-at l = record {
  right : Right l.numbers l.at;
  seen : Seen l.numbers l.at l.seen;
}
