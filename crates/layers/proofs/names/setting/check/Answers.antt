use Rattle.std.proofs.Common.{◌<◌, get_or, sym, ◌∙◌, arith}
use Rattle.locks.specs.Limits.{lock_limit}
use Rattle.layers.proofs.Setting.{seen_none, seen_next, right_next}
use Rattle.layers.proofs.names.setting.check.Goals as goal

pub loop-at-init : goal.loop-at-init
loop-at-init c = record { right = λ k h. absurd (omega arith); seen = rw c.none-seen.ensures (seen_none c.args.numbers.now) }

pub loop-at-preserved : goal.loop-at-preserved
loop-at-preserved c =
    let numbers = c.args.numbers.now in
    let known : get_or numbers c.loop-at.at 0 < lock_limit = omega arith in
    record {
      right = right_next numbers c.loop-at.at c.loop-at.seen known (sym c.has.ensures ∙ c.if-has.false) c.loop-at.invariant.seen c.loop-at.invariant.right;
      seen = seen_next numbers c.loop-at.at c.loop-at.seen c.with-seen.result known c.with-seen.ensures c.loop-at.invariant.seen;
    }
