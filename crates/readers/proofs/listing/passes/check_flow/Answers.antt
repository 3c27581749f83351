use Rattle.std.proofs.Common.{Ok, sym, ap, ◌∙◌}
use Rattle.readers.specs.Items.{items_left}
use Rattle.readers.proofs.Items.{flow_items, flow_is}
use Rattle.readers.proofs.listing.passes.check_flow.Goals as goal

pub loop-at-init : goal.loop-at-init
loop-at-init c =
    let left = ap items_left c.into_iter-at-iterator.ensures.into_iter_gives ∙ c.new-at-items.ensures in
    flow_is c.args.count (Ok tt) 0 0 c.args.bytes.now ∙ ap (flow_items c.args.count (Ok tt)) (sym left)
