use Rattle.std.proofs.Common.{◌++◌, sym, ap, ◌∙◌, refl}
use Rattle.readers.specs.Items.{items_left}
use Rattle.readers.proofs.Items.{run_items, run_is}
use Rattle.readers.proofs.listing.passes.fill.Goals as goal

pub loop-command-init : goal.loop-command-init
loop-command-init c =
    let left = ap items_left c.into_iter-command-iterator.ensures.into_iter_gives ∙ c.new-command-items.ensures in
    record {
      items = ap (λ cs. cs ++ run_items (items_left c.into_iter-command-iterator.result)) c.clear.ensures.items ∙ ap run_items left ∙ sym (run_is 0 0 c.args.bytes.now);
      room = refl;
    }
