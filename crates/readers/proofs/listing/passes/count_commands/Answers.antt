use Rattle.std.proofs.Common.{length, sym, ap, ◌∙◌, zero-add}
use Rattle.readers.specs.Reading.{given, broken, run}
use Rattle.readers.specs.Items.{items_left}
use Rattle.readers.proofs.Items.{counted, counted_is}
use Rattle.readers.proofs.listing.passes.count_commands.Goals as goal

pub loop-at-init : goal.loop-at-init
loop-at-init c =
    let left = ap items_left c.into_iter-at-iterator.ensures.into_iter_gives ∙ c.new-at-items.ensures in
    let bytes = c.args.bytes.now in
    ap (given (broken 0 0 0 bytes)) (sym (zero-add (length (run 0 bytes)))) ∙ counted_is 0 0 0 bytes ∙ ap (counted 0) (sym left)
