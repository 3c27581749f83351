use Rattle.output.proofs.Growing.{flushed}
use Rattle.output.proofs.print.Goals as goal

pub returns : goal.returns
returns g c = flushed _ _ _ c.args.text.now c.flush.result c.in_ok-write_text.ensures c.flush.ensures.bytes
