use Rattle.std.proofs.Common.{◌++◌, ap, ◌∙◌}
use Rattle.transcript.specs.Lines.{text_of}
use Rattle.transcript.proofs.printing.transcript.Goals as goal

pub returns : goal.returns
returns c =
    let told = c.in_ok-write_text.ensures in
    (told.0, told.1 ∙ ap (λ t. t ++ text_of told.0) c.new-written.ensures.bytes, told.2)
