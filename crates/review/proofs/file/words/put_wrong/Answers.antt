use Rattle.std.proofs.Common.{sym, ◌∙◌}
use Rattle.review.proofs.Filling.{nothing}
use Rattle.review.proofs.file.words.put_wrong.Goals as goal

pub returns-in-NoBytes : goal.returns-in-NoBytes
returns-in-NoBytes c = rw c.in-NoBytes.is (c.put.ensures c.args.space.now _ (nothing c.args.space.now))

pub returns-in-UnknownCommand : goal.returns-in-UnknownCommand
returns-in-UnknownCommand c = rw (c.in-UnknownCommand.is) c.put_byte.ensures

pub returns-in-CutOff : goal.returns-in-CutOff
returns-in-CutOff c = rw (c.in-CutOff.is) c.put_byte-in-CutOff.ensures

pub returns-in-RunsOffTheEnd : goal.returns-in-RunsOffTheEnd
returns-in-RunsOffTheEnd c =
    let before = c.args.space.now in
    let first = c.put-end-in-RunsOffTheEnd.ensures before _ (nothing before) in
    let second = c.put-end-in-RunsOffTheEnd-2.ensures before _ first in
    let named = rw (c.as_bytes.ensures.value ∙ c.name.ensures) at (c.put-in-RunsOffTheEnd.ensures before _ second) in
    rw c.in-RunsOffTheEnd.is named
