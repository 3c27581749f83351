-- What a place holds.
use Rattle.std.specs.Prelude.{[], Ok, Err, Result}
use Rattle.task.specs.declared.content.Content.{Content}
use Rattle.task.specs.declared.fault.TextFault.{TextFault}
use Rattle.task.specs.Spelled.{TaskValue}

abbrev pub content_of : Content → TaskValue
content_of c =
    record {
      left = c.left;
      right = c.right;
      left_location = c.left_location;
      right_location = c.right_location;
      moves = c.moves;
    }

abbrev pub empty : TaskValue
empty = record { left = []; right = []; left_location = 0; right_location = 0; moves = [] }

-- what a place that held `old` holds after a reading: a refusal leaves it as it was
abbrev pub kept : TaskValue → Result TaskValue TextFault → TaskValue
kept old (Ok t) = t
kept old (Err e) = old
