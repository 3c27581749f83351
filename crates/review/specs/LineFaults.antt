-- The refusal of a line.
use Rattle.locks.specs.declared.refusals.Part.TheVariants as part
use Rattle.locks.specs.declared.refusals.Refusal.{Refusal}
use Rattle.review.specs.declared.lines.fault.LineFault.{LineFault}

-- the number, the place and the part of a refusal
abbrev pub line_refusal : LineFault → Refusal
line_refusal f = record { number = 24; place = f.needed; part = part.Line }
