-- The refusal of names.
use Rattle.locks.specs.declared.refusals.Part.TheVariants.{Names}
use Rattle.locks.specs.declared.refusals.Refusal.{Refusal}
use Rattle.layers.specs.declared.names.fault.NamesFault.{NamesFault}

-- the number, the place and the part of a refusal
abbrev pub names_refusal : NamesFault → Refusal
names_refusal f = record { number = 12; place = f.at; part = Names }
