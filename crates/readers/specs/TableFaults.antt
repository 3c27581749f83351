-- The refusals of a table.
use Rattle.std.specs.Prelude.{ℕ}
use Rattle.locks.specs.declared.refusals.Part.TheVariants.{Table}
use Rattle.locks.specs.declared.refusals.Refusal.{Refusal}
use Rattle.readers.specs.declared.table.fault.TableFault.{TableFault}
use Rattle.readers.specs.declared.table.fault.TableFault.TheVariants.{LocationCount, StartMissing, WrongRecord, TooManySteps}

abbrev pub number : TableFault → ℕ
number LocationCount = 8
number StartMissing = 9
number (WrongRecord i) = 10
number (TooManySteps i) = 11

abbrev pub place : TableFault → ℕ
place LocationCount = 0
place StartMissing = 0
place (WrongRecord i) = i
place (TooManySteps i) = i

-- the number, the place and the part of a refusal
abbrev pub table_refusal : TableFault → Refusal
table_refusal f = record { number = number f; place = place f; part = Table }
