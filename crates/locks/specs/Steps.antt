-- Kinds of steps.
use Rattle.std.specs.Prelude.{ℕ}
use Rattle.locks.specs.declared.steps.Kind.{Kind}
use Rattle.locks.specs.declared.steps.Kind.TheVariants.{Plain, Take, Give}

abbrev pub kind_number : Kind → ℕ
kind_number Plain = 0
kind_number Take = 1
kind_number Give = 2
