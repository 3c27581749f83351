-- The room of a list: at most 4096 items, in memory that is reserved.
use Rattle.std.specs.Prelude.{◌≤◌, vec_len, vec_capacity, Vec}

module _ {X Z : Type 0} where
  abbrev pub Reserved : Vec X Z → Type 0
  Reserved v = (vec_len v ≤ 4096) × (4096 ≤ vec_capacity v)
