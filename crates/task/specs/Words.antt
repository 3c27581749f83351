-- What a single word spells: a number, a byte or a move.
use Rattle.std.specs.Prelude.{ℕ, ◌+◌, ◌-◌, ◌*◌, Bool, cond, ◌&&◌, List, [], ◌∷◌, Some, None, Option, ◌==◌, nat_le}
use Rattle.std.specs.Option.{option_map}
use Rattle.std.specs.Str.{all_ascii_digits}

-- the number that digits write after those whose value is n
abbrev pub value_from : ℕ → List ℕ → ℕ
value_from n [] = n
value_from n (c ∷ cs) = value_from (10 * n + (c - 48)) cs

-- one or more decimal digits, of a value that is at most the limit
abbrev pub number_of : ℕ → List ℕ → Option ℕ
number_of limit [] = None
number_of limit (c ∷ cs) =
    cond (all_ascii_digits (c ∷ cs) && nat_le (value_from 0 (c ∷ cs)) limit) (Some (value_from 0 (c ∷ cs))) None

abbrev within : ℕ → ℕ → ℕ → Bool
within low high c = nat_le low c && nat_le c high

abbrev pub hex_digit : ℕ → Option ℕ
hex_digit c =
    cond (within 48 57 c) (Some (c - 48)) (cond (within 97 102 c) (Some (c - 87)) (cond (within 65 70 c) (Some (c - 55)) None))

abbrev pub both : Option ℕ → Option ℕ → Option (ℕ × ℕ)
both None b = None
both (Some x) None = None
both (Some x) (Some y) = Some (x, y)

-- two hexadecimal digits
abbrev pub byte_of : List ℕ → Option ℕ
byte_of [] = None
byte_of (a ∷ []) = None
byte_of (a ∷ b ∷ []) = option_map (λ d. 16 * d.0 + d.1) (both (hex_digit a) (hex_digit b))
byte_of (a ∷ b ∷ c ∷ cs) = None

-- `L` and a number up to 255, or `R` and a number that is counted from 256
abbrev pub move_number : List ℕ → Option ℕ
move_number [] = None
move_number (side ∷ cs) =
    cond (side == 76) (number_of 255 cs) (cond (side == 82) (option_map (λ n. 256 + n) (number_of 65279 cs)) None)
