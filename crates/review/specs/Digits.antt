-- Decimal digits.
use Rattle.std.specs.Prelude.{◌≡◌, ◌≢◌, ℕ, ◌^◌, ◌<◌, codes, slice_index_or}
use Rattle.std.specs.Fmt.{decimal}
use Rattle.std.specs.Str.Parse.{IsNumeral, digits_value}

-- of every number of 64 bits: its digits are digits, and have its value; the first of them is 0 for 0 alone
pub record DigitsAreTheirNumbers : Type 0 where
  pub numeral : (n : ℕ) → n < 2 ^ 64 → IsNumeral 10 (decimal n)
  pub value : (n : ℕ) → n < 2 ^ 64 → digits_value 10 (decimal n) ≡ n
  pub no_leading_zero : (n : ℕ) → 0 < n → n < 2 ^ 64 → slice_index_or (decimal n) 0 0 ≢ 48
  pub zero : decimal 0 ≡ codes "0"
