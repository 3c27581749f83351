-- Digits have their number's value.
use Rattle.std.proofs.Common.{◌≡◌, ℕ, ◌^◌, ◌<◌, get_or, arith}
use Rattle.std.specs.Fmt.{decimal}
use Rattle.std.proofs.lemmas.Fmt.{decimal_is_IsNumeral, first_decimal, decimal_digit}
use Rattle.review.specs.Digits.{DigitsAreTheirNumbers}

first_is_none : (n : ℕ) → 0 < n → n < 2 ^ 64 → get_or (decimal n) 0 0 ≡ 48 → ⊥
first_is_none n some small e = let above = first_decimal n some small in omega arith

pub digits_are_their_numbers : DigitsAreTheirNumbers
digits_are_their_numbers = record {
  numeral = λ n h. (decimal_is_IsNumeral n h).0;
  value = λ n h. (decimal_is_IsNumeral n h).1;
  no_leading_zero = first_is_none;
  zero = decimal_digit 0 (omega arith);
}
