-- How large a file and a number may be.
use Rattle.std.specs.Prelude.{ℕ, ◌+◌, ◌-◌, ◌/◌, ◌^◌, min}

abbrev pub most_bytes : ℕ
most_bytes = 32768

-- no file has more pairs than this: each takes five bytes
abbrev pub most_pairs : ℕ
most_pairs = most_bytes / 5 + 1

-- a number that is too large to be counted is told as the largest
abbrev pub counted : ℕ → ℕ
counted n = min n (2 ^ 64 - 1)
