-- The limits, each in one place.
use Rattle.std.specs.Prelude.{ℕ}

-- locks are numbered from 0 up to, and not including, this
abbrev pub lock_limit : ℕ
lock_limit = 8

-- how many locks a thread may hold at one time
abbrev pub most_held : ℕ
most_held = 4

-- how many locations a graph may have, and steps a location
abbrev pub most_locations : ℕ
most_locations = 512

abbrev pub most_steps : ℕ
most_steps = 16

-- the right thread's moves are numbered from here
abbrev pub first_right : ℕ
first_right = 256
