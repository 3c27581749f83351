-- How moves, lock sets, positions and configurations are printed.
use Rattle.std.specs.Prelude.{ℕ, List, [], ◌∷◌, ◌++◌, codes, decimal, filter}
use Rattle.std.specs.List.{join_by, range_with_len}
use Rattle.locks.specs.declared.moves.Move.{Move}
use Rattle.locks.specs.declared.sets.LockSet.{LockSet}
use Rattle.locks.specs.declared.together.Configuration.{Configuration}
use Rattle.locks.specs.declared.together.Position.{Position}
use Rattle.locks.specs.declared.together.Side.{Side}
use Rattle.locks.specs.declared.together.Side.TheVariants.{Left, Right}
use Rattle.locks.specs.Limits.{lock_limit}
use Rattle.locks.specs.Sets.{has}

abbrev pub side_letter : Side → List ℕ
side_letter Left = codes "L"
side_letter Right = codes "R"

abbrev pub move_text : Move → List ℕ
move_text m = side_letter m.side ++ decimal m.choice

-- the set's locks below n, ascending
abbrev pub locks_below : ℕ → LockSet → List ℕ
locks_below n s = filter (λ k. has k s) (range_with_len 0 n)

-- one space between two numbers
abbrev pub spaced : List ℕ → List ℕ
spaced = join_by decimal (codes " ")

-- no locks have a word of their own
abbrev pub locks_text : List ℕ → List ℕ
locks_text [] = codes "nothing"
locks_text (k ∷ rest) = spaced (k ∷ rest)

abbrev pub set_text : LockSet → List ℕ
set_text s = locks_text (locks_below lock_limit s)

abbrev pub position_text : Position → List ℕ
position_text p = codes "at " ++ (decimal p.location ++ (codes " holding " ++ set_text p.held))

abbrev pub configuration_text : Configuration → List ℕ
configuration_text c = codes "left " ++ (position_text c.left ++ (codes ", right " ++ position_text c.right))
