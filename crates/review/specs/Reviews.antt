-- What a whole file says, or why it is refused.
use Rattle.std.specs.Prelude.{◌≡◌, ℕ, ◌+◌, ◌<◌, ◌≤◌, List, [], ◌∷◌, ◌++◌, map, length, vec_items, Ok, Err, Result, OnErr}
use Rattle.std.specs.List.{AllByRecursion}
use Rattle.layers.specs.Naming.{numbers_in, NumbersAnswer}
use Rattle.layers.specs.Numbers.{in_order}
use Rattle.readers.specs.declared.listing.command.Command as listed
use Rattle.readers.specs.declared.listing.command.Command.TheVariants.{Stop}
use Rattle.readers.specs.Place.{commands_in}
use Rattle.readers.specs.Saying.{ListingSays}
use Rattle.search.specs.declared.threads.Pair.{Pair}
use Rattle.layers.specs.declared.renamed.Renamed.{Renamed}
use Rattle.readers.specs.declared.listing.place.Listing.{Listing}
use Rattle.review.specs.declared.file.content.Content.{Content}
use Rattle.review.specs.declared.file.fault.FileFault.{FileFault}
use Rattle.review.specs.declared.file.fault.FileFault.TheVariants.{TooLong, EndsEarly, NotAllowed, InLeft, InRight, InNames}
use Rattle.review.specs.declared.file.phase.Phase.TheVariants.{BeforeLeft}
use Rattle.review.specs.declared.file.review.Review.{Review}
use Rattle.review.specs.Commands.{Command, left, right, rename, pair, end, kind_of, encode, Sized, header}
use Rattle.review.specs.Limits.{most_bytes}
use Rattle.review.specs.Order.{InOrder, phase_behind}
use Rattle.review.specs.Taking.{Forbidden, EndsThere, Stands}

-- the commands of two threads, the numbers of the right one's locks, and the pairs
pub record Meaning : Type 0 where
  pub lefts : List listed.Command
  pub rights : List listed.Command
  pub numbers : List ℕ
  pub pairs : List Pair

-- what a left thread, a right thread and pairs mean together
abbrev pub meaning_of : Listing → Renamed Listing → List Pair → Meaning
meaning_of l r pairs = record { lefts = commands_in l; rights = commands_in r.graph; numbers = numbers_in r.names; pairs = pairs }

abbrev pub content_of : Content → Meaning
content_of c = meaning_of c.left c.right (vec_items c.pairs)

abbrev pub review_of : Review → Meaning
review_of r = content_of r.shown

-- both threads are one location without steps
abbrev pub blank : Meaning
blank = record { lefts = Stop ∷ []; rights = Stop ∷ []; numbers = in_order; pairs = [] }

-- the commands of a file in order: LEFT, RIGHT, the renamings, the pairs, END
abbrev pub file_commands : List ℕ → List ℕ → List (List ℕ) → List Pair → List Command
file_commands l r renamings pairs =
    left l ∷ right r ∷ (map rename renamings ++ (map (λ p. pair p.left p.right) pairs ++ end ∷ []))

-- there is no renaming and the numbers are in order, or there is one and it has them
abbrev pub NumbersFrom : List (List ℕ) → List ℕ → Type 0
NumbersFrom [] ns = ns ≡ in_order
NumbersFrom (given ∷ []) ns = (ns ≡ given) × NumbersAnswer given (Ok tt)
NumbersFrom (given ∷ others ∷ more) ns = ⊥

-- the bytes are these commands, one after another, and what they say is m
pub record Written (bs : List ℕ) (m : Meaning) : Type 0 where
  pub left_bytes : List ℕ
  pub right_bytes : List ℕ
  pub renamings : List (List ℕ)
  pub whole : bs ≡ encode (file_commands left_bytes right_bytes renamings m.pairs)
  pub sized : AllByRecursion Sized (file_commands left_bytes right_bytes renamings m.pairs)
  pub lefts : ListingSays left_bytes (Ok m.lefts)
  pub rights : ListingSays right_bytes (Ok m.rights)
  pub numbers : NumbersFrom renamings m.numbers

-- the section of a command is well formed
abbrev pub Sound : Command → Type 0
Sound (left bs) = (cs : List listed.Command) × ListingSays bs (Ok cs)
Sound (right bs) = (cs : List listed.Command) × ListingSays bs (Ok cs)
Sound (rename ns) = NumbersAnswer ns (Ok tt)
Sound (pair a b) = Unit {0}
Sound end = Unit {0}

-- whole commands in order, with sections that are well formed, and the bytes behind them
pub record Front (bs : List ℕ) (cs : List Command) (rest : List ℕ) : Type 0 where
  pub split : bs ≡ encode cs ++ rest
  pub in_order : InOrder BeforeLeft cs
  pub sized : AllByRecursion Sized cs
  pub sound : AllByRecursion Sound cs

-- Behind the front stands a whole command with a faulty section. `place` is the offset of the section.
pub record FaultIn (bs : List ℕ) (c : Command) (place : ℕ) : Type 0 where
  pub front : List Command
  pub rest : List ℕ
  pub more : List ℕ
  pub before : Front bs front rest
  pub stands : Stands (phase_behind BeforeLeft front) rest c more
  pub there : place ≡ length (encode front) + header (kind_of c)

-- the condition of each answer
abbrev pub FileSays : List ℕ → Result Meaning FileFault → Type 0
FileSays bs (Ok m) = (length bs ≤ most_bytes) × Written bs m
FileSays bs (Err TooLong) = most_bytes < length bs
FileSays bs (Err (EndsEarly at)) =
    (length bs ≤ most_bytes)
    × ((cs : List Command) × (rest : List ℕ) × Front bs cs rest × EndsThere (phase_behind BeforeLeft cs) rest) × (at ≡ length bs)
FileSays bs (Err (NotAllowed at)) =
    (length bs ≤ most_bytes)
    × ((cs : List Command) × (rest : List ℕ) × Front bs cs rest × Forbidden (phase_behind BeforeLeft cs) rest × (at ≡ length (encode cs)))
FileSays bs (Err (InLeft f place)) = (length bs ≤ most_bytes) × ((l : List ℕ) × FaultIn bs (left l) place × ListingSays l (Err f))
FileSays bs (Err (InRight f place)) = (length bs ≤ most_bytes) × ((l : List ℕ) × FaultIn bs (right l) place × ListingSays l (Err f))
FileSays bs (Err (InNames f place)) = (length bs ≤ most_bytes) × ((ns : List ℕ) × FaultIn bs (rename ns) place × NumbersAnswer ns (Err f))

-- what was filled in, or the fault that came in its way
abbrev pub filled : Result (Unit {0}) FileFault → Meaning → Result Meaning FileFault
filled (Ok u) m = Ok m
filled (Err f) m = Err f

-- The answer is the one whose condition holds, with what is there afterwards, and no other answer's condition does. A
-- refusal leaves the threads, the names and the pairs as they were.
pub record FileRead (bs : List ℕ) (before : Meaning) (r : Result (Unit {0}) FileFault) (after : Meaning) : Type 0 where
  pub says : FileSays bs (filled r after)
  pub only : (q : Result Meaning FileFault) → FileSays bs q → q ≡ filled r after
  pub stays : OnErr r (after ≡ before)

-- a file that is written from its parts, with well-formed sections, says just these parts
abbrev pub FilesReadBack : Type 0
FilesReadBack =
    (l r : List ℕ) (renamings : List (List ℕ)) (pairs : List Pair) (lefts rights : List listed.Command) (ns : List ℕ) (q : Result Meaning FileFault)
    → length (encode (file_commands l r renamings pairs)) ≤ most_bytes
    → AllByRecursion Sized (file_commands l r renamings pairs)
    → ListingSays l (Ok lefts) → ListingSays r (Ok rights) → NumbersFrom renamings ns
    → FileSays (encode (file_commands l r renamings pairs)) q
    → q ≡ Ok (record { lefts = lefts; rights = rights; numbers = ns; pairs = pairs })
