-- What one section adds to a review.
use Rattle.std.specs.Prelude.{◌≡◌, [], ◌∷◌, ◌++◌, Ok, Err, Result}
use Rattle.layers.specs.declared.names.fault.NamesFault.{NamesFault}
use Rattle.layers.specs.Naming.{NamesSet}
use Rattle.layers.specs.Numbers.{in_order}
use Rattle.readers.specs.declared.listing.fault.ListingFault.{ListingFault}
use Rattle.readers.specs.Saying.{ListingRead}
use Rattle.review.specs.declared.file.fault.FileFault.{FileFault}
use Rattle.review.specs.declared.file.fault.FileFault.TheVariants.{InLeft, InRight, InNames}
use Rattle.review.specs.declared.file.section.Section.{Section}
use Rattle.review.specs.declared.file.section.Section.TheVariants as code
use Rattle.review.specs.Reviews.{Meaning}

-- there are no pairs yet, and no names but those in order
abbrev pub Emptied : Meaning → Type 0
Emptied m = (m.numbers ≡ in_order) × (m.pairs ≡ [])

-- a fault is carried whole
abbrev pub carried : {F : Type 0} → (F → FileFault) → Result (Unit {0}) F → Result (Unit {0}) FileFault
carried as_file (Ok u) = Ok u
carried as_file (Err f) = Err (as_file f)

-- the section is read into the review, or its fault is carried
abbrev pub Entered : Section → Meaning → Result (Unit {0}) FileFault → Meaning → Type 0
Entered (code.Left bytes place) m r n =
    (s : Result (Unit {0}) ListingFault) × (r ≡ carried (λ f. InLeft f place) s)
    × ListingRead bytes.now m.lefts s n.lefts × (n ≡ record m { lefts = n.lefts })
Entered (code.Right bytes place) m r n =
    (s : Result (Unit {0}) ListingFault) × (r ≡ carried (λ f. InRight f place) s)
    × ListingRead bytes.now m.rights s n.rights × (n ≡ record m { rights = n.rights })
Entered (code.Rename numbers place) m r n =
    (s : Result (Unit {0}) NamesFault) × (r ≡ carried (λ f. InNames f place) s)
    × NamesSet numbers.now m.numbers s n.numbers × (n ≡ record m { numbers = n.numbers })
Entered (code.Pair a b) m r n = (r ≡ Ok tt) × (n ≡ record m { pairs = m.pairs ++ record { left = a; right = b } ∷ [] })
Entered code.End m r n = (r ≡ Ok tt) × (n ≡ m)
