-- A text that is written as far as it goes.
use Rattle.std.specs.Prelude.{ℕ, ◌⊎◌, List, take, Option, Result, Ok, Err}
use Rattle.std.specs.Io.KnownBytes.{Appends, Keeps}

-- what a writer holds grows by a front of the text, which may be empty, or the whole of it
abbrev pub AppendsFront : Option (List ℕ) → Option (List ℕ) → List ℕ → Type 0
AppendsFront before after text = (n : ℕ) × Appends before after (take n text)

-- by the whole text on success, by a front of it on an error
abbrev pub WritesText : {E : Type 0} → Option (List ℕ) → Option (List ℕ) → List ℕ → Result (Unit {0}) E → Type 0
WritesText before after text (Ok u) = Appends before after text
WritesText before after text (Err e) = AppendsFront before after text

-- What a writer holds grows by a text of which this holds, and by nothing else. On an error it may have grown by a front of
-- such a text, or not at all.
abbrev pub Prints : {E : Type 0} → (List ℕ → Type 0) → Option (List ℕ) → Option (List ℕ) → Result (Unit {0}) E → Type 0
Prints Says before after (Ok u) = (text : List ℕ) × Says text × Appends before after text
Prints Says before after (Err e) = Keeps before after ⊎ ((text : List ℕ) × Says text × AppendsFront before after text)
