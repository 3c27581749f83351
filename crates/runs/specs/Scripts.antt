-- What stands in a script.
use Rattle.std.specs.Prelude.{◌≡◌, ℕ, ◌<◌, ◌≤◌, List, [], ◌∷◌, ◌++◌, length, Ok, Err, vec_items, Result}
use Rattle.runs.specs.declared.calls.Call.{Call}
use Rattle.runs.specs.declared.scripts.Script.{Script}

-- the calls, and how many there may be
pub record ScriptContents (A B : Type 0) : Type 0 where
  pub calls : List (Call A B)
  pub most : ℕ

abbrev pub written : {A B : Type 0} → Script A B → ScriptContents A B
written s = record { calls = vec_items s.calls; most = s.most }

abbrev pub blank : {A B : Type 0} → ℕ → ScriptContents A B
blank most = record { calls = []; most = most }

-- one call more where there is room, else the call comes back and nothing is changed
abbrev pub Added : {A B : Type 0} → ScriptContents A B → Call A B → Result (Unit {0}) (Call A B) → ScriptContents A B → Type 0
Added s c (Ok _) t = (length s.calls < s.most) × (t ≡ record { calls = s.calls ++ c ∷ []; most = s.most })
Added s c (Err d) t = (s.most ≤ length s.calls) × (d ≡ c) × (t ≡ s)
