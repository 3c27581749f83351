-- What a run of calls on two folders hands back.
use Rattle.std.specs.Prelude.{◌≡◌, List, [], ◌∷◌, ◌++◌, map, vec_items}
use Rattle.std.specs.List.{flat_map}
use Rattle.locks.specs.Graphs.{Graph}
use Rattle.search.specs.declared.entries.Entry.{Entry}
use Rattle.search.specs.Folders.{contents}
use Rattle.runs.specs.declared.calls.Call.{Call}
use Rattle.runs.specs.declared.calls.Call.TheVariants as code
use Rattle.runs.specs.declared.calls.Answer.{Answer}
use Rattle.runs.specs.declared.calls.Answer.TheVariants as back
use Rattle.runs.specs.declared.calls.WhichFolder.TheVariants.{First, Second}
use Rattle.runs.specs.declared.running.Outcome.{Outcome}
use Rattle.runs.specs.Calls.{call_meaning, answer_meaning}
use Rattle.runs.specs.Rules.{KeepsTheRules, GraphsWithin, EntriesAre}

-- the graphs that a call puts into each folder

abbrev pub firsts_by : {A B : Type 0} → Call A B → List A
firsts_by (code.ExchangeFirst g) = g ∷ []
firsts_by (code.ExchangeSecond g) = []
firsts_by (code.Summarise w) = []
firsts_by (code.Entry w n) = []
firsts_by (code.Ask q list) = []
firsts_by (code.Replay q moves) = []

abbrev pub seconds_by : {A B : Type 0} → Call A B → List B
seconds_by (code.ExchangeFirst g) = []
seconds_by (code.ExchangeSecond g) = g ∷ []
seconds_by (code.Summarise w) = []
seconds_by (code.Entry w n) = []
seconds_by (code.Ask q list) = []
seconds_by (code.Replay q moves) = []

-- and those that an answer hands back

abbrev pub firsts_back : {A B : Type 0} → Answer A B → List A
firsts_back (back.ExchangedFirst g) = g ∷ []
firsts_back (back.ExchangedSecond g) = []
firsts_back (back.Summarised x) = []
firsts_back (back.Entry e) = []
firsts_back (back.Asked x list) = []
firsts_back (back.Replayed x moves) = []

abbrev pub seconds_back : {A B : Type 0} → Answer A B → List B
seconds_back (back.ExchangedFirst g) = []
seconds_back (back.ExchangedSecond g) = g ∷ []
seconds_back (back.Summarised x) = []
seconds_back (back.Entry e) = []
seconds_back (back.Asked x list) = []
seconds_back (back.Replayed x moves) = []

-- The answers keep the rules, and every graph is within the bounds. The graphs handed back, and last the one that is
-- left in the folder, are those that were put in, in order. Each folder's entries are those of its last summarise since
-- its last exchange.
pub record RunRight {A B : Type 0} (of_first : A → Graph) (of_second : B → Graph) (g : A) (h : B) (cs : List (Call A B)) (ran : Outcome A B) : Type 0 where
  pub tables : List (List Entry)
  pub rules : KeepsTheRules (of_first g) (of_second h) (map (call_meaning of_first of_second) cs) (map (answer_meaning of_first of_second) (vec_items ran.answers)) tables
  pub within : GraphsWithin (of_first g) (of_second h) (map (call_meaning of_first of_second) cs)
  pub first_graphs : flat_map firsts_back (vec_items ran.answers) ++ (contents ran.first).graph ∷ [] ≡ g ∷ flat_map firsts_by cs
  pub second_graphs : flat_map seconds_back (vec_items ran.answers) ++ (contents ran.second).graph ∷ [] ≡ h ∷ flat_map seconds_by cs
  pub first_entries : EntriesAre First (map (call_meaning of_first of_second) cs) tables (contents ran.first).summary
  pub second_entries : EntriesAre Second (map (call_meaning of_first of_second) cs) tables (contents ran.second).summary
