-- What one call does to two folders and answers.
use Rattle.std.specs.Prelude.{◌≡◌, ℕ, List, vec_items, Result}
use Rattle.std.specs.List.{slice_get}
use Rattle.locks.specs.Graphs.{Graph}
use Rattle.locks.specs.declared.together.Side.TheVariants.{Left, Right}
use Rattle.search.specs.declared.entries.Entry.{Entry}
use Rattle.search.specs.declared.faults.SummariseFault.{SummariseFault}
use Rattle.search.specs.declared.replaying.ReplayFault.{ReplayFault}
use Rattle.search.specs.Folders.{Contents, unsummarised}
use Rattle.search.specs.Replaying.{Replayed}
use Rattle.search.specs.Summarising.{Summarised}
use Rattle.pairs.specs.Answers as pair
use Rattle.pairs.specs.Asking.{Asked}
use Rattle.runs.specs.declared.calls.WhichFolder.{WhichFolder}
use Rattle.runs.specs.declared.calls.WhichFolder.TheVariants.{First, Second}
use Rattle.runs.specs.declared.calls.Question.{Question}
use Rattle.runs.specs.declared.calls.Call.{Call}
use Rattle.runs.specs.declared.calls.Call.TheVariants as code
use Rattle.runs.specs.declared.calls.Answer.{Answer}
use Rattle.runs.specs.declared.calls.Answer.TheVariants as back
use Rattle.runs.specs.Calls.{asked, numbered, answer_meaning, by_which, folder_at}

module _ {A B : Type 0} (of_first : A → Graph) (of_second : B → Graph) where
  -- what one of the two folders has
  abbrev pub graph_of : Contents A → Contents B → WhichFolder → Graph
  graph_of f s w = by_which (of_first f.graph) (of_second s.graph) w

  abbrev pub entries_in : Contents A → Contents B → WhichFolder → List Entry
  entries_in f s w = by_which f.summary s.summary w

  -- an ask or a replay of the folders that the question names

  abbrev pub AskedOf : Contents A → Contents B → Question → List ℕ → pair.Answer → List ℕ → Type 0
  AskedOf f s q list x after =
      Asked (graph_of f s (folder_at q Left)) (graph_of f s (folder_at q Right)) (entries_in f s (folder_at q Left)) (entries_in f s (folder_at q Right))
      q.left.location q.right.location list x after

  abbrev pub ReplayedOf : Contents A → Contents B → Question → List ℕ → Result (Unit {0}) ReplayFault → Type 0
  ReplayedOf f s q ns x =
      Replayed (graph_of f s (folder_at q Left)) (graph_of f s (folder_at q Right)) q.left.location q.right.location ns x

  -- what a call does to the first folder and the second, and answers
  abbrev pub Obeys : Contents A → Contents B → Call A B → Answer A B → Contents A → Contents B → Type 0
  Obeys f s (code.ExchangeFirst g) z f' s' = (z ≡ back.ExchangedFirst f.graph) × (f' ≡ unsummarised g) × (s' ≡ s)
  Obeys f s (code.ExchangeSecond g) z f' s' = (z ≡ back.ExchangedSecond s.graph) × (f' ≡ f) × (s' ≡ unsummarised g)
  Obeys f s (code.Summarise First) z f' s' =
      (x : Result ℕ SummariseFault) × (z ≡ back.Summarised x) × Summarised (of_first f.graph) x f'.summary × (f'.graph ≡ f.graph) × (s' ≡ s)
  Obeys f s (code.Summarise Second) z f' s' =
      (x : Result ℕ SummariseFault) × (z ≡ back.Summarised x) × Summarised (of_second s.graph) x s'.summary × (f' ≡ f) × (s'.graph ≡ s.graph)
  Obeys f s (code.Entry w n) z f' s' = (z ≡ back.Entry (slice_get (entries_in f s w) n)) × (f' ≡ f) × (s' ≡ s)
  Obeys f s (code.Ask q list) z f' s' =
      (x : pair.Answer) × (after : List ℕ) × (answer_meaning of_first of_second z ≡ asked (numbered pair.ask_refusal x) after) × AskedOf f s q (vec_items list) x after × (f' ≡ f) × (s' ≡ s)
  Obeys f s (code.Replay q moves) z f' s' =
      (x : Result (Unit {0}) ReplayFault) × (z ≡ back.Replayed x moves) × ReplayedOf f s q (vec_items moves) x × (f' ≡ f) × (s' ≡ s)
