-- Calls and answers in the subject's words: graphs by their meaning, lists by what they hold.
use Rattle.std.specs.Prelude.{ℕ, Bool, true, false, cond, List, [], ◌∷◌, vec_items, Option, Ok, Err, Result}
use Rattle.std.specs.List.{flat_map}
use Rattle.locks.specs.declared.together.Side.{Side}
use Rattle.locks.specs.declared.together.Side.TheVariants.{Left, Right}
use Rattle.locks.specs.Graphs.{Graph}
use Rattle.search.specs.declared.entries.Entry.{Entry}
use Rattle.locks.specs.declared.refusals.Refusal.{Refusal}
use Rattle.search.specs.Faults.{summarise_refusal}
use Rattle.search.specs.Replaying.{replay_refusal}
use Rattle.pairs.specs.Answers.{ask_refusal}
use Rattle.pairs.specs.declared.answers.Verdict.{Verdict}
use Rattle.runs.specs.declared.calls.WhichFolder.{WhichFolder}
use Rattle.runs.specs.declared.calls.WhichFolder.TheVariants.{First, Second}
use Rattle.runs.specs.declared.calls.Question.{Question}
use Rattle.runs.specs.declared.calls.Call.{Call}
use Rattle.runs.specs.declared.calls.Call.TheVariants as code
use Rattle.runs.specs.declared.calls.Answer.{Answer}
use Rattle.runs.specs.declared.calls.Answer.TheVariants as back

-- a call
pub data CallMeaning : Type 0 where
  exchange : WhichFolder → Graph → CallMeaning
  summarise : WhichFolder → CallMeaning
  entry : WhichFolder → ℕ → CallMeaning
  ask : Question → List ℕ → CallMeaning
  replay : Question → List ℕ → CallMeaning

-- an answer; that to ask has the list as it then is, that to replay the schedule
pub data AnswerMeaning : Type 0 where
  exchanged : WhichFolder → Graph → AnswerMeaning
  summarised : Result ℕ Refusal → AnswerMeaning
  entry_is : Option Entry → AnswerMeaning
  asked : Result Verdict Refusal → List ℕ → AnswerMeaning
  replayed : Result (Unit {0}) Refusal → List ℕ → AnswerMeaning

-- a refusal by its number, place and part
abbrev pub numbered : {A F : Type 0} → (F → Refusal) → Result A F → Result A Refusal
numbered f (Ok x) = Ok x
numbered f (Err e) = Err (f e)

abbrev pub call_meaning : {A B : Type 0} → (A → Graph) → (B → Graph) → Call A B → CallMeaning
call_meaning of_first of_second (code.ExchangeFirst g) = exchange First (of_first g)
call_meaning of_first of_second (code.ExchangeSecond g) = exchange Second (of_second g)
call_meaning of_first of_second (code.Summarise w) = summarise w
call_meaning of_first of_second (code.Entry w n) = entry w n
call_meaning of_first of_second (code.Ask q list) = ask q (vec_items list)
call_meaning of_first of_second (code.Replay q moves) = replay q (vec_items moves)

abbrev pub answer_meaning : {A B : Type 0} → (A → Graph) → (B → Graph) → Answer A B → AnswerMeaning
answer_meaning of_first of_second (back.ExchangedFirst g) = exchanged First (of_first g)
answer_meaning of_first of_second (back.ExchangedSecond g) = exchanged Second (of_second g)
answer_meaning of_first of_second (back.Summarised x) = summarised (numbered summarise_refusal x)
answer_meaning of_first of_second (back.Entry x) = entry_is x
answer_meaning of_first of_second (back.Asked x list) = asked (numbered ask_refusal x) (vec_items list)
answer_meaning of_first of_second (back.Replayed x moves) = replayed (numbered replay_refusal x) (vec_items moves)

-- are they the same folder?
abbrev pub same : WhichFolder → WhichFolder → Bool
same First First = true
same First Second = false
same Second First = false
same Second Second = true

-- the first for the first folder, the second for the second
abbrev pub by_which : {A : Type 0} → A → A → WhichFolder → A
by_which x y First = x
by_which x y Second = y

-- the folder on a side of a question
abbrev pub folder_at : Question → Side → WhichFolder
folder_at q Left = q.left.folder
folder_at q Right = q.right.folder

-- the graphs that a call puts into a folder: one or none
abbrev pub put_by : WhichFolder → CallMeaning → List Graph
put_by w (exchange v K) = cond (same w v) (K ∷ []) []
put_by w (summarise v) = []
put_by w (entry v n) = []
put_by w (ask q list) = []
put_by w (replay q ns) = []

-- the last of these, without one the one given
abbrev pub last_of : {A : Type 0} → A → List A → A
last_of x [] = x
last_of x (y ∷ ys) = last_of y ys

-- the graph that is in a folder after these calls: its last exchange's, without one its opening's
abbrev pub in_force : WhichFolder → Graph → Graph → List CallMeaning → Graph
in_force w G H cs = last_of (by_which G H w) (flat_map (put_by w) cs)

-- an exchange or a summarise of the folder
abbrev pub renews : WhichFolder → CallMeaning → Bool
renews w (exchange v K) = same w v
renews w (summarise v) = same w v
renews w (entry v m) = false
renews w (ask q list) = false
renews w (replay q ns) = false
