-- What each answer must be, from the calls before it and the graphs' meanings.
use Rattle.std.specs.Prelude.{◌≡◌, ◌≢◌, ℕ, ◌+◌, ◌<◌, ◌≤◌, false, ◌⊎◌, List, [], length, take, Some, Result, slice_index_or}
use Rattle.std.specs.List.{slice_get}
use Rattle.locks.specs.declared.together.Side.TheVariants.{Left, Right}
use Rattle.locks.specs.Graphs.{Graph, Bounded}
use Rattle.locks.specs.Shortest.{SameStates}
use Rattle.search.specs.declared.entries.Entry.{Entry}
use Rattle.search.specs.declared.faults.SummariseFault.{SummariseFault}
use Rattle.search.specs.declared.replaying.ReplayFault.{ReplayFault}
use Rattle.search.specs.Faults.{summarise_refusal}
use Rattle.search.specs.Replaying.{Replayed, replay_refusal}
use Rattle.search.specs.Sides.{BothThere}
use Rattle.search.specs.Summarising.{Accepted, Refused, Summarised}
use Rattle.pairs.specs.Answers.{Answer, Answered, ask_refusal}
use Rattle.runs.specs.declared.calls.Question.{Question}
use Rattle.runs.specs.declared.calls.WhichFolder.{WhichFolder}
use Rattle.runs.specs.Calls.{CallMeaning, exchange, summarise, entry, ask, replay, AnswerMeaning, exchanged, summarised, entry_is, asked, replayed, numbered, by_which, folder_at, in_force, renews}

-- from place n on, no call exchanges the folder's graph
abbrev pub NoneExchanged : WhichFolder → ℕ → List CallMeaning → Type 0
NoneExchanged w n cs = (i : ℕ) (K : Graph) → n ≤ i → slice_get cs i ≢ Some (exchange w K)

-- the graph of a folder's last exchange, and without one that of its opening
abbrev pub LastExchanged : WhichFolder → Graph → List CallMeaning → Graph → Type 0
LastExchanged w opening cs K =
    ((i : ℕ) × (slice_get cs i ≡ Some (exchange w K)) × NoneExchanged w (i + 1) cs) ⊎ (NoneExchanged w 0 cs × (K ≡ opening))

abbrev pub InForceIsTheLastExchange : Type 0
InForceIsTheLastExchange = (w : WhichFolder) (G H : Graph) (cs : List CallMeaning) → LastExchanged w (by_which G H w) cs (in_force w G H cs)

-- some refusal of summarise applies to the graph
abbrev pub SomeRefusal : Graph → Type 0
SomeRefusal G = (f : SummariseFault) × Refused G f

-- the call at this place is the last summarise of a folder, and no exchange of it came after
pub record SummarisedBy (w : WhichFolder) (before : List CallMeaning) (i : ℕ) : Type 0 where
  pub call : slice_get before i ≡ Some (summarise w)
  pub last : (j : ℕ) (c : CallMeaning) → i < j → slice_get before j ≡ Some c → renews w c ≡ false

-- summarise was not called on a folder since its last exchange
abbrev pub NeverSince : WhichFolder → List CallMeaning → Type 0
NeverSince w before = (i : ℕ) → SummarisedBy w before i → ⊥

-- A folder is summarised once summarise was called on it since its last exchange and no refusal of summarise
-- applies to its graph.
abbrev pub IsSummarised : WhichFolder → Graph → Graph → List CallMeaning → Type 0
IsSummarised w G H before = ((i : ℕ) × SummarisedBy w before i) × Accepted (in_force w G H before)

-- not the negation of that, but what makes it so
abbrev pub NotSummarised : WhichFolder → Graph → Graph → List CallMeaning → Type 0
NotSummarised w G H before = NeverSince w before ⊎ SomeRefusal (in_force w G H before)

-- these are the entries of a folder: those of its last summarise, none where there was none since its last exchange
pub record EntriesAre (w : WhichFolder) (before : List CallMeaning) (tables : List (List Entry)) (es : List Entry) : Type 0 where
  pub by_the_last : (i : ℕ) → SummarisedBy w before i → es ≡ slice_index_or tables i []
  pub never : NeverSince w before → es ≡ []

-- What the answer to a call must be. G and H are the graphs with which the two folders were opened, and `before` are the
-- calls before it. `tables` has a list of entries for each call, and `table` is its own: that of a summarise is what the
-- folder then has, a summary where it is accepted.
abbrev pub Rule : Graph → Graph → List CallMeaning → List (List Entry) → List Entry → CallMeaning → AnswerMeaning → Type 0
Rule G H before tables table (exchange w K) z = z ≡ exchanged w (in_force w G H before)
Rule G H before tables table (summarise w) z =
    (r : Result ℕ SummariseFault) × (z ≡ summarised (numbered summarise_refusal r)) × Summarised (in_force w G H before) r table
Rule G H before tables table (entry w n) z =
    (es : List Entry) × (z ≡ entry_is (slice_get es n)) × EntriesAre w before tables es
Rule G H before tables table (ask q list) z =
    (r : Answer) × (after : List ℕ) × (z ≡ asked (numbered ask_refusal r) after)
    × Answered (λ s. IsSummarised (folder_at q s) G H before) (λ s. NotSummarised (folder_at q s) G H before)
    (in_force (folder_at q Left) G H before) (in_force (folder_at q Right) G H before) q.left.location q.right.location list r after
Rule G H before tables table (replay q ns) z =
    (r : Result (Unit {0}) ReplayFault) × (z ≡ replayed (numbered replay_refusal r) ns)
    × Replayed (in_force (folder_at q Left) G H before) (in_force (folder_at q Right) G H before) q.left.location q.right.location ns r

-- as many answers as calls, and each is what it must be
pub record KeepsTheRules (G H : Graph) (cs : List CallMeaning) (zs : List AnswerMeaning) (tables : List (List Entry)) : Type 0 where
  pub as_many : length zs ≡ length cs
  pub each : (i : ℕ) (c : CallMeaning) (z : AnswerMeaning) → slice_get cs i ≡ Some c → slice_get zs i ≡ Some z → Rule G H (take i cs) tables (slice_index_or tables i []) c z

-- every graph that the folders had is within the bounds, as those of every kind are
pub record GraphsWithin (G H : Graph) (cs : List CallMeaning) : Type 0 where
  pub first : Bounded G
  pub second : Bounded H
  pub later : (i : ℕ) (w : WhichFolder) (K : Graph) → slice_get cs i ≡ Some (exchange w K) → Bounded K

-- the call at place i asks about the pair (a, b) with a list of k places, its left and right graphs are L and R,
-- both folders are summarised, both locations are there, and the answer is r
pub record AskedAt (G H : Graph) (cs : List CallMeaning) (zs : List AnswerMeaning) (i a b k : ℕ) (L R : Graph) (r : Answer) : Type 0 where
  pub question : Question
  pub list : List ℕ
  pub after : List ℕ
  pub call : slice_get cs i ≡ Some (ask question list)
  pub answer : slice_get zs i ≡ Some (asked (numbered ask_refusal r) after)
  pub left_location : question.left.location ≡ a
  pub right_location : question.right.location ≡ b
  pub long : length list ≡ k
  pub left_graph : in_force (folder_at question Left) G H (take i cs) ≡ L
  pub right_graph : in_force (folder_at question Right) G H (take i cs) ≡ R
  pub left_ready : IsSummarised (folder_at question Left) G H (take i cs)
  pub right_ready : IsSummarised (folder_at question Right) G H (take i cs)
  pub both_there : BothThere L R a b

-- Two asks on one pair with lists of one length, of any answers to any calls that keep the rules, over any graphs:
-- where their left graphs have the same locked states at the same distances and their right graphs too, they have
-- the same answer.
abbrev pub SameStatesSameAnswers : Type 0
SameStatesSameAnswers =
    (G H G' H' : Graph) (cs cs' : List CallMeaning) (zs zs' : List AnswerMeaning) (ts ts' : List (List Entry))
    → GraphsWithin G H cs → GraphsWithin G' H' cs' → KeepsTheRules G H cs zs ts → KeepsTheRules G' H' cs' zs' ts'
    → (i j a b k : ℕ) (L R L' R' : Graph) (r r' : Answer) → AskedAt G H cs zs i a b k L R r → AskedAt G' H' cs' zs' j a b k L' R' r'
    → SameStates L L' → SameStates R R' → r ≡ r'
