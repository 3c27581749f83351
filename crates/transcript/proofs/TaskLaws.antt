-- What is written of a task, put together from what is written of its parts.
use Rattle.std.proofs.Common.{◌≡◌, ℕ, List, ◌++◌, length, Ok, Err, Result, refl, sym, ap, subst}
use Rattle.locks.specs.declared.together.Side.{Side}
use Rattle.locks.specs.declared.together.Side.TheVariants.{Left, Right}
use Rattle.locks.specs.Graphs.{Graph}
use Rattle.readers.specs.declared.listing.command.Command.{Command}
use Rattle.readers.specs.declared.listing.fault.ListingFault.{ListingFault}
use Rattle.readers.specs.Graph.{listing_graph}
use Rattle.readers.specs.Saying.{ListingSays}
use Rattle.search.specs.declared.entries.Entry.{Entry}
use Rattle.search.specs.declared.replaying.ReplayFault.{ReplayFault}
use Rattle.search.specs.declared.threads.Pair.{Pair}
use Rattle.search.specs.Replaying.{Replayed}
use Rattle.task.specs.Spelled.{TaskValue}
use Rattle.transcript.specs.Lines.{ended, listing_line, replay_line, Adds, AddsLine}
use Rattle.transcript.specs.Threads.{LineBySummary, SummaryTried, ThreadLine}
use Rattle.transcript.specs.Tracing.{Traced, ReplayLine}
use Rattle.transcript.specs.Transcripts.{pair_of, PlayedAndJudged, RightSays, TaskSays}
use Rattle.transcript.specs.Verdicts.{PairLine}
use Rattle.transcript.proofs.LineLaws.{adds_after, adds_one, adds_two}

-- the moves and the pair that were played are those of the task
pub record OfTask (t : TaskValue) (p : Pair) (moves : List ℕ) (k : ℕ) : Type 0 where
  pub pair : p ≡ pair_of t
  pub schedule : moves ≡ t.moves
  pub long : k ≡ length moves

pub played : (G H : Graph) (t : TaskValue) (p : Pair) (moves : List ℕ) (k : ℕ) (before text middle after : List ℕ) (r : Result (Unit {0}) ReplayFault) → OfTask t p moves k
    → Adds (Traced G H moves) before text → Replayed G H p.left p.right moves r → middle ≡ text ++ ended (replay_line p k r) → AddsLine (PairLine G H p) middle after
    → Adds (PlayedAndJudged G H t) before after
played G H t p moves k before text middle after r of traced replayed end judged =
    adds_two _ (PlayedAndJudged G H t) before text middle after _ judged.0 traced end judged.1
    (λ trace h. record {
      trace = trace;
      ending = replay_line p k r;
      verdict = judged.0;
      lines_are = refl;
      traced = (let P : List ℕ → Type 0 = λ ms. Traced G H ms trace in subst P of.schedule h);
      replayed =
          (let P : Pair → Type 0 = λ q. ReplayLine G H q t.moves (replay_line p k r) in
          let Q : List ℕ → Type 0 = λ ms. ReplayLine G H p ms (replay_line p k r) in
          subst P of.pair (subst Q of.schedule (r, replayed, ap (λ n. replay_line p n r) of.long)));
      judged = (let P : Pair → Type 0 = λ q. PairLine G H q judged.0 in subst P of.pair judged.2);
    })

module _ (t : TaskValue) (before after : List ℕ) where
  pub left_refused : (f : ListingFault) → ListingSays t.left (Err f) → after ≡ before ++ ended (listing_line Left f) → Adds (TaskSays t) before after
  left_refused f says line = adds_one (TaskSays t) before after _ line (Err f, says, refl)

  module _ (lefts : List Command) (left_says : ListingSays t.left (Ok lefts)) (text : List ℕ) (left_line : AddsLine (ThreadLine Left (listing_graph lefts)) before text) where
    after_left : (r : Result (List Command) ListingFault) → ListingSays t.right r → Adds (RightSays (listing_graph lefts) t r) text after → Adds (TaskSays t) before after
    after_left r says rest =
        adds_after _ (TaskSays t) before text after left_line.0 left_line.1 rest (λ lines h. (Ok lefts, left_says, (left_line.0, lines, refl, left_line.2, (r, says, h))))

    pub right_refused : (f : ListingFault) → ListingSays t.right (Err f) → after ≡ text ++ ended (listing_line Right f) → Adds (TaskSays t) before after
    right_refused f says line = after_left (Err f) says (adds_one _ text after _ line refl)

    pub both_read : (rights : List Command) (middle : List ℕ) → ListingSays t.right (Ok rights) → AddsLine (ThreadLine Right (listing_graph rights)) text middle
        → Adds (PlayedAndJudged (listing_graph lefts) (listing_graph rights) t) middle after → Adds (TaskSays t) before after
    both_read rights middle says line rest =
        after_left (Ok rights) says (adds_after _ _ text middle after line.0 line.1 rest (λ lines h. (line.0, lines, refl, line.2, h)))

-- what is said by the answer of a summary

pub thread_told : (s : Side) (G : Graph) (es : List Entry) (before after : List ℕ) → AddsLine (LineBySummary s G es) before after → AddsLine (ThreadLine s G) before after
thread_told s G es before after a = (a.0, a.1, (es, a.2))

pub tried : (s : Side) (G K : Graph) (es fs : List Entry) (before after : List ℕ) → K ≡ G → fs ≡ es → AddsLine (LineBySummary s G es) before after → SummaryTried K fs
tried s G K es fs before after p q a =
    let P : Graph → Type 0 = λ x. SummaryTried x fs in
    subst P (sym p) (subst (SummaryTried G) (sym q) (a.2.0, a.2.1))

pub played_by : (G H K L : Graph) (t : TaskValue) (before after : List ℕ) → K ≡ G → L ≡ H → Adds (PlayedAndJudged K L t) before after → Adds (PlayedAndJudged G H t) before after
played_by G H K L t before after p q a =
    let P : Graph → Type 0 = λ x. Adds (PlayedAndJudged x H t) before after in
    let Q : Graph → Type 0 = λ x. Adds (PlayedAndJudged K x t) before after in
    subst P p (subst Q q a)
