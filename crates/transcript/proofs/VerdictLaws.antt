-- What an ask says of a pair, where both threads were summarised.
use Rattle.std.proofs.Common.{◌≡◌, ℕ, ◌<◌, List, [], length, take, Ok, Err, refl, sym, ap, subst, arith}
use Rattle.std.proofs.lemmas.List.{length-take-le}
use Rattle.std.proofs.lemmas.Option.{slice_get_within}
use Rattle.locks.specs.declared.together.Side.TheVariants.{Left, Right}
use Rattle.locks.specs.Graphs.{Graph}
use Rattle.locks.specs.Shortest.{LeastLength}
use Rattle.locks.specs.States.{beginning}
use Rattle.pairs.specs.Answers.{Answer}
use Rattle.pairs.specs.Asking.{OfGraph, Asked, NeverTooShort}
use Rattle.pairs.specs.declared.answers.AskFault.TheVariants.{NoSummary, NoLocation, TooShort}
use Rattle.pairs.specs.declared.answers.Verdict.TheVariants.{Never, Reached}
use Rattle.search.specs.declared.entries.Entry.{Entry}
use Rattle.search.specs.declared.threads.Pair.{Pair}
use Rattle.search.specs.Summaries.{Summary}
use Rattle.search.specs.Summarising.{Accepted}
use Rattle.transcript.specs.Threads.{SummaryTried}
use Rattle.transcript.specs.Verdicts.{SummaryRefused, PairSays, moves_of}

-- a summary has entries: the start is one
some_entries : (G : Graph) (es : List Entry) → Summary G es → 0 < length es
some_entries G es s =
    let start = s.all_reached (beginning G.start) ([], refl) in
    let within = slice_get_within es start.0 start.1 start.2 in
    omega arith

no_entries : {X : Type 0} (es : List Entry) → es ≡ [] → 0 < length es → X
no_entries es e h = let l = ap length e in absurd (omega arith)

accepted : (G : Graph) (es : List Entry) → SummaryTried G es → 0 < length es → Accepted G
accepted G es (Ok n, s) h = s.says.0
accepted G es (Err f, s) h = no_entries es s.says.1 h

refused : (G : Graph) (es : List Entry) → SummaryTried G es → es ≡ [] → SummaryRefused G
refused G es (Ok n, s) e = no_entries es e (some_entries G es s.says.1)
refused G es (Err f, s) e = (f, s.says.0)

of_graph : (G : Graph) (es : List Entry) → SummaryTried G es → OfGraph G es
of_graph G es (Ok n, s) h = (s.says.0.1, s.says.1)
of_graph G es (Err f, s) h = no_entries es s.says.1 h

-- the answer to an ask with a list of as many places as any schedule has moves
pub asked_says : (G H : Graph) (es fs : List Entry) (p : Pair) (before : List ℕ) (r : Answer) (after : List ℕ) → SummaryTried G es → SummaryTried H fs
    → NeverTooShort (length before) → Asked G H es fs p.left p.right before r after → PairSays G H p r (moves_of r after)
asked_says G H es fs p before (Err (NoSummary Left)) after s t n a = refused G es s a.finds
asked_says G H es fs p before (Err (NoSummary Right)) after s t n a = (accepted G es s a.finds.0, refused H fs t a.finds.1)
asked_says G H es fs p before (Err (NoLocation side)) after s t n a = ((accepted G es s a.finds.0, accepted H fs t a.finds.1), a.finds.2)
asked_says G H es fs p before (Err (TooShort m)) after s t n a = n G H es fs p.left p.right before _ after a (of_graph G es s) (of_graph H fs t) (omega arith) m refl
asked_says G H es fs p before (Ok Never) after s t n a =
    let judged = a.judges (of_graph G es s) (of_graph H fs t) in
    ((accepted G es s a.finds.0, accepted H fs t a.finds.1), a.finds.2, judged.says.3)
asked_says G H es fs p before (Ok (Reached m)) after s t n a =
    let judged = a.judges (of_graph G es s) (of_graph H fs t) in
    let room = judged.says.4 in
    let long = judged.list.0 in
    let whole : length (take m after) ≡ m = length-take-le m after (omega arith) in
    ((accepted G es s a.finds.0, accepted H fs t a.finds.1), a.finds.2, (judged.moves, subst (LeastLength G H p.left p.right) (sym whole) judged.says.3), sym whole)
