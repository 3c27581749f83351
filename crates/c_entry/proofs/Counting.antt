-- No schedule that is written into a run of bytes has too many moves to be told.
use Rattle.std.proofs.Common.{◌≡◌, ℕ, ◌^◌, ◌<◌, ◌≤◌, List, length, Ok, Err, Result, inl, inr, arith}
use Rattle.locks.specs.declared.refusals.Refusal.{Refusal}
use Rattle.locks.specs.Graphs.{Graph}
use Rattle.pairs.specs.Answers.{longest}
use Rattle.pairs.specs.declared.answers.Verdict.{Verdict}
use Rattle.pairs.specs.declared.answers.Verdict.TheVariants.{Never, Reached}
use Rattle.search.specs.declared.threads.Pair.{Pair}
use Rattle.review.specs.SinglePair.{ListingsSay, GraphsSay, PairSays, MovesSay}
use Rattle.c_entry.specs.CNumbers.{FewMoves}

by_moves : (moves before after : List ℕ) (n : ℕ) → length moves ≤ longest → MovesSay moves before (Ok (Reached n)) after → n < 2 ^ 63
by_moves moves before after n few (inl t) = let no = t.1 in cc
by_moves moves before after n few (inr t) = let is : n ≡ length moves = (let same = t.1 in cc) in omega arith

by_ask : (G H : Graph) (p : Pair) (before after : List ℕ) (n : ℕ) → PairSays G H p before (Ok (Reached n)) after → n < 2 ^ 63
by_ask G H p before after n (inl t) = let no = t.2 in cc
by_ask G H p before after n (inr (inl t)) = let no = t.2 in cc
by_ask G H p before after n (inr (inr t)) = by_moves t.0 before after n t.3 t.4

by_graphs : (G H : Graph) (p : Pair) (before after : List ℕ) (n : ℕ) → GraphsSay G H p before (Ok (Reached n)) after → n < 2 ^ 63
by_graphs G H p before after n (inl t) = let no = t.2 in cc
by_graphs G H p before after n (inr (inl t)) = let no = t.3 in cc
by_graphs G H p before after n (inr (inr t)) = by_ask G H p before after n t.2

by_listings : (l r : List ℕ) (p : Pair) (before after : List ℕ) (n : ℕ) → ListingsSay l r p before (Ok (Reached n)) after → n < 2 ^ 63
by_listings l r p before after n (inl t) = let no = t.2 in cc
by_listings l r p before after n (inr (inl t)) = let no = t.4 in cc
by_listings l r p before after n (inr (inr t)) = by_graphs _ _ p before after n t.4

pub few_moves : (l r : List ℕ) (p : Pair) (before after : List ℕ) (q : Result Verdict Refusal) → ListingsSay l r p before q after → FewMoves q
few_moves l r p before after (Ok (Reached n)) s = by_listings l r p before after n s
few_moves l r p before after (Ok Never) s = tt
few_moves l r p before after (Err e) s = tt
