-- A command that cannot be taken off the bytes, and why.
use Rattle.std.proofs.Common.{◌≡◌, ℕ, suc, ◌<◌, ◌≤◌, true, eqb, ltb, List, [], ◌∷◌, ◌++◌, length, Ok, Err, Result, refl, ap, subst, arith}
use Rattle.std.proofs.lemmas.Bool.{cond_both, ltb-false, eqb-true, eqb-false, leb-true}
use Rattle.locks.specs.Limits.{lock_limit}
use Rattle.readers.specs.declared.listing.command.Command.{Command}
use Rattle.readers.specs.declared.listing.command.Command.TheVariants.{Stop, Pass, Take, Give}
use Rattle.readers.specs.declared.listing.fault.Wrong.{Wrong}
use Rattle.readers.specs.declared.listing.fault.Wrong.TheVariants.{UnknownCommand, CutOff, UnknownLock}
use Rattle.readers.specs.Bytes.{first, by_kind, with_lock, with_target, with_targets}
use Rattle.readers.specs.Encoding.{written, LockIsKnown, highest}
use Rattle.readers.specs.Flow.{most}
use Rattle.readers.specs.Refusals.{operands, WrongThere}

-- a command byte whose command cannot be taken off
abbrev pub Fails : List ℕ → Result Command Wrong → Type 0
Fails xs r = (w : Wrong) → r ≡ Err w → (n : ℕ) → n < most → WrongThere w n xs

reads : (xs : List ℕ) (c : Command) → Fails xs (Ok c)
reads xs c w e n small = cc

fails : (xs : List ℕ) (v : Wrong) → ((n : ℕ) → n < most → WrongThere v n xs) → Fails xs (Err v)
fails xs v h w e n small = let same : v ≡ w = cc in subst (λ u. WrongThere u n xs) same (h n small)

short : (b : ℕ) (more : List ℕ) → b ≤ highest → length more < operands b → Fails (b ∷ more) (Err (CutOff b))
short b more known cut = fails (b ∷ more) (CutOff b) (λ n small. (small, (more, refl, known, cut)))

module _ (make : ℕ → Command) (b : ℕ)
    (is : (k : ℕ) (bs : List ℕ) → b ∷ k ∷ bs ≡ written (make k) ++ bs)
    (limited : (k : ℕ) → LockIsKnown (make k) → k < lock_limit) where
  lock_fails : (bs : List ℕ) → b ≤ highest → operands b ≡ 1 → Fails (b ∷ bs) (with_lock b make bs)
  lock_fails [] known one = short b [] known (omega arith)
  lock_fails (k ∷ bs) known one =
      cond_both (ltb k lock_limit) _ _ (Fails (b ∷ k ∷ bs)) (λ _. reads _ (make k))
      (λ out. fails (b ∷ k ∷ bs) (UnknownLock (make k)) (λ n small. (small, (bs, is k bs, λ l. let h = ltb-false k lock_limit out in let j = limited k l in omega arith))))

target_fails : (b : ℕ) (bs : List ℕ) → b ≤ highest → operands b ≡ 2 → Fails (b ∷ bs) (with_target b bs)
target_fails b [] known two = short b [] known (omega arith)
target_fails b (h ∷ []) known two = short b (h ∷ []) known (omega arith)
target_fails b (h ∷ l ∷ bs) known two = reads _ _

targets_fail : (b : ℕ) (bs : List ℕ) → b ≤ highest → operands b ≡ 4 → Fails (b ∷ bs) (with_targets b bs)
targets_fail b [] known four = short b [] known (omega arith)
targets_fail b (h ∷ []) known four = short b (h ∷ []) known (omega arith)
targets_fail b (h ∷ l ∷ []) known four = short b (h ∷ l ∷ []) known (omega arith)
targets_fail b (h ∷ l ∷ k ∷ []) known four = short b (h ∷ l ∷ k ∷ []) known (omega arith)
targets_fail b (h ∷ l ∷ k ∷ m ∷ bs) known four = reads _ _

kinds_fail : (b : ℕ) (bs : List ℕ) → b ≤ highest → Fails (b ∷ bs) (by_kind b bs)
kinds_fail b bs known =
    cond_both (eqb b 0) _ _ (Fails (b ∷ bs)) (λ _. reads _ Stop) (λ n₀.
    cond_both (eqb b 1) _ _ (Fails (b ∷ bs)) (λ _. reads _ Pass) (λ n₁.
    cond_both (eqb b 2) _ _ (Fails (b ∷ bs)) (λ y. lock_fails Take b (λ k more. ap (λ x. x ∷ k ∷ more) (eqb-true b 2 y)) (λ _ l. l) bs known (ap operands (eqb-true b 2 y))) (λ n₂.
    cond_both (eqb b 3) _ _ (Fails (b ∷ bs)) (λ y. lock_fails Give b (λ k more. ap (λ x. x ∷ k ∷ more) (eqb-true b 3 y)) (λ _ l. l) bs known (ap operands (eqb-true b 3 y))) (λ n₃.
    cond_both (eqb b 4) _ _ (Fails (b ∷ bs)) (λ y. target_fails b bs known (ap operands (eqb-true b 4 y))) (λ n₄.
    cond_both (eqb b 5) _ _ (Fails (b ∷ bs)) (λ y. targets_fail b bs known (ap operands (eqb-true b 5 y))) (λ n₅.
    absurd (omega (arith, eqb-false b 0 n₀, eqb-false b 1 n₁, eqb-false b 2 n₂, eqb-false b 3 n₃, eqb-false b 4 n₄, eqb-false b 5 n₅))))))))

pub first_fails : (b : ℕ) (bs : List ℕ) → Fails (b ∷ bs) (first highest (b ∷ bs))
first_fails b bs =
    cond_both (ltb highest b) _ _ (Fails (b ∷ bs))
    (λ y. fails (b ∷ bs) (UnknownCommand b) (λ n small. (small, (bs, refl, above b y))))
    (λ out. kinds_fail b bs (ltb-false highest b out))
  where
    above : (b : ℕ) → ltb highest b ≡ true → highest < b
    above b y = leb-true (suc highest) b y
