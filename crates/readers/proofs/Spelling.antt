-- The bytes that a command was read from.
use Rattle.std.specs.Prelude.{◌≡◌, ℕ, ◌+◌, ◌*◌, ◌<◌, ◌≤◌, List, [], ◌∷◌, length, Ok, Err, Result, ◌==◌, nat_lt, refl}
use Rattle.std.proofs.Common.{ap, subst, arith}
use Rattle.std.proofs.lemmas.Bool.{cond_both, eqb-true, ltb-true}
use Rattle.locks.specs.Limits.{lock_limit}
use Rattle.readers.specs.declared.listing.command.Command.{Command}
use Rattle.readers.specs.declared.listing.command.Command.TheVariants.{Stop, Pass, Take, Give, Goto, Either}
use Rattle.readers.specs.declared.listing.fault.Wrong.{Wrong}
use Rattle.readers.specs.declared.listing.fault.Wrong.TheVariants.{UnknownCommand, CutOff, UnknownLock}
use Rattle.readers.specs.Bytes.{first, by_kind, with_lock, with_target, with_targets, width}
use Rattle.readers.specs.Encoding.{highest}

-- the bytes begin with the command c
abbrev pub Spelt : List ℕ → Command → Type 0
Spelt bs Stop = (rest : List ℕ) × (bs ≡ 0 ∷ rest)
Spelt bs Pass = (rest : List ℕ) × (bs ≡ 1 ∷ rest)
Spelt bs (Take k) = (rest : List ℕ) × (bs ≡ 2 ∷ k ∷ rest) × (k < lock_limit)
Spelt bs (Give k) = (rest : List ℕ) × (bs ≡ 3 ∷ k ∷ rest) × (k < lock_limit)
Spelt bs (Goto t) = (rest : List ℕ) × (h : ℕ) × (l : ℕ) × (bs ≡ 4 ∷ h ∷ l ∷ rest) × (t ≡ 256 * h + l)
Spelt bs (Either t u) =
    (rest : List ℕ) × (h : ℕ) × (l : ℕ) × (k : ℕ) × (m : ℕ) × (bs ≡ 5 ∷ h ∷ l ∷ k ∷ m ∷ rest) × (t ≡ 256 * h + l) × (u ≡ 256 * k + m)

abbrev Reads : List ℕ → Result Command Wrong → Type 0
Reads bs r = (c : Command) → r ≡ Ok c → Spelt bs c

refused : (bs : List ℕ) (w : Wrong) → Reads bs (Err w)
refused bs w c e = cc

read : (bs : List ℕ) (d : Command) → Spelt bs d → Reads bs (Ok d)
read bs d s c e = let same : d ≡ c = cc in subst (Spelt bs) same s

lock_after : (make : ℕ → Command) (b : ℕ) (bs : List ℕ) → ((k : ℕ) (rest : List ℕ) → k < lock_limit → Spelt (b ∷ k ∷ rest) (make k)) → Reads (b ∷ bs) (with_lock b make bs)
lock_after make b [] is = refused _ (CutOff b)
lock_after make b (k ∷ bs) is =
    cond_both (nat_lt k lock_limit) _ _ (Reads (b ∷ k ∷ bs)) (λ y. read _ (make k) (is k bs (ltb-true k lock_limit y))) (λ _. refused _ (UnknownLock (make k)))

goto_target : (b : ℕ) (bs : List ℕ) → b ≡ 4 → Reads (b ∷ bs) (with_target b bs)
goto_target b [] t = refused _ (CutOff b)
goto_target b (h ∷ []) t = refused _ (CutOff b)
goto_target b (h ∷ l ∷ bs) t = read _ (Goto (256 * h + l)) (bs, h, l, ap (λ x. x ∷ h ∷ l ∷ bs) t, refl)

either_targets : (b : ℕ) (bs : List ℕ) → b ≡ 5 → Reads (b ∷ bs) (with_targets b bs)
either_targets b [] t = refused _ (CutOff b)
either_targets b (h ∷ []) t = refused _ (CutOff b)
either_targets b (h ∷ l ∷ []) t = refused _ (CutOff b)
either_targets b (h ∷ l ∷ k ∷ []) t = refused _ (CutOff b)
either_targets b (h ∷ l ∷ k ∷ m ∷ bs) t =
    read _ (Either (256 * h + l) (256 * k + m)) (bs, h, l, k, m, ap (λ x. x ∷ h ∷ l ∷ k ∷ m ∷ bs) t, refl, refl)

kinds : (b : ℕ) (bs : List ℕ) → Reads (b ∷ bs) (by_kind b bs)
kinds b bs =
    cond_both (b == 0) _ _ P (λ y. read _ Stop (bs, ap (λ x. x ∷ bs) (eqb-true b 0 y))) (λ _.
    cond_both (b == 1) _ _ P (λ y. read _ Pass (bs, ap (λ x. x ∷ bs) (eqb-true b 1 y))) (λ _.
    cond_both (b == 2) _ _ P (λ y. lock_after Take b bs (λ k rest h. (rest, ap (λ x. x ∷ k ∷ rest) (eqb-true b 2 y), h))) (λ _.
    cond_both (b == 3) _ _ P (λ y. lock_after Give b bs (λ k rest h. (rest, ap (λ x. x ∷ k ∷ rest) (eqb-true b 3 y), h))) (λ _.
    cond_both (b == 4) _ _ P (λ y. goto_target b bs (eqb-true b 4 y)) (λ _.
    cond_both (b == 5) _ _ P (λ y. either_targets b bs (eqb-true b 5 y)) (λ _. refused _ (UnknownCommand b)))))))
  where
    P : Result Command Wrong → Type 0
    P = Reads (b ∷ bs)

pub spelt : (bs : List ℕ) → Reads bs (first highest bs)
spelt [] = refused [] _
spelt (b ∷ bs) = cond_both (nat_lt highest b) _ _ (Reads (b ∷ bs)) (λ _. refused _ (UnknownCommand b)) (λ _. kinds b bs)

-- a command lies within the bytes that it was read from
pub spelt_within : (bs : List ℕ) (c : Command) → Spelt bs c → width c ≤ length bs
spelt_within bs Stop s = omega (arith, ap length s.1)
spelt_within bs Pass s = omega (arith, ap length s.1)
spelt_within bs (Take k) s = omega (arith, ap length s.1)
spelt_within bs (Give k) s = omega (arith, ap length s.1)
spelt_within bs (Goto t) s = omega (arith, ap length s.3)
spelt_within bs (Either t u) s = omega (arith, ap length s.5)

pub within : (bs : List ℕ) (c : Command) → first highest bs ≡ Ok c → width c ≤ length bs
within bs c e = spelt_within bs c (spelt bs c e)
