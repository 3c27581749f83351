-- What the bytes of a listing say.
use Rattle.std.specs.Prelude.{◌≡◌, ℕ, ◌+◌, ◌*◌, cond, List, [], ◌∷◌, drop, Ok, Err, Result, ◌==◌, nat_lt}
use Rattle.std.specs.Borrow.{Bor}
use Rattle.locks.specs.Limits.{lock_limit}
use Rattle.readers.specs.declared.listing.command.Command.{Command}
use Rattle.readers.specs.declared.listing.command.Command.TheVariants.{Stop, Pass, Take, Give, Goto, Either}
use Rattle.readers.specs.declared.listing.fault.Wrong.{Wrong}
use Rattle.readers.specs.declared.listing.fault.Wrong.TheVariants.{NoBytes, UnknownCommand, CutOff, UnknownLock}

-- the operands after each command byte, which is b
abbrev pub with_lock : ℕ → (ℕ → Command) → List ℕ → Result Command Wrong
with_lock b make [] = Err (CutOff b)
with_lock b make (k ∷ bs) = cond (nat_lt k lock_limit) (Ok (make k)) (Err (UnknownLock (make k)))

abbrev pub with_target : ℕ → List ℕ → Result Command Wrong
with_target b [] = Err (CutOff b)
with_target b (h ∷ []) = Err (CutOff b)
with_target b (h ∷ l ∷ bs) = Ok (Goto (256 * h + l))

abbrev pub with_targets : ℕ → List ℕ → Result Command Wrong
with_targets b [] = Err (CutOff b)
with_targets b (h ∷ []) = Err (CutOff b)
with_targets b (h ∷ l ∷ []) = Err (CutOff b)
with_targets b (h ∷ l ∷ k ∷ []) = Err (CutOff b)
with_targets b (h ∷ l ∷ k ∷ m ∷ bs) = Ok (Either (256 * h + l) (256 * k + m))

abbrev pub by_kind : ℕ → List ℕ → Result Command Wrong
by_kind b bs =
    cond (b == 0) (Ok Stop)
    (cond (b == 1) (Ok Pass)
    (cond (b == 2) (with_lock b Take bs)
    (cond (b == 3) (with_lock b Give bs)
    (cond (b == 4) (with_target b bs)
    (cond (b == 5) (with_targets b bs)
    (Err (UnknownCommand b)))))))

-- the first command of the bytes
abbrev pub first : ℕ → List ℕ → Result Command Wrong
first highest [] = Err NoBytes
first highest (b ∷ bs) = cond (nat_lt highest b) (Err (UnknownCommand b)) (by_kind b bs)

-- how many bytes a command takes
abbrev pub width : Command → ℕ
width Stop = 1
width Pass = 1
width (Take k) = 2
width (Give k) = 2
width (Goto t) = 3
width (Either t u) = 5

-- the first command, and the bytes behind it
abbrev pub Taken : ℕ → List ℕ → Result (Command × Bor (List ℕ)) Wrong → Type 0
Taken highest bs (Ok p) = (first highest bs ≡ Ok p.0) × (p.1.now ≡ drop (width p.0) bs)
Taken highest bs (Err w) = first highest bs ≡ Err w
