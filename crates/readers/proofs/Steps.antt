-- One command taken off the bytes, as the specifications say it.
use Rattle.std.specs.Prelude.{◌≡◌, ℕ, zero, suc, pred, ◌+◌, ◌<◌, ◌≤◌, List, [], ◌∷◌, length, drop, Ok, Err, refl}
use Rattle.std.proofs.Common.{sym, ap, ◌∙◌, add-zero, add-one, arith}
use Rattle.std.proofs.lemmas.Bool.{lt-leb, le-leb, cond-false, cond-true}
use Rattle.readers.specs.declared.listing.command.Command.{Command}
use Rattle.readers.specs.declared.listing.command.Command.TheVariants.{Stop, Pass, Take, Give, Goto, Either}
use Rattle.readers.specs.declared.listing.fault.Wrong.{Wrong}
use Rattle.readers.specs.declared.listing.fault.Wrong.TheVariants.{TooManyCommands}
use Rattle.readers.specs.Bytes.{first, width}
use Rattle.readers.specs.Encoding.{highest}
use Rattle.readers.specs.Faults.{fault}
use Rattle.readers.specs.Flow.{most}
use Rattle.readers.specs.Reading.{go_on, broken, taken, run}

pub width_some : (c : Command) → width c ≡ suc (pred (width c))
width_some Stop = refl
width_some Pass = refl
width_some (Take k) = refl
width_some (Give k) = refl
width_some (Goto t) = refl
width_some (Either t u) = refl

-- the bytes that belong to the command before are passed over
pub run_skip : (s : ℕ) (bs : List ℕ) → run s bs ≡ run 0 (drop s bs)
run_skip zero [] = refl
run_skip (suc s) [] = refl
run_skip zero (b ∷ bs) = refl
run_skip (suc s) (b ∷ bs) = run_skip s bs

pub broken_skip : (s n at : ℕ) (bs : List ℕ) → broken s n at bs ≡ broken 0 n (at + s) (drop s bs)
broken_skip zero n at [] = refl
broken_skip (suc s) n at [] = refl
broken_skip zero n at (b ∷ bs) = rw add-zero
broken_skip (suc s) n at (b ∷ bs) =
    let e : suc at + s ≡ at + suc s = omega arith in
    broken_skip s n (suc at) bs ∙ ap (λ a. broken 0 n a (drop s bs)) e

pub width_drop : (c : Command) (b : ℕ) (bs : List ℕ) → drop (width c) (b ∷ bs) ≡ drop (pred (width c)) bs
width_drop c b bs = ap (λ w. drop w (b ∷ bs)) (width_some c)

pub run_more : (bs : List ℕ) (c : Command) → first highest bs ≡ Ok c → run 0 bs ≡ c ∷ run 0 (drop (width c) bs)
run_more [] c e = cc
run_more (b ∷ bs) c e =
    ap (λ r. taken r (λ d. run (pred (width d)) bs)) e
    ∙ ap (λ cs. c ∷ cs) (run_skip (pred (width c)) bs ∙ ap (run 0) (sym (width_drop c b bs)))

pub broken_more : (n at : ℕ) (bs : List ℕ) (c : Command) → n < most → first highest bs ≡ Ok c → broken 0 n at bs ≡ broken 0 (n + 1) (at + width c) (drop (width c) bs)
broken_more n at [] c small e = cc
broken_more n at (b ∷ bs) c small e =
    let wide = width_some c in
    let there : suc at + pred (width c) ≡ at + width c = omega arith in
    cond-false _ _ _ (lt-leb most n small)
    ∙ ap (λ r. go_on r at (λ d. broken (pred (width d)) (suc n) (suc at) bs)) e
    ∙ broken_skip (pred (width c)) (suc n) (suc at) bs
    ∙ ap (λ a. broken 0 (suc n) a (drop (pred (width c)) bs)) there
    ∙ ap (broken 0 (suc n) (at + width c)) (sym (width_drop c b bs))
    ∙ ap (λ m. broken 0 m (at + width c) (drop (width c) (b ∷ bs))) (sym (add-one n))

pub broken_many : (n at : ℕ) (bs : List ℕ) → 0 < length bs → most ≤ n → broken 0 n at bs ≡ Err (fault TooManyCommands at)
broken_many n at [] some many = absurd (omega arith)
broken_many n at (b ∷ bs) some many = cond-true _ _ _ (le-leb most n many)

pub broken_wrong : (n at : ℕ) (bs : List ℕ) (w : Wrong) → 0 < length bs → n < most → first highest bs ≡ Err w → broken 0 n at bs ≡ Err (fault w at)
broken_wrong n at [] w some small e = absurd (omega arith)
broken_wrong n at (b ∷ bs) w some small e =
    cond-false _ _ _ (lt-leb most n small) ∙ ap (λ r. go_on r at (λ d. broken (pred (width d)) (suc n) (suc at) bs)) e
