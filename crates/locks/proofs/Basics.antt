-- Small facts that many proofs use.
use Rattle.std.proofs.Common.{◌≡◌, ℕ, ◌<◌, List, length, Some, None, ⊎_elim}
use Rattle.std.proofs.lemmas.Option.{slice_get_past as nth_past}
use Rattle.std.proofs.lemmas.Bool.{cases_lt}
use Rattle.std.specs.List.{slice_get}

pub some_none : {A B : Type 0} (x : A) → Some x ≡ None → B
some_none x e = cc

pub some_some : {A : Type 0} (x y : A) → Some x ≡ Some y → x ≡ y
some_some x y e = cc

pub nth_there : {A : Type 0} (xs : List A) (i : ℕ) (x : A) → slice_get xs i ≡ Some x → i < length xs
nth_there xs i x h = ⊎_elim (λ k. k) (λ k. let p = nth_past xs i k in cc) (cases_lt i (length xs))
