-- Commands stand one after another in one way only.
use Rattle.std.proofs.Common.{◌≡◌, ℕ, ◌/◌, ◌%◌, ◌<◌, List, [], ◌∷◌, ◌++◌, length, sym, refl, ap, subst, ◌∙◌, append_assoc, arith}
use Rattle.std.specs.List.{AllByRecursion}
use Rattle.readers.specs.Encoding.{two_bytes}
use Rattle.review.specs.declared.file.kind.CommandKind.{CommandKind}
use Rattle.review.specs.declared.file.kind.CommandKind.TheVariants as kind
use Rattle.review.specs.Commands.{Command, left, right, rename, pair, end, kind_of, first_byte, operands, written, encode, Sized}

-- two lists that begin with parts of one length

same_parts : {X : Type 0} (xs ys us vs : List X) → length xs ≡ length ys → xs ++ us ≡ ys ++ vs → (xs ≡ ys) × (us ≡ vs)
same_parts [] [] us vs h e = (refl, e)
same_parts [] (y ∷ ys) us vs h e = cc
same_parts (x ∷ xs) [] us vs h e = cc
same_parts (x ∷ xs) (y ∷ ys) us vs h e =
    let first : x ≡ y = cc in
    let more : xs ++ us ≡ ys ++ vs = cc in
    let rest = same_parts xs ys us vs (omega arith) more in
    (ap (λ z. z ∷ xs) first ∙ ap (λ zs. y ∷ zs) rest.0, rest.1)

same_two : (m n : ℕ) → m < 65536 → n < 65536 → two_bytes m ≡ two_bytes n → m ≡ n
same_two m n h k e =
    let high : m / 256 ≡ n / 256 = cc in
    let low : m % 256 ≡ n % 256 = cc in
    omega arith

-- a run behind its length
same_run : (xs ys us vs : List ℕ) → length xs < 65536 → length ys < 65536 → (two_bytes (length xs) ++ xs) ++ us ≡ (two_bytes (length ys) ++ ys) ++ vs → (xs ≡ ys) × (us ≡ vs)
same_run xs ys us vs h k e =
    let heads = same_parts (two_bytes (length xs)) (two_bytes (length ys)) (xs ++ us) (ys ++ vs) refl e in
    same_parts xs ys us vs (same_two (length xs) (length ys) h k heads.0) heads.1

same_pair : (a b c d : ℕ) (us vs : List ℕ) → (a < 65536) × (b < 65536) → (c < 65536) × (d < 65536) → (two_bytes a ++ two_bytes b) ++ us ≡ (two_bytes c ++ two_bytes d) ++ vs → (a ≡ c) × (b ≡ d) × (us ≡ vs)
same_pair a b c d us vs h k e =
    let heads = same_parts (two_bytes a) (two_bytes c) (two_bytes b ++ us) (two_bytes d ++ vs) refl e in
    let tails = same_parts (two_bytes b) (two_bytes d) us vs refl heads.1 in
    (same_two a c h.0 k.0 heads.0, same_two b d h.1 k.1 tails.0, tails.1)

same_kind : (k l : CommandKind) → first_byte k ≡ first_byte l → k ≡ l
same_kind kind.Left kind.Left e = refl
same_kind kind.Right kind.Right e = refl
same_kind kind.Pair kind.Pair e = refl
same_kind kind.Rename kind.Rename e = refl
same_kind kind.End kind.End e = refl
same_kind kind.Left kind.Right e = absurd (omega arith)
same_kind kind.Left kind.Pair e = absurd (omega arith)
same_kind kind.Left kind.Rename e = absurd (omega arith)
same_kind kind.Left kind.End e = absurd (omega arith)
same_kind kind.Right kind.Left e = absurd (omega arith)
same_kind kind.Right kind.Pair e = absurd (omega arith)
same_kind kind.Right kind.Rename e = absurd (omega arith)
same_kind kind.Right kind.End e = absurd (omega arith)
same_kind kind.Pair kind.Left e = absurd (omega arith)
same_kind kind.Pair kind.Right e = absurd (omega arith)
same_kind kind.Pair kind.Rename e = absurd (omega arith)
same_kind kind.Pair kind.End e = absurd (omega arith)
same_kind kind.Rename kind.Left e = absurd (omega arith)
same_kind kind.Rename kind.Right e = absurd (omega arith)
same_kind kind.Rename kind.Pair e = absurd (omega arith)
same_kind kind.Rename kind.End e = absurd (omega arith)
same_kind kind.End kind.Left e = absurd (omega arith)
same_kind kind.End kind.Right e = absurd (omega arith)
same_kind kind.End kind.Pair e = absurd (omega arith)
same_kind kind.End kind.Rename e = absurd (omega arith)

-- commands of one kind with the same operands in front are the same
abbrev Alike : Command → Command → List ℕ → List ℕ → Type 0
Alike c d us vs = (c ≡ d) × (us ≡ vs)

same_operands : (c d : Command) (us vs : List ℕ) → kind_of c ≡ kind_of d → Sized c → Sized d → operands c ++ us ≡ operands d ++ vs → Alike c d us vs
same_operands (left xs) (left ys) us vs k h i e = let p = same_run xs ys us vs h i e in (ap left p.0, p.1)
same_operands (right xs) (right ys) us vs k h i e = let p = same_run xs ys us vs h i e in (ap right p.0, p.1)
same_operands (rename xs) (rename ys) us vs k h i e = let p = same_parts xs ys us vs (h ∙ sym i) e in (ap rename p.0, p.1)
same_operands (pair a b) (pair m n) us vs k h i e = let p = same_pair a b m n us vs h i e in (ap (λ x. pair x b) p.0 ∙ ap (pair m) p.1, p.2)
same_operands end end us vs k h i e = (refl, e)
same_operands (left xs) (right ys) us vs k h i e = cc
same_operands (left xs) (rename ys) us vs k h i e = cc
same_operands (left xs) (pair m n) us vs k h i e = cc
same_operands (left xs) end us vs k h i e = cc
same_operands (right xs) (left ys) us vs k h i e = cc
same_operands (right xs) (rename ys) us vs k h i e = cc
same_operands (right xs) (pair m n) us vs k h i e = cc
same_operands (right xs) end us vs k h i e = cc
same_operands (rename xs) (left ys) us vs k h i e = cc
same_operands (rename xs) (right ys) us vs k h i e = cc
same_operands (rename xs) (pair m n) us vs k h i e = cc
same_operands (rename xs) end us vs k h i e = cc
same_operands (pair a b) (left ys) us vs k h i e = cc
same_operands (pair a b) (right ys) us vs k h i e = cc
same_operands (pair a b) (rename ys) us vs k h i e = cc
same_operands (pair a b) end us vs k h i e = cc
same_operands end (left ys) us vs k h i e = cc
same_operands end (right ys) us vs k h i e = cc
same_operands end (rename ys) us vs k h i e = cc
same_operands end (pair m n) us vs k h i e = cc

-- no command is the front part of another
pub prefix_free : (c d : Command) (us vs : List ℕ) → Sized c → Sized d → written c ++ us ≡ written d ++ vs → Alike c d us vs
prefix_free c d us vs h i e =
    let first : first_byte (kind_of c) ≡ first_byte (kind_of d) = cc in
    let more : operands c ++ us ≡ operands d ++ vs = cc in
    same_operands c d us vs (same_kind (kind_of c) (kind_of d) first) h i more

-- two runs of commands in one run of bytes: one goes on where the other ends
pub data Compared (cs : List Command) (us : List ℕ) (ds : List Command) (vs : List ℕ) : Type 0 where
  same : cs ≡ ds → us ≡ vs → Compared cs us ds vs
  longer : (c : Command) (more : List Command) → ds ≡ cs ++ c ∷ more → us ≡ written c ++ (encode more ++ vs) → Compared cs us ds vs
  shorter : (d : Command) (more : List Command) → cs ≡ ds ++ d ∷ more → vs ≡ written d ++ (encode more ++ us) → Compared cs us ds vs

one_more : (c : Command) (cs : List Command) (us : List ℕ) (ds : List Command) (vs : List ℕ) → Compared cs us ds vs → Compared (c ∷ cs) us (c ∷ ds) vs
one_more c cs us ds vs (same e f) = same (ap (λ xs. c ∷ xs) e) f
one_more c cs us ds vs (longer d more e f) = longer d more (ap (λ xs. c ∷ xs) e) f
one_more c cs us ds vs (shorter d more e f) = shorter d more (ap (λ xs. c ∷ xs) e) f

pub compare : (cs : List Command) (us : List ℕ) (ds : List Command) (vs : List ℕ) → AllByRecursion Sized cs → AllByRecursion Sized ds → encode cs ++ us ≡ encode ds ++ vs → Compared cs us ds vs
compare [] us [] vs h i e = same refl e
compare [] us (d ∷ ds) vs h i e = longer d ds refl (e ∙ append_assoc (written d) (encode ds) vs)
compare (c ∷ cs) us [] vs h i e = shorter c cs refl (sym e ∙ append_assoc (written c) (encode cs) us)
compare (c ∷ cs) us (d ∷ ds) vs h i e =
    let firsts = prefix_free c d (encode cs ++ us) (encode ds ++ vs) h.0 i.0 (sym (append_assoc (written c) (encode cs) us) ∙ e ∙ append_assoc (written d) (encode ds) vs) in
    subst (λ x. Compared (c ∷ cs) us (x ∷ ds) vs) firsts.0 (one_more c cs us ds vs (compare cs us ds vs h.1 i.1 firsts.1))
