-- How the front of a file grows while it is read, and what has been read by then.
use Rattle.std.proofs.Common.{◌≡◌, ℕ, List, [], ◌∷◌, ◌++◌, map, Ok, Err, Result, sym, refl, ap, ◌∙◌, inl, inr, append_assoc, append-nil}
use Rattle.std.specs.List.{AllByRecursion}
use Rattle.std.proofs.lemmas.Grind.{flat_map-append}
use Rattle.std.proofs.lemmas.List.{map-append}
use Rattle.layers.specs.declared.names.fault.NamesFault.{NamesFault}
use Rattle.layers.specs.Naming.{NumbersAnswer, NamesSet}
use Rattle.layers.specs.Numbers.{in_order}
use Rattle.readers.specs.declared.listing.command.Command as listed
use Rattle.readers.specs.declared.listing.fault.ListingFault.{ListingFault}
use Rattle.readers.specs.Saying.{ListingSays, ListingRead}
use Rattle.search.specs.declared.threads.Pair.{Pair}
use Rattle.review.specs.declared.file.fault.FileFault.{FileFault}
use Rattle.review.specs.declared.file.phase.Phase.{Phase}
use Rattle.review.specs.declared.file.phase.Phase.TheVariants.{BeforeLeft, BeforeRight, AfterRight, AmongPairs, AfterEnd}
use Rattle.review.specs.declared.file.section.Section.{Section}
use Rattle.review.specs.declared.file.section.Section.TheVariants as code
use Rattle.review.specs.Commands.{Command, left, right, rename, pair, end, kind_of, written, encode, Sized}
use Rattle.review.specs.Entering.{Entered, carried}
use Rattle.review.specs.Order.{Allowed, InOrder, phase_after, phase_behind}
use Rattle.review.specs.Reviews.{Meaning, Front, Sound, NumbersFrom}
use Rattle.review.specs.Sections.{command_of}
use Rattle.review.specs.Taking.{Stands}

-- one command more

pub all_push : (P : Command → Type 0) (cs : List Command) (c : Command) → AllByRecursion P cs → P c → AllByRecursion P (cs ++ c ∷ [])
all_push P [] c all h = (h, tt)
all_push P (d ∷ cs) c all h = (all.0, all_push P cs c all.1 h)

pub phase_push : (p : Phase) (cs : List Command) (c : Command) → phase_behind p (cs ++ c ∷ []) ≡ phase_after (kind_of c)
phase_push p [] c = refl
phase_push p (d ∷ cs) c = phase_push (phase_after (kind_of d)) cs c

order_push : (p : Phase) (cs : List Command) (c : Command) → InOrder p cs → Allowed (phase_behind p cs) (kind_of c) → InOrder p (cs ++ c ∷ [])
order_push p [] c o h = (h, tt)
order_push p (d ∷ cs) c o h = (o.0, order_push (phase_after (kind_of d)) cs c o.1 h)

pub encode_push : (cs : List Command) (c : Command) (rest : List ℕ) → encode cs ++ (written c ++ rest) ≡ encode (cs ++ c ∷ []) ++ rest
encode_push cs c rest =
    sym (append_assoc (encode cs) (written c) rest)
    ∙ ap (λ xs. (encode cs ++ xs) ++ rest) (sym (append-nil (written c)))
    ∙ ap (λ xs. xs ++ rest) (sym (flat_map-append written cs (c ∷ [])))

pub front_more : (bs : List ℕ) (cs : List Command) (rest : List ℕ) (c : Command) (more : List ℕ) → Front bs cs rest → Stands (phase_behind BeforeLeft cs) rest c more → Sound c → Front bs (cs ++ c ∷ []) more
front_more bs cs rest c more f stands sound = record {
  split = f.split ∙ ap (λ xs. encode cs ++ xs) stands.2 ∙ encode_push cs c more;
  in_order = order_push BeforeLeft cs c f.in_order stands.0;
  sized = all_push Sized cs c f.sized stands.1;
  sound = all_push Sound cs c f.sound sound;
}

-- what was read so far

abbrev pub pair_of : Pair → Command
pair_of p = pair p.left p.right

-- both threads, the renamings, the pairs, and then these commands
pub record Body (cs : List Command) (m : Meaning) (renamings : List (List ℕ)) (tail : List Command) : Type 0 where
  pub left_bytes : List ℕ
  pub right_bytes : List ℕ
  pub commands : cs ≡ left left_bytes ∷ right right_bytes ∷ (map rename renamings ++ (map pair_of m.pairs ++ tail))
  pub lefts : ListingSays left_bytes (Ok m.lefts)
  pub rights : ListingSays right_bytes (Ok m.rights)
  pub numbers : NumbersFrom renamings m.numbers

abbrev pub Shape : Phase → List Command → Meaning → Type 0
Shape BeforeLeft cs m = (cs ≡ []) × (m.numbers ≡ in_order) × (m.pairs ≡ [])
Shape BeforeRight cs m = (l : List ℕ) × (cs ≡ left l ∷ []) × ListingSays l (Ok m.lefts) × (m.numbers ≡ in_order) × (m.pairs ≡ [])
Shape AfterRight cs m = Body cs m [] [] × (m.pairs ≡ [])
Shape AmongPairs cs m = (renamings : List (List ℕ)) × Body cs m renamings []
Shape AfterEnd cs m = (renamings : List (List ℕ)) × Body cs m renamings (end ∷ [])

-- commands behind a body without a tail
behind : (cs : List Command) (m : Meaning) (renamings : List (List ℕ)) (b : Body cs m renamings []) (tail : List Command) → cs ++ tail ≡ left b.left_bytes ∷ right b.right_bytes ∷ (map rename renamings ++ (map pair_of m.pairs ++ tail))
behind cs m renamings b tail =
    let front = left b.left_bytes ∷ right b.right_bytes ∷ map rename renamings in
    ap (λ xs. xs ++ tail) b.commands
    ∙ ap (λ xs. (front ++ xs) ++ tail) (append-nil (map pair_of m.pairs))
    ∙ append_assoc front (map pair_of m.pairs) tail

ended : (cs : List Command) (m : Meaning) (renamings : List (List ℕ)) → Body cs m renamings [] → Body (cs ++ end ∷ []) m renamings (end ∷ [])
ended cs m renamings b = record {
  left_bytes = b.left_bytes;
  right_bytes = b.right_bytes;
  commands = behind cs m renamings b (end ∷ []);
  lefts = b.lefts;
  rights = b.rights;
  numbers = b.numbers;
}

with_pair : (cs : List Command) (m : Meaning) (renamings : List (List ℕ)) (q : Pair) → Body cs m renamings [] → Body (cs ++ pair_of q ∷ []) (record m { pairs = m.pairs ++ q ∷ [] }) renamings []
with_pair cs m renamings q b =
    let front = left b.left_bytes ∷ right b.right_bytes ∷ map rename renamings in
    record {
      left_bytes = b.left_bytes;
      right_bytes = b.right_bytes;
      commands =
          behind cs m renamings b (pair_of q ∷ [])
          ∙ ap (λ xs. front ++ xs) (sym (map-append pair_of m.pairs (q ∷ [])) ∙ sym (append-nil (map pair_of (m.pairs ++ q ∷ []))));
      lefts = b.lefts;
      rights = b.rights;
      numbers = b.numbers;
    }

with_names : (cs : List Command) (m : Meaning) (ns numbers : List ℕ) → Body cs m [] [] → m.pairs ≡ [] → numbers ≡ ns → NumbersAnswer ns (Ok tt) → Body (cs ++ rename ns ∷ []) (record m { numbers = numbers }) (ns ∷ []) []
with_names cs m ns numbers b none is say =
    record {
      left_bytes = b.left_bytes;
      right_bytes = b.right_bytes;
      commands =
          behind cs m [] b (rename ns ∷ [])
          ∙ ap (λ ps. left b.left_bytes ∷ right b.right_bytes ∷ (map pair_of ps ++ rename ns ∷ [])) none
          ∙ ap (λ ps. left b.left_bytes ∷ right b.right_bytes ∷ (rename ns ∷ (map pair_of ps ++ []))) (sym none);
      lefts = b.lefts;
      rights = b.rights;
      numbers = (is, say);
    }

-- no fault is carried where there is none
carried_ok : {F : Type 0} (s : Result (Unit {0}) F) (as_file : F → FileFault) → Ok tt ≡ carried as_file s → s ≡ Ok tt
carried_ok (Ok u) as_file e = refl
carried_ok (Err f) as_file e = cc

-- a listing that was accepted is there
listed_so : (bs : List ℕ) (before after : List listed.Command) (s : Result (Unit {0}) ListingFault) → ListingRead bs before s after → s ≡ Ok tt → ListingSays bs (Ok after)
listed_so bs before after (Ok u) read e = read.says
listed_so bs before after (Err f) read e = cc

-- names that were accepted are those that were given
named : (ns before after : List ℕ) (s : Result (Unit {0}) NamesFault) → NamesSet ns before s after → s ≡ Ok tt → (after ≡ ns) × NumbersAnswer ns (Ok tt)
named ns before after (Ok u) set e = (set.holds, set.says)
named ns before after (Err f) set e = cc

pub sound_section : (x : Section) (m n : Meaning) → Entered x m (Ok tt) n → Sound (command_of x)
sound_section (code.Left bytes place) m n e = (n.lefts, listed_so bytes.now m.lefts n.lefts e.0 e.2 (carried_ok e.0 _ e.1))
sound_section (code.Right bytes place) m n e = (n.rights, listed_so bytes.now m.rights n.rights e.0 e.2 (carried_ok e.0 _ e.1))
sound_section (code.Rename numbers place) m n e = (named numbers.now m.numbers n.numbers e.0 e.2 (carried_ok e.0 _ e.1)).1
sound_section (code.Pair a b) m n e = tt
sound_section code.End m n e = tt

with_left : (p : Phase) (cs : List Command) (m : Meaning) (l : List ℕ) (lefts : List listed.Command) → Allowed p (kind_of (left l)) → ListingSays l (Ok lefts) → Shape p cs m → Shape BeforeRight (cs ++ left l ∷ []) (record m { lefts = lefts })
with_left BeforeLeft cs m l lefts a read s = (l, ap (λ xs. xs ++ left l ∷ []) s.0, read, s.1, s.2)
with_left BeforeRight cs m l lefts a read s = cc
with_left AfterRight cs m l lefts (inl a) read s = cc
with_left AfterRight cs m l lefts (inr (inl a)) read s = cc
with_left AfterRight cs m l lefts (inr (inr a)) read s = cc
with_left AmongPairs cs m l lefts (inl a) read s = cc
with_left AmongPairs cs m l lefts (inr a) read s = cc
with_left AfterEnd cs m l lefts a read s = absurd a

with_right : (p : Phase) (cs : List Command) (m : Meaning) (r : List ℕ) (rights : List listed.Command) → Allowed p (kind_of (right r)) → ListingSays r (Ok rights) → Shape p cs m → Shape AfterRight (cs ++ right r ∷ []) (record m { rights = rights })
with_right BeforeLeft cs m r rights a read s = cc
with_right BeforeRight cs m r rights a read s = (
  record {
    left_bytes = s.0;
    right_bytes = r;
    commands = ap (λ xs. xs ++ right r ∷ []) s.1 ∙ ap (λ ps. left s.0 ∷ right r ∷ (map pair_of ps ++ [])) (sym s.4);
    lefts = s.2;
    rights = read;
    numbers = s.3;
  },
  s.4,
)
with_right AfterRight cs m r rights (inl a) read s = cc
with_right AfterRight cs m r rights (inr (inl a)) read s = cc
with_right AfterRight cs m r rights (inr (inr a)) read s = cc
with_right AmongPairs cs m r rights (inl a) read s = cc
with_right AmongPairs cs m r rights (inr a) read s = cc
with_right AfterEnd cs m r rights a read s = absurd a

renamed : (p : Phase) (cs : List Command) (m : Meaning) (ns numbers : List ℕ) → Allowed p (kind_of (rename ns)) → numbers ≡ ns → NumbersAnswer ns (Ok tt) → Shape p cs m → Shape AmongPairs (cs ++ rename ns ∷ []) (record m { numbers = numbers })
renamed BeforeLeft cs m ns numbers a is say s = cc
renamed BeforeRight cs m ns numbers a is say s = cc
renamed AfterRight cs m ns numbers a is say s = (ns ∷ [], with_names cs m ns numbers s.0 s.1 is say)
renamed AmongPairs cs m ns numbers (inl a) is say s = cc
renamed AmongPairs cs m ns numbers (inr a) is say s = cc
renamed AfterEnd cs m ns numbers a is say s = absurd a

paired : (p : Phase) (cs : List Command) (m : Meaning) (q : Pair) → Allowed p (kind_of (pair_of q)) → Shape p cs m → Shape AmongPairs (cs ++ pair_of q ∷ []) (record m { pairs = m.pairs ++ q ∷ [] })
paired BeforeLeft cs m q a s = cc
paired BeforeRight cs m q a s = cc
paired AfterRight cs m q a s = ([], with_pair cs m [] q s.0)
paired AmongPairs cs m q a s = (s.0, with_pair cs m s.0 q s.1)
paired AfterEnd cs m q a s = absurd a

closed : (p : Phase) (cs : List Command) (m : Meaning) → Allowed p (kind_of end) → Shape p cs m → Shape AfterEnd (cs ++ end ∷ []) m
closed BeforeLeft cs m a s = cc
closed BeforeRight cs m a s = cc
closed AfterRight cs m a s = ([], ended cs m [] s.0)
closed AmongPairs cs m a s = (s.0, ended cs m s.0 s.1)
closed AfterEnd cs m a s = absurd a

pub shape_more : (p : Phase) (cs : List Command) (x : Section) (m n : Meaning) → Allowed p (kind_of (command_of x)) → Entered x m (Ok tt) n → Shape p cs m → Shape (phase_after (kind_of (command_of x))) (cs ++ command_of x ∷ []) n
shape_more p cs (code.Left bytes place) m n a e s =
    rw e.3 (with_left p cs m bytes.now n.lefts a (listed_so bytes.now m.lefts n.lefts e.0 e.2 (carried_ok e.0 _ e.1)) s)
shape_more p cs (code.Right bytes place) m n a e s =
    rw e.3 (with_right p cs m bytes.now n.rights a (listed_so bytes.now m.rights n.rights e.0 e.2 (carried_ok e.0 _ e.1)) s)
shape_more p cs (code.Rename numbers place) m n a e s =
    let given = named numbers.now m.numbers n.numbers e.0 e.2 (carried_ok e.0 _ e.1) in
    rw e.3 (renamed p cs m numbers.now n.numbers a given.0 given.1 s)
shape_more p cs (code.Pair a b) m n h e s = rw e.1 (paired p cs m (record { left = a; right = b }) h s)
shape_more p cs code.End m n a e s = rw e.1 (closed p cs m a s)
