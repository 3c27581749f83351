-- Of a file at most one answer's condition holds.
use Rattle.std.proofs.Common.{◌≡◌, ℕ, ◌+◌, ◌<◌, ◌≤◌, List, [], ◌∷◌, ◌++◌, map, length, Ok, Err, Result, sym, refl, ap, subst, ◌∙◌, inl, inr, ⊎_elim, arith, append-nil}
use Rattle.std.proofs.lemmas.Bool.{cases_lt}
use Rattle.std.specs.List.{AllByRecursion}
use Rattle.layers.specs.declared.names.fault.NamesFault.{NamesFault}
use Rattle.layers.specs.Naming.{NumbersAnswer}
use Rattle.layers.proofs.Setting as setting
use Rattle.readers.specs.declared.listing.command.Command as listed
use Rattle.readers.specs.declared.listing.fault.ListingFault.{ListingFault}
use Rattle.readers.specs.Saying.{ListingSays}
use Rattle.readers.proofs.Saying.{one_listing}
use Rattle.search.specs.declared.threads.Pair.{Pair}
use Rattle.review.specs.declared.file.fault.FileFault.{FileFault}
use Rattle.review.specs.declared.file.fault.FileFault.TheVariants.{TooLong, EndsEarly, NotAllowed, InLeft, InRight, InNames}
use Rattle.review.specs.declared.file.kind.CommandKind.{CommandKind}
use Rattle.review.specs.declared.file.phase.Phase.{Phase}
use Rattle.review.specs.declared.file.phase.Phase.TheVariants.{BeforeLeft, AmongPairs, AfterEnd}
use Rattle.review.specs.Commands.{Command, left, right, rename, pair, end, kind_of, first_byte, written, encode, Sized, header}
use Rattle.review.specs.Limits.{most_bytes}
use Rattle.review.specs.Order.{Allowed, InOrder, phase_after, phase_behind}
use Rattle.review.specs.Reviews.{Meaning, Front, FaultIn, Written, Sound, FileSays, FileRead, NumbersFrom, FilesReadBack, file_commands}
use Rattle.review.specs.Taking.{Forbidden, EndsThere, Stands}
use Rattle.review.proofs.Commands.{Compared, same, longer, shorter, compare, prefix_free}
use Rattle.review.proofs.Fronts.{Body, pair_of}

-- the fault of a command's section, as the answer that it makes
abbrev FaultOf : Command → ℕ → Result Meaning FileFault → Type 0
FaultOf (left l) place q = (f : ListingFault) × ListingSays l (Err f) × (q ≡ Err (InLeft f place))
FaultOf (right l) place q = (f : ListingFault) × ListingSays l (Err f) × (q ≡ Err (InRight f place))
FaultOf (rename ns) place q = (f : NamesFault) × NumbersAnswer ns (Err f) × (q ≡ Err (InNames f place))
FaultOf (pair a b) place q = ⊥
FaultOf end place q = ⊥

-- how a reading ends behind these commands, with these bytes left
data Finish (bs : List ℕ) (cs : List Command) (rest : List ℕ) (q : Result Meaning FileFault) : Type 0 where
  accepted : rest ≡ [] → (m : Meaning) → q ≡ Ok m → (renamings : List (List ℕ)) → Body cs m renamings (end ∷ []) → phase_behind BeforeLeft cs ≡ AfterEnd → Finish bs cs rest q
  early : EndsThere (phase_behind BeforeLeft cs) rest → q ≡ Err (EndsEarly (length bs)) → Finish bs cs rest q
  forbidden : Forbidden (phase_behind BeforeLeft cs) rest → q ≡ Err (NotAllowed (length (encode cs))) → Finish bs cs rest q
  section : (c : Command) (more : List ℕ) → Stands (phase_behind BeforeLeft cs) rest c more → FaultOf c (length (encode cs) + header (kind_of c)) q → Finish bs cs rest q

-- the answer of a file that is not too long ends its reading somewhere
record Ended (bs : List ℕ) (q : Result Meaning FileFault) : Type 0 where
  commands : List Command
  rest : List ℕ
  front : Front bs commands rest
  finish : Finish bs commands rest q

-- an accepted file is a front without anything behind it

pairs_in_order : (ps : List Pair) → InOrder AmongPairs (map pair_of ps ++ end ∷ [])
pairs_in_order [] = (inr refl, tt)
pairs_in_order (p ∷ ps) = (inl refl, pairs_in_order ps)

file_in_order : (l r : List ℕ) (renamings : List (List ℕ)) (ps : List Pair) (ns : List ℕ) → NumbersFrom renamings ns → InOrder BeforeLeft (file_commands l r renamings ps)
file_in_order l r [] [] ns h = (refl, (refl, (inr (inr refl), tt)))
file_in_order l r [] (p ∷ ps) ns h = (refl, (refl, (inr (inl refl), pairs_in_order ps)))
file_in_order l r (given ∷ []) ps ns h = (refl, (refl, (inl refl, pairs_in_order ps)))
file_in_order l r (given ∷ others ∷ more) ps ns h = absurd h

pairs_sound : (ps : List Pair) → AllByRecursion Sound (map pair_of ps ++ end ∷ [])
pairs_sound [] = (tt, tt)
pairs_sound (p ∷ ps) = (tt, pairs_sound ps)

file_sound : (l r : List ℕ) (renamings : List (List ℕ)) (ps : List Pair) (ns : List ℕ) → NumbersFrom renamings ns → Sound (left l) → Sound (right r) → AllByRecursion Sound (file_commands l r renamings ps)
file_sound l r [] ps ns h a b = (a, (b, pairs_sound ps))
file_sound l r (given ∷ []) ps ns h a b = (a, (b, (h.1, pairs_sound ps)))
file_sound l r (given ∷ others ∷ more) ps ns h a b = absurd h

pairs_end : (p : Phase) (ps : List Pair) → phase_behind p (map pair_of ps ++ end ∷ []) ≡ AfterEnd
pairs_end p [] = refl
pairs_end p (q ∷ ps) = pairs_end AmongPairs ps

file_end : (l r : List ℕ) (renamings : List (List ℕ)) (ps : List Pair) (ns : List ℕ) → NumbersFrom renamings ns → phase_behind BeforeLeft (file_commands l r renamings ps) ≡ AfterEnd
file_end l r [] ps ns h = pairs_end _ ps
file_end l r (given ∷ []) ps ns h = pairs_end AmongPairs ps
file_end l r (given ∷ others ∷ more) ps ns h = absurd h

ended_well : (bs : List ℕ) (m : Meaning) → Written bs m → Ended bs (Ok m)
ended_well bs m w = record {
  commands = file_commands w.left_bytes w.right_bytes w.renamings m.pairs;
  rest = [];
  front = record {
    split = w.whole ∙ sym (append-nil (encode (file_commands w.left_bytes w.right_bytes w.renamings m.pairs)));
    in_order = file_in_order w.left_bytes w.right_bytes w.renamings m.pairs m.numbers w.numbers;
    sized = w.sized;
    sound = file_sound w.left_bytes w.right_bytes w.renamings m.pairs m.numbers w.numbers (m.lefts, w.lefts) (m.rights, w.rights);
  };
  finish = accepted refl m refl w.renamings
      (record { left_bytes = w.left_bytes; right_bytes = w.right_bytes; commands = refl; lefts = w.lefts; rights = w.rights; numbers = w.numbers })
      (file_end w.left_bytes w.right_bytes w.renamings m.pairs m.numbers w.numbers);
}

ended_in : (bs : List ℕ) (c : Command) (place : ℕ) (q : Result Meaning FileFault) → FaultIn bs c place → FaultOf c place q → Ended bs q
ended_in bs c place q f fault = record {
  commands = f.front;
  rest = f.rest;
  front = f.before;
  finish = section c f.more f.stands (subst (λ n. FaultOf c n q) f.there fault);
}

too_long : {X : Type 0} (bs : List ℕ) → length bs ≤ most_bytes → most_bytes < length bs → X
too_long bs h k = absurd (omega arith)

ended : (bs : List ℕ) (q : Result Meaning FileFault) → length bs ≤ most_bytes → FileSays bs q → Ended bs q
ended bs (Ok m) short h = ended_well bs m h.1
ended bs (Err TooLong) short h = too_long bs short h
ended bs (Err (EndsEarly at)) short h =
    let i = h.1 in
    record { commands = i.0; rest = i.1; front = i.2; finish = early i.3 (ap (λ n. Err (EndsEarly n)) h.2) }
ended bs (Err (NotAllowed at)) short h =
    let i = h.1 in
    record { commands = i.0; rest = i.1; front = i.2; finish = forbidden i.3 (ap (λ n. Err (NotAllowed n)) i.4) }
ended bs (Err (InLeft f place)) short h = let i = h.1 in ended_in bs (left i.0) place _ i.1 (f, i.2, refl)
ended bs (Err (InRight f place)) short h = let i = h.1 in ended_in bs (right i.0) place _ i.1 (f, i.2, refl)
ended bs (Err (InNames f place)) short h = let i = h.1 in ended_in bs (rename i.0) place _ i.1 (f, i.2, refl)

-- where a reading ends no command with a sound section stands

nothing_stands : {X : Type 0} (c : Command) (rest more : List ℕ) → rest ≡ [] → rest ≡ written c ++ more → X
nothing_stands c rest more e f = let no = sym e ∙ f in cc

sound_or_not : {X : Type 0} (c : Command) (place : ℕ) (q : Result Meaning FileFault) → Sound c → FaultOf c place q → X
sound_or_not (left l) place q s f = let no = one_listing l (Ok s.0) (Err f.0) s.1 f.1 in cc
sound_or_not (right l) place q s f = let no = one_listing l (Ok s.0) (Err f.0) s.1 f.1 in cc
sound_or_not (rename ns) place q s f = let no = setting.one_answer ns (Ok tt) (Err f.0) s f.1 in cc
sound_or_not (pair a b) place q s f = absurd f
sound_or_not end place q s f = absurd f

not_forbidden : {X : Type 0} (p : Phase) (rest : List ℕ) (k : CommandKind) (more : List ℕ) → Forbidden p rest → Allowed p k → rest ≡ first_byte k ∷ more → X
not_forbidden p rest k more f a e = let byte : first_byte k ≡ f.0 = (let both = sym e ∙ f.2 in cc) in absurd (f.3 k byte a)

not_early : {X : Type 0} (p : Phase) (rest : List ℕ) (c : Command) (more : List ℕ) → EndsThere p rest → Stands p rest c more → X
not_early p rest c more (inl e) s = nothing_stands c rest more e.0 s.2
not_early p rest c more (inr e) s = absurd (e.4 c more s.1 s.2)

no_more : {X : Type 0} (bs : List ℕ) (cs : List Command) (rest : List ℕ) (q : Result Meaning FileFault) (c : Command) (more : List ℕ) → Finish bs cs rest q → Stands (phase_behind BeforeLeft cs) rest c more → Sound c → X
no_more bs cs rest q c more (accepted none m is renamings body over) s sound = nothing_stands c rest more none s.2
no_more bs cs rest q c more (early e is) s sound = not_early _ rest c more e s
no_more bs cs rest q c more (forbidden f is) s sound = not_forbidden _ rest (kind_of c) _ f s.0 s.2
no_more bs cs rest q c more (section d others t fault) s sound =
    let one = prefix_free c d more others s.1 t.1 (sym s.2 ∙ t.2) in
    sound_or_not d _ q (subst Sound one.0 sound) fault

-- so two readings of one file end at one place

all_at : (P : Command → Type 0) (cs : List Command) (c : Command) (more : List Command) → AllByRecursion P (cs ++ c ∷ more) → P c
all_at P [] c more h = h.0
all_at P (d ∷ cs) c more h = all_at P cs c more h.1

order_at : (p : Phase) (cs : List Command) (c : Command) (more : List Command) → InOrder p (cs ++ c ∷ more) → Allowed (phase_behind p cs) (kind_of c)
order_at p [] c more h = h.0
order_at p (d ∷ cs) c more h = order_at (phase_after (kind_of d)) cs c more h.1

passed : {X : Type 0} (bs : List ℕ) (cs ds : List Command) (us vs : List ℕ) (q : Result Meaning FileFault) (c : Command) (more : List Command) → Finish bs cs us q → Front bs ds vs → ds ≡ cs ++ c ∷ more → us ≡ written c ++ (encode more ++ vs) → X
passed bs cs ds us vs q c more finish front is there =
    no_more bs cs us q c (encode more ++ vs) finish
    (order_at BeforeLeft cs c more (subst (InOrder BeforeLeft) is front.in_order), all_at Sized cs c more (subst (AllByRecursion Sized) is front.sized), there)
    (all_at Sound cs c more (subst (AllByRecursion Sound) is front.sound))

-- and with one answer

same_commands : (bs xs : List ℕ) (cs ds : List listed.Command) → bs ≡ xs → ListingSays bs (Ok cs) → ListingSays xs (Ok ds) → cs ≡ ds
same_commands bs xs cs ds is h k =
    let one = one_listing xs (Ok cs) (Ok ds) (subst (λ l. ListingSays l (Ok cs)) is h) k in
    cc

same_fault : (l : List ℕ) (f g : ListingFault) → ListingSays l (Err f) → ListingSays l (Err g) → f ≡ g
same_fault l f g h k = let one = one_listing l (Err f) (Err g) h k in cc

one_fault : (c : Command) (place : ℕ) (q r : Result Meaning FileFault) → FaultOf c place q → FaultOf c place r → q ≡ r
one_fault (left l) place q r f g = f.2 ∙ ap (λ x. Err (InLeft x place)) (same_fault l f.0 g.0 f.1 g.1) ∙ sym g.2
one_fault (right l) place q r f g = f.2 ∙ ap (λ x. Err (InRight x place)) (same_fault l f.0 g.0 f.1 g.1) ∙ sym g.2
one_fault (rename ns) place q r f g =
    let one = setting.one_answer ns (Err f.0) (Err g.0) f.1 g.1 in
    f.2 ∙ ap (λ x. Err (InNames x place)) (let is : f.0 ≡ g.0 = cc in is) ∙ sym g.2
one_fault (pair a b) place q r f g = absurd f
one_fault end place q r f g = absurd f

same_pair : (p q : Pair) → pair_of p ≡ pair_of q → p ≡ q
same_pair p q e =
    let a : p.left ≡ q.left = cc in
    let b : p.right ≡ q.right = cc in
    ap (λ x. record { left = x; right = p.right }) a ∙ ap (λ x. record { left = q.left; right = x }) b

same_pairs : (ps qs : List Pair) → map pair_of ps ++ end ∷ [] ≡ map pair_of qs ++ end ∷ [] → ps ≡ qs
same_pairs [] [] e = refl
same_pairs [] (q ∷ qs) e = cc
same_pairs (p ∷ ps) [] e = cc
same_pairs (p ∷ ps) (q ∷ qs) e =
    let first : pair_of p ≡ pair_of q = cc in
    let more : map pair_of ps ++ end ∷ [] ≡ map pair_of qs ++ end ∷ [] = cc in
    ap (λ x. x ∷ ps) (same_pair p q first) ∙ ap (λ xs. q ∷ xs) (same_pairs ps qs more)

-- numbers and pairs behind the threads
same_behind : (rs ss : List (List ℕ)) (ps qs : List Pair) (ms ns : List ℕ) → NumbersFrom rs ms → NumbersFrom ss ns → map rename rs ++ (map pair_of ps ++ end ∷ []) ≡ map rename ss ++ (map pair_of qs ++ end ∷ []) → (ms ≡ ns) × (ps ≡ qs)
same_behind [] [] ps qs ms ns h k e = (h ∙ sym k, same_pairs ps qs e)
same_behind [] (s ∷ []) [] qs ms ns h k e = cc
same_behind [] (s ∷ []) (p ∷ ps) qs ms ns h k e = cc
same_behind [] (s ∷ t ∷ ss) ps qs ms ns h k e = absurd k
same_behind (r ∷ []) [] ps [] ms ns h k e = cc
same_behind (r ∷ []) [] ps (q ∷ qs) ms ns h k e = cc
same_behind (r ∷ []) (s ∷ []) ps qs ms ns h k e =
    let one : r ≡ s = cc in
    let more : map pair_of ps ++ end ∷ [] ≡ map pair_of qs ++ end ∷ [] = cc in
    (h.0 ∙ one ∙ sym k.0, same_pairs ps qs more)
same_behind (r ∷ []) (s ∷ t ∷ ss) ps qs ms ns h k e = absurd k
same_behind (r ∷ t ∷ rs) ss ps qs ms ns h k e = absurd h

made_of : {ls ls' rs rs' : List listed.Command} {ns ns' : List ℕ} {ps ps' : List Pair} → ls ≡ ls' → rs ≡ rs' → ns ≡ ns' → ps ≡ ps' → ◌≡◌ {A = Meaning} (record { lefts = ls; rights = rs; numbers = ns; pairs = ps }) (record { lefts = ls'; rights = rs'; numbers = ns'; pairs = ps' })
made_of a b c d = rw (a, b, c, d) refl

same_meaning : (cs : List Command) (m n : Meaning) (rs ss : List (List ℕ)) → Body cs m rs (end ∷ []) → Body cs n ss (end ∷ []) → m ≡ n
same_meaning cs m n rs ss a b =
    let both = sym a.commands ∙ b.commands in
    let l : a.left_bytes ≡ b.left_bytes = cc in
    let r : a.right_bytes ≡ b.right_bytes = cc in
    let tail : map rename rs ++ (map pair_of m.pairs ++ end ∷ []) ≡ map rename ss ++ (map pair_of n.pairs ++ end ∷ []) = cc in
    let rest = same_behind rs ss m.pairs n.pairs m.numbers n.numbers a.numbers b.numbers tail in
    made_of (same_commands a.left_bytes b.left_bytes m.lefts n.lefts l a.lefts b.lefts) (same_commands a.right_bytes b.right_bytes m.rights n.rights r a.rights b.rights) rest.0 rest.1

early_allowed : {X : Type 0} (p : Phase) (rest : List ℕ) → EndsThere p rest → Forbidden p rest → X
early_allowed p rest (inl e) f = let no = sym e.0 ∙ f.2 in cc
early_allowed p rest (inr e) f = not_forbidden p rest e.0 e.1 f e.3 e.2

not_over : {X : Type 0} (p : Phase) (rest : List ℕ) → p ≡ AfterEnd → rest ≡ [] → EndsThere p rest → X
not_over p rest over none (inl e) = absurd (e.1 over)
not_over p rest over none (inr e) = let no = sym none ∙ e.2 in cc

one_finish : (bs : List ℕ) (cs : List Command) (rest : List ℕ) (q r : Result Meaning FileFault) → Finish bs cs rest q → Finish bs cs rest r → q ≡ r
one_finish bs cs rest q r (accepted none m is rs body over) (accepted none' n is' ss body' over') = is ∙ ap (λ x. Ok x) (same_meaning cs m n rs ss body body') ∙ sym is'
one_finish bs cs rest q r (accepted none m is rs body over) (early e is') = not_over _ rest over none e
one_finish bs cs rest q r (accepted none m is rs body over) (forbidden f is') = let no = sym none ∙ f.2 in cc
one_finish bs cs rest q r (accepted none m is rs body over) (section c more s f) = nothing_stands c rest more none s.2
one_finish bs cs rest q r (early e is) (accepted none n is' ss body over) = not_over _ rest over none e
one_finish bs cs rest q r (early e is) (early e' is') = is ∙ sym is'
one_finish bs cs rest q r (early e is) (forbidden f is') = early_allowed _ rest e f
one_finish bs cs rest q r (early e is) (section c more s f) = not_early _ rest c more e s
one_finish bs cs rest q r (forbidden f is) (accepted none n is' ss body over) = let no = sym none ∙ f.2 in cc
one_finish bs cs rest q r (forbidden f is) (early e is') = early_allowed _ rest e f
one_finish bs cs rest q r (forbidden f is) (forbidden g is') = is ∙ sym is'
one_finish bs cs rest q r (forbidden f is) (section c more s fault) = not_forbidden _ rest (kind_of c) _ f s.0 s.2
one_finish bs cs rest q r (section c more s f) (accepted none n is' ss body over) = nothing_stands c rest more none s.2
one_finish bs cs rest q r (section c more s f) (early e is') = not_early _ rest c more e s
one_finish bs cs rest q r (section c more s fault) (forbidden f is') = not_forbidden _ rest (kind_of c) _ f s.0 s.2
one_finish bs cs rest q r (section c more s f) (section d others t g) =
    let one = prefix_free d c others more t.1 s.1 (sym t.2 ∙ s.2) in
    one_fault c _ q r f (subst (λ x. FaultOf x (length (encode cs) + header (kind_of x)) r) one.0 g)

one_end : (bs : List ℕ) (q r : Result Meaning FileFault) → Ended bs q → Ended bs r → q ≡ r
one_end bs q r a b = by (compare a.commands a.rest b.commands b.rest a.front.sized b.front.sized (sym a.front.split ∙ b.front.split))
  where
    by : Compared a.commands a.rest b.commands b.rest → q ≡ r
    by (same e f) = one_finish bs b.commands b.rest q r (subst (λ xs. Finish bs b.commands xs q) f (subst (λ cs. Finish bs cs a.rest q) e a.finish)) b.finish
    by (longer c more e f) = passed bs a.commands b.commands a.rest b.rest q c more a.finish b.front e f
    by (shorter c more e f) = passed bs b.commands a.commands b.rest a.rest r c more b.finish a.front e f

long : (bs : List ℕ) (q : Result Meaning FileFault) → most_bytes < length bs → FileSays bs q → q ≡ Err TooLong
long bs (Ok m) h k = too_long bs k.0 h
long bs (Err TooLong) h k = refl
long bs (Err (EndsEarly at)) h k = too_long bs k.0 h
long bs (Err (NotAllowed at)) h k = too_long bs k.0 h
long bs (Err (InLeft f place)) h k = too_long bs k.0 h
long bs (Err (InRight f place)) h k = too_long bs k.0 h
long bs (Err (InNames f place)) h k = too_long bs k.0 h

pub one_answer : (bs : List ℕ) (q r : Result Meaning FileFault) → FileSays bs q → FileSays bs r → q ≡ r
one_answer bs q r a b =
    ⊎_elim
    (λ over. long bs q over a ∙ sym (long bs r over b))
    (λ within. one_end bs q r (ended bs q within a) (ended bs r within b))
    (cases_lt most_bytes (length bs))

-- so a review holds what the only answer says, or what it held before

pub read_whole : (bs : List ℕ) (before after : Meaning) → FileSays bs (Ok after) → FileRead bs before (Ok tt) after
read_whole bs before after says = record { says = says; only = λ q h. one_answer bs q (Ok after) h says; stays = tt }

pub read_refused : (bs : List ℕ) (before : Meaning) (f : FileFault) → FileSays bs (Err f) → FileRead bs before (Err f) before
read_refused bs before f says = record { says = says; only = λ q h. one_answer bs q (Err f) h says; stays = refl }

pub files_read_back : FilesReadBack
files_read_back l r renamings pairs lefts rights ns q within sized left_is right_is numbers says =
    one_answer (encode (file_commands l r renamings pairs)) q _ says
    (within, record { left_bytes = l; right_bytes = r; renamings = renamings; whole = refl; sized = sized; lefts = left_is; rights = right_is; numbers = numbers })
