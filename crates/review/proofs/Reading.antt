-- What is known of a file while it is read, and what the end of the reading says of it.
use Rattle.std.proofs.Common.{◌≡◌, ℕ, ◌+◌, ◌*◌, ◌≤◌, List, [], ◌∷◌, ◌++◌, length, Ok, Err, Result, sym, refl, ap, subst, ◌∙◌, arith, length-append, append-nil}
use Rattle.std.specs.List.{AllByRecursion}
use Rattle.std.proofs.lemmas.List.{nil_from_length}
use Rattle.layers.specs.Naming.{NumbersAnswer}
use Rattle.layers.specs.Numbers.{in_order}
use Rattle.readers.specs.Saying.{ListingSays, read_as}
use Rattle.review.specs.declared.file.fault.FileFault.{FileFault}
use Rattle.review.specs.declared.file.fault.FileFault.TheVariants.{TooLong, EndsEarly, NotAllowed, InLeft, InRight, InNames}
use Rattle.review.specs.declared.file.phase.Phase.TheVariants.{BeforeLeft, AfterEnd}
use Rattle.review.specs.declared.file.section.Section.{Section}
use Rattle.review.specs.declared.file.section.Section.TheVariants as code
use Rattle.review.specs.Commands.{Command, left, right, rename, kind_of, written, encode, Sized, header}
use Rattle.review.specs.Entering.{Entered, carried}
use Rattle.review.specs.Limits.{most_bytes}
use Rattle.review.specs.Order.{phase_behind}
use Rattle.review.specs.Readers.{Standing, StandsAt, TookOff, HandsOut}
use Rattle.review.specs.Reviews.{Meaning, Front, FaultIn, Written, FileSays}
use Rattle.review.specs.Sections.{command_of}
use Rattle.review.specs.Taking.{Forbidden, EndsThere, Stands}
use Rattle.review.proofs.Fronts.{Shape, front_more, phase_push, shape_more, sound_section}

-- the commands so far are the front of the file, and what they say was entered
pub record SoFar (bs : List ℕ) (s : Standing) (m : Meaning) : Type 0 where
  pub commands : List Command
  pub front : Front bs commands s.rest
  pub phase : s.phase ≡ phase_behind BeforeLeft commands
  pub size : s.size ≡ length bs
  pub short : length bs ≤ most_bytes
  pub shape : Shape s.phase commands m
  pub room : 5 * length m.pairs + length s.rest ≤ length bs

pub begins : (bs : List ℕ) (s : Standing) (m : Meaning) → length bs ≤ most_bytes → s ≡ record { phase = BeforeLeft; rest = bs; size = length bs } → m.numbers ≡ in_order → m.pairs ≡ [] → SoFar bs s m
begins bs s m short is numbers pairs =
    let none = ap length pairs in
    rw is (record {
      commands = [];
      front = record { split = refl; in_order = tt; sized = tt; sound = tt };
      phase = refl;
      size = refl;
      short = short;
      shape = (refl, numbers, pairs);
      room = omega arith;
    })

-- each pair takes five bytes
room_more : (x : Section) (m n : Meaning) (k : ℕ) (rest more : List ℕ) → Entered x m (Ok tt) n → rest ≡ written (command_of x) ++ more → 5 * length m.pairs + length rest ≤ k → 5 * length n.pairs + length more ≤ k
room_more (code.Left bytes place) m n k rest more e is h =
    let same = ap (λ i. length i.pairs) e.3 in
    let long = ap length is in
    let sum = length-append (written (left bytes.now)) more in
    omega arith
room_more (code.Right bytes place) m n k rest more e is h =
    let same = ap (λ i. length i.pairs) e.3 in
    let long = ap length is in
    let sum = length-append (written (right bytes.now)) more in
    omega arith
room_more (code.Rename numbers place) m n k rest more e is h =
    let same = ap (λ i. length i.pairs) e.3 in
    let long = ap length is in
    let sum = length-append (written (rename numbers.now)) more in
    omega arith
room_more (code.Pair a b) m n k rest more e is h =
    let same = ap (λ i. length i.pairs) e.1 in
    let one = length-append m.pairs (record { left = a; right = b } ∷ []) in
    let long = ap length is in
    omega arith
room_more code.End m n k rest more e is h =
    let same = ap (λ i. length i.pairs) e.1 in
    let long = ap length is in
    omega arith

stands_here : (bs : List ℕ) (s : Standing) (m : Meaning) (i : SoFar bs s m) (c : Command) (more : List ℕ) → Stands s.phase s.rest c more → Stands (phase_behind BeforeLeft i.commands) s.rest c more
stands_here bs s m i c more h = subst (λ p. Stands p s.rest c more) i.phase h

pub goes_on : (bs : List ℕ) (s t : Standing) (m n : Meaning) (x : Section) → SoFar bs s m → TookOff s x t → Entered x m (Ok tt) n → SoFar bs t n
goes_on bs s t m n x i took entered =
    let c = command_of x in
    let stands = took.command in
    record {
      commands = i.commands ++ c ∷ [];
      front = front_more bs i.commands s.rest c t.rest i.front (stands_here bs s m i c t.rest stands) (sound_section x m n entered);
      phase = took.phase ∙ sym (phase_push BeforeLeft i.commands c);
      size = took.size ∙ i.size;
      short = i.short;
      shape = subst (λ p. Shape p (i.commands ++ c ∷ []) n) (sym took.phase) (shape_more s.phase i.commands x m n stands.0 entered i.shape);
      room = room_more x m n (length bs) s.rest t.rest entered stands.2 i.room;
    }

-- the offset of what is left
offset : (bs : List ℕ) (s : Standing) (m : Meaning) (i : SoFar bs s m) → StandsAt s (length (encode i.commands))
offset bs s m i =
    let long = ap length i.front.split in
    let sum = length-append (encode i.commands) s.rest in
    let size = i.size in
    omega arith

-- the end

whole_written : (bs : List ℕ) (s : Standing) (m : Meaning) (i : SoFar bs s m) → s.rest ≡ [] → Shape AfterEnd i.commands m → Written bs m
whole_written bs s m i none shape =
    let b = shape.1 in
    record {
      left_bytes = b.left_bytes;
      right_bytes = b.right_bytes;
      renamings = shape.0;
      whole = i.front.split ∙ ap (λ xs. encode i.commands ++ xs) none ∙ append-nil (encode i.commands) ∙ ap encode b.commands;
      sized = subst (AllByRecursion Sized) b.commands i.front.sized;
      lefts = b.lefts;
      rights = b.rights;
      numbers = b.numbers;
    }

pub finished : (bs : List ℕ) (s : Standing) (m : Meaning) → SoFar bs s m → s.phase ≡ AfterEnd → length s.rest ≡ 0 → FileSays bs (Ok m)
finished bs s m i over none = (i.short, whole_written bs s m i (nil_from_length s.rest none) (subst (λ p. Shape p i.commands m) over i.shape))

-- a fault of the file itself

pub refused : (bs : List ℕ) (s t : Standing) (m : Meaning) (f : FileFault) → SoFar bs s m → HandsOut s (Err f) t → FileSays bs (Err f)
refused bs s t m (NotAllowed at) i h =
    let there = offset bs s m i in
    let here = h.1 in
    (i.short, (i.commands, s.rest, i.front, subst (λ p. Forbidden p s.rest) i.phase h.0, omega arith))
refused bs s t m (EndsEarly at) i h = (i.short, (i.commands, s.rest, i.front, subst (λ p. EndsThere p s.rest) i.phase h.0), h.1 ∙ i.size)
refused bs s t m TooLong i h = absurd h
refused bs s t m (InLeft f place) i h = absurd h
refused bs s t m (InRight f place) i h = absurd h
refused bs s t m (InNames f place) i h = absurd h

-- a fault in a section

fault_in : (bs : List ℕ) (s t : Standing) (m : Meaning) (x : Section) (place : ℕ) → (i : SoFar bs s m) → TookOff s x t → place ≡ length (encode i.commands) + header (kind_of (command_of x)) → FaultIn bs (command_of x) place
fault_in bs s t m x place i took there = record {
  front = i.commands;
  rest = s.rest;
  more = t.rest;
  before = i.front;
  stands = stands_here bs s m i (command_of x) t.rest took.command;
  there = there;
}

-- a fault that is carried is that of the section

carried_fault : {F : Type 0} (s : Result (Unit {0}) F) (as_file : F → FileFault) (f : FileFault) → Err f ≡ carried as_file s → (g : F) × (s ≡ Err g) × (f ≡ as_file g)
carried_fault (Ok u) as_file f e = cc
carried_fault (Err g) as_file f e = (g, refl, let is : f ≡ as_file g = cc in is)

pub faulty : (bs : List ℕ) (s t : Standing) (m n : Meaning) (x : Section) (f : FileFault) → SoFar bs s m → TookOff s x t → Entered x m (Err f) n → FileSays bs (Err f)
faulty bs s t m n (code.Left bytes place) f i took e =
    let g = carried_fault e.0 (λ g. InLeft g place) f e.1 in
    rw g.2 (i.short, (bytes.now, fault_in bs s t m (code.Left bytes place) place i took (took.place (length (encode i.commands)) (offset bs s m i)), subst (λ r. ListingSays bytes.now (read_as r n.lefts)) g.1 e.2.says))
faulty bs s t m n (code.Right bytes place) f i took e =
    let g = carried_fault e.0 (λ g. InRight g place) f e.1 in
    rw g.2 (i.short, (bytes.now, fault_in bs s t m (code.Right bytes place) place i took (took.place (length (encode i.commands)) (offset bs s m i)), subst (λ r. ListingSays bytes.now (read_as r n.rights)) g.1 e.2.says))
faulty bs s t m n (code.Rename numbers place) f i took e =
    let g = carried_fault e.0 (λ g. InNames g place) f e.1 in
    rw g.2 (i.short, (numbers.now, fault_in bs s t m (code.Rename numbers place) place i took (took.place (length (encode i.commands)) (offset bs s m i)), subst (NumbersAnswer numbers.now) g.1 e.2.says))
faulty bs s t m n (code.Pair a b) f i took e = let no = e.0 in cc
faulty bs s t m n code.End f i took e = let no = e.0 in cc
