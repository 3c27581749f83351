-- Why bytes are refused, in the subject's words.
use Rattle.std.specs.Prelude.{◌≡◌, ℕ, ◌<◌, ◌≤◌, cond, List, [], ◌∷◌, ◌++◌, length, ◌==◌, nat_lt}
use Rattle.std.specs.List.{AllByRecursion}
use Rattle.readers.specs.declared.listing.command.Command.{Command}
use Rattle.readers.specs.declared.listing.fault.Wrong.{Wrong}
use Rattle.readers.specs.declared.listing.fault.Wrong.TheVariants.{NoBytes, TooManyCommands, UnknownCommand, CutOff, UnknownLock, MissingTarget, RunsOffTheEnd}
use Rattle.readers.specs.Encoding.{written, highest, encode, LockIsKnown, LeadsInside, MayEnd}
use Rattle.readers.specs.Flow.{most}

-- how many bytes of operands follow a command's byte
abbrev pub operands : ℕ → ℕ
operands b = cond (nat_lt b 2) 0 (cond (nat_lt b 4) 1 (cond (b == 4) 2 4))

-- what is wrong where n whole commands end and the rest begins
abbrev pub WrongThere : Wrong → ℕ → List ℕ → Type 0
WrongThere NoBytes n rest = ⊥
WrongThere TooManyCommands n rest = (n ≡ most) × (0 < length rest)
WrongThere (UnknownCommand b) n rest = (n < most) × ((more : List ℕ) × (rest ≡ b ∷ more) × (highest < b))
WrongThere (CutOff b) n rest = (n < most) × ((more : List ℕ) × (rest ≡ b ∷ more) × (b ≤ highest) × (length more < operands b))
WrongThere (UnknownLock c) n rest = (n < most) × ((more : List ℕ) × (rest ≡ written c ++ more) × (LockIsKnown c → ⊥))
WrongThere (MissingTarget c) n rest = ⊥
WrongThere (RunsOffTheEnd c) n rest = ⊥

-- whole commands stand before the place, and what is wrong is there
pub record WrongBytes (w : Wrong) (bs : List ℕ) (at : ℕ) : Type 0 where
  pub before : List Command
  pub rest : List ℕ
  pub split : bs ≡ encode before ++ rest
  pub locks_known : AllByRecursion LockIsKnown before
  pub place : at ≡ length (encode before)
  pub wrong : WrongThere w (length before) rest

-- a run of whole commands, within the limits
pub record WholeRun (bs : List ℕ) (cs : List Command) : Type 0 where
  pub some : 0 < length cs
  pub few : length cs ≤ most
  pub whole : bs ≡ encode cs
  pub locks_known : AllByRecursion LockIsKnown cs

-- c is the first command with a target that is no command
pub record LeadsOutside (cs : List Command) (c : Command) (at : ℕ) : Type 0 where
  pub front : List Command
  pub back : List Command
  pub split : cs ≡ front ++ c ∷ back
  pub place : at ≡ length (encode front)
  pub inside_before : AllByRecursion (LeadsInside (length cs)) front
  pub missing : LeadsInside (length cs) c → ⊥

-- all targets are commands, and the last command is c and leads on
pub record LeadsOn (cs : List Command) (c : Command) (at : ℕ) : Type 0 where
  pub front : List Command
  pub split : cs ≡ front ++ c ∷ []
  pub place : at ≡ length (encode front)
  pub all_inside : AllByRecursion (LeadsInside (length cs)) cs
  pub on : MayEnd c → ⊥

abbrev pub Refused : Wrong → List ℕ → ℕ → Type 0
Refused NoBytes bs at = (bs ≡ []) × (at ≡ 0)
Refused TooManyCommands bs at = WrongBytes TooManyCommands bs at
Refused (UnknownCommand b) bs at = WrongBytes (UnknownCommand b) bs at
Refused (CutOff b) bs at = WrongBytes (CutOff b) bs at
Refused (UnknownLock c) bs at = WrongBytes (UnknownLock c) bs at
Refused (MissingTarget c) bs at = (cs : List Command) × WholeRun bs cs × LeadsOutside cs c at
Refused (RunsOffTheEnd c) bs at = (cs : List Command) × WholeRun bs cs × LeadsOn cs c at
