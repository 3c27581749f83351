-- Which commands may stand where: LEFT, RIGHT, at most one RENAME, any number of PAIR, END, and nothing after it.
use Rattle.std.specs.Prelude.{◌≡◌, ◌⊎◌, List, [], ◌∷◌}
use Rattle.review.specs.declared.file.phase.Phase.{Phase}
use Rattle.review.specs.declared.file.phase.Phase.TheVariants.{BeforeLeft, BeforeRight, AfterRight, AmongPairs, AfterEnd}
use Rattle.review.specs.declared.file.kind.CommandKind.{CommandKind}
use Rattle.review.specs.declared.file.kind.CommandKind.TheVariants.{Left, Right, Pair, Rename, End}
use Rattle.review.specs.Commands.{Command, kind_of}

-- a command of this kind may stand next
abbrev pub Allowed : Phase → CommandKind → Type 0
Allowed BeforeLeft k = k ≡ Left
Allowed BeforeRight k = k ≡ Right
Allowed AfterRight k = (k ≡ Rename) ⊎ ((k ≡ Pair) ⊎ (k ≡ End))
Allowed AmongPairs k = (k ≡ Pair) ⊎ (k ≡ End)
Allowed AfterEnd k = ⊥

abbrev pub phase_after : CommandKind → Phase
phase_after Left = BeforeRight
phase_after Right = AfterRight
phase_after Rename = AmongPairs
phase_after Pair = AmongPairs
phase_after End = AfterEnd

-- the phase after some commands
abbrev pub phase_behind : Phase → List Command → Phase
phase_behind p [] = p
phase_behind p (c ∷ cs) = phase_behind (phase_after (kind_of c)) cs

-- each command may stand behind those before it
abbrev pub InOrder : Phase → List Command → Type 0
InOrder p [] = Unit {0}
InOrder p (c ∷ cs) = Allowed p (kind_of c) × InOrder (phase_after (kind_of c)) cs
