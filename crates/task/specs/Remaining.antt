-- What an iterator has still to give.
use Rattle.std.specs.Prelude.{ℕ, List, [], Some, None, Option}
use Rattle.std.specs.Borrow.{Bor}
use Rattle.task.specs.declared.pieces.Lines.{Lines}
use Rattle.task.specs.declared.pieces.Words.{Words}
use Rattle.task.specs.Pieces.{lines, words}

abbrev pub lines_left : Lines → List (List ℕ)
lines_left it = lines it.rest.now

-- the words of what follows a space, if one was there
abbrev pub words_of : Option (Bor (List ℕ)) → List (List ℕ)
words_of None = []
words_of (Some rest) = words rest.now

abbrev pub words_left : Words → List (List ℕ)
words_left it = words_of it.rest
