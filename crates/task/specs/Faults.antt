-- What each fault is called.
use Rattle.std.specs.Prelude.{ℕ, List, ◌++◌, codes, decimal}
use Rattle.task.specs.declared.fault.TextFault.{TextFault}
use Rattle.task.specs.declared.fault.Wrong.{Wrong}
use Rattle.task.specs.declared.fault.Wrong.TheVariants.{Missing, Keyword, Byte, Number, Move, TooMany, Surplus}

abbrev pub phrase : Wrong → List ℕ
phrase Missing = codes "the text ends before this line"
phrase Keyword = codes "the line does not begin with its word"
phrase Byte = codes "a byte is not two hexadecimal digits"
phrase Number = codes "not two numbers below 4294967296"
phrase Move = codes "a move is not L or R with its number"
phrase TooMany = codes "more than 4096 items"
phrase Surplus = codes "there is text after the fourth line"

abbrev pub fault_text : TextFault → List ℕ
fault_text fault = codes "line " ++ decimal fault.line ++ codes ": " ++ phrase fault.wrong
