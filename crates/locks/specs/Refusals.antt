-- The parts of the tool that refuse, by name.
use Rattle.std.specs.Prelude.{ℕ, List, ◌++◌, codes, decimal}
use Rattle.locks.specs.declared.refusals.Part.{Part}
use Rattle.locks.specs.declared.refusals.Refusal.{Refusal}
use Rattle.locks.specs.declared.refusals.Part.TheVariants.{Listing, Table, Names, Summarise, Ask, Replay, File, Line}

abbrev pub part_name : Part → List ℕ
part_name Listing = codes "listing"
part_name Table = codes "table"
part_name Names = codes "names"
part_name Summarise = codes "summarise"
part_name Ask = codes "ask"
part_name Replay = codes "replay"
part_name File = codes "file"
part_name Line = codes "line"

-- how a refusal is printed
abbrev pub refusal_text : Refusal → List ℕ
refusal_text r =
    codes "refused " ++ (decimal r.number ++ (codes " at " ++ (decimal r.place ++ (codes " in " ++ part_name r.part))))
