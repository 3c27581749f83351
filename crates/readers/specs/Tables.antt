-- What the place of an edge table holds, before and after a reading.
use Rattle.std.specs.Prelude.{◌≡◌, ℕ, List, [], ◌∷◌, Ok, Err, Result, vec_items}
use Rattle.locks.specs.Graphs.{Graph, Bounded}
use Rattle.readers.specs.declared.table.fault.TableFault.{TableFault}
use Rattle.readers.specs.declared.table.place.EdgeTable.{EdgeTable}
use Rattle.readers.specs.declared.table.record.Record.{Record}
use Rattle.readers.specs.Records.{TableSays}
use Rattle.readers.specs.Rows.{rows_graph}
use Rattle.readers.specs.TableRefusals.{TableAnswers}

abbrev pub table_graph : EdgeTable → Graph
table_graph t = rows_graph t.start (vec_items t.rows)

-- one location without steps
abbrev pub bare_graph : Graph
bare_graph = record { start = 0; steps = [] ∷ [] }

-- what the place means afterwards: what the records say, or what it meant before
abbrev pub Holds : ℕ → ℕ → List Record → Graph → Result (Unit {0}) TableFault → Graph → Type 0
Holds n start rs before (Ok u) after = TableSays n start rs after
Holds n start rs before (Err f) after = after ≡ before

-- the answer is the one whose condition holds, no other answer's condition does, and a refusal leaves the place
pub record TableReads (n start : ℕ) (rs : List Record) (before : Graph) (r : Result (Unit {0}) TableFault) (after : Graph) : Type 0 where
  pub says : TableAnswers n start rs r
  pub only : (q : Result (Unit {0}) TableFault) → TableAnswers n start rs q → q ≡ r
  pub holds : Holds n start rs before r after

-- at most one graph is what the records say; the table is accepted where that one is within the bounds, and only there
pub record TablesSayOneGraph : Type 0 where
  pub one : (n start : ℕ) (rs : List Record) (G H : Graph) → TableSays n start rs G → TableSays n start rs H → G ≡ H
  pub within : (n start : ℕ) (rs : List Record) (G : Graph) → TableAnswers n start rs (Ok tt) → TableSays n start rs G → Bounded G
  pub exact : (n start : ℕ) (rs : List Record) (G : Graph) → TableSays n start rs G → Bounded G → TableAnswers n start rs (Ok tt)
