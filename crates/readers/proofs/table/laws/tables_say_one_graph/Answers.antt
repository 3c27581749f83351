use Rattle.readers.proofs.TableLaws.{tables_say_one_graph}
use Rattle.readers.proofs.table.laws.tables_say_one_graph.Goals as goal

pub returns : goal.returns
returns c = tables_say_one_graph
