use Rattle.std.proofs.Common.{refl, arith}
use Rattle.std.specs.Prelude.{Ok, Err}
use Rattle.std.proofs.lemmas.Result.{err_from_is_err_and}
use Rattle.readers.specs.Rows.{rows_graph}
use Rattle.readers.proofs.TableAnswers.{one_answer}
use Rattle.readers.proofs.TableLaws.{bounded, table_said}
use Rattle.readers.proofs.table.place.EdgeTable.read.Goals as goal

pub returns-in_err-check : goal.returns-in_err-check
returns-in_err-check c =
    let p = err_from_is_err_and c.from_residual.result c.from_residual.ensures.1 in
    rw (p.1, p.2) (record {
      says = c.in_err-check.ensures;
      only = λ q says. one_answer c.args.locations c.args.start c.args.records.now q (Err c.in_err-check.field-0.0) says c.in_err-check.ensures;
      holds = refl;
    })

pub invariant_of-self : goal.invariant_of-self
invariant_of-self c =
    let says = c.in_ok-check.ensures in
    record {
      room = omega (arith, c.fill.ensures.capacity, c.clear.ensures.capacity, c.args.self.now.room);
      sound =
          bounded c.args.locations c.args.start c.args.records.now (rows_graph c.args.start c.fill.new.rows.items) says.0 says.1 says.2 says.3
          (table_said _ _ _ _ c.fill.ensures.rows);
    }

pub returns : goal.returns
returns c = record {
  says = c.in_ok-check.ensures;
  only = λ q says. one_answer c.args.locations c.args.start c.args.records.now q (Ok tt) says c.in_ok-check.ensures;
  holds = table_said _ _ _ _ c.fill.ensures.rows;
}
