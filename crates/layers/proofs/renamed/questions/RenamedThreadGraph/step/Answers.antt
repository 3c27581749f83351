use Rattle.std.proofs.Common.{Some, ap}
use Rattle.layers.specs.Naming.{numbers_in}
use Rattle.layers.proofs.Renaming.{renamed_answer}
use Rattle.layers.proofs.renamed.questions.RenamedThreadGraph.step.Goals as goal

pub returns-in_err-step : goal.returns-in_err-step
returns-in_err-step g c =
    let r = c.args.self.now in
    renamed_answer (numbers_in r.names) (g.G.ThreadGraph.meaning r.graph) c.args.location c.args.choice _ _ c.from_residual.ensures c.in_err-step.ensures

pub returns : goal.returns
returns g c =
    let r = c.args.self.now in
    renamed_answer (numbers_in r.names) (g.G.ThreadGraph.meaning r.graph) c.args.location c.args.choice _ _ (ap Some c.renamed.ensures) c.in_ok-step.ensures
