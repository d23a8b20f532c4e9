use Rattle.term_graph.proofs.NestLemmas.{is-choice}
use Rattle.term_graph.proofs.graph.Graph.arms.Goals as goal

pub returns-in-Ite : goal.returns-in-Ite
returns-in-Ite c = is-choice c.args.self.now c.args.t c.in-Ite.condition c.in-Ite.first c.in-Ite.second c.in-Ite.ensures.graph.built c.in-Ite.ensures.node c.requires
