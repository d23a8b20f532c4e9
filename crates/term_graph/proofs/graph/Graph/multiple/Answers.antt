use Rattle.std.proofs.Common.{rules}
use Rattle.knox_words.specs.Bits.{IsWord}
use Rattle.term_graph.proofs.ChainLemmas.{multiple-word, multiple-opposite}
use Rattle.term_graph.proofs.graph.Graph.multiple.Goals as goal

pub returns-in-Some : goal.returns-in-Some
returns-in-Some c = multiple-word c.args.self.now c.args.t c.in-Some.c c.args.units.now.zero c.args.units.now.one c.in-Some.ensures c.requires.units

pub returns-in-Some-operand : goal.returns-in-Some-operand
returns-in-Some-operand c =
    let word : IsWord c.unsigned-c.result.0 = search rules in
    rw c.op1.ensures (multiple-opposite c.args.self.now c.args.t c.in-Some-operand.m c.unsigned-c.result.1 c.unsigned-c.result.0 word c.in-Some-operand.ensures c.unsigned-c.ensures)
