use Rattle.std.proofs.Common.{rules, ◌≡◌, true}
use Rattle.knox_words.specs.Ops.{op1_value}
use Rattle.knox_words.specs.declared.op.Op1.TheVariants.{Not}
use Rattle.term_graph.specs.Chains.{links, Splits}
use Rattle.term_graph.specs.declared.chain.Chain.TheVariants.{Sum}
use Rattle.term_graph.proofs.ChainLemmas.{splits-linked, operand-sum}
use Rattle.term_graph.proofs.graph.Graph.complement_in.Goals as goal

pub constant-requires : goal.constant-requires
constant-requires c =
    let linked : links Sum c.in-Bin.o ≡ true = search rules in
    (splits-linked c.args.self.now Sum c.args.t c.in-Bin.c c.in-Bin.n c.in-Bin.o c.in-Bin.ensures.graph.built c.in-Bin.ensures.node c.requires linked).first

pub operand-requires : goal.operand-requires
operand-requires c =
    let linked : links Sum c.in-Bin.o ≡ true = search rules in
    (splits-linked c.args.self.now Sum c.args.t c.in-Bin.c c.in-Bin.n c.in-Bin.o c.in-Bin.ensures.graph.built c.in-Bin.ensures.node c.requires linked).last

pub returns-in_ok-y-in-Bin : goal.returns-in_ok-y-in-Bin
returns-in_ok-y-in-Bin c =
    let linked : links Sum c.in-Bin.o ≡ true = search rules in
    let ones : (op1_value Not c.in_ok-w-in-Bin.w).value ≡ 0 = search rules in
    let parts : Splits c.args.self.now Sum c.args.t c.in-Bin.c c.in-Bin.n = splits-linked c.args.self.now Sum c.args.t c.in-Bin.c c.in-Bin.n c.in-Bin.o c.in-Bin.ensures.graph.built c.in-Bin.ensures.node c.requires linked in
    operand-sum c.args.self.now c.args.t c.in-Bin.c c.in-Bin.n c.in_ok-y-in-Bin.y c.in_ok-w-in-Bin.w parts c.in_ok-w-in-Bin.ensures ones c.in_ok-y-in-Bin.ensures
