use Rattle.std.proofs.Common.{rules, ◌≡◌, true}
use Rattle.term_graph.specs.Kept.{IsAlways}
use Rattle.term_graph.specs.Value.{width_of}
use Rattle.term_graph.specs.Rules.{is_equality}
use Rattle.term_graph.proofs.ExtendLemmas.{narrows-uext, narrows-sext}
use Rattle.term_graph.proofs.graph.Graph.narrowed.Goals as goal

pub returns-in-Uext : goal.returns-in-Uext
returns-in-Uext c =
    let is : IsAlways c.args.self.now c.args.a c.in_ok-c.c = c.in_ok-c.ensures in
    let equality : is_equality c.args.o ≡ true = search rules in
    let same : c.in_ok-c.c.width ≡ width_of c.args.self.now c.args.b = search rules in
    rw c.shortened.ensures (narrows-uext c.args.self.now c.args.o c.args.a c.args.b c.in-Uext.x c.in-Uext.n c.in_ok-c.c c.in-Uext.ensures.graph.built c.in-Uext.ensures.node c.requires.second equality is same)

pub returns-in-Sext : goal.returns-in-Sext
returns-in-Sext c =
    let is : IsAlways c.args.self.now c.args.a c.in_ok-c.c = c.in_ok-c.ensures in
    let equality : is_equality c.args.o ≡ true = search rules in
    let same : c.in_ok-c.c.width ≡ width_of c.args.self.now c.args.b = search rules in
    rw c.shortened-in-Sext.ensures (narrows-sext c.args.self.now c.args.o c.args.a c.args.b c.in-Sext.x c.in-Sext.n c.in_ok-c.c c.in-Sext.ensures.graph.built c.in-Sext.ensures.node c.requires.second equality is same)
