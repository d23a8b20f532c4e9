use Rattle.std.proofs.Common.{rules, ◌≡◌, ◌==◌, true, false, sym, ◌∙◌}
use Rattle.term_graph.specs.Value.{width_of}
use Rattle.term_graph.proofs.ChoiceLemmas.{chooses-last_zero, chooses-last_one, chooses-first_zero, chooses-first_one}
use Rattle.term_graph.proofs.graph.Graph.bit_choice.Goals as goal

pub returns-then-value-eq0 : goal.returns-then-value-eq0
returns-then-value-eq0 c =
    let bit : width_of c.args.self.now c.args.a ≡ 1 = search rules in
    let test : (c.in-Some.y.value == 0) ≡ true = search rules in
    chooses-last_zero c.args.self.now c.args.c c.args.a c.args.b c.in-Some.y c.requires.bit bit (sym c.requires.same ∙ bit) c.requires.first c.in-Some.ensures test

pub returns-in-Some : goal.returns-in-Some
returns-in-Some c =
    let bit : width_of c.args.self.now c.args.a ≡ 1 = search rules in
    let test : (c.in-Some.y.value == 0) ≡ false = search rules in
    chooses-last_one c.args.self.now c.args.c c.args.a c.args.b c.in-Some.y c.requires.bit bit (sym c.requires.same ∙ bit) c.requires.first c.in-Some.ensures test

pub returns-then-value-eq0-2 : goal.returns-then-value-eq0-2
returns-then-value-eq0-2 c =
    let bit : width_of c.args.self.now c.args.a ≡ 1 = search rules in
    let test : (c.in-Some-constant.x.value == 0) ≡ true = search rules in
    chooses-first_zero c.args.self.now c.args.c c.args.a c.args.b c.in-Some-constant.x c.requires.bit bit (sym c.requires.same ∙ bit) c.requires.second c.in-Some-constant.ensures test

pub returns-in-Some-constant : goal.returns-in-Some-constant
returns-in-Some-constant c =
    let bit : width_of c.args.self.now c.args.a ≡ 1 = search rules in
    let test : (c.in-Some-constant.x.value == 0) ≡ false = search rules in
    chooses-first_one c.args.self.now c.args.c c.args.a c.args.b c.in-Some-constant.x c.requires.bit bit (sym c.requires.same ∙ bit) c.requires.second c.in-Some-constant.ensures test
