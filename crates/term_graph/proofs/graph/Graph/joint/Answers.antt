use Rattle.std.proofs.Common.{ap, sym, ◌∙◌}
use Rattle.knox_words.specs.Bits.{Bits}
use Rattle.term_graph.proofs.FoldLemmas.{keeps-on, keeps-within, keeps-width}
use Rattle.term_graph.proofs.NestLemmas.{gives-joint}
use Rattle.term_graph.proofs.graph.Graph.joint.Goals as goal

pub choice-requires-clause-first : goal.choice-requires-clause-first
choice-requires-clause-first c = keeps-within c.args.self.now c.bin.new.self c.args.a c.bin.ensures.kept c.requires.first

pub choice-requires-clause-second : goal.choice-requires-clause-second
choice-requires-clause-second c = keeps-within c.args.self.now c.bin.new.self c.args.b c.bin.ensures.kept c.requires.second

pub choice-requires-clause-bit : goal.choice-requires-clause-bit
choice-requires-clause-bit c = ap (λ (x : Bits). x.width) (c.in_ok-e.ensures.value.gives _) ∙ c.requires.bit

pub choice-requires-clause-same : goal.choice-requires-clause-same
choice-requires-clause-same c = keeps-width c.args.self.now c.bin.new.self c.args.a c.bin.ensures.kept c.requires.first ∙ (c.requires.same ∙ sym (keeps-width c.args.self.now c.bin.new.self c.args.b c.bin.ensures.kept c.requires.second))

pub returns-clause-kept : goal.returns-clause-kept
returns-clause-kept c = keeps-on c.args.self.now c.bin.new.self c.choice.new.self c.bin.ensures.kept c.choice.ensures.kept

pub returns-clause-value : goal.returns-clause-value
returns-clause-value c = gives-joint c.args.self.now c.bin.new.self c.choice.new.self c.in_ok-t.t c.in_ok-e.e c.args.a c.args.b _ c.bin.ensures.kept c.requires.first c.requires.second c.in_ok-e.ensures.value c.in_ok-t.ensures.value

pub returns-in_err-t-clause-kept : goal.returns-in_err-t-clause-kept
returns-in_err-t-clause-kept c = keeps-on c.args.self.now c.bin.new.self c.choice.new.self c.bin.ensures.kept c.choice.ensures.kept
