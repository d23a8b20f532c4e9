use Rattle.std.proofs.Common.{ℕ, List, Bor, sym, ◌∙◌}
use Rattle.operator_names.proofs.NamedLemmas.{named-here, named-past}
use Rattle.operator_names.proofs.names.named.Goals as goal

pub returns-then-eq : goal.returns-then-eq
returns-then-eq g c =
    sym (named-here (λ (e : Bor (List ℕ) × g.row.T.Denot). (e.0.now, e.1)) c.args.table.now c.loop-k.k c.index-table-k.result c.index-table-k-then-eq.result c.args.word.now c.loop-k-test.true (sym c.if-eq.ensures)) ∙ c.loop-k.invariant

pub loop-k-preserved : goal.loop-k-preserved
loop-k-preserved g c =
    sym (named-past (λ (e : Bor (List ℕ) × g.row.T.Denot). (e.0.now, e.1)) c.args.table.now c.loop-k.k c.index-table-k.result c.args.word.now c.loop-k-test.true (sym c.if-eq.ensures)) ∙ c.loop-k.invariant
