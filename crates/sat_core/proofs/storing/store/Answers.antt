use Rattle.std.proofs.Common.{rules, ◌≡◌, ◌∙◌, ◌++◌, ◌∷◌, [], length, sym, ap, subst, take}
use Rattle.std.proofs.lemmas.List.{get_or_read}
use Rattle.std.proofs.Math.Seq.{take-suc}
use Rattle.sat_core.specs.Storing.{IsSetOf}
use Rattle.sat_core.proofs.StoringLemmas.{stores-step, set-fits}
use Rattle.sat_core.proofs.storing.store.Goals as goal

pub list_clause-requires : goal.list_clause-requires
list_clause-requires c =
    set-fits c.args.clauses.now c.loop-clause.clause-index (length c.args.lists.now) (length c.loop-clause.lists) c.clause-item.result c.lits.result.now c.lits-in-loop-clause.result.now
    c.requires (get_or_read c.args.clauses.now c.loop-clause.clause-index c.clause-item.result c.loop-clause-test.true c.clause-item.is []) c.lits.ensures (subst (IsSetOf c.lits.result.now) (sym c.lits-in-loop-clause.ensures) c.in_ok-set.ensures.set) c.loop-clause.invariant.1.long

pub loop-clause-preserved : goal.loop-clause-preserved
loop-clause-preserved c =
    let long : c.len.result ≡ length c.loop-clause.stored.items = search rules in (
      c.in_ok-set.ensures.clear,
      stores-step c.args.clauses.now c.loop-clause.stored.items c.push.new.self.items c.loop-clause.lists c.list_clause.new.lists c.loop-clause.clause-index (length c.args.lists.now) c.len.result c.clause-item.result c.lits.result.now c.in_ok-set.set c.lits-in-loop-clause.result.now
          (take-suc c.args.clauses.now c.loop-clause.clause-index c.clause-item.result c.loop-clause-test.true ∙ ap (λ l. take c.loop-clause.clause-index c.args.clauses.now ++ l ∷ []) (sym c.clause-item.is))
          c.loop-clause.invariant.1 c.lits.ensures c.in_ok-set.ensures.set long c.lits-in-loop-clause.ensures c.in_ok-list_clause.ensures c.in_ok-push.ensures.items,
    )
