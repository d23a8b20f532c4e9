use Rattle.std.proofs.Common.{subst, None, Some}
use Rattle.sat_core.specs.Plain.{clauses_of}
use Rattle.sat_core.specs.Storing.{Finishes}
use Rattle.sat_core.proofs.PropagatedLemmas.{same-then, search-forced, search-quiet, search-false, forced-view, ends-view}
use Rattle.sat_core.proofs.SearchLemmas.{sound-of}
use Rattle.sat_core.proofs.solver.Solver.propagate.Goals as goal

pub propagate_search-requires : goal.propagate_search-requires
propagate_search-requires c = (sound-of c.self.inside.broken c.self.inside.derivation c.self.inside.search c.if-self.false c.self.invariant).search

pub returns-in_default-clause-appended : goal.returns-in_default-clause-appended
returns-in_default-clause-appended c =
    let s = sound-of c.self.inside.broken c.self.inside.derivation c.self.inside.search c.if-self.false c.self.invariant in
    forced-view c.args.self.now c.self.inside.derivation c.self.inside.search.trail c.propagate_search.new.search.trail c.self.view_is
    (search-forced (clauses_of c.self.inside.derivation) c.self.inside.search.stored.items c.self.inside.search.trail c.propagate_search.new.search.trail s.same c.in_ok-conflict.ensures.appends)

pub returns-in_default-clause-ends : goal.returns-in_default-clause-ends
returns-in_default-clause-ends c =
    let s = sound-of c.self.inside.broken c.self.inside.derivation c.self.inside.search c.if-self.false c.self.invariant in
    let k = c.in_ok-conflict.ensures.search in
    ends-view c.args.self.now c.self.inside.derivation c.self.inside.search.trail c.propagate_search.new.search.trail None c.self.view_is
    (search-quiet c.self.inside.derivation c.propagate_search.new.search.stored.items c.propagate_search.new.search.lists.items c.propagate_search.new.search.trail c.propagate_search.new.search.done
    (same-then (clauses_of c.self.inside.derivation) c.self.inside.search.stored.items c.propagate_search.new.search.stored.items s.same c.in_ok-conflict.ensures.same) k.ready k.consistent
    (subst (Finishes c.propagate_search.new.search.stored.items c.propagate_search.new.search.trail) c.in_default.is c.in_ok-conflict.ensures.finishes))

pub returns-clause-appended : goal.returns-clause-appended
returns-clause-appended c =
    let s = sound-of c.self.inside.broken c.self.inside.derivation c.self.inside.search c.if-self.false c.self.invariant in
    forced-view c.args.self.now c.self.inside.derivation c.self.inside.search.trail c.propagate_search.new.search.trail c.self.view_is
    (search-forced (clauses_of c.self.inside.derivation) c.self.inside.search.stored.items c.self.inside.search.trail c.propagate_search.new.search.trail s.same c.in_ok-conflict.ensures.appends)

pub returns-clause-ends : goal.returns-clause-ends
returns-clause-ends c =
    let s = sound-of c.self.inside.broken c.self.inside.derivation c.self.inside.search c.if-self.false c.self.invariant in
    ends-view c.args.self.now c.self.inside.derivation c.self.inside.search.trail c.propagate_search.new.search.trail (Some c.id_at.result) c.self.view_is
    (search-false c.self.inside.derivation c.propagate_search.new.search.stored.items c.propagate_search.new.search.trail c.in-Some.place c.id_at.result s.plain
    (same-then (clauses_of c.self.inside.derivation) c.self.inside.search.stored.items c.propagate_search.new.search.stored.items s.same c.in_ok-conflict.ensures.same) c.id_at.ensures
    (subst (Finishes c.propagate_search.new.search.stored.items c.propagate_search.new.search.trail) c.in-Some.is c.in_ok-conflict.ensures.finishes))
