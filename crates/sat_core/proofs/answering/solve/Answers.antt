use Rattle.std.proofs.Common.{◌≡◌, length, arith, ◌∙◌, ap, subst}
use Rattle.knox_cnf.specs.Formulas.{is_within}
use Rattle.sat_core.specs.Answers.{RunsTo}
use Rattle.sat_core.proofs.SolvingLemmas.{model-answer}
use Rattle.sat_core.proofs.answering.solve.Goals as goal

pub turns-requires-clause-fits : goal.turns-requires-clause-fits
turns-requires-clause-fits c =
    let cs : c.as_slice.result.now ≡ c.in_ok-derivation.derivation.cnf.clauses = c.as_slice.ensures ∙ ap (λ f. f.clauses) c.cnf.ensures in
    let vars : c.in_ok-derivation.derivation.cnf ≡ c.args.cnf = ap (λ d. d.cnf) c.in_ok-derivation.ensures in
    c.in_ok-search.ensures.wide c.in_ok-derivation.derivation.cnf.vars (ap (is_within c.in_ok-derivation.derivation.cnf.vars) cs ∙ ap (λ f. is_within f.vars f.clauses) vars ∙ c.requires.within)

pub returns-in_ok-found-in-Model : goal.returns-in_ok-found-in-Model
returns-in_ok-found-in-Model c =
    let e : c.in_ok-derivation.derivation.cnf ≡ c.args.cnf = ap (λ d. d.cnf) c.in_ok-derivation.ensures in
    let u = subst (RunsTo c.in_ok-derivation.derivation.cnf c.args.budget c.turns.new.derivation c.turns.new.search) c.in-Model.is c.in_ok-turns.ensures in
    let same : c.turns.new.search.lists.len ≡ length c.turns.new.search.lists.items = c.turns.new.search.lists.ok.0 in
    let bound = c.turns.new.search.lists.ok.1 in
    let m = c.turns.new.search.lists.small in
    model-answer c.args.cnf c.turns.new.derivation c.turns.new.search c.cnf-in-Model.result.now.vars c.in_ok-found-in-Model.found.values (u.0 ∙ e) (ap (λ f. f.vars) (c.cnf-in-Model.ensures ∙ u.0 ∙ e)) (omega (arith, same, bound, m)) c.requires.within u.1 u.2 c.in_ok-found-in-Model.ensures
