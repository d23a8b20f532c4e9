use Rattle.std.proofs.Common.{◌≡◌, ◌∙◌, ap, sym, subst, ℕ, Some, IfOk}
use Rattle.knox_theory.specs.Course.{Course}
use Rattle.script_core.specs.declared.parts.Root.TheVariants.{OfKind}
use Rattle.script_core.specs.Hints.{script_fits}
use Rattle.script_core.specs.Reached.{root_course}
use Rattle.script_core.specs.Runs.{reach, reach_of}
use Rattle.script_core.proofs.Rooted.{root-course, root-op}
use Rattle.script_core.proofs.run.run_over.Goals as goal

pub run_kind-requires-clause-op : goal.run_kind-requires-clause-op
run_kind-requires-clause-op c o call =
    let v = c.args.dev.now in
    let p = c.args.sc.now in
    let fits = ap (λ (n : ℕ). script_fits n p) c.requires.of ∙ c.parts-parts.ensures.form in
    root-op v p fits c.args.g.0 o (sym c.root_of.ensures ∙ (c.in-Some-OfKind.is ∙ ap Some (c.in-Some-OfKind.field-0-is ∙ ap OfKind call)))

pub returns-in-None-clause-run : goal.returns-in-None-clause-run
returns-in-None-clause-run c =
    let v = c.args.dev.now in
    let p = c.args.sc.now in
    let fits = ap (λ (n : ℕ). script_fits n p) c.requires.of ∙ c.parts-parts.ensures.form in
    sym (ap (λ (t : Course). reach t c.args.words.now) (root-course v p fits c.args.g.0 ∙ ap (root_course v p) (sym c.root_of.ensures ∙ c.in-None.is)))

pub returns-in-Some-OfCut-clause-run : goal.returns-in-Some-OfCut-clause-run
returns-in-Some-OfCut-clause-run c =
    let v = c.args.dev.now in
    let p = c.args.sc.now in
    let fits = ap (λ (n : ℕ). script_fits n p) c.requires.of ∙ c.parts-parts.ensures.form in
    let root = sym c.root_of.ensures ∙ (c.in-Some-OfCut.is ∙ ap Some c.in-Some-OfCut.field-0-is) in
    subst (λ (t : Course). IfOk c.run_cut.result (λ end. reach_of end ≡ reach t c.args.words.now)) (sym (root-course v p fits c.args.g.0 ∙ ap (root_course v p) root)) c.run_cut.ensures.run

pub returns-in-Some-OfKind-clause-run : goal.returns-in-Some-OfKind-clause-run
returns-in-Some-OfKind-clause-run c =
    let v = c.args.dev.now in
    let p = c.args.sc.now in
    let fits = ap (λ (n : ℕ). script_fits n p) c.requires.of ∙ c.parts-parts.ensures.form in
    let root = sym c.root_of.ensures ∙ (c.in-Some-OfKind.is ∙ ap Some c.in-Some-OfKind.field-0-is) in
    subst (λ (t : Course). IfOk c.run_kind.result (λ end. reach_of end ≡ reach t c.args.words.now)) (sym (root-course v p fits c.args.g.0 ∙ ap (root_course v p) root)) c.run_kind.ensures.run
