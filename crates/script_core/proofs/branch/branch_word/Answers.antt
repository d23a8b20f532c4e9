use Rattle.std.proofs.Common.{◌∙◌, ap, sym, ℕ}
use Rattle.knox_words.specs.Lists.{Words}
use Rattle.knox_theory.specs.Traces.{branch_word}
use Rattle.script_core.specs.declared.parts.Kind.TheVariants.{Call}
use Rattle.script_core.specs.Reached.{kind_course}
use Rattle.script_core.specs.Branches.{op_of_root}
use Rattle.script_core.specs.Hints.{script_fits}
use Rattle.script_core.proofs.Telling.{segment-undriven, call-segment}
use Rattle.script_core.proofs.branch.branch_word.Goals as goal

pub returns-in_default : goal.returns-in_default
returns-in_default c =
    let p = c.args.sc.now in
    let fits = ap (λ (n : ℕ). script_fits n p) c.requires.of ∙ c.parts-parts.ensures.form in
    c.new.ensures
    ∙ segment-undriven c.args.dev.now p fits c.args.g.0 (sym (c.op_of_root.ensures ∙ ap op_of_root c.root_of.ensures) ∙ c.in_default.is) c.args.ch.now.words

pub returns : goal.returns
returns c =
    let p = c.args.sc.now in
    let fits = ap (λ (n : ℕ). script_fits n p) c.requires.of ∙ c.parts-parts.ensures.form in
    c.in_ok-tests.ensures
    ∙ (ap (λ (ws : Words). branch_word (kind_course c.args.dev.now p (Call c.in-Some.op)) ws) c.as_slice.ensures
    ∙ call-segment c.args.dev.now p fits c.args.g.0 c.in-Some.op (sym (c.op_of_root.ensures ∙ ap op_of_root c.root_of.ensures) ∙ c.in-Some.is) c.args.ch.now.words)
