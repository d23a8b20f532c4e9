use Rattle.std.proofs.Common.{◌∙◌, sym, arith}
use Rattle.script_core.proofs.Formed.{formed-for, segments-counted}
use Rattle.script_core.proofs.Listing.{segment-count}
use Rattle.script_core.proofs.script.Script.segments.Goals as goal

pub returns-clause-count : goal.returns-clause-count
returns-clause-count c =
    let all = segments-counted c.args.self.now c.parts-parts.ensures.form in
    omega (arith, all, c.hints.ensures.count)

pub returns-clause-all : goal.returns-clause-all
returns-clause-all c circuit s d e of =
    segment-count circuit s d e c.args.self.now (formed-for _ c.args.self.now of c.parts-parts.ensures.form) ∙ sym (returns-clause-count c)
