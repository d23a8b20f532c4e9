use Rattle.script_core.proofs.Formed.{formed-for}
use Rattle.script_core.proofs.Listing.{scripted, all-differ}
use Rattle.script_core.proofs.laws.scripts_are_formed.Goals as goal

pub returns-clause-script : goal.returns-clause-script
returns-clause-script c circuit s d e of = scripted circuit s d e c.args.sc.now (formed-for _ c.args.sc.now of c.parts-parts.ensures.form)

pub returns-clause-differ : goal.returns-clause-differ
returns-clause-differ c circuit s d e of = all-differ circuit s d e c.args.sc.now (formed-for _ c.args.sc.now of c.parts-parts.ensures.form)
