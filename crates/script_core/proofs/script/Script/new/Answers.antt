use Rattle.std.proofs.Common.{sym, ◌∙◌}
use Rattle.script_core.proofs.Formed.{fits-own}
use Rattle.script_core.proofs.script.Script.new.Goals as goal

pub invariant_of-result : goal.invariant_of-result
invariant_of-result c = fits-own _ c.args.parts (sym c.fits_script.ensures ∙ c.if-fits_script.true)
