use Rattle.std.proofs.Common.{refl}
use Rattle.script_core.proofs.EachKind.{too-few, other-count, right-count}
use Rattle.script_core.proofs.form.are_of.Goals as goal

pub returns-then-count-lt5 : goal.returns-then-count-lt5
returns-then-count-lt5 c = too-few c.args.ops _ c.args.sections.now refl c.if-count-lt5.true

pub returns-then-count-ops : goal.returns-then-count-ops
returns-then-count-ops c = other-count c.args.ops _ c.args.sections.now refl c.if-count-lt5.false c.if-count-ops.true

pub returns : goal.returns
returns c = right-count c.args.ops _ c.are_apart.result c.args.sections.now refl c.if-count-lt5.false c.if-count-ops.false c.are_apart.ensures
