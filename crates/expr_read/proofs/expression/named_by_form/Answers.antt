use Rattle.std.proofs.Common.{Result, subst}
use Rattle.expr_read.specs.declared.faults.LangFault.{LangFault}
use Rattle.expr_read.specs.declared.expression.Typed.{Typed}
use Rattle.expr_read.specs.Views.{Gives}
use Rattle.expr_read.proofs.Parts.{form-is}
use Rattle.expr_read.proofs.expression.named_by_form.Goals as goal

pub returns-in-len1 : goal.returns-in-len1
returns-in-len1 c =
    subst (λ (read : Result Typed LangFault). Gives c.named_symbol.result read) (form-is c.args.at c.args.group c.args.parts.now c.x-item.result c.args.names.now c.in-len1.len_at_least c.in-len1.len_below c.x-item.is) c.named_symbol.ensures
