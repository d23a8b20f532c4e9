use Rattle.std.proofs.Common.{Result, subst}
use Rattle.expr_read.specs.declared.faults.LangFault.{LangFault}
use Rattle.expr_read.specs.declared.expression.Typed.{Typed}
use Rattle.expr_read.specs.Views.{Gives}
use Rattle.expr_read.proofs.Parts.{bv-is}
use Rattle.expr_read.proofs.expression.bv.Goals as goal

pub returns-in-len2 : goal.returns-in-len2
returns-in-len2 c =
    subst (λ (read : Result Typed LangFault). Gives c.bv_word.result read) (bv-is c.args.at c.args.parts.now c.width-item.result c.number-item.result c.in-len2.len_at_least c.in-len2.len_below c.width-item.is c.number-item.is) c.bv_word.ensures
