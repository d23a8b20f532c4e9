use Rattle.operator_names.proofs.NamesLemmas.{op1_named-only, op2_named-only, op1_named-op2_named}
use Rattle.operator_names.proofs.laws.operators_have_one_name.Goals as goal

pub returns : goal.returns
returns c = record { one = op1_named-only; two = op2_named-only; apart = op1_named-op2_named }
