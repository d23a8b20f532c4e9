use Rattle.std.proofs.Common.{◌≡◌, ◌++◌, drop}
use Rattle.expr_read.specs.Names.{field_names}
use Rattle.expr_read.proofs.names.declare_fields.Given as goal

abbrev pub invariant-loop-field : goal.invariant-loop-field
invariant-loop-field l = l.names ++ field_names l.space (drop l.field-index l.fields) ≡ l.initial.names ++ field_names l.space l.fields
