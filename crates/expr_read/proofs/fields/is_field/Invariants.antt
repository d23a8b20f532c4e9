use Rattle.std.proofs.Common.{◌≡◌, drop}
use Rattle.expr_read.specs.Fields.{is_field}
use Rattle.expr_read.proofs.fields.is_field.Given as goal

abbrev pub invariant-loop-field : goal.invariant-loop-field
invariant-loop-field l = is_field l.name (drop l.field-index l.fields) ≡ is_field l.name l.fields
