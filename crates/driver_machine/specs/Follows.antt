-- What follows a list in its statement. The project's own.
use Rattle.std.specs.Prelude.{◌+◌, nat_lt, ◌&&◌, if◌then◌else◌, length}
use Rattle.knox_lang.specs.declared.expr.Stmt.{Stmt}
use Rattle.knox_lang.specs.declared.expr.Stmt.TheOpen.{Stmt-F}
use Rattle.driver_machine.specs.declared.position.Way.{Way}
use Rattle.driver_machine.specs.declared.position.Way.TheVariants as way
use Rattle.driver_machine.specs.declared.settle.Follow.{Follow}
use Rattle.driver_machine.specs.declared.settle.Follow.TheVariants as follow

abbrev pub follow_of : Way → Stmt-F Stmt → Follow
follow_of (way.Turn k) (Stmt-F.For w n list) = if nat_lt (k + 1) n && nat_lt 0 (length list) then follow.Turn (k + 1) else follow.Nothing
follow_of (way.While j) (Stmt-F.While e n list) = follow.Test j
follow_of _ _ = follow.Nothing
