-- Where a driver stands between two parts of its body. The project's own.
use Rattle.std.specs.Prelude.{◌≡◌, List, [], ◌++◌}
use Rattle.knox_lang.specs.declared.expr.Stmt.{Stmt}
use Rattle.driver_machine.specs.declared.position.Way.{Way}
use Rattle.driver_machine.specs.declared.position.Way.TheVariants as way
use Rattle.driver_machine.specs.declared.position.Position.{Position}
use Rattle.driver_machine.specs.declared.settle.Stand.{Stand}
use Rattle.driver_machine.specs.declared.settle.Stand.TheVariants as stand
use Rattle.driver_machine.specs.Place.{items_left, after_list, IsAtWhile, IsAtStatement}

-- a list in the statement that was begun last has ended
abbrev pub Resumes : List Stmt → Position → Way → Position → Stand → Type 0
Resumes ss p w p' stand.AtEnd = (after_list ss p w ≡ []) × (p' ≡ p)
Resumes ss p w p' stand.Statement = (items_left ss p' ≡ after_list ss p w ++ items_left ss p) × IsAtStatement ss p'
Resumes ss p w p' (stand.Test j) = (p' ≡ p) × (w ≡ way.While j) × IsAtWhile ss p

abbrev pub Settles : List Stmt → Position → Position → Stand → Type 0
Settles ss p p' stand.AtEnd = items_left ss p ≡ []
Settles ss p p' stand.Statement = (items_left ss p' ≡ items_left ss p) × IsAtStatement ss p'
Settles ss p p' (stand.Test j) = (items_left ss p ≡ after_list ss p' (way.While j) ++ items_left ss p') × IsAtWhile ss p'
