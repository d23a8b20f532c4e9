use Rattle.std.proofs.Common.{◌≡◌, ◌++◌, drop}
use Rattle.lang_read.specs.Drivers.{keep_from}
use Rattle.lang_read.proofs.driver.kept.Given as goal

abbrev pub invariant-loop-cell : goal.invariant-loop-cell
invariant-loop-cell l = (l.number ≡ l.cell-index) × (l.keep ++ keep_from l.number (drop l.cell-index l.cells) l.numbers ≡ keep_from 0 l.cells l.numbers)
