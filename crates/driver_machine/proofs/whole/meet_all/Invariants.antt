use Rattle.std.proofs.Common.{◌≡◌, ◌++◌, length}
use Rattle.knox_circuit.specs.Cells.{cells_of, words_in}
use Rattle.driver_machine.specs.Configs.{config_of, run_at}
use Rattle.driver_machine.specs.Moves.{parts_left}
use Rattle.driver_machine.specs.Outcomes.{tests_left}
use Rattle.driver_machine.proofs.whole.meet_all.Given as goal

abbrev pub invariant-loop-tests : goal.invariant-loop-tests
invariant-loop-tests l = record {
  tests : l.tests ++ tests_left l.c.lines l.d (config_of l.d l.config) ≡ tests_left l.c.lines l.d (config_of l.d l.fn.config);
  count : length (run_at l.config).cells ≡ words_in (cells_of l.c.lines);
}

abbrev pub decreases-loop-tests : goal.decreases-loop-tests
decreases-loop-tests l = parts_left (config_of l.d l.config).left
