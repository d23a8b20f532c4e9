use Rattle.std.proofs.Common.{◌≡◌, length}
use Rattle.knox_circuit.specs.Cells.{cells_of, words_in}
use Rattle.driver_machine.specs.Configs.{config_of, run_at}
use Rattle.driver_machine.specs.Means.{means}
use Rattle.driver_machine.specs.Moves.{parts_left}
use Rattle.driver_machine.proofs.whole.run.Given as goal

abbrev pub invariant-loop-reply : goal.invariant-loop-reply
invariant-loop-reply l = record {
  means : means l.c.lines l.d (config_of l.d l.config) ≡ means l.c.lines l.d (config_of l.d l.fn.config);
  count : length (run_at l.config).cells ≡ words_in (cells_of l.c.lines);
}

abbrev pub decreases-loop-reply : goal.decreases-loop-reply
decreases-loop-reply l = parts_left (config_of l.d l.config).left
