use Rattle.knox_words.specs.Lists.{zeros_or}
use Rattle.knox_words.proofs.PickLemmas.{fit-pick, fit-merge, pick-merge-fit}
use Rattle.knox_circuit.specs.Cells.{cells_of, state_widths, keep_mask}
use Rattle.circuit_laws.proofs.KeptLemmas.{length-mask}
use Rattle.circuit_laws.proofs.CircuitLemmas.{zero-state}
use Rattle.circuit_laws.proofs.laws.persistent_words_are_spread.Goals as goal

pub returns-clause-fitting : goal.returns-clause-fitting
returns-clause-fitting c = λ keep state h. fit-pick (keep_mask (cells_of c.args.c.now.lines) keep) (state_widths (cells_of c.args.c.now.lines)) state h

pub returns-clause-spread : goal.returns-clause-spread
returns-clause-spread c = λ keep words h. fit-merge (keep_mask (cells_of c.args.c.now.lines) keep) (state_widths (cells_of c.args.c.now.lines)) (zeros_or (state_widths (cells_of c.args.c.now.lines))) words (zero-state c.args.c.now.lines) h

pub returns-clause-back : goal.returns-clause-back
returns-clause-back c = λ keep words h. pick-merge-fit (keep_mask (cells_of c.args.c.now.lines) keep) (state_widths (cells_of c.args.c.now.lines)) (zeros_or (state_widths (cells_of c.args.c.now.lines))) words (zero-state c.args.c.now.lines) h

pub returns-clause-count : goal.returns-clause-count
returns-clause-count c = length-mask (cells_of c.args.c.now.lines)
