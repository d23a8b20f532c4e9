use Rattle.btor_read.proofs.MeaningLemmas.{found, only-memory, fault-told}
use Rattle.btor_read.proofs.reading.read_circuit.Goals as goal

pub returns-clause-found : goal.returns-clause-found
returns-clause-found c = found c.args.bytes.now c.read.result c.read.ensures.ok

pub returns-clause-only : goal.returns-clause-only
returns-clause-only c = only-memory c.args.bytes.now c.read.result c.read.ensures.err

pub returns-clause-fault : goal.returns-clause-fault
returns-clause-fault c = fault-told c.args.bytes.now c.read.result c.read.ensures.err
