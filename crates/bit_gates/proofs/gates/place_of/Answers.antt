use Rattle.bit_gates.proofs.GrowthLemmas.{means-inserted}
use Rattle.bit_gates.proofs.gates.place_of.Goals as goal

pub returns-clause-value : goal.returns-clause-value
returns-clause-value c = means-inserted c.args.gates.now.keys c.insert.new.gates.keys c.args.gate c.in_ok-place._added c.in_ok-place.place c.in_ok-place.ensures.inserts c.in_ok-place.ensures.at c.requires.circuit c.requires.below
