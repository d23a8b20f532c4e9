use Rattle.btor_read.proofs.MeaningLemmas.{some-meaning, one-circuit, one-fault, faultless}
use Rattle.btor_read.proofs.laws.circuits_have_one_meaning.Goals as goal

pub returns : goal.returns
returns c = record { some = some-meaning; one = one-circuit; first = one-fault; never_both = faultless }
