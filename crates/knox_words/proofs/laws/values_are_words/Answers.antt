use Rattle.knox_words.proofs.Results.{op1_value-fits}
use Rattle.knox_words.proofs.TypingLemmas.{op2_typed-fits, slice_typed-fits, uext_typed-fits, sext_typed-fits, ite_typed-fits}
use Rattle.knox_words.proofs.laws.values_are_words.Goals as goal

pub returns : goal.returns
returns c = record { one = op1_value-fits; two = op2_typed-fits; slices = slice_typed-fits; unsigned = uext_typed-fits; signed = sext_typed-fits; choices = ite_typed-fits }
