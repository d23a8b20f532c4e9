use Rattle.std.proofs.Common.{refl}
use Rattle.knox_sexpr.specs.Tokens.{tokens_from, pieces_in}
use Rattle.knox_sexpr.specs.Faults.{fault_of}
use Rattle.knox_sexpr.proofs.examples.faults_as_expected.Goals as goal

pub returns : goal.returns
unfolding fault_of tokens_from pieces_in
returns c = record {
  empty = refl;
  too_deep = refl;
  deep = refl;
  unclosed = refl;
  unclosed_below = refl;
  unopened = refl;
  unopened_second = refl;
  unopened_first = refl;
  largest = refl;
  too_large = refl;
  letter_in_number = refl;
  no_digits = refl;
  no_base = refl;
  no_binary_digit = refl;
  too_many_digits = refl;
  strange_byte = refl;
  delete_byte = refl;
  zero_byte = refl;
  strange_in_comment = refl;
}
