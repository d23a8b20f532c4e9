use Rattle.std.proofs.Common.{refl}
use Rattle.knox_sexpr.specs.Tokens.{tokens_from, pieces_in}
use Rattle.knox_sexpr.proofs.examples.tokens_as_expected.Goals as goal

pub returns : goal.returns
unfolding tokens_from pieces_in
returns c = record { list = refl; symbols = refl; cases = refl; comment_to_line_feed = refl }
