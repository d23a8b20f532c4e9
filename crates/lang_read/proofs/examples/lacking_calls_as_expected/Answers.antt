use Rattle.std.proofs.Common.{refl}
use Rattle.lang_read.proofs.Lacking as lacking
use Rattle.lang_read.proofs.examples.lacking_calls_as_expected.Goals as goal

pub returns : goal.returns
returns c = record { none = lacking.none; one = lacking.one; other = lacking.other; behind = lacking.behind; empty = refl }
