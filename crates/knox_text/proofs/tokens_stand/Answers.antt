use Rattle.knox_text.proofs.Standing.{tokens-stand}
use Rattle.knox_text.proofs.tokens_stand.Goals as goal

pub returns : goal.returns
returns c = tokens-stand
