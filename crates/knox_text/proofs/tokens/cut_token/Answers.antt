use Rattle.knox_text.proofs.LineLemmas.{not-empty}
use Rattle.knox_text.proofs.TokenLemmas.{cut_token_is, cut_token_less}
use Rattle.knox_text.proofs.tokens.cut_token.Goals as goal

pub returns-clause-token : goal.returns-clause-token
returns-clause-token c = cut_token_is c.args.line.now c.skip_blanks-start.result.now c.token_length-end.result c.skip_blanks-start.ensures (not-empty _ c.skip_blanks-start.result.now c.is_empty.ensures c.if-is_empty.false) c.token_length-end.ensures.value

pub returns-clause-shorter : goal.returns-clause-shorter
returns-clause-shorter c = cut_token_less c.args.line.now c.skip_blanks-start.result.now c.token_length-end.result c.skip_blanks-start.ensures (not-empty _ c.skip_blanks-start.result.now c.is_empty.ensures c.if-is_empty.false) c.token_length-end.ensures.value
