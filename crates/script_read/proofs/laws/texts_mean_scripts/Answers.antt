use Rattle.script_read.proofs.Texts.{text-is, is-text, text-fits}
use Rattle.script_read.proofs.Lacking.{lacks, is-lacking}
use Rattle.script_read.proofs.laws.texts_mean_scripts.Goals as goal

pub returns-clause-grammar : goal.returns-clause-grammar
returns-clause-grammar circuit c s d e end ts p = (text-is c s d e end ts p, is-text c s d e end ts p)

pub returns-clause-fits : goal.returns-clause-fits
returns-clause-fits circuit c s d e end ts p read = text-fits c s d e end ts p read

pub returns-clause-missing : goal.returns-clause-missing
returns-clause-missing circuit c s d e end ts f = (λ x. lacks c s d e end ts f x.0 x.1, λ x. is-lacking c s d e end ts f x.0 x.1)
