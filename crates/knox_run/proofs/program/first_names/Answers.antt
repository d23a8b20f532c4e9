use Rattle.knox_run.proofs.RunsLemmas.{first-names}
use Rattle.knox_run.proofs.program.first_names.Goals as goal

pub returns-in-len1-up-clause-names : goal.returns-in-len1-up-clause-names
returns-in-len1-up-clause-names c = first-names c.args.words.now c.args.most
