use Rattle.knox_verify.specs.Meanings.{five}
use Rattle.knox_verify.proofs.FaultsLemmas.{five-one, meant-memory, first-told, yes-told}
use Rattle.knox_verify.proofs.verify.verify_texts.Goals as goal

pub returns-clause-one_meaning : goal.returns-clause-one_meaning
returns-clause-one_meaning c = (five-one c.one_meaning.ensures.one (five c.args.c.now c.args.s.now c.args.d.now c.args.e.now c.args.h.now)).same

pub returns-clause-yes : goal.returns-clause-yes
returns-clause-yes c = λ p m held. yes-told _ p c.judge.result (five-one c.one_meaning.ensures.one _) m held c.judge.ensures.judged c.judge.ensures.refused

pub returns-clause-meant : goal.returns-clause-meant
returns-clause-meant c = λ p m. meant-memory _ _ p c.judge.result (five-one c.one_meaning.ensures.one _) m c.judge.ensures.refused

pub returns-clause-first_fault : goal.returns-clause-first_fault
returns-clause-first_fault c = λ f bad. first-told _ f c.judge.result (five-one c.one_meaning.ensures.one _) bad c.judge.ensures.judged c.judge.ensures.refused
