use Rattle.pin_store.proofs.Shut.{closed, tried, leaks, bits-1, bits-4}
use Rattle.pin_store.proofs.Agreed.{agreed}
use Rattle.pin_store.proofs.runs.scripts_are_closed.Goals as goal

pub returns-clause-closed : goal.returns-clause-closed
returns-clause-closed c = closed

pub returns-clause-tried : goal.returns-clause-tried
returns-clause-tried c = tried

pub returns-clause-agree : goal.returns-clause-agree
returns-clause-agree c = agreed

pub returns-clause-leaks : goal.returns-clause-leaks
returns-clause-leaks c = leaks

pub returns-clause-bits : goal.returns-clause-bits
returns-clause-bits c = bits-1

pub returns-clause-more : goal.returns-clause-more
returns-clause-more c = bits-4
