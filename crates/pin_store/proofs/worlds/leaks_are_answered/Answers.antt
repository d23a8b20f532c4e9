use Rattle.std.proofs.Common.{refl}
use Rattle.pin_store.specs.Events.{odd_and_even, leak_answers, store_answers}
use Rattle.pin_store.proofs.Rows.{leak-real, leak-ideal, store-real}
use Rattle.pin_store.proofs.worlds.leaks_are_answered.Goals as goal

pub returns-clause-real : goal.returns-clause-real
returns-clause-real c = leak-real 4 odd_and_even leak_answers refl

pub returns-clause-ideal : goal.returns-clause-ideal
returns-clause-ideal c = leak-ideal 4 odd_and_even store_answers refl

pub returns-clause-store : goal.returns-clause-store
returns-clause-store c = store-real 4 odd_and_even store_answers refl
