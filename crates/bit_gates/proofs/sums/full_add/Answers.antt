use Rattle.bit_gates.proofs.SumLemmas.{sum-means, carry-means}
use Rattle.bit_gates.proofs.sums.full_add.Goals as goal

pub returns-clause-sum : goal.returns-clause-sum
returns-clause-sum c = sum-means c.args.gates.now c.xor.new.self c.xor-2.new.self c.choose.new.self c.args.a c.args.b c.args.c c.in_ok-half.half c.in_ok-sum.sum c.xor.ensures.grows c.choose.ensures.grows c.requires.c c.in_ok-half.ensures.value c.in_ok-sum.ensures.value

pub returns-clause-carry : goal.returns-clause-carry
returns-clause-carry c = carry-means c.args.gates.now c.xor.new.self c.xor-2.new.self c.choose.new.self c.args.a c.args.b c.args.c c.in_ok-half.half c.in_ok-carry.carry c.xor.ensures.grows c.xor-2.ensures.grows c.requires.a c.requires.c c.in_ok-half.ensures.value c.in_ok-carry.ensures.value
