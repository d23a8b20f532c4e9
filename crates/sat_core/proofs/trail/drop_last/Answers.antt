use Rattle.sat_core.proofs.TrailLemmas.{tells-pop}
use Rattle.sat_core.proofs.trail.drop_last.Goals as goal

pub returns-in-Some-clause-tells : goal.returns-in-Some-clause-tells
returns-in-Some-clause-tells c = tells-pop c.args.places.now.items c.forget.new.table.items c.args.literals.now.items c.pop.new.self.items c.in-Some.lit c.in-Some.ensures.items c.forget.ensures.own c.forget.ensures.others c.requires.tells
