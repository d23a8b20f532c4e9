use Rattle.knox_circuit.proofs.MadeLemmas.{made-is}
use Rattle.knox_circuit.proofs.made.made_of.Goals as goal

pub returns : goal.returns
returns c =
    made-is c.args.lines.now c.args.rows.now (record { tables = c.in_ok-tables.tables; places = c.in_ok-places.places; plan = c.in_ok-plan.plan; roms = c.in_ok-roms.roms })
    c.requires.rows c.in_ok-tables.ensures c.in_ok-places.ensures c.in_ok-plan.ensures c.in_ok-roms.ensures.words c.in_ok-roms.ensures.free
