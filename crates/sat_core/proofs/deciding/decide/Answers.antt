use Rattle.sat_core.proofs.DecidingLemmas.{stands-decided}
use Rattle.sat_core.proofs.deciding.decide.Goals as goal

pub returns-clause-search : goal.returns-clause-search
returns-clause-search c =
    stands-decided c.args.search.now.stored.items c.args.search.now.lists.items c.args.search.now.trail c.force.new.trail c.args.search.now.reasons.items c.force.new.reasons.items c.args.search.now.decisions.items c.push.new.self.items c.args.search.now.done c.args.search.now.looked c.len.result c.args.lit
    c.len.ensures c.in_ok-force.ensures.trail c.in_ok-force.ensures.reasons c.in_ok-push.ensures.items c.requires.quiet c.requires.unset c.requires.free c.requires.listed c.requires.search
