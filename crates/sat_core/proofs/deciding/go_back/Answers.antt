use Rattle.std.proofs.Common.{◌∙◌}
use Rattle.std.proofs.lemmas.List.{get_or_read}
use Rattle.sat_core.proofs.DecidingLemmas.{stands-back, back-guarded}
use Rattle.sat_core.proofs.deciding.go_back.Goals as goal

pub returns-clause-search : goal.returns-clause-search
returns-clause-search c =
    stands-back c.args.search.now.stored.items c.args.search.now.lists.items c.args.search.now.trail c.truncate.new.self c.args.search.now.reasons.items c.truncate-2.new.self.items c.args.search.now.decisions.items c.truncate-3.new.self.items c.args.search.now.done c.args.search.now.looked c.args.level c.index-at.result.now c.len-search.result
    (get_or_read c.args.search.now.decisions.items c.args.level c.index-at.result.now c.requires.inside c.index-at.ensures 0) c.requires.inside c.truncate.ensures c.truncate-2.ensures.items c.truncate-3.ensures.items (c.len-search.ensures ∙ c.args.search.now.stored.ok.0) c.requires.search

pub returns-clause-quiet : goal.returns-clause-quiet
returns-clause-quiet c =
    back-guarded c.args.search.now.stored.items c.args.search.now.lists.items c.args.search.now.trail c.truncate.new.self c.args.search.now.reasons.items c.args.search.now.decisions.items c.args.search.now.done c.args.search.now.looked c.args.level c.index-at.result.now
    (get_or_read c.args.search.now.decisions.items c.args.level c.index-at.result.now c.requires.inside c.index-at.ensures 0) c.requires.inside c.truncate.ensures c.requires.search
