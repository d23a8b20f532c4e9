use Rattle.std.proofs.Common.{◌≡◌, ◌<◌, ◌≤◌, length, sym, ◌∙◌, subst, arith}
use Rattle.sat_core.specs.Models.{free_below}
use Rattle.sat_core.proofs.Walking.{appends-has}
use Rattle.sat_core.proofs.SolvingLemmas.{free-more, free-less}
use Rattle.sat_core.proofs.exploring.explore.Goals as goal

pub loop-conflict-smaller : goal.loop-conflict-smaller
loop-conflict-smaller c =
    let more : free_below c.propagate_search.new.search.trail (length c.args.search.now.lists.items) ≤ free_below c.loop-conflict.search.trail (length c.args.search.now.lists.items) =
    free-more c.loop-conflict.search.trail c.propagate_search.new.search.trail (length c.args.search.now.lists.items) (λ x h. appends-has c.loop-conflict.search.stored.items c.loop-conflict.search.trail c.propagate_search.new.search.trail x c.in_ok-conflict.ensures.appends h) in
    let same : c.len.result ≡ length c.args.search.now.lists.items = c.len.ensures ∙ c.propagate_search.new.search.lists.ok.0 ∙ c.in_ok-conflict.ensures.wide ∙ c.loop-conflict.invariant.lists in
    let less : free_below c.decide.new.search.trail (length c.args.search.now.lists.items) < free_below c.propagate_search.new.search.trail (length c.args.search.now.lists.items) =
    subst (λ t. free_below t (length c.args.search.now.lists.items) < free_below c.propagate_search.new.search.trail (length c.args.search.now.lists.items)) (sym c.in_ok-decide-in-Some.ensures.trail)
    (free-less c.propagate_search.new.search.trail c.in-Some.lit (length c.args.search.now.lists.items) c.len.result c.in-Some.ensures (omega (arith, same))) in
    omega (arith, more, less)
