use Rattle.std.proofs.Common.{length, sym, ◌∙◌, ap}
use Rattle.std.proofs.lemmas.List.{with_items_is}
use Rattle.sat_core.proofs.SearchLemmas.{stands-conflict, stands-quiet, stands-put}
use Rattle.sat_core.proofs.propagation.propagate_search.Goals as goal

pub returns-then-is_some-clause-search : goal.returns-then-is_some-clause-search
returns-then-is_some-clause-search c =
    let p = c.in_ok-conflict.ensures.propagated in
    stands-put _ c.propagate_all.new.stored _ c.propagate_all.new.lists c.propagate_all.new.trail c.propagate_all.new.reasons.items c.args.search.now.decisions.items 0 c.args.search.now.looked
    (with_items_is c.args.search.now.stored c.propagate_all.new.stored (p.rewatched.long ∙ ap length c.as_mut_slice.ensures.value ∙ sym c.args.search.now.stored.ok.0))
    (with_items_is c.args.search.now.lists c.propagate_all.new.lists (p.long ∙ ap length c.as_mut_slice-2.ensures.value ∙ sym c.args.search.now.lists.ok.0))
    (stands-conflict c.as_mut_slice.result.now c.propagate_all.new.stored c.as_mut_slice-2.result.now c.propagate_all.new.lists c.args.search.now.trail c.propagate_all.new.trail c.args.search.now.reasons.items c.propagate_all.new.reasons.items c.args.search.now.decisions.items c.args.search.now.done c.args.search.now.looked c.in_ok-conflict.conflict
    (stands-put c.as_mut_slice.result.now c.args.search.now.stored.items c.as_mut_slice-2.result.now c.args.search.now.lists.items c.args.search.now.trail c.args.search.now.reasons.items c.args.search.now.decisions.items c.args.search.now.done c.args.search.now.looked c.as_mut_slice.ensures.value c.as_mut_slice-2.ensures.value c.requires)
    p c.in_ok-conflict.ensures.reasoned)

pub returns-clause-search : goal.returns-clause-search
returns-clause-search c =
    let p = c.in_ok-conflict.ensures.propagated in
    stands-put _ c.propagate_all.new.stored _ c.propagate_all.new.lists c.propagate_all.new.trail c.propagate_all.new.reasons.items c.args.search.now.decisions.items c.len-search-2.result c.len-search.result
    (with_items_is c.args.search.now.stored c.propagate_all.new.stored (p.rewatched.long ∙ ap length c.as_mut_slice.ensures.value ∙ sym c.args.search.now.stored.ok.0))
    (with_items_is c.args.search.now.lists c.propagate_all.new.lists (p.long ∙ ap length c.as_mut_slice-2.ensures.value ∙ sym c.args.search.now.lists.ok.0))
    (stands-quiet c.as_mut_slice.result.now c.propagate_all.new.stored c.as_mut_slice-2.result.now c.propagate_all.new.lists c.args.search.now.trail c.propagate_all.new.trail c.args.search.now.reasons.items c.propagate_all.new.reasons.items c.args.search.now.decisions.items c.args.search.now.done c.args.search.now.looked c.len-search-2.result c.len-search.result c.in_ok-conflict.conflict
    c.len-search-2.ensures (c.len-search.ensures ∙ c.args.search.now.stored.ok.0 ∙ sym (ap length c.as_mut_slice.ensures.value) ∙ sym p.rewatched.long) (sym c.is_some.ensures ∙ c.if-is_some.false)
    (stands-put c.as_mut_slice.result.now c.args.search.now.stored.items c.as_mut_slice-2.result.now c.args.search.now.lists.items c.args.search.now.trail c.args.search.now.reasons.items c.args.search.now.decisions.items c.args.search.now.done c.args.search.now.looked c.as_mut_slice.ensures.value c.as_mut_slice-2.ensures.value c.requires)
    p c.in_ok-conflict.ensures.reasoned)
