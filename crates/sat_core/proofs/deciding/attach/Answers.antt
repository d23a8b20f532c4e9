use Rattle.std.proofs.Common.{◌≡◌, ◌<◌, ◌++◌, ◌∷◌, [], suc, length, sym, ◌∙◌, ap, subst, arith}
use Rattle.std.proofs.lemmas.List.{with_items_is, get_or_read}
use Rattle.knox_cnf.specs.Literals.{literal}
use Rattle.std.specs.Prelude.{true}
use Rattle.sat_core.specs.Visits.{watch}
use Rattle.sat_core.specs.Storing.{Lists}
use Rattle.sat_core.specs.Searching.{Stands}
use Rattle.sat_core.proofs.DecidingLemmas.{stands-attached}
use Rattle.sat_core.proofs.deciding.attach.Goals as goal

pub returns-clause-search : goal.returns-clause-search
returns-clause-search c =
    let a = c.requires.attachable in
    let long : length c.args.lemma.items ≡ suc (length a.rest) = ap length a.is in
    let some : 0 < length c.args.lemma.items = omega (arith, long) in
    let first : c.index-first.result.now ≡ a.literal = get_or_read c.args.lemma.items 0 c.index-first.result.now some c.index-first.ensures (literal 1 true) ∙ ap (λ d. watch d 0) a.is in
    let listed : Lists c.args.lemma.items c.len-place.result c.args.search.now.lists.items c.list_clause.new.lists =
    subst (λ d. Lists d c.len-place.result c.args.search.now.lists.items c.list_clause.new.lists) c.as_slice.ensures.value
    (subst (λ ls. Lists c.as_slice.result.now c.len-place.result ls c.list_clause.new.lists) c.as_mut_slice.ensures.value c.in_ok-list_clause.ensures) in
    subst (λ ls. Stands c.push.new.self.items ls c.force.new.trail c.force.new.reasons.items c.args.search.now.decisions.items c.args.search.now.done c.len-search.result)
    (sym (with_items_is c.args.search.now.lists c.list_clause.new.lists (listed.long ∙ sym c.args.search.now.lists.ok.0)))
    (stands-attached c.args.search.now.stored.items c.push.new.self.items c.args.search.now.lists.items c.list_clause.new.lists c.args.search.now.trail c.force.new.trail c.args.lemma.items c.args.search.now.reasons.items c.force.new.reasons.items c.args.search.now.decisions.items c.args.search.now.done c.args.search.now.looked c.len-place.result c.len-search.result c.index-first.result.now
    a first (c.len-place.ensures ∙ c.args.search.now.stored.ok.0) (c.in_ok-push.ensures.items ∙ ap (λ w. c.args.search.now.stored.items ++ w ∷ []) (c.new.ensures ∙ c.from_vec.ensures.items)) c.in_ok-force.ensures.trail c.in_ok-force.ensures.reasons (c.len-search.ensures ∙ c.push.new.self.ok.0) c.requires.quiet c.requires.fits listed c.requires.search)
