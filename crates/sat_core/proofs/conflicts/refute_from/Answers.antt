use Rattle.std.proofs.Common.{sym, subst}
use Rattle.sat_core.specs.Deriving.{IsRefuted}
use Rattle.sat_core.proofs.ConflictLemmas.{refuted-below}
use Rattle.sat_core.proofs.conflicts.refute_from.Goals as goal

pub refute-requires-clause-refuted : goal.refute-requires-clause-refuted
refute-requires-clause-refuted c =
    subst (λ cs. IsRefuted cs c.args.search.now.trail c.as_slice-2.result.now c.args.conflict) (sym c.as_slice.ensures.value)
    (subst (λ rs. IsRefuted c.args.search.now.stored.items c.args.search.now.trail rs c.args.conflict) (sym c.as_slice-2.ensures.value)
    (refuted-below c.args.search.now.stored.items c.args.search.now.lists.items c.args.search.now.trail c.args.search.now.reasons.items c.args.search.now.decisions.items c.args.search.now.done c.args.search.now.looked c.args.conflict c.requires.decided c.requires.sound.search c.requires.conflict))
