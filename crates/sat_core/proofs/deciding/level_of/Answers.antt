use Rattle.std.proofs.Common.{◌≡◌, ◌-◌, length, subst, arith}
use Rattle.std.proofs.lemmas.List.{get_or_read}
use Rattle.knox_cnf.specs.Literals.{literal}
use Rattle.std.specs.Prelude.{true}
use Rattle.sat_core.specs.Visits.{watch}
use Rattle.sat_core.specs.Resolved.{IsFirst}
use Rattle.sat_core.specs.Searching.{decision_at}
use Rattle.sat_core.proofs.DecidingLemmas.{unit-attachable, long-attachable, second-place}
use Rattle.sat_core.proofs.deciding.level_of.Goals as goal

pub returns-then-lemma-lt2-clause-attachable : goal.returns-then-lemma-lt2-clause-attachable
returns-then-lemma-lt2-clause-attachable c = unit-attachable c.args.trail.now c.args.lemma.now c.args.decisions.now c.requires.some c.requires.decided c.requires.assertive c.if-lemma-lt2.true

pub level_behind-requires-clause-last : goal.level_behind-requires-clause-last
level_behind-requires-clause-last c =
    let inside = c.requires.decided.inside (length c.args.decisions.now - 1) (let s = c.requires.some in omega (arith, s)) in
    let y : c.index-lemma-1.result ≡ watch c.args.lemma.now 1 = get_or_read c.args.lemma.now 1 c.index-lemma-1.result c.if-lemma-lt2.false c.index-lemma-1.is (literal 1 true) in
    (second-place c.args.trail.now c.args.lemma.now (decision_at c.args.decisions.now (length c.args.decisions.now - 1)) c.in-Some.place c.index-lemma-1.result c.once.ensures (omega (arith, inside)) c.requires.assertive c.if-lemma-lt2.false y (subst (λ l. IsFirst c.args.trail.now l c.in-Some.place) c.complement.ensures c.in-Some.ensures)).0

pub returns-in-Some-clause-attachable : goal.returns-in-Some-clause-attachable
returns-in-Some-clause-attachable c =
    let y : c.index-lemma-1.result ≡ watch c.args.lemma.now 1 = get_or_read c.args.lemma.now 1 c.index-lemma-1.result c.if-lemma-lt2.false c.index-lemma-1.is (literal 1 true) in
    long-attachable c.args.trail.now c.args.lemma.now c.args.decisions.now c.in-Some.place c.level_behind.result c.index-lemma-1.result c.once.ensures c.requires.decided c.requires.assertive c.if-lemma-lt2.false y
    (subst (λ l. IsFirst c.args.trail.now l c.in-Some.place) c.complement.ensures c.in-Some.ensures) c.level_behind.ensures.inside c.level_behind.ensures.behind c.level_behind.ensures.before
