-- The answers of groups, of the pivot and of a lemma, part by part.
use Rattle.std.proofs.Common.{◌≡◌, ℕ, Bool, true, false, cond, List, [], ◌∷◌, take, drop, refl, sym, ◌∙◌, ap, subst, inl, inr, Option, Result, Ok, Err, map}
use Rattle.std.specs.Prelude.{ℤ, unsigned_abs}
use Rattle.std.specs.List.{list_any, find}
use Rattle.knox_cnf.specs.Literals.{Literal, complement, has}
use Rattle.lrat_check.specs.declared.step.Step.{Step}
use Rattle.lrat_check.specs.declared.step.Step.TheVariants.{Memory as Full}
use Rattle.lrat_check.specs.Marks.{all_with_true}
use Rattle.lrat_check.specs.Hints.{after_hints, is_tautology, Takes}
use Rattle.rat_check.specs.declared.rat_step.RatStep.{RatStep}
use Rattle.rat_check.specs.declared.rat_step.RatStep.TheVariants.{NoConflict}
use Rattle.rat_check.specs.Groups.{Group, group, parts_of}
use Rattle.rat_check.specs.Rat.{told, covered, group_ended, group_answer, first_then, groups_answer, is_uncovered, by_pivot, after_lead, check, Answers}
use Rattle.std.specs.Prelude.{unwrap_or}
use Rattle.std.specs.Result.{result_ok}
use Rattle.std.proofs.lemmas.Bool.{true≢false}
use Rattle.lrat_check.proofs.HintSteps.{tautology-marks}
use Rattle.rat_check.proofs.GroupLemmas.{first-group}

-- ---- groups

Ok-answer : (want : Result (Unit {0}) RatStep) → Answers (Ok tt) want → want ≡ Ok tt
Ok-answer want (inl e) = absurd (cc)
Ok-answer want (inr e) = sym e

left-groups : (h : ℤ) (hs left : List ℤ) (own : ℕ) → left ≡ h ∷ hs → (parts_of left).lead ≡ [] → (parts_of hs).lead ≡ take own hs → (parts_of hs).groups ≡ (parts_of (drop own hs)).groups → (parts_of left).groups ≡ group (unsigned_abs h) (take own hs) ∷ (parts_of (drop own hs)).groups
left-groups h hs left own split begins lead rest =
    ap (λ l. (parts_of l).groups) split ∙ first-group h hs (ap (λ l. (parts_of l).lead) (sym split) ∙ begins)
    ∙ ap (λ l. group (unsigned_abs h) l ∷ (parts_of hs).groups) lead ∙ ap (λ gs. group (unsigned_abs h) (take own hs) ∷ gs) rest

-- a group that passed leaves the others
pub group-passed : (clause : ℕ → Option (List Literal)) (q : Literal) (t : List Literal) (h : ℤ) (hs left : List ℤ) (own : ℕ) → left ≡ h ∷ hs → (parts_of left).lead ≡ [] → (parts_of hs).lead ≡ take own hs → (parts_of hs).groups ≡ (parts_of (drop own hs)).groups → Answers (Ok tt) (group_answer clause q t (group (unsigned_abs h) (take own hs))) → groups_answer clause q t (parts_of left).groups ≡ groups_answer clause q t (parts_of (drop own hs)).groups
group-passed clause q t h hs left own split begins lead rest a =
    ap (groups_answer clause q t) (left-groups h hs left own split begins lead rest)
    ∙ ap (λ r. first_then r (groups_answer clause q t (parts_of (drop own hs)).groups)) (Ok-answer (group_answer clause q t (group (unsigned_abs h) (take own hs))) a)

refused-first : (e : RatStep) (r rest : Result (Unit {0}) RatStep) → Answers (Err e) r → Answers (Err e) (first_then r rest)
refused-first e r rest (inl k) = inl k
refused-first e r rest (inr k) = inr (rw (sym k) refl)

-- .. and one that is refused decides
pub group-refused : (clause : ℕ → Option (List Literal)) (q : Literal) (t : List Literal) (h : ℤ) (hs left : List ℤ) (own : ℕ) (e : RatStep) → left ≡ h ∷ hs → (parts_of left).lead ≡ [] → (parts_of hs).lead ≡ take own hs → (parts_of hs).groups ≡ (parts_of (drop own hs)).groups → Answers (Err e) (group_answer clause q t (group (unsigned_abs h) (take own hs))) → Answers (Err e) (groups_answer clause q t (parts_of left).groups)
group-refused clause q t h hs left own e split begins lead rest a =
    rw (left-groups h hs left own split begins lead rest)
    (refused-first e (group_answer clause q t (group (unsigned_abs h) (take own hs))) (groups_answer clause q t (parts_of (drop own hs)).groups) a)

-- ---- hints

-- what a walk over the hints of a group answers
pub group-Err : (want : Result (List Literal) (Result (Unit {0}) Step)) (e : Step) (t : List Literal) → Takes want (Err e) t → Answers (Err (told e)) (group_ended want)
group-Err want e t (inl k) = let same : e ≡ Full = cc in inl (ap (λ s. Err (told s)) same)
group-Err (Ok u) e t (inr p) = let k = p.0 in absurd (cc)
group-Err (Err (Ok x)) e t (inr k) = absurd (cc)
group-Err (Err (Err s)) e t (inr k) = let same : e ≡ s = cc in inr (ap (λ z. Err (told z)) same)

true-false : (r : Result Bool Step) → r ≡ Ok true → r ≡ Ok false → ⊥
true-false r p q = true≢false (ap (λ (s : Result Bool Step). unwrap_or (result_ok s) false) (sym p ∙ q))

pub group-true : (want : Result (List Literal) (Result (Unit {0}) Step)) (t : List Literal) → Takes want (Ok true) t → Answers (Ok tt) (group_ended want)
group-true want t (inl k) = absurd (cc)
group-true (Ok u) t (inr p) = absurd (true-false (Ok true) refl p.0)
group-true (Err (Ok x)) t (inr k) = inr refl
group-true (Err (Err s)) t (inr k) = absurd (cc)

pub group-false : (want : Result (List Literal) (Result (Unit {0}) Step)) (t : List Literal) → Takes want (Ok false) t → Answers (Err NoConflict) (group_ended want)
group-false want t (inl k) = absurd (cc)
group-false (Ok u) t (inr p) = inr refl
group-false (Err (Ok x)) t (inr k) = absurd (true-false (Ok true) refl (sym k))
group-false (Err (Err s)) t (inr k) = absurd (cc)

pub walk-Err : (clause : ℕ → Option (List Literal)) (ids : List ℕ) (lits : List Literal) (gs : List Group) (want : Result (List Literal) (Result (Unit {0}) Step)) (e : Step) (t : List Literal) → Takes want (Err e) t → Answers (Err (told e)) (after_lead clause ids lits gs want)
walk-Err clause ids lits gs want e t (inl k) = let same : e ≡ Full = cc in inl (ap (λ s. Err (told s)) same)
walk-Err clause ids lits gs (Ok u) e t (inr p) = let k = p.0 in absurd (cc)
walk-Err clause ids lits gs (Err (Ok x)) e t (inr k) = absurd (cc)
walk-Err clause ids lits gs (Err (Err s)) e t (inr k) = let same : e ≡ s = cc in inr (ap (λ z. Err (told z)) same)

pub walk-true : (clause : ℕ → Option (List Literal)) (ids : List ℕ) (lits : List Literal) (gs : List Group) (want : Result (List Literal) (Result (Unit {0}) Step)) (t : List Literal) → Takes want (Ok true) t → Answers (Ok tt) (after_lead clause ids lits gs want)
walk-true clause ids lits gs want t (inl k) = absurd (cc)
walk-true clause ids lits gs (Ok u) t (inr p) = absurd (true-false (Ok true) refl p.0)
walk-true clause ids lits gs (Err (Ok x)) t (inr k) = inr refl
walk-true clause ids lits gs (Err (Err s)) t (inr k) = absurd (cc)

pub walk-false : (clause : ℕ → Option (List Literal)) (ids : List ℕ) (lits : List Literal) (gs : List Group) (want : Result (List Literal) (Result (Unit {0}) Step)) (t : List Literal) → Takes want (Ok false) t → (r : Result (Unit {0}) RatStep) → Answers r (by_pivot clause ids lits gs t) → Answers r (after_lead clause ids lits gs want)
walk-false clause ids lits gs want t (inl k) r a = absurd (cc)
walk-false clause ids lits gs (Ok u) t (inr p) r a = subst (λ w. Answers r (by_pivot clause ids lits gs w)) p.1 a
walk-false clause ids lits gs (Err (Ok x)) t (inr k) r a = absurd (true-false (Ok true) refl (sym k))
walk-false clause ids lits gs (Err (Err s)) t (inr k) r a = absurd (cc)

-- ---- a lemma

pub check-tautology : (clause : ℕ → Option (List Literal)) (ids : List ℕ) (lits marks : List Literal) (hs : List ℤ) → marks ≡ all_with_true [] (map complement lits) → list_any (has marks) lits ≡ true → Answers (Ok tt) (check clause ids lits hs)
check-tautology clause ids lits marks hs e t =
    inr (ap (λ b. cond b (Ok tt) (after_lead clause ids lits (parts_of hs).groups (after_hints clause (all_with_true [] (map complement lits)) (parts_of hs).lead))) (sym t ∙ tautology-marks lits marks e))

pub check-lead : (clause : ℕ → Option (List Literal)) (ids : List ℕ) (lits marks : List Literal) (hs lead rest : List ℤ) (r : Result (Unit {0}) RatStep) → marks ≡ all_with_true [] (map complement lits) → list_any (has marks) lits ≡ false → (parts_of hs).lead ≡ lead → (parts_of hs).groups ≡ (parts_of rest).groups → Answers r (after_lead clause ids lits (parts_of rest).groups (after_hints clause marks lead)) → Answers r (check clause ids lits hs)
check-lead clause ids lits marks hs lead rest r e t l g a =
    let f : is_tautology lits ≡ false = sym (tautology-marks lits marks e) ∙ t in
    rw (f, l, g) (subst (λ m. Answers r (after_lead clause ids lits (parts_of rest).groups (after_hints clause m lead))) e a)

-- ---- the pivot

pub pivot-refused : (clause : ℕ → Option (List Literal)) (ids : List ℕ) (l : Literal) (ls lits : List Literal) (gs : List Group) (t : List Literal) (e : RatStep) → lits ≡ l ∷ ls → Answers (Err e) (groups_answer clause (complement l) t gs) → Answers (Err e) (by_pivot clause ids lits gs t)
pivot-refused clause ids l ls lits gs t e split a =
    rw split (refused-first e (groups_answer clause (complement l) t gs) (covered gs (find (is_uncovered clause (complement l) gs) ids)) a)

pub pivot-covered : (clause : ℕ → Option (List Literal)) (ids : List ℕ) (l : Literal) (ls lits : List Literal) (gs : List Group) (t : List Literal) (o : Option ℕ) → lits ≡ l ∷ ls → Answers (Ok tt) (groups_answer clause (complement l) t gs) → o ≡ find (is_uncovered clause (complement l) gs) ids → Answers (covered gs o) (by_pivot clause ids lits gs t)
pivot-covered clause ids l ls lits gs t o split a e =
    rw (split, e) (inr (ap (λ r. first_then r (covered gs (find (is_uncovered clause (complement l) gs) ids))) (sym (Ok-answer (groups_answer clause (complement l) t gs) a))))
