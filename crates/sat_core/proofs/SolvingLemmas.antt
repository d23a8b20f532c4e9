-- What answers rest on: models, and lemmas one after another.
use Rattle.std.proofs.Common.{◌≡◌, ℕ, zero, suc, ◌+◌, ◌-◌, ◌*◌, ◌^◌, ◌<◌, ◌≤◌, Bool, true, false, not, ◌&&◌, ◌||◌, List, [], ◌∷◌, ◌++◌, append_assoc, append-nil, length, length-append, map, refl, sym, ◌∙◌, ap, subst, arith, inl, inr, ◌⊎◌, None, if◌then◌else◌}
use Rattle.std.specs.Prelude.{nat_le}
use Rattle.std.specs.List.{list_all, list_any}
use Rattle.std.proofs.lemmas.Bool.{and_parts, and_from, or_cases, or_left, or_right, or_from, cases_Bool, cases_eq, true≢false, both_ways, not-true, leb-true, le-leb}
use Rattle.std.proofs.lemmas.List.{map-append, get_or_append_left}
use Rattle.std.proofs.lemmas.List.Folds.{list_any-append}
use Rattle.knox_cnf.specs.Literals.{Literal, literal, same_literal, has}
use Rattle.knox_cnf.specs.Formulas.{value_in, literal_true, clause_true, clauses_true, clause_within, is_within}
use Rattle.knox_cnf.specs.declared.formula.Cnf.{Cnf}
use Rattle.lrat_check.specs.Derivations.{Proof, lits_of, is_empty, is_closed}
use Rattle.lrat_check.proofs.LiteralLemmas.{same_literal-refl, has-push_same}
use Rattle.sat_core.specs.Chains.{clause_at}
use Rattle.sat_core.specs.Watches.{is_false, satisfied, guarded, IsConsistent}
use Rattle.sat_core.specs.Lists.{HasList, FitsLists}
use Rattle.sat_core.specs.Explained.{SameClauses}
use Rattle.sat_core.specs.Newness.{contains_none, has_no_pair, is_over, is_new, are_new}
use Rattle.sat_core.specs.Plain.{clauses_of}
use Rattle.sat_core.specs.Storing.{Fits, AreGuarded}
use Rattle.sat_core.specs.Models.{IsAssigned, AreAssigned, IsChoice, Explored, free_below, TellsValues}
use Rattle.sat_core.specs.Deriving.{LearnsNew, Refutes}
use Rattle.sat_core.specs.declared.search.Search.{Search}
use Rattle.sat_core.specs.declared.answering.Outcome.{Outcome}
use Rattle.sat_core.specs.declared.answering.Outcome.TheVariants as outcome
use Rattle.sat_core.specs.Solving.{IsSound}
use Rattle.sat_core.specs.Answers.{IsSpent, TurnsTo, RunsTo}
use Rattle.sat_core.proofs.Members.{any-at, any-from, all-has, all-from, has-left}

-- ---- lemmas one after another

pub new-push : (vars : ℕ) (before cs : List (List Literal)) (c : List Literal) → are_new vars before cs ≡ true → is_new vars (before ++ cs) c ≡ true → are_new vars before (cs ++ c ∷ []) ≡ true
new-push vars before [] c a n = and_from (is_new vars before c) true (ap (λ b. is_new vars b c) (sym (append-nil before)) ∙ n) refl
new-push vars before (e ∷ cs) c a n =
    let p = and_parts (is_new vars before e) (are_new vars (before ++ e ∷ []) cs) a in
    and_from (is_new vars before e) (are_new vars (before ++ e ∷ []) (cs ++ c ∷ [])) p.0
    (new-push vars (before ++ e ∷ []) cs c p.1 (ap (λ b. is_new vars b c) (append_assoc before (e ∷ []) cs) ∙ n))

fits-over : (vars n : ℕ) (c : List Literal) → n ≤ 2 * vars + 2 → Fits c n → is_over vars c ≡ true
fits-over vars n c h f = all-from (λ (x : Literal). nat_le 1 x.var && nat_le x.var vars) c (λ x m.
    let l = f.each x m in
    let low = l.low in
    let high = l.high in
    and_from (nat_le 1 x.var) (nat_le x.var vars) (le-leb 1 x.var low) (le-leb x.var vars (omega (arith, high, h))))

-- the clauses of a derivation with one more lemma
more-clauses : (old new : Proof) (n : ℕ) → (l : LearnsNew n old new) → clauses_of new ≡ clauses_of old ++ l.lits ∷ []
more-clauses old new n l =
    ap clauses_of l.added ∙ ap (λ ls. old.cnf.clauses ++ ls) (map-append lits_of old.lemmas _) ∙ sym (append_assoc old.cnf.clauses (map lits_of old.lemmas) (l.lits ∷ []))

pub spent-more : (cnf : Cnf) (count n : ℕ) (old new : Proof) → n ≤ 2 * cnf.vars + 2 → LearnsNew n old new → IsSpent cnf count old → IsSpent cnf (count + 1) new
spent-more cnf count n old new h l s = record {
  cnf_is = ap (λ (d : Proof). d.cnf) l.added ∙ s.cnf_is;
  left_open = ap (list_any is_empty) (more-clauses old new n l) ∙ list_any-append is_empty (clauses_of old) (l.lits ∷ []) ∙ or_from (is_closed old) (is_empty l.lits || false) s.left_open (or_from (is_empty l.lits) false l.some refl);
  count_is = ap (λ (d : Proof). length d.lemmas) l.added ∙ length-append old.lemmas _ ∙ ap (λ (z : ℕ). z + 1) s.count_is;
  all_new =
      ap (λ (d : Proof). are_new cnf.vars cnf.clauses (map lits_of d.lemmas)) l.added
      ∙ ap (are_new cnf.vars cnf.clauses) (map-append lits_of old.lemmas _)
      ∙ new-push cnf.vars cnf.clauses (map lits_of old.lemmas) l.lits s.all_new
      (and_from (contains_none (cnf.clauses ++ map lits_of old.lemmas) l.lits) (has_no_pair l.lits && is_over cnf.vars l.lits)
      (ap (λ (f : Cnf). contains_none (f.clauses ++ map lits_of old.lemmas) l.lits) (sym s.cnf_is) ∙ l.fresh)
      (and_from (has_no_pair l.lits) (is_over cnf.vars l.lits) l.unpaired (fits-over cnf.vars n l.lits h l.fits)));
}

pub refuted-closed : (cnf : Cnf) (old new : Proof) → old.cnf ≡ cnf → Refutes old new → (new.cnf ≡ cnf) × (is_closed new ≡ true)
refuted-closed cnf old new e r = (
  ap (λ (d : Proof). d.cnf) r.added ∙ e,
  ap is_closed r.added
      ∙ ap (λ ls. list_any is_empty (old.cnf.clauses ++ ls)) (map-append lits_of old.lemmas _)
      ∙ ap (list_any is_empty) (sym (append_assoc old.cnf.clauses (map lits_of old.lemmas) ([] ∷ [])))
      ∙ list_any-append is_empty (clauses_of old) ([] ∷ [])
      ∙ or_right (is_closed old) true refl,
)

-- ---- models

assigned-true : (t : List Literal) (x : Literal) → IsAssigned t x.var → is_false t x ≡ false → has t x ≡ true
assigned-true t x a f = sign x.var x.positive a f
  where
    sign : (v : ℕ) (p : Bool) → IsAssigned t v → has t (literal v (not p)) ≡ false → has t (literal v p) ≡ true
    sign v false a f = a f
    sign v true a f = elim (cases_Bool (has t (literal v true))) [
      | inl e ↦ e
      | inr e ↦ absurd (both_ways (has t (literal v false)) f (a e))
    ]

guarded-satisfied : (t c : List Literal) → ((x : Literal) → has c x ≡ true → IsAssigned t x.var) → guarded t c ≡ true → satisfied t c ≡ true
guarded-satisfied t [] a g = absurd (true≢false (sym g))
guarded-satisfied t (x ∷ []) a g = or_left (has t x) false g
guarded-satisfied t (x ∷ y ∷ c) a g = elim (or_cases (not (is_false t x) && not (is_false t y)) (satisfied t (x ∷ y ∷ c)) g) [
  | inl n ↦
      (let p = and_parts (not (is_false t x)) (not (is_false t y)) n in
      or_left (has t x) (satisfied t (y ∷ c)) (assigned-true t x (a x (or_left (same_literal x x) (has (y ∷ c) x) (same_literal-refl x))) (not-true (is_false t x) p.0)))
  | inr s ↦ s
]

true-value : (t : List Literal) (v : ℕ → Bool) (x : Literal) → IsConsistent t → v x.var ≡ has t (literal x.var true) → has t x ≡ true → literal_true v x ≡ true
true-value t v x ok e h = sign x.var x.positive e h
  where
    sign : (n : ℕ) (p : Bool) → v n ≡ has t (literal n true) → has t (literal n p) ≡ true → (if p then v n else not (v n)) ≡ true
    sign n true e h = e ∙ h
    sign n false e h = ap not (e ∙ ok.each (literal n false) h)

each-clause : (p : List Literal → Bool) (cs : List (List Literal)) → ((k : ℕ) → k < length cs → p (clause_at cs k) ≡ true) → list_all p cs ≡ true
each-clause p [] f = refl
each-clause p (c ∷ cs) f = and_from (p c) (list_all p cs) (f 0 (omega arith)) (each-clause p cs (λ k h. f (suc k) (omega (arith, h))))

clause-at : (p : List Literal → Bool) (cs : List (List Literal)) (k : ℕ) → k < length cs → list_all p cs ≡ true → p (clause_at cs k) ≡ true
clause-at p [] k h a = absurd (omega (arith, h))
clause-at p (c ∷ cs) zero h a = (and_parts (p c) (list_all p cs) a).0
clause-at p (c ∷ cs) (suc k) h a = clause-at p cs k (omega (arith, h)) (and_parts (p c) (list_all p cs) a).1

value-at : (t : List Literal) (vars n : ℕ) (values : List Bool) (x : Literal) → n < 2 ^ 64 → HasList n x → x.var ≤ vars → TellsValues t vars values → value_in values x.var ≡ has t (literal x.var true)
value-at t vars n values x small l h v =
    let low = l.low in
    let high = l.high in
    let back : (x.var - 1) + 1 ≡ x.var = omega (arith, low) in
    let room : (x.var - 1) + 1 < 2 ^ 63 = room-below x.var n back high small in
    v.each (x.var - 1) (omega (arith, low, h)) room ∙ ap (λ (k : ℕ). has t (literal k true)) back
  where
    room-below : (v n : ℕ) → (v - 1) + 1 ≡ v → 2 * v + 1 < n → n < 2 ^ 64 → (v - 1) + 1 < 2 ^ 63
    room-below v n e h s = omega (arith, e, h, s)

pub model-true : (cnf : Cnf) (d : Proof) (stored : List (List Literal)) (t : List Literal) (n : ℕ) (values : List Bool) → d.cnf ≡ cnf → n < 2 ^ 64 → is_within cnf.vars cnf.clauses ≡ true → SameClauses (clauses_of d) stored → FitsLists stored n → IsConsistent t → AreGuarded stored t → AreAssigned t n → TellsValues t cnf.vars values → clauses_true (value_in values) cnf.clauses ≡ true
model-true cnf d stored t n values e small within s f ok g a v = each-clause (clause_true (value_in values)) cnf.clauses (λ k h.
    let long : length (clauses_of d) ≡ length d.cnf.clauses + length (map lits_of d.lemmas) = length-append d.cnf.clauses (map lits_of d.lemmas) in
    let same_count : length d.cnf.clauses ≡ length cnf.clauses = ap (λ (c : Cnf). length c.clauses) e in
    let stored_count : length stored ≡ length (clauses_of d) = s.long in
    let inside : k < length stored = omega (arith, h, long, same_count, stored_count) in
    let at : clause_at (clauses_of d) k ≡ clause_at cnf.clauses k = get_or_append_left d.cnf.clauses (map lits_of d.lemmas) [] k (omega (arith, h, same_count)) ∙ ap (λ (c : Cnf). clause_at c.clauses k) e in
    let w = any-at (has t) (clause_at stored k) (guarded-satisfied t (clause_at stored k) (λ x m. let l = f.each k x m in a x.var l.low l.high) (g k inside)) in
    let in_clause : has (clause_at cnf.clauses k) w.0 ≡ true = ap (λ c. has c w.0) (sym at) ∙ (s.each k).each w.0 ∙ w.1 in
    let bound : w.0.var ≤ cnf.vars = leb-true w.0.var cnf.vars (all-has (λ (l : Literal). nat_le l.var cnf.vars) (clause_at cnf.clauses k) w.0 (clause-at (clause_within cnf.vars) cnf.clauses k h within) in_clause) in
    any-from (literal_true (value_in values)) (clause_at cnf.clauses k) w.0 in_clause (true-value t (value_in values) w.0 ok (value-at t cnf.vars n values w.0 small (f.each k w.0 w.1) bound v) w.2))

-- ---- how many variables are free

free-digit : (a b c d : Bool) → (a ≡ true → c ≡ true) → (b ≡ true → d ≡ true) → (if c || d then 0 else 1) ≤ (if a || b then 0 else 1)
free-digit true b true d f g = omega arith
free-digit true b false d f g = absurd (true≢false (sym (f refl)))
free-digit false true true d f g = omega arith
free-digit false true false true f g = omega arith
free-digit false true false false f g = absurd (true≢false (sym (g refl)))
free-digit false false true d f g = omega arith
free-digit false false false true f g = omega arith
free-digit false false false false f g = omega arith

pub free-more : (t u : List Literal) (n : ℕ) → ((x : Literal) → has t x ≡ true → has u x ≡ true) → free_below u n ≤ free_below t n
free-more t u zero m = omega arith
free-more t u (suc v) m =
    let d = free-digit (has t (literal v true)) (has t (literal v false)) (has u (literal v true)) (has u (literal v false)) (m (literal v true)) (m (literal v false)) in
    omega (arith, d, free-more t u v m)

free-none : (a b : Bool) → a ≡ false → b ≡ false → ◌≡◌ {A = ℕ} (if a || b then 0 else 1) 1
free-none a b e f = rw (e, f) refl

free-some : (a b : Bool) → (a ≡ true) ⊎ (b ≡ true) → ◌≡◌ {A = ℕ} (if a || b then 0 else 1) 0
free-some true b h = refl
free-some false true h = refl
free-some false false (inl e) = absurd (true≢false (sym e))
free-some false false (inr e) = absurd (true≢false (sym e))

free-less-at : (t u : List Literal) (n : ℕ) (v : ℕ) → v < n → has t (literal v true) ≡ false → has t (literal v false) ≡ false → (has u (literal v true) ≡ true) ⊎ (has u (literal v false) ≡ true) → ((x : Literal) → has t x ≡ true → has u x ≡ true) → free_below u n + 1 ≤ free_below t n
free-less-at t u zero v lt p q w m = absurd (omega (arith, lt))
free-less-at t u (suc k) v lt p q w m = elim (cases_eq k v) [
  | inl e ↦
      (let a = free-none (has t (literal k true)) (has t (literal k false)) (ap (λ (i : ℕ). has t (literal i true)) e ∙ p) (ap (λ (i : ℕ). has t (literal i false)) e ∙ q) in
      let b = free-some (has u (literal k true)) (has u (literal k false)) (subst (λ (i : ℕ). (has u (literal i true) ≡ true) ⊎ (has u (literal i false) ≡ true)) (sym e) w) in
      omega (arith, a, b, free-more t u k m))
  | inr ne ↦
      (let d = free-digit (has t (literal k true)) (has t (literal k false)) (has u (literal k true)) (has u (literal k false)) (m (literal k true)) (m (literal k false)) in
      omega (arith, d, free-less-at t u k v (omega (arith, lt, ne)) p q w m))
]

pub free-less : (t : List Literal) (l : Literal) (n k : ℕ) → IsChoice t k l → k ≤ n → free_below (t ++ l ∷ []) n < free_below t n
free-less t l n k c le =
    let high = c.listed.high in
    let r = free-less-at t (t ++ l ∷ []) n l.var (omega (arith, high, le)) (unset l.var l.positive c.unset c.free).0 (unset l.var l.positive c.unset c.free).1 (now l.var l.positive (has-push_same t l)) (λ x h. has-left t (l ∷ []) x h) in
    omega (arith, r)
  where
    unset : (v : ℕ) (p : Bool) → has t (literal v p) ≡ false → has t (literal v (not p)) ≡ false → (has t (literal v true) ≡ false) × (has t (literal v false) ≡ false)
    unset v true a b = (a, b)
    unset v false a b = (b, a)

    now : (v : ℕ) (p : Bool) → has (t ++ l ∷ []) (literal v p) ≡ true → (has (t ++ l ∷ []) (literal v true) ≡ true) ⊎ (has (t ++ l ∷ []) (literal v false) ≡ true)
    now v true a = inl a
    now v false a = inr a

-- ---- turns

pub record Running (cnf : Cnf) (n count : ℕ) (d : Proof) (s : Search) : Type 0 where
  pub sound : IsSound d s
  pub lists : length s.lists.items ≡ n
  pub spent : IsSpent cnf count d

pub turns-from : (d now : Proof) (s mid later : Search) (o : Outcome) → length mid.lists.items ≡ length s.lists.items → TurnsTo d now mid later o → TurnsTo d now s later o
turns-from d now s mid later outcome.Model e t = (t.0, t.1, t.2 ∙ e, t.3)
turns-from d now s mid later outcome.Refuted e t = t
turns-from d now s mid later outcome.Learned e t = (t.0, t.1 ∙ e, subst (λ (n : ℕ). LearnsNew n d now) e t.2)

pub running-more : (cnf : Cnf) (n count : ℕ) (d now : Proof) (s later : Search) (o : Outcome) → o ≡ outcome.Learned → n ≤ 2 * cnf.vars + 2 → TurnsTo d now s later o → Running cnf n count d s → Running cnf n (count + 1) now later
running-more cnf n count d now s later o e h t r =
    let u : TurnsTo d now s later outcome.Learned = subst (TurnsTo d now s later) e t in
    record { sound = u.0; lists = u.1 ∙ r.lists; spent = spent-more cnf count n d now h (subst (λ (k : ℕ). LearnsNew k d now) r.lists u.2) r.spent }

pub runs-model : (cnf : Cnf) (n count budget : ℕ) (d now : Proof) (s later : Search) (o : Outcome) → o ≡ outcome.Model → TurnsTo d now s later o → Running cnf n count d s → RunsTo cnf budget now later outcome.Model
runs-model cnf n count budget d now s later o e t r =
    let u : TurnsTo d now s later outcome.Model = subst (TurnsTo d now s later) e t in
    (ap (λ (p : Proof). p.cnf) u.0 ∙ r.spent.cnf_is, u.1, u.3)

pub runs-refuted : (cnf : Cnf) (n count budget : ℕ) (d now : Proof) (s later : Search) (o : Outcome) → o ≡ outcome.Refuted → TurnsTo d now s later o → Running cnf n count d s → RunsTo cnf budget now later outcome.Refuted
runs-refuted cnf n count budget d now s later o e t r = refuted-closed cnf d now r.spent.cnf_is (subst (TurnsTo d now s later) e t)

pub model-answer : (cnf : Cnf) (d : Proof) (s : Search) (vars : ℕ) (values : List Bool) → d.cnf ≡ cnf → vars ≡ cnf.vars → length s.lists.items < 2 ^ 64 → is_within cnf.vars cnf.clauses ≡ true → IsSound d s → Explored s.stored.items s.trail (length s.lists.items) None → TellsValues s.trail vars values → (length values ≡ cnf.vars) × (clauses_true (value_in values) cnf.clauses ≡ true)
model-answer cnf d s vars values e ve small within sound found v0 =
    let v : TellsValues s.trail cnf.vars values = subst (λ (n : ℕ). TellsValues s.trail n values) ve v0 in
    (v.long, model-true cnf d s.stored.items s.trail (length s.lists.items) values e small within sound.same sound.search.ready.fits sound.search.consistent found.0 found.1 v)
