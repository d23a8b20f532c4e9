-- Whatever passes the check follows from the clauses that it was checked against.
use Rattle.std.proofs.Common.{◌≡◌, ℕ, zero, suc, Bool, true, false, not, cond, ◌&&◌, List, [], ◌∷◌, ◌++◌, refl, sym, ◌∙◌, ap, inl, inr, Option, Some, None, Result, Ok, Err, map, append_assoc, get_or}
use Rattle.std.specs.Prelude.{ℤ, unsigned_abs, slice_get}
use Rattle.std.proofs.lemmas.Bool.{and_parts, and_from, cases_Bool, or_left, or_right, or_parts, true≢false, or_cases, not_from_true, cond_both}
use Rattle.std.proofs.lemmas.List.Folds.{list_all-append}
use Rattle.std.proofs.lemmas.List.{append-nil}
use Rattle.std.specs.List.{list_any, list_all}
use Rattle.knox_cnf.specs.Literals.{Literal, literal, complement, same_literal, has}
use Rattle.knox_cnf.specs.Formulas.{literal_true, clause_true, clauses_true}
use Rattle.lrat_check.proofs.LiteralLemmas.{same_literal-true}
use Rattle.lrat_check.specs.declared.reading.Reading.{Reading}
use Rattle.lrat_check.specs.declared.reading.Reading.TheVariants.{False, Unit as Forced, Other}
use Rattle.lrat_check.specs.declared.step.Step.{Step}
use Rattle.lrat_check.specs.declared.lemma.Lemma.{Lemma}
use Rattle.lrat_check.specs.Marks.{with_true, all_with_true}
use Rattle.lrat_check.specs.Reading.{open_literals, reading_of_open, reading_of}
use Rattle.lrat_check.specs.Register.{if_live, place_of}
use Rattle.lrat_check.specs.Hints.{after_reading, after_clause, then_on, after_hints, ended, take_hints, is_tautology, check}
use Rattle.lrat_check.specs.Derivations.{Proof, lemma, lits_of, clauses_with, entries_with, clause_at, clause_of, live_clause, passed, passes, lrup, IsLrup, is_empty, is_closed}
use Rattle.lrat_check.specs.Soundness.{LemmasFollow, IsUnsatisfiable}

-- ---- a clause under literals that are true

abbrev pub all_true : (ℕ → Bool) → List Literal → Bool
all_true v t = list_all (literal_true v) t

not_not : (b : Bool) → b ≡ not (not b)
not_not true = refl
not_not false = refl

complement-sign : (v : ℕ → Bool) (n : ℕ) (p : Bool) → literal_true v (complement (literal n p)) ≡ not (literal_true v (literal n p))
complement-sign v n true = refl
complement-sign v n false = not_not (v n)

pub literal_true-complement : (v : ℕ → Bool) (l : Literal) → literal_true v (complement l) ≡ not (literal_true v l)
literal_true-complement v l = complement-sign v l.var l.positive

pub member-true : (v : ℕ → Bool) (t : List Literal) (l : Literal) → all_true v t ≡ true → has t l ≡ true → literal_true v l ≡ true
member-true v [] l a h = absurd (true≢false (sym h))
member-true v (x ∷ t) l a h =
    let p = and_parts (literal_true v x) (all_true v t) a in
    elim (or_cases (same_literal l x) (has t l) h) [
      | inl e ↦ ap (literal_true v) (same_literal-true l x e) ∙ p.0
      | inr e ↦ member-true v t l p.1 e
    ]

-- the literals that aren't false keep a clause true
open-true : (v : ℕ → Bool) (t c : List Literal) → all_true v t ≡ true → clause_true v c ≡ true → clause_true v (open_literals t c) ≡ true
open-true v t [] a h = h
open-true v t (x ∷ c) a h =
    elim (cases_Bool (has t (complement x))) [
      | inl e ↦
          (let f : not (literal_true v x) ≡ true = sym (literal_true-complement v x) ∙ member-true v t (complement x) a e in
          rw e (elim (or_cases (literal_true v x) (clause_true v c) h) [
            | inl k ↦ absurd (true≢false (sym f ∙ not_from_true (literal_true v x) k))
            | inr k ↦ open-true v t c a k
          ]))
      | inr e ↦
          (rw e (elim (or_cases (literal_true v x) (clause_true v c) h) [
            | inl k ↦ or_left (literal_true v x) (clause_true v (open_literals t c)) k
            | inr k ↦ or_right (literal_true v x) (clause_true v (open_literals t c)) (open-true v t c a k)
          ]))
    ]

same-true : (v : ℕ → Bool) (l : Literal) (ls : List Literal) → list_all (same_literal l) ls ≡ true → clause_true v ls ≡ true → literal_true v l ≡ true
same-true v l [] a h = absurd (true≢false (sym h))
same-true v l (x ∷ ls) a h =
    let p = and_parts (same_literal l x) (list_all (same_literal l) ls) a in
    elim (or_cases (literal_true v x) (clause_true v ls) h) [
      | inl e ↦ ap (literal_true v) (same_literal-true l x p.0) ∙ e
      | inr e ↦ same-true v l ls p.1 e
    ]

reading-cond : (b : Bool) (l : Literal) → cond b (Forced l) Other ≡ False → ⊥
reading-cond true l e = cc
reading-cond false l e = cc

reading-False : (v : ℕ → Bool) (o : List Literal) → reading_of_open o ≡ False → clause_true v o ≡ true → ⊥
reading-False v [] e h = true≢false (sym h)
reading-False v (l ∷ ls) e h = reading-cond (list_all (same_literal l) ls) l e

forced-cond : (b : Bool) (l x : Literal) → cond b (Forced l) Other ≡ Forced x → (b ≡ true) × (l ≡ x)
forced-cond true l x e = (refl, cc)
forced-cond false l x e = absurd (cc)

reading-Forced : (v : ℕ → Bool) (o : List Literal) (x : Literal) → reading_of_open o ≡ Forced x → clause_true v o ≡ true → literal_true v x ≡ true
reading-Forced v [] x e h = absurd (true≢false (sym h))
reading-Forced v (l ∷ ls) x e h =
    let p = forced-cond (list_all (same_literal l) ls) l x e in
    ap (literal_true v) (sym p.1) ∙ (elim (or_cases (literal_true v l) (clause_true v ls) h) [
      | inl k ↦ k
      | inr k ↦ same-true v l ls p.0 k
    ])

-- ---- hints

all_true-push : (v : ℕ → Bool) (t : List Literal) (l : Literal) → all_true v t ≡ true → literal_true v l ≡ true → all_true v (t ++ l ∷ []) ≡ true
all_true-push v t l a h =
    list_all-append (literal_true v) t (l ∷ []) ∙ and_from (all_true v t) (literal_true v l && true) a (and_from (literal_true v l) true h refl)

-- hints make nothing true that isn't, and no clause that is true false
abbrev pub Holds : (ℕ → Bool) → Result (List Literal) (Result (Unit {0}) Step) → Type 0
Holds v (Ok u) = all_true v u ≡ true
Holds v (Err (Ok x)) = ⊥
Holds v (Err (Err e)) = Unit {0}

reading-holds : (v : ℕ → Bool) (t : List Literal) (h : ℕ) (c : List Literal) (r : Reading) → all_true v t ≡ true → clause_true v c ≡ true → reading_of t c ≡ r → Holds v (after_reading t h r)
reading-holds v t h c False a k e = reading-False v (open_literals t c) e (open-true v t c a k)
reading-holds v t h c (Forced l) a k e =
    let f : literal_true v l ≡ true = reading-Forced v (open_literals t c) l e (open-true v t c a k) in
    cond_both (has t l) t (t ++ l ∷ []) (λ u. all_true v u ≡ true) (λ _. a) (λ _. all_true-push v t l a f)
reading-holds v t h c Other a k e = tt

clause-holds : (v : ℕ → Bool) (t : List Literal) (h : ℕ) (c : Option (List Literal)) → all_true v t ≡ true → ((d : List Literal) → c ≡ Some d → clause_true v d ≡ true) → Holds v (after_clause t h c)
clause-holds v t h None a k = tt
clause-holds v t h (Some d) a k = reading-holds v t h d (reading_of t d) a (k d refl) refl

then-holds : (v : ℕ → Bool) (r : Result (List Literal) (Result (Unit {0}) Step)) (rest : List Literal → Result (List Literal) (Result (Unit {0}) Step)) → Holds v r → ((u : List Literal) → all_true v u ≡ true → Holds v (rest u)) → Holds v (then_on r rest)
then-holds v (Ok u) rest h k = k u h
then-holds v (Err (Ok x)) rest h k = h
then-holds v (Err (Err e)) rest h k = tt

pub hints-hold : (v : ℕ → Bool) (clause : ℕ → Option (List Literal)) → ((id : ℕ) (c : List Literal) → clause id ≡ Some c → clause_true v c ≡ true) → (t : List Literal) (hs : List ℤ) → all_true v t ≡ true → Holds v (after_hints clause t hs)
hints-hold v clause k t [] a = a
hints-hold v clause k t (h ∷ hs) a =
    then-holds v (after_clause t (unsigned_abs h) (clause (unsigned_abs h))) (λ u. after_hints clause u hs)
    (clause-holds v t (unsigned_abs h) (clause (unsigned_abs h)) a (k (unsigned_abs h))) (λ u b. hints-hold v clause k u hs b)

ended-sound : (v : ℕ → Bool) (r : Result (List Literal) (Result (Unit {0}) Step)) → Holds v r → ended r ≡ Ok tt → ⊥
ended-sound v (Ok u) h e = cc
ended-sound v (Err (Ok x)) h e = h
ended-sound v (Err (Err s)) h e = cc

hints-sound : (v : ℕ → Bool) (clause : ℕ → Option (List Literal)) → ((id : ℕ) (c : List Literal) → clause id ≡ Some c → clause_true v c ≡ true) → (t : List Literal) (hs : List ℤ) → all_true v t ≡ true → take_hints clause t hs ≡ Ok tt → ⊥
hints-sound v clause k t hs a o = ended-sound v (after_hints clause t hs) (hints-hold v clause k t hs a) o

-- where no literal of a clause is true, each complement is
pub complements-true : (v : ℕ → Bool) (c : List Literal) → clause_true v c ≡ false → all_true v (map complement c) ≡ true
complements-true v [] e = refl
complements-true v (x ∷ c) e =
    let p = or_parts (literal_true v x) (clause_true v c) e in
    and_from (literal_true v (complement x)) (all_true v (map complement c)) (literal_true-complement v x ∙ ap not p.0) (complements-true v c p.1)

pub all-with-true : (v : ℕ → Bool) (t ls : List Literal) → all_true v t ≡ true → all_true v ls ≡ true → all_true v (all_with_true t ls) ≡ true
all-with-true v t [] a b = a
all-with-true v t (l ∷ ls) a b =
    let p = and_parts (literal_true v l) (all_true v ls) b in
    all-with-true v (with_true t l) ls (cond_both (has t l) t (t ++ l ∷ []) (λ u. all_true v u ≡ true) (λ _. a) (λ _. all_true-push v t l a p.0)) p.1

pub any-implies : (p q : Literal → Bool) → ((x : Literal) → p x ≡ true → q x ≡ true) → (xs : List Literal) → list_any p xs ≡ true → list_any q xs ≡ true
any-implies p q k [] h = h
any-implies p q k (x ∷ xs) h =
    elim (or_cases (p x) (list_any p xs) h) [
      | inl e ↦ or_left (q x) (list_any q xs) (k x e)
      | inr e ↦ or_right (q x) (list_any q xs) (any-implies p q k xs e)
    ]

check-cond : (b : Bool) (r : Result (Unit {0}) Step) → cond b (Ok tt) r ≡ Ok tt → b ≡ false → r ≡ Ok tt
check-cond true r e k = absurd (true≢false k)
check-cond false r e k = e

check-sound : (v : ℕ → Bool) (clause : ℕ → Option (List Literal)) → ((id : ℕ) (c : List Literal) → clause id ≡ Some c → clause_true v c ≡ true) → (lits : List Literal) (hs : List ℤ) → check clause lits hs ≡ Ok tt → clause_true v lits ≡ true
check-sound v clause k lits hs o =
    elim (cases_Bool (clause_true v lits)) [
      | inl e ↦ e
      | inr e ↦
          (let a : all_true v (map complement lits) ≡ true = complements-true v lits e in
          elim (cases_Bool (is_tautology lits)) [
            | inl b ↦ any-implies (has (map complement lits)) (literal_true v) (λ x. member-true v (map complement lits) x a) lits b
            | inr b ↦ absurd (hints-sound v clause k (all_with_true [] (map complement lits)) hs (all-with-true v [] (map complement lits) refl a) (check-cond (is_tautology lits) (take_hints clause (all_with_true [] (map complement lits)) hs) o b))
          ])
    ]

-- ---- derivations

get-true : (v : ℕ → Bool) (cs : List (List Literal)) (k : ℕ) (c : List Literal) → clauses_true v cs ≡ true → slice_get cs k ≡ Some c → clause_true v c ≡ true
get-true v [] k c a e = absurd (cc)
get-true v (x ∷ cs) zero c a e =
    let q : x ≡ c = cc in
    let p = and_parts (clause_true v x) (clauses_true v cs) a in
    ap (clause_true v) (sym q) ∙ p.0
get-true v (x ∷ cs) (suc k) c a e =
    let p = and_parts (clause_true v x) (clauses_true v cs) a in
    get-true v cs k c p.1 e

pub at-true : (v : ℕ → Bool) (cs : List (List Literal)) (o : Option ℕ) (c : List Literal) → clauses_true v cs ≡ true → clause_at cs o ≡ Some c → clause_true v c ≡ true
at-true v cs None c a e = absurd (cc)
at-true v cs (Some p) c a e = get-true v cs p c a e

pub all-true : (v : ℕ → Bool) (cs : List (List Literal)) (ms : List Lemma) → clauses_true v cs ≡ true → clauses_true v (map lits_of ms) ≡ true → clauses_true v (clauses_with cs ms) ≡ true
all-true v cs ms a b = list_all-append (clause_true v) cs (map lits_of ms) ∙ and_from (clauses_true v cs) (clauses_true v (map lits_of ms)) a b

clause_of-true : (v : ℕ → Bool) (cs : List (List Literal)) (ms : List Lemma) → clauses_true v cs ≡ true → clauses_true v (map lits_of ms) ≡ true → (id : ℕ) (c : List Literal) → clause_of cs ms id ≡ Some c → clause_true v c ≡ true
clause_of-true v cs ms a b id c e = at-true v (clauses_with cs ms) (place_of (entries_with cs ms []) id) c (all-true v cs ms a b) e

passed-ok : (r : Result (Unit {0}) Step) → passed r ≡ true → r ≡ Ok tt
passed-ok (Ok x) e = refl
passed-ok (Err s) e = absurd (true≢false (sym e))

lemmas-push : (v : ℕ → Bool) (ms : List Lemma) (m : Lemma) → clauses_true v (map lits_of ms) ≡ true → clause_true v m.lits ≡ true → clauses_true v (map lits_of (ms ++ m ∷ [])) ≡ true
lemmas-push v [] m a b = and_from (clause_true v m.lits) true b refl
lemmas-push v (x ∷ ms) m a b =
    let p = and_parts (clause_true v x.lits) (clauses_true v (map lits_of ms)) a in
    and_from (clause_true v x.lits) (clauses_true v (map lits_of (ms ++ m ∷ []))) p.0 (lemmas-push v ms m p.1 b)

lrup-sound : (v : ℕ → Bool) (cs : List (List Literal)) → clauses_true v cs ≡ true → (before ms : List Lemma) → clauses_true v (map lits_of before) ≡ true → lrup cs before ms ≡ true → clauses_true v (map lits_of ms) ≡ true
lrup-sound v cs a before [] b e = refl
lrup-sound v cs a before (m ∷ ms) b e =
    let p = and_parts (passes cs before m) (lrup cs (before ++ m ∷ []) ms) e in
    let t : clause_true v m.lits ≡ true = check-sound v (clause_of cs before) (clause_of-true v cs before a b) m.lits m.hints (passed-ok (check (clause_of cs before) m.lits m.hints) p.0) in
    and_from (clause_true v m.lits) (clauses_true v (map lits_of ms)) t (lrup-sound v cs a (before ++ m ∷ []) ms (lemmas-push v before m b t) p.1)

and_assoc : (a b c : Bool) → ((a && b) && c) ≡ (a && (b && c))
and_assoc true b c = refl
and_assoc false b c = refl

and_true : (a : Bool) → (a && true) ≡ a
and_true true = refl
and_true false = refl

lrup-push : (cs : List (List Literal)) (before ms : List Lemma) (m : Lemma) → lrup cs before (ms ++ m ∷ []) ≡ (lrup cs before ms && passes cs (before ++ ms) m)
lrup-push cs before [] m = and_true (passes cs before m) ∙ ap (λ l. passes cs l m) (sym (append-nil before))
lrup-push cs before (x ∷ ms) m =
    ap (λ b. passes cs before x && b) (lrup-push cs (before ++ x ∷ []) ms m)
    ∙ sym (and_assoc (passes cs before x) (lrup cs (before ++ x ∷ []) ms) (passes cs ((before ++ x ∷ []) ++ ms) m))
    ∙ ap (λ l. (passes cs before x && lrup cs (before ++ x ∷ []) ms) && passes cs l m) (append_assoc before (x ∷ []) ms)

-- ---- more clauses to look at keep a success

-- what hints do is done again
abbrev Again : Result (List Literal) (Result (Unit {0}) Step) → Result (List Literal) (Result (Unit {0}) Step) → Type 0
Again (Ok u) s = s ≡ Ok u
Again (Err (Ok x)) s = s ≡ Err (Ok tt)
Again (Err (Err e)) s = Unit {0}

again-same : (r : Result (List Literal) (Result (Unit {0}) Step)) → Again r r
again-same (Ok u) = refl
again-same (Err (Ok x)) = refl
again-same (Err (Err e)) = tt

clause-again : (t : List Literal) (h : ℕ) (a b : Option (List Literal)) → ((c : List Literal) → a ≡ Some c → b ≡ Some c) → Again (after_clause t h a) (after_clause t h b)
clause-again t h None b m = tt
clause-again t h (Some c) b m = rw (m c refl) (again-same (after_reading t h (reading_of t c)))

then-again : (r s : Result (List Literal) (Result (Unit {0}) Step)) (f g : List Literal → Result (List Literal) (Result (Unit {0}) Step)) → Again r s → ((u : List Literal) → Again (f u) (g u)) → Again (then_on r f) (then_on s g)
then-again (Ok u) s f g e k = rw e (k u)
then-again (Err (Ok x)) s f g e k = rw e refl
then-again (Err (Err o)) s f g e k = tt

hints-again : (clause more : ℕ → Option (List Literal)) → ((id : ℕ) (c : List Literal) → clause id ≡ Some c → more id ≡ Some c) → (t : List Literal) (hs : List ℤ) → Again (after_hints clause t hs) (after_hints more t hs)
hints-again clause more k t [] = refl
hints-again clause more k t (h ∷ hs) =
    then-again (after_clause t (unsigned_abs h) (clause (unsigned_abs h))) (after_clause t (unsigned_abs h) (more (unsigned_abs h))) (λ u. after_hints clause u hs) (λ u. after_hints more u hs)
    (clause-again t (unsigned_abs h) (clause (unsigned_abs h)) (more (unsigned_abs h)) (k (unsigned_abs h))) (λ u. hints-again clause more k u hs)

ended-again : (r s : Result (List Literal) (Result (Unit {0}) Step)) → Again r s → ended r ≡ Ok tt → ended s ≡ Ok tt
ended-again (Ok u) s a e = cc
ended-again (Err (Ok x)) s a e = ap ended a
ended-again (Err (Err o)) s a e = cc

hints-more : (clause more : ℕ → Option (List Literal)) → ((id : ℕ) (c : List Literal) → clause id ≡ Some c → more id ≡ Some c) → (t : List Literal) (hs : List ℤ) → take_hints clause t hs ≡ Ok tt → take_hints more t hs ≡ Ok tt
hints-more clause more k t hs e = ended-again (after_hints clause t hs) (after_hints more t hs) (hints-again clause more k t hs) e

cond-more : (b : Bool) (r s : Result (Unit {0}) Step) → (r ≡ Ok tt → s ≡ Ok tt) → cond b (Ok tt) r ≡ Ok tt → cond b (Ok tt) s ≡ Ok tt
cond-more true r s k e = refl
cond-more false r s k e = k e

cond-at : (cs : List (List Literal)) (b : Bool) (p : ℕ) (c : List Literal) → clause_at cs (cond b (Some p) None) ≡ Some c → slice_get cs p ≡ Some c
cond-at cs true p c e = e
cond-at cs false p c e = absurd (cc)

pub at-more : (cs : List (List Literal)) (live : List Bool) (o : Option ℕ) (c : List Literal) → clause_at cs (if_live live o) ≡ Some c → clause_at cs o ≡ Some c
at-more cs live None c e = e
at-more cs live (Some p) c e = cond-at cs (get_or live p false) p c e

check-live : (d : Proof) (lits : List Literal) (hs : List ℤ) → check (live_clause d) lits hs ≡ Ok tt → check (clause_of d.cnf.clauses d.lemmas) lits hs ≡ Ok tt
check-live d lits hs e =
    cond-more (is_tautology lits) (take_hints (live_clause d) (all_with_true [] (map complement lits)) hs) (take_hints (clause_of d.cnf.clauses d.lemmas) (all_with_true [] (map complement lits)) hs)
    (hints-more (live_clause d) (clause_of d.cnf.clauses d.lemmas) (λ id c. at-more (clauses_with d.cnf.clauses d.lemmas) d.live (place_of (entries_with d.cnf.clauses d.lemmas []) id) c) (all_with_true [] (map complement lits)) hs) e

-- ---- the theorems

empty-clause : (v : ℕ → Bool) (c : List Literal) → is_empty c ≡ true → clause_true v c ≡ true → ⊥
empty-clause v [] e h = true≢false (sym h)
empty-clause v (l ∷ c) e h = true≢false (sym e)

-- the empty clause is true nowhere
pub has-empty : (v : ℕ → Bool) (cs : List (List Literal)) → list_any is_empty cs ≡ true → clauses_true v cs ≡ true → ⊥
has-empty v [] h a = true≢false (sym h)
has-empty v (c ∷ cs) h a =
    let p = and_parts (clause_true v c) (clauses_true v cs) a in
    elim (or_cases (is_empty c) (list_any is_empty cs) h) [
      | inl e ↦ empty-clause v c e p.0
      | inr e ↦ has-empty v cs e p.1
    ]

pub lemmas-follow : (d : Proof) → IsLrup d.cnf.clauses d.lemmas → LemmasFollow d
lemmas-follow d i v a = lrup-sound v d.cnf.clauses a [] d.lemmas refl i.passes_each

pub closed-unsatisfiable : (d : Proof) → IsLrup d.cnf.clauses d.lemmas → is_closed d ≡ true → IsUnsatisfiable d
closed-unsatisfiable d i c v a =
    has-empty v (clauses_with d.cnf.clauses d.lemmas) c (all-true v d.cnf.clauses d.lemmas a (lemmas-follow d i v a))

pub IsLrup-none : (cs : List (List Literal)) → IsLrup cs []
IsLrup-none cs = record { passes_each = refl }

-- a lemma that the live clauses show is one more that passes
pub IsLrup-push : (d : Proof) (n : ℕ) (lits : List Literal) (hs : List ℤ) → IsLrup d.cnf.clauses d.lemmas → check (live_clause d) lits hs ≡ Ok tt → IsLrup d.cnf.clauses (d.lemmas ++ lemma n lits hs ∷ [])
IsLrup-push d n lits hs i e =
    record { passes_each = lrup-push d.cnf.clauses [] d.lemmas (lemma n lits hs) ∙ and_from (lrup d.cnf.clauses [] d.lemmas) (passes d.cnf.clauses d.lemmas (lemma n lits hs)) i.passes_each (ap passed (check-live d lits hs e)) }
