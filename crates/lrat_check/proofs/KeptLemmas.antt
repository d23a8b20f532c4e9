-- What holds of the fields of a database, and of a derivation, is kept.
use Rattle.std.proofs.Common.{◌≡◌, ℕ, Bool, true, false, ◌||◌, List, [], ◌∷◌, ◌++◌, refl, sym, ◌∙◌, ap, Result, Ok, Err, map, length}
use Rattle.std.specs.Prelude.{ℤ, OnOk, OnErr}
use Rattle.std.specs.List.{list_any}
use Rattle.std.proofs.lemmas.List.Folds.{list_any-append}
use Rattle.knox_cnf.specs.Literals.{Literal}
use Rattle.lrat_check.specs.declared.lemma.Lemma.{Lemma}
use Rattle.lrat_check.specs.Register.{Entries, entries, with_id}
use Rattle.lrat_check.specs.Hints.{check}
use Rattle.lrat_check.specs.Derivations.{Proof, lemma, id_of, lits_of, clauses_with, entries_with, live_clause, with_lemma, is_empty, IsLrup}
use Rattle.lrat_check.proofs.Sound.{IsLrup-push}

-- ---- deleting

pub register-kept : (cs : List (List Literal)) (ms : List Lemma) (old new : Entries) → old ≡ entries_with cs ms old.live → new ≡ entries old.formula old.ids new.live → new ≡ entries_with cs ms new.live
register-kept cs ms old new e k = k ∙ ap (λ (x : Entries). entries x.formula x.ids new.live) e

-- ---- adding

-- a derivation whose lemma was added, or for which memory ran out
pub pushed-lrup : {E : Type 0} (old new : Proof) (n : ℕ) (lits : List Literal) (hs : List ℤ) (r : Result (Unit {0}) E) → check (live_clause old) lits hs ≡ Ok tt → OnOk r (new ≡ with_lemma old (lemma n lits hs)) → OnErr r (new ≡ old) → IsLrup old.cnf.clauses old.lemmas → IsLrup new.cnf.clauses new.lemmas
pushed-lrup old new n lits hs (Ok x) s k e i = rw k (IsLrup-push old n lits hs i s)
pushed-lrup old new n lits hs (Err x) s k e i = rw e i

ids-more : (ms : List Lemma) (m : Lemma) → map id_of ms ++ m.id ∷ [] ≡ map id_of (ms ++ m ∷ [])
ids-more [] m = refl
ids-more (x ∷ ms) m = ap (λ l. x.id ∷ l) (ids-more ms m)

pub add-register : (cs : List (List Literal)) (ms more : List Lemma) (old new : Entries) (n : ℕ) (m : Lemma) → old ≡ entries_with cs ms old.live → m.id ≡ n → more ≡ ms ++ m ∷ [] → new ≡ with_id old n → new ≡ entries_with cs more new.live
add-register cs ms more old new n m e i k w =
    w ∙ ap (λ (x : Entries). entries x.formula (x.ids ++ n ∷ []) (old.live ++ true ∷ [])) e
    ∙ ap (λ l. entries (length cs) (map id_of ms ++ n ∷ []) l) (sym (ap (λ (x : Entries). x.live) w))
    ∙ ap (λ j. entries (length cs) (map id_of ms ++ j ∷ []) new.live) (sym i)
    ∙ ap (λ l. entries (length cs) l new.live) (ids-more ms m ∙ ap (map id_of) (sym k))

or_false : (b : Bool) → (b || false) ≡ b
or_false true = refl
or_false false = refl

or_assoc : (a b c : Bool) → (a || (b || c)) ≡ ((a || b) || c)
or_assoc true b c = refl
or_assoc false b c = refl

any-more : (ms : List Lemma) (m : Lemma) → list_any is_empty (map lits_of (ms ++ m ∷ [])) ≡ (list_any is_empty (map lits_of ms) || is_empty m.lits)
any-more [] m = or_false (is_empty m.lits)
any-more (x ∷ ms) m = ap (λ b. is_empty x.lits || b) (any-more ms m) ∙ or_assoc (is_empty x.lits) (list_any is_empty (map lits_of ms)) (is_empty m.lits)

pub add-closed : (cs : List (List Literal)) (ms more : List Lemma) (m : Lemma) (lits : List Literal) (old new : Bool) → old ≡ list_any is_empty (clauses_with cs ms) → new ≡ (old || is_empty lits) → m.lits ≡ lits → more ≡ ms ++ m ∷ [] → new ≡ list_any is_empty (clauses_with cs more)
add-closed cs ms more m lits old new o w l k =
    w ∙ ap (λ b. b || is_empty lits) (o ∙ list_any-append is_empty cs (map lits_of ms))
    ∙ ap (λ c. (list_any is_empty cs || list_any is_empty (map lits_of ms)) || is_empty c) (sym l)
    ∙ sym (or_assoc (list_any is_empty cs) (list_any is_empty (map lits_of ms)) (is_empty m.lits))
    ∙ ap (λ b. list_any is_empty cs || b) (sym (any-more ms m))
    ∙ sym (list_any-append is_empty cs (map lits_of (ms ++ m ∷ [])))
    ∙ ap (λ ls. list_any is_empty (clauses_with cs ls)) (sym k)
