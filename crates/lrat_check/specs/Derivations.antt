-- Derivations: a formula with lemmas, of which each passes the check against the clauses before it.
use Rattle.std.specs.Prelude.{ℕ, ◌≡◌, Bool, true, false, not, cond, ◌&&◌, List, [], ◌∷◌, ◌++◌, length, map, replicate, slice_get, Option, Some, None, Result, Ok, Err, ℤ}
use Rattle.std.specs.List.{list_any}
use Rattle.knox_cnf.specs.Literals.{Literal}
use Rattle.knox_cnf.specs.declared.formula.Cnf.{Cnf}
use Rattle.lrat_check.specs.declared.step.Step.{Step}
use Rattle.lrat_check.specs.declared.step.Step.TheVariants.{IdNotNew, Rat, NoSuchClause}
use Rattle.lrat_check.specs.declared.lemma.Lemma.{Lemma}
use Rattle.lrat_check.specs.Register.{Entries, entries, place_of, live_place, is_new, deleted}
use Rattle.lrat_check.specs.Hints.{check, is_negative}

-- a formula, the lemmas that were admitted, and which clauses are live
pub record Proof : Type 0 where
  pub cnf : Cnf
  pub lemmas : List Lemma
  pub live : List Bool

abbrev pub proof : Cnf → List Lemma → List Bool → Proof
proof cnf ms live = record { cnf = cnf; lemmas = ms; live = live }

abbrev pub lemma : ℕ → List Literal → List ℤ → Lemma
lemma n c hs = record { id = n; lits = c; hints = hs }

-- nothing but the formula
abbrev pub start_of : Cnf → Proof
start_of cnf = proof cnf [] (replicate (length cnf.clauses) true)

abbrev pub id_of : Lemma → ℕ
id_of m = m.id

abbrev pub lits_of : Lemma → List Literal
lits_of m = m.lits

-- all clauses in order: those of the formula, and the lemmas
abbrev pub clauses_with : List (List Literal) → List Lemma → List (List Literal)
clauses_with cs ms = cs ++ map lits_of ms

abbrev pub entries_with : List (List Literal) → List Lemma → List Bool → Entries
entries_with cs ms live = entries (length cs) (map id_of ms) live

abbrev pub entries_of : Proof → Entries
entries_of d = entries_with d.cnf.clauses d.lemmas d.live

-- the clause at a place, if there is a place
abbrev pub clause_at : List (List Literal) → Option ℕ → Option (List Literal)
clause_at cs None = None
clause_at cs (Some p) = slice_get cs p

-- the live clause that an id names
abbrev pub live_in : Entries → List (List Literal) → ℕ → Option (List Literal)
live_in e cs id = clause_at cs (live_place e id)

abbrev pub live_clause : Proof → ℕ → Option (List Literal)
live_clause d id = live_in (entries_of d) (clauses_with d.cnf.clauses d.lemmas) id

-- the clause that an id names, live or not
abbrev pub clause_of : List (List Literal) → List Lemma → ℕ → Option (List Literal)
clause_of cs ms id = clause_at (clauses_with cs ms) (place_of (entries_with cs ms []) id)

-- ---- what the calls answer

-- the answer to a lemma, want of memory apart
abbrev pub answer : Proof → ℕ → List Literal → List ℤ → Result (Unit {0}) Step
answer d id lits hints =
    cond (not (is_new (entries_of d) id)) (Err (IdNotNew id))
    (cond (list_any is_negative hints) (Err (Rat id)) (check (live_clause d) lits hints))

-- the derivation with one more lemma, which is live
abbrev pub with_lemma : Proof → Lemma → Proof
with_lemma d m = record d { lemmas = d.lemmas ++ m ∷ []; live = d.live ++ true ∷ [] }

-- deleting clauses: which clauses are live then, or the first id that isn't live
abbrev pub live_after : Result Entries ℕ → Result (List Bool) Step
live_after (Ok e) = Ok e.live
live_after (Err id) = Err (NoSuchClause id)

abbrev pub live_without : Proof → List ℕ → Result (List Bool) Step
live_without d ids = live_after (deleted (entries_of d) ids)

abbrev pub is_empty : List Literal → Bool
is_empty [] = true
is_empty (l ∷ ls) = false

-- the formula or the lemmas have the empty clause
abbrev pub is_closed : Proof → Bool
is_closed d = list_any is_empty (clauses_with d.cnf.clauses d.lemmas)

-- ---- each lemma passes

abbrev pub passed : Result (Unit {0}) Step → Bool
passed (Ok x) = true
passed (Err e) = false

-- the lemma passes against clauses that stand before it, live or not
abbrev pub passes : List (List Literal) → List Lemma → Lemma → Bool
passes cs before m = passed (check (clause_of cs before) m.lits m.hints)

abbrev pub lrup : List (List Literal) → List Lemma → List Lemma → Bool
lrup cs before [] = true
lrup cs before (m ∷ ms) = passes cs before m && lrup cs (before ++ m ∷ []) ms

pub record IsLrup (cs : List (List Literal)) (ms : List Lemma) : Type 0 where
  pub passes_each : lrup cs [] ms ≡ true
