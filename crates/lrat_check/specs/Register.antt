-- Which clause an id names, after LRAT: the clauses of a formula have the ids from 1 on in their order,
-- and each lemma has its own. A clause has a place: those of the formula come first, and then the
-- lemmas in the order in which they came.
-- The project's own: a clause that was deleted keeps its place and isn't live.
use Rattle.std.specs.Prelude.{ℕ, zero, suc, ◌<◌, slice_index, length, ◌==◌, nat_lt, Bool, true, false, cond, List, [], ◌∷◌, ◌++◌, slice_set, slice_index_or, Option, Some, None, Result, Ok, Err}
use Rattle.std.specs.List.{list_all}

-- how many clauses the formula has, the ids of the lemmas, and which clauses are live
pub record Entries : Type 0 where
  pub formula : ℕ
  pub ids : List ℕ
  pub live : List Bool

abbrev pub entries : ℕ → List ℕ → List Bool → Entries
entries n ids live = record { formula = n; ids = ids; live = live }

-- so many numbers from a first one on
abbrev pub numbers_from : ℕ → ℕ → List ℕ
numbers_from first zero = []
numbers_from first (suc n) = first ∷ numbers_from (suc first) n

-- the ids of all clauses, in order of their places
abbrev pub all_ids : Entries → List ℕ
all_ids e = numbers_from 1 e.formula ++ e.ids

-- each number is above those before it
pub record Rises (xs : List ℕ) : Type 0 where
  pub each : (i j : ℕ) → i < j → j < length xs → slice_index xs i < slice_index xs j

-- one place on
abbrev pub later : Option ℕ → Option ℕ
later None = None
later (Some p) = Some (suc p)

-- the first place at which a number stands
abbrev pub place_in : List ℕ → ℕ → Option ℕ
place_in [] n = None
place_in (x ∷ xs) n = cond (x == n) (Some zero) (later (place_in xs n))

abbrev pub place_of : Entries → ℕ → Option ℕ
place_of e id = place_in (all_ids e) id

-- a place, if it has a live clause
abbrev pub if_live : List Bool → Option ℕ → Option ℕ
if_live live None = None
if_live live (Some p) = cond (slice_index_or live p false) (Some p) None

abbrev pub live_place : Entries → ℕ → Option ℕ
live_place e id = if_live e.live (place_of e id)

-- the id is above every id before
abbrev pub is_new : Entries → ℕ → Bool
is_new e id = list_all (λ i. nat_lt i id) (all_ids e)

-- the last of the clauses that these ids name is live again, then the one before it, and so on
abbrev pub revived_at : List Bool → Option ℕ → List Bool
revived_at live None = live
revived_at live (Some p) = slice_set live p true

abbrev pub revived : Entries → List ℕ → List Bool
revived e [] = e.live
revived e (id ∷ ids) = revived_at (revived e ids) (place_of e id)

-- one more clause, which is live
abbrev pub with_id : Entries → ℕ → Entries
with_id e id = record e { ids = e.ids ++ id ∷ []; live = e.live ++ true ∷ [] }

-- without the clause at a place
abbrev pub without : Entries → ℕ → Entries
without e p = record e { live = slice_set e.live p false }

-- deleting ids one after another: what is left, or the first id that isn't live then
abbrev pub delete_then : Entries → ℕ → Option ℕ → (Entries → Result Entries ℕ) → Result Entries ℕ
delete_then e id None rest = Err id
delete_then e id (Some p) rest = rest (without e p)

abbrev pub deleted : Entries → List ℕ → Result Entries ℕ
deleted e [] = Ok e
deleted e (id ∷ ids) = delete_then e id (live_place e id) (λ f. deleted f ids)
