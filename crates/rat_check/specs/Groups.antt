-- The parts of the hints of a lemma, after LRAT: those before the first negative one, and a group for each
-- negative hint -i, which is about the clause i and ends before the next negative hint.
use Rattle.std.specs.Prelude.{ℕ, ◌≡◌, ◌==◌, Bool, true, false, List, [], ◌∷◌, ℤ, unsigned_abs}
use Rattle.std.specs.List.{list_any}
use Rattle.lrat_check.specs.Hints.{is_negative}

pub record Group : Type 0 where
  pub id : ℕ
  pub hints : List ℤ

abbrev pub group : ℕ → List ℤ → Group
group n hs = record { id = n; hints = hs }

pub record Parts : Type 0 where
  pub lead : List ℤ
  pub groups : List Group

abbrev pub parts : List ℤ → List Group → Parts
parts hs gs = record { lead = hs; groups = gs }

-- one more hint, in front
abbrev pub with_hint : ℤ → Bool → Parts → Parts
with_hint h true p = parts [] (group (unsigned_abs h) p.lead ∷ p.groups)
with_hint h false p = parts (h ∷ p.lead) p.groups

abbrev pub parts_of : List ℤ → Parts
parts_of [] = parts [] []
parts_of (h ∷ hs) = with_hint h (is_negative h) (parts_of hs)

-- a group is about this clause
abbrev pub has_group : List Group → ℕ → Bool
has_group gs i = list_any (λ (g : Group). g.id == i) gs

-- hints with a group about this clause, and hints whose groups are all among theirs
pub record PassesGroup (hs : List ℤ) (i : ℕ) (rest : List ℤ) : Type 0 where
  pub about : has_group (parts_of hs).groups i ≡ true
  pub others : (j : ℕ) → has_group (parts_of rest).groups j ≡ true → has_group (parts_of hs).groups j ≡ true
