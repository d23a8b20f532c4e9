-- Literals. A literal is a variable or its negation, and variables are numbered from 1.
-- Standard: DIMACS, where a number above 0 stands for its variable, and one below 0 for the negation.
-- The project's own: a variable is below 2 ^ 63, so that each literal has a complement.
use Rattle.std.specs.Prelude.{ℕ, zero, suc, ◌≤◌, ◌<◌, ◌^◌, ◌==◌, ◌&&◌, Bool, true, false, not, List, ℤ, pos, negsuc, ◌≡◌, refl}
use Rattle.std.specs.List.{list_any}

pub record Literal : Type 0 where
  pub var : ℕ
  pub positive : Bool

abbrev pub literal : ℕ → Bool → Literal
literal v p = record { var = v; positive = p }

abbrev pub complement : Literal → Literal
complement l = record { var = l.var; positive = not l.positive }

abbrev pub same_sign : Bool → Bool → Bool
same_sign true b = b
same_sign false b = not b

abbrev pub same_literal : Literal → Literal → Bool
same_literal a b = (a.var == b.var) && same_sign a.positive b.positive

-- the literal is one of these
abbrev pub has : List Literal → Literal → Bool
has ls l = list_any (same_literal l) ls

-- a variable from 1 to the limit
pub record IsLiteral (l : Literal) : Type 0 where
  pub low : 1 ≤ l.var
  pub high : l.var < 2 ^ 63

-- the literal that a number stands for, and variable 0 for the number 0
abbrev pub spelled_by : ℤ → Literal
spelled_by (pos n) = literal n true
spelled_by (negsuc n) = literal (suc n) false

-- the number that stands for a literal
abbrev pub negated : ℕ → ℤ
negated zero = pos 0
negated (suc n) = negsuc n

abbrev pub signed : ℕ → Bool → ℤ
signed v true = pos v
signed v false = negated v

abbrev pub number_of : Literal → ℤ
number_of l = signed l.var l.positive

pub number_of-spelled_by : (z : ℤ) → number_of (spelled_by z) ≡ z
number_of-spelled_by (pos n) = refl
number_of-spelled_by (negsuc n) = refl
