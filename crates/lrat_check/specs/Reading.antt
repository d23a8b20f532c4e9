-- What a clause says where some literals are taken to be true. A clause is read as a set, so that a
-- literal that stands twice counts once.
use Rattle.std.specs.Prelude.{not, cond, List, [], ◌∷◌}
use Rattle.std.specs.List.{list_all, filter}
use Rattle.knox_cnf.specs.Literals.{Literal, complement, same_literal, has}
use Rattle.lrat_check.specs.declared.reading.Reading.{Reading}
use Rattle.lrat_check.specs.declared.reading.Reading.TheVariants.{False, Unit as Forced, Other}

-- the literals of a clause that aren't false
abbrev pub open_literals : List Literal → List Literal → List Literal
open_literals trail c = filter (λ l. not (has trail (complement l))) c

-- no literal is left, one is, or more are
abbrev pub reading_of_open : List Literal → Reading
reading_of_open [] = False
reading_of_open (l ∷ ls) = cond (list_all (same_literal l) ls) (Forced l) Other

abbrev pub reading_of : List Literal → List Literal → Reading
reading_of trail c = reading_of_open (open_literals trail c)
