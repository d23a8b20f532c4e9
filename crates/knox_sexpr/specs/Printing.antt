-- What trees are printed as.
use Rattle.std.specs.Prelude.{ℕ, zero, suc, ◌+◌, ◌/◌, ◌%◌, List, [], ◌∷◌, ◌++◌, flat_map}
use Rattle.std.specs.Fmt.{decimal}
use Rattle.knox_text.specs.declared.place.Place.{Place}
use Rattle.knox_text.specs.Places.{next, behind, first_place}
use Rattle.knox_sexpr.specs.declared.tree.Tree.{Tree, fold-Tree}
use Rattle.knox_sexpr.specs.declared.tree.Tree.TheVariants as trees
use Rattle.knox_sexpr.specs.declared.tree.Tree.TheOpen.{Tree-F}

-- n binary digits of a number
abbrev pub binary : ℕ → ℕ → List ℕ
binary zero value = []
binary (suc n) value = binary n (value / 2) ++ (48 + value % 2) ∷ []

abbrev pub number_bytes : ℕ → ℕ → List ℕ
number_bytes zero value = decimal value
number_bytes (suc n) value = 35 ∷ 98 ∷ binary (suc n) value

-- a printed tree, and the tree that stands there, if it is printed at a place
pub record Shown : Type 0 where
  pub bytes : List ℕ
  pub tree_at : Place → Tree

abbrev pub after_space : Shown → List ℕ
after_space s = 32 ∷ s.bytes

abbrev pub spaced : List Shown → List ℕ
spaced [] = []
spaced (s ∷ ss) = s.bytes ++ flat_map after_space ss

abbrev pub more_at : Place → List Shown → List Tree
more_at at [] = []
more_at at (s ∷ ss) = s.tree_at (next at 32) ∷ more_at (behind (next at 32) s.bytes) ss

abbrev pub all_at : Place → List Shown → List Tree
all_at at [] = []
all_at at (s ∷ ss) = s.tree_at at ∷ more_at (behind at s.bytes) ss

abbrev pub show_level : Tree-F Shown → Shown
show_level (Tree-F.Atom at word) = record { bytes = word; tree_at = λ p. trees.Atom p word }
show_level (Tree-F.Number at width value) = record { bytes = number_bytes width value; tree_at = λ p. trees.Number p width value }
show_level (Tree-F.List at parts close) = record { bytes = 40 ∷ (spaced parts ++ 41 ∷ []); tree_at = λ p. trees.List p (all_at (next p 40) parts) (behind (next p 40) (spaced parts)) }

unfoldable pub show : Tree → Shown
show t = fold-Tree Shown show_level t

abbrev pub printed : Tree → List ℕ
printed t = (show t).bytes

-- one tree a line
abbrev pub line : Tree → List ℕ
line t = printed t ++ 10 ∷ []

abbrev pub lines : List Tree → List ℕ
lines ts = flat_map line ts

-- the trees as they stand in these lines
abbrev pub lines_at : Place → List Tree → List Tree
lines_at at [] = []
lines_at at (t ∷ ts) = (show t).tree_at at ∷ lines_at (next (behind at (printed t)) 10) ts

-- a tree without its places
abbrev pub unplaced_level : Tree-F Tree → Tree
unplaced_level (Tree-F.Atom at word) = trees.Atom first_place word
unplaced_level (Tree-F.Number at width value) = trees.Number first_place width value
unplaced_level (Tree-F.List at parts close) = trees.List first_place parts first_place

abbrev pub unplaced : Tree → Tree
unplaced t = fold-Tree Tree unplaced_level t
