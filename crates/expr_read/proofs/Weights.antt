-- How large trees are: a tree is larger than its parts.
use Rattle.std.proofs.Common.{◌≡◌, ℕ, zero, suc, ◌+◌, ◌≤◌, ◌<◌, List, [], ◌∷◌, ◌-◌, length, get_or, take, drop, map, sym, ap, ◌∙◌, arith}
use Rattle.std.proofs.lemmas.List.{take_all}
use Rattle.knox_text.specs.declared.place.Place.{Place}
use Rattle.knox_sexpr.specs.declared.tree.Tree.{Tree, fold-Tree, fold-roll-Tree}
use Rattle.knox_sexpr.specs.declared.tree.Tree.TheVariants as trees
use Rattle.knox_sexpr.specs.declared.tree.Tree.TheOpen.{Tree-F}
use Rattle.knox_sexpr.proofs.Meaning.{by_parts}

abbrev pub sum_of : List ℕ → ℕ
sum_of [] = 0
sum_of (n ∷ ns) = n + sum_of ns

abbrev weight_level : Tree-F ℕ → ℕ
weight_level (Tree-F.Atom at name) = 1
weight_level (Tree-F.Number at width value) = 1
weight_level (Tree-F.List at weights close) = 1 + sum_of weights

unfoldable pub weight : Tree → ℕ
weight t = fold-Tree ℕ weight_level t

abbrev pub weights : List Tree → ℕ
weights ts = sum_of (map weight ts)

pub weight-List : (at close : Place) (ts : List Tree) → weight (trees.List at ts close) ≡ 1 + weights ts
unfolding weight
weight-List at close ts = ap weight (sym (trees.rolls-List at ts close)) ∙ fold-roll-Tree ℕ weight_level (Tree-F.List at ts close)

weight-Atom : (at : Place) (word : List ℕ) → weight (trees.Atom at word) ≡ 1
unfolding weight
weight-Atom at word = ap weight (sym (trees.rolls-Atom at word)) ∙ fold-roll-Tree ℕ weight_level (Tree-F.Atom at word)

weight-Number : (at : Place) (width value : ℕ) → weight (trees.Number at width value) ≡ 1
unfolding weight
weight-Number at width value = ap weight (sym (trees.rolls-Number at width value)) ∙ fold-roll-Tree ℕ weight_level (Tree-F.Number at width value)

pub some_weight : (t : Tree) → 1 ≤ weight t
some_weight = by_parts (λ t. 1 ≤ weight t) (λ at word. omega (arith, weight-Atom at word)) (λ at width value. omega (arith, weight-Number at width value)) (λ at close ts all. omega (arith, weight-List at close ts))

pub weight-at : (ts : List Tree) (i : ℕ) (t : Tree) → i < length ts → t ≡ get_or ts i t → weight t ≤ weights ts
weight-at [] i t lt e = absurd (omega arith)
weight-at (u ∷ ts) zero t lt e = let same = ap weight e in omega (arith, same)
weight-at (u ∷ ts) (suc i) t lt e = let more = weight-at ts i t (omega arith) e in omega (arith, more)

pub weight-behind : (ts : List Tree) → weights (take (length ts - 1) (drop 1 ts)) ≤ weights ts
weight-behind [] = omega arith
weight-behind (t ∷ ts) = rw (take_all (length (t ∷ ts) - 1) ts (omega arith)) (omega arith)
