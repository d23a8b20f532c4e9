-- What a tree means as an expression, at each shape of tree.
use Rattle.std.proofs.Common.{◌≡◌, ℕ, ◌-◌, ◌≤◌, ◌<◌, List, [], ◌∷◌, length, get_or, take, drop, map, refl, sym, ap, ◌∙◌, arith}
use Rattle.std.specs.List.{AllByRecursion}
use Rattle.std.proofs.lemmas.List.{take_all}
use Rattle.knox_text.specs.declared.place.Place.{Place}
use Rattle.knox_sexpr.specs.declared.tree.Tree.{Tree, roll-Tree, fold-roll-Tree}
use Rattle.knox_sexpr.specs.declared.tree.Tree.TheVariants as trees
use Rattle.knox_sexpr.specs.declared.tree.Tree.TheOpen.{Tree-F}
use Rattle.knox_sexpr.proofs.Meaning.{by_parts}
use Rattle.expr_read.specs.declared.names.Group.{Group}
use Rattle.expr_read.specs.declared.names.Group.TheVariants.{Plain}
use Rattle.expr_read.specs.declared.names.Named.{Named}
use Rattle.expr_read.specs.Views.{place_of}
use Rattle.expr_read.specs.Expressions.{Part, part_level, part, expr_of, named, literal, list, applied, head_of, bv_word, bv, named_symbol, named_by_form}

pub part-Atom : (at : Place) (name : List ℕ) → part (trees.Atom at name) ≡ record { tree = roll-Tree (Tree-F.Atom at name); reading = λ names. named at Plain name names }
unfolding part
part-Atom at name = ap part (sym (trees.rolls-Atom at name)) ∙ fold-roll-Tree Part part_level (Tree-F.Atom at name)

pub part-Number : (at : Place) (width value : ℕ) → part (trees.Number at width value) ≡ record { tree = roll-Tree (Tree-F.Number at width value); reading = λ names. literal at width value }
unfolding part
part-Number at width value = ap part (sym (trees.rolls-Number at width value)) ∙ fold-roll-Tree Part part_level (Tree-F.Number at width value)

abbrev tree_in : Part → Tree
tree_in p = p.tree

pub part-List : (at close : Place) (ts : List Tree) → part (trees.List at ts close) ≡ record { tree = roll-Tree (Tree-F.List at (map tree_in (map part ts)) close); reading = λ names. list at (map part ts) names }
unfolding part
part-List at close ts = ap part (sym (trees.rolls-List at ts close)) ∙ fold-roll-Tree Part part_level (Tree-F.List at ts close)

abbrev Kept : Tree → Type 0
Kept t = (part t).tree ≡ t

kept-all : (ts : List Tree) → AllByRecursion Kept ts → map tree_in (map part ts) ≡ ts
kept-all [] all = refl
kept-all (t ∷ ts) all = cc (all.0, kept-all ts all.1)

-- a part keeps its tree
pub tree-part : (t : Tree) → (part t).tree ≡ t
tree-part = by_parts Kept
    (λ at name. ap tree_in (part-Atom at name) ∙ trees.rolls-Atom at name)
    (λ at width value. ap tree_in (part-Number at width value) ∙ trees.rolls-Number at width value)
    (λ at close ts all. ap tree_in (part-List at close ts) ∙ ap (λ (us : List Tree). roll-Tree (Tree-F.List at us close)) (kept-all ts all) ∙ trees.rolls-List at ts close)

pub expr-Atom : (at : Place) (name : List ℕ) → expr_of (trees.Atom at name) ≡ λ names. named at Plain name names
expr-Atom at name = ap (λ (p : Part). p.reading) (part-Atom at name)

pub expr-Number : (at : Place) (width value : ℕ) → expr_of (trees.Number at width value) ≡ λ names. literal at width value
expr-Number at width value = ap (λ (p : Part). p.reading) (part-Number at width value)

pub expr-List : (at close : Place) (ts : List Tree) → expr_of (trees.List at ts close) ≡ λ names. list at (map part ts) names
expr-List at close ts = ap (λ (p : Part). p.reading) (part-List at close ts)

-- the first part, and what follows it
pub list-is : (at : Place) (ts : List Tree) (h : Tree) (names : List Named) → 1 ≤ length ts → h ≡ get_or ts 0 h → applied at (place_of h) (head_of h) (map part (take (length ts - 1) (drop 1 ts))) names ≡ list at (map part ts) names
list-is at [] h names le e = absurd (omega arith)
list-is at (t ∷ ts) h names le e =
    let rest : take (length (t ∷ ts) - 1) ts ≡ ts = take_all (length (t ∷ ts) - 1) ts (omega arith) in
    rw rest (ap (λ (x : Tree). applied at (place_of x) (head_of x) (map part ts) names) (e ∙ sym (tree-part t)))

pub bv-is : (at : Place) (ts : List Tree) (w n : Tree) → 2 ≤ length ts → length ts < 3 → w ≡ get_or ts 0 w → n ≡ get_or ts 1 n → bv_word w n ≡ bv at (map part ts)
bv-is at [] w n le lt e f = absurd (omega arith)
bv-is at (t ∷ []) w n le lt e f = absurd (omega arith)
bv-is at (t ∷ u ∷ []) w n le lt e f = cc (e, f, tree-part t, tree-part u)
bv-is at (t ∷ u ∷ v ∷ ts) w n le lt e f = absurd (omega arith)

pub form-is : (at : Place) (group : Group) (ts : List Tree) (x : Tree) (names : List Named) → 1 ≤ length ts → length ts < 2 → x ≡ get_or ts 0 x → named_symbol group x names ≡ named_by_form at group (map part ts) names
form-is at group [] x names le lt e = absurd (omega arith)
form-is at group (t ∷ []) x names le lt e = ap (λ (u : Tree). named_symbol group u names) (e ∙ sym (tree-part t))
form-is at group (t ∷ u ∷ ts) x names le lt e = absurd (omega arith)
