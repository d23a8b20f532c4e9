-- What a tree means as a statement, and its parts as statements, at each shape of tree.
use Rattle.std.proofs.Common.{◌≡◌, ℕ, ◌-◌, ◌≤◌, ◌<◌, List, [], ◌∷◌, length, get_or, take, drop, map, refl, sym, ap, ◌∙◌, arith, Result}
use Rattle.std.specs.List.{AllByRecursion}
use Rattle.std.proofs.lemmas.List.{take_all}
use Rattle.knox_text.specs.declared.place.Place.{Place}
use Rattle.knox_sexpr.specs.declared.tree.Tree.{Tree, roll-Tree, fold-roll-Tree}
use Rattle.knox_sexpr.specs.declared.tree.Tree.TheVariants as trees
use Rattle.knox_sexpr.specs.declared.tree.Tree.TheOpen.{Tree-F}
use Rattle.knox_sexpr.proofs.Meaning.{by_parts}
use Rattle.expr_read.specs.declared.names.Named.{Named}
use Rattle.expr_read.specs.declared.faults.LangFault.{LangFault}
use Rattle.expr_read.specs.declared.faults.LangWhy.TheVariants.{Form}
use Rattle.expr_read.specs.Views.{◌>>=◌, fails, place_of, each}
use Rattle.lang_read.specs.declared.statement.Home.{Home}
use Rattle.lang_read.specs.declared.statement.Keyword.{Keyword}
use Rattle.lang_read.specs.declared.statement.Keyword.TheVariants.{Assign, Query, SetInput, Tick}
use Rattle.lang_read.specs.declared.statement.Step.{Step}
use Rattle.lang_read.specs.declared.statement.Steps.{Steps}
use Rattle.lang_read.specs.Statements.{StmtPart, tree_in, stmt_level, stmt_reading, stmt_block, stmt_part, stmt_of, inner_of, block_of, and_step, no_steps, keyword_of, form, begun, assign, branched, branch, query, ops_in, inputs_in, set_input, tick, steps_in, repeated, repeat}

abbrev at_top : Tree-F StmtPart → Tree → StmtPart
at_top y t = record { tree = t; reading = stmt_reading y; block = stmt_block y }

pub part-Atom : (at : Place) (name : List ℕ) → stmt_part (trees.Atom at name) ≡ at_top (Tree-F.Atom at name) (roll-Tree (Tree-F.Atom at name))
unfolding stmt_part
part-Atom at name = ap stmt_part (sym (trees.rolls-Atom at name)) ∙ fold-roll-Tree StmtPart stmt_level (Tree-F.Atom at name)

pub part-Number : (at : Place) (width value : ℕ) → stmt_part (trees.Number at width value) ≡ at_top (Tree-F.Number at width value) (roll-Tree (Tree-F.Number at width value))
unfolding stmt_part
part-Number at width value = ap stmt_part (sym (trees.rolls-Number at width value)) ∙ fold-roll-Tree StmtPart stmt_level (Tree-F.Number at width value)

pub part-List : (at close : Place) (ts : List Tree) → stmt_part (trees.List at ts close) ≡ at_top (Tree-F.List at (map stmt_part ts) close) (roll-Tree (Tree-F.List at (map tree_in (map stmt_part ts)) close))
unfolding stmt_part
part-List at close ts = ap stmt_part (sym (trees.rolls-List at ts close)) ∙ fold-roll-Tree StmtPart stmt_level (Tree-F.List at ts close)

abbrev Kept : Tree → Type 0
Kept t = (stmt_part t).tree ≡ t

kept-among : (ts : List Tree) → AllByRecursion Kept ts → map tree_in (map stmt_part ts) ≡ ts
kept-among [] all = refl
kept-among (t ∷ ts) all = cc (all.0, kept-among ts all.1)

-- a part keeps its tree
pub tree-part : (t : Tree) → (stmt_part t).tree ≡ t
tree-part = by_parts Kept
    (λ at name. ap tree_in (part-Atom at name) ∙ trees.rolls-Atom at name)
    (λ at width value. ap tree_in (part-Number at width value) ∙ trees.rolls-Number at width value)
    (λ at close ts all. ap tree_in (part-List at close ts) ∙ ap (λ (us : List Tree). roll-Tree (Tree-F.List at us close)) (kept-among ts all) ∙ trees.rolls-List at ts close)

trees-kept : (ts : List Tree) → map tree_in (map stmt_part ts) ≡ ts
trees-kept [] = refl
trees-kept (t ∷ ts) = cc (tree-part t, trees-kept ts)

-- ---- statements

pub stmt-Atom : (home : Home) (t : Tree) (at : Place) (name : List ℕ) (names : List Named) → t ≡ trees.Atom at name → stmt_of home t names ≡ fails at Form
stmt-Atom home t at name names e = ap (λ (u : Tree). stmt_of home u names) e ∙ ap (λ (p : StmtPart). p.reading home names) (part-Atom at name)

pub stmt-Number : (home : Home) (t : Tree) (at : Place) (width value : ℕ) (names : List Named) → t ≡ trees.Number at width value → stmt_of home t names ≡ fails at Form
stmt-Number home t at width value names e = ap (λ (u : Tree). stmt_of home u names) e ∙ ap (λ (p : StmtPart). p.reading home names) (part-Number at width value)

pub stmt-List : (home : Home) (t : Tree) (at close : Place) (ts : List Tree) (names : List Named) → t ≡ trees.List at ts close → begun home at (map stmt_part ts) names ≡ stmt_of home t names
stmt-List home t at close ts names e = sym (ap (λ (u : Tree). stmt_of home u names) e ∙ ap (λ (p : StmtPart). p.reading home names) (part-List at close ts))

-- ---- lists of statements

-- statements by parts are statements by trees
pub each-part : (home : Home) (ts : List Tree) (names : List Named) (before : Steps) →
    each (λ (s : Steps) (p : StmtPart). p.reading home names) and_step before (map stmt_part ts) ≡ each (λ (s : Steps) t. stmt_of home t names) and_step before ts
unfolding each
each-part home [] names before = refl
each-part home (t ∷ ts) names before = ap (λ (k : Step → Result Steps LangFault). stmt_of home t names >>= k) (λ i x. each-part home ts names (and_step before x) i)

pub inner-Atom : (home : Home) (t : Tree) (at : Place) (name : List ℕ) (names : List Named) → t ≡ trees.Atom at name → inner_of home t names ≡ fails at Form
inner-Atom home t at name names e = ap (λ (u : Tree). inner_of home u names) e ∙ ap (λ (p : StmtPart). p.block home names) (part-Atom at name)

pub inner-Number : (home : Home) (t : Tree) (at : Place) (width value : ℕ) (names : List Named) → t ≡ trees.Number at width value → inner_of home t names ≡ fails at Form
inner-Number home t at width value names e = ap (λ (u : Tree). inner_of home u names) e ∙ ap (λ (p : StmtPart). p.block home names) (part-Number at width value)

pub inner-List : (home : Home) (t : Tree) (at close : Place) (ts : List Tree) (names : List Named) → t ≡ trees.List at ts close → block_of home ts names ≡ inner_of home t names
inner-List home t at close ts names e =
    sym (ap (λ (u : Tree). inner_of home u names) e ∙ ap (λ (p : StmtPart). p.block home names) (part-List at close ts) ∙ each-part home ts names no_steps)

-- the first part, and what follows it
pub list-is : (home : Home) (at : Place) (ts : List Tree) (h : Tree) (names : List Named) → 1 ≤ length ts → h ≡ get_or ts 0 h → form home at (place_of h) (keyword_of home h) (map stmt_part (take (length ts - 1) (drop 1 ts))) names ≡ begun home at (map stmt_part ts) names
list-is home at [] h names le e = absurd (omega arith)
list-is home at (t ∷ ts) h names le e =
    let rest : take (length (t ∷ ts) - 1) ts ≡ ts = take_all (length (t ∷ ts) - 1) ts (omega arith) in
    rw rest (ap (λ (x : Tree). form home at (place_of x) (keyword_of home x) (map stmt_part ts) names) (e ∙ sym (tree-part t)))

pub branch-is : (home : Home) (at : Place) (ts : List Tree) (e a b : Tree) (names : List Named) → 3 ≤ length ts → length ts < 4 → e ≡ get_or ts 0 e → a ≡ get_or ts 1 a → b ≡ get_or ts 2 b → branched home e (stmt_part a) (stmt_part b) names ≡ branch home at (map stmt_part ts) names
branch-is home at [] e a b names le lt p q r = absurd (omega arith)
branch-is home at (t ∷ []) e a b names le lt p q r = absurd (omega arith)
branch-is home at (t ∷ u ∷ []) e a b names le lt p q r = absurd (omega arith)
branch-is home at (t ∷ u ∷ v ∷ []) e a b names le lt p q r =
    ap (λ (x : Tree). branched home x (stmt_part a) (stmt_part b) names) (p ∙ sym (tree-part t))
    ∙ ap (λ (x : Tree). branched home (stmt_part t).tree (stmt_part x) (stmt_part b) names) q
    ∙ ap (λ (x : Tree). branched home (stmt_part t).tree (stmt_part u) (stmt_part x) names) r
branch-is home at (t ∷ u ∷ v ∷ w ∷ ts) e a b names le lt p q r = absurd (omega arith)

pub assign-is : (home : Home) (at head_place : Place) (word : Keyword) (ts : List Tree) (names : List Named) → word ≡ Assign → assign at ts names ≡ form home at head_place word (map stmt_part ts) names
assign-is home at head_place word ts names e =
    ap (λ (us : List Tree). assign at us names) (sym (trees-kept ts)) ∙ ap (λ (k : Keyword). form home at head_place k (map stmt_part ts) names) (sym e)

pub query-is : (home : Home) (at head_place : Place) (word : Keyword) (ts : List Tree) (names : List Named) → word ≡ Query → query at ts names (ops_in home) ≡ form home at head_place word (map stmt_part ts) names
query-is home at head_place word ts names e =
    ap (λ (us : List Tree). query at us names (ops_in home)) (sym (trees-kept ts)) ∙ ap (λ (k : Keyword). form home at head_place k (map stmt_part ts) names) (sym e)

pub set_input-is : (home : Home) (at head_place : Place) (word : Keyword) (ts : List Tree) (names : List Named) → word ≡ SetInput → set_input (inputs_in home) at ts names ≡ form home at head_place word (map stmt_part ts) names
set_input-is home at head_place word ts names e =
    ap (λ (us : List Tree). set_input (inputs_in home) at us names) (sym (trees-kept ts)) ∙ ap (λ (k : Keyword). form home at head_place k (map stmt_part ts) names) (sym e)

pub tick-is : (home : Home) (at head_place : Place) (word : Keyword) (ts : List Tree) (names : List Named) → word ≡ Tick → tick at ts ≡ form home at head_place word (map stmt_part ts) names
tick-is home at head_place word ts names e =
    ap (λ (us : List Tree). tick at us) (sym (trees-kept ts)) ∙ ap (λ (k : Keyword). form home at head_place k (map stmt_part ts) names) (sym e)

-- a test, a number, and what follows them
pub repeat-is : (home : Home) (at : Place) (ts : List Tree) (e n : Tree) (names : List Named) → 2 ≤ length ts → e ≡ get_or ts 0 e → n ≡ get_or ts 1 n → repeated e n (block_of home (take (length ts - 2) (drop 2 ts)) names) names ≡ repeat home at (map stmt_part ts) names
repeat-is home at [] e n names le p q = absurd (omega arith)
repeat-is home at (t ∷ []) e n names le p q = absurd (omega arith)
repeat-is home at (t ∷ u ∷ ts) e n names le p q =
    let rest : take (length (t ∷ u ∷ ts) - 2) ts ≡ ts = take_all (length (t ∷ u ∷ ts) - 2) ts (omega arith) in
    ap (λ (us : List Tree). repeated e n (block_of home us names) names) rest
    ∙ ap (λ (r : Result Steps LangFault). repeated e n r names) (sym (each-part home ts names no_steps))
    ∙ ap (λ (x : Tree). repeated x n (steps_in home (map stmt_part ts) names) names) (p ∙ sym (tree-part t))
    ∙ ap (λ (x : Tree). repeated (stmt_part t).tree x (steps_in home (map stmt_part ts) names) names) (q ∙ sym (tree-part u))
