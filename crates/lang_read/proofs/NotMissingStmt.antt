-- No statement is refused as missing.
use Rattle.std.proofs.Common.{◌≡◌, ℕ, ◌==◌, nat_le, List, [], ◌∷◌, map, length, sym, subst, refl, Option, Some, None, Result, Ok, Err, slice_get}
use Rattle.std.specs.List.{AllByRecursion}
use Rattle.knox_text.specs.declared.place.Place.{Place}
use Rattle.knox_lang.specs.declared.parts.OpHead.{OpHead}
use Rattle.knox_sexpr.specs.declared.tree.Tree.{Tree}
use Rattle.knox_sexpr.proofs.Meaning.{by_parts}
use Rattle.expr_read.specs.declared.faults.LangFault.{LangFault}
use Rattle.expr_read.specs.declared.names.Group.TheVariants.{Input}
use Rattle.expr_read.specs.declared.names.Named.{Named}
use Rattle.expr_read.specs.declared.names.Seen.{Seen}
use Rattle.expr_read.specs.Views.{◌>>=◌, place_of, number_of, symbol_of}
use Rattle.expr_read.specs.Names.{seen_of, target, op_number}
use Rattle.expr_read.specs.Expressions.{expr_of, expr_of_width}
use Rattle.lang_read.specs.declared.statement.Home.{Home}
use Rattle.lang_read.specs.declared.statement.Keyword.{Keyword}
use Rattle.lang_read.specs.declared.statement.Keyword.TheVariants.{Assign, If, Query, While, SetInput, Tick, Other, NoSymbol}
use Rattle.lang_read.specs.declared.statement.Steps.{Steps}
use Rattle.lang_read.specs.declared.statement.Values.{Values}
use Rattle.lang_read.specs.Statements.{StmtPart, tree_in, assigned, assign, branched, branch, turns_of, steps_in, and_step, no_steps, repeated, repeat, inputs_in, input_set, set_input, tick, values_of, and_value, no_values, suit, reply, given, asked, head_at, op_at, op_of, queried, query, ops_in, keyword_of, form, begun, stmt_part, stmt_of, block_of}
use Rattle.lang_read.proofs.Parts.{part-Atom, part-Number, part-List}
use Rattle.expr_read.proofs.NotMissing.{NotMissing, and-then, either, all-map, among, in-each, in-number, in-symbol}
use Rattle.expr_read.proofs.NotMissingExpr.{in-seen, in-target, in-expr, in-typed}

abbrev Good : StmtPart → Type 0
Good p = (home : Home) (names : List Named) → NotMissing (p.reading home names) × NotMissing (p.block home names)

in-assigned : (x e : Tree) (names : List Named) → NotMissing (assigned x e names)
in-assigned x e names = and-then (target x names) _ (in-target x names) (λ s. and-then (expr_of_width e s.width names) _ (in-typed e s.width names) (λ value. tt))

in-assign : (at : Place) (ts : List Tree) (names : List Named) → NotMissing (assign at ts names)
in-assign at [] names = refl
in-assign at (x ∷ []) names = refl
in-assign at (x ∷ e ∷ []) names = in-assigned x e names
in-assign at (x ∷ e ∷ t ∷ ts) names = refl

in-branched : (home : Home) (e : Tree) (a b : StmtPart) → Good a → Good b → (names : List Named) → NotMissing (branched home e a b names)
in-branched home e a b p q names =
    and-then (expr_of_width e 1 names) _ (in-typed e 1 names) (λ test. and-then (a.block home names) _ (p home names).1 (λ first. and-then (b.block home names) _ (q home names).1 (λ second. tt)))

in-branch : (home : Home) (at : Place) (ps : List StmtPart) → AllByRecursion Good ps → (names : List Named) → NotMissing (branch home at ps names)
in-branch home at [] all names = refl
in-branch home at (e ∷ []) all names = refl
in-branch home at (e ∷ a ∷ []) all names = refl
in-branch home at (e ∷ a ∷ b ∷ []) all names = in-branched home e.tree a b all.1.0 all.1.1.0 names
in-branch home at (e ∷ a ∷ b ∷ p ∷ ps) all names = refl

in-turns : (t : Tree) → NotMissing (turns_of t)
in-turns t = and-then (number_of t) _ (in-number t) (λ n. either (nat_le n 1000000) _ _ tt refl)

in-steps : (home : Home) (ps : List StmtPart) → AllByRecursion Good ps → (names : List Named) → NotMissing (steps_in home ps names)
in-steps home ps all names = among Good (λ (before : Steps) (p : StmtPart). p.reading home names) and_step no_steps ps (λ before p good. (good home names).0) all

in-repeated : (e n : Tree) (steps : Result Steps LangFault) → NotMissing steps → (names : List Named) → NotMissing (repeated e n steps names)
in-repeated e n steps p names =
    and-then (expr_of_width e 1 names) _ (in-typed e 1 names) (λ test. and-then (turns_of n) _ (in-turns n) (λ turns. and-then steps _ p (λ turn. tt)))

in-repeat : (home : Home) (at : Place) (ps : List StmtPart) → AllByRecursion Good ps → (names : List Named) → NotMissing (repeat home at ps names)
in-repeat home at [] all names = refl
in-repeat home at (e ∷ []) all names = refl
in-repeat home at (e ∷ n ∷ ps) all names = in-repeated e.tree n.tree (steps_in home ps names) (in-steps home ps all.1.1 names) names

in-set : (inputs : List Named) (x e : Tree) (names : List Named) → NotMissing (input_set inputs x e names)
in-set inputs x e names = and-then (seen_of Input x inputs) _ (in-seen Input x inputs) (λ s. and-then (expr_of_width e s.width names) _ (in-typed e s.width names) (λ value. tt))

in-set-input : (inputs : List Named) (at : Place) (ts : List Tree) (names : List Named) → NotMissing (set_input inputs at ts names)
in-set-input inputs at [] names = refl
in-set-input inputs at (x ∷ []) names = refl
in-set-input inputs at (x ∷ e ∷ []) names = in-set inputs x e names
in-set-input inputs at (x ∷ e ∷ t ∷ ts) names = refl

in-tick : (at : Place) (ts : List Tree) → NotMissing (tick at ts)
in-tick at [] = tt
in-tick at (t ∷ ts) = refl

-- ---- queries

in-values : (names : List Named) (ts : List Tree) → NotMissing (values_of names ts)
in-values names ts = in-each (λ (before : Values) t. expr_of t names) and_value no_values ts (λ before t. in-expr t names)

in-reply : (x : Tree) (w : ℕ) (names : List Named) → NotMissing (reply x w names)
in-reply x w names = and-then (target x names) _ (in-target x names) (λ s. either (s.width == w) _ _ tt refl)

in-given : (at : Place) (to : Result Seen LangFault) (k : ℕ) (head : OpHead) (vs : Result Values LangFault) → NotMissing to → NotMissing vs → NotMissing (given at to k head vs)
in-given at to k head (Ok vs) p q = either (suit vs.widths head.args) _ _ (and-then to _ p (λ s. tt)) refl
in-given at to k head (Err f) p q = and-then to _ p (λ s. q)

in-asked : (at : Place) (x : Tree) (k : ℕ) (head : OpHead) (ts : List Tree) (names : List Named) → NotMissing (asked at x k head ts names)
in-asked at x k head ts names =
    either (length ts == length head.args) _ _ (in-given at (reply x head.result names) k head (values_of names ts) (in-reply x head.result names) (in-values names ts)) refl

head-found : (at : Place) (k : ℕ) (o : Option OpHead) → NotMissing (head_at at k o)
head-found at k None = refl
head-found at k (Some head) = tt

op-found : (at : Place) (ops : List OpHead) (o : Option ℕ) → NotMissing (op_at at ops o)
op-found at ops None = refl
op-found at ops (Some k) = head-found at k (slice_get ops k)

pub in-op : (t : Tree) (ops : List OpHead) → NotMissing (op_of t ops)
in-op t ops = and-then (symbol_of t) _ (in-symbol t) (λ name. op-found (place_of t) ops (op_number name ops))

in-queried : (at : Place) (x : Tree) (ts : List Tree) (names : List Named) (op : Result (ℕ × OpHead) LangFault) → NotMissing op → NotMissing (queried at x ts names op)
in-queried at x ts names (Ok o) p = in-asked at x o.0 o.1 ts names
in-queried at x ts names (Err f) p = and-then (target x names) _ (in-target x names) (λ s. p)

in-query : (at : Place) (ts : List Tree) (names : List Named) (ops : List OpHead) → NotMissing (query at ts names ops)
in-query at [] names ops = refl
in-query at (x ∷ []) names ops = refl
in-query at (x ∷ op ∷ ts) names ops = in-queried at x ts names (op_of op ops) (in-op op ops)

-- ---- statements

in-form : (home : Home) (at head_place : Place) (word : Keyword) (ps : List StmtPart) → AllByRecursion Good ps → (names : List Named) → NotMissing (form home at head_place word ps names)
in-form home at head_place Assign ps all names = in-assign at (map tree_in ps) names
in-form home at head_place If ps all names = in-branch home at ps all names
in-form home at head_place Query ps all names = in-query at (map tree_in ps) names (ops_in home)
in-form home at head_place While ps all names = in-repeat home at ps all names
in-form home at head_place SetInput ps all names = in-set-input (inputs_in home) at (map tree_in ps) names
in-form home at head_place Tick ps all names = in-tick at (map tree_in ps)
in-form home at head_place Other ps all names = refl
in-form home at head_place NoSymbol ps all names = refl

in-begun : (home : Home) (at : Place) (ps : List StmtPart) → AllByRecursion Good ps → (names : List Named) → NotMissing (begun home at ps names)
in-begun home at [] all names = refl
in-begun home at (head ∷ ps) all names = in-form home at (place_of head.tree) (keyword_of home head.tree) ps all.1 names

good : (t : Tree) → Good (stmt_part t)
good = by_parts (λ (t : Tree). Good (stmt_part t))
    (λ at name. subst Good (sym (part-Atom at name)) (λ home names. (refl, refl)))
    (λ at width value. subst Good (sym (part-Number at width value)) (λ home names. (refl, refl)))
    (λ at close ts all. subst Good (sym (part-List at close ts))
    (λ home names. (in-begun home at (map stmt_part ts) (all-map stmt_part Good ts all) names, in-steps home (map stmt_part ts) (all-map stmt_part Good ts all) names)))

pub in-block : (home : Home) (ts : List Tree) (names : List Named) → NotMissing (block_of home ts names)
in-block home ts names = in-each (λ (before : Steps) t. stmt_of home t names) and_step no_steps ts (λ before t. (good t home names).0)
