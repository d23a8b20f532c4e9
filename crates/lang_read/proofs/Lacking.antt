-- Drivers that lack a call, read.
use Rattle.std.proofs.Common.{◌≡◌, List, [], ◌∷◌, refl, Some, Ok, true, false}
use Rattle.std.specs.Prelude.{codes}
use Rattle.knox_text.specs.Examples.{place}
use Rattle.knox_words.specs.Bits.{bits}
use Rattle.knox_sexpr.specs.declared.tree.Tree.{Tree, out-Tree}
use Rattle.knox_sexpr.specs.declared.tree.Tree.TheVariants as trees
use Rattle.knox_sexpr.specs.declared.tree.Tree.TheOpen.{Tree-F}
use Rattle.knox_lang.specs.declared.expr.Expr.TheVariants.{Lit}
use Rattle.knox_lang.specs.declared.parts.Body.{Body}
use Rattle.expr_read.specs.declared.faults.LangWhy.TheVariants.{Form, Missing}
use Rattle.expr_read.specs.declared.names.Named.{Named}
use Rattle.expr_read.specs.Views.{fails, is_headed, each}
use Rattle.expr_read.specs.Expressions.{expr_of, literal}
use Rattle.expr_read.proofs.Parts.{expr-Number}
use Rattle.lang_read.specs.declared.statement.Home.{Home}
use Rattle.lang_read.specs.Calls.{call, is_call}
use Rattle.lang_read.specs.Drivers.{driver_text}
use Rattle.lang_read.specs.Examples.{no_lines, two_ops, bare, no_list, only_set}

calls-none : (t h : Tree) → out-Tree t ≡ Tree-F.List (place 1 1) (h ∷ []) (place 1 8) → out-Tree h ≡ Tree-F.Atom (place 1 2) (codes "driver") → driver_text no_lines two_ops (place 1 9) (t ∷ []) ≡ fails (place 1 1) Missing
unfolding each
calls-none t h ts hs = rw ts (rw hs refl)

pub none : driver_text no_lines two_ops (place 1 9) (bare ∷ []) ≡ fails (place 1 1) Missing
none = calls-none _ _ (trees.outs-List _ _ _) (trees.outs-Atom _ _)

has-word : (t h u : Tree) → out-Tree t ≡ Tree-F.List (place 1 1) (h ∷ u ∷ []) (place 1 12) → out-Tree h ≡ Tree-F.Atom (place 1 2) (codes "driver") → out-Tree u ≡ Tree-F.Atom (place 1 9) (codes "set") →
    driver_text no_lines two_ops (place 1 13) (t ∷ []) ≡ fails (place 1 9) Form
unfolding each
has-word t h u ts hs us = rw ts (rw hs (rw us (rw us (rw us refl))))

pub other : driver_text no_lines two_ops (place 1 13) (no_list ∷ []) ≡ fails (place 1 9) Form
other = has-word _ _ _ (trees.outs-List _ _ _) (trees.outs-Atom _ _) (trees.outs-Atom _ _)

follows : (t h u : Tree) → out-Tree t ≡ Tree-F.List (place 1 1) (h ∷ []) (place 1 8) → out-Tree h ≡ Tree-F.Atom (place 1 2) (codes "driver") → out-Tree u ≡ Tree-F.List (place 1 10) [] (place 1 11) →
    driver_text no_lines two_ops (place 1 12) (t ∷ u ∷ []) ≡ fails (place 1 10) Form
unfolding each
follows t h u ts hs us = rw ts (rw hs (rw us refl))

pub behind : driver_text no_lines two_ops (place 1 12) (bare ∷ trees.List (place 1 10) [] (place 1 11) ∷ []) ≡ fails (place 1 10) Form
behind = follows _ _ _ (trees.outs-List _ _ _) (trees.outs-Atom _ _) (trees.outs-List _ _ _)

-- (call set (result #b1)), whose result is read
module _ (u k n r q v : Tree) (us : out-Tree u ≡ Tree-F.List (place 1 9) (k ∷ n ∷ r ∷ []) (place 1 31)) (ks : out-Tree k ≡ Tree-F.Atom (place 1 10) (codes "call")) (ns : out-Tree n ≡ Tree-F.Atom (place 1 15) (codes "set"))
    (rs : out-Tree r ≡ Tree-F.List (place 1 19) (q ∷ v ∷ []) (place 1 30)) (qs : out-Tree q ≡ Tree-F.Atom (place 1 20) (codes "result")) (vs : expr_of v ≡ (λ (names : List Named). literal (place 1 27) 1 1)) where
  names-no-cells : is_headed (codes "persistent") u ≡ false
  names-no-cells = rw us (rw ks refl)

  gives-no-words : is_headed (codes "idle") u ≡ false
  gives-no-words = rw us (rw ks refl)

  abbrev bit : Body
  bit = record { locals = []; stmts = []; result = Some (Lit (bits 1 1)) }

  is-read : (home : Home) (names : List Named) → call home two_ops.ops names [] u ≡ Ok (0, bit)
  unfolding each
  is-read home names = rw us (rw ks (rw rs (rw qs (rw ns (rw vs refl)))))

  calls-set : is_call (codes "set") u ≡ true
  calls-set = rw us (rw ks (rw ns refl))

  calls-no-check : is_call (codes "check") u ≡ false
  calls-no-check = rw us (rw ks (rw ns refl))

  calls-one : (t h : Tree) → out-Tree t ≡ Tree-F.List (place 1 1) (h ∷ u ∷ []) (place 1 32) → out-Tree h ≡ Tree-F.Atom (place 1 2) (codes "driver") → driver_text no_lines two_ops (place 1 33) (t ∷ []) ≡ fails (place 1 1) Missing
  unfolding each
  calls-one t h ts hs = rw ts (rw hs (rw names-no-cells (rw gives-no-words (rw is-read (rw calls-set (rw calls-no-check refl))))))

pub one : driver_text no_lines two_ops (place 1 33) (only_set ∷ []) ≡ fails (place 1 1) Missing
one = calls-one _ _ _ _ _ _ (trees.outs-List _ _ _) (trees.outs-Atom _ _) (trees.outs-Atom _ _) (trees.outs-List _ _ _) (trees.outs-Atom _ _) (expr-Number _ _ _) _ _ (trees.outs-List _ _ _) (trees.outs-Atom _ _)
