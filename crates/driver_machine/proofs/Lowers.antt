-- Each part lowers the number of parts that are left.
use Rattle.std.proofs.Common.{◌≡◌, ℕ, zero, suc, ◌+◌, ◌-◌, ◌*◌, ◌<◌, ◌≤◌, List, [], ◌∷◌, ◌++◌, Option, Bool, true, false, if◌then◌else◌, refl, sym, ◌∙◌, ap, arith, subst}
use Rattle.knox_words.specs.Bits.{word_or}
use Rattle.knox_words.specs.Lists.{Words}
use Rattle.knox_theory.specs.Design.{Config}
use Rattle.knox_circuit.specs.Line.{Line}
use Rattle.knox_lang.specs.declared.expr.Expr.{Expr}
use Rattle.knox_lang.specs.declared.expr.Stmt.{Stmt, out-Stmt, fold_out-Stmt, map-Stmt}
use Rattle.knox_lang.specs.declared.expr.Stmt.TheOpen.{Stmt-F}
use Rattle.knox_lang.specs.declared.parts.DriverParts.{DriverParts}
use Rattle.driver_machine.specs.Sight.{Run, Setting, setting, holds}
use Rattle.driver_machine.specs.Left.{Item, Does, Again, Left, Rest, Over, on, turns_from, Next, Went, Ticks, NoTurns, AtResult, next_turn, begun, next, arrived, run_of, step}
use Rattle.driver_machine.specs.Moves.{stmt_parts, parts_level, list_parts, item_parts, items_parts, parts_left}

parts-append : (xs ys : List Item) → items_parts (xs ++ ys) ≡ items_parts xs + items_parts ys
parts-append [] ys = omega arith
parts-append (x ∷ xs) ys = let e = parts-append xs ys in omega arith

parts-on : (b : Words) (ss : List Stmt) → items_parts (on b ss) ≡ list_parts ss
parts-on b [] = refl
parts-on b (s ∷ ss) = ap (λ (n : ℕ). stmt_parts s + n) (parts-on b ss)

parts-turns : (w : ℕ) (body : List Stmt) (b : Words) (k n : ℕ) → items_parts (turns_from w body b k n) ≡ n * list_parts body
parts-turns w body b k zero = omega arith
parts-turns w body b k (suc n) =
    let e = parts-append (on (b ++ word_or w k ∷ []) body) (turns_from w body b (k + 1) n) in
    let f = parts-on (b ++ word_or w k ∷ []) body in
    let h = parts-turns w body b (k + 1) n in
    e ∙ omega arith

-- a part that went on has fewer parts left
abbrev pub Lowers : ℕ → Next → Type 0
Lowers n (Went l run) = items_parts l < n
Lowers n (Ticks l run) = items_parts l < n
Lowers n NoTurns = Unit {0}
Lowers n AtResult = Unit {0}

module _ (g : Setting) where
  chosen : (t : Bool) (b : Words) (as' bs : List Stmt) (rest : List Item) → items_parts (on b (if t then as' else bs) ++ rest) < 1 + (list_parts as' + list_parts bs) + items_parts rest
  chosen true b as' bs rest = let e = parts-append (on b as') rest in let f = parts-on b as' in omega arith
  chosen false b as' bs rest = let e = parts-append (on b bs) rest in let f = parts-on b bs in omega arith

  retried : (t : Bool) (e : Expr) (n : ℕ) (body : List Stmt) (b : Words) (rest : List Item) (run : Run) →
      Lowers (1 + suc n * (list_parts body + 1) + items_parts rest) (if t then Went (on b body ++ Again e n body b ∷ rest) run else Went rest run)
  retried true e n body b rest run = let a = parts-append (on b body) (Again e n body b ∷ rest) in let f = parts-on b body in omega arith
  retried false e n body b rest run = omega arith

  ended : (t : Bool) (x : ℕ) (rest : List Item) (run : Run) → 0 < x → Lowers (x + items_parts rest) (if t then NoTurns else Went rest run)
  ended true x rest run h = tt
  ended false x rest run h = omega arith

  lowers-again : (e : Expr) (n : ℕ) (body : List Stmt) (b : Words) (rest : List Item) (run : Run) → Lowers (item_parts (Again e n body b) + items_parts rest) (next_turn g e n body b rest run)
  lowers-again e zero body b rest run = ended (holds g run b e) (1 + 0 * (list_parts body + 1)) rest run (omega arith)
  lowers-again e (suc n) body b rest run = retried (holds g run b e) e n body b rest run

  more : (m n : ℕ) (x : Next) → m ≤ n → Lowers m x → Lowers n x
  more m n (Went l run) h e = omega arith
  more m n (Ticks l run) h e = omega arith
  more m n NoTurns h e = tt
  more m n AtResult h e = tt

  arm : (y : Stmt-F Stmt) (b : Words) (rest : List Item) (run : Run) → Lowers (parts_level (map-Stmt Stmt ℕ stmt_parts y) + items_parts rest) (begun g y b rest run)
  arm (Stmt-F.Assign x a) b rest run = omega arith
  arm (Stmt-F.Store x i a) b rest run = omega arith
  arm (Stmt-F.If c as' bs) b rest run = chosen (holds g run b c) b as' bs rest
  arm (Stmt-F.For w n body) b rest run =
      let e = parts-append (turns_from w body b 0 n) rest in let f = parts-turns w body b 0 n in omega arith
  arm (Stmt-F.While e n body) b rest run = more (1 + n * (list_parts body + 1) + items_parts rest) _ (next_turn g e n body b rest run) (omega arith) (lowers-again e n body b rest run)
  arm (Stmt-F.SetInput k a) b rest run = omega arith
  arm Stmt-F.Tick b rest run = omega arith
  arm Stmt-F.CopyTick b rest run = omega arith
  arm (Stmt-F.Query x k as') b rest run = omega arith

  -- the next part lowers the number of parts that are left
  pub lowers : (l : List Item) (run : Run) → Lowers (items_parts l) (next g l run)
  lowers [] run = tt
  lowers (Does s b ∷ rest) run = subst (λ (n : ℕ). Lowers (n + items_parts rest) (begun g (out-Stmt s) b rest run)) (sym (fold_out-Stmt ℕ parts_level s)) (arm (out-Stmt s) b rest run)
  lowers (Again e n body b ∷ rest) run = lowers-again e n body b rest run

lowered : (lines : List Line) (d : DriverParts) (args : Words) (result : Option Expr) (run : Run) (m : ℕ) (n : Next) → Lowers m n →
    parts_left (arrived (setting lines d.funs args) result run n).left ≤ m
lowered lines d args result run m (Went items run') h = omega arith
lowered lines d args result run m (Ticks items run') h = omega arith
lowered lines d args result run m NoTurns h = omega arith
lowered lines d args result run m AtResult h = omega arith

step-in-lowers : (lines : List Line) (d : DriverParts) (left : Left) (run : Run) →
    parts_left (step lines d (record { left = left; cells = run.cells; inputs = run.inputs; locals = run.locals })).left ≤ parts_left left - 1
step-in-lowers lines d (Over r) run = omega arith
step-in-lowers lines d (Rest items args result) run =
    let g = setting lines d.funs args in
    let h = lowered lines d args result run (items_parts items) (next g items run) (lowers g items run) in
    omega arith

-- a step leaves fewer parts, and at the end none
pub step-lowers : (lines : List Line) (d : DriverParts) (c : Config Left) → parts_left (step lines d c).left ≤ parts_left c.left - 1
step-lowers lines d c = step-in-lowers lines d c.left (run_of c)
