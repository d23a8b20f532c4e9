-- The values of expressions, and the dialogues and actions of statements, form by form: each is what its level says of the values of its parts.
use Rattle.std.proofs.Common.{◌≡◌, ℕ, List, map, ap, sym, ◌∙◌}
use Rattle.knox_words.specs.Bits.{Bits}
use Rattle.knox_words.specs.declared.op.Op1.{Op1}
use Rattle.knox_words.specs.declared.op.Op2.{Op2}
use Rattle.knox_lang.specs.declared.expr.Slot.{Slot}
use Rattle.knox_lang.specs.declared.expr.Expr.{Expr, fold-roll-Expr}
use Rattle.knox_lang.specs.declared.expr.Expr.TheOpen.{Expr-F}
use Rattle.knox_lang.specs.declared.expr.Expr.TheVariants as expr
use Rattle.knox_lang.specs.declared.expr.Stmt.{Stmt, fold-roll-Stmt}
use Rattle.knox_lang.specs.declared.expr.Stmt.TheOpen.{Stmt-F}
use Rattle.knox_lang.specs.declared.expr.Stmt.TheVariants as stmt
use Rattle.knox_lang.specs.Eval.{Calls, Value, level, eval}
use Rattle.knox_lang.specs.Exec.{Answering, Does, stmt_level, does}
use Rattle.driver_machine.specs.Sight.{Setting}
use Rattle.driver_machine.specs.Drive.{Action, drive_level, drives}
use Rattle.emu_machine.specs.Dialogue.{Talk, talk_level, talk_of}

module _ (calls : Calls) where
  pub value-Lit : (w : Bits) → eval calls (expr.Lit w) ≡ level calls (Expr-F.Lit w)
  value-Lit w = ap (eval calls) (sym (expr.rolls-Lit w)) ∙ fold-roll-Expr Value (level calls) (Expr-F.Lit w)

  pub value-Name : (s : Slot) → eval calls (expr.Name s) ≡ level calls (Expr-F.Name s)
  value-Name s = ap (eval calls) (sym (expr.rolls-Name s)) ∙ fold-roll-Expr Value (level calls) (Expr-F.Name s)

  pub value-Un : (o : Op1) (a : Expr) → eval calls (expr.Un o a) ≡ level calls (Expr-F.Un o (eval calls a))
  value-Un o a = ap (eval calls) (sym (expr.rolls-Un o a)) ∙ fold-roll-Expr Value (level calls) (Expr-F.Un o a)

  pub value-Bin : (o : Op2) (a b : Expr) → eval calls (expr.Bin o a b) ≡ level calls (Expr-F.Bin o (eval calls a) (eval calls b))
  value-Bin o a b = ap (eval calls) (sym (expr.rolls-Bin o a b)) ∙ fold-roll-Expr Value (level calls) (Expr-F.Bin o a b)

  pub talk-Assign : (s : Slot) (e : Expr) → talk_of calls (stmt.Assign s e) ≡ talk_level calls (Stmt-F.Assign s e)
  talk-Assign s e = ap (talk_of calls) (sym (stmt.rolls-Assign s e)) ∙ fold-roll-Stmt Talk (talk_level calls) (Stmt-F.Assign s e)

  pub talk-If : (c : Expr) (as' bs : List Stmt) → talk_of calls (stmt.If c as' bs) ≡ talk_level calls (Stmt-F.If c (map (talk_of calls) as') (map (talk_of calls) bs))
  talk-If c as' bs = ap (talk_of calls) (sym (stmt.rolls-If c as' bs)) ∙ fold-roll-Stmt Talk (talk_level calls) (Stmt-F.If c as' bs)

  pub talk-Query : (s : Slot) (k : ℕ) (args : List Expr) → talk_of calls (stmt.Query s k args) ≡ talk_level calls (Stmt-F.Query s k args)
  talk-Query s k args = ap (talk_of calls) (sym (stmt.rolls-Query s k args)) ∙ fold-roll-Stmt Talk (talk_level calls) (Stmt-F.Query s k args)

  pub does-Assign : (A : Type 0) (q : Answering A) (s : Slot) (e : Expr) → does A calls q (stmt.Assign s e) ≡ stmt_level A calls q (Stmt-F.Assign s e)
  does-Assign A q s e = ap (does A calls q) (sym (stmt.rolls-Assign s e)) ∙ fold-roll-Stmt (Does A) (stmt_level A calls q) (Stmt-F.Assign s e)

module _ (g : Setting) where
  pub drives-SetInput : (k : ℕ) (e : Expr) → drives g (stmt.SetInput k e) ≡ drive_level g (Stmt-F.SetInput k e)
  drives-SetInput k e = ap (drives g) (sym (stmt.rolls-SetInput k e)) ∙ fold-roll-Stmt Action (drive_level g) (Stmt-F.SetInput k e)

  pub drives-Tick : drives g stmt.Tick ≡ drive_level g Stmt-F.Tick
  drives-Tick = ap (drives g) (sym stmt.rolls-Tick) ∙ fold-roll-Stmt Action (drive_level g) Stmt-F.Tick

  pub drives-While : (c : Expr) (n : ℕ) (body : List Stmt) → drives g (stmt.While c n body) ≡ drive_level g (Stmt-F.While c n (map (drives g) body))
  drives-While c n body = ap (drives g) (sym (stmt.rolls-While c n body)) ∙ fold-roll-Stmt Action (drive_level g) (Stmt-F.While c n body)
