-- An example: a PIN store that is busy for one tick after each command, and its driver, which waits
-- until the store is ready, for so many ticks at most.
-- A command 1 sets the secret, a command 2 asks whether the data is the secret.
use Rattle.std.specs.Prelude.{ℕ, pos, List, [], ◌∷◌, codes, Some, true, false}
use Rattle.knox_words.specs.Bits.{bits}
use Rattle.knox_words.specs.Lists.{Words}
use Rattle.knox_words.specs.declared.op.Op1.TheVariants.{Not, Redor}
use Rattle.knox_words.specs.declared.op.Op2.TheVariants.{Eq, And}
use Rattle.knox_theory.specs.Design.{Config}
use Rattle.knox_circuit.specs.Shape.{Shape}
use Rattle.knox_circuit.specs.Shape.TheVariants as shape
use Rattle.knox_circuit.specs.Line.{Line}
use Rattle.knox_lang.specs.declared.expr.Expr.{Expr}
use Rattle.knox_lang.specs.declared.expr.Expr.TheVariants as expr
use Rattle.knox_lang.specs.declared.expr.Stmt.{Stmt}
use Rattle.knox_lang.specs.declared.expr.Stmt.TheVariants as stmt
use Rattle.knox_lang.specs.declared.expr.Space.{Space}
use Rattle.knox_lang.specs.declared.expr.Space.TheVariants as space
use Rattle.knox_lang.specs.declared.parts.OpHead.{OpHead}
use Rattle.knox_lang.specs.declared.parts.Body.{Body}
use Rattle.knox_lang.specs.declared.parts.DriverParts.{DriverParts}
use Rattle.driver_machine.specs.Left.{Left, Rest, Does}

abbrev pub line : (number : ℕ) → Shape → (symbol : List ℕ) → Line
line n s symbol = record { number = n; at = n; shape = s; symbol = symbol }

-- the store: inputs `cmd` and `data`, cells `secret`, `ok` and `busy`, outputs `ok` and `rdy`
abbrev pub store : List Line
store =
    line 1 (shape.Bitvec 1) []
    ∷ line 2 (shape.Bitvec 2) []
    ∷ line 3 (shape.Bitvec 4) []
    ∷ line 4 (shape.Zero 1) []
    ∷ line 5 (shape.Zero 3) []
    ∷ line 6 (shape.Constd 2 (codes "1")) []
    ∷ line 7 (shape.Constd 2 (codes "2")) []
    ∷ line 8 (shape.Input 2) (codes "cmd")
    ∷ line 9 (shape.Input 3) (codes "data")
    ∷ line 10 (shape.State 3) (codes "secret")
    ∷ line 11 (shape.Init 3 (pos 10) (pos 5)) []
    ∷ line 12 (shape.State 1) (codes "ok")
    ∷ line 13 (shape.Init 1 (pos 12) (pos 4)) []
    ∷ line 14 (shape.Bin Eq 1 (pos 8) (pos 6)) []
    ∷ line 15 (shape.Ite 3 (pos 14) (pos 9) (pos 10)) []
    ∷ line 16 (shape.Next 3 (pos 10) (pos 15)) []
    ∷ line 17 (shape.Bin Eq 1 (pos 8) (pos 7)) []
    ∷ line 18 (shape.Bin Eq 1 (pos 9) (pos 10)) []
    ∷ line 19 (shape.Bin And 1 (pos 17) (pos 18)) []
    ∷ line 20 (shape.Next 1 (pos 12) (pos 19)) []
    ∷ line 21 (shape.Output (pos 12)) (codes "ok")
    ∷ line 22 (shape.State 1) (codes "busy")
    ∷ line 23 (shape.Init 1 (pos 22) (pos 4)) []
    ∷ line 24 (shape.Un Redor 1 (pos 8)) []
    ∷ line 25 (shape.Next 1 (pos 22) (pos 24)) []
    ∷ line 26 (shape.Un Not 1 (pos 22)) []
    ∷ line 27 (shape.Output (pos 26)) (codes "rdy")
    ∷ []

-- the words of its cells
abbrev pub cells : (secret ok busy : ℕ) → Words
cells s o b = bits 4 s ∷ bits 1 o ∷ bits 1 b ∷ []

abbrev pub name : Space → ℕ → Expr
name s n = expr.Name (record { space = s; number = n })

-- gives a command with the argument as data, for one tick
abbrev pub commands : ℕ → List Stmt → List Stmt
commands n more = stmt.SetInput 0 (expr.Lit (bits 2 n)) ∷ stmt.SetInput 1 (name space.Arg 0) ∷ stmt.Tick ∷ more

-- waits until the store is ready
abbrev pub waits : (turns : ℕ) → List Stmt
waits n = stmt.SetInput 0 (expr.Lit (bits 2 0)) ∷ stmt.While (expr.Un Not (name space.Output 1)) n (stmt.Tick ∷ []) ∷ []

abbrev pub set_body : (turns : ℕ) → Body
set_body n = record { locals = []; stmts = commands 1 (waits n); result = Some (expr.Lit (bits 1 1)) }

-- keeps what is shown one tick after the question
abbrev pub check_body : (turns : ℕ) → Body
check_body n = record {
  locals = (codes "r", 1) ∷ [];
  stmts = commands 2 (stmt.Assign (record { space = space.Local; number = 0 }) (name space.Output 0) ∷ waits n);
  result = Some (name space.Local 0);
}

-- asks and doesn't wait: the result is what is shown at the end
abbrev pub quick_body : Body
quick_body = record { locals = []; stmts = commands 2 []; result = Some (name space.Output 0) }

abbrev pub head : List ℕ → OpHead
head n = record { name = n; args = (codes "v", 4) ∷ []; result = 1 }

-- the driver, whose operations are `set`, `check` and `quick`
abbrev pub driver : (turns : ℕ) → DriverParts
driver n = record {
  idle = bits 2 0 ∷ bits 4 0 ∷ [];
  keep = true ∷ false ∷ false ∷ [];
  outs = 1 ∷ 1 ∷ [];
  funs = [];
  ops = head (codes "set") ∷ head (codes "check") ∷ head (codes "quick") ∷ [];
  bodies = set_body n ∷ check_body n ∷ quick_body ∷ [];
}

-- the driver before it waits, under the command 0
abbrev pub waiting : (turns : ℕ) → (args cells : Words) → Config Left
waiting n args words = record {
  left = Rest (Does (stmt.While (expr.Un Not (name space.Output 1)) n (stmt.Tick ∷ [])) [] ∷ []) args (Some (expr.Lit (bits 1 1)));
  cells = words;
  inputs = bits 2 0 ∷ bits 4 9 ∷ [];
  locals = [];
}
