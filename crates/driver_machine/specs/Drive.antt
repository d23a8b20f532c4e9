-- The meaning of a driver's body: what it replies, and the circuit's cells after it. It starts with
-- idle inputs and zero locals. `(tick)` is a tick of the circuit under the present inputs, `(in x e)`
-- sets an input. A `while` with bound n is n nested conditionals; where its test still holds after n
-- turns, the body is out of turns, and that ends the whole of it. The language is the project's own.
use Rattle.std.specs.Prelude.{ℕ, zero, suc, ◌+◌, List, [], ◌∷◌, ◌++◌, map, slice_get, slice_set, Option, Some, None, Bool, if◌then◌else◌}
use Rattle.knox_words.specs.Bits.{word_or}
use Rattle.knox_words.specs.Lists.{Words}
use Rattle.knox_theory.specs.Device.{Reply, Replied, OutOfTurns}
use Rattle.knox_circuit.specs.Line.{Line}
use Rattle.knox_circuit.specs.Circuit.{state_after_tick}
use Rattle.knox_lang.specs.declared.expr.Expr.{Expr}
use Rattle.knox_lang.specs.declared.expr.Stmt.{Stmt, fold-Stmt}
use Rattle.knox_lang.specs.declared.expr.Stmt.TheOpen.{Stmt-F}
use Rattle.knox_lang.specs.declared.parts.Body.{Body}
use Rattle.knox_lang.specs.declared.parts.DriverParts.{DriverParts}
use Rattle.knox_lang.specs.Operation.{start_of}
use Rattle.driver_machine.specs.Sight.{Run, Setting, setting, value, holds, result_value, assigned}

-- where a part of a body leads: on, or out of turns, which ends the whole body
pub data Outcome : Type 0 where
  GoesOn : Run → Outcome
  Stops : Run → Outcome

-- what a part of a body does, under bound variables
abbrev pub Action : Type 0
Action = Run → (bound : Words) → Outcome

-- more, where the body goes on
abbrev pub then_does : Outcome → Action → (bound : Words) → Outcome
then_does (GoesOn run) d bound = d run bound
then_does (Stops run) d bound = Stops run

-- one after another
abbrev pub in_order : List Action → Action
in_order [] run bound = GoesOn run
in_order (d ∷ ds) run bound = then_does (d run bound) (in_order ds) bound

-- n turns from turn k on, with the number of the turn bound
abbrev pub turns : Action → (width k n : ℕ) → Action
turns d w k zero run bound = GoesOn run
turns d w k (suc n) run bound = then_does (d run (bound ++ word_or w k ∷ [])) (turns d w (k + 1) n) bound

-- a loop that may do n turns
abbrev pub loops : (test : Run → (bound : Words) → Bool) → Action → (n : ℕ) → Action
loops test d zero run bound = if test run bound then Stops run else GoesOn run
loops test d (suc n) run bound = if test run bound then then_does (d run bound) (loops test d n) bound else GoesOn run

-- one level of a statement, over what its parts do
abbrev pub drive_level : Setting → Stmt-F Action → Action
drive_level g (Stmt-F.Assign s e) run bound = GoesOn (assigned s 0 (value g run bound e) run)
drive_level g (Stmt-F.Store s i e) run bound = GoesOn (assigned s (value g run bound i).value (value g run bound e) run)
drive_level g (Stmt-F.If c as' bs) run bound = if holds g run bound c then in_order as' run bound else in_order bs run bound
drive_level g (Stmt-F.For w n body) run bound = turns (in_order body) w 0 n run bound
drive_level g (Stmt-F.While c n body) run bound = loops (λ r b. holds g r b c) (in_order body) n run bound
drive_level g (Stmt-F.SetInput k e) run bound = GoesOn (record run { inputs = slice_set run.inputs k (value g run bound e) })
drive_level g Stmt-F.Tick run bound = GoesOn (record run { cells = state_after_tick g.lines run.cells run.inputs })
drive_level g _ run bound = GoesOn run

-- what a statement does, and what statements do in order
abbrev pub drives : Setting → Stmt → Action
drives g s = fold-Stmt Action (drive_level g) s

abbrev pub drives_all : Setting → List Stmt → Action
drives_all g ss = in_order (map (drives g) ss)

-- the reply, which is the result's value at the end, and the cells
abbrev pub replied : Setting → Option Expr → Outcome → Reply × Words
replied g result (GoesOn run) = (Replied (result_value g run result), run.cells)
replied g result (Stops run) = (OutOfTurns, run.cells)

-- the parts of a body; where there is none, no locals, no statements and no result
abbrev pub stmts_of : Option Body → List Stmt
stmts_of None = []
stmts_of (Some b) = b.stmts

abbrev pub result_of : Option Body → Option Expr
result_of None = None
result_of (Some b) = b.result

abbrev pub locals_of : Option Body → Words
locals_of None = []
locals_of (Some b) = start_of b.locals

-- a body starts on these cells with idle inputs and zero locals
abbrev pub first_run : DriverParts → Option Body → (cells : Words) → Run
first_run d b cells = record { cells = cells; inputs = d.idle; locals = locals_of b }

abbrev pub drive_body : List Line → DriverParts → Option Body → (args cells : Words) → Reply × Words
drive_body lines d None args cells = (OutOfTurns, cells)
drive_body lines d (Some b) args cells =
    replied (setting lines d.funs args) b.result (drives_all (setting lines d.funs args) b.stmts (first_run d (Some b) cells) [])

-- the reply of an operation's body, and the cells after it; where there is no such body, it is out of turns at once
abbrev pub drive : List Line → DriverParts → (op : ℕ) → (args cells : Words) → Reply × Words
drive lines d op args cells = drive_body lines d (slice_get d.bodies op) args cells
