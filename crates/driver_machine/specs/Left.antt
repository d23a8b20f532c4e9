-- What is left of a driver's body, and its next part. Loops are unfolded turn by turn: a `for` when
-- it is begun, a `while` one turn at each test. The project's own.
use Rattle.std.specs.Prelude.{ℕ, zero, suc, ◌+◌, List, [], ◌∷◌, ◌++◌, map, slice_get, slice_set, Option, None, Some, Bool, true, false, if◌then◌else◌}
use Rattle.knox_words.specs.Bits.{word_or}
use Rattle.knox_words.specs.Lists.{Words}
use Rattle.knox_theory.specs.Device.{Reply, Replied, OutOfTurns}
use Rattle.knox_theory.specs.Design.{Config}
use Rattle.knox_circuit.specs.Line.{Line}
use Rattle.knox_circuit.specs.Circuit.{state_after_tick}
use Rattle.knox_lang.specs.declared.expr.Expr.{Expr}
use Rattle.knox_lang.specs.declared.expr.Stmt.{Stmt, out-Stmt}
use Rattle.knox_lang.specs.declared.expr.Stmt.TheOpen.{Stmt-F}
use Rattle.knox_lang.specs.declared.parts.Body.{Body}
use Rattle.knox_lang.specs.declared.parts.DriverParts.{DriverParts}
use Rattle.driver_machine.specs.Sight.{Run, Setting, setting, value, holds, result_value, assigned}
use Rattle.driver_machine.specs.Drive.{first_run}

-- a statement with its bound variables, or the test of a loop that may do n more turns
pub data Item : Type 0 where
  Does : Stmt → (bound : Words) → Item
  Again : (test : Expr) → (n : ℕ) → (body : List Stmt) → (bound : Words) → Item

-- What is left: items in the order in which they are done, under these arguments, and then the
-- result; or nothing but the reply, which is fixed then.
pub data Left : Type 0 where
  Rest : (items : List Item) → (args : Words) → (result : Option Expr) → Left
  Over : (reply : Reply) → Left

abbrev pub on : (bound : Words) → List Stmt → List Item
on bound ss = map (λ (s : Stmt). Does s bound) ss

-- n turns from turn k on
abbrev pub turns_from : (width : ℕ) → List Stmt → (bound : Words) → (k n : ℕ) → List Item
turns_from w body bound k zero = []
turns_from w body bound k (suc n) = on (bound ++ word_or w k ∷ []) body ++ turns_from w body bound (k + 1) n

-- where the next part leads
pub data Next : Type 0 where
  Went : List Item → Run → Next
  Ticks : List Item → Run → Next
  NoTurns : Next
  AtResult : Next

-- after a loop's test, where n turns may follow
abbrev pub next_turn : Setting → Expr → ℕ → List Stmt → Words → List Item → Run → Next
next_turn g e zero body bound rest run = if holds g run bound e then NoTurns else Went rest run
next_turn g e (suc n) body bound rest run = if holds g run bound e then Went (on bound body ++ Again e n body bound ∷ rest) run else Went rest run

-- after a statement was begun
abbrev pub begun : Setting → Stmt-F Stmt → Words → List Item → Run → Next
begun g (Stmt-F.Assign s e) bound rest run = Went rest (assigned s 0 (value g run bound e) run)
begun g (Stmt-F.Store s i e) bound rest run = Went rest (assigned s (value g run bound i).value (value g run bound e) run)
begun g (Stmt-F.If c as' bs) bound rest run = Went (on bound (if holds g run bound c then as' else bs) ++ rest) run
begun g (Stmt-F.For w n body) bound rest run = Went (turns_from w body bound 0 n ++ rest) run
begun g (Stmt-F.While e n body) bound rest run = next_turn g e n body bound rest run
begun g (Stmt-F.SetInput k e) bound rest run = Went rest (record run { inputs = slice_set run.inputs k (value g run bound e) })
begun g Stmt-F.Tick bound rest run = Ticks rest (record run { cells = state_after_tick g.lines run.cells run.inputs })
begun g _ bound rest run = Went rest run

-- the next part
abbrev pub next : Setting → List Item → Run → Next
next g [] run = AtResult
next g (Does s bound ∷ rest) run = begun g (out-Stmt s) bound rest run
next g (Again e n body bound ∷ rest) run = next_turn g e n body bound rest run

-- the outcome of the test that it meets, if it meets one; also of a test that ends out of turns
abbrev pub test_of : Setting → Stmt-F Stmt → Words → Run → List Bool
test_of g (Stmt-F.If c as' bs) bound run = holds g run bound c ∷ []
test_of g (Stmt-F.While e n body) bound run = holds g run bound e ∷ []
test_of g _ bound run = []

abbrev pub next_tests : Setting → List Item → Run → List Bool
next_tests g [] run = []
next_tests g (Does s bound ∷ rest) run = test_of g (out-Stmt s) bound run
next_tests g (Again e n body bound ∷ rest) run = holds g run bound e ∷ []

-- a driver at a place of its body
abbrev pub config : Left → Run → Config Left
config left run = record { left = left; cells = run.cells; inputs = run.inputs; locals = run.locals }

abbrev pub run_of : Config Left → Run
run_of c = record { cells = c.cells; inputs = c.inputs; locals = c.locals }

-- the place that the next part leads to
abbrev pub arrived : Setting → Option Expr → Run → Next → Config Left
arrived g result run (Went items run') = config (Rest items g.args result) run'
arrived g result run (Ticks items run') = config (Rest items g.args result) run'
arrived g result run NoTurns = config (Over OutOfTurns) run
arrived g result run AtResult = config (Over (Replied (result_value g run result))) run

abbrev pub is_tick : Next → Bool
is_tick (Ticks items run) = true
is_tick _ = false

abbrev pub step_in : List Line → DriverParts → Left → Run → Config Left
step_in lines d (Over r) run = config (Over r) run
step_in lines d (Rest items args result) run = arrived (setting lines d.funs args) result run (next (setting lines d.funs args) items run)

-- the driver after the next part of its body; at the end it stays where it is
abbrev pub step : List Line → DriverParts → Config Left → Config Left
step lines d c = step_in lines d c.left (run_of c)

abbrev pub ticks_in : List Line → DriverParts → Left → Run → Bool
ticks_in lines d (Over r) run = false
ticks_in lines d (Rest items args result) run = is_tick (next (setting lines d.funs args) items run)

-- whether the next part is a tick
abbrev pub step_ticks : List Line → DriverParts → Config Left → Bool
step_ticks lines d c = ticks_in lines d c.left (run_of c)

abbrev pub tests_in : List Line → DriverParts → Left → Run → List Bool
tests_in lines d (Over r) run = []
tests_in lines d (Rest items args result) run = next_tests (setting lines d.funs args) items run

-- the outcomes of the tests of the next part
abbrev pub step_tests : List Line → DriverParts → Config Left → List Bool
step_tests lines d c = tests_in lines d c.left (run_of c)

-- the driver at the start of an operation's body; where there is none, it has ended
abbrev pub start_body : DriverParts → Option Body → (args cells : Words) → Config Left
start_body d None args cells = config (Over OutOfTurns) (first_run d None cells)
start_body d (Some b) args cells = config (Rest (on [] b.stmts) args b.result) (first_run d (Some b) cells)

abbrev pub start : DriverParts → (op : ℕ) → (args cells : Words) → Config Left
start d op args cells = start_body d (slice_get d.bodies op) args cells

abbrev pub is_over : Left → Bool
is_over (Over r) = true
is_over (Rest items args result) = false

-- whether the body has ended; the reply is fixed then. A body of which only the result is left has not.
abbrev pub ended : Config Left → Bool
ended c = is_over c.left

-- the reply at the end
abbrev pub reply : Left → Reply
reply (Over r) = r
reply (Rest items args result) = OutOfTurns
