-- The moves of the example, part by part.
use Rattle.std.proofs.Common.{◌≡◌, ℕ, suc, ◌+◌, ◌*◌, ◌==◌, map, List, [], ◌∷◌, ◌++◌, slice_set, Option, Some, Bool, true, false, if◌then◌else◌, ap, sym, ◌∙◌, arith}
use Rattle.knox_words.specs.Bits.{Bits, bits}
use Rattle.knox_words.specs.Lists.{Words, total}
use Rattle.knox_words.specs.declared.op.Op1.TheVariants.{Not}
use Rattle.knox_theory.specs.Device.{Replied}
use Rattle.knox_circuit.specs.Line.{Line}
use Rattle.knox_circuit.specs.Circuit.{state_after_tick}
use Rattle.knox_lang.specs.declared.expr.Space.TheVariants as space
use Rattle.knox_lang.specs.declared.expr.Expr.{Expr}
use Rattle.knox_lang.specs.declared.expr.Expr.TheVariants as expr
use Rattle.knox_lang.specs.declared.expr.Stmt.{Stmt, out-Stmt, out-roll-Stmt, fold-roll-Stmt}
use Rattle.knox_lang.specs.declared.expr.Stmt.TheOpen.{Stmt-F}
use Rattle.knox_lang.specs.declared.expr.Stmt.TheVariants as stmt
use Rattle.knox_lang.specs.declared.parts.DriverParts.{DriverParts}
use Rattle.knox_lang.specs.Scope.{scope}
use Rattle.knox_lang.specs.Eval.{Value, eval}
use Rattle.driver_machine.specs.Sight.{Run, Setting, setting, sight}
use Rattle.driver_machine.specs.Drive.{first_run}
use Rattle.driver_machine.specs.Left.{Item, Does, Rest, Next, Went, Ticks, NoTurns, begun, next, test_of, next_tests, is_tick, config, arrived, on, start, reply}
use Rattle.driver_machine.specs.Moves.{parts_level, stmt_parts, parts_left, until_tick, tests_until_tick, move, move_tests}
use Rattle.driver_machine.specs.Slow.{store, cells, name, driver, quick_body, waiting}
use Rattle.driver_machine.proofs.Computed.{value-lit, value-name, value-not, constant, argument, shown, busy}

opens-set : (k : ℕ) (e : Expr) → out-Stmt (stmt.SetInput k e) ≡ Stmt-F.SetInput k e
opens-set k e = ap out-Stmt (sym (stmt.rolls-SetInput k e)) ∙ out-roll-Stmt (Stmt-F.SetInput k e)

opens-tick : out-Stmt stmt.Tick ≡ Stmt-F.Tick
opens-tick = ap out-Stmt (sym stmt.rolls-Tick) ∙ out-roll-Stmt Stmt-F.Tick

opens-while : (c : Expr) (n : ℕ) (body : List Stmt) → out-Stmt (stmt.While c n body) ≡ Stmt-F.While c n body
opens-while c n body = ap out-Stmt (sym (stmt.rolls-While c n body)) ∙ out-roll-Stmt (Stmt-F.While c n body)

parts-set : (k : ℕ) (e : Expr) → stmt_parts (stmt.SetInput k e) ≡ 1
parts-set k e = ap stmt_parts (sym (stmt.rolls-SetInput k e)) ∙ fold-roll-Stmt ℕ parts_level (Stmt-F.SetInput k e)

parts-tick : stmt_parts stmt.Tick ≡ 1
parts-tick = ap stmt_parts (sym stmt.rolls-Tick) ∙ fold-roll-Stmt ℕ parts_level Stmt-F.Tick

none : (n : ℕ) → 1 + (1 + 0 * (n + 1)) ≡ 2
none n = omega arith

parts-last : (c : Expr) (body : List Stmt) → stmt_parts (stmt.While c 0 body) ≡ 2
parts-last c body = ap stmt_parts (sym (stmt.rolls-While c 0 body)) ∙ (fold-roll-Stmt ℕ parts_level (Stmt-F.While c 0 body) ∙ none (total (map stmt_parts body)))

-- the inputs with a value in one place
abbrev setting_input : Setting → ℕ → Value → Run → Run
setting_input g k v run = record run { inputs = slice_set run.inputs k (v (scope (sight g run) [])) }

next-set : (g : Setting) (k : ℕ) (e : Expr) (v : Value) (rest : List Item) (run : Run) → eval g.calls e ≡ v → next g (Does (stmt.SetInput k e) [] ∷ rest) run ≡ Went rest (setting_input g k v run)
next-set g k e v rest run is =
    ap (λ (y : Stmt-F Stmt). begun g y [] rest run) (opens-set k e) ∙ ap (λ (x : Value). Went rest (setting_input g k x run)) is

next-tick : (g : Setting) (rest : List Item) (run : Run) → next g (Does stmt.Tick [] ∷ rest) run ≡ Ticks rest (record run { cells = state_after_tick g.lines run.cells run.inputs })
next-tick g rest run = ap (λ (y : Stmt-F Stmt). begun g y [] rest run) opens-tick

module _ (lines : List Line) (d : DriverParts) (args : Words) (result : Option Expr) where
  abbrev g : Setting
  g = setting lines d.funs args

  until-went : (n : ℕ) (items items' : List Item) (run run' : Run) → next g items run ≡ Went items' run' →
      until_tick lines d (suc n) (config (Rest items args result) run) ≡ until_tick lines d n (config (Rest items' args result) run')
  until-went n items items' run run' e = ap (λ (x : Next). if is_tick x then arrived g result run x else until_tick lines d n (arrived g result run x)) e

  until-ticked : (n : ℕ) (items items' : List Item) (run run' : Run) → next g items run ≡ Ticks items' run' →
      until_tick lines d (suc n) (config (Rest items args result) run) ≡ config (Rest items' args result) run'
  until-ticked n items items' run run' e = ap (λ (x : Next). if is_tick x then arrived g result run x else until_tick lines d n (arrived g result run x)) e

-- the quick question after its move
abbrev pub asking : Setting
asking = setting store [] (bits 4 9 ∷ [])

abbrev pub before : Run
before = first_run (driver 1) (Some quick_body) (cells 9 0 0)

abbrev pub told : Run
told = setting_input asking 1 (argument asking) (setting_input asking 0 (constant asking (bits 2 2)) before)

abbrev pub ticked : Run
ticked = record told { cells = state_after_tick store told.cells told.inputs }

pub quick-moves : move store (driver 1) (start (driver 1) 2 (bits 4 9 ∷ []) (cells 9 0 0)) ≡ config (Rest [] (bits 4 9 ∷ []) quick_body.result) ticked
quick-moves =
    let args : Words = bits 4 9 ∷ [] in
    let two : Stmt = stmt.SetInput 1 (name space.Arg 0) in
    let fuel : parts_left (Rest (on [] quick_body.stmts) args quick_body.result) ≡ 4 = (λ i. 1 + (parts-set 0 (expr.Lit (bits 2 2)) i + (parts-set 1 (name space.Arg 0) i + (parts-tick i + 0)))) in
    ap (λ (n : ℕ). until_tick store (driver 1) n (config (Rest (on [] quick_body.stmts) args quick_body.result) before)) fuel
    ∙ (until-went store (driver 1) args quick_body.result 3 (on [] quick_body.stmts) (on [] (two ∷ stmt.Tick ∷ [])) before (setting_input asking 0 (constant asking (bits 2 2)) before)
    (next-set asking 0 (expr.Lit (bits 2 2)) (constant asking (bits 2 2)) (on [] (two ∷ stmt.Tick ∷ [])) before (value-lit asking (bits 2 2)))
    ∙ (until-went store (driver 1) args quick_body.result 2 (on [] (two ∷ stmt.Tick ∷ [])) (on [] (stmt.Tick ∷ [])) (setting_input asking 0 (constant asking (bits 2 2)) before) told
    (next-set asking 1 (name space.Arg 0) (argument asking) (on [] (stmt.Tick ∷ [])) (setting_input asking 0 (constant asking (bits 2 2)) before) (value-name asking (record { space = space.Arg; number = 0 })))
    ∙ until-ticked store (driver 1) args quick_body.result 1 (on [] (stmt.Tick ∷ [])) [] told ticked (next-tick asking [] told)))

-- the reply from a place where only the result is left
pub quick-replies : (run : Run) (w : Bits) → shown asking 0 (scope (sight asking run) []) ≡ w → reply (move store (driver 1) (config (Rest [] (bits 4 9 ∷ []) quick_body.result) run)).left ≡ Replied w
quick-replies run w e = ap (λ (v : Value). Replied (v (scope (sight asking run) []))) (value-name asking (record { space = space.Output; number = 0 })) ∙ ap (λ (x : Bits). Replied x) e

-- a loop that may do no turn
module _ (words : Words) where
  abbrev pub idle : Setting
  idle = setting store [] []

  abbrev pub here : Run
  here = record { cells = words; inputs = bits 2 0 ∷ bits 4 9 ∷ []; locals = [] }

  abbrev test : Expr
  test = expr.Un Not (name space.Output 1)

  abbrev loop : List Item
  loop = Does (stmt.While test 0 (stmt.Tick ∷ [])) [] ∷ []

  abbrev is_busy : Bool
  is_busy = (busy idle (scope (sight idle here) [])).value == 1

  value-test : eval idle.calls test ≡ busy idle
  value-test = value-not idle (name space.Output 1) (shown idle 1) (value-name idle (record { space = space.Output; number = 1 }))

  next-test : (t : Bool) → is_busy ≡ t → next idle loop here ≡ (if t then NoTurns else Went [] here)
  next-test t e =
      ap (λ (y : Stmt-F Stmt). begun idle y [] [] here) (opens-while test 0 (stmt.Tick ∷ []))
      ∙ (ap (λ (v : Value). if (v (scope (sight idle here) [])).value == 1 then NoTurns else Went [] here) value-test
      ∙ ap (λ (b : Bool). if b then NoTurns else Went [] here) e)

  met : (t : Bool) → is_busy ≡ t → next_tests idle loop here ≡ t ∷ []
  met t e =
      ap (λ (y : Stmt-F Stmt). test_of idle y [] here) (opens-while test 0 (stmt.Tick ∷ []))
      ∙ (ap (λ (v : Value). ((v (scope (sight idle here) [])).value == 1) ∷ []) value-test ∙ ap (λ (b : Bool). b ∷ []) e)

  fuel : parts_left (waiting 0 [] words).left ≡ 3
  fuel = λ i. 1 + (parts-last test (stmt.Tick ∷ []) i + 0)

  abbrev end : Option Expr
  end = Some (expr.Lit (bits 1 1))

  pub waits-to : (t : Bool) → is_busy ≡ t → move store (driver 0) (waiting 0 [] words) ≡ until_tick store (driver 0) 2 (arrived idle end here (if t then NoTurns else Went [] here))
  waits-to true e =
      ap (λ (n : ℕ). until_tick store (driver 0) n (waiting 0 [] words)) fuel
      ∙ ap (λ (x : Next). if is_tick x then arrived idle end here x else until_tick store (driver 0) 2 (arrived idle end here x)) (next-test true e)
  waits-to false e =
      ap (λ (n : ℕ). until_tick store (driver 0) n (waiting 0 [] words)) fuel
      ∙ ap (λ (x : Next). if is_tick x then arrived idle end here x else until_tick store (driver 0) 2 (arrived idle end here x)) (next-test false e)

  pub waits-met : (t : Bool) → is_busy ≡ t → move_tests store (driver 0) (waiting 0 [] words) ≡ t ∷ []
  waits-met true e =
      ap (λ (n : ℕ). tests_until_tick store (driver 0) n (waiting 0 [] words)) fuel
      ∙ (λ i. met true e i ++ (if is_tick (next-test true e i) then [] else tests_until_tick store (driver 0) 2 (arrived idle end here (next-test true e i))))
  waits-met false e =
      ap (λ (n : ℕ). tests_until_tick store (driver 0) n (waiting 0 [] words)) fuel
      ∙ (λ i. met false e i ++ (if is_tick (next-test false e i) then [] else tests_until_tick store (driver 0) 2 (arrived idle end here (next-test false e i))))
