-- The PIN store, part by part, as its texts have it: of circuit, specification, driver and emulator, with a secret of so many bits.
-- A command 1 sets the secret, a command 2 asks whether the data is the secret, and the answer is shown one tick later.
-- Its leaking variant shows 1 also where the lowest bit of the secret is 0; its impatient one has another driver, and its noisy one an answer that power-on leaves open.
use Rattle.std.specs.Prelude.{ℕ, pos, List, [], ◌∷◌, ◌++◌, codes, Some, None, true, false}
use Rattle.knox_words.specs.Bits.{bits}
use Rattle.knox_words.specs.declared.op.Op1.TheVariants.{Not, Redor}
use Rattle.knox_words.specs.declared.op.Op2.TheVariants.{Eq, And}
use Rattle.knox_theory.specs.Device.{Device}
use Rattle.knox_theory.specs.Design.{Design}
use Rattle.knox_circuit.specs.Shape.{Shape}
use Rattle.knox_circuit.specs.Shape.TheVariants as shape
use Rattle.knox_circuit.specs.Line.{Line}
use Rattle.knox_circuit.specs.Circuit.{Circuit}
use Rattle.knox_lang.specs.declared.expr.Expr.{Expr}
use Rattle.knox_lang.specs.declared.expr.Expr.TheVariants as expr
use Rattle.knox_lang.specs.declared.expr.Stmt.{Stmt}
use Rattle.knox_lang.specs.declared.expr.Stmt.TheVariants as stmt
use Rattle.knox_lang.specs.declared.expr.Space.{Space}
use Rattle.knox_lang.specs.declared.expr.Space.TheVariants as space
use Rattle.knox_lang.specs.declared.parts.Field.{Field}
use Rattle.knox_lang.specs.declared.parts.OpHead.{OpHead}
use Rattle.knox_lang.specs.declared.parts.Body.{Body}
use Rattle.knox_lang.specs.declared.parts.SpecParts.{SpecParts}
use Rattle.knox_lang.specs.declared.parts.DriverParts.{DriverParts}
use Rattle.knox_lang.specs.declared.parts.EmuParts.{EmuParts}
use Rattle.driver_machine.specs.Left.{Left}
use Rattle.device_design.specs.Meaning.{device_of, design_of}

-- ---- the circuit

abbrev pub line : (number : ℕ) → Shape → (symbol : List ℕ) → Line
line n s symbol = record { number = n; at = n; shape = s; symbol = symbol }

-- inputs and cells, where the secret and the data have so many bits
abbrev pub state_lines : (width : ℕ) → List Line
state_lines w =
    line 1 (shape.Bitvec 1) []
    ∷ line 2 (shape.Bitvec 2) []
    ∷ line 3 (shape.Bitvec w) []
    ∷ line 4 (shape.Zero 1) []
    ∷ line 5 (shape.Zero 3) []
    ∷ line 6 (shape.Constd 2 (codes "1")) []
    ∷ line 7 (shape.Constd 2 (codes "2")) []
    ∷ line 8 (shape.Input 2) (codes "cmd")
    ∷ line 9 (shape.Input 3) (codes "data")
    ∷ line 10 (shape.State 3) (codes "secret")
    ∷ line 11 (shape.Init 3 (pos 10) (pos 5)) []
    ∷ line 12 (shape.State 1) (codes "ok")
    ∷ []

-- the answer at power-on
abbrev pub first_answer : List Line
first_answer = line 13 (shape.Init 1 (pos 12) (pos 4)) [] ∷ []

-- the ticks of the cells
abbrev pub tick_lines : List Line
tick_lines =
    line 14 (shape.Bin Eq 1 (pos 8) (pos 6)) []
    ∷ line 15 (shape.Ite 3 (pos 14) (pos 9) (pos 10)) []
    ∷ line 16 (shape.Next 3 (pos 10) (pos 15)) []
    ∷ line 17 (shape.Bin Eq 1 (pos 8) (pos 7)) []
    ∷ line 18 (shape.Bin Eq 1 (pos 9) (pos 10)) []
    ∷ line 19 (shape.Bin And 1 (pos 17) (pos 18)) []
    ∷ line 20 (shape.Next 1 (pos 12) (pos 19)) []
    ∷ []

-- the output of the store
abbrev pub shown : List Line
shown = line 21 (shape.Output (pos 12)) (codes "ok") ∷ []

-- that of the leaking variant: `ok`, or that the lowest bit of the secret is 0
abbrev pub leaked : List Line
leaked =
    line 21 (shape.Constd 3 (codes "1")) []
    ∷ line 22 (shape.Bin And 3 (pos 10) (pos 21)) []
    ∷ line 23 (shape.Un Redor 1 (pos 22)) []
    ∷ line 24 (shape.Un Not 1 (pos 12)) []
    ∷ line 25 (shape.Bin And 1 (pos 24) (pos 23)) []
    ∷ line 26 (shape.Un Not 1 (pos 25)) []
    ∷ line 27 (shape.Output (pos 26)) (codes "ok")
    ∷ []

abbrev pub lines : (width : ℕ) → (output : List Line) → List Line
lines w output = state_lines w ++ (first_answer ++ (tick_lines ++ output))

abbrev pub circuit : (width : ℕ) → (output : List Line) → Circuit
circuit w output = record { lines = lines w output }

-- that of the noisy variant, whose answer has no word of its own at power-on
abbrev pub noisy_lines : (width : ℕ) → List Line
noisy_lines w = state_lines w ++ (tick_lines ++ shown)

abbrev pub noisy_circuit : (width : ℕ) → Circuit
noisy_circuit w = record { lines = noisy_lines w }

-- ---- expressions and statements

abbrev pub name : Space → ℕ → Expr
name s n = expr.Name (record { space = s; number = n })

abbrev pub equal : Expr → Expr → Expr
equal a b = expr.Bin Eq a b

-- ---- the specification

abbrev pub field : List ℕ → (width : ℕ) → Field
field n w = record { name = n; width = w; index = None; first = 0 }

abbrev pub set_head : (width : ℕ) → OpHead
set_head w = record { name = codes "set"; args = (codes "v", w) ∷ []; result = 1 }

abbrev pub check_head : (width : ℕ) → OpHead
check_head w = record { name = codes "check"; args = (codes "g", w) ∷ []; result = 1 }

abbrev pub set_body : Body
set_body = record {
  locals = [];
  stmts = stmt.Assign (record { space = space.Own; number = 0 }) (name space.Arg 0) ∷ [];
  result = Some (expr.Lit (bits 1 1));
}

abbrev pub check_body : Body
check_body = record { locals = []; stmts = []; result = Some (equal (name space.Arg 0) (name space.Own 0)) }

abbrev pub spec : (width : ℕ) → SpecParts
spec w = record {
  fields = field (codes "secret") w ∷ [];
  init = bits w 0 ∷ [];
  funs = [];
  ops = set_head w ∷ check_head w ∷ [];
  bodies = set_body ∷ check_body ∷ [];
}

-- ---- the driver

-- gives a command with the argument as data, for one tick
abbrev pub commanded : (command : ℕ) → List Stmt
commanded n = stmt.SetInput 0 (expr.Lit (bits 2 n)) ∷ stmt.SetInput 1 (name space.Arg 0) ∷ stmt.Tick ∷ []

-- sets the secret, and then does more
abbrev pub set_call : (more : List Stmt) → Body
set_call more = record { locals = []; stmts = commanded 1 ++ more; result = Some (expr.Lit (bits 1 1)) }

abbrev pub check_call : Body
check_call = record { locals = []; stmts = commanded 2; result = Some (name space.Output 0) }

abbrev pub driver_with : (more : List Stmt) → (width : ℕ) → DriverParts
driver_with more w = record {
  idle = bits 2 0 ∷ bits w 0 ∷ [];
  keep = true ∷ false ∷ [];
  outs = 1 ∷ [];
  funs = [];
  ops = set_head w ∷ check_head w ∷ [];
  bodies = set_call more ∷ check_call ∷ [];
}

abbrev pub driver : (width : ℕ) → DriverParts
driver w = driver_with [] w

-- waits until 1 is shown, and may do no turn
abbrev pub waits : List Stmt
waits = stmt.While (expr.Un Not (name space.Output 0)) 0 (stmt.Tick ∷ []) ∷ []

-- the driver whose `set` waits for an answer that doesn't come
abbrev pub impatient_driver : (width : ℕ) → DriverParts
impatient_driver w = driver_with waits w

-- ---- the emulator

-- whether the command is this
abbrev pub is_command : ℕ → Expr
is_command n = equal (name space.Input 0) (expr.Lit (bits 2 n))

-- asks an operation with the data, for a local
abbrev pub asks : (local op : ℕ) → Stmt
asks l o = stmt.Query (record { space = space.Local; number = l }) o (name space.Input 1 ∷ [])

abbrev pub emu_stmts : List Stmt
emu_stmts =
    stmt.If (is_command 1) (asks 0 0 ∷ []) []
    ∷ stmt.If (is_command 2) (asks 1 1 ∷ []) []
    ∷ stmt.Assign (record { space = space.Own; number = 0 }) (name space.Local 1)
    ∷ []

abbrev pub emu_tick : Body
emu_tick = record { locals = (codes "q", 1) ∷ (codes "r", 1) ∷ []; stmts = emu_stmts; result = None }

abbrev pub nothing : Body
nothing = record { locals = []; stmts = []; result = None }

abbrev pub emulator_with : (noise : List Field) → (power : Body) → (width : ℕ) → EmuParts
emulator_with ns b w = record {
  fields = field (codes "ok") 1 ∷ [];
  init = bits 1 0 ∷ [];
  copy = false;
  ins = 2 ∷ w ∷ [];
  outs = 1 ∷ [];
  noise = ns;
  cells = record { name = codes "secret"; width = w; index = None; first = 0 } ∷ record { name = codes "ok"; width = 1; index = None; first = 1 } ∷ [];
  funs = [];
  ops = set_head w ∷ check_head w ∷ [];
  power = b;
  outputs = name space.Own 0 ∷ [];
  tick = emu_tick;
}

abbrev pub emulator : (width : ℕ) → EmuParts
emulator w = emulator_with [] nothing w

-- that of the noisy variant shows the noise at power-on
abbrev pub shows_noise : Body
shows_noise = record { locals = []; stmts = stmt.Assign (record { space = space.Own; number = 0 }) (name space.Noise 0) ∷ []; result = None }

abbrev pub noisy_emulator : (width : ℕ) → EmuParts
noisy_emulator w = emulator_with (field (codes "ok") 1 ∷ []) shows_noise w

-- ---- what they mean

abbrev pub device : (width : ℕ) → (output : List Line) → Device
device w output = device_of (circuit w output) (spec w) (driver w) (emulator w)

abbrev pub design : (width : ℕ) → (output : List Line) → Design Left
design w output = design_of (circuit w output) (spec w) (driver w) (emulator w)

abbrev pub impatient_device : (width : ℕ) → Device
impatient_device w = device_of (circuit w shown) (spec w) (impatient_driver w) (emulator w)

abbrev pub impatient_design : (width : ℕ) → Design Left
impatient_design w = design_of (circuit w shown) (spec w) (impatient_driver w) (emulator w)

abbrev pub noisy_device : (width : ℕ) → Device
noisy_device w = device_of (noisy_circuit w) (spec w) (driver w) (noisy_emulator w)
