-- The store's driver is the plain one.
use Rattle.std.proofs.Common.{◌≡◌, ℕ, zero, suc, ◌==◌, List, [], ◌∷◌, map, slice_set, Some, Bool, true, false, if◌then◌else◌, refl, ap, ◌∙◌}
use Rattle.knox_words.specs.Bits.{bits}
use Rattle.knox_words.specs.Ops.{op1_value}
use Rattle.knox_words.specs.Lists.{Words}
use Rattle.knox_words.specs.declared.op.Op1.TheVariants.{Not}
use Rattle.knox_theory.specs.Device.{Reply, Replied}
use Rattle.knox_circuit.specs.Line.{Line}
use Rattle.knox_circuit.specs.Circuit.{state_after_tick}
use Rattle.knox_lang.specs.declared.expr.Expr.{Expr}
use Rattle.knox_lang.specs.declared.expr.Expr.TheVariants as expr
use Rattle.knox_lang.specs.declared.expr.Stmt.{Stmt}
use Rattle.knox_lang.specs.declared.expr.Stmt.TheVariants as stmt
use Rattle.knox_lang.specs.declared.expr.Space.TheVariants as space
use Rattle.knox_lang.specs.Scope.{scope}
use Rattle.knox_lang.specs.Eval.{Value, eval}
use Rattle.driver_machine.specs.Sight.{Run, Setting, setting, sight}
use Rattle.driver_machine.specs.Drive.{GoesOn, Stops, Action, in_order, drives, replied, first_run, drive}
use Rattle.pin_store.specs.Store.{name, driver_with, set_call, check_call, waits}
use Rattle.pin_store.proofs.Plain.{under, is_silent, at_once, in_time, told, driven}
use Rattle.pin_store.proofs.Values.{value-Lit, value-Un, drives-SetInput, drives-Tick, drives-While}
use Rattle.pin_store.proofs.Meaning.{calls, slot_value, name-is}

-- ---- statements

-- an input is set to a value
abbrev puts : Setting → ℕ → Value → Action
puts g k v run bound = GoesOn (record run { inputs = slice_set run.inputs k (v (scope (sight g run) bound)) })

abbrev goes_on : Setting → Action
goes_on g run bound = GoesOn (record run { cells = state_after_tick g.lines run.cells run.inputs })

-- a loop that may do no turn
abbrev tries : Setting → Value → Action
tries g v run bound = if (v (scope (sight g run) bound)).value == 1 then Stops run else GoesOn run

-- the setting of a body
abbrev pub at : List Line → (args : Words) → Setting
at ls args = setting ls [] args

module _ (ls : List Line) (args : Words) where
  abbrev g : Setting
  g = at ls args

  puts-is : (k : ℕ) (e : Expr) (v : Value) → eval calls e ≡ v → drives g (stmt.SetInput k e) ≡ puts g k v
  puts-is k e v is = drives-SetInput g k e ∙ ap (puts g k) is

  ticks-is : drives g stmt.Tick ≡ goes_on g
  ticks-is = drives-Tick g

  abbrev constant : ℕ → Value
  constant n sc = bits 2 n

  command-is : (n : ℕ) → drives g (stmt.SetInput 0 (expr.Lit (bits 2 n))) ≡ puts g 0 (constant n)
  command-is n = puts-is 0 (expr.Lit (bits 2 n)) (constant n) (value-Lit calls (bits 2 n))

  data-is : drives g (stmt.SetInput 1 (name space.Arg 0)) ≡ puts g 1 (slot_value space.Arg 0)
  data-is = puts-is 1 (name space.Arg 0) (slot_value space.Arg 0) (name-is space.Arg 0)

  abbrev silent_value : Value
  silent_value sc = op1_value Not (slot_value space.Output 0 sc)

  silent-is : eval calls (expr.Un Not (name space.Output 0)) ≡ silent_value
  silent-is = value-Un calls Not (name space.Output 0) ∙ (λ i sc. op1_value Not (name-is space.Output 0 i sc))

  pub tries-is : drives g (stmt.While (expr.Un Not (name space.Output 0)) 0 (stmt.Tick ∷ [])) ≡ tries g silent_value
  tries-is =
      drives-While g (expr.Un Not (name space.Output 0)) 0 (stmt.Tick ∷ [])
      ∙ (λ i run bound. if (silent-is i (scope (sight g run) bound)).value == 1 then Stops run else GoesOn run)

-- ---- bodies

-- what a body does behind a command, and what is replied at its end where it sets the secret
abbrev ends : List Line → (args : Words) → List Action → Run → Reply × Words
ends ls args as' run = replied (at ls args) (Some (expr.Lit (bits 1 1))) (in_order as' run [])

pub record Waiting : Type 0 where
  pub more : List Stmt
  pub waits : Bool → Reply
  pub same : (ls : List Line) (args : Words) (run : Run) → ends ls args (map (drives (at ls args)) more) run ≡ (waits (is_silent ls run.cells run.inputs), run.cells)

pub one-is : (ls : List Line) (args : Words) (run : Run) → ends ls args [] run ≡ (Replied (bits 1 1), run.cells)
one-is ls args run = ap (λ (v : Value). (Replied (v (scope (sight (at ls args) run) [])), run.cells)) (value-Lit calls (bits 1 1))

abbrev pub patient : Waiting
patient = record { more = []; waits = at_once; same = λ ls args run. one-is ls args run }

pub either : (ls : List Line) (args : Words) (run : Run) (t : Bool) → replied (at ls args) (Some (expr.Lit (bits 1 1))) (if t then Stops run else GoesOn run) ≡ (in_time t, run.cells)
either ls args run true = refl
either ls args run false = one-is ls args run

-- in_order ends with a list that is empty: what goes on goes on
pub goes : (run : Run) (t : Bool) → in_order ((λ r bound. if t then Stops r else GoesOn r) ∷ []) run [] ≡ (if t then Stops run else GoesOn run)
goes run true = refl
goes run false = refl

abbrev pub impatient : Waiting
impatient = record {
  more = waits;
  waits = in_time;
  same = λ ls args run.
      let t = is_silent ls run.cells run.inputs in
      ap (λ (a : Action). ends ls args (a ∷ []) run) (tries-is ls args)
      ∙ (ap (replied (at ls args) (Some (expr.Lit (bits 1 1)))) (goes run t) ∙ either ls args run t);
}

module _ (w : ℕ) (ls : List Line) (x : Waiting) where
  pub drive-is : (o : ℕ) (args cells : Words) → drive ls (driver_with x.more w) o args cells ≡ driven ls x.waits o args cells
  drive-is zero args cells =
      let g = at ls args in
      let first = first_run (driver_with x.more w) (Some (set_call x.more)) cells in
      let more : List Action = map (drives g) x.more in
      ap (λ (a : Action). ends ls args (a ∷ drives g (stmt.SetInput 1 (name space.Arg 0)) ∷ drives g stmt.Tick ∷ more) first) (command-is ls args 1)
      ∙ ((λ i. ends ls args (puts g 0 (λ sc. bits 2 1) ∷ data-is ls args i ∷ ticks-is ls args i ∷ more) first)
      ∙ x.same ls args (record { cells = told ls 1 args cells; inputs = under 1 args; locals = [] }))
  drive-is (suc zero) args cells =
      let g = at ls args in
      let first = first_run (driver_with x.more w) (Some check_call) cells in
      let after : Run = record { cells = told ls 2 args cells; inputs = under 2 args; locals = [] } in
      (λ i. replied g (Some (name space.Output 0)) (in_order (command-is ls args 2 i ∷ data-is ls args i ∷ ticks-is ls args i ∷ []) first []))
      ∙ ap (λ (v : Value). (Replied (v (scope (sight g after) [])), after.cells)) (name-is space.Output 0)
  drive-is (suc (suc o)) args cells = refl
