-- The scripts with plain conditions, and that the store's are those.
use Rattle.std.proofs.Common.{◌≡◌, ℕ, ◌==◌, List, [], Some, Bool, if◌then◌else◌}
use Rattle.knox_words.specs.Bits.{bits}
use Rattle.knox_words.specs.Ops.{op2_or}
use Rattle.knox_words.specs.declared.op.Op2.TheVariants.{Eq, And}
use Rattle.knox_theory.specs.Script.{State, WireItems, Step, Cut, Subsume, Close, HostSections, Script}
use Rattle.knox_circuit.specs.Cells.{cells_of, state_widths, keep_mask}
use Rattle.knox_words.specs.Lists.{merge, zeros_or}
use Rattle.knox_circuit.specs.Line.{Line}
use Rattle.knox_lang.specs.declared.expr.Expr.{Expr}
use Rattle.knox_lang.specs.declared.expr.Expr.TheVariants as expr
use Rattle.knox_lang.specs.declared.expr.Stmt.{Stmt}
use Rattle.knox_lang.specs.declared.expr.Space.TheVariants as space
use Rattle.knox_lang.specs.declared.scope.Spaces.{Spaces}
use Rattle.knox_lang.specs.Scope.{scope}
use Rattle.knox_lang.specs.Eval.{Value, eval}
use Rattle.driver_machine.specs.Left.{Left}
use Rattle.script_core.specs.Hints.{script_of, seen}
use Rattle.pin_store.specs.Store.{name, spec, driver_with}
use Rattle.pin_store.specs.Hinted.{refine, mimics, shows, Conditions, script_with}
use Rattle.pin_store.proofs.Plain.{keep}
use Rattle.pin_store.proofs.Values.{value-Lit}
use Rattle.pin_store.proofs.Meaning.{calls, slot_value, names-equal, name-is, bin-is}

-- ---- conditions with their values

pub record Condition : Type 0 where
  pub says : Expr
  pub value : Value
  pub same : eval calls says ≡ value

abbrev pub refine_value : Value
refine_value sc = op2_or Eq (slot_value space.Spec 0 sc) (slot_value space.Device 0 sc)

abbrev pub mimics_value : Value
mimics_value sc = op2_or And (refine_value sc) (op2_or Eq (slot_value space.Device 1 sc) (slot_value space.Emu 0 sc))

abbrev pub shows_value : ℕ → Value
shows_value n sc = op2_or Eq (slot_value space.Device 1 sc) (bits 1 n)

pub refine-is : eval calls refine ≡ refine_value
refine-is = names-equal space.Spec space.Device 0 0

pub mimics-is : eval calls mimics ≡ mimics_value
mimics-is = bin-is And refine _ refine_value _ refine-is (names-equal space.Device space.Emu 1 0)

-- a cell is a number
pub cell-is : (k width n : ℕ) → eval calls (expr.Bin Eq (name space.Device k) (expr.Lit (bits width n))) ≡ (λ sc. op2_or Eq (slot_value space.Device k sc) (bits width n))
cell-is k width n = bin-is Eq (name space.Device k) (expr.Lit (bits width n)) (slot_value space.Device k) (λ sc. bits width n) (name-is space.Device k) (value-Lit calls (bits width n))

abbrev pub both : (a b : Condition) → Condition
both a b = record {
  says = expr.Bin And a.says b.says;
  value = λ sc. op2_or And (a.value sc) (b.value sc);
  same = bin-is And a.says b.says a.value b.value a.same b.same;
}

abbrev pub refined : Condition
refined = record { says = refine; value = refine_value; same = refine-is }

abbrev pub mimicked : Condition
mimicked = record { says = mimics; value = mimics_value; same = mimics-is }

abbrev pub showing : ℕ → Condition
showing n = record { says = shows n; value = shows_value n; same = cell-is 1 1 n }

abbrev pub secret : ℕ → Condition
secret n = record { says = expr.Bin Eq (name space.Device 0) (expr.Lit (bits 4 n)); value = λ sc. op2_or Eq (slot_value space.Device 0 sc) (bits 4 n); same = cell-is 0 4 n }

-- the three of a script
pub record Valued : Type 0 where
  pub refine : Condition
  pub idle : Condition
  pub cut : Condition

abbrev pub said : Valued → Conditions
said x = record { refine = x.refine.says; idle = x.idle.says; cut = x.cut.says }

abbrev pub plain_right : Valued
plain_right = record { refine = refined; idle = refined; cut = mimicked }

-- ---- scripts

abbrev pub is_one : Value → Spaces → Bool
is_one v sp = (v (scope sp [])).value == 1

abbrev pub plain_cut : Value → State → Bool
plain_cut v st = is_one v (seen st.fields st.cells st.emu)

abbrev pub loop : WireItems
loop = Step 3 1 (Subsume 4 2)

-- by its `idle`
abbrev pub plain_host : Value → HostSections Left
plain_host v = record {
  idle = λ fields cells kept. is_one v (seen fields cells []);
  factory_hint = 5;
  boot_host_hint = 6;
  rest_hint = 7;
  wait_hint = 8;
  call_hint = λ o. if o == 0 then 9 else if o == 1 then 10 else 0;
  calls = λ o. Close;
}

-- by its `refine`, its `idle` and its cut
abbrev pub plain_script : List Line → (refine idle cut : Value) → Script Left
plain_script ls r v c = record {
  refine = λ fields persistent kept. is_one r (seen fields (merge (keep_mask (cells_of ls) keep) (zeros_or (state_widths (cells_of ls))) persistent) []);
  wire_hint = 1;
  wire = Cut 2 (plain_cut c) loop;
  host = Some (plain_host v);
}

abbrev pub script_by : List Line → Valued → Script Left
script_by ls x = plain_script ls x.refine.value x.idle.value x.cut.value

pub hints-are : (w : ℕ) (ls : List Line) (more : List Stmt) (x : Valued) → script_of (record { lines = ls }) (spec w) (driver_with more w) (script_with (said x)) ≡ script_by ls x
unfolding script_of
hints-are w ls more x i = plain_script ls (x.refine.same i) (x.idle.same i) (x.cut.same i)
