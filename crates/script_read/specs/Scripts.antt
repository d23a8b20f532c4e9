-- Which script of hints the trees of a text mean for a device: (refine e), (idle e), (factory), (boot-host), (rest), (wait), (call op) of each operation, and
-- (wire (cut A e) (step 1) (subsume A)), each once, in any order.
use Rattle.std.specs.Prelude.{◌≡◌, ℕ, ◌+◌, nat_le, ◌==◌, ◌&&◌, Bool, true, false, if◌then◌else◌, List, [], ◌∷◌, ◌++◌, map, length, codes, Option, Some, None, is_some, unwrap_or, Result, Ok}
use Rattle.std.specs.Str.{bytes_eq}
use Rattle.knox_text.specs.declared.place.Place.{Place}
use Rattle.knox_sexpr.specs.declared.tree.Tree.{Tree}
use Rattle.knox_circuit.specs.declared.port.Cell.{Cell}
use Rattle.knox_circuit.specs.Circuit.{Circuit}
use Rattle.knox_circuit.specs.Cells.{cells_of}
use Rattle.knox_lang.specs.declared.expr.Expr.{Expr}
use Rattle.knox_lang.specs.declared.expr.Space.TheVariants.{Spec, Emu}
use Rattle.knox_lang.specs.declared.parts.OpHead.{OpHead}
use Rattle.knox_lang.specs.declared.parts.SpecParts.{SpecParts}
use Rattle.knox_lang.specs.declared.parts.DriverParts.{DriverParts}
use Rattle.knox_lang.specs.declared.parts.EmuParts.{EmuParts}
use Rattle.expr_read.specs.declared.faults.LangWhy.{LangWhy}
use Rattle.expr_read.specs.declared.faults.LangWhy.TheVariants.{Form, UnknownName, Twice, Bound, Missing}
use Rattle.expr_read.specs.declared.faults.LangFault.{LangFault}
use Rattle.expr_read.specs.declared.expression.Typed.{Typed}
use Rattle.expr_read.specs.declared.names.Named.{Named}
use Rattle.expr_read.specs.Views.{◌>>=◌, fails, place_of, number_of, symbol_of, is_headed, behind_head, each}
use Rattle.expr_read.specs.Names.{field_names, marked_names, op_number}
use Rattle.expr_read.specs.Expressions.{expr_of_width}
use Rattle.script_core.specs.declared.parts.HintNo.{HintNo}
use Rattle.script_core.specs.declared.parts.Act.{Act}
use Rattle.script_core.specs.declared.parts.Act.TheVariants.{Cut, Step, Subsume}
use Rattle.script_core.specs.declared.parts.Item.{Item}
use Rattle.script_core.specs.declared.parts.Kind.{Kind}
use Rattle.script_core.specs.declared.parts.Kind.TheVariants.{Factory, BootHost, Rest, Wait, Call, Wire}
use Rattle.script_core.specs.declared.parts.Section.{Section}
use Rattle.script_core.specs.declared.parts.ScriptParts.{ScriptParts}
use Rattle.script_core.specs.Hints.{is_empty, kinds, without}
use Rattle.script_read.specs.declared.scope.Names.{Names}
use Rattle.script_read.specs.declared.draft.Draft.{Draft}
use Rattle.script_read.specs.declared.draft.Said.{Said}
use Rattle.script_read.specs.declared.draft.Said.TheVariants as said
use Rattle.script_read.specs.declared.fault.ScriptFault.{ScriptFault}
use Rattle.script_read.specs.Faults.{of_hints}

-- ---- names in scope

-- `refine` sees (s x), and (c x) of persistent cells
abbrev pub refine_names : Circuit → SpecParts → DriverParts → List Named
refine_names c s d = field_names Spec s.fields ++ marked_names (cells_of c.lines) d.keep

abbrev pub all_cells : List Cell → List Bool
all_cells cells = map (λ (x : Cell). true) cells

-- `idle` sees (s x), and (c x) of every cell
abbrev pub idle_names : Circuit → SpecParts → List Named
idle_names c s = field_names Spec s.fields ++ marked_names (cells_of c.lines) (all_cells (cells_of c.lines))

-- a cut sees what `idle` sees, and (e x)
abbrev pub cut_names : Circuit → SpecParts → EmuParts → List Named
cut_names c s e = idle_names c s ++ field_names Emu e.fields

abbrev pub names_for : Circuit → SpecParts → DriverParts → EmuParts → Names
names_for c s d e = record { refine = refine_names c s d; idle = idle_names c s; cut = cut_names c s e }

-- ---- conditions and their lists

-- an expression whose cost is within the limit of one that stands in no body
abbrev pub limited : Place → Typed → Result Expr LangFault
limited at x = if nat_le x.cost 1000000 then Ok x.expr else fails at Bound

-- a condition is one bit wide
abbrev pub condition : List Named → Tree → Result Expr LangFault
condition names t = expr_of_width t 1 names >>= λ x. limited (place_of t) x

-- what stands alone behind the symbol that a list has to begin with
abbrev pub sole : Place → List Tree → Result Tree LangFault
sole at (x ∷ []) = Ok x
sole at parts = fails at Form

abbrev pub operand : List ℕ → Tree → Result Tree LangFault
operand word t = behind_head word t >>= λ parts. sole (place_of t) parts

-- (cut A e): its name and its condition
abbrev pub cut_in : List Named → Place → List Tree → Result (List ℕ × Expr) LangFault
cut_in names at (a ∷ e ∷ []) = do
  name ← symbol_of a
  c ← condition names e
  Ok (name, c)
cut_in names at parts = fails at Form

abbrev pub cut : List Named → Tree → Result (List ℕ × Expr) LangFault
cut names t = behind_head (codes "cut") t >>= λ parts. cut_in names (place_of t) parts

-- (step 1)
abbrev pub one_tick : Tree → Result (Unit {0}) LangFault
one_tick n = number_of n >>= λ k. if k == 1 then Ok tt else fails (place_of n) Bound

abbrev pub step : Tree → Result (Unit {0}) LangFault
step t = operand (codes "step") t >>= λ n. one_tick n

-- (subsume A), of the cut of a name
abbrev pub leads_to : List ℕ → Tree → Result (Unit {0}) LangFault
leads_to name a = symbol_of a >>= λ led. if bytes_eq led name then Ok tt else fails (place_of a) UnknownName

abbrev pub subsume : List ℕ → Tree → Result (Unit {0}) LangFault
subsume name t = operand (codes "subsume") t >>= λ a. leads_to name a

-- (wire (cut A e) (step 1) (subsume A)): the cut's condition
abbrev pub wire_in : List Named → Place → List Tree → Result Expr LangFault
wire_in names at (a ∷ b ∷ c ∷ []) = do
  x ← cut names a
  stepped ← step b
  led ← subsume x.0 c
  Ok x.1
wire_in names at parts = fails at Form

abbrev pub wire : List Named → Tree → Result Expr LangFault
wire names t = behind_head (codes "wire") t >>= λ parts. wire_in names (place_of t) parts

-- ---- sections with their hint numbers

abbrev pub hint : ℕ → HintNo
hint n = record { 0 = n }

abbrev pub item : ℕ → Act → Item
item n a = record { hint = hint n; act = a }

-- a section of the host
abbrev pub host_section : ℕ → Kind → Section
host_section n k = record { hint = hint n; kind = k; items = [] }

-- `wire` with a cut of some condition, whose items are numbered behind it
abbrev pub wire_section : ℕ → (cut : Expr) → Section
wire_section n cut = record { hint = hint n; kind = Wire; items = item (n + 1) (Cut cut) ∷ item (n + 2) (Step 1) ∷ item (n + 3) (Subsume (hint (n + 1))) ∷ [] }

-- ---- what was read so far

-- whether a kind is among those that are left, and these without it
abbrev pub is_left : Kind → List Kind → Bool
is_left k left = is_some (without k left)

abbrev pub less : Kind → List Kind → List Kind
less k left = unwrap_or (without k left) left

-- before the first tree, for so many operations
abbrev pub nothing : (ops : ℕ) → Draft
nothing ops = record { refine = None; idle = None; sections = []; left = kinds ops; next = 1 }

-- a section more, behind which hints are numbered from `next` on
abbrev pub with_section : Draft → Section → (next : ℕ) → Draft
with_section d s next = record { refine = d.refine; idle = d.idle; sections = d.sections ++ s ∷ []; left = less s.kind d.left; next = next }

-- with what a tree says
abbrev pub add : Draft → Said → Draft
add d (said.Refine e) = record { refine = Some e; idle = d.idle; sections = d.sections; left = d.left; next = d.next }
add d (said.Idle e) = record { refine = d.refine; idle = Some e; sections = d.sections; left = d.left; next = d.next }
add d (said.Host k) = with_section d (host_section d.next k) (d.next + 1)
add d (said.Wire c) = with_section d (wire_section d.next c) (d.next + 4)

-- ---- forms

-- (refine e) or (idle e), where it isn't known yet
abbrev pub stated : (known : Bool) → (word : List ℕ) → List Named → Tree → Result Expr LangFault
stated known word names t = if known then fails (place_of t) Form else (operand word t >>= λ e. condition names e)

-- a section of a kind that is left; of another the fault is at the place
abbrev pub once : Place → LangWhy → Kind → List Kind → Result Said LangFault
once at why k left = if is_left k left then Ok (said.Host k) else fails at why

-- a section that is its word alone
abbrev pub none_behind : Place → List Tree → Result (Unit {0}) LangFault
none_behind at [] = Ok tt
none_behind at (x ∷ xs) = fails at Form

abbrev pub bare : (word : List ℕ) → Kind → List Kind → Tree → Result Said LangFault
bare word k left t = do
  parts ← behind_head word t
  alone ← none_behind (place_of t) parts
  once (place_of t) Form k left

-- (call op)
abbrev pub op_at : Place → Option ℕ → Result ℕ LangFault
op_at at None = fails at UnknownName
op_at at (Some o) = Ok o

abbrev pub op_named : List OpHead → Tree → Result ℕ LangFault
op_named ops x = symbol_of x >>= λ name. op_at (place_of x) (op_number name ops)

abbrev pub call : List OpHead → List Kind → Tree → Result Said LangFault
call ops left t = do
  x ← operand (codes "call") t
  o ← op_named ops x
  once (place_of x) Twice (Call o) left

-- the section `wire`, where it is left
abbrev pub wire_once : List Named → List Kind → Tree → Result Said LangFault
wire_once names left t = if is_left Wire left then (wire names t >>= λ c. Ok (said.Wire c)) else fails (place_of t) Form

-- what a section says
abbrev pub section : Names → List OpHead → List Kind → Tree → Result Said LangFault
section names ops left t =
    if is_headed (codes "factory") t then bare (codes "factory") Factory left t
    else if is_headed (codes "boot-host") t then bare (codes "boot-host") BootHost left t
    else if is_headed (codes "rest") t then bare (codes "rest") Rest left t
    else if is_headed (codes "wait") t then bare (codes "wait") Wait left t
    else if is_headed (codes "call") t then call ops left t
    else if is_headed (codes "wire") t then wire_once names.cut left t
    else fails (place_of t) Form

-- what a tree says, beside what was read so far
abbrev pub form : Names → List OpHead → Draft → Tree → Result Said LangFault
form names ops d t =
    if is_headed (codes "refine") t then (stated (is_some d.refine) (codes "refine") names.refine t >>= λ e. Ok (said.Refine e))
    else if is_headed (codes "idle") t then (stated (is_some d.idle) (codes "idle") names.idle t >>= λ e. Ok (said.Idle e))
    else section names ops d.left t

-- what trees say, one after the other
abbrev pub forms : Names → List OpHead → Draft → List Tree → Result Draft LangFault
forms names ops d ts = each (form names ops) add d ts

-- ---- texts

-- whether no form is missing
abbrev pub is_whole : Draft → Bool
is_whole d = is_some d.refine && (is_some d.idle && is_empty d.left)

abbrev pub needed : {A : Type 0} → Place → Option A → Result A LangFault
needed end None = fails end Missing
needed end (Some x) = Ok x

abbrev pub none_left : Place → List Kind → Result (Unit {0}) LangFault
none_left end [] = Ok tt
none_left end (k ∷ ks) = fails end Missing

-- the script of what was read of a text that ends at a place
abbrev pub finished : Place → Draft → Result ScriptParts LangFault
finished end d = do
  r ← needed end d.refine
  i ← needed end d.idle
  whole ← none_left end d.left
  Ok (record { refine = r; idle = i; sections = d.sections })

abbrev pub text : Names → List OpHead → Place → List Tree → Result ScriptParts LangFault
text names ops end ts = forms names ops (nothing (length ops)) ts >>= λ d. finished end d

-- the script of the trees of a text that ends at a place
abbrev pub script_text : Circuit → SpecParts → DriverParts → EmuParts → Place → List Tree → Result ScriptParts ScriptFault
script_text c s d e end ts = of_hints (text (names_for c s d e) s.ops end ts)

-- every tree of a text is read, and a form is missing behind them
pub record LacksForm (names : Names) (ops : List OpHead) (ts : List Tree) : Type 0 where
  pub read : Draft
  pub reads : forms names ops (nothing (length ops)) ts ≡ Ok read
  pub lacks : is_whole read ≡ false
