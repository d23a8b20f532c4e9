-- A script of hints as the theory of scripts has it: `refine`, `idle`, and a section of each kind with its hint numbers; and the form that scripts have. The project's own.
use Rattle.std.specs.Prelude.{ℕ, zero, suc, ◌+◌, ◌*◌, ◌-◌, ◌==◌, ◌&&◌, List, [], ◌∷◌, ◌++◌, length, slice_get, Option, Some, None, Bool, true, false, if◌then◌else◌}
use Rattle.knox_words.specs.Bits.{Bits}
use Rattle.knox_theory.specs.Script.{WireItems, Step, Cut, Subsume, Close, HostSections, Script}
use Rattle.knox_circuit.specs.Cells.{cells_of, state_widths, keep_mask}
use Rattle.knox_circuit.specs.Circuit.{Circuit}
use Rattle.knox_words.specs.Lists.{merge, zeros_or}
use Rattle.knox_circuit.specs.declared.port.Cell.{Cell}
use Rattle.knox_lang.specs.declared.expr.Expr.{Expr}
use Rattle.knox_lang.specs.declared.parts.Fun.{Fun}
use Rattle.knox_lang.specs.declared.parts.SpecParts.{SpecParts}
use Rattle.knox_lang.specs.declared.parts.DriverParts.{DriverParts}
use Rattle.knox_lang.specs.declared.scope.Spaces.{Spaces}
use Rattle.knox_lang.specs.Scope.{no_words, scope}
use Rattle.knox_lang.specs.Eval.{eval, called}
use Rattle.driver_machine.specs.Left.{Left}
use Rattle.script_core.specs.declared.parts.Act.{Act}
use Rattle.script_core.specs.declared.parts.Act.TheVariants as act
use Rattle.script_core.specs.declared.parts.Item.{Item}
use Rattle.script_core.specs.declared.parts.Kind.{Kind}
use Rattle.script_core.specs.declared.parts.Kind.TheVariants.{Factory, BootHost, Rest, Wait, Call, Wire}
use Rattle.script_core.specs.declared.parts.Root.{Root}
use Rattle.script_core.specs.declared.parts.Root.TheVariants.{OfKind, OfCut}
use Rattle.script_core.specs.declared.parts.Section.{Section}
use Rattle.script_core.specs.declared.parts.ScriptParts.{ScriptParts}

-- the words of a run, as conditions name them
abbrev pub seen : (fields cells emu : List Bits) → Spaces
seen fields cells emu = record no_words { spec = fields; device = cells; emu = emu }

-- whether a condition is 1 of some words
abbrev pub holds : List Fun → Expr → Spaces → Bool
holds funs e sp = (eval (called funs) e (scope sp [])).value == 1

-- `refine` of the fields and the persistent words. It sees zero words in the other cells, so nothing that a power-cycle changes.
abbrev pub refines : List Fun → List Cell → List Bool → Expr → (fields persistent : List Bits) → Bool
refines funs cells keep e fields persistent = holds funs e (seen fields (merge (keep_mask cells keep) (zeros_or (state_widths cells)) persistent) [])

-- an item, before the others. A list that ends without a subsume leads nowhere.
abbrev pub item_of : List Fun → ℕ → Act → WireItems → WireItems
item_of funs h (act.Step n) rest = Step h n rest
item_of funs h (act.Cut c) rest = Cut h (λ st. holds funs c (seen st.fields st.cells st.emu)) rest
item_of funs h (act.Subsume l) rest = Subsume h l.0

abbrev pub items_of : List Fun → List Item → WireItems
items_of funs [] = Subsume 0 0
items_of funs (i ∷ is) = item_of funs i.hint.0 i.act (items_of funs is)

-- ---- kinds of sections

abbrev pub same_kind : Kind → Kind → Bool
same_kind Factory Factory = true
same_kind BootHost BootHost = true
same_kind Rest Rest = true
same_kind Wait Wait = true
same_kind (Call o) (Call p) = o == p
same_kind Wire Wire = true
same_kind _ _ = false

-- the hint and the items of the first section of a kind
abbrev pub hint_of_kind : Kind → List Section → ℕ
hint_of_kind k [] = 0
hint_of_kind k (s ∷ ss) = if same_kind k s.kind then s.hint.0 else hint_of_kind k ss

abbrev pub items_of_kind : Kind → List Section → List Item
items_of_kind k [] = []
items_of_kind k (s ∷ ss) = if same_kind k s.kind then s.items else items_of_kind k ss

abbrev pub wire_items : ScriptParts → List Item
wire_items p = items_of_kind Wire p.sections

-- what the sections of the host check: `idle` sees the fields and all cells, and calls have no items
abbrev pub host_of : List Fun → ScriptParts → HostSections Left
host_of funs p = record {
  idle = λ fields cells kept. holds funs p.idle (seen fields cells []);
  factory_hint = hint_of_kind Factory p.sections;
  boot_host_hint = hint_of_kind BootHost p.sections;
  rest_hint = hint_of_kind Rest p.sections;
  wait_hint = hint_of_kind Wait p.sections;
  call_hint = λ o. hint_of_kind (Call o) p.sections;
  calls = λ o. Close;
}

-- the script, for a device
unfoldable pub script_of : Circuit → SpecParts → DriverParts → ScriptParts → Script Left
script_of c s d p = record {
  refine = λ fields persistent kept. refines s.funs (cells_of c.lines) d.keep p.refine fields persistent;
  wire_hint = hint_of_kind Wire p.sections;
  wire = items_of s.funs (wire_items p);
  host = Some (host_of s.funs p);
}

-- ---- the form: a section of each kind, in any order. `wire` has a cut, a step of one tick and a subsume of that cut, and no other section has items.
-- Sections and items are numbered from 1 in their order

abbrev pub is_cut : Act → Bool
is_cut (act.Cut c) = true
is_cut a = false

abbrev pub is_tick : Act → Bool
is_tick (act.Step n) = n == 1
is_tick a = false

abbrev pub leads_to : ℕ → Act → Bool
leads_to h (act.Subsume l) = l.0 == h
leads_to h a = false

-- whether items are those of a `wire` whose hint is h
abbrev pub is_loop : ℕ → List Item → Bool
is_loop h (a ∷ b ∷ c ∷ []) = a.hint.0 == h + 1 && (b.hint.0 == h + 2 && (c.hint.0 == h + 3 && (is_cut a.act && (is_tick b.act && leads_to (h + 1) c.act))))
is_loop h is = false

abbrev pub is_empty : {A : Type 0} → List A → Bool
is_empty [] = true
is_empty (x ∷ xs) = false

abbrev pub is_wire : Kind → Bool
is_wire Wire = true
is_wire k = false

abbrev pub items_fit : Kind → ℕ → List Item → Bool
items_fit k h is = if is_wire k then is_loop h is else is_empty is

-- sections numbered from h on, each with its items
abbrev pub are_numbered : ℕ → List Section → Bool
are_numbered h [] = true
are_numbered h (s ∷ ss) = s.hint.0 == h && (items_fit s.kind h s.items && are_numbered (h + (1 + length s.items)) ss)

-- the kinds of calls of the operations below a number, and all kinds
abbrev pub call_kinds : ℕ → List Kind
call_kinds zero = []
call_kinds (suc o) = Call o ∷ call_kinds o

abbrev pub kinds : (ops : ℕ) → List Kind
kinds ops = Wire ∷ Factory ∷ BootHost ∷ Rest ∷ Wait ∷ call_kinds ops

-- some kinds, with another one before them
abbrev pub with_kind : Kind → Option (List Kind) → Option (List Kind)
with_kind k None = None
with_kind k (Some ks) = Some (k ∷ ks)

-- kinds without one of them; none where it isn't among them
abbrev pub without : Kind → List Kind → Option (List Kind)
without k [] = None
without k (x ∷ xs) = if same_kind k x then Some xs else with_kind x (without k xs)

-- whether sections are of the kinds that are left, each once
abbrev pub are_of : List Section → Option (List Kind) → Bool
are_of ss None = false
are_of [] (Some left) = is_empty left
are_of (s ∷ ss) (Some left) = are_of ss (without s.kind left)

-- whether a script is of the form, for so many operations
abbrev pub script_fits : (ops : ℕ) → ScriptParts → Bool
script_fits ops p = are_numbered 1 p.sections && are_of p.sections (Some (kinds ops))

-- the number of operations of a script of the form
abbrev pub ops_of : ScriptParts → ℕ
ops_of p = length p.sections - 5

-- the number of hints: one for each section and each item
abbrev pub hint_count : List Section → ℕ
hint_count [] = 0
hint_count (s ∷ ss) = 1 + length s.items + hint_count ss

-- the number of checks at which a run can fail: two for each tick of a step, one for each other item, and one for each section of the host
abbrev pub obligations_of : Act → ℕ
obligations_of (act.Step n) = 2 * n
obligations_of a = 1

abbrev pub item_obligations : List Item → ℕ
item_obligations [] = 0
item_obligations (i ∷ is) = obligations_of i.act + item_obligations is

abbrev pub section_obligations : Section → ℕ
section_obligations s = if is_wire s.kind then item_obligations s.items else 1

abbrev pub obligations : List Section → ℕ
obligations [] = 0
obligations (s ∷ ss) = section_obligations s + obligations ss

-- ---- what a segment begins with

-- what is behind the first cut, its condition, and the condition of the cut with a hint, of those before the first subsume
abbrev pub behind_cut : List Item → List Item
behind_cut [] = []
behind_cut (i ∷ is) = if is_cut i.act then is else behind_cut is

abbrev pub cut_or : Act → Option Expr → Option Expr
cut_or (act.Cut c) others = Some c
cut_or a others = others

abbrev pub first_cut : List Item → Option Expr
first_cut [] = None
first_cut (i ∷ is) = cut_or i.act (first_cut is)

abbrev pub named_or : Act → Bool → Option Expr → Option Expr
named_or (act.Step n) is others = others
named_or (act.Cut c) is others = if is then Some c else others
named_or (act.Subsume l) is others = None

abbrev pub cut_named : ℕ → List Item → Option Expr
cut_named l [] = None
cut_named l (i ∷ is) = named_or i.act (l == i.hint.0) (cut_named l is)

-- the roots of a section: its kind, and the cut behind that of `wire`
abbrev pub roots_of : Kind → List Root
roots_of k = if is_wire k then OfKind k ∷ OfCut ∷ [] else OfKind k ∷ []

-- the roots of the segments, in order of their hint numbers
abbrev pub roots : List Section → List Root
roots [] = []
roots (s ∷ ss) = roots_of s.kind ++ roots ss

abbrev pub root_at : ScriptParts → ℕ → Option Root
root_at p g = slice_get (roots p.sections) g
