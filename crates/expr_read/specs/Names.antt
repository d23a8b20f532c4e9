-- What a name in scope means: the word that was declared last under it, among the names that are
-- written in the same way. And which names declarations bring into scope.
use Rattle.std.specs.Prelude.{ℕ, suc, ◌&&◌, Bool, true, false, if◌then◌else◌, List, [], ◌∷◌, ◌++◌, map, codes, Option, Some, None, is_none, Result, Ok}
use Rattle.std.specs.Str.{bytes_eq}
use Rattle.std.specs.Fmt.{decimal}
use Rattle.knox_text.specs.declared.place.Place.{Place}
use Rattle.knox_sexpr.specs.declared.tree.Tree.{Tree, out-Tree}
use Rattle.knox_sexpr.specs.declared.tree.Tree.TheOpen.{Tree-F}
use Rattle.knox_circuit.specs.declared.port.Port.{Port}
use Rattle.knox_circuit.specs.declared.port.Cell.{Cell}
use Rattle.knox_lang.specs.declared.expr.Slot.{Slot}
use Rattle.knox_lang.specs.declared.parts.Field.{Field}
use Rattle.knox_lang.specs.declared.parts.OpHead.{OpHead}
use Rattle.knox_lang.specs.declared.expr.Space.{Space}
use Rattle.knox_lang.specs.declared.expr.Space.TheVariants as spaces
use Rattle.expr_read.specs.declared.names.Group.{Group}
use Rattle.expr_read.specs.declared.names.Group.TheVariants.{Plain, Input, Output, Noise, Device, Spec, Emu, Copy, Other}
use Rattle.expr_read.specs.declared.names.Named.{Named}
use Rattle.expr_read.specs.declared.names.Seen.{Seen}
use Rattle.expr_read.specs.declared.faults.LangWhy.TheVariants.{Form, UnknownName, Twice}
use Rattle.expr_read.specs.declared.faults.LangFault.{LangFault}
use Rattle.expr_read.specs.Views.{◌>>=◌, fails, place_of, width_of, symbol_of, parts_of, is_symbol, each}

abbrev pub group_of : Space → Group
group_of spaces.Own = Plain
group_of spaces.Arg = Plain
group_of spaces.Local = Plain
group_of spaces.Bound = Plain
group_of spaces.Input = Input
group_of spaces.Output = Output
group_of spaces.Device = Device
group_of spaces.Noise = Noise
group_of spaces.Spec = Spec
group_of spaces.Emu = Emu
group_of spaces.Copy = Copy
group_of spaces.Taken = Other

abbrev pub same_group : Group → Group → Bool
same_group Plain Plain = true
same_group Input Input = true
same_group Output Output = true
same_group Noise Noise = true
same_group Device Device = true
same_group Spec Spec = true
same_group Emu Emu = true
same_group Copy Copy = true
same_group Other Other = true
same_group a b = false

abbrev pub is_named : Group → List ℕ → Named → Bool
is_named group name n = same_group (group_of n.slot.space) group && bytes_eq n.name name

abbrev pub seen : Named → Seen
seen n = record { slot = n.slot; width = n.width }

-- what a name means by these names, where by those before it means `before`
abbrev pub found : Group → List ℕ → Option Seen → List Named → Option Seen
found group name before [] = before
found group name before (n ∷ ns) = found group name (if is_named group name n then Some (seen n) else before) ns

-- ---- what is named

-- the word of a group that a tree names
abbrev pub seen_at : Place → Option Seen → Result Seen LangFault
seen_at at None = fails at UnknownName
seen_at at (Some s) = Ok s

abbrev pub seen_of : Group → Tree → List Named → Result Seen LangFault
seen_of group t names = symbol_of t >>= λ name. seen_at (place_of t) (found group name None names)

-- the target of a statement: a field or a local, or `(k x)`, a word of the copy
abbrev pub target_in : Place → Seen → Space → Result Seen LangFault
target_in at s spaces.Own = Ok s
target_in at s spaces.Local = Ok s
target_in at s other = fails at UnknownName

abbrev pub target_at : Place → Option Seen → Result Seen LangFault
target_at at None = fails at UnknownName
target_at at (Some s) = target_in at s s.slot.space

abbrev pub copied : Place → List Named → List Tree → Result Seen LangFault
copied at names (head ∷ x ∷ []) = if is_symbol (codes "k") head then seen_of Copy x names else fails at Form
copied at names ts = fails at Form

abbrev pub target_level : List Named → Tree-F Tree → Result Seen LangFault
target_level names (Tree-F.Atom at name) = target_at at (found Plain name None names)
target_level names (Tree-F.Number at width value) = fails at Form
target_level names (Tree-F.List at parts close) = copied at names parts

abbrev pub target : Tree → List Named → Result Seen LangFault
target t names = target_level names (out-Tree t)

-- the number of the first operation of a name, where the first one has some number
abbrev pub op_from : ℕ → List ℕ → List OpHead → Option ℕ
op_from k name [] = None
op_from k name (o ∷ os) = if bytes_eq o.name name then Some k else op_from (suc k) name os

abbrev pub op_number : List ℕ → List OpHead → Option ℕ
op_number name os = op_from 0 name os

-- ---- declarations

-- a name and its width, beside those that its level has already
abbrev pub is_declared : List ℕ → List (List ℕ × ℕ) → Bool
is_declared name [] = false
is_declared name (p ∷ ps) = if bytes_eq p.0 name then true else is_declared name ps

abbrev pub pair : Tree → Tree → List (List ℕ × ℕ) → Result (List ℕ × ℕ) LangFault
pair x w known = do
  name ← symbol_of x
  if is_declared name known then fails (place_of x) Twice else (width_of w >>= λ width. Ok (name, width))

-- (x w)
abbrev pub argument_in : Place → List (List ℕ × ℕ) → List Tree → Result (List ℕ × ℕ) LangFault
argument_in at known (x ∷ w ∷ []) = pair x w known
argument_in at known parts = fails at Form

abbrev pub argument : List (List ℕ × ℕ) → Tree → Result (List ℕ × ℕ) LangFault
argument known t = parts_of t >>= λ ts. argument_in (place_of t) known ts

-- (local x w)
abbrev pub local_in : Place → List (List ℕ × ℕ) → List Tree → Result (List ℕ × ℕ) LangFault
local_in at known (head ∷ x ∷ w ∷ []) = pair x w known
local_in at known parts = fails at Form

abbrev pub local : List (List ℕ × ℕ) → Tree → Result (List ℕ × ℕ) LangFault
local known t = parts_of t >>= λ ts. local_in (place_of t) known ts

abbrev pub and_last : {A : Type 0} → List A → A → List A
and_last xs x = xs ++ x ∷ []

abbrev pub arguments : List Tree → Result (List (List ℕ × ℕ)) LangFault
arguments ts = each argument and_last [] ts

abbrev pub locals : List Tree → Result (List (List ℕ × ℕ)) LangFault
locals ts = each local and_last [] ts

-- ---- names that declarations bring into scope

abbrev pub slot_of : Space → ℕ → Slot
slot_of space k = record { space = space; number = k }

abbrev pub naming : List ℕ → Slot → ℕ → Named
naming name slot width = record { name = name; slot = slot; width = width }

-- a level of names has the words of a space from some number on
abbrev pub numbered : Space → ℕ → List (List ℕ × ℕ) → List Named
numbered space k [] = []
numbered space k (p ∷ ps) = naming p.0 (slot_of space k) p.1 ∷ numbered space (suc k) ps

-- fields whose words are those of a space
abbrev pub field_names : Space → List Field → List Named
field_names space fs = map (λ (f : Field). naming f.name (slot_of space f.first) f.width) fs

-- a word of the circuit is named by its line's name, if it has one, and by `@` and the line's
-- number
abbrev pub by_name : List ℕ → Slot → ℕ → List Named
by_name [] slot width = []
by_name (c ∷ cs) slot width = naming (c ∷ cs) slot width ∷ []

abbrev pub line_names : List ℕ → ℕ → Slot → ℕ → List Named
line_names name number slot width = by_name name slot width ++ naming (codes "@" ++ decimal number) slot width ∷ []

-- inputs or outputs, which a space has in their order from some number on
abbrev pub port_names : Space → ℕ → List Port → List Named
port_names space k [] = []
port_names space k (p ∷ ps) = line_names p.name p.number (slot_of space k) p.width ++ port_names space (suc k) ps

-- the names of a cell of one word: arrays have no names yet
abbrev pub word_cell_names : Cell → Slot → List Named
word_cell_names c slot = if is_none c.index then line_names c.name c.number slot c.width else []

-- cells, each under its number among the cells
abbrev pub cell_names : ℕ → List Cell → List Named
cell_names k [] = []
cell_names k (c ∷ cs) = word_cell_names c (slot_of spaces.Device k) ++ cell_names (suc k) cs

-- cells whose words are those of a space, by their first words
abbrev pub word_names : Space → List Cell → List Named
word_names space [] = []
word_names space (c ∷ cs) = word_cell_names c (slot_of space c.first) ++ word_names space cs

-- cells that are marked, by their first words
abbrev pub where_marked : Bool → Cell → List Named
where_marked m c = if m then word_cell_names c (slot_of spaces.Device c.first) else []

abbrev pub marked_names : List Cell → List Bool → List Named
marked_names [] marks = []
marked_names (c ∷ cs) [] = []
marked_names (c ∷ cs) (m ∷ marks) = where_marked m c ++ marked_names cs marks
