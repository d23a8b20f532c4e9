-- Which expression a tree means, with its width and its cost, or its first fault.
use Rattle.std.specs.Prelude.{ℕ, zero, suc, ◌+◌, ◌-◌, ◌^◌, ◌==◌, min, if◌then◌else◌, List, [], ◌∷◌, codes, Option, Some, None, Result, Ok}
use Rattle.std.specs.Str.{bytes_eq}
use Rattle.knox_text.specs.declared.place.Place.{Place}
use Rattle.knox_words.specs.Bits.{bits, is_word}
use Rattle.knox_words.specs.Ops.{op1_width}
use Rattle.knox_words.specs.Typing.{op2_typed, slice_typed, extended, ite_typed}
use Rattle.knox_words.specs.declared.op.Op1.{Op1}
use Rattle.knox_words.specs.declared.op.Op2.{Op2}
use Rattle.operator_names.specs.Names.{op1_named, op2_named}
use Rattle.knox_lang.specs.declared.expr.Expr.{Expr}
use Rattle.knox_lang.specs.declared.expr.Expr.TheVariants as exprs
use Rattle.knox_sexpr.specs.declared.tree.Tree.{Tree, fold-Tree, roll-Tree, map-Tree, out-Tree}
use Rattle.knox_sexpr.specs.declared.tree.Tree.TheOpen.{Tree-F}
use Rattle.expr_read.specs.declared.faults.LangWhy.TheVariants.{Form, UnknownName, Width, Arity}
use Rattle.expr_read.specs.declared.faults.LangFault.{LangFault}
use Rattle.expr_read.specs.declared.expression.Typed.{Typed}
use Rattle.expr_read.specs.declared.expression.Extension.{Extension}
use Rattle.expr_read.specs.declared.expression.Extension.TheVariants.{Zeros, Signs}
use Rattle.expr_read.specs.declared.expression.Head.{Head}
use Rattle.expr_read.specs.declared.expression.Head.TheVariants.{Un, Bin, Ite, Slice, Longer, Bv, Names, Unknown, NoSymbol}
use Rattle.expr_read.specs.declared.names.Group.{Group}
use Rattle.expr_read.specs.declared.names.Group.TheVariants.{Plain, Input, Output, Noise, Device, Spec, Emu, Copy}
use Rattle.expr_read.specs.declared.names.Named.{Named}
use Rattle.expr_read.specs.declared.names.Seen.{Seen}
use Rattle.expr_read.specs.Views.{◌>>=◌, fails, place_of, number_of, is_width, width_of, symbol_of}
use Rattle.expr_read.specs.Names.{found}

abbrev pub Reading : Type 0
Reading = List Named → Result Typed LangFault

-- a part of a list, and what it means as an expression
pub record Part : Type 0 where
  pub tree : Tree
  pub reading : Reading

-- a sum of costs; every limit is far below its greatest value
abbrev pub dearer : ℕ → ℕ → ℕ
dearer a b = min (a + b) (2 ^ 64 - 1)

abbrev pub typed : Expr → ℕ → ℕ → Typed
typed e w c = record { expr = e; width = w; cost = c }

-- ---- words and names

abbrev pub word : Place → ℕ → ℕ → Result Typed LangFault
word at w n = if is_word (bits w n) then Ok (typed (exprs.Lit (bits w n)) w 1) else fails at Width

-- a number that is written with its width
abbrev pub literal : Place → ℕ → ℕ → Result Typed LangFault
literal at zero value = fails at Form
literal at (suc w) value = if is_width (suc w) then word at (suc w) value else fails at Width

abbrev pub meant : Place → Option Seen → Result Typed LangFault
meant at None = fails at UnknownName
meant at (Some s) = Ok (typed (exprs.Name s.slot) s.width 1)

abbrev pub named : Place → Group → List ℕ → Reading
named at group name names = meant at (found group name None names)

-- ---- operators

abbrev pub un_of : Op1 → Typed → Typed
un_of o x = typed (exprs.Un o x.expr) (op1_width o x.width) (dearer x.cost 1)

-- an operator on two operands, where it takes words of their widths; its own width is the last
abbrev pub bin_typed : Place → Op2 → Typed × Typed → Option ℕ → Result Typed LangFault
bin_typed at o p None = fails at Width
bin_typed at o p (Some w) = Ok (typed (exprs.Bin o p.0.expr p.1.expr) w (dearer (dearer p.0.cost p.1.cost) 1))

abbrev pub bin_of : Place → Op2 → Typed × Typed → Result Typed LangFault
bin_of at o p = bin_typed at o p (op2_typed o p.0.width p.1.width)

-- a choice between two operands, where their widths allow one; its own width is the last
abbrev pub choice_typed : Place → Typed × Typed × Typed → Option ℕ → Result Typed LangFault
choice_typed at p None = fails at Width
choice_typed at p (Some w) = Ok (typed (exprs.Ite p.0.expr p.1.expr p.2.expr) w (dearer (dearer (dearer p.1.cost p.2.cost) p.0.cost) 1))

abbrev pub ite_of : Place → Typed × Typed × Typed → Result Typed LangFault
ite_of at p = choice_typed at p (ite_typed p.0.width p.1.width p.2.width)

-- the bits of an operand from a number down to another, where it has them; their count is the last
abbrev pub bits_typed : Place → ℕ → ℕ → Typed → Option ℕ → Result Typed LangFault
bits_typed at high low x None = fails at Width
bits_typed at high low x (Some w) = Ok (typed (exprs.Slice high low x.expr) w (dearer x.cost 1))

abbrev pub slice_of : Place → ℕ → ℕ → Typed → Result Typed LangFault
slice_of at high low x = bits_typed at high low x (slice_typed x.width high low)

-- an expression in more bits
abbrev pub longer : Extension → ℕ → Expr → Expr
longer Zeros more x = exprs.Uext more x
longer Signs more x = exprs.Sext more x

-- an operand in more bits, where it may have them; its new width is the last
abbrev pub longer_typed : Place → Extension → ℕ → Typed → Option ℕ → Result Typed LangFault
longer_typed at by more x None = fails at Width
longer_typed at by more x (Some w) = Ok (typed (longer by more x.expr) w (dearer x.cost 1))

abbrev pub longer_of : Place → Extension → ℕ → Typed → Result Typed LangFault
longer_of at by more x = longer_typed at by more x (extended x.width more)

-- one operand
abbrev pub one : Place → List Part → Reading
one at (a ∷ []) names = a.reading names
one at parts names = fails at Arity

-- an operand behind another: what `two` does behind the first
abbrev pub second : Typed → Result Typed LangFault → Result (Typed × Typed) LangFault
second x read = read >>= λ y. Ok (x, y)

-- two operands
abbrev pub two : Place → List Part → List Named → Result (Typed × Typed) LangFault
two at (a ∷ b ∷ []) names = do
  x ← a.reading names
  second x (b.reading names)
two at parts names = fails at Arity

-- an operand behind two others: what `three` does behind the second
abbrev pub third : Typed → Typed → Result Typed LangFault → Result (Typed × Typed × Typed) LangFault
third z x read = read >>= λ y. Ok (z, x, y)

-- three operands
abbrev pub three : Place → List Part → List Named → Result (Typed × Typed × Typed) LangFault
three at (c ∷ a ∷ b ∷ []) names = do
  z ← c.reading names
  x ← a.reading names
  third z x (b.reading names)
three at parts names = fails at Arity

-- ---- forms

-- two numbers
abbrev pub numbers : Tree → Tree → Result (ℕ × ℕ) LangFault
numbers a b = do
  m ← number_of a
  n ← number_of b
  Ok (m, n)

-- the bits between two numbers of an operand, which is read behind them
abbrev pub slice_read : Place → Tree → Tree → Result Typed LangFault → Result Typed LangFault
slice_read at high low read = do
  bounds ← numbers high low
  x ← read
  slice_of at bounds.0 bounds.1 x

-- (slice high low e)
abbrev pub sliced : Place → List Part → Reading
sliced at (high ∷ low ∷ a ∷ []) names = slice_read at high.tree low.tree (a.reading names)
sliced at parts names = fails at Arity

-- an operand, which is read behind a number, in as many bits more
abbrev pub longer_read : Place → Extension → Tree → Result Typed LangFault → Result Typed LangFault
longer_read at by n read = do
  more ← number_of n
  x ← read
  longer_of at by more x

-- (uext n e) and (sext n e)
abbrev pub extended_by : Place → Extension → List Part → Reading
extended_by at by (n ∷ a ∷ []) names = longer_read at by n.tree (a.reading names)
extended_by at by parts names = fails at Arity

-- (bv w n)
abbrev pub bv_word : Tree → Tree → Result Typed LangFault
bv_word width number = do
  w ← width_of width
  n ← number_of number
  word (place_of number) w n

abbrev pub bv : Place → List Part → Result Typed LangFault
bv at (w ∷ n ∷ []) = bv_word w.tree n.tree
bv at parts = fails at Form

-- (in x) and its like
abbrev pub named_symbol : Group → Tree → Reading
named_symbol group x names = symbol_of x >>= λ name. named (place_of x) group name names

abbrev pub named_by_form : Place → Group → List Part → Reading
named_by_form at group (x ∷ []) names = named_symbol group x.tree names
named_by_form at group parts names = fails at Form

-- the forms that are no operators on words
abbrev pub form : List ℕ → Head
form name =
    if bytes_eq name (codes "ite") then Ite else if bytes_eq name (codes "slice") then Slice
    else if bytes_eq name (codes "uext") then Longer Zeros else if bytes_eq name (codes "sext") then Longer Signs
    else if bytes_eq name (codes "bv") then Bv
    else if bytes_eq name (codes "in") then Names Input else if bytes_eq name (codes "out") then Names Output
    else if bytes_eq name (codes "noise") then Names Noise else if bytes_eq name (codes "s") then Names Spec
    else if bytes_eq name (codes "c") then Names Device else if bytes_eq name (codes "e") then Names Emu
    else if bytes_eq name (codes "k") then Names Copy else Unknown

-- an operator, or else another head
abbrev pub un_or : Option Op1 → Head → Head
un_or None h = h
un_or (Some o) h = Un o

abbrev pub bin_or : Option Op2 → Head → Head
bin_or None h = h
bin_or (Some o) h = Bin o

abbrev pub keyword : List ℕ → Head
keyword name = un_or (op1_named name) (bin_or (op2_named name) (form name))

abbrev pub head_in : Tree-F Tree → Head
head_in (Tree-F.Atom at name) = keyword name
head_in (Tree-F.Number at width value) = NoSymbol
head_in (Tree-F.List at parts close) = NoSymbol

abbrev pub head_of : Tree → Head
head_of t = head_in (out-Tree t)

-- what a head, whose place is the second, gives of the parts behind it
abbrev pub applied : Place → Place → Head → List Part → Reading
applied at head_at (Un o) parts names = one at parts names >>= λ x. Ok (un_of o x)
applied at head_at (Bin o) parts names = two at parts names >>= λ p. bin_of at o p
applied at head_at Ite parts names = three at parts names >>= λ p. ite_of at p
applied at head_at Slice parts names = sliced at parts names
applied at head_at (Longer by) parts names = extended_by at by parts names
applied at head_at Bv parts names = bv at parts
applied at head_at (Names group) parts names = named_by_form at group parts names
applied at head_at Unknown parts names = fails head_at UnknownName
applied at head_at NoSymbol parts names = fails head_at Form

abbrev pub list : Place → List Part → Reading
list at [] names = fails at Form
list at (head ∷ parts) names = applied at (place_of head.tree) (head_of head.tree) parts names

abbrev pub reading_level : Tree-F Part → Reading
reading_level (Tree-F.Atom at name) names = named at Plain name names
reading_level (Tree-F.Number at width value) names = literal at width value
reading_level (Tree-F.List at parts close) names = list at parts names

abbrev pub part_level : Tree-F Part → Part
part_level y = record { tree = roll-Tree (map-Tree Part Tree (λ p. p.tree) y); reading = reading_level y }

unfoldable pub part : Tree → Part
part t = fold-Tree Part part_level t

-- the expression that a tree means under names in scope
abbrev pub expr_of : Tree → Reading
expr_of t = (part t).reading

-- an expression of a width that is wanted
abbrev pub expr_of_width : Tree → ℕ → Reading
expr_of_width t w names = expr_of t names >>= λ x. if x.width == w then Ok x else fails (place_of t) Width
