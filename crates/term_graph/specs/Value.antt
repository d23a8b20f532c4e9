-- The values of terms under a valuation, which is any list of words.
-- Standard: the operators are those of BTOR2 and of SMT-LIB, as knox_words has them.
-- The project's own: a valuation that lacks a variable's word gives it the zero word of its width.
use Rattle.std.specs.Prelude.{ℕ, suc, ◌==◌, List, [], ◌∷◌, ◌++◌, fold, map, if◌then◌else◌, Bool, true, false}
use Rattle.knox_words.specs.Bits.{Bits, bits, ite_value, word_at, word_or}
use Rattle.knox_words.specs.Lists.{fits}
use Rattle.knox_words.specs.Ops.{op1_value, op2_or, slice_or, sext_or, uext_or}
use Rattle.term_graph.specs.declared.node.Node.{Node}
use Rattle.term_graph.specs.declared.node.Node.TheVariants as node

-- a word of this width, or its zero word in place of anything else: so a variable has its width whatever a valuation holds
abbrev pub of_width : ℕ → Bits → Bits
of_width w b = if fits w b then b else word_or w 0

-- a where c is 1 and else b, of words of one width, and else the zero word of width 1
abbrev pub ite_or : Bits → Bits → Bits → Bits
ite_or c a b = if a.width == b.width then ite_value c a b else bits 1 0

-- a node, over the values of its children
abbrev pub level : List Bits → (ℕ → Bits) → Node → Bits
level v at (node.Var w n) = of_width w (word_at v n)
level v at (node.Word b) = word_or b.width b.value
level v at (node.Un o a) = op1_value o (at a)
level v at (node.Bin o a b) = op2_or o (at a) (at b)
level v at (node.Sext a n) = sext_or (at a) n
level v at (node.Uext a n) = uext_or (at a) n
level v at (node.Slice a h l) = slice_or (at a) h l
level v at (node.Ite c a b) = ite_or (at c) (at a) (at b)

-- one more value
abbrev pub valued : List Bits → List Bits → Node → List Bits
valued v ws n = ws ++ level v (word_at ws) n ∷ []

-- the values of all nodes, from the first on
unfoldable pub values : List Bits → List Node → List Bits
values v ns = fold (valued v) [] ns

-- the value of the term at a place
abbrev pub value : List Bits → List Node → ℕ → Bits
value v ns t = word_at (values v ns) t

-- the width of the term at a place, which is that of its value under every valuation
abbrev pub width_of : List Node → ℕ → ℕ
width_of ns t = (value [] ns t).width

abbrev pub is_var : Node → Bool
is_var (node.Var w n) = true
is_var _ = false

-- the places of the variables among nodes of which the first has place k
abbrev pub vars_from : ℕ → List Node → List ℕ
vars_from k [] = []
vars_from k (n ∷ ns) = if is_var n then k ∷ vars_from (suc k) ns else vars_from (suc k) ns

-- the places of the variables in order
abbrev pub vars_of : List Node → List ℕ
vars_of ns = vars_from 0 ns

-- the widths of the variables in order
abbrev pub var_widths : List Node → List ℕ
var_widths ns = map (width_of ns) (vars_of ns)
