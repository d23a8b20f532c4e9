-- What the computed examples speak of: two operations, drivers that call none and one of them, and cells.
use Rattle.std.specs.Prelude.{ℕ, List, [], ◌∷◌, codes, Some, None}
use Rattle.knox_text.specs.Examples.{place}
use Rattle.knox_words.specs.Bits.{bits}
use Rattle.knox_sexpr.specs.declared.tree.Tree.{Tree}
use Rattle.knox_sexpr.specs.declared.tree.Tree.TheVariants as trees
use Rattle.knox_circuit.specs.declared.port.Cell.{Cell}
use Rattle.knox_circuit.specs.Circuit.{Circuit}
use Rattle.knox_lang.specs.declared.expr.Expr.{Expr}
use Rattle.knox_lang.specs.declared.expr.Expr.TheVariants.{Lit}
use Rattle.knox_lang.specs.declared.expr.Space.{Space}
use Rattle.knox_lang.specs.declared.expr.Space.TheVariants.{Input}
use Rattle.knox_lang.specs.declared.parts.OpHead.{OpHead}
use Rattle.knox_lang.specs.declared.parts.SpecParts.{SpecParts}
use Rattle.expr_read.specs.declared.expression.Typed.{Typed}
use Rattle.expr_read.specs.declared.names.Seen.{Seen}
use Rattle.expr_read.specs.Expressions.{typed}
use Rattle.lang_read.specs.declared.statement.Steps.{Steps}

abbrev pub no_lines : Circuit
no_lines = record { lines = [] }

abbrev pub op : List ℕ → OpHead
op name = record { name = name; args = []; result = 1 }

abbrev pub two_ops : SpecParts
two_ops = record { fields = []; init = []; funs = []; ops = op (codes "set") ∷ op (codes "check") ∷ []; bodies = [] }

-- (driver)
abbrev pub bare : Tree
bare = trees.List (place 1 1) (trees.Atom (place 1 2) (codes "driver") ∷ []) (place 1 8)

-- (driver set)
abbrev pub no_list : Tree
no_list = trees.List (place 1 1) (trees.Atom (place 1 2) (codes "driver") ∷ trees.Atom (place 1 9) (codes "set") ∷ []) (place 1 12)

-- (driver (call set (result #b1)))
abbrev pub only_set : Tree
only_set =
    trees.List (place 1 1) (trees.Atom (place 1 2) (codes "driver")
    ∷ trees.List (place 1 9) (trees.Atom (place 1 10) (codes "call") ∷ trees.Atom (place 1 15) (codes "set")
    ∷ trees.List (place 1 19) (trees.Atom (place 1 20) (codes "result") ∷ trees.Number (place 1 27) 1 1 ∷ []) (place 1 30) ∷ []) (place 1 31) ∷ []) (place 1 32)

-- a bit that costs so much
abbrev pub bit_of_cost : ℕ → Typed
bit_of_cost c = typed (Lit (bits 1 1)) 1 c

-- no statements, at a cost all the same
abbrev pub steps_of_cost : ℕ → Steps
steps_of_cost c = record { stmts = []; cost = c }

-- the input of a number, 2 bits wide
abbrev pub input : ℕ → Seen
input k = record { slot = record { space = Input; number = k }; width = 2 }

-- an array x of 4 words at line 3, and behind its words a word y at line 5
abbrev pub array_cell : Cell
array_cell = record { name = codes "x"; number = 3; width = 8; index = Some 2; first = 0 }

abbrev pub word_cell : Cell
word_cell = record { name = codes "y"; number = 5; width = 8; index = None; first = 4 }

-- a word of 8 bits at a place of a space
abbrev pub byte_at : Space → ℕ → Seen
byte_at space k = record { slot = record { space = space; number = k }; width = 8 }
