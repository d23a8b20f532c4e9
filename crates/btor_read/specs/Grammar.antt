-- What the operands of each keyword's form mean.
-- Standard: BTOR2 (Niemetz, Preiner, Wolf and Biere, CAV 2018).
use Rattle.std.specs.Prelude.{ℕ, zero, suc, ℤ, if◌then◌else◌, List, [], ◌∷◌, codes, Some, Result, Ok, Err}
use Rattle.std.specs.Str.{bytes_eq}
use Rattle.circuit_table.specs.declared.fault.Why.{Why}
use Rattle.circuit_table.specs.declared.fault.Why.TheVariants.{Operand}
use Rattle.circuit_table.specs.declared.line.Shape.{Shape}
use Rattle.circuit_table.specs.declared.line.Shape.TheVariants as shape
use Rattle.circuit_table.specs.Rows.{bind}
use Rattle.btor_read.specs.declared.keyword.Keyword.{Keyword}
use Rattle.btor_read.specs.declared.keyword.Keyword.TheVariants as key
use Rattle.btor_read.specs.Tokens.{Tokens, next_as}
use Rattle.btor_read.specs.Numbers.{positive, number_or, node_number}

-- a meaning, and the tokens that are left
abbrev pub Read : Type 0 → Type 0
Read A = Result (A × Tokens) Why

-- ---- operands

-- the number of a sort's line
abbrev pub sort_at : Tokens → Read ℕ
sort_at ts = next_as (number_or 0) ts

-- a width, an index of a bit, or how many bits more
abbrev pub size_at : Tokens → Read ℕ
size_at ts = next_as (number_or 4294967295) ts

-- a node, by its number
abbrev pub node_at : Tokens → Read ℤ
node_at ts = next_as node_number ts

abbrev pub one_at : Tokens → Read (ℕ × ℤ)
one_at ts = bind (sort_at ts) (λ s. bind (node_at s.1) (λ a. Ok ((s.0, a.0), a.1)))

abbrev pub two_at : Tokens → Read (ℕ × ℤ × ℤ)
two_at ts = bind (one_at ts) (λ p. bind (node_at p.1) (λ b. Ok ((p.0.0, p.0.1, b.0), b.1)))

abbrev pub three_at : Tokens → Read (ℕ × ℤ × ℤ × ℤ)
three_at ts = bind (two_at ts) (λ p. bind (node_at p.1) (λ c. Ok ((p.0.0, p.0.1, p.0.2, c.0), c.1)))

-- a sort, a node, and how many bits more it gets
abbrev pub extension_at : Tokens → Read (ℕ × ℤ × ℕ)
extension_at ts = bind (one_at ts) (λ p. bind (size_at p.1) (λ n. Ok ((p.0.0, p.0.1, n.0), n.1)))

-- a sort, and digits as they stand
abbrev pub constant_at : Tokens → Read (ℕ × List ℕ)
constant_at ts = bind (sort_at ts) (λ s. bind (next_as (λ digits. Some digits) s.1) (λ d. Ok ((s.0, d.0), d.1)))

-- as many nodes
abbrev pub nodes_at : ℕ → Tokens → Read (List ℤ)
nodes_at zero ts = Ok ([], ts)
nodes_at (suc n) ts = bind (node_at ts) (λ a. bind (nodes_at n a.1) (λ others. Ok (a.0 ∷ others.0, others.1)))

-- ---- forms

-- `bitvec w` or `array i e`
abbrev pub sort_form : Tokens → Read Shape
sort_form [] = Err Operand
sort_form (t ∷ ts) =
    if bytes_eq t (codes "bitvec") then bind (size_at ts) (λ w. Ok (shape.Bitvec w.0, w.1)) else
    if bytes_eq t (codes "array") then bind (sort_at ts) (λ i. bind (sort_at i.1) (λ e. Ok (shape.Array i.0 e.0, e.1))) else
    Err Operand

-- the form of each keyword
abbrev pub form : Keyword → Tokens → Read Shape
form key.Sort ts = sort_form ts
form key.Input ts = bind (sort_at ts) (λ s. Ok (shape.Input s.0, s.1))
form key.State ts = bind (sort_at ts) (λ s. Ok (shape.State s.0, s.1))
form key.Init ts = bind (two_at ts) (λ p. Ok (shape.Init p.0.0 p.0.1 p.0.2, p.1))
form key.Next ts = bind (two_at ts) (λ p. Ok (shape.Next p.0.0 p.0.1 p.0.2, p.1))
form key.Output ts = bind (node_at ts) (λ a. Ok (shape.Output a.0, a.1))
form key.Bad ts = bind (node_at ts) (λ a. Ok (shape.Bad a.0, a.1))
form key.Fair ts = bind (node_at ts) (λ a. Ok (shape.Fair a.0, a.1))
form key.Justice ts = bind (next_as positive ts) (λ n. bind (nodes_at n.0 n.1) (λ nodes. Ok (shape.Justice n.0 nodes.0, nodes.1)))
form key.Const ts = bind (constant_at ts) (λ c. Ok (shape.Const c.0.0 c.0.1, c.1))
form key.Constd ts = bind (constant_at ts) (λ c. Ok (shape.Constd c.0.0 c.0.1, c.1))
form key.Consth ts = bind (constant_at ts) (λ c. Ok (shape.Consth c.0.0 c.0.1, c.1))
form key.Zero ts = bind (sort_at ts) (λ s. Ok (shape.Zero s.0, s.1))
form key.One ts = bind (sort_at ts) (λ s. Ok (shape.One s.0, s.1))
form key.Ones ts = bind (sort_at ts) (λ s. Ok (shape.Ones s.0, s.1))
form (key.Un o) ts = bind (one_at ts) (λ a. Ok (shape.Un o a.0.0 a.0.1, a.1))
form (key.Bin o) ts = bind (two_at ts) (λ p. Ok (shape.Bin o p.0.0 p.0.1 p.0.2, p.1))
form key.Slice ts = bind (extension_at ts) (λ p. bind (size_at p.1) (λ l. Ok (shape.Slice p.0.0 p.0.1 p.0.2 l.0, l.1)))
form key.Uext ts = bind (extension_at ts) (λ p. Ok (shape.Uext p.0.0 p.0.1 p.0.2, p.1))
form key.Sext ts = bind (extension_at ts) (λ p. Ok (shape.Sext p.0.0 p.0.1 p.0.2, p.1))
form key.Ite ts = bind (three_at ts) (λ p. Ok (shape.Ite p.0.0 p.0.1 p.0.2 p.0.3, p.1))
form key.Read ts = bind (two_at ts) (λ p. Ok (shape.Read p.0.0 p.0.1 p.0.2, p.1))
form key.Write ts = bind (three_at ts) (λ p. Ok (shape.Write p.0.0 p.0.1 p.0.2 p.0.3, p.1))

-- the symbol at the end of a line, which is empty where there is none
abbrev pub symbol_of : Tokens → Result (List ℕ) Why
symbol_of [] = Ok []
symbol_of (t ∷ []) = Ok t
symbol_of (t ∷ u ∷ ts) = Err Operand
