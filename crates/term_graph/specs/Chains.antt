-- Sums and products as chains, and the terms of which they are made. No public clause cites them: every value stays as it is.
-- The project's own.
use Rattle.std.specs.Prelude.{ℕ, ◌≡◌, ◌<◌, List, length, Bool, true, false}
use Rattle.knox_words.specs.Bits.{Bits, bits}
use Rattle.knox_words.specs.Ops.{op1_value, op2_or}
use Rattle.knox_words.specs.declared.op.Op1.{Op1}
use Rattle.knox_words.specs.declared.op.Op1.TheVariants.{Not, Neg}
use Rattle.knox_words.specs.declared.op.Op2.{Op2}
use Rattle.knox_words.specs.declared.op.Op2.TheVariants.{Add, Mul}
use Rattle.term_graph.specs.declared.node.Node.{Node}
use Rattle.term_graph.specs.declared.chain.Chain.{Chain}
use Rattle.term_graph.specs.declared.chain.Chain.TheVariants.{Sum, Product}
use Rattle.term_graph.specs.Value.{value, width_of}
use Rattle.term_graph.specs.Kept.{IsAlways}

abbrev pub operator : Chain → Op2
operator Sum = Add
operator Product = Mul

-- the number that a chain without terms is
abbrev pub neutral : Chain → ℕ
neutral Sum = 0
neutral Product = 1

-- whether an operator is that of a chain
abbrev pub links : Chain → Op2 → Bool
links Sum Add = true
links Product Mul = true
links _ _ = false

-- whether two operators are both the complement or both the negative
abbrev pub same_sign : Op1 → Op1 → Bool
same_sign Not Not = true
same_sign Neg Neg = true
same_sign _ _ = false

-- which of two terms a chain without terms is
abbrev pub unit_of : Chain → ℕ → ℕ → ℕ
unit_of Sum z o = z
unit_of Product z o = o

-- two terms are the words 0 and 1 of a width
pub record AreUnits (ns : List Node) (w zero one : ℕ) : Type 0 where
  pub zero_within : zero < length ns
  pub one_within : one < length ns
  pub zeroes : IsAlways ns zero (bits w 0)
  pub ones : IsAlways ns one (bits w 1)

-- a term is a chain of two others
pub record Splits (ns : List Node) (k : Chain) (a x s : ℕ) : Type 0 where
  pub first : x < length ns
  pub last : s < length ns
  pub first_width : width_of ns x ≡ width_of ns a
  pub last_width : width_of ns s ≡ width_of ns a
  pub is : (v : List Bits) → value v ns a ≡ op2_or (operator k) (value v ns x) (value v ns s)

-- a term is a word times another
pub record IsMultiple (ns : List Node) (t : ℕ) (c : Bits) (m : ℕ) : Type 0 where
  pub within : m < length ns
  pub word : c.width ≡ width_of ns t
  pub width : width_of ns m ≡ width_of ns t
  pub is : (v : List Bits) → value v ns t ≡ op2_or Mul c (value v ns m)

-- a term is an operator on another of its width
pub record IsOperand (ns : List Node) (o : Op1) (t m : ℕ) : Type 0 where
  pub within : m < length ns
  pub width : width_of ns m ≡ width_of ns t
  pub is : (v : List Bits) → value v ns t ≡ op1_value o (value v ns m)

-- a chain of two terms is a word times a term
pub record AreAlike (ns : List Node) (k : Chain) (s u : ℕ) (c : Bits) (m : ℕ) : Type 0 where
  pub within : m < length ns
  pub word : c.width ≡ width_of ns s
  pub width : width_of ns m ≡ width_of ns s
  pub is : (v : List Bits) → op2_or (operator k) (value v ns s) (value v ns u) ≡ op2_or Mul c (value v ns m)

-- a chain of two terms is that of two others, and a last term
pub record Steps (old new : List Node) (k : Chain) (a b x y s : ℕ) : Type 0 where
  pub first : x < length new
  pub second : y < length new
  pub last : s < length new
  pub first_width : width_of new x ≡ width_of old a
  pub second_width : width_of new y ≡ width_of old a
  pub last_width : width_of new s ≡ width_of old a
  pub is : (v : List Bits) → op2_or (operator k) (op2_or (operator k) (value v new x) (value v new y)) (value v new s) ≡ op2_or (operator k) (value v old a) (value v old b)
