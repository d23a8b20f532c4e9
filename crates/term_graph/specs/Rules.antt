-- The rules by which an operator on two terms is simplified, as tables. No public clause cites them: every value stays as it is.
-- The project's own.
use Rattle.std.specs.Prelude.{ℕ, ◌≡◌, ◌==◌, ◌<◌, ◌-◌, ◌^◌, List, [], length, Bool, true, false, Option, Some, None, if◌then◌else◌}
use Rattle.std.specs.Option.{ForSome}
use Rattle.knox_words.specs.Bits.{Bits, word_or}
use Rattle.knox_words.specs.Ops.{op1_value, op2_or, fits2_of, sext_or, uext_or, slice_or}
use Rattle.knox_words.specs.declared.op.Op1.{Op1}
use Rattle.knox_words.specs.declared.op.Op1.TheVariants.{Not, Neg, Inc, Dec}
use Rattle.knox_words.specs.declared.op.Op2.{Op2}
use Rattle.knox_words.specs.declared.op.Op2.TheVariants as op2
use Rattle.term_graph.specs.declared.node.Node.{Node}
use Rattle.term_graph.specs.declared.rules.Rule.{Rule}
use Rattle.term_graph.specs.declared.rules.Rule.TheVariants.{Itself, Turned, Word}
use Rattle.term_graph.specs.Value.{value, width_of, ite_or}

-- what a term becomes by a rule
abbrev pub ruled : Rule → Bits → Bits
ruled Itself x = x
ruled Turned x = op1_value Not x
ruled (Word w) x = w

-- whether an operator undoes another on every word
abbrev pub undoes : Op1 → Op1 → Bool
undoes Not Not = true
undoes Neg Neg = true
undoes Inc Dec = true
undoes Dec Inc = true
undoes _ _ = false

-- whether an operator has the same value on its operands in the other order
abbrev pub is_commutative : Op2 → Bool
is_commutative op2.Iff = true
is_commutative op2.Eq = true
is_commutative op2.Neq = true
is_commutative op2.And = true
is_commutative op2.Nand = true
is_commutative op2.Nor = true
is_commutative op2.Or = true
is_commutative op2.Xnor = true
is_commutative op2.Xor = true
is_commutative op2.Add = true
is_commutative op2.Mul = true
is_commutative _ = false

-- of a term of width w and itself
abbrev pub same_rule : Op2 → ℕ → Option Rule
same_rule op2.And w = Some Itself
same_rule op2.Or w = Some Itself
same_rule op2.Nand w = Some Turned
same_rule op2.Nor w = Some Turned
same_rule op2.Xor w = Some (Word (word_or w 0))
same_rule op2.Sub w = Some (Word (word_or w 0))
same_rule op2.Xnor w = Some (Word (op1_value Not (word_or w 0)))
same_rule op2.Iff w = Some (Word (word_or 1 1))
same_rule op2.Implies w = Some (Word (word_or 1 1))
same_rule op2.Eq w = Some (Word (word_or 1 1))
same_rule op2.Ugte w = Some (Word (word_or 1 1))
same_rule op2.Ulte w = Some (Word (word_or 1 1))
same_rule op2.Sgte w = Some (Word (word_or 1 1))
same_rule op2.Slte w = Some (Word (word_or 1 1))
same_rule op2.Neq w = Some (Word (word_or 1 0))
same_rule op2.Ugt w = Some (Word (word_or 1 0))
same_rule op2.Ult w = Some (Word (word_or 1 0))
same_rule op2.Sgt w = Some (Word (word_or 1 0))
same_rule op2.Slt w = Some (Word (word_or 1 0))
same_rule _ w = None

-- the first where a word is zero, and the second where it is all ones
abbrev pub at_ends : Bits → Option Rule → Option Rule → Option Rule
at_ends c p q = if c.value == 0 then p else if (op1_value Not c).value == 0 then q else None

-- the same, of a word of width 1
abbrev pub at_bit : Bits → Option Rule → Option Rule → Option Rule
at_bit c p q = if c.width == 1 then at_ends c p q else None

-- the first where a word is 1, and else the second
abbrev pub at_one : Bits → Rule → Option Rule → Option Rule
at_one c p q = if c.value == 1 then Some p else q

-- where a word is the least of its width, read with a sign
abbrev pub at_least : Bits → Rule → Option Rule
at_least c p = if c.value == 2 ^ (c.width - 1) then Some p else None

-- where a word is the greatest of its width, read with a sign, so that the word with every bit turned is the least
abbrev pub at_greatest : Bits → Rule → Option Rule
at_greatest c p = at_least (op1_value Not c) p

-- of a word and a term of the same width
abbrev pub first_rule : Op2 → Bits → Option Rule
first_rule op2.And c = at_ends c (Some (Word c)) (Some Itself)
first_rule op2.Or c = at_ends c (Some Itself) (Some (Word c))
first_rule op2.Xor c = at_ends c (Some Itself) (Some Turned)
first_rule op2.Nand c = at_ends c (Some (Word (op1_value Not c))) (Some Turned)
first_rule op2.Nor c = at_ends c (Some Turned) (Some (Word (op1_value Not c)))
first_rule op2.Xnor c = at_ends c (Some Turned) (Some Itself)
first_rule op2.Add c = at_ends c (Some Itself) None
first_rule op2.Mul c = at_one c Itself (at_ends c (Some (Word c)) None)
first_rule op2.Sll c = at_ends c (Some (Word c)) None
first_rule op2.Srl c = at_ends c (Some (Word c)) None
first_rule op2.Implies c = at_ends c (Some (Word (word_or 1 1))) (Some Itself)
first_rule op2.Ult c = at_ends c None (Some (Word (word_or 1 0)))
first_rule op2.Ulte c = at_ends c (Some (Word (word_or 1 1))) None
first_rule op2.Ugt c = at_ends c (Some (Word (word_or 1 0))) None
first_rule op2.Ugte c = at_ends c None (Some (Word (word_or 1 1)))
first_rule op2.Slt c = at_greatest c (Word (word_or 1 0))
first_rule op2.Slte c = at_least c (Word (word_or 1 1))
first_rule op2.Sgt c = at_least c (Word (word_or 1 0))
first_rule op2.Sgte c = at_greatest c (Word (word_or 1 1))
first_rule op2.Iff c = at_ends c (Some Turned) (Some Itself)
first_rule op2.Eq c = at_bit c (Some Turned) (Some Itself)
first_rule op2.Neq c = at_bit c (Some Itself) (Some Turned)
first_rule _ c = None

-- of a term and a word of the same width
abbrev pub second_rule : Op2 → Bits → Option Rule
second_rule op2.Sub c = at_ends c (Some Itself) None
second_rule op2.Sll c = at_ends c (Some Itself) None
second_rule op2.Srl c = at_ends c (Some Itself) None
second_rule op2.Implies c = at_ends c (Some Turned) (Some (Word c))
second_rule op2.Ult c = at_ends c (Some (Word (word_or 1 0))) None
second_rule op2.Ulte c = at_ends c None (Some (Word (word_or 1 1)))
second_rule op2.Ugt c = at_ends c None (Some (Word (word_or 1 0)))
second_rule op2.Ugte c = at_ends c (Some (Word (word_or 1 1))) None
second_rule op2.Slt c = at_least c (Word (word_or 1 0))
second_rule op2.Slte c = at_greatest c (Word (word_or 1 1))
second_rule op2.Sgt c = at_greatest c (Word (word_or 1 0))
second_rule op2.Sgte c = at_least c (Word (word_or 1 1))
second_rule op2.Udiv c = at_one c Itself None
second_rule _ c = None

-- whether an operator asks whether two words are equal, or whether they differ
abbrev pub is_equality : Op2 → Bool
is_equality op2.Eq = true
is_equality op2.Neq = true
is_equality _ = false

-- what such an operator says of words that differ
abbrev pub apart : Op2 → Bits
apart op2.Neq = word_or 1 1
apart _ = word_or 1 0

-- a word in n bits more, read with its sign or without
abbrev pub lengthened : Bool → Bits → ℕ → Bits
lengthened signed d n = if signed then sext_or d n else uext_or d n

-- the word that is c in n bits more, if there is one
abbrev pub shortened : Bits → ℕ → Bool → Option Bits
shortened c n signed = if (lengthened signed (slice_or c (c.width - n - 1) 0) n).value == c.value then Some (slice_or c (c.width - n - 1) 0) else None

-- what such an operator says of a word, if there is one, and another
abbrev pub narrow_value : Op2 → Option Bits → Bits → Bits
narrow_value o None x = apart o
narrow_value o (Some d) x = op2_or o d x

-- an operator on two terms says the same of a word, if there is one, and another term
pub record Narrows (ns : List Node) (o : Op2) (a b : ℕ) (d : Option Bits) (x : ℕ) : Type 0 where
  pub within : x < length ns
  pub fits : ForSome d (λ y. fits2_of o y.width (width_of ns x) ≡ true)
  pub same : (v : List Bits) → narrow_value o d (value v ns x) ≡ op2_or o (value v ns a) (value v ns b)

-- a choice between two terms of width 1 is an operator on what a rule makes of the condition, and a term
pub record Chooses (ns : List Node) (c a b : ℕ) (o : Op2) (r : Rule) (x : ℕ) : Type 0 where
  pub within : x < length ns
  pub fits : fits2_of o (ruled r (value [] ns c)).width (width_of ns x) ≡ true
  pub same : (v : List Bits) → op2_or o (ruled r (value v ns c)) (value v ns x) ≡ ite_or (value v ns c) (value v ns a) (value v ns b)

-- a term is a choice between two others
pub record IsChoice (ns : List Node) (t d x y : ℕ) : Type 0 where
  pub condition : d < length ns
  pub first : x < length ns
  pub second : y < length ns
  pub bit : width_of ns d ≡ 1
  pub same : width_of ns x ≡ width_of ns y
  pub wide : width_of ns x ≡ width_of ns t
  pub is : (v : List Bits) → value v ns t ≡ ite_or (value v ns d) (value v ns x) (value v ns y)

-- a term that a rule takes to a value under each valuation
pub record Becomes (ns : List Node) (t : ℕ) (r : Rule) (f : List Bits → Bits) : Type 0 where
  pub each : (v : List Bits) → ruled r (value v ns t) ≡ f v
