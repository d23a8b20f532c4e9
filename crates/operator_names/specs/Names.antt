-- The names of the operators on words, in circuits and in expressions.
-- Standard: BTOR2 (Niemetz, Preiner, Wolf and Biere, CAV 2018).
use Rattle.std.specs.Prelude.{◌≡◌, ℕ, if◌then◌else◌, List, [], ◌∷◌, codes, Option, Some, None}
use Rattle.std.specs.Str.{bytes_eq}
use Rattle.knox_words.specs.declared.op.Op1.{Op1}
use Rattle.knox_words.specs.declared.op.Op1.TheVariants as un
use Rattle.knox_words.specs.declared.op.Op2.{Op2}
use Rattle.knox_words.specs.declared.op.Op2.TheVariants as bin

-- what a word names by a table: what its first entry of that name has
abbrev pub named : {A : Type 0} → List (List ℕ × A) → List ℕ → Option A
named [] word = None
named (e ∷ es) word = if bytes_eq word e.0 then Some e.1 else named es word

-- operators with one operand
abbrev pub op1_names : List (List ℕ × Op1)
op1_names =
    (codes "not", un.Not) ∷ (codes "inc", un.Inc) ∷ (codes "dec", un.Dec) ∷ (codes "neg", un.Neg)
    ∷ (codes "redand", un.Redand) ∷ (codes "redor", un.Redor) ∷ (codes "redxor", un.Redxor) ∷ []

-- operators with two operands: comparisons, bit by bit, shifts and rotations, arithmetic
abbrev pub op2_names : List (List ℕ × Op2)
op2_names =
    (codes "iff", bin.Iff) ∷ (codes "implies", bin.Implies) ∷ (codes "eq", bin.Eq) ∷ (codes "neq", bin.Neq)
    ∷ (codes "ugt", bin.Ugt) ∷ (codes "ugte", bin.Ugte) ∷ (codes "ult", bin.Ult) ∷ (codes "ulte", bin.Ulte)
    ∷ (codes "sgt", bin.Sgt) ∷ (codes "sgte", bin.Sgte) ∷ (codes "slt", bin.Slt) ∷ (codes "slte", bin.Slte)
    ∷ (codes "and", bin.And) ∷ (codes "nand", bin.Nand) ∷ (codes "nor", bin.Nor)
    ∷ (codes "or", bin.Or) ∷ (codes "xnor", bin.Xnor) ∷ (codes "xor", bin.Xor)
    ∷ (codes "sll", bin.Sll) ∷ (codes "srl", bin.Srl) ∷ (codes "sra", bin.Sra) ∷ (codes "rol", bin.Rol) ∷ (codes "ror", bin.Ror)
    ∷ (codes "add", bin.Add) ∷ (codes "sub", bin.Sub) ∷ (codes "mul", bin.Mul)
    ∷ (codes "udiv", bin.Udiv) ∷ (codes "sdiv", bin.Sdiv) ∷ (codes "urem", bin.Urem)
    ∷ (codes "srem", bin.Srem) ∷ (codes "smod", bin.Smod) ∷ (codes "concat", bin.Concat) ∷ []

-- the operator that a word names
abbrev pub op1_named : List ℕ → Option Op1
op1_named word = named op1_names word

abbrev pub op2_named : List ℕ → Option Op2
op2_named word = named op2_names word

-- a word names an entry in a table, and no other word does
pub record IsNameOf (A : Type 0) (table : List (List ℕ × A)) (x : A) (word : List ℕ) : Type 0 where
  pub names : named table word ≡ Some x
  pub alone : (other : List ℕ) → named table other ≡ Some x → other ≡ word
