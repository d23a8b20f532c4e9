-- Each operator has one name, and no name is an operator with one operand and one with two.
use Rattle.std.proofs.Common.{◌≡◌, ℕ, Bool, true, false, List, [], ◌∷◌, codes, Some, None, refl, sym, ◌∙◌, ap, subst, if◌then◌else◌}
use Rattle.std.specs.List.{AllByRecursion}
use Rattle.std.specs.Str.{bytes_eq}
use Rattle.std.proofs.lemmas.Option.{none-some, same_Some}
use Rattle.std.proofs.lemmas.Slice.Eq.{bytes_eq-Decides}
use Rattle.knox_words.specs.declared.op.Op1.{Op1}
use Rattle.knox_words.specs.declared.op.Op1.TheVariants as un
use Rattle.knox_words.specs.declared.op.Op2.{Op2}
use Rattle.knox_words.specs.declared.op.Op2.TheVariants as bin
use Rattle.operator_names.specs.Names.{named, op1_names, op2_names, op1_named, op2_named, IsNameOf}

-- a word that names x in a table of the names that a function gives is x's

named-by : {A : Type 0} (name : A → List ℕ) (table : List (List ℕ × A)) → AllByRecursion (λ e. e.0 ≡ name e.1) table → (word : List ℕ) (x : A) → named table word ≡ Some x → word ≡ name x
named-by name [] all word x h = absurd (none-some x h)
named-by name (e ∷ es) all word x h = by_test (bytes_eq word e.0) refl h (named-by name es all.1 word x)
  where
    by_test : (b : Bool) → bytes_eq word e.0 ≡ b → (if b then Some e.1 else named es word) ≡ Some x → (named es word ≡ Some x → word ≡ name x) → word ≡ name x
    by_test true q h more = (bytes_eq-Decides word e.0).0 q ∙ (all.0 ∙ ap name (same_Some e.1 x h))
    by_test false q h more = more h

only : {A : Type 0} (name : A → List ℕ) (table : List (List ℕ × A)) → ((x : A) → named table (name x) ≡ Some x) → AllByRecursion (λ e. e.0 ≡ name e.1) table → (x : A) → (word : List ℕ) × IsNameOf A table x word
only name table is all x = (name x, record { names = is x; alone = λ other h. named-by name table all other x h })

-- operators with one operand

abbrev name1 : Op1 → List ℕ
name1 un.Not = codes "not"
name1 un.Inc = codes "inc"
name1 un.Dec = codes "dec"
name1 un.Neg = codes "neg"
name1 un.Redand = codes "redand"
name1 un.Redor = codes "redor"
name1 un.Redxor = codes "redxor"

named1 : (o : Op1) → op1_named (name1 o) ≡ Some o
named1 un.Not = refl
named1 un.Inc = refl
named1 un.Dec = refl
named1 un.Neg = refl
named1 un.Redand = refl
named1 un.Redor = refl
named1 un.Redxor = refl

all1 : AllByRecursion (λ e. e.0 ≡ name1 e.1) op1_names
all1 = (refl, (refl, (refl, (refl, (refl, (refl, (refl, tt)))))))

pub op1_named-only : (o : Op1) → (word : List ℕ) × IsNameOf Op1 op1_names o word
op1_named-only = only name1 op1_names named1 all1

-- operators with two operands

abbrev name2 : Op2 → List ℕ
name2 bin.Iff = codes "iff"
name2 bin.Implies = codes "implies"
name2 bin.Eq = codes "eq"
name2 bin.Neq = codes "neq"
name2 bin.Ugt = codes "ugt"
name2 bin.Ugte = codes "ugte"
name2 bin.Ult = codes "ult"
name2 bin.Ulte = codes "ulte"
name2 bin.Sgt = codes "sgt"
name2 bin.Sgte = codes "sgte"
name2 bin.Slt = codes "slt"
name2 bin.Slte = codes "slte"
name2 bin.And = codes "and"
name2 bin.Nand = codes "nand"
name2 bin.Nor = codes "nor"
name2 bin.Or = codes "or"
name2 bin.Xnor = codes "xnor"
name2 bin.Xor = codes "xor"
name2 bin.Sll = codes "sll"
name2 bin.Srl = codes "srl"
name2 bin.Sra = codes "sra"
name2 bin.Rol = codes "rol"
name2 bin.Ror = codes "ror"
name2 bin.Add = codes "add"
name2 bin.Sub = codes "sub"
name2 bin.Mul = codes "mul"
name2 bin.Udiv = codes "udiv"
name2 bin.Sdiv = codes "sdiv"
name2 bin.Urem = codes "urem"
name2 bin.Srem = codes "srem"
name2 bin.Smod = codes "smod"
name2 bin.Concat = codes "concat"

named2 : (o : Op2) → op2_named (name2 o) ≡ Some o
named2 bin.Iff = refl
named2 bin.Implies = refl
named2 bin.Eq = refl
named2 bin.Neq = refl
named2 bin.Ugt = refl
named2 bin.Ugte = refl
named2 bin.Ult = refl
named2 bin.Ulte = refl
named2 bin.Sgt = refl
named2 bin.Sgte = refl
named2 bin.Slt = refl
named2 bin.Slte = refl
named2 bin.And = refl
named2 bin.Nand = refl
named2 bin.Nor = refl
named2 bin.Or = refl
named2 bin.Xnor = refl
named2 bin.Xor = refl
named2 bin.Sll = refl
named2 bin.Srl = refl
named2 bin.Sra = refl
named2 bin.Rol = refl
named2 bin.Ror = refl
named2 bin.Add = refl
named2 bin.Sub = refl
named2 bin.Mul = refl
named2 bin.Udiv = refl
named2 bin.Sdiv = refl
named2 bin.Urem = refl
named2 bin.Srem = refl
named2 bin.Smod = refl
named2 bin.Concat = refl

all2 : AllByRecursion (λ e. e.0 ≡ name2 e.1) op2_names
all2 = (refl, (refl, (refl, (refl, (refl, (refl, (refl, (refl, (refl, (refl, (refl, (refl, (refl, (refl, (refl, (refl, (refl, (refl, (refl, (refl, (refl, (refl, (refl, (refl, (refl, (refl, (refl, (refl, (refl, (refl, (refl, (refl, tt))))))))))))))))))))))))))))))))

pub op2_named-only : (o : Op2) → (word : List ℕ) × IsNameOf Op2 op2_names o word
op2_named-only = only name2 op2_names named2 all2

-- no name is in both tables

no_second : (o : Op1) → op2_named (name1 o) ≡ None
no_second un.Not = refl
no_second un.Inc = refl
no_second un.Dec = refl
no_second un.Neg = refl
no_second un.Redand = refl
no_second un.Redor = refl
no_second un.Redxor = refl

pub op1_named-op2_named : (word : List ℕ) (o : Op1) (p : Op2) → op1_named word ≡ Some o → op2_named word ≡ Some p → ⊥
op1_named-op2_named word o p h k =
    none-some p (sym (subst (λ (w : List ℕ). op2_named w ≡ None) (sym (named-by name1 op1_names all1 word o h)) (no_second o)) ∙ k)
