-- Choices between terms of width 1 of which one is a word.
use Rattle.std.proofs.Common.{◌≡◌, ◌==◌, ℕ, zero, suc, ◌-◌, ◌^◌, ◌<◌, Bool, true, false, List, [], length, refl, sym, ap, ◌∙◌, subst, arith, bit_and, bit_or, if◌then◌else◌, eqb-true}
use Rattle.knox_words.specs.Bits.{Bits, bits}
use Rattle.knox_words.specs.Ops.{op1_value, op2_or, fits2_of}
use Rattle.knox_words.specs.declared.op.Op1.TheVariants.{Not}
use Rattle.knox_words.specs.declared.op.Op2.{Op2}
use Rattle.knox_words.specs.declared.op.Op2.TheVariants.{And, Or}
use Rattle.knox_words.proofs.Results.{op2_or-value}
use Rattle.term_graph.specs.declared.node.Node.{Node}
use Rattle.term_graph.specs.declared.rules.Rule.{Rule}
use Rattle.term_graph.specs.declared.rules.Rule.TheVariants.{Itself, Turned}
use Rattle.term_graph.specs.Value.{value, width_of, ite_or}
use Rattle.term_graph.specs.Kept.{Keeps, Gives, IsAlways}
use Rattle.term_graph.specs.Rules.{ruled, Chooses}
use Rattle.term_graph.proofs.FoldLemmas.{gives-same, chosen}
use Rattle.term_graph.proofs.RuleLemmas.{word-is}
use Rattle.term_graph.proofs.WidthLemmas.{value-width, value-IsWord}

-- tables of bits

last-and : (m n : ℕ) → m < 2 → n < 2 → bit_and m n ≡ (if m == 1 then n else 0)
last-and zero zero p q = refl
last-and zero (suc zero) p q = refl
last-and (suc zero) zero p q = refl
last-and (suc zero) (suc zero) p q = refl
last-and (suc (suc m)) n p q = absurd (omega arith)
last-and m (suc (suc n)) p q = absurd (omega arith)

last-or : (m n : ℕ) → m < 2 → n < 2 → bit_or (1 - m) n ≡ (if m == 1 then n else 1)
last-or zero zero p q = refl
last-or zero (suc zero) p q = refl
last-or (suc zero) zero p q = refl
last-or (suc zero) (suc zero) p q = refl
last-or (suc (suc m)) n p q = absurd (omega arith)
last-or m (suc (suc n)) p q = absurd (omega arith)

first-and : (m n : ℕ) → m < 2 → n < 2 → bit_and (1 - m) n ≡ (if m == 1 then 0 else n)
first-and zero zero p q = refl
first-and zero (suc zero) p q = refl
first-and (suc zero) zero p q = refl
first-and (suc zero) (suc zero) p q = refl
first-and (suc (suc m)) n p q = absurd (omega arith)
first-and m (suc (suc n)) p q = absurd (omega arith)

first-or : (m n : ℕ) → m < 2 → n < 2 → bit_or m n ≡ (if m == 1 then 1 else n)
first-or zero zero p q = refl
first-or zero (suc zero) p q = refl
first-or (suc zero) zero p q = refl
first-or (suc zero) (suc zero) p q = refl
first-or (suc (suc m)) n p q = absurd (omega arith)
first-or m (suc (suc n)) p q = absurd (omega arith)

-- a choice between words of width 1, by its numbers
choice-bits : (c a b : Bits) (m n : ℕ) → a.width ≡ 1 → b.width ≡ 1 → a.value ≡ m → b.value ≡ n → ite_or c a b ≡ bits 1 (if c.value == 1 then m else n)
choice-bits c a b m n wa wb va vb = chosen c a b (wa ∙ sym wb) ∙ by_test (c.value == 1)
  where
    by_test : (t : Bool) → (if t then a else b) ≡ bits 1 (if t then m else n)
    by_test true = word-is a 1 m wa va
    by_test false = word-is b 1 n wb vb

module _ (ns : List Node) (c a b : ℕ) (y : Bits) (bit : width_of ns c ≡ 1) (wa : width_of ns a ≡ 1) (wb : width_of ns b ≡ 1) where
  width-c : (v : List Bits) → (value v ns c).width ≡ 1
  width-c v = value-width v ns c ∙ bit

  width-a : (v : List Bits) → (value v ns a).width ≡ 1
  width-a v = value-width v ns a ∙ wa

  width-b : (v : List Bits) → (value v ns b).width ≡ 1
  width-b v = value-width v ns b ∙ wb

  below : (v : List Bits) (t : ℕ) → (value v ns t).width ≡ 1 → (value v ns t).value < 2
  below v t w = subst (λ (k : ℕ). (value v ns t).value < 2 ^ k) w (value-IsWord v ns t).fits

  one : (n : ℕ) → n < 2 → (n == 0) ≡ false → n ≡ 1
  one zero h e = cc
  one (suc zero) h e = refl
  one (suc (suc n)) h e = absurd (omega arith)

  fit : (o : Op2) (x : Bits) (t : ℕ) → fits2_of o 1 1 ≡ true → x.width ≡ 1 → width_of ns t ≡ 1 → fits2_of o x.width (width_of ns t) ≡ true
  fit o x t e p q = rw (p, q) e

  -- what an operator makes of two words of width 1
  and-bits : (x z : Bits) (m : ℕ) → x.width ≡ 1 → z.width ≡ 1 → x.value ≡ m → op2_or And x z ≡ bits 1 (bit_and m z.value)
  and-bits x z m p q e = op2_or-value And x z (rw (p, q) refl) ∙ (λ i. bits (p i) (bit_and (e i) z.value))

  or-bits : (x z : Bits) (m : ℕ) → x.width ≡ 1 → z.width ≡ 1 → x.value ≡ m → op2_or Or x z ≡ bits 1 (bit_or m z.value)
  or-bits x z m p q e = op2_or-value Or x z (rw (p, q) refl) ∙ (λ i. bits (p i) (bit_or (e i) z.value))

  turned : (v : List Bits) → (op1_value Not (value v ns c)).value ≡ 1 - (value v ns c).value
  turned v = ap (λ (k : ℕ). 2 ^ k - 1 - (value v ns c).value) (width-c v)

  pub chooses-last_zero : a < length ns → IsAlways ns b y → (y.value == 0) ≡ true → Chooses ns c a b And Itself a
  chooses-last_zero h is z = record {
    within = h;
    fits = fit And (value [] ns c) a refl (width-c []) wa;
    same = λ v.
        and-bits (value v ns c) (value v ns a) (value v ns c).value (width-c v) (width-a v) refl
        ∙ (ap (bits 1) (last-and (value v ns c).value (value v ns a).value (below v c (width-c v)) (below v a (width-a v)))
        ∙ sym (choice-bits (value v ns c) (value v ns a) (value v ns b) (value v ns a).value 0 (width-a v) (width-b v) refl (ap (λ (x : Bits). x.value) (is.each v) ∙ eqb-true y.value 0 z)));
  }

  pub chooses-last_one : a < length ns → IsAlways ns b y → (y.value == 0) ≡ false → Chooses ns c a b Or Turned a
  chooses-last_one h is z = record {
    within = h;
    fits = fit Or (op1_value Not (value [] ns c)) a refl (width-c []) wa;
    same = λ v.
        or-bits (op1_value Not (value v ns c)) (value v ns a) (1 - (value v ns c).value) (width-c v) (width-a v) (turned v)
        ∙ (ap (bits 1) (last-or (value v ns c).value (value v ns a).value (below v c (width-c v)) (below v a (width-a v)))
        ∙ sym (choice-bits (value v ns c) (value v ns a) (value v ns b) (value v ns a).value 1 (width-a v) (width-b v) refl (one (value v ns b).value (below v b (width-b v)) (ap (λ (x : Bits). x.value == 0) (is.each v) ∙ z))));
  }

  pub chooses-first_zero : b < length ns → IsAlways ns a y → (y.value == 0) ≡ true → Chooses ns c a b And Turned b
  chooses-first_zero h is z = record {
    within = h;
    fits = fit And (op1_value Not (value [] ns c)) b refl (width-c []) wb;
    same = λ v.
        and-bits (op1_value Not (value v ns c)) (value v ns b) (1 - (value v ns c).value) (width-c v) (width-b v) (turned v)
        ∙ (ap (bits 1) (first-and (value v ns c).value (value v ns b).value (below v c (width-c v)) (below v b (width-b v)))
        ∙ sym (choice-bits (value v ns c) (value v ns a) (value v ns b) 0 (value v ns b).value (width-a v) (width-b v) (ap (λ (x : Bits). x.value) (is.each v) ∙ eqb-true y.value 0 z) refl));
  }

  pub chooses-first_one : b < length ns → IsAlways ns a y → (y.value == 0) ≡ false → Chooses ns c a b Or Itself b
  chooses-first_one h is z = record {
    within = h;
    fits = fit Or (value [] ns c) b refl (width-c []) wb;
    same = λ v.
        or-bits (value v ns c) (value v ns b) (value v ns c).value (width-c v) (width-b v) refl
        ∙ (ap (bits 1) (first-or (value v ns c).value (value v ns b).value (below v c (width-c v)) (below v b (width-b v)))
        ∙ sym (choice-bits (value v ns c) (value v ns a) (value v ns b) 1 (value v ns b).value (width-a v) (width-b v) (one (value v ns a).value (below v a (width-a v)) (ap (λ (x : Bits). x.value == 0) (is.each v) ∙ z)) refl));
  }

pub gives-chosen : (old new : List Node) (t c a b x : ℕ) (o : Op2) (r : Rule) → Chooses old c a b o r x → Gives new t (λ v. op2_or o (ruled r (value v old c)) (value v old x)) → Gives new t (λ v. ite_or (value v old c) (value v old a) (value v old b))
gives-chosen old new t c a b x o r is g = gives-same new t _ _ g is.same

pub ruleset choosing_bits = (gives-chosen)

-- an operator on what a rule made
pub gives-ruled : (old mid new : List Node) (t c d x : ℕ) (o : Op2) (r : Rule) → Keeps old mid → x < length old → Gives mid d (λ v. ruled r (value v old c)) → Gives new t (λ v. op2_or o (value v mid d) (value v mid x)) → Gives new t (λ v. op2_or o (ruled r (value v old c)) (value v old x))
gives-ruled old mid new t c d x o r keeps h made g = gives-same new t _ _ g (λ v. ap (λ (z : Bits). op2_or o z (value v mid x)) (made.gives v) ∙ ap (op2_or o (ruled r (value v old c))) (keeps.values v x h))

pub fits-ruled : (old mid : List Node) (c d x : ℕ) (o : Op2) (r : Rule) → Keeps old mid → x < length old → Gives mid d (λ v. ruled r (value v old c)) → fits2_of o (ruled r (value [] old c)).width (width_of old x) ≡ true → fits2_of o (width_of mid d) (width_of mid x) ≡ true
fits-ruled old mid c d x o r keeps h made e =
    ap (λ (k : ℕ). fits2_of o k (width_of mid x)) (ap (λ (y : Bits). y.width) (made.gives []))
    ∙ (ap (λ (k : ℕ). fits2_of o (ruled r (value [] old c)).width k) (ap (λ (y : Bits). y.width) (keeps.values [] x h)) ∙ e)
