-- Chains of terms: how they are taken apart and put together.
use Rattle.std.proofs.Common.{◌≡◌, ◌==◌, ℕ, zero, suc, ◌-◌, ◌^◌, ◌<◌, ◌≤◌, true, List, [], length, take, slice_get, Some, refl, sym, ap, ◌∙◌, subst, arith, eqb-true}
use Rattle.std.specs.Cmp.{nat_eq_equiv}
use Rattle.std.proofs.lemmas.List.{length-take-le}
use Rattle.std.proofs.lemmas.Nat.{pow_pos}
use Rattle.knox_words.specs.Bits.{Bits, bits, IsWord, word_or}
use Rattle.knox_words.specs.Ops.{op1_value, op2_or, fits2_of}
use Rattle.knox_words.specs.declared.op.Op1.{Op1}
use Rattle.knox_words.specs.declared.op.Op1.TheVariants.{Not, Inc, Dec, Neg}
use Rattle.knox_words.specs.declared.op.Op2.{Op2}
use Rattle.knox_words.specs.declared.op.Op2.TheVariants.{Add, Sub, Mul, Sll}
use Rattle.knox_words.proofs.Results.{op2_or-value}
use Rattle.knox_words.proofs.Results.{op1_value-IsWord}
use Rattle.term_graph.specs.declared.node.Node.{Node}
use Rattle.term_graph.specs.declared.node.Node.TheVariants as node
use Rattle.term_graph.specs.declared.chain.Chain.{Chain}
use Rattle.term_graph.specs.declared.chain.Chain.TheVariants.{Sum, Product}
use Rattle.term_graph.specs.Value.{value, width_of}
use Rattle.term_graph.specs.Built.{IsBuilt}
use Rattle.term_graph.specs.Kept.{Keeps, Gives, IsAlways}
use Rattle.term_graph.specs.Chains.{operator, neutral, links, same_sign, unit_of, AreUnits, Splits, IsMultiple, IsOperand, AreAlike, Steps}
use Rattle.term_graph.proofs.ValueLemmas.{value-node, value-taken}
use Rattle.term_graph.proofs.BuiltLemmas.{word_or-same}
use Rattle.term_graph.proofs.WidthLemmas.{value-width, value-IsWord, op2_or-IsWord}
use Rattle.term_graph.proofs.FoldLemmas.{gives-same, keeps-on, keeps-within, keeps-width, undone-value}
use Rattle.term_graph.proofs.RuleLemmas.{word-is, or-commuted}
use Rattle.term_graph.proofs.RingLemmas.{op-width, op-turn, op-assoc, op-four, op-spread, op-spread_last, op-neutral, op-negative, op-opposite, op-less, op-next, op-previous, op-shifted, op-complement}

linked : (k : Chain) (o : Op2) → links k o ≡ true → o ≡ operator k
linked Sum Add e = refl
linked Product Mul e = refl
linked _ _ e = cc

fits-same : (k : Chain) (w v : ℕ) → fits2_of (operator k) w v ≡ true → w ≡ v
fits-same Sum w v h = eqb-true w v h
fits-same Product w v h = eqb-true w v h

pub same-fits : (k : Chain) (w v : ℕ) → w ≡ v → fits2_of (operator k) w v ≡ true
same-fits Sum w v e = subst (λ (n : ℕ). (w == n) ≡ true) e (nat_eq_equiv.refl w)
same-fits Product w v e = subst (λ (n : ℕ). (w == n) ≡ true) e (nat_eq_equiv.refl w)

-- a node that is a chain of its children

pub splits-linked : (ns : List Node) (k : Chain) (a x s : ℕ) (o : Op2) → IsBuilt ns → slice_get ns a ≡ Some (node.Bin o x s) → a < length ns → links k o ≡ true → Splits ns k a x s
splits-linked ns k a x s o built e h l =
    let next = built.each a (node.Bin o x s) e in
    let le : a ≤ length ns = omega arith in
    let long : length (take a ns) ≡ a = length-take-le a ns le in
    let old : (j : ℕ) → j < a → width_of (take a ns) j ≡ width_of ns j = (λ j lt. ap (λ (b : Bits). b.width) (value-taken [] ns a j lt le)) in
    let lx : x < a = omega (arith, next.below.0) in
    let ls : s < a = omega (arith, next.below.1) in
    let links_it : o ≡ operator k = linked k o l in
    let fit : fits2_of (operator k) (width_of (take a ns) x) (width_of (take a ns) s) ≡ true = subst (λ (p : Op2). fits2_of p (width_of (take a ns) x) (width_of (take a ns) s) ≡ true) links_it next.fits in
    let same : width_of ns x ≡ width_of ns s = sym (old x lx) ∙ (fits-same k (width_of (take a ns) x) (width_of (take a ns) s) fit ∙ old s ls) in
    let is : (v : List Bits) → value v ns a ≡ op2_or (operator k) (value v ns x) (value v ns s) =
    (λ v. value-node v ns a (node.Bin o x s) built e ∙ ap (λ (p : Op2). op2_or p (value v ns x) (value v ns s)) links_it) in
    let wide : width_of ns x ≡ width_of ns a = sym (ap (λ (b : Bits). b.width) (is []) ∙ op-width k (value [] ns x) (value [] ns s) same) in
    record {
      first = omega arith;
      last = omega arith;
      first_width = wide;
      last_width = sym same ∙ wide;
      is = is;
    }

alone : (ns : List Node) (k : Chain) (a u : ℕ) → a < length ns → u < length ns → IsAlways ns u (bits (width_of ns a) (neutral k)) → Splits ns k a u a
alone ns k a u h within unit = record {
  first = within;
  last = h;
  first_width = ap (λ (b : Bits). b.width) (unit.each []);
  last_width = refl;
  is = λ v. sym (ap (λ (x : Bits). op2_or (operator k) x (value v ns a)) (unit.each v) ∙ op-neutral (width_of ns a) k (value v ns a) (value-IsWord v ns a) (value-width v ns a));
}

pub splits-alone : (ns : List Node) (k : Chain) (a zero one : ℕ) → a < length ns → AreUnits ns (width_of ns a) zero one → Splits ns k a (unit_of k zero one) a
splits-alone ns Sum a z o h u = alone ns Sum a z h u.zero_within u.zeroes
splits-alone ns Product a z o h u = alone ns Product a o h u.one_within u.ones

pub units-kept : (old new : List Node) (w z o : ℕ) → Keeps old new → AreUnits old w z o → AreUnits new w z o
units-kept old new w z o keeps u = record {
  zero_within = keeps-within old new z keeps u.zero_within;
  one_within = keeps-within old new o keeps u.one_within;
  zeroes = record { each = λ v. keeps.values v z u.zero_within ∙ u.zeroes.each v };
  ones = record { each = λ v. keeps.values v o u.one_within ∙ u.ones.each v };
}

one_below : (w : ℕ) → 1 ≤ w → 1 < 2 ^ w
one_below zero h = absurd (omega arith)
one_below (suc w) h = let some : 0 < 2 ^ w = pow_pos w in grind arith

word_or-one : (w : ℕ) → 1 ≤ w → w ≤ 128 → word_or w 1 ≡ bits w 1
word_or-one w wide narrow = word_or-same (bits w 1) (record { wide = wide; narrow = narrow; fits = one_below w wide })

word_or-none : (w : ℕ) → 1 ≤ w → w ≤ 128 → word_or w 0 ≡ bits w 0
word_or-none w wide narrow = word_or-same (bits w 0) (record { wide = wide; narrow = narrow; fits = pow_pos w })

pub units-made : (mid new : List Node) (w z o : ℕ) → 1 ≤ w → w ≤ 128 → Gives mid z (λ v. word_or w 0) → Keeps mid new → Gives new o (λ v. word_or w 1) → AreUnits new w z o
units-made mid new w z o wide narrow first keeps second = record {
  zero_within = keeps-within mid new z keeps first.within;
  one_within = second.within;
  zeroes = record { each = λ v. keeps.values v z first.within ∙ (first.gives v ∙ word_or-none w wide narrow) };
  ones = record { each = λ v. second.gives v ∙ word_or-one w wide narrow };
}

-- words times terms

once : (x : Bits) → IsWord x → x ≡ op2_or Mul (bits x.width 1) x
once x is = sym (op-neutral x.width Product x is refl)

pub multiple-word : (ns : List Node) (t : ℕ) (c : Bits) (zero one : ℕ) → IsAlways ns t c → AreUnits ns (width_of ns t) zero one → IsMultiple ns t c one
multiple-word ns t c z o is u =
    let width : c.width ≡ width_of ns t = sym (ap (λ (b : Bits). b.width) (is.each [])) in
    let word : IsWord c = subst IsWord (is.each []) (value-IsWord [] ns t) in
    record {
      within = u.one_within;
      word = width;
      width = ap (λ (b : Bits). b.width) (u.ones.each []);
      is = λ v.
          is.each v
          ∙ (once c word
          ∙ (or-commuted Mul (bits c.width 1) c refl (nat_eq_equiv.refl c.width)
          ∙ ap (op2_or Mul c) (ap (λ (n : ℕ). bits n 1) width ∙ sym (u.ones.each v))));
    }

pub multiple-linked : (ns : List Node) (t f m : ℕ) (c : Bits) → Splits ns Product t f m → IsAlways ns f c → IsMultiple ns t c m
multiple-linked ns t f m c s is = record {
  within = s.last;
  word = sym (ap (λ (b : Bits). b.width) (is.each [])) ∙ s.first_width;
  width = s.last_width;
  is = λ v. s.is v ∙ ap (λ (x : Bits). op2_or Mul x (value v ns m)) (is.each v);
}

pub multiple-once : (ns : List Node) (t : ℕ) → t < length ns → IsMultiple ns t (word_or (width_of ns t) 1) t
multiple-once ns t h =
    let word : IsWord (value [] ns t) = value-IsWord [] ns t in
    let is : word_or (width_of ns t) 1 ≡ bits (width_of ns t) 1 = word_or-one (width_of ns t) word.wide word.narrow in
    record {
      within = h;
      word = ap (λ (b : Bits). b.width) is;
      width = refl;
      is = λ v.
          once (value v ns t) (value-IsWord v ns t)
          ∙ ap (λ (x : Bits). op2_or Mul x (value v ns t)) (ap (λ (n : ℕ). bits n 1) (value-width v ns t) ∙ sym is);
    }

signs : (o p : Op1) → same_sign o p ≡ true → p ≡ o
signs Not Not e = refl
signs Neg Neg e = refl
signs _ _ e = cc

sign-width : (o p : Op1) (x : Bits) → same_sign o p ≡ true → (op1_value o x).width ≡ x.width
sign-width Not Not x e = refl
sign-width Neg Neg x e = refl
sign-width _ _ x e = cc

pub operand-node : (ns : List Node) (o p : Op1) (t m : ℕ) → IsBuilt ns → slice_get ns t ≡ Some (node.Un p m) → t < length ns → same_sign o p ≡ true → IsOperand ns o t m
operand-node ns o p t m built e h same =
    let under : m < length (take t ns) = (built.each t (node.Un p m) e).below in
    let long : length (take t ns) ≡ t = length-take-le t ns (omega arith) in
    let is : (v : List Bits) → value v ns t ≡ op1_value o (value v ns m) =
    (λ v. value-node v ns t (node.Un p m) built e ∙ ap (λ (q : Op1). op1_value q (value v ns m)) (signs o p same)) in
    record {
      within = omega arith;
      width = sym (ap (λ (b : Bits). b.width) (is []) ∙ sign-width o p (value [] ns m) same);
      is = is;
    }

pub multiple-opposite : (ns : List Node) (t m n : ℕ) (c : Bits) → IsWord c → IsOperand ns Neg t m → IsMultiple ns m c n → IsMultiple ns t (op1_value Neg c) n
multiple-opposite ns t m n c word o is = record {
  within = is.within;
  word = is.word ∙ o.width;
  width = is.width ∙ o.width;
  is = λ v.
      o.is v
      ∙ (ap (op1_value Neg) (is.is v)
      ∙ sym (op-opposite (width_of ns m) c (value v ns n) word (value-IsWord v ns n) is.word (value-width v ns n ∙ is.width)));
}

-- the negative of a word's opposite times a term
pub gives-opposite : (old mid new : List Node) (m s t : ℕ) (c d : Bits) → d ≡ op1_value Neg c → IsWord c → c.width ≡ width_of old m → Gives mid s (λ v. op2_or Mul d (value v old m)) → Gives new t (λ v. op1_value Neg (value v mid s)) → Gives new t (λ v. op2_or Mul c (value v old m))
gives-opposite old mid new m s t c d e word same first g = gives-same new t _ _ g (λ v.
    ap (op1_value Neg) (first.gives v ∙ ap (λ (x : Bits). op2_or Mul x (value v old m)) e ∙ op-opposite c.width c (value v old m) word (value-IsWord v old m) refl (value-width v old m ∙ sym same))
    ∙ undone-value Neg Neg (op2_or Mul c (value v old m)) (op2_or-IsWord Mul c (value v old m) word (value-IsWord v old m)) refl)

pub alike-from : (ns : List Node) (k : Chain) (s u m n : ℕ) (c d : Bits) → links k Add ≡ true → IsMultiple ns s c m → IsMultiple ns u d n → m ≡ n → width_of ns s ≡ width_of ns u → AreAlike ns k s u (op2_or Add c d) m
alike-from ns Sum s u m n c d e p q same w = record {
  within = p.within;
  word = op-width Sum c d (p.word ∙ (w ∙ sym q.word)) ∙ p.word;
  width = p.width;
  is = λ v.
      (λ i. op2_or Add (p.is v i) ((q.is v ∙ ap (λ (j : ℕ). op2_or Mul d (value v ns j)) (sym same)) i))
      ∙ op-spread (width_of ns s) c d (value v ns m) p.word (q.word ∙ sym w) (value-width v ns m ∙ p.width);
}
alike-from ns Product s u m n c d e p q same w = cc

-- one step

module _ (ns : List Node) (k : Chain) (a b : ℕ) (same : width_of ns a ≡ width_of ns b) where
  width-at : (v : List Bits) (t : ℕ) (w : ℕ) → width_of ns t ≡ w → (value v ns t).width ≡ w
  width-at v t w e = value-width v ns t ∙ e

  pub steps-after : (x s : ℕ) → b < length ns → Splits ns k a x s → Steps ns ns k a b x b s
  steps-after x s h p = record {
    first = p.first;
    second = h;
    last = p.last;
    first_width = p.first_width;
    second_width = sym same;
    last_width = p.last_width;
    is = λ v.
        op-turn (width_of ns a) k (value v ns x) (value v ns b) (value v ns s) (width-at v x _ p.first_width) (width-at v b _ (sym same)) (width-at v s _ p.last_width)
        ∙ ap (λ (y : Bits). op2_or (operator k) y (value v ns b)) (sym (p.is v));
  }

  pub steps-before : (y u : ℕ) → a < length ns → Splits ns k b y u → Steps ns ns k a b a y u
  steps-before y u h q = record {
    first = h;
    second = q.first;
    last = q.last;
    first_width = refl;
    second_width = q.first_width ∙ sym same;
    last_width = q.last_width ∙ sym same;
    is = λ v.
        op-assoc (width_of ns a) k (value v ns a) (value v ns y) (value v ns u) (value-width v ns a) (width-at v y _ (q.first_width ∙ sym same)) (width-at v u _ (q.last_width ∙ sym same))
        ∙ ap (op2_or (operator k) (value v ns a)) (sym (q.is v));
  }

  pub steps-alike : (new : List Node) (x s y u m t : ℕ) (c : Bits) → Splits ns k a x s → Splits ns k b y u → AreAlike ns k s u c m → Keeps ns new → Gives new t (λ v. op2_or Mul c (value v ns m)) → Steps ns new k a b x y t
  steps-alike new x s y u m t c p q alike keeps made = record {
    first = keeps-within ns new x keeps p.first;
    second = keeps-within ns new y keeps q.first;
    last = made.within;
    first_width = keeps-width ns new x keeps p.first ∙ p.first_width;
    second_width = keeps-width ns new y keeps q.first ∙ (q.first_width ∙ sym same);
    last_width = ap (λ (z : Bits). z.width) (made.gives []) ∙ (op-width Product c (value [] ns m) (alike.word ∙ sym alike.width) ∙ (alike.word ∙ p.last_width));
    is = λ v.
        (λ i. op2_or (operator k) (op2_or (operator k) (keeps.values v x p.first i) (keeps.values v y q.first i)) ((made.gives v ∙ sym (alike.is v)) i))
        ∙ (op-four (width_of ns a) k (value v ns x) (value v ns y) (value v ns s) (value v ns u) (width-at v x _ p.first_width) (width-at v y _ (q.first_width ∙ sym same)) (width-at v s _ p.last_width) (width-at v u _ (q.last_width ∙ sym same))
        ∙ (λ i. op2_or (operator k) (sym (p.is v) i) (sym (q.is v) i)));
  }

-- the width of what a chain gives
pub chain-width : (old new : List Node) (k : Chain) (x y t : ℕ) → width_of old x ≡ width_of old y → Gives new t (λ v. op2_or (operator k) (value v old x) (value v old y)) → width_of new t ≡ width_of old x
chain-width old new k x y t same g = ap (λ (z : Bits). z.width) (g.gives []) ∙ op-width k (value [] old x) (value [] old y) same

-- a step, the chain of its first two terms, and then the last
pub gives-merged : (old mid far new : List Node) (k : Chain) (a b x y s r t : ℕ) → Steps old mid k a b x y s → Keeps mid far → Gives far r (λ v. op2_or (operator k) (value v mid x) (value v mid y)) → Gives new t (λ v. op2_or (operator k) (value v far r) (value v far s)) → Gives new t (λ v. op2_or (operator k) (value v old a) (value v old b))
gives-merged old mid far new k a b x y s r t step keeps rest g = gives-same new t _ _ g (λ v.
    (λ i. op2_or (operator k) (rest.gives v i) (keeps.values v s step.last i)) ∙ step.is v)

-- a product of two words times terms
pub gives-multiples : (old mid new : List Node) (a b m n p t : ℕ) (c d e : Bits) → e ≡ op2_or Mul c d → IsMultiple old a c m → IsMultiple old b d n → width_of old a ≡ width_of old b → Gives mid p (λ v. op2_or Mul (value v old m) (value v old n)) → Gives new t (λ v. op2_or Mul e (value v mid p)) → Gives new t (λ v. op2_or Mul (value v old a) (value v old b))
gives-multiples old mid new a b m n p t c d e is f g same made h = gives-same new t _ _ h (λ v.
    (λ i. op2_or Mul (is i) (made.gives v i))
    ∙ (op-four (width_of old a) Product c d (value v old m) (value v old n) f.word (g.word ∙ sym same) (value-width v old m ∙ f.width) (value-width v old n ∙ (g.width ∙ sym same))
    ∙ (λ i. op2_or Mul (sym (f.is v) i) (sym (g.is v) i))))

-- a product with a sum, from those with its parts

module _ (old mid far new : List Node) (p q t : ℕ) (first : Keeps old mid) (second : Keeps mid far) where
  both : (f g : List Bits → Bits) → Gives mid p f → Gives far q g → Gives new t (λ v. op2_or Add (value v far p) (value v far q)) → Gives new t (λ v. op2_or Add (f v) (g v))
  both f g made also h = gives-same new t _ _ h (λ v. (λ i. op2_or Add ((second.values v p made.within ∙ made.gives v) i) (also.gives v i)))

  pub gives-times : (a s x u : ℕ) → Splits old Sum a x u → s < length old → width_of old a ≡ width_of old s → Gives mid p (λ v. op2_or Mul (value v old x) (value v old s)) → Gives far q (λ v. op2_or Mul (value v mid u) (value v mid s)) → Gives new t (λ v. op2_or Add (value v far p) (value v far q)) → Gives new t (λ v. op2_or Mul (value v old a) (value v old s))
  gives-times a s x u parts h same made also g = gives-same new t _ _ (both _ _ made also g) (λ v.
      (λ i. op2_or Add (op2_or Mul (value v old x) (value v old s)) (op2_or Mul (first.values v u parts.last i) (first.values v s h i)))
      ∙ (op-spread (width_of old a) (value v old x) (value v old u) (value v old s) (value-width v old x ∙ parts.first_width) (value-width v old u ∙ parts.last_width) (value-width v old s ∙ sym same)
      ∙ ap (λ (z : Bits). op2_or Mul z (value v old s)) (sym (parts.is v))))

  pub gives-product : (a b y u : ℕ) → Splits old Sum b y u → a < length old → width_of old a ≡ width_of old b → Gives mid p (λ v. op2_or Mul (value v old a) (value v old y)) → Gives far q (λ v. op2_or Mul (value v mid a) (value v mid u)) → Gives new t (λ v. op2_or Add (value v far p) (value v far q)) → Gives new t (λ v. op2_or Mul (value v old a) (value v old b))
  gives-product a b y u parts h same made also g = gives-same new t _ _ (both _ _ made also g) (λ v.
      (λ i. op2_or Add (op2_or Mul (value v old a) (value v old y)) (op2_or Mul (first.values v a h i) (first.values v u parts.last i)))
      ∙ (op-spread_last (width_of old a) (value v old a) (value v old y) (value v old u) (value-width v old a) (value-width v old y ∙ (parts.first_width ∙ sym same)) (value-width v old u ∙ (parts.last_width ∙ sym same))
      ∙ ap (op2_or Mul (value v old a)) (sym (parts.is v))))

-- operators that are sums and products

ones-are : (w : ℕ) → 1 ≤ w → w ≤ 128 → op1_value Not (word_or w 0) ≡ bits w (2 ^ w - 1)
ones-are w wide narrow =
    let all : 2 ^ w - 1 - 0 ≡ 2 ^ w - 1 = omega arith in
    ap (op1_value Not) (word_or-none w wide narrow) ∙ ap (bits w) all

module _ (old mid new : List Node) (a t : ℕ) (keeps : Keeps old mid) (h : a < length old) where
  word : IsWord (value [] old a)
  word = value-IsWord [] old a

  pub gives-negated : (f : ℕ) → Gives mid f (λ v. op1_value Not (word_or (width_of old a) 0)) → Gives new t (λ v. op2_or Mul (value v mid f) (value v mid a)) → Gives new t (λ v. op1_value Neg (value v old a))
  gives-negated f ones g = gives-same new t _ _ g (λ v.
      (λ i. op2_or Mul ((ones.gives v ∙ ones-are (width_of old a) word.wide word.narrow) i) (keeps.values v a h i))
      ∙ sym (op-negative (width_of old a) (value v old a) (value-IsWord v old a) (value-width v old a)))

  pub gives-shifted : (f : ℕ) (c : Bits) → width_of old a ≡ c.width → Gives mid f (λ v. op2_or Sll (word_or c.width 1) c) → Gives new t (λ v. op2_or Mul (value v mid f) (value v mid a)) → Gives new t (λ v. op2_or Sll (value v old a) c)
  gives-shifted f c same power g = gives-same new t _ _ g (λ v.
      (λ i. op2_or Mul ((power.gives v ∙ ap (λ (x : Bits). op2_or Sll x c) (word_or-one c.width (subst (λ (n : ℕ). 1 ≤ n) same word.wide) (subst (λ (n : ℕ). n ≤ 128) same word.narrow))) i) (keeps.values v a h i))
      ∙ op-shifted c.width (value v old a) c (value-width v old a ∙ same) refl)

  -- a word that was made for it and a term
  pub gives-worded : (k : Chain) (f : ℕ) (c : Bits) → Gives mid f (λ v. c) → Gives new t (λ v. op2_or (operator k) (value v mid f) (value v mid a)) → Gives new t (λ v. op2_or (operator k) c (value v old a))
  gives-worded k f c made g = gives-same new t _ _ g (λ v. (λ i. op2_or (operator k) (made.gives v i) (keeps.values v a h i)))

pub gives-difference : (old mid new : List Node) (a b n t : ℕ) → Keeps old mid → a < length old → width_of old a ≡ width_of old b → Gives mid n (λ v. op1_value Neg (value v old b)) → Gives new t (λ v. op2_or Add (value v mid a) (value v mid n)) → Gives new t (λ v. op2_or Sub (value v old a) (value v old b))
gives-difference old mid new a b n t keeps h same made g = gives-same new t _ _ g (λ v.
    (λ i. op2_or Add (keeps.values v a h i) (made.gives v i))
    ∙ sym (op-less (width_of old a) (value v old a) (value v old b) (value-IsWord v old b) (value-width v old a) (value-width v old b ∙ sym same)))

pub gives-successor : (old new : List Node) (a t : ℕ) → Gives new t (λ v. op2_or Add (word_or (width_of old a) 1) (value v old a)) → Gives new t (λ v. op1_value Inc (value v old a))
gives-successor old new a t g =
    let word : IsWord (value [] old a) = value-IsWord [] old a in
    gives-same new t _ _ g (λ v.
    ap (λ (x : Bits). op2_or Add x (value v old a)) (word_or-one (width_of old a) word.wide word.narrow)
    ∙ sym (op-next (width_of old a) (value v old a) (value-IsWord v old a) (value-width v old a)))

pub gives-predecessor : (old new : List Node) (a t : ℕ) → Gives new t (λ v. op2_or Add (op1_value Not (word_or (width_of old a) 0)) (value v old a)) → Gives new t (λ v. op1_value Dec (value v old a))
gives-predecessor old new a t g =
    let word : IsWord (value [] old a) = value-IsWord [] old a in
    gives-same new t _ _ g (λ v.
    ap (λ (x : Bits). op2_or Add x (value v old a)) (ones-are (width_of old a) word.wide word.narrow)
    ∙ sym (op-previous (width_of old a) (value v old a) (value-IsWord v old a) (value-width v old a)))

pub gives-left_shift : (old new : List Node) (a b t : ℕ) (c : Bits) → IsAlways old b c → Gives new t (λ v. op2_or Sll (value v old a) c) → Gives new t (λ v. op2_or Sll (value v old a) (value v old b))
gives-left_shift old new a b t c is g = gives-same new t _ _ g (λ v. ap (op2_or Sll (value v old a)) (sym (is.each v)))

-- the terms 0 and 1 of a width behind changes of the graph

pub units-at : (old mid : List Node) (a u z o : ℕ) → Keeps old mid → AreUnits old (width_of old a) z o → u < length old → width_of old u ≡ width_of old a → AreUnits mid (width_of mid u) z o
units-at old mid a u z o keeps units h same =
    subst (λ (w : ℕ). AreUnits mid w z o) (sym (keeps-width old mid u keeps h ∙ same)) (units-kept old mid (width_of old a) z o keeps units)

pub product-width : (old mid far : List Node) (x s p a : ℕ) → Keeps mid far → Gives mid p (λ v. op2_or Mul (value v old x) (value v old s)) → width_of old x ≡ width_of old a → width_of old s ≡ width_of old a → width_of far p ≡ width_of old a
product-width old mid far x s p a keeps g wx ws = keeps-width mid far p keeps g.within ∙ (chain-width old mid Product x s p (wx ∙ sym ws) g ∙ wx)

pub later-width : (old mid far : List Node) (u s q a : ℕ) → Keeps old mid → u < length old → s < length old → Gives far q (λ v. op2_or Mul (value v mid u) (value v mid s)) → width_of old u ≡ width_of old a → width_of old s ≡ width_of old a → width_of far q ≡ width_of old a
later-width old mid far u s q a keeps hu hs g wu ws =
    let wide : width_of mid u ≡ width_of old a = keeps-width old mid u keeps hu ∙ wu in
    let same : width_of mid s ≡ width_of old a = keeps-width old mid s keeps hs ∙ ws in
    chain-width mid far Product u s q (wide ∙ sym same) g ∙ wide

pub units-far : (old mid far : List Node) (a p z o : ℕ) → Keeps old mid → Keeps mid far → AreUnits old (width_of old a) z o → width_of far p ≡ width_of old a → AreUnits far (width_of far p) z o
units-far old mid far a p z o first second units same =
    subst (λ (w : ℕ). AreUnits far w z o) (sym same) (units-kept mid far (width_of old a) z o second (units-kept old mid (width_of old a) z o first units))

-- the widths of words that are made

pub one-width : (ns : List Node) (a : ℕ) → (word_or (width_of ns a) 1).width ≡ width_of ns a
one-width ns a = let word : IsWord (value [] ns a) = value-IsWord [] ns a in ap (λ (b : Bits). b.width) (word_or-one (width_of ns a) word.wide word.narrow)

pub ones-width : (ns : List Node) (a : ℕ) → (op1_value Not (word_or (width_of ns a) 0)).width ≡ width_of ns a
ones-width ns a = let word : IsWord (value [] ns a) = value-IsWord [] ns a in ap (λ (b : Bits). b.width) (ones-are (width_of ns a) word.wide word.narrow)

pub power-width : (ns : List Node) (a : ℕ) (c : Bits) → width_of ns a ≡ c.width → (op2_or Sll (word_or c.width 1) c).width ≡ width_of ns a
power-width ns a c same =
    let one : (word_or c.width 1).width ≡ c.width = subst (λ (w : ℕ). (word_or w 1).width ≡ w) same (one-width ns a) in
    ap (λ (b : Bits). b.width) (op2_or-value Sll (word_or c.width 1) c (subst (λ (w : ℕ). (w == c.width) ≡ true) (sym one) (nat_eq_equiv.refl c.width))) ∙ (one ∙ sym same)

-- a word that was made beside a term of its width
pub made-alike : (old mid : List Node) (a f : ℕ) (c : Bits) → Keeps old mid → a < length old → c.width ≡ width_of old a → Gives mid f (λ v. c) → width_of mid f ≡ width_of mid a
made-alike old mid a f c keeps h same g = ap (λ (b : Bits). b.width) (g.gives []) ∙ (same ∙ sym (keeps-width old mid a keeps h))

pub keeps-through : (a b c d : List Node) → Keeps a b → Keeps b c → Keeps c d → Keeps a d
keeps-through a b c d p q r = keeps-on a b d p (keeps-on b c d q r)

-- complements

pub gives-complemented : (old mid new : List Node) (y n t : ℕ) → Gives mid n (λ v. op1_value Neg (value v old y)) → Gives new t (λ v. op1_value Dec (value v mid n)) → Gives new t (λ v. op1_value Not (value v old y))
gives-complemented old mid new y n t made g = gives-same new t _ _ g (λ v.
    ap (op1_value Dec) (made.gives v) ∙ op-complement (width_of old y) (value v old y) (value-IsWord v old y) (value-width v old y))

pub operand-sum : (ns : List Node) (t f n y : ℕ) (c : Bits) → Splits ns Sum t f n → IsAlways ns f c → (op1_value Not c).value ≡ 0 → IsOperand ns Neg n y → IsOperand ns Not t y
operand-sum ns t f n y c parts is ones o =
    let word : IsWord c = subst IsWord (is.each []) (value-IsWord [] ns f) in
    let below : c.value < 2 ^ c.width = word.fits in
    let width : c.width ≡ width_of ns y = sym (ap (λ (b : Bits). b.width) (is.each [])) ∙ (parts.first_width ∙ (sym parts.last_width ∙ sym o.width)) in
    let all : c ≡ bits (width_of ns y) (2 ^ width_of ns y - 1) = word-is c (width_of ns y) (2 ^ width_of ns y - 1) width (let top : c.value ≡ 2 ^ c.width - 1 = omega arith in top ∙ ap (λ (k : ℕ). 2 ^ k - 1) width) in
    record {
      within = o.within;
      width = o.width ∙ parts.last_width;
      is = λ v.
          parts.is v
          ∙ ((λ i. op2_or Add ((is.each v ∙ all) i) (o.is v i))
          ∙ (sym (op-previous (width_of ns y) (op1_value Neg (value v ns y)) (op1_value-IsWord Neg (value v ns y) (value-IsWord v ns y)) (value-width v ns y))
          ∙ op-complement (width_of ns y) (value v ns y) (value-IsWord v ns y) (value-width v ns y)));
    }

pub gives-operand : (old new : List Node) (o : Op1) (t y s : ℕ) → IsOperand old o t y → Gives new s (λ v. op1_value o (value v old y)) → Gives new s (λ v. value v old t)
gives-operand old new o t y s is g = gives-same new s _ _ g (λ v. sym (is.is v))

pub gives-itself : (ns : List Node) (t : ℕ) → t < length ns → Gives ns t (λ v. value v ns t)
gives-itself ns t h = record { within = h; gives = λ v. refl }

-- operands that were opened
pub gives-opened : (old mid far new : List Node) (o : Op2) (a b x y t : ℕ) → Keeps old mid → Keeps mid far → b < length old → Gives mid x (λ v. value v old a) → Gives far y (λ v. value v mid b) → Gives new t (λ v. op2_or o (value v far x) (value v far y)) → Gives new t (λ v. op2_or o (value v old a) (value v old b))
gives-opened old mid far new o a b x y t first second h gx gy g = gives-same new t _ _ g (λ v.
    (λ i. op2_or o ((second.values v x gx.within ∙ gx.gives v) i) ((gy.gives v ∙ first.values v b h) i)))

pub fits-opened : (old mid far : List Node) (o : Op2) (a b x y : ℕ) → Keeps old mid → Keeps mid far → b < length old → Gives mid x (λ v. value v old a) → Gives far y (λ v. value v mid b) → fits2_of o (width_of old a) (width_of old b) ≡ true → fits2_of o (width_of far x) (width_of far y) ≡ true
fits-opened old mid far o a b x y first second h gx gy e =
    (λ i. fits2_of o ((second.values [] x gx.within ∙ gx.gives []) i).width ((gy.gives [] ∙ first.values [] b h) i).width) ∙ e

pub gives-opened_one : (old mid new : List Node) (o : Op1) (a x t : ℕ) → Gives mid x (λ v. value v old a) → Gives new t (λ v. op1_value o (value v mid x)) → Gives new t (λ v. op1_value o (value v old a))
gives-opened_one old mid new o a x t made g = gives-same new t _ _ g (λ v. ap (op1_value o) (made.gives v))

pub gives-closed : (old mid new : List Node) (f : List Bits → Bits) (t s : ℕ) → Gives mid t f → Gives new s (λ v. value v mid t) → Gives new s f
gives-closed old mid new f t s made g = gives-same new s _ f g made.gives
