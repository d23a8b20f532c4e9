-- Extensions and slices of terms: those that are the term itself, and words that are equal to an extension.
use Rattle.std.proofs.Common.{◌≡◌, ◌==◌, ℕ, ◌+◌, ◌-◌, ◌*◌, ◌/◌, ◌%◌, ◌^◌, ◌<◌, ◌≤◌, nat_lt, nat_le, Bool, true, false, Option, Some, None, List, [], length, take, slice_get, refl, sym, ap, ◌∙◌, subst, arith, add-zero, if◌then◌else◌, eqb-true, eq-eqb}
use Rattle.std.specs.Prelude.{pos, negsuc}
use Rattle.std.specs.Option.{ForSome}
use Rattle.std.specs.Cmp.{nat_eq_equiv}
use Rattle.std.proofs.lemmas.Bool.{le-leb, lt-ltb, and_from, eqb-false, ne_eqb}
use Rattle.std.proofs.lemmas.Bool.Decides.{same_from_decides, Decides-eqb, Decides-like}
use Rattle.std.proofs.lemmas.List.{length-take-le}
use Rattle.std.proofs.lemmas.Nat.{pow_pos, pow-add, mod-mul-add}
use Rattle.std.proofs.Math.Nat.{mod-eq_of_lt, div-one}
use Rattle.knox_words.specs.Bits.{Bits, bits, IsWord, truth}
use Rattle.knox_words.specs.Signs.{sg, rest}
use Rattle.knox_words.specs.Ops.{op2_or, fits2_of, sext_or, uext_or, slice_or, slice_value, sext_value, uext_value}
use Rattle.knox_words.specs.declared.op.Op2.{Op2}
use Rattle.knox_words.specs.declared.op.Op2.TheVariants as op2
use Rattle.knox_words.proofs.Masks.{below_more}
use Rattle.knox_words.proofs.Results.{op2_or-value}
use Rattle.term_graph.specs.declared.node.Node.{Node}
use Rattle.term_graph.specs.declared.node.Node.TheVariants as node
use Rattle.term_graph.specs.Value.{value, width_of}
use Rattle.term_graph.specs.Built.{IsBuilt}
use Rattle.term_graph.specs.Kept.{Keeps, Gives, IsAlways}
use Rattle.term_graph.specs.Rules.{is_equality, apart, lengthened, shortened, narrow_value, Narrows}
use Rattle.term_graph.proofs.ValueLemmas.{value-node, value-taken}
use Rattle.term_graph.proofs.FoldLemmas.{gives-same, width-sext, width-uext}
use Rattle.term_graph.proofs.RuleLemmas.{word-is}
use Rattle.term_graph.proofs.WidthLemmas.{value-width, value-IsWord}

-- a number read with a sign, modulo the same power
rest-sg : (w a : ℕ) → a < 2 ^ w → rest (sg w a) (2 ^ w) ≡ a
rest-sg w a h = by_test (nat_lt a (2 ^ (w - 1)))
  where
    by_test : (t : Bool) → rest (if t then pos a else negsuc (2 ^ w - 1 - a)) (2 ^ w) ≡ a
    by_test true = mod-eq_of_lt h
    by_test false =
        let less : 2 ^ w - 1 - a < 2 ^ w = omega arith in
        let back : 2 ^ w - 1 - (2 ^ w - 1 - a) ≡ a = omega arith in
        ap (λ (n : ℕ). 2 ^ w - 1 - n) (mod-eq_of_lt less) ∙ back

uext-none : (x : Bits) → IsWord x → uext_or x 0 ≡ x
uext-none x is =
    ap (λ (k : ℕ). if nat_le k 128 then bits k x.value else bits 1 0) (add-zero x.width)
    ∙ ap (λ (t : Bool). if t then bits x.width x.value else bits 1 0) (le-leb x.width 128 is.narrow)

sext-none : (x : Bits) → IsWord x → sext_or x 0 ≡ x
sext-none x is =
    ap (λ (k : ℕ). if nat_le k 128 then bits k (rest (sg x.width x.value) (2 ^ k)) else bits 1 0) (add-zero x.width)
    ∙ (ap (λ (t : Bool). if t then bits x.width (rest (sg x.width x.value) (2 ^ x.width)) else bits 1 0) (le-leb x.width 128 is.narrow)
    ∙ ap (bits x.width) (rest-sg x.width x.value is.fits))

-- the lowest bits of a word, of which there are h + 1
pub slice-low : (x : Bits) (h : ℕ) → h < x.width → slice_or x h 0 ≡ bits (h + 1) (x.value % 2 ^ (h + 1))
slice-low x h within =
    let high : h - 0 + 1 ≡ h + 1 = omega arith in
    ap (λ (t : Bool). if t then slice_value x h 0 else bits 1 0) (and_from (nat_le 0 h) (nat_lt h x.width) (le-leb 0 h (omega arith)) (lt-ltb h x.width within))
    ∙ (ap (λ (k : ℕ). bits k (x.value / 1 % 2 ^ k)) high ∙ ap (λ (n : ℕ). bits (h + 1) (n % 2 ^ (h + 1))) (div-one x.value))

slice-whole : (x : Bits) (h : ℕ) → IsWord x → h + 1 ≡ x.width → slice_or x h 0 ≡ x
slice-whole x h is e =
    let within : h < x.width = omega arith in
    slice-low x h within ∙ (ap (λ (k : ℕ). bits k (x.value % 2 ^ k)) e ∙ ap (bits x.width) (mod-eq_of_lt is.fits))

pub gives-uext_none : (ns : List Node) (a n : ℕ) → a < length ns → n ≡ 0 → Gives ns a (λ v. uext_or (value v ns a) n)
gives-uext_none ns a n h e = record {
  within = h;
  gives = λ v. sym (ap (uext_or (value v ns a)) e ∙ uext-none (value v ns a) (value-IsWord v ns a));
}

pub gives-sext_none : (ns : List Node) (a n : ℕ) → a < length ns → n ≡ 0 → Gives ns a (λ v. sext_or (value v ns a) n)
gives-sext_none ns a n h e = record {
  within = h;
  gives = λ v. sym (ap (sext_or (value v ns a)) e ∙ sext-none (value v ns a) (value-IsWord v ns a));
}

pub gives-slice_whole : (ns : List Node) (a h l : ℕ) → a < length ns → l ≡ 0 → h + 1 ≡ width_of ns a → Gives ns a (λ v. slice_or (value v ns a) h l)
gives-slice_whole ns a h l within z e = record {
  within = within;
  gives = λ v. sym (ap (slice_or (value v ns a) h) z ∙ slice-whole (value v ns a) h (value-IsWord v ns a) (e ∙ sym (value-width v ns a)));
}

-- a word and an extension

top : (m p k a : ℕ) → p ≡ m * (k + 1) → a < m → p - 1 - (m - 1 - a) ≡ k * m + a
top m p k a e h = omega arith

low-rest : (w n a : ℕ) → a < 2 ^ w → rest (sg w a) (2 ^ (w + n)) % 2 ^ w ≡ a
low-rest w n a h = by_test (nat_lt a (2 ^ (w - 1)))
  where
    by_test : (t : Bool) → rest (if t then pos a else negsuc (2 ^ w - 1 - a)) (2 ^ (w + n)) % 2 ^ w ≡ a
    by_test true = ap (λ (k : ℕ). k % 2 ^ w) (mod-eq_of_lt (below_more a w (w + n) h (omega arith))) ∙ mod-eq_of_lt h
    by_test false =
        let less : 2 ^ w - 1 - a < 2 ^ w = omega arith in
        let some : 0 < 2 ^ n = pow_pos n in
        let next : 2 ^ n ≡ 2 ^ n - 1 + 1 = omega arith in
        let whole : 2 ^ (w + n) ≡ 2 ^ w * (2 ^ n - 1 + 1) = pow-add 2 w n ∙ ap (λ (k : ℕ). 2 ^ w * k) next in
        ap (λ (k : ℕ). (2 ^ (w + n) - 1 - k) % 2 ^ w) (mod-eq_of_lt (below_more (2 ^ w - 1 - a) w (w + n) less (omega arith)))
        ∙ (ap (λ (k : ℕ). k % 2 ^ w) (top (2 ^ w) (2 ^ (w + n)) (2 ^ n - 1) a whole h) ∙ mod-mul-add (2 ^ n - 1) (2 ^ w) a h)

low-long : (signed : Bool) (y : Bits) (n : ℕ) → IsWord y → y.width + n ≤ 128 → (lengthened signed y n).value % 2 ^ y.width ≡ y.value
low-long true y n is fit = ap (λ (t : Bool). (if t then sext_value y n else bits 1 0).value % 2 ^ y.width) (le-leb (y.width + n) 128 fit) ∙ low-rest y.width n y.value is.fits
low-long false y n is fit = ap (λ (t : Bool). (if t then uext_value y n else bits 1 0).value % 2 ^ y.width) (le-leb (y.width + n) 128 fit) ∙ mod-eq_of_lt is.fits

width-long : (signed : Bool) (y : Bits) (n : ℕ) → y.width + n ≤ 128 → (lengthened signed y n).width ≡ y.width + n
width-long true y n fit = sym (width-sext y n fit)
width-long false y n fit = sym (width-uext y n fit)

-- what an operator that asks for equality makes of the test
abbrev said : Op2 → Bool → Bits
said op2.Neq t = truth (if t then false else true)
said _ t = truth t

fits-equality : (o : Op2) (w : ℕ) → is_equality o ≡ true → fits2_of o w w ≡ true
fits-equality op2.Eq w e = nat_eq_equiv.refl w
fits-equality op2.Neq w e = nat_eq_equiv.refl w
fits-equality _ w e = cc

said-value : (o : Op2) (a b : Bits) → is_equality o ≡ true → a.width ≡ b.width → op2_or o a b ≡ said o (a.value == b.value)
said-value op2.Eq a b e w = op2_or-value op2.Eq a b (eq-eqb a.width b.width w)
said-value op2.Neq a b e w = op2_or-value op2.Neq a b (eq-eqb a.width b.width w)
said-value _ a b e w = cc

said-apart : (o : Op2) → apart o ≡ said o false
said-apart op2.Neq = refl
said-apart _ = refl

same_test : (a b c d : ℕ) → (a ≡ b → c ≡ d) → (c ≡ d → a ≡ b) → (a == b) ≡ (c == d)
same_test a b c d p q = same_from_decides (a == b) (c == d) (Decides-eqb a b) (Decides-like (c == d) q p (Decides-eqb c d))

module _ (signed : Bool) (c y : Bits) (n : ℕ) (is : IsWord y) (fit : y.width + n ≤ 128) (wide : c.width ≡ y.width + n) where
  abbrev short : Bits
  short = slice_or c (c.width - n - 1) 0

  within : c.width - n - 1 < c.width
  within = let some : 1 ≤ y.width = is.wide in omega arith

  width-short : short.width ≡ y.width
  width-short = let some : 1 ≤ y.width = is.wide in ap (λ (x : Bits). x.width) (slice-low c (c.width - n - 1) within) ∙ omega arith

  short-is : c.value ≡ (lengthened signed y n).value → short ≡ y
  short-is e =
      let some : 1 ≤ y.width = is.wide in
      let all : c.width - n - 1 + 1 ≡ y.width = omega arith in
      slice-low c (c.width - n - 1) within
      ∙ (ap (λ (k : ℕ). bits k (c.value % 2 ^ k)) all ∙ ap (bits y.width) (ap (λ (m : ℕ). m % 2 ^ y.width) e ∙ low-long signed y n is fit))

  long-is : (lengthened signed short n).value ≡ c.value → short.value ≡ y.value → c.value ≡ (lengthened signed y n).value
  long-is back e = sym back ∙ ap (λ (x : Bits). (lengthened signed x n).value) (word-is short y.width y.value width-short e)

  pub same-shortened : (o : Op2) → is_equality o ≡ true → narrow_value o (shortened c n signed) y ≡ op2_or o c (lengthened signed y n)
  same-shortened o e = by_test ((lengthened signed short n).value == c.value) refl ∙ sym (said-value o c (lengthened signed y n) e (wide ∙ sym (width-long signed y n fit)))
    where
      by_test : (t : Bool) → ((lengthened signed short n).value == c.value) ≡ t → narrow_value o (if t then Some short else None) y ≡ said o (c.value == (lengthened signed y n).value)
      by_test true h =
          let back : (lengthened signed short n).value ≡ c.value = eqb-true (lengthened signed short n).value c.value h in
          said-value o short y e width-short
          ∙ ap (said o) (same_test short.value y.value c.value (lengthened signed y n).value (long-is back) (λ p. ap (λ (x : Bits). x.value) (short-is p)))
      by_test false h = said-apart o ∙ ap (said o) (sym (ne_eqb c.value (lengthened signed y n).value (λ p.
          eqb-false (lengthened signed short n).value c.value h (ap (λ (x : Bits). (lengthened signed x n).value) (short-is p) ∙ sym p))))

  pub fits-shortened : (o : Op2) → is_equality o ≡ true → ForSome (shortened c n signed) (λ d. fits2_of o d.width y.width ≡ true)
  fits-shortened o e = by_test ((lengthened signed short n).value == c.value)
    where
      by_test : (t : Bool) → ForSome (if t then Some short else None) (λ d. fits2_of o d.width y.width ≡ true)
      by_test true d p =
          let is : short ≡ d = cc in
          subst (λ (x : Bits). fits2_of o x.width y.width ≡ true) is (ap (λ (k : ℕ). fits2_of o k y.width) width-short ∙ fits-equality o y.width e)
      by_test false d p = cc

-- an equality of a word with an extension
narrows : (ns : List Node) (o : Op2) (a b x n : ℕ) (signed : Bool) (c : Bits) → is_equality o ≡ true → IsAlways ns a c → c.width ≡ width_of ns b → x < length ns → width_of ns x + n ≤ 128 → ((v : List Bits) → value v ns b ≡ lengthened signed (value v ns x) n) → Narrows ns o a b (shortened c n signed) x
narrows ns o a b x n signed c e is same within fit long = record {
  within = within;
  fits = fits-shortened signed c (value [] ns x) n (value-IsWord [] ns x) fit (wide []) o e;
  same = λ v.
      same-shortened signed c (value v ns x) n (value-IsWord v ns x) (rw (value-width v ns x) fit) (wide v) o e
      ∙ (ap (op2_or o c) (sym (long v)) ∙ ap (λ (y : Bits). op2_or o y (value v ns b)) (sym (is.each v)));
}
  where
    wide : (v : List Bits) → c.width ≡ (value v ns x).width + n
    wide v = same ∙ (sym (value-width v ns b) ∙ (ap (λ (y : Bits). y.width) (long v) ∙ width-long signed (value v ns x) n (rw (value-width v ns x) fit)))

-- what a graph says of an extension's child
child : (ns : List Node) (b x n : ℕ) → b < length ns → x < length (take b ns) → width_of (take b ns) x + n ≤ 128 → (x < length ns) × (width_of ns x + n ≤ 128)
child ns b x n h under fit =
    let le : b ≤ length ns = omega arith in
    let long : length (take b ns) ≡ b = length-take-le b ns le in
    let below : x < b = omega arith in
    (omega arith, subst (λ (y : Bits). y.width + n ≤ 128) (value-taken [] ns b x below le) fit)

pub narrows-uext : (ns : List Node) (o : Op2) (a b x n : ℕ) (c : Bits) → IsBuilt ns → slice_get ns b ≡ Some (node.Uext x n) → b < length ns → is_equality o ≡ true → IsAlways ns a c → c.width ≡ width_of ns b → Narrows ns o a b (shortened c n false) x
narrows-uext ns o a b x n c built at h e is same =
    let next = built.each b (node.Uext x n) at in
    let it = child ns b x n h next.below next.fits in
    narrows ns o a b x n false c e is same it.0 it.1 (λ v. value-node v ns b (node.Uext x n) built at)

pub narrows-sext : (ns : List Node) (o : Op2) (a b x n : ℕ) (c : Bits) → IsBuilt ns → slice_get ns b ≡ Some (node.Sext x n) → b < length ns → is_equality o ≡ true → IsAlways ns a c → c.width ≡ width_of ns b → Narrows ns o a b (shortened c n true) x
narrows-sext ns o a b x n c built at h e is same =
    let next = built.each b (node.Sext x n) at in
    let it = child ns b x n h next.below next.fits in
    narrows ns o a b x n true c e is same it.0 it.1 (λ v. value-node v ns b (node.Sext x n) built at)

pub gives-narrowed : (old new : List Node) (o : Op2) (a b t x : ℕ) (d : Option Bits) → Narrows old o a b d x → Gives new t (λ v. narrow_value o d (value v old x)) → Gives new t (λ v. op2_or o (value v old a) (value v old b))
gives-narrowed old new o a b t x d n g = gives-same new t _ _ g n.same

pub ruleset narrowing = (gives-narrowed)

-- a comparison with a word that was made for it
pub gives-compared : (old mid new : List Node) (o : Op2) (x y t : ℕ) (d : Bits) → Keeps old mid → x < length old → Gives mid y (λ v. d) → Gives new t (λ v. op2_or o (value v mid y) (value v mid x)) → Gives new t (λ v. op2_or o d (value v old x))
gives-compared old mid new o x y t d keeps within word g = gives-same new t _ _ g (λ v. ap (λ (z : Bits). op2_or o z (value v mid x)) (word.gives v) ∙ ap (op2_or o d) (keeps.values v x within))
