-- Choices one of whose terms is a choice that has the other.
use Rattle.std.proofs.Common.{◌≡◌, ◌==◌, ℕ, zero, suc, ◌^◌, ◌<◌, ◌≤◌, List, [], length, take, slice_get, Some, refl, sym, ap, ◌∙◌, subst, arith, bit_and, bit_or, if◌then◌else◌}
use Rattle.std.proofs.lemmas.List.{length-take-le}
use Rattle.knox_words.specs.Bits.{Bits, IsWord}
use Rattle.knox_words.specs.Ops.{op2_or}
use Rattle.knox_words.specs.declared.op.Op2.TheVariants.{And, Or}
use Rattle.knox_words.proofs.Results.{op2_or-value}
use Rattle.term_graph.specs.declared.node.Node.{Node}
use Rattle.term_graph.specs.declared.node.Node.TheVariants as node
use Rattle.term_graph.specs.Built.{IsBuilt}
use Rattle.term_graph.specs.Value.{value, width_of, ite_or}
use Rattle.term_graph.specs.Kept.{Keeps, Gives}
use Rattle.term_graph.specs.Rules.{IsChoice}
use Rattle.term_graph.proofs.ValueLemmas.{value-node, value-taken}
use Rattle.term_graph.proofs.FoldLemmas.{gives-same, chosen, alike, width-ite}
use Rattle.term_graph.proofs.WidthLemmas.{value-width, value-IsWord}

pub is-choice : (ns : List Node) (t d x y : ℕ) → IsBuilt ns → slice_get ns t ≡ Some (node.Ite d x y) → t < length ns → IsChoice ns t d x y
is-choice ns t d x y built e h =
    let next = built.each t (node.Ite d x y) e in
    let le : t ≤ length ns = omega arith in
    let long : length (take t ns) ≡ t = length-take-le t ns le in
    let old : (s : ℕ) → s < t → width_of (take t ns) s ≡ width_of ns s = (λ s lt. ap (λ (b : Bits). b.width) (value-taken [] ns t s lt le)) in
    let ld : d < t = omega (arith, next.below.0) in
    let lx : x < t = omega (arith, next.below.1) in
    let ly : y < t = omega (arith, next.below.2) in
    let same : width_of ns x ≡ width_of ns y = sym (old x lx) ∙ (next.fits.1 ∙ old y ly) in
    record {
      condition = omega arith;
      first = omega arith;
      second = omega arith;
      bit = sym (old d ld) ∙ next.fits.0;
      same = same;
      wide = width-ite (value [] ns d) (value [] ns x) (value [] ns y) same ∙ ap (λ (b : Bits). b.width) (sym (value-node [] ns t (node.Ite d x y) built e));
      is = λ v. value-node v ns t (node.Ite d x y) built e;
    }

module _ (x y : Bits) where
  both : (m n : ℕ) → m < 2 → n < 2 → (if bit_and m n == 1 then x else y) ≡ (if m == 1 then (if n == 1 then x else y) else y)
  both zero zero p q = refl
  both zero (suc zero) p q = refl
  both (suc zero) zero p q = refl
  both (suc zero) (suc zero) p q = refl
  both (suc (suc m)) n p q = absurd (omega arith)
  both m (suc (suc n)) p q = absurd (omega arith)

  either : (m n : ℕ) → m < 2 → n < 2 → (if bit_or m n == 1 then x else y) ≡ (if m == 1 then x else (if n == 1 then x else y))
  either zero zero p q = refl
  either zero (suc zero) p q = refl
  either (suc zero) zero p q = refl
  either (suc zero) (suc zero) p q = refl
  either (suc (suc m)) n p q = absurd (omega arith)
  either m (suc (suc n)) p q = absurd (omega arith)

module _ (c d x y : Bits) (wc : IsWord c) (wd : IsWord d) (bc : c.width ≡ 1) (bd : d.width ≡ 1) (same : x.width ≡ y.width) where
  low : (b : Bits) → IsWord b → b.width ≡ 1 → b.value < 2
  low b is w = subst (λ (k : ℕ). b.value < 2 ^ k) w is.fits

  joint-and : ite_or (op2_or And c d) x y ≡ ite_or c (ite_or d x y) y
  joint-and =
      chosen (op2_or And c d) x y same
      ∙ (ap (λ (b : Bits). if b.value == 1 then x else y) (op2_or-value And c d (rw (bc, bd) refl))
      ∙ (both x y c.value d.value (low c wc bc) (low d wd bd)
      ∙ sym (chosen c (ite_or d x y) y (sym (width-ite d x y same) ∙ same) ∙ ap (λ (b : Bits). if c.value == 1 then b else y) (chosen d x y same))))

  joint-or : ite_or (op2_or Or c d) x y ≡ ite_or c x (ite_or d x y)
  joint-or =
      chosen (op2_or Or c d) x y same
      ∙ (ap (λ (b : Bits). if b.value == 1 then x else y) (op2_or-value Or c d (rw (bc, bd) refl))
      ∙ (either x y c.value d.value (low c wc bc) (low d wd bd)
      ∙ sym (chosen c x (ite_or d x y) (width-ite d x y same) ∙ ap (λ (b : Bits). if c.value == 1 then x else b) (chosen d x y same))))

module _ (old : List Node) (c d x y : ℕ) (bc : width_of old c ≡ 1) where
  pub gives-and : (new : List Node) (t a b : ℕ) → IsChoice old a d x y → y ≡ b → Gives new t (λ v. ite_or (op2_or And (value v old c) (value v old d)) (value v old x) (value v old y)) → Gives new t (λ v. ite_or (value v old c) (value v old a) (value v old b))
  gives-and new t a b n e g = gives-same new t _ _ g (λ v.
      joint-and (value v old c) (value v old d) (value v old x) (value v old y) (value-IsWord v old c) (value-IsWord v old d) (value-width v old c ∙ bc) (value-width v old d ∙ n.bit) (alike old x y n.same v)
      ∙ (ap (λ (z : Bits). ite_or (value v old c) z (value v old y)) (sym (n.is v)) ∙ ap (λ (k : ℕ). ite_or (value v old c) (value v old a) (value v old k)) e))

  pub gives-or : (new : List Node) (t a b : ℕ) → IsChoice old b d x y → x ≡ a → Gives new t (λ v. ite_or (op2_or Or (value v old c) (value v old d)) (value v old x) (value v old y)) → Gives new t (λ v. ite_or (value v old c) (value v old a) (value v old b))
  gives-or new t a b n e g = gives-same new t _ _ g (λ v.
      joint-or (value v old c) (value v old d) (value v old x) (value v old y) (value-IsWord v old c) (value-IsWord v old d) (value-width v old c ∙ bc) (value-width v old d ∙ n.bit) (alike old x y n.same v)
      ∙ (ap (ite_or (value v old c) (value v old x)) (sym (n.is v)) ∙ ap (λ (k : ℕ). ite_or (value v old c) (value v old k) (value v old b)) e))

pub gives-joint : (old mid new : List Node) (t e a b : ℕ) (f : List Bits → Bits) → Keeps old mid → a < length old → b < length old → Gives mid e f → Gives new t (λ v. ite_or (value v mid e) (value v mid a) (value v mid b)) → Gives new t (λ v. ite_or (f v) (value v old a) (value v old b))
gives-joint old mid new t e a b f keeps ha hb made g = gives-same new t _ _ g (λ v.
    ap (λ (z : Bits). ite_or z (value v mid a) (value v mid b)) (made.gives v)
    ∙ (ap (λ (z : Bits). ite_or (f v) z (value v mid b)) (keeps.values v a ha) ∙ ap (ite_or (f v) (value v old a)) (keeps.values v b hb)))
