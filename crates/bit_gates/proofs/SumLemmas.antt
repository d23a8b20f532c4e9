-- The steps of a sum.
use Rattle.std.proofs.Common.{◌≡◌, ℕ, suc, ◌+◌, ◌*◌, ◌^◌, Bool, true, false, List, [], ◌∷◌, ◌++◌, append_assoc, length, slice_get, Some, ◌∙◌, ap, arith, if◌then◌else◌}
use Rattle.std.proofs.lemmas.List.{map-append}
use Rattle.std.proofs.lemmas.List.Elements.{All-push}
use Rattle.bit_gates.specs.declared.signal.Signal.{Signal}
use Rattle.bit_gates.specs.declared.signal.Gate.{Gate}
use Rattle.bit_gates.specs.Gates.{differ, signal_at, IsBelow}
use Rattle.bit_gates.specs.Grown.{Grows, Means}
use Rattle.bit_gates.specs.Words.{digit, number, Within}
use Rattle.bit_gates.specs.Sums.{sum_bit, carry_bit, add_bits, add_carry, Adds}
use Rattle.bit_gates.proofs.GrowthLemmas.{grows-on, means-kept}
use Rattle.bit_gates.proofs.WordLemmas.{drop-bits, all-at, within-grows, bits-kept}

-- three bits and a number
add-digits : (a b c : Bool) (n m s t : ℕ) → s + t ≡ n + m + digit (carry_bit a b c) → digit (sum_bit a b c) + 2 * s + 2 * t ≡ digit a + 2 * n + (digit b + 2 * m) + digit c
add-digits true true true n m s t e = omega arith
add-digits true true false n m s t e = omega arith
add-digits true false true n m s t e = omega arith
add-digits true false false n m s t e = omega arith
add-digits false true true n m s t e = omega arith
add-digits false true false n m s t e = omega arith
add-digits false false true n m s t e = omega arith
add-digits false false false n m s t e = omega arith

-- a sum of bits is the sum of the numbers
pub number-add_bits : (c : Bool) (xs ys : List Bool) → length xs ≡ length ys → number (add_bits c xs ys) + 2 ^ length xs * digit (add_carry c xs ys) ≡ number xs + number ys + digit c
number-add_bits c [] [] e = omega arith
number-add_bits c [] (y ∷ ys) e = absurd (omega arith)
number-add_bits c (x ∷ xs) [] e = absurd (omega arith)
number-add_bits c (x ∷ xs) (y ∷ ys) e =
    let h : number (add_bits (carry_bit x y c) xs ys) + 2 ^ length xs * digit (add_carry (carry_bit x y c) xs ys) ≡ number xs + number ys + digit (carry_bit x y c) = number-add_bits (carry_bit x y c) xs ys (omega arith) in
    let d = add-digits x y c (number xs) (number ys) (number (add_bits (carry_bit x y c) xs ys)) (2 ^ length xs * digit (add_carry (carry_bit x y c) xs ys)) h in
    let p : 2 ^ suc (length xs) ≡ 2 * 2 ^ length xs = omega arith in
    rw p (omega (arith, d))

-- one more place of a sum
pub adds-step : (first g h : List Gate) (a b : List Signal) (start c s d x y : Signal) (i : ℕ) (out new : List Signal) → Grows first g → Grows g h → Adds first a b start i g c out → slice_get a i ≡ Some x → slice_get b i ≡ Some y → Within first a → Within first b → Means h s (λ v. sum_bit (signal_at v g x) (signal_at v g y) (signal_at v g c)) → Means h d (λ v. carry_bit (signal_at v g x) (signal_at v g y) (signal_at v g c)) → new ≡ out ++ s ∷ [] → Adds first a b start (i + 1) h d new
adds-step first g h a b start c s d x y i out new p q adds ex ey wa wb ms md e = rw e (record {
  within = All-push (λ (l : Signal). IsBelow (length h) l) out s (within-grows g h out q adds.within) ms.within;
  carry = md.within;
  bits = λ v.
      let kx : signal_at v g x ≡ signal_at v first x = p.kept v x (all-at first a i x ex wa) in
      let ky : signal_at v g y ≡ signal_at v first y = p.kept v y (all-at first b i y ey wb) in
      let es : signal_at v h s ≡ sum_bit (signal_at v first x) (signal_at v first y) (signal_at v g c) = ms.means v ∙ three sum_bit kx ky in
      let ed : signal_at v h d ≡ carry_bit (signal_at v first x) (signal_at v first y) (signal_at v g c) = md.means v ∙ three carry_bit kx ky in
      let before = adds.bits v in
      let was = rw (drop-bits (signal_at v first) a i x ex, drop-bits (signal_at v first) b i y ey) at before in
      rw (map-append (signal_at v h) out (s ∷ []), bits-kept g h v out q adds.within, es, ed) (rw append_assoc was);
  last = λ v.
      let kx : signal_at v g x ≡ signal_at v first x = p.kept v x (all-at first a i x ex wa) in
      let ky : signal_at v g y ≡ signal_at v first y = p.kept v y (all-at first b i y ey wb) in
      let ed : signal_at v h d ≡ carry_bit (signal_at v first x) (signal_at v first y) (signal_at v g c) = md.means v ∙ three carry_bit kx ky in
      let before = adds.last v in
      let was = rw (drop-bits (signal_at v first) a i x ex, drop-bits (signal_at v first) b i y ey) at before in
      rw ed was;
})
  where
    three : {a b p q c : Bool} (f : Bool → Bool → Bool → Bool) → a ≡ p → b ≡ q → f a b c ≡ f p q c
    three {a} {b} {p} {q} {c} f e h = ap (λ (z : Bool). f z b c) e ∙ ap (λ (z : Bool). f p z c) h

pub sum-means : (g h i j : List Gate) (a b c half sum : Signal) → Grows g h → Grows i j → IsBelow (length g) c → Means h half (λ v. differ (signal_at v g a) (signal_at v g b)) → Means i sum (λ v. differ (signal_at v h half) (signal_at v h c)) → Means j sum (λ v. sum_bit (signal_at v g a) (signal_at v g b) (signal_at v g c))
sum-means g h i j a b c half sum p q within m n = means-kept i j sum (λ v. sum_bit (signal_at v g a) (signal_at v g b) (signal_at v g c)) q (record {
  within = n.within;
  means = λ v. n.means v ∙ (ap (λ (x : Bool). differ x (signal_at v h c)) (m.means v) ∙ ap (differ (differ (signal_at v g a) (signal_at v g b))) (p.kept v c within));
})

pub carry-means : (g h i j : List Gate) (a b c half carry : Signal) → Grows g h → Grows h i → IsBelow (length g) a → IsBelow (length g) c → Means h half (λ v. differ (signal_at v g a) (signal_at v g b)) → Means j carry (λ v. if signal_at v i half then signal_at v i c else signal_at v i a) → Means j carry (λ v. carry_bit (signal_at v g a) (signal_at v g b) (signal_at v g c))
carry-means g h i j a b c half carry p q wa wc m n = record {
  within = n.within;
  means = λ v.
      let pq : Grows g i = grows-on g h i p q in
      let e : signal_at v i half ≡ differ (signal_at v g a) (signal_at v g b) = q.kept v half m.within ∙ m.means v in
      let ea : signal_at v i a ≡ signal_at v g a = pq.kept v a wa in
      let ec : signal_at v i c ≡ signal_at v g c = pq.kept v c wc in
      n.means v ∙ chosen (signal_at v i half) (differ (signal_at v g a) (signal_at v g b)) (signal_at v i c) (signal_at v g c) (signal_at v i a) (signal_at v g a) e ec ea;
}
  where
    chosen : (x y c d e f : Bool) → x ≡ y → c ≡ d → e ≡ f → (if x then c else e) ≡ (if y then d else f)
    chosen x y c d e f p q r = cc
