-- What comparisons tell.
use Rattle.std.proofs.Common.{◌≡◌, ℕ, zero, suc, ◌+◌, ◌*◌, ◌<◌, ◌≤◌, ◌==◌, Bool, true, false, not, ◌&&◌, List, [], ◌∷◌, length, get_or, take, map, slice_get, Some, refl, sym, ◌∙◌, ap, subst, arith, eqb-true, eq-eqb, inl, inr, if◌then◌else◌, nat_le, nat_lt}
use Rattle.std.proofs.lemmas.Bool.{cases_Bool, ne_eqb, eqb-false}
use Rattle.std.proofs.lemmas.Bool.Decides.{leb_tells}
use Rattle.std.proofs.lemmas.List.{take_all, length-map}
use Rattle.std.proofs.lemmas.List.Folds.{list_all_more}
use Rattle.std.proofs.lemmas.Option.{slice_get_within}
use Rattle.std.specs.List.{list_all}
use Rattle.knox_words.specs.Bits.{Bits, truth}
use Rattle.knox_words.specs.Ops.{op2_value}
use Rattle.knox_words.specs.declared.op.Op2.TheVariants as op2
use Rattle.bit_gates.specs.declared.signal.Signal.{Signal}
use Rattle.bit_gates.specs.declared.signal.Gate.{Gate}
use Rattle.bit_gates.specs.declared.pairs.Pair.TheVariants as pair
use Rattle.bit_gates.specs.Gates.{signal_at, gate_at, opposite}
use Rattle.bit_gates.specs.Grown.{Grows, Means}
use Rattle.bit_gates.specs.Words.{number, bits_at, word_of, Within, Spells, Tells}
use Rattle.bit_gates.specs.Pairs.{pair_bits}
use Rattle.bit_gates.specs.Sums.{add_carry}
use Rattle.bit_gates.proofs.GrowthLemmas.{signal-opposite, below-opposite}
use Rattle.bit_gates.proofs.WordLemmas.{all-at, same-lengths, bits-opposite}
use Rattle.bit_gates.proofs.NumberLemmas.{carry-tells}

bits-get : (f : Signal → Bool) (ls : List Signal) (i : ℕ) (x : Signal) (d : Bool) → slice_get ls i ≡ Some x → get_or (map f ls) i d ≡ f x
bits-get f [] i x d e = cc
bits-get f (l ∷ ls) zero x d e = let is : l ≡ x = cc in ap f is
bits-get f (l ∷ ls) (suc i) x d e = bits-get f ls i x d e

pub none-step : (first g h : List Gate) (a : List Signal) (i : ℕ) (x all l : Signal) → Grows first g → Within first a → slice_get a i ≡ Some x → Means g all (λ v. list_all not (take i (bits_at v first a))) → Means h l (λ v. signal_at v g all && signal_at v g (opposite x)) → Means h l (λ v. list_all not (take (i + 1) (bits_at v first a)))
none-step first g h a i x all l p wa ex m n = record {
  within = n.within;
  means = λ v.
      let lt : i < length (bits_at v first a) = (let k : i < length a = slice_get_within a i x ex in subst (λ (c : ℕ). i < c) (sym (length-map a (signal_at v first))) k) in
      let here : signal_at v g (opposite x) ≡ not (signal_at v first x) = signal-opposite (gate_at v g) x ∙ ap not (p.kept v x (all-at first a i x ex wa)) in
      n.means v ∙ ap (λ b. b && signal_at v g (opposite x)) (m.means v) ∙ ap (λ b. list_all not (take i (bits_at v first a)) && b) (here ∙ ap not (sym (bits-get (signal_at v first) a i x false ex)))
      ∙ sym (list_all_more not (bits_at v first a) i false lt);
}

pub none-start : (first g : List Gate) (a : List Signal) (all : Signal) → Means g all (λ v. true) → Means g all (λ v. list_all not (take 0 (bits_at v first a)))
none-start first g a all m = m

pub none-done : (first g : List Gate) (a : List Signal) (i : ℕ) (l : Signal) → length a ≤ i → Means g l (λ v. list_all not (take i (bits_at v first a))) → Means g l (λ v. list_all not (bits_at v first a))
none-done first g a i l h m = record {
  within = m.within;
  means = λ v. m.means v ∙ ap (list_all not) (take_all i (bits_at v first a) (subst (λ (c : ℕ). c ≤ i) (sym (length-map a (signal_at v first))) h));
}

eqb-double : (d n m : ℕ) → (d + 2 * n == d + 2 * m) ≡ (n == m)
eqb-double d n m = elim (cases_Bool (n == m)) [
  | inl e ↦ (let k : n ≡ m = eqb-true n m e in eq-eqb (d + 2 * n) (d + 2 * m) (omega arith) ∙ sym e)
  | inr e ↦ (let k : n ≡ m → ⊥ = eqb-false n m e in ne_eqb (d + 2 * n) (d + 2 * m) (λ q. k (omega arith)) ∙ sym e)
]

pub same-bits : (at : Signal → Bool) (xs ys : List Bool) → length xs ≡ length ys → list_all not (pair_bits at pair.Xor xs ys) ≡ (number xs == number ys)
same-bits at [] [] e = refl
same-bits at [] (y ∷ ys) e = absurd (omega arith)
same-bits at (x ∷ xs) [] e = absurd (omega arith)
same-bits at (true ∷ xs) (true ∷ ys) e = same-bits at xs ys (omega arith) ∙ sym (eqb-double 1 (number xs) (number ys))
same-bits at (false ∷ xs) (false ∷ ys) e = same-bits at xs ys (omega arith) ∙ sym (eqb-double 0 (number xs) (number ys))
same-bits at (true ∷ xs) (false ∷ ys) e = sym (ne_eqb (1 + 2 * number xs) (0 + 2 * number ys) (λ q. omega arith))
same-bits at (false ∷ xs) (true ∷ ys) e = sym (ne_eqb (0 + 2 * number xs) (1 + 2 * number ys) (λ q. omega arith))

pub equal-tells : (old mid new : List Gate) (a b apart : List Signal) (s : Signal) → length a ≡ length b → Spells mid apart (λ v. pair_bits (signal_at v old) pair.Xor (bits_at v old a) (bits_at v old b)) → Means new s (λ v. list_all not (bits_at v mid apart)) → Tells new s (λ v. op2_value op2.Eq (word_of v old a) (word_of v old b))
equal-tells old mid new a b apart s e p m = record {
  within = m.within;
  tells = λ v.
      ap truth (m.means v ∙ ap (list_all not) (p.bits v)
      ∙ same-bits (signal_at v old) (bits_at v old a) (bits_at v old b) (same-lengths (signal_at v old) a b e));
}

-- the complement of what a signal tells
tells-turned : (gs : List Gate) (s : Signal) (f : (ℕ → Bool) → Bits) (g : (ℕ → Bool) → Bool) → ((v : ℕ → Bool) → truth (not (signal_at v gs s)) ≡ truth (g v)) → Tells gs s f → Tells gs (opposite s) (λ v. truth (g v))
tells-turned gs s f g e t = record {
  within = below-opposite (length gs) s t.within;
  tells = λ v. ap truth (signal-opposite (gate_at v gs) s) ∙ e v;
}

truth-bit : (a b : Bool) → truth a ≡ truth b → a ≡ b
truth-bit true true e = refl
truth-bit false false e = refl
truth-bit true false e = let n : ◌≡◌ {A = ℕ} 1 0 = ap (λ (w : Bits). w.value) e in absurd (omega (arith, n))
truth-bit false true e = let n : ◌≡◌ {A = ℕ} 0 1 = ap (λ (w : Bits). w.value) e in absurd (omega (arith, n))

pub unequal-tells : (old new : List Gate) (a b : List Signal) (s r : Signal) → r ≡ opposite s → Tells new s (λ v. op2_value op2.Eq (word_of v old a) (word_of v old b)) → Tells new r (λ v. op2_value op2.Neq (word_of v old a) (word_of v old b))
unequal-tells old new a b s r e t = rw e (tells-turned new s (λ v. op2_value op2.Eq (word_of v old a) (word_of v old b)) (λ v. if number (bits_at v old a) == number (bits_at v old b) then false else true)
    (λ v. ap truth (ap not (truth-bit (signal_at v new s) (number (bits_at v old a) == number (bits_at v old b)) (t.tells v)) ∙ turned (number (bits_at v old a) == number (bits_at v old b)))) t)
  where
    turned : (b : Bool) → not b ≡ (if b then false else true)
    turned true = refl
    turned false = refl

pub least-tells : (old new : List Gate) (a b t : List Signal) (s : Signal) → length a ≡ length b → t ≡ map opposite b → Means new s (λ v. add_carry true (bits_at v old a) (bits_at v old t)) → Tells new s (λ v. op2_value op2.Ugte (word_of v old a) (word_of v old b))
least-tells old new a b t s e is m = record {
  within = m.within;
  tells = λ v.
      ap truth (m.means v
      ∙ (ap (add_carry true (bits_at v old a)) (ap (bits_at v old) is ∙ bits-opposite v old b)
      ∙ carry-tells (bits_at v old a) (bits_at v old b) (same-lengths (signal_at v old) a b e)));
}

not-least : (n m : ℕ) → not (nat_le m n) ≡ nat_lt n m
not-least n m = elim (leb_tells m n) [
  | inl p ↦ rw p.0 (elim (leb_tells (suc n) m) [
    | inl q ↦ absurd (let x = p.1 in let y = q.1 in omega arith)
    | inr q ↦ sym q.0
  ])
  | inr p ↦ rw p.0 (elim (leb_tells (suc n) m) [
    | inl q ↦ sym q.0
    | inr q ↦ absurd (let x = p.1 in let y = q.1 in omega arith)
  ])
]

pub below-tells : (old new : List Gate) (a b : List Signal) (s r : Signal) → r ≡ opposite s → Tells new s (λ v. op2_value op2.Ugte (word_of v old a) (word_of v old b)) → Tells new r (λ v. op2_value op2.Ult (word_of v old a) (word_of v old b))
below-tells old new a b s r e t = rw e (tells-turned new s (λ v. op2_value op2.Ugte (word_of v old a) (word_of v old b)) (λ v. nat_lt (number (bits_at v old a)) (number (bits_at v old b)))
    (λ v. ap truth (ap not (truth-bit (signal_at v new s) (nat_le (number (bits_at v old b)) (number (bits_at v old a))) (t.tells v)) ∙ not-least (number (bits_at v old a)) (number (bits_at v old b)))) t)

pub ruleset comparing = (none-start, none-done)
