-- The steps of pairs.
use Rattle.std.proofs.Common.{◌≡◌, ℕ, ◌+◌, Bool, List, [], ◌∷◌, ◌++◌, append_assoc, length, slice_get, Some, refl, ◌∙◌, ap}
use Rattle.std.proofs.lemmas.List.{map-append}
use Rattle.std.proofs.lemmas.List.Elements.{All-push}
use Rattle.bit_gates.specs.declared.signal.Signal.{Signal}
use Rattle.bit_gates.specs.declared.signal.Gate.{Gate}
use Rattle.bit_gates.specs.declared.pairs.Pair.{Pair}
use Rattle.bit_gates.specs.declared.pairs.Pair.TheVariants as pair
use Rattle.bit_gates.specs.Gates.{signal_at, IsBelow}
use Rattle.bit_gates.specs.Grown.{Grows, Means}
use Rattle.bit_gates.specs.Words.{Within}
use Rattle.bit_gates.specs.Pairs.{pair_bit, IsPairBelow, Paired}
use Rattle.bit_gates.proofs.GrowthLemmas.{below-grows}
use Rattle.bit_gates.proofs.WordLemmas.{drop-bits, all-at, within-grows, bits-kept}

pair-in : (g h : List Gate) (p : Pair) → Grows g h → IsPairBelow (length g) p → IsPairBelow (length h) p
pair-in g h pair.And q w = tt
pair-in g h pair.Or q w = tt
pair-in g h pair.Xor q w = tt
pair-in g h (pair.Choose c) q w = below-grows g h c q w

pair-kept : (first g : List Gate) (v : ℕ → Bool) (p : Pair) (x y : Bool) → Grows first g → IsPairBelow (length first) p → pair_bit (signal_at v g) p x y ≡ pair_bit (signal_at v first) p x y
pair-kept first g v pair.And x y q w = refl
pair-kept first g v pair.Or x y q w = refl
pair-kept first g v pair.Xor x y q w = refl
pair-kept first g v (pair.Choose c) x y q w = rw (q.kept v c w) refl

pub paired-step : (first g h : List Gate) (p : Pair) (a b : List Signal) (z x y : Signal) (i : ℕ) (out new : List Signal) → Grows first g → Grows g h → Paired first p a b i g out → IsPairBelow (length first) p → slice_get a i ≡ Some x → slice_get b i ≡ Some y → Within first a → Within first b → Means h z (λ v. pair_bit (signal_at v g) p (signal_at v g x) (signal_at v g y)) → new ≡ out ++ z ∷ [] → Paired first p a b (i + 1) h new
paired-step first g h p a b z x y i out new q r done wp ex ey wa wb mz e = rw e (record {
  within = All-push (λ (l : Signal). IsBelow (length h) l) out z (within-grows g h out r done.within) mz.within;
  in_pair = pair-in g h p r done.in_pair;
  bits = λ v.
      let kx : signal_at v g x ≡ signal_at v first x = q.kept v x (all-at first a i x ex wa) in
      let ky : signal_at v g y ≡ signal_at v first y = q.kept v y (all-at first b i y ey wb) in
      let ez : signal_at v h z ≡ pair_bit (signal_at v first) p (signal_at v first x) (signal_at v first y) =
      mz.means v ∙ (pair-kept first g v p (signal_at v g x) (signal_at v g y) q wp ∙ (ap (λ (s : Bool). pair_bit (signal_at v first) p s (signal_at v g y)) kx ∙ ap (pair_bit (signal_at v first) p (signal_at v first x)) ky)) in
      let before = done.bits v in
      let was = rw (drop-bits (signal_at v first) a i x ex, drop-bits (signal_at v first) b i y ey) at before in
      rw (map-append (signal_at v h) out (z ∷ []), bits-kept g h v out r done.within, ez) (rw append_assoc was);
})
