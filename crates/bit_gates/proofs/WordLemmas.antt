-- Lists of signals as gates grow.
use Rattle.std.proofs.Common.{◌≡◌, ℕ, zero, suc, ◌+◌, ◌<◌, Bool, false, not, List, [], ◌∷◌, length, get_or, drop, take, map, ◌++◌, slice_get, Some, refl, sym, ◌∙◌, ap, subst, arith, add-one}
use Rattle.std.proofs.lemmas.List.Elements.{All-get_or, All-from_get_or}
use Rattle.std.proofs.lemmas.Option.{slice_get_within, get_or_from_slice_get}
use Rattle.knox_words.specs.Bits.{bits}
use Rattle.bit_gates.specs.declared.signal.Signal.{Signal}
use Rattle.bit_gates.specs.declared.signal.Signal.TheVariants as signal
use Rattle.bit_gates.specs.declared.signal.Gate.{Gate}
use Rattle.bit_gates.specs.Gates.{signal_at, gate_at, opposite, IsBelow}
use Rattle.bit_gates.specs.Grown.{Grows}
use Rattle.bit_gates.specs.Words.{number, bits_at, word_of, Within, Spells, Gives}
use Rattle.bit_gates.proofs.GrowthLemmas.{below-grows, below-opposite, signal-opposite}

pub drop-bits : (f : Signal → Bool) (ls : List Signal) (i : ℕ) (x : Signal) → slice_get ls i ≡ Some x → drop i (map f ls) ≡ f x ∷ drop (i + 1) (map f ls)
drop-bits f [] i x e = cc
drop-bits f (l ∷ ls) zero x e = let is : l ≡ x = cc in rw is refl
drop-bits f (l ∷ ls) (suc i) x e = rw add-one (drop-bits f ls i x e ∙ (rw add-one refl))

pub all-at : (gs : List Gate) (ls : List Signal) (i : ℕ) (x : Signal) → slice_get ls i ≡ Some x → Within gs ls → IsBelow (length gs) x
all-at gs ls i x e h = subst (λ (l : Signal). IsBelow (length gs) l) (get_or_from_slice_get ls i x x e) (All-get_or (λ (l : Signal). IsBelow (length gs) l) ls i x (slice_get_within ls i x e) h)

pub within-grows : (g h : List Gate) (ls : List Signal) → Grows g h → Within g ls → Within h ls
within-grows g h ls p w = All-from_get_or (λ (l : Signal). IsBelow (length h) l) ls (signal.Constant false) (λ i lt.
    below-grows g h _ p (All-get_or (λ (l : Signal). IsBelow (length g) l) ls i (signal.Constant false) lt w))

within-first : (gs : List Gate) (l : Signal) (ls : List Signal) → Within gs (l ∷ ls) → IsBelow (length gs) l
within-first gs l ls w = All-get_or (λ (l : Signal). IsBelow (length gs) l) (l ∷ ls) 0 l (omega arith) w

within-rest : (gs : List Gate) (l : Signal) (ls : List Signal) → Within gs (l ∷ ls) → Within gs ls
within-rest gs l ls w = All-from_get_or (λ (l : Signal). IsBelow (length gs) l) ls l (λ i lt. All-get_or (λ (l : Signal). IsBelow (length gs) l) (l ∷ ls) (suc i) l (omega arith) w)

pub bits-kept : (g h : List Gate) (v : ℕ → Bool) (ls : List Signal) → Grows g h → Within g ls → bits_at v h ls ≡ bits_at v g ls
bits-kept g h v [] p w = refl
bits-kept g h v (l ∷ ls) p w = rw (p.kept v l (within-first g l ls w), bits-kept g h v ls p (within-rest g l ls w)) refl

pub length-bits : (f : Signal → Bool) (ls : List Signal) → length (map f ls) ≡ length ls
length-bits f [] = refl
length-bits f (l ∷ ls) = ap suc (length-bits f ls)

pub same-lengths : (f : Signal → Bool) (a b : List Signal) → length a ≡ length b → length (map f a) ≡ length (map f b)
same-lengths f a b e = length-bits f a ∙ (e ∙ sym (length-bits f b))

pub word-spelled : (gs : List Gate) (r : List Signal) (f : (ℕ → Bool) → List Bool) → Spells gs r f → (v : ℕ → Bool) → word_of v gs r ≡ bits (length (f v)) (number (f v))
word-spelled gs r f s v =
    let e : length r ≡ length (f v) = sym (length-bits (signal_at v gs) r) ∙ ap length (s.bits v) in
    ap (λ n. bits n (number (bits_at v gs r))) e ∙ ap (λ bs. bits (length (f v)) (number bs)) (s.bits v)

-- signals that spell bits of a length and a number
pub gives-spelled : (gs : List Gate) (r : List Signal) (f : (ℕ → Bool) → List Bool) (w n : (ℕ → Bool) → ℕ) → Spells gs r f → ((v : ℕ → Bool) → length (f v) ≡ w v) → ((v : ℕ → Bool) → number (f v) ≡ n v) → Gives gs r (λ v. bits (w v) (n v))
gives-spelled gs r f w n s wide is = record {
  within = s.within;
  gives = λ v. word-spelled gs r f s v ∙ (ap (λ k. bits k (number (f v))) (wide v) ∙ ap (bits (w v)) (is v));
}

pub bits-opposite : (v : ℕ → Bool) (gs : List Gate) (ls : List Signal) → bits_at v gs (map opposite ls) ≡ map not (bits_at v gs ls)
bits-opposite v gs [] = refl
bits-opposite v gs (l ∷ ls) = rw (signal-opposite (gate_at v gs) l, bits-opposite v gs ls) refl

within-cons : (gs : List Gate) (l : Signal) (ls : List Signal) → IsBelow (length gs) l → Within gs ls → Within gs (l ∷ ls)
within-cons gs l ls h w = All-from_get_or (λ (l : Signal). IsBelow (length gs) l) (l ∷ ls) l (λ i lt. at i lt)
  where
    at : (i : ℕ) → i < length (l ∷ ls) → IsBelow (length gs) (get_or (l ∷ ls) i l)
    at zero lt = h
    at (suc i) lt = All-get_or (λ (l : Signal). IsBelow (length gs) l) ls i l (omega arith) w

pub within-opposite : (gs : List Gate) (ls : List Signal) → Within gs ls → Within gs (map opposite ls)
within-opposite gs [] w = w
within-opposite gs (l ∷ ls) w = within-cons gs (opposite l) (map opposite ls) (below-opposite (length gs) l (within-first gs l ls w)) (within-opposite gs ls (within-rest gs l ls w))

pub spells-opposite : (gs : List Gate) (ls r : List Signal) (f : (ℕ → Bool) → List Bool) → r ≡ map opposite ls → Spells gs ls f → Spells gs r (λ v. map not (f v))
spells-opposite gs ls r f e s = rw e (record {
  within = within-opposite gs ls s.within;
  bits = λ v. bits-opposite v gs ls ∙ ap (map not) (s.bits v);
})

pub spells-itself : (gs : List Gate) (ls : List Signal) → Within gs ls → Spells gs ls (λ v. bits_at v gs ls)
spells-itself gs ls w = record { within = w; bits = λ v. refl }

-- one item more of a list made of another's first items
pub map-more : (f : Signal → Signal) (ls : List Signal) (i : ℕ) (x : Signal) → slice_get ls i ≡ Some x → map f (take i ls) ++ f x ∷ [] ≡ map f (take (i + 1) ls)
map-more f [] i x e = cc
map-more f (l ∷ ls) zero x e = let is : l ≡ x = cc in rw is refl
map-more f (l ∷ ls) (suc i) x e = rw add-one (ap (λ (ys : List Signal). f l ∷ ys) (map-more f ls i x e ∙ (rw add-one refl)))

pub bits-constant : (v : ℕ → Bool) (gs : List Gate) (b : Bool) (ls : List Signal) → bits_at v gs (map (λ s. signal.Constant b) ls) ≡ map (λ s. b) ls
bits-constant v gs b [] = refl
bits-constant v gs b (l ∷ ls) = rw (bits-constant v gs b ls) refl

pub within-constant : (gs : List Gate) (b : Bool) (ls : List Signal) → Within gs ls → Within gs (map (λ s. signal.Constant b) ls)
within-constant gs b [] w = w
within-constant gs b (l ∷ ls) w = within-cons gs (signal.Constant b) (map (λ s. signal.Constant b) ls) tt (within-constant gs b ls (within-rest gs l ls w))

pub length-signals : (f : Signal → Signal) (ls : List Signal) → length (map f ls) ≡ length ls
length-signals f [] = refl
length-signals f (l ∷ ls) = ap suc (length-signals f ls)
