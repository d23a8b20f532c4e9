-- Gates as they grow.
use Rattle.std.proofs.Common.{◌≡◌, ℕ, zero, suc, ◌<◌, ◌≤◌, Bool, true, false, not, List, [], ◌∷◌, ◌++◌, append-nil, append_assoc, length, length-append, slice_get, Some, refl, sym, ◌∙◌, ap, arith, if◌then◌else◌, ◌&&◌, ◌||◌, inl, inr}
use Rattle.std.proofs.lemmas.Bool.{cases_lt}
use Rattle.std.proofs.lemmas.Option.{slice_get_within}
use Rattle.bit_gates.specs.declared.signal.Signal.{Signal}
use Rattle.bit_gates.specs.declared.signal.Signal.TheVariants as signal
use Rattle.bit_gates.specs.declared.signal.Gate.{Gate}
use Rattle.bit_gates.specs.declared.signal.Gate.TheVariants as gate
use Rattle.bit_gates.specs.Gates.{differ, opposite, signal_over, gate_over, gate_at, signal_at, IsBelow, TakesBelow, IsCircuit}
use Rattle.bit_gates.specs.Grown.{Grows, Means}
use Rattle.bit_gates.proofs.RollLemmas.{IsLocal, value-kept, value-own}

slice_get-append_left : (xs ys : List Gate) (k : ℕ) → k < length xs → slice_get (xs ++ ys) k ≡ slice_get xs k
slice_get-append_left [] ys k h = absurd (omega arith)
slice_get-append_left (x ∷ xs) ys zero h = refl
slice_get-append_left (x ∷ xs) ys (suc k) h = slice_get-append_left xs ys k (omega arith)

slice_get-seam : (xs : List Gate) (x : Gate) (ys : List Gate) → slice_get (xs ++ x ∷ ys) (length xs) ≡ Some x
slice_get-seam [] x ys = refl
slice_get-seam (z ∷ xs) x ys = slice_get-seam xs x ys

pub below-more : (j k : ℕ) (s : Signal) → j ≤ k → IsBelow j s → IsBelow k s
below-more j k (signal.Constant b) le h = tt
below-more j k (signal.Plain i) le h = omega (arith, le, h)
below-more j k (signal.Turned i) le h = omega (arith, le, h)

-- a signal over bits that are equal below it
signal-local : (f g : ℕ → Bool) (k : ℕ) (s : Signal) → ((j : ℕ) → j < k → f j ≡ g j) → IsBelow k s → signal_over f s ≡ signal_over g s
signal-local f g k (signal.Constant b) e h = refl
signal-local f g k (signal.Plain j) e h = e j h
signal-local f g k (signal.Turned j) e h = ap not (e j h)

gate-local : (v : ℕ → Bool) (k : ℕ) (g : Gate) → TakesBelow k g → IsLocal (gate_over v) k g
gate-local v k (gate.Input n) b = record { same = λ f h e. refl }
gate-local v k (gate.And x y) b = record { same = λ f h e. rw (signal-local f h k x e b.0, signal-local f h k y e b.1) refl }
gate-local v k (gate.Xor x y) b = record { same = λ f h e. rw (signal-local f h k x e b.0, signal-local f h k y e b.1) refl }
gate-local v k (gate.Choose c x y) b = record { same = λ f h e. rw (signal-local f h k c e b.0, signal-local f h k x e b.1, signal-local f h k y e b.2) refl }

pub grows-by : (a b more : List Gate) → b ≡ a ++ more → Grows a b
grows-by a b more e = record {
  more = more;
  longer = e;
  kept = λ v s h. signal-local (gate_at v b) (gate_at v a) (length a) s (λ k lt. ap (λ (xs : List Gate). gate_at v xs k) e ∙ value-kept false (gate_over v) a more k lt) h;
}

pub grows-same : (gs : List Gate) → Grows gs gs
grows-same gs = grows-by gs gs [] (sym (append-nil gs))

pub grows-equal : (a b : List Gate) → b ≡ a → Grows a b
grows-equal a b e = grows-by a b [] (e ∙ sym (append-nil a))

pub grows-on : (a b c : List Gate) → Grows a b → Grows b c → Grows a c
grows-on a b c p q = grows-by a c (p.more ++ q.more) (q.longer ∙ (ap (λ (xs : List Gate). xs ++ q.more) p.longer ∙ append_assoc a p.more q.more))

pub grows-length : (a b : List Gate) → Grows a b → length a ≤ length b
grows-length a b p = omega (arith, ap length p.longer, length-append a p.more)

pub below-grows : (a b : List Gate) (s : Signal) → Grows a b → IsBelow (length a) s → IsBelow (length b) s
below-grows a b s p h = below-more (length a) (length b) s (grows-length a b p) h

pub means-kept : (a b : List Gate) (s : Signal) (f : (ℕ → Bool) → Bool) → Grows a b → Means a s f → Means b s f
means-kept a b s f p m = record {
  within = below-grows a b s p m.within;
  means = λ v. p.kept v s m.within ∙ m.means v;
}

circuit-pushed : (gs : List Gate) (g : Gate) → IsCircuit gs → TakesBelow (length gs) g → IsCircuit (gs ++ g ∷ [])
circuit-pushed gs g built next = record {
  each = λ k m at. elim (cases_lt k (length gs)) [
    | inl lt ↦ built.each k m (sym (slice_get-append_left gs (g ∷ []) k lt) ∙ at)
    | inr ge ↦
        let within : k < length (gs ++ g ∷ []) = slice_get_within (gs ++ g ∷ []) k m at in
        let is : k ≡ length gs = omega (arith, length-append gs (g ∷ [])) in
        let there : slice_get (gs ++ g ∷ []) (length gs) ≡ Some g = slice_get-seam gs g [] in
        let both : slice_get (gs ++ g ∷ []) (length gs) ≡ Some m = ap (slice_get (gs ++ g ∷ [])) (sym is) ∙ at in
        let same : g ≡ m = cc in
        rw (is, ← same) next
  ];
}

pub grows-inserted : (old new : List Gate) (g : Gate) (b : Bool) → new ≡ (if b then old ++ g ∷ [] else old) → Grows old new
grows-inserted old new g true e = grows-by old new (g ∷ []) e
grows-inserted old new g false e = grows-equal old new e

pub circuit-inserted : (old new : List Gate) (g : Gate) (b : Bool) → new ≡ (if b then old ++ g ∷ [] else old) → IsCircuit old → TakesBelow (length old) g → IsCircuit new
circuit-inserted old new g true e c h = rw e (circuit-pushed old g c h)
circuit-inserted old new g false e c h = rw e c

pub circuit-equal : (old new : List Gate) → new ≡ old → IsCircuit old → IsCircuit new
circuit-equal old new e c = rw e c

pub means-inserted : (old new : List Gate) (g : Gate) (b : Bool) (k : ℕ) → new ≡ (if b then old ++ g ∷ [] else old) → slice_get new k ≡ Some g → IsCircuit old → TakesBelow (length old) g → Means new (signal.Plain k) (λ v. gate_over v (gate_at v old) g)
means-inserted old new g b k e at c h =
    let circuit : IsCircuit new = circuit-inserted old new g b e c h in
    let grows : Grows old new = grows-inserted old new g b e in
    record {
      within = slice_get_within new k g at;
      means = λ v.
          value-own false (gate_over v) new k g at (gate-local v k g (circuit.each k g at))
          ∙ (gate-local v (length old) g h).same (gate_at v new) (gate_at v old) (λ j lt. grows.kept v (signal.Plain j) lt);
    }

pub signal-opposite : (at : ℕ → Bool) (s : Signal) → signal_over at (opposite s) ≡ not (signal_over at s)
signal-opposite at (signal.Constant b) = refl
signal-opposite at (signal.Plain k) = refl
signal-opposite at (signal.Turned k) = double (at k)
  where
    double : (b : Bool) → b ≡ not (not b)
    double true = refl
    double false = refl

pub below-opposite : (k : ℕ) (s : Signal) → IsBelow k s → IsBelow k (opposite s)
below-opposite k (signal.Constant b) h = tt
below-opposite k (signal.Plain j) h = h
below-opposite k (signal.Turned j) h = h

pub means-opposite : (gs : List Gate) (s : Signal) (f : (ℕ → Bool) → Bool) → Means gs s f → Means gs (opposite s) (λ v. not (f v))
means-opposite gs s f m = record {
  within = below-opposite (length gs) s m.within;
  means = λ v. signal-opposite (gate_at v gs) s ∙ ap not (m.means v);
}

-- a signal that gives a function of two others
pub means-itself : (gs : List Gate) (s : Signal) (f : (ℕ → Bool) → Bool) → IsBelow (length gs) s → ((v : ℕ → Bool) → signal_at v gs s ≡ f v) → Means gs s f
means-itself gs s f h e = record { within = h; means = e }

pub and-turned : (old new : List Gate) (a b s : Signal) → Means new s (λ v. signal_at v old b && signal_at v old a) → Means new s (λ v. signal_at v old a && signal_at v old b)
and-turned old new a b s m = record { within = m.within; means = λ v. m.means v ∙ turned (signal_at v old b) (signal_at v old a) }
  where
    turned : (x y : Bool) → (x && y) ≡ (y && x)
    turned true true = refl
    turned true false = refl
    turned false true = refl
    turned false false = refl

pub xor-turned : (old new : List Gate) (a b s : Signal) → Means new s (λ v. differ (signal_at v old b) (signal_at v old a)) → Means new s (λ v. differ (signal_at v old a) (signal_at v old b))
xor-turned old new a b s m = record { within = m.within; means = λ v. m.means v ∙ turned (signal_at v old b) (signal_at v old a) }
  where
    turned : (x y : Bool) → differ x y ≡ differ y x
    turned true true = refl
    turned true false = refl
    turned false true = refl
    turned false false = refl

pub or-means : (old new : List Gate) (a b s : Signal) → Means new s (λ v. signal_at v old (opposite a) && signal_at v old (opposite b)) → Means new (opposite s) (λ v. signal_at v old a || signal_at v old b)
or-means old new a b s m = record {
  within = below-opposite (length new) s m.within;
  means = λ v.
      let o = means-opposite new s (λ w. signal_at w old (opposite a) && signal_at w old (opposite b)) m in
      o.means v ∙ (rw (signal-opposite (gate_at v old) a, signal-opposite (gate_at v old) b) (turned (signal_at v old a) (signal_at v old b)));
}
  where
    turned : (x y : Bool) → not (not x && not y) ≡ (x || y)
    turned true y = refl
    turned false true = refl
    turned false false = refl

pub ruleset inserting = (grows-inserted, grows-equal, grows-same, circuit-inserted, circuit-equal, means-inserted)

pub ruleset folding = (grows-same, grows-on, grows-equal, below-opposite)

pub ruleset turning = (and-turned, xor-turned)

pub ruleset either = (or-means, below-opposite)
