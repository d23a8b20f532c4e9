-- One step of a walk along a chain of writes, and words that are remembered of one.
use Rattle.std.proofs.Common.{◌≡◌, ℕ, zero, suc, ◌+◌, ◌<◌, ◌≤◌, ◌==◌, List, [], ◌∷◌, Bool, true, false, Option, Some, None, length, replicate, slice_get, if◌then◌else◌, refl, sym, ◌∙◌, ap, subst, arith, add-one, eq-eqb, eqb-true, inl, inr}
use Rattle.std.proofs.lemmas.Bool.{cases_lt}
use Rattle.std.proofs.lemmas.List.{length-set, length-replicate}
use Rattle.std.specs.Option.{option_or, IfSome}
use Rattle.knox_words.specs.Bits.{Bits}
use Rattle.circuit_nodes.specs.declared.node.Node.{Node}
use Rattle.circuit_nodes.proofs.ValuesLemmas.{differs}
use Rattle.knox_circuit.specs.declared.chains.Found.{Found}
use Rattle.knox_circuit.specs.Rom.{Put, put_if, put_under, puts_of, chain_at, under, laid}
use Rattle.knox_circuit.specs.Links.{with_put}
use Rattle.knox_circuit.specs.Chains.{lay, over, IsFound}

pub chain-own : (cells : ℕ) (ns : List Node) (i : ℕ) → chain_at cells ns (i + 1) i ≡ puts_of cells ns i (chain_at cells ns i) (slice_get ns i)
chain-own cells ns i = rw (add-one, eq-eqb i i refl) refl

pub chain-at : (cells : ℕ) (ns : List Node) (i k : ℕ) → k < i → chain_at cells ns i k ≡ chain_at cells ns (k + 1) k
chain-at cells ns zero k h = absurd (omega arith)
chain-at cells ns (suc i) k h = elim (cases_lt k i) [
  | inl lt ↦ let ne : (k ≡ i → ⊥) = (λ e. omega arith) in rw (differs k i ne) (chain-at cells ns i k lt)
  | inr le ↦ let e : k ≡ i = omega arith in rw (e, eq-eqb i i refl) (sym (chain-own cells ns i))
]

pub chain-none : (cells : ℕ) (ns : List Node) (i k : ℕ) → i ≤ k → chain_at cells ns i k ≡ None
chain-none cells ns zero k h = refl
chain-none cells ns (suc i) k h =
    let ne : (k ≡ i → ⊥) = (λ e. omega arith) in
    let le : i ≤ k = omega arith in
    rw (differs k i ne) (chain-none cells ns i k le)

pub ruleset link_steps = (chain-own)

pub laid-put : (known : List (Option Bits)) (i : ℕ) (w : Bits) (o : Option (List Put)) → laid known (with_put i w o) ≡ laid (put_under known i w) o
laid-put known i w None = refl
laid-put known i w (Some ps) = refl

pub ruleset walk_steps = (chain-at, chain-none, laid-put)

pub walk-on : (cells : ℕ) (ns : List Node) (before k a i : ℕ) (w : Bits) (known same new : List (Option Bits)) (all : Option (List (Option Bits))) → k < before → same ≡ known → new ≡ put_under same i w → chain_at cells ns (k + 1) k ≡ with_put i w (chain_at cells ns k a) → laid known (chain_at cells ns before k) ≡ all → laid new (chain_at cells ns k a) ≡ all
walk-on cells ns before k a i w known same new all lt kept put link rest =
    let o = chain_at cells ns k a in
    ap (λ ks. laid ks o) (put ∙ ap (λ ks. put_under ks i w) kept)
    ∙ (sym (laid-put known i w o)
    ∙ (ap (λ (c : Option (List Put)). laid known c) (sym link ∙ sym (chain-at cells ns before k lt))
    ∙ rest))

-- words that are laid one after another

put-deep : (o : Option (Option Bits)) (x : Option Bits) (xs : List (Option Bits)) (i : ℕ) (w : Bits) → put_if o (x ∷ xs) (suc i) w ≡ x ∷ put_if o xs i w
put-deep None x xs i w = refl
put-deep (Some None) x xs i w = refl
put-deep (Some (Some v)) x xs i w = refl

lay-deep : (x : Option Bits) (xs : List (Option Bits)) (i : ℕ) (b : Option Bits) → lay (x ∷ xs) (suc i) b ≡ x ∷ lay xs i b
lay-deep x xs i None = refl
lay-deep x xs i (Some w) = put-deep (slice_get xs i) x xs i w

lay-first : (o b : Option Bits) (os : List (Option Bits)) → lay (o ∷ os) 0 b ≡ option_or o b ∷ os
lay-first None None os = refl
lay-first None (Some w) os = refl
lay-first (Some v) None os = refl
lay-first (Some v) (Some w) os = refl

abbrev pub over_from : ℕ → List (Option Bits) → List (Option Bits) → List (Option Bits)
over_from i known [] = known
over_from i known (b ∷ bs) = over_from (i + 1) (lay known i b) bs

over_from-nil : (i : ℕ) (bs : List (Option Bits)) → over_from i [] bs ≡ []
over_from-nil i [] = refl
over_from-nil i (None ∷ bs) = over_from-nil (i + 1) bs
over_from-nil i (Some w ∷ bs) = over_from-nil (i + 1) bs

over_from-deep : (i : ℕ) (x : Option Bits) (xs bs : List (Option Bits)) → over_from (suc i) (x ∷ xs) bs ≡ x ∷ over_from i xs bs
over_from-deep i x xs [] = refl
over_from-deep i x xs (b ∷ bs) =
    let e : suc i + 1 ≡ suc (i + 1) = omega arith in
    ap (λ n. over_from n (lay (x ∷ xs) (suc i) b) bs) e
    ∙ (ap (λ ks. over_from (suc (i + 1)) ks bs) (lay-deep x xs i b)
    ∙ over_from-deep (i + 1) x (lay xs i b) bs)

pub over_from-all : (known bs : List (Option Bits)) → over_from 0 known bs ≡ over known bs
over_from-all [] [] = refl
over_from-all (o ∷ os) [] = refl
over_from-all [] (b ∷ bs) = over_from-nil 0 (b ∷ bs)
over_from-all (o ∷ os) (b ∷ bs) =
    ap (λ ks. over_from 1 ks bs) (lay-first o b os)
    ∙ (over_from-deep 0 (option_or o b) os bs
    ∙ ap (λ ks. option_or o b ∷ ks) (over_from-all os bs))

-- a chain's writes under the words that are known are those words over what the writes give alone

or-none : (o : Option Bits) → option_or o None ≡ o
or-none None = refl
or-none (Some v) = refl

over-none : (known : List (Option Bits)) (n : ℕ) → over known (replicate n None) ≡ known
over-none [] n = refl
over-none (o ∷ os) zero = refl
over-none (o ∷ os) (suc n) = ap (λ k. k ∷ over os (replicate n None)) (or-none o) ∙ ap (λ ks. o ∷ ks) (over-none os n)

over-first : (o b : Option Bits) (os bs : List (Option Bits)) (w : Bits) → put_under (over (o ∷ os) (b ∷ bs)) 0 w ≡ over (o ∷ os) (put_under (b ∷ bs) 0 w)
over-first None None os bs w = refl
over-first None (Some v) os bs w = refl
over-first (Some u) None os bs w = refl
over-first (Some u) (Some v) os bs w = refl

over-put : (known bs : List (Option Bits)) (i : ℕ) (w : Bits) → length known ≡ length bs → put_under (over known bs) i w ≡ over known (put_under bs i w)
over-put [] bs i w long = refl
over-put (o ∷ os) [] i w long = absurd (omega (arith, long))
over-put (o ∷ os) (b ∷ bs) zero w long = over-first o b os bs w
over-put (o ∷ os) (b ∷ bs) (suc i) w long =
    let same : length os ≡ length bs = omega (arith, long) in
    put-deep (slice_get (over os bs) i) (option_or o b) (over os bs) i w
    ∙ (ap (λ ks. option_or o b ∷ ks) (over-put os bs i w same)
    ∙ ap (λ ks. over (o ∷ os) ks) (sym (put-deep (slice_get bs i) b bs i w)))

length-put_if : (o : Option (Option Bits)) (known : List (Option Bits)) (i : ℕ) (w : Bits) → length (put_if o known i w) ≡ length known
length-put_if None known i w = refl
length-put_if (Some None) known i w = length-set known i (Some w)
length-put_if (Some (Some v)) known i w = refl

under-over : (ps : List Put) (known bs : List (Option Bits)) → length known ≡ length bs → under (over known bs) ps ≡ over known (under bs ps)
under-over [] known bs long = refl
under-over (p ∷ ps) known bs long =
    ap (λ ks. under ks ps) (over-put known bs p.index p.word long)
    ∙ under-over ps known (put_under bs p.index p.word) (long ∙ sym (length-put_if (slice_get bs p.index) bs p.index p.word))

under-alone : (ps : List Put) (known : List (Option Bits)) (n : ℕ) → n ≡ length known → under known ps ≡ over known (under (replicate n None) ps)
under-alone ps known n long =
    ap (λ ks. under ks ps) (sym (over-none known n))
    ∙ under-over ps known (replicate n None) (sym long ∙ sym (length-replicate n None))

pub laid-found : (known words : List (Option Bits)) (o : Option (List Put)) (sound : Bool) → length words ≡ length known → laid (replicate (length words) None) o ≡ (if sound then Some words else None) → laid known o ≡ (if sound then Some (over known words) else None)
laid-found known words None true long is = absurd cc
laid-found known words None false long is = refl
laid-found known words (Some ps) true long is =
    let e : under (replicate (length words) None) ps ≡ words = cc in
    ap Some (under-alone ps known (length words) long ∙ ap (over known) e)
laid-found known words (Some ps) false long is = absurd cc

-- what is remembered, and one more

pub found-put : (cells : ℕ) (ns : List Node) (node k : ℕ) (f : Found) (o : Option Found) → IsFound cells ns node f → IfSome o (IsFound cells ns k) → IfSome (if node == k then Some f else o) (IsFound cells ns k)
found-put cells ns node k f o is are = of (node == k) refl where
  of : (b : Bool) → (node == k) ≡ b → IfSome (if b then Some f else o) (IsFound cells ns k)
  of true e = subst (λ n. IsFound cells ns n f) (eqb-true node k e) is
  of false e = are
