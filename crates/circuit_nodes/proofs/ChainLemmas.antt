-- Following a node to its base, and putting the writes of a chain over it.
use Rattle.std.proofs.Common.{◌≡◌, ℕ, zero, suc, ◌+◌, ◌-◌, ◌<◌, ◌≤◌, ◌==◌, List, [], ◌∷◌, ◌++◌, Option, Some, None, true, false, set, take, drop, replicate, length, slice_get, get_or, refl, sym, ◌∙◌, ap, arith, add-one, eq-eqb, inl, inr}
use Rattle.std.proofs.lemmas.Bool.{cases_lt}
use Rattle.std.proofs.lemmas.List.{append-nil, append_assoc, set_past, take_more_set, take_all, replicate_more, drop_all, drop_more}
use Rattle.knox_words.specs.Bits.{Bits, word_at}
use Rattle.circuit_nodes.specs.declared.node.Arg.{Arg}
use Rattle.circuit_nodes.specs.declared.node.Node.{Node}
use Rattle.circuit_nodes.specs.declared.node.Node.TheVariants as node
use Rattle.circuit_nodes.specs.declared.chain.Base.{Base}
use Rattle.circuit_nodes.specs.declared.chain.Base.TheVariants as base
use Rattle.circuit_nodes.specs.Values.{Value, zero_word, constant}
use Rattle.circuit_nodes.specs.Ticks.{first_words}
use Rattle.circuit_nodes.specs.Sources.{Source, bare, with_write, source_level, source_at, put_word, put_words}
use Rattle.circuit_nodes.proofs.ValuesLemmas.{differs}

pub source_at-own : (room : List Bits) (ns : List Node) (i : ℕ) → source_at room ns (i + 1) i ≡ source_level room i (source_at room ns i) (slice_get ns i)
source_at-own room ns i = rw (add-one, eq-eqb i i refl) refl

pub source_at-none : (room : List Bits) (ns : List Node) (i k : ℕ) → i ≤ k → source_at room ns i k ≡ bare (base.Same zero_word)
source_at-none room ns zero k h = refl
source_at-none room ns (suc i) k h =
    let ne : (k ≡ i → ⊥) = (λ e. omega arith) in
    let le : i ≤ k = omega arith in
    rw (differs k i ne) (source_at-none room ns i k le)

-- a node's source, over any number of nodes past it
pub source_at-at : (room : List Bits) (ns : List Node) (i k : ℕ) → k < i → source_at room ns i k ≡ source_at room ns (k + 1) k
source_at-at room ns zero k h = absurd (omega arith)
source_at-at room ns (suc i) k h = elim (cases_lt k i) [
  | inl lt ↦ let ne : (k ≡ i → ⊥) = (λ e. omega arith) in rw (differs k i ne) (source_at-at room ns i k lt)
  | inr le ↦ let e : k ≡ i = omega arith in rw (e, eq-eqb i i refl) (sym (source_at-own room ns i))
]

-- a node that is no array is its own base
pub plain : (room : List Bits) (i : ℕ) (at : ℕ → Source) (n : Node) → ((p m w : ℕ) → n ≡ node.Array p m w → ⊥) → ((c : Arg) (a b : ℕ) → n ≡ node.Pick c a b → ⊥) → ((a : ℕ) (i w : Arg) → n ≡ node.Write a i w → ⊥) → source_level room i at (Some n) ≡ bare (base.Same (word_at room i))
plain room i at (node.Const w) p q r = refl
plain room i at (node.Input f w) p q r = refl
plain room i at (node.State f w) p q r = refl
plain room i at (node.Array f m w) p q r = absurd (p f m w refl)
plain room i at (node.Un o a) p q r = refl
plain room i at (node.Bin o a b) p q r = refl
plain room i at (node.Slice a h l) p q r = refl
plain room i at (node.Uext a n) p q r = refl
plain room i at (node.Sext a n) p q r = refl
plain room i at (node.Ite c a b) p q r = refl
plain room i at (node.Pick c a b) p q r = absurd (q c a b refl)
plain room i at (node.Read a j) p q r = refl
plain room i at (node.Write a j w) p q r = absurd (r a j w refl)

pub ruleset source_steps = (source_at-own, plain)

-- the chain so far and the source of what is left

pub chain-stop : (room : List Bits) (ns : List Node) (before at : ℕ) (b : Base) (so_far : List ℕ) (whole : Source) → at < before → source_at room ns (at + 1) at ≡ bare b → so_far ++ (source_at room ns before at).chain ≡ whole.chain → so_far ≡ whole.chain
chain-stop room ns before at b so_far whole h is f =
    let s : source_at room ns before at ≡ bare b = source_at-at room ns before at h ∙ is in
    sym (append-nil so_far) ∙ (ap (λ (x : Source). so_far ++ x.chain) (sym s) ∙ f)

pub chain-none : (room : List Bits) (ns : List Node) (before at : ℕ) (so_far : List ℕ) (whole : Source) → before ≤ at → so_far ++ (source_at room ns before at).chain ≡ whole.chain → so_far ≡ whole.chain
chain-none room ns before at so_far whole h f =
    sym (append-nil so_far) ∙ (ap (λ (x : Source). so_far ++ x.chain) (sym (source_at-none room ns before at h)) ∙ f)

-- the node at `at` writes over the words of node a
pub chain-put : (room : List Bits) (ns : List Node) (before at a : ℕ) (chain : List ℕ) (writes : ℕ) (whole : Source) → at < before → source_at room ns (at + 1) at ≡ with_write at (source_at room ns at a) → writes < length chain → (source_at room ns before at).base ≡ whole.base → take writes chain ++ (source_at room ns before at).chain ≡ whole.chain → ((source_at room ns at a).base ≡ whole.base) × (take (writes + 1) (set chain writes at) ++ (source_at room ns at a).chain ≡ whole.chain)
chain-put room ns before at a chain writes whole h is lt e f =
    let s : source_at room ns before at ≡ with_write at (source_at room ns at a) = source_at-at room ns before at h ∙ is in (
      sym (ap (λ (x : Source). x.base) s) ∙ e,
      ap (λ (z : List ℕ). z ++ (source_at room ns at a).chain) (take_more_set chain writes at lt)
          ∙ (append_assoc (take writes chain) (at ∷ []) (source_at room ns at a).chain
          ∙ (ap (λ (x : Source). take writes chain ++ x.chain) (sym s) ∙ f)),
    )

pub ruleset chain_steps = (source_at-none, source_at-at, take_more_set)

-- writes

pub put_word-other : (room : List Bits) (k : ℕ) (n : Node) (ws : List Bits) → ((a : ℕ) (i w : Arg) → n ≡ node.Write a i w → ⊥) → put_word room k (Some n) ws ≡ ws
put_word-other room k (node.Const w) ws r = refl
put_word-other room k (node.Input f v) ws r = refl
put_word-other room k (node.State f v) ws r = refl
put_word-other room k (node.Array f m v) ws r = refl
put_word-other room k (node.Un o a) ws r = refl
put_word-other room k (node.Bin o a b) ws r = refl
put_word-other room k (node.Slice a h l) ws r = refl
put_word-other room k (node.Uext a n) ws r = refl
put_word-other room k (node.Sext a n) ws r = refl
put_word-other room k (node.Ite c a b) ws r = refl
put_word-other room k (node.Pick c a b) ws r = refl
put_word-other room k (node.Read a j) ws r = refl
put_word-other room k (node.Write a j w) ws r = absurd (r a j w refl)

pub put_words-more : (room : List Bits) (ns : List Node) (chain : List ℕ) (k d : ℕ) (ws : List Bits) → k < length chain → put_words room ns (drop k chain) ws ≡ put_word room (get_or chain k d) (slice_get ns (get_or chain k d)) (put_words room ns (drop (k + 1) chain) ws)
put_words-more room ns chain k d ws h = ap (λ (ks : List ℕ). put_words room ns ks ws) (drop_more chain k d h)

pub ruleset put_steps = (put_word-other, put_words-more, set_past, drop_all)

-- the words of a base

pub first_words-more : (v : Value) (n : ℕ) → first_words v (n + 1) ≡ first_words v n ++ v n ∷ []
first_words-more v n = rw add-one refl

pub first_words-constant : (w : Bits) (n : ℕ) → first_words (constant w) n ≡ replicate n w
first_words-constant w zero = refl
first_words-constant w (suc n) = ap (λ (z : List Bits). z ++ w ∷ []) (first_words-constant w n) ∙ rw add-one at (replicate_more n w)

pub ruleset base_steps = (first_words-more, first_words-constant, take_more_set, take_all)
