-- The values of nodes by place, over more and more of the nodes.
use Rattle.std.proofs.Common.{◌≡◌, ◌≢◌, set, get_or-set_other, get_or-set_same, ℕ, zero, suc, ◌+◌, ◌<◌, ◌≤◌, ◌==◌, List, ◌++◌, Some, false, take, drop, length, slice_get, if◌then◌else◌, refl, sym, ◌∙◌, ap, arith, add-one, eq-eqb, inl, inr}
use Rattle.std.proofs.lemmas.Bool.{cases_lt, lt-ltb, le-ltb}
use Rattle.std.proofs.lemmas.Bool.Decides.{eqb_tells}
use Rattle.std.proofs.lemmas.List.{length-take-le, take-append-drop, take_all}
use Rattle.knox_words.specs.Bits.{Bits}
use Rattle.circuit_nodes.specs.declared.node.Arg.{Arg}
use Rattle.circuit_nodes.specs.declared.node.Node.{Node}
use Rattle.circuit_nodes.specs.declared.node.Node.TheVariants as node
use Rattle.circuit_nodes.proofs.ListLemmas.{slice_get-append}
use Rattle.circuit_nodes.specs.Sources.{room_word, room_arg}
use Rattle.circuit_nodes.specs.Values.{arg_word, Given, Value, value_at, level, level_or_zero, constant, zero_word, IsFilled}

pub differs : (a b : ℕ) → (a ≡ b → ⊥) → a == b ≡ false
differs a b ne = elim (eqb_tells a b) [ inl p ↦ absurd (ne p.1) | inr p ↦ p.0 ]

pub value_at-own : (g : Given) (ns : List Node) (i : ℕ) → value_at g ns (i + 1) i ≡ level_or_zero g (value_at g ns i) (slice_get ns i)
value_at-own g ns i = rw (add-one, eq-eqb i i refl) refl

pub value_at-past : (g : Given) (ns : List Node) (i k : ℕ) → k < i → value_at g ns (i + 1) k ≡ value_at g ns i k
value_at-past g ns i k h = let ne : (k ≡ i → ⊥) = (λ e. omega arith) in rw (add-one, differs k i ne) refl

pub value_at-none : (g : Given) (ns : List Node) (i k : ℕ) → i ≤ k → value_at g ns i k ≡ constant zero_word
value_at-none g ns zero k h = refl
value_at-none g ns (suc i) k h =
    let ne : (k ≡ i → ⊥) = (λ e. omega arith) in
    let le : i ≤ k = omega arith in
    rw (differs k i ne) (value_at-none g ns i k le)

-- a node's value, over any number of nodes past it
pub value_at-at : (g : Given) (ns : List Node) (i k : ℕ) → k < i → value_at g ns i k ≡ level_or_zero g (value_at g ns k) (slice_get ns k)
value_at-at g ns zero k h = absurd (omega arith)
value_at-at g ns (suc i) k h = elim (cases_lt k i) [
  | inl lt ↦ let ne : (k ≡ i → ⊥) = (λ e. omega arith) in rw (differs k i ne) (value_at-at g ns i k lt)
  | inr le ↦ let e : k ≡ i = omega arith in rw (e, eq-eqb i i refl) refl
]

-- a node's value doesn't change as later nodes are counted
pub value_at-later : (g : Given) (ns : List Node) (i j k : ℕ) → k < i → i ≤ j → value_at g ns i k ≡ value_at g ns j k
value_at-later g ns i j k h le = let lt : k < j = omega arith in value_at-at g ns i k h ∙ sym (value_at-at g ns j k lt)

pub fewer : (g : Given) (ns : List Node) (room : List Bits) (i j : ℕ) → j ≤ i → IsFilled g ns room i → IsFilled g ns room j
fewer g ns room i j le f k h =
    let lt : k < i = omega arith in
    f k lt ∙ ap (λ (v : Value). v 0) (value_at-at g ns i k lt ∙ sym (value_at-at g ns j k h))

-- the node at a place gives its level
pub stands : (g : Given) (ns : List Node) (i k : ℕ) (n : Node) → k < i → slice_get ns k ≡ Some n → value_at g ns i k ≡ level g (value_at g ns k) n
stands g ns i k n h e = value_at-at g ns i k h ∙ ap (level_or_zero g (value_at g ns k)) e

-- what a filled scratch area holds
pub room_word-filled : (g : Given) (ns : List Node) (room : List Bits) (i k : ℕ) → IsFilled g ns room i → room_word room i k ≡ value_at g ns i k 0
room_word-filled g ns room i k f = elim (cases_lt k i) [
  | inl lt ↦ rw (lt-ltb k i lt) (f k lt)
  | inr le ↦ rw (le-ltb k i le) (ap (λ (v : Value). v 0) (sym (value_at-none g ns i k le)))
]

pub room_arg-filled : (g : Given) (ns : List Node) (room : List Bits) (i : ℕ) (a : Arg) → IsFilled g ns room i → room_arg room i a ≡ arg_word (value_at g ns i) a
room_arg-filled g ns room i a f = rw (room_word-filled g ns room i a.node f) refl

pub ruleset room_steps = (room_word-filled, room_arg-filled)

pub ruleset place_steps = (value_at-own, value_at-past, value_at-none, value_at-at, fewer, stands)

-- a node that is no array gives one word at each index
pub flat : (g : Given) (at : ℕ → Value) (n : Node) → ((p m w : ℕ) → n ≡ node.Array p m w → ⊥) → ((c : Arg) (a b : ℕ) → n ≡ node.Pick c a b → ⊥) → ((a : ℕ) (i w : Arg) → n ≡ node.Write a i w → ⊥) → (j k : ℕ) → level g at n j ≡ level g at n k
flat g at (node.Const w) p q r j k = refl
flat g at (node.Input f w) p q r j k = refl
flat g at (node.State f w) p q r j k = refl
flat g at (node.Array f m w) p q r j k = absurd (p f m w refl)
flat g at (node.Un o a) p q r j k = refl
flat g at (node.Bin o a b) p q r j k = refl
flat g at (node.Slice a h l) p q r j k = refl
flat g at (node.Uext a n) p q r j k = refl
flat g at (node.Sext a n) p q r j k = refl
flat g at (node.Ite c a b) p q r j k = refl
flat g at (node.Pick c a b) p q r j k = absurd (q c a b refl)
flat g at (node.Read a i) p q r j k = refl
flat g at (node.Write a i w) p q r j k = absurd (r a i w refl)

-- nor as later nodes are added
pub value_at-append : (g : Given) (ns ms : List Node) (i k : ℕ) → i ≤ length ns → value_at g (ns ++ ms) i k ≡ value_at g ns i k
value_at-append g ns ms zero k h = refl
value_at-append g ns ms (suc i) k h =
    let lt : i < length ns = omega arith in
    let le : i ≤ length ns = omega arith in
    let before : value_at g (ns ++ ms) i ≡ value_at g ns i = (λ t j. value_at-append g ns ms i j le t) in
    rw (slice_get-append ns ms i lt) (ap (λ (at : ℕ → Value). if k == i then level_or_zero g at (slice_get ns i) else at k) before)

-- the first nodes alone give their values
pub value_at-front : (g : Given) (ns : List Node) (n k : ℕ) → n ≤ length ns → value_at g (take n ns) n k ≡ value_at g ns n k
value_at-front g ns n k le =
    let long : length (take n ns) ≡ n = length-take-le n ns le in
    sym (ap (λ (z : List Node). value_at g z n k) (sym (take-append-drop n ns))
    ∙ value_at-append g (take n ns) (drop n ns) n k (omega (arith, long)))

-- the same over all nodes, and where the first are all
pub value_at-take : (g : Given) (ns : List Node) (n k : ℕ) → k < n → value_at g (take n ns) (length (take n ns)) k ≡ value_at g ns (length ns) k
value_at-take g ns n k lt = elim (cases_lt (length ns) n) [
  | inl more ↦ ap (λ (z : List Node). value_at g z (length z) k) (take_all n ns (omega arith))
  | inr le ↦
      ap (λ (i : ℕ). value_at g (take n ns) i k) (length-take-le n ns le)
      ∙ (value_at-front g ns n k le ∙ value_at-later g ns n (length ns) k lt le)
]

-- one more place is filled
pub filled-more : (g : Given) (ns : List Node) (room : List Bits) (i : ℕ) (w : Bits) → i < length room → IsFilled g ns room i → w ≡ value_at g ns (i + 1) i 0 → IsFilled g ns (set room i w) (i + 1)
filled-more g ns room i w h f e k lt = elim (cases_lt k i) [
  | inl l ↦
      let ne : k ≢ i = omega arith in
      rw get_or-set_other (f k l ∙ ap (λ (v : Value). v 0) (sym (value_at-past g ns i k l)))
  | inr r ↦
      let is : k ≡ i = omega arith in
      rw is (rw get_or-set_same e)
]

pub filled-none : (g : Given) (ns : List Node) (room : List Bits) → IsFilled g ns room 0
filled-none g ns room k h = absurd (omega arith)

pub ruleset filling = (filled-more, filled-none, fewer)

pub ruleset append_steps = (value_at-append)
