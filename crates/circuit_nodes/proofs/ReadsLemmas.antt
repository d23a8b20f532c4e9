-- Nodes keep their values when the state changes where they don't read.
use Rattle.std.proofs.Common.{◌≡◌, ℕ, zero, suc, ◌+◌, ◌<◌, ◌==◌, List, Option, Some, None, slice_get, get_or, if◌then◌else◌, refl, ◌∙◌, ap, arith, inl, inr}
use Rattle.std.proofs.lemmas.Bool.{cases_lt, lt-ltb, le-ltb}
use Rattle.knox_words.specs.Bits.{Bits, word_or}
use Rattle.circuit_nodes.specs.declared.node.Node.{Node}
use Rattle.circuit_nodes.specs.declared.node.Node.TheVariants as node
use Rattle.circuit_nodes.specs.Values.{Value, given, value_at, level_or_zero, constant, words_within}
use Rattle.circuit_nodes.specs.Starts.{Reads, AllRead}

-- two states agree at places of a kind
abbrev pub AgreeAt : (ℕ → Type 0) → List Bits → List Bits → Type 0
AgreeAt P state other = (p : ℕ) → P p → (d : Bits) → get_or state p d ≡ get_or other p d

same-within : (P : ℕ → Type 0) (state other : List Bits) (first n w k : ℕ) → AgreeAt P state other → ((j : ℕ) → j < n → P (first + j)) → words_within state first n w k ≡ words_within other first n w k
same-within P state other first n w k agree r = elim (cases_lt k n) [
  | inl lt ↦ rw (lt-ltb k n lt) (agree (first + k) (r k lt) (word_or w 0))
  | inr le ↦ rw (le-ltb k n le) refl
]

pub same-level : (P : ℕ → Type 0) (ins state other : List Bits) (at : ℕ → Value) (n : Option Node) → AgreeAt P state other → Reads P n → level_or_zero (given ins state) at n ≡ level_or_zero (given ins other) at n
same-level P ins state other at None agree r = refl
same-level P ins state other at (Some (node.Const w)) agree r = refl
same-level P ins state other at (Some (node.Input p w)) agree r = refl
same-level P ins state other at (Some (node.State p w)) agree r = ap constant (agree p r (word_or w 0))
same-level P ins state other at (Some (node.Array p n w)) agree r = (λ t k. same-within P state other p n w k agree r t)
same-level P ins state other at (Some (node.Un o a)) agree r = refl
same-level P ins state other at (Some (node.Bin o a b)) agree r = refl
same-level P ins state other at (Some (node.Slice a high low)) agree r = refl
same-level P ins state other at (Some (node.Uext a n)) agree r = refl
same-level P ins state other at (Some (node.Sext a n)) agree r = refl
same-level P ins state other at (Some (node.Ite c a b)) agree r = refl
same-level P ins state other at (Some (node.Pick c a b)) agree r = refl
same-level P ins state other at (Some (node.Read a i)) agree r = refl
same-level P ins state other at (Some (node.Write a i w)) agree r = refl

pub same-value : (P : ℕ → Type 0) (ins state other : List Bits) (ns : List Node) (i k : ℕ) → AgreeAt P state other → AllRead P ns i → value_at (given ins state) ns i k ≡ value_at (given ins other) ns i k
same-value P ins state other ns zero k agree r = refl
same-value P ins state other ns (suc i) k agree r =
    let less : AllRead P ns i = (λ m l. r m (omega (arith, l))) in
    let last : i < suc i = omega arith in
    let before : value_at (given ins state) ns i ≡ value_at (given ins other) ns i = (λ t m. same-value P ins state other ns i m agree less t) in
    ap (λ (at : ℕ → Value). if k == i then level_or_zero (given ins state) at (slice_get ns i) else at k) before
    ∙ ap (λ (v : Value). if k == i then v else value_at (given ins other) ns i k)
    (same-level P ins state other (value_at (given ins other) ns i) (slice_get ns i) agree (r i last))
