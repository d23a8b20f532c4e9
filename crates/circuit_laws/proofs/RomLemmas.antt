-- The words that an `init` gives whatever the state: a constant, or a chain of writes over a bare state.
use Rattle.std.proofs.Common.{◌≡◌, ℕ, zero, suc, ◌<◌, nat_lt, nat_le, List, [], ◌∷◌, Option, Some, None, Bool, true, false, set, replicate, length, slice_get, get_or, refl, sym, ◌∙◌, ap, subst, arith, eq-eqb, inl, inr, if◌then◌else◌}
use Rattle.std.proofs.lemmas.Bool.{cases_lt, cases_eq, lt-ltb, le-ltb}
use Rattle.std.proofs.lemmas.List.{length-set, length-replicate, get_or-replicate}
use Rattle.std.proofs.lemmas.Option.{slice_get_within}
use Rattle.knox_words.specs.Bits.{Bits}
use Rattle.knox_words.specs.Ops.{op1_value}
use Rattle.knox_words.specs.declared.op.Op1.TheVariants.{Not}
use Rattle.circuit_nodes.specs.declared.node.Arg.{Arg}
use Rattle.circuit_nodes.specs.declared.node.Node.{Node}
use Rattle.circuit_nodes.specs.declared.node.Node.TheVariants as node
use Rattle.circuit_nodes.specs.declared.node.Next.{Next}
use Rattle.circuit_nodes.specs.declared.node.Next.TheVariants as next
use Rattle.circuit_nodes.specs.Values.{Given, Value, given, value_at, level_or_zero, arg_word, constant, written}
use Rattle.circuit_nodes.specs.Ticks.{first_words}
use Rattle.circuit_nodes.specs.Starts.{values, words_by, by_init}
use Rattle.circuit_nodes.proofs.ValuesLemmas.{differs, stands}
use Rattle.circuit_nodes.specs.declared.node.State.{State}
use Rattle.knox_circuit.specs.Rom as rom
use Rattle.knox_circuit.specs.Rom.{Put, node_word, linked, puts_of, chain_at, put_if, put_under, under, laid, known_or, init_known}
use Rattle.circuit_laws.proofs.FitLemmas.{first_words-at}

-- a value that some writes give over another
abbrev pub Chains : Value → List Put → Type 0
Chains v [] = Unit {0}
Chains v (p ∷ ps) = (u : Value) × (v ≡ written u p.index p.word) × Chains u ps

-- constants

constant-node : (g : Given) (ns : List Node) (i k : ℕ) (w : Bits) (o : Option Node) → k < i → slice_get ns k ≡ o → node_word o ≡ Some w → value_at g ns i k ≡ constant w
constant-node g ns i k w None lt is e = cc
constant-node g ns i k w (Some (node.Const v)) lt is e = let same : v ≡ w = cc in stands g ns i k (node.Const v) lt is ∙ ap constant same
constant-node g ns i k w (Some _) lt is e = cc

constant-plain : (g : Given) (ns : List Node) (i k : ℕ) (w : Bits) → (if nat_lt k i then node_word (slice_get ns k) else None) ≡ Some w → value_at g ns i k ≡ constant w
constant-plain g ns i k w e = elim (cases_lt k i) [
  | inl lt ↦ constant-node g ns i k w (slice_get ns k) lt refl (sym (ap (λ (b : Bool). if b then node_word (slice_get ns k) else None) (lt-ltb k i lt)) ∙ e)
  | inr le ↦ let bad : None ≡ Some w = sym (ap (λ (b : Bool). if b then node_word (slice_get ns k) else None) (le-ltb k i le)) ∙ e in cc
]

constant-arg : (g : Given) (ns : List Node) (i : ℕ) (a : Arg) (w : Bits) → rom.constant i ns a ≡ Some w → arg_word (value_at g ns i) a ≡ w
constant-arg g ns i a w e = of a.complement e where
  of : (b : Bool) → (if b then None else if nat_lt a.node i then node_word (slice_get ns a.node) else None) ≡ Some w → (if b then op1_value Not (value_at g ns i a.node 0) else value_at g ns i a.node 0) ≡ w
  of true e = cc
  of false e = ap (λ (v : Value). v 0) (constant-plain g ns i a.node w e)

-- chains

chain-link : (g : Given) (ns : List Node) (i : ℕ) (x y : Arg) (u : Value) (ix wx : Option Bits) (o : Option (List Put)) (ps : List Put) → rom.constant i ns x ≡ ix → rom.constant i ns y ≡ wx → linked ix wx o ≡ Some ps → ((qs : List Put) → o ≡ Some qs → Chains u qs) → Chains (written u (arg_word (value_at g ns i) x).value (arg_word (value_at g ns i) y)) ps
chain-link g ns i x y u (Some a) (Some b) (Some qs) ps ea eb e h =
    let same : record { index = a.value; word = b } ∷ qs ≡ ps = cc in
    subst (Chains (written u (arg_word (value_at g ns i) x).value (arg_word (value_at g ns i) y))) same (
      u,
      ap (λ (z : Bits). written u z.value (arg_word (value_at g ns i) y)) (constant-arg g ns i x a ea) ∙ ap (written u a.value) (constant-arg g ns i y b eb),
      h qs refl,
    )
chain-link g ns i x y u (Some a) (Some b) None ps ea eb e h = cc
chain-link g ns i x y u (Some a) None o ps ea eb e h = cc
chain-link g ns i x y u None wx o ps ea eb e h = cc

chain-base : (v : Value) (b : Bool) (ps : List Put) → (if b then Some [] else None) ≡ Some ps → Chains v ps
chain-base v true ps e = let same : [] ≡ ps = cc in subst (Chains v) same tt
chain-base v false ps e = cc

chain-level : (cells : ℕ) (g : Given) (ns : List Node) (i : ℕ) (n : Option Node) (ps : List Put) → ((k : ℕ) (qs : List Put) → chain_at cells ns i k ≡ Some qs → Chains (value_at g ns i k) qs) → puts_of cells ns i (chain_at cells ns i) n ≡ Some ps → Chains (level_or_zero g (value_at g ns i) n) ps
chain-level cells g ns i None ps h e = cc
chain-level cells g ns i (Some (node.Array p n w)) ps h e = chain-base _ (nat_le cells p) ps e
chain-level cells g ns i (Some (node.Write a x y)) ps h e =
    chain-link g ns i x y (value_at g ns i a) (rom.constant i ns x) (rom.constant i ns y) (chain_at cells ns i a) ps refl refl e (λ qs q. h a qs q)
chain-level cells g ns i (Some _) ps h e = cc

pub chain-value : (cells : ℕ) (g : Given) (ns : List Node) (i k : ℕ) (ps : List Put) → chain_at cells ns i k ≡ Some ps → Chains (value_at g ns i k) ps
chain-value cells g ns zero k ps e = cc
chain-value cells g ns (suc i) k ps e = elim (cases_eq k i) [
  | inl q ↦
      let own : puts_of cells ns i (chain_at cells ns i) (slice_get ns i) ≡ Some ps = sym (ap (λ (b : Bool). if b then puts_of cells ns i (chain_at cells ns i) (slice_get ns i) else chain_at cells ns i k) (eq-eqb k i q)) ∙ e in
      subst (λ (v : Value). Chains v ps) (sym (ap (λ (b : Bool). if b then level_or_zero g (value_at g ns i) (slice_get ns i) else value_at g ns i k) (eq-eqb k i q)))
      (chain-level cells g ns i (slice_get ns i) ps (λ j qs h. chain-value cells g ns i j qs h) own)
  | inr ne ↦
      let before : chain_at cells ns i k ≡ Some ps = sym (ap (λ (b : Bool). if b then puts_of cells ns i (chain_at cells ns i) (slice_get ns i) else chain_at cells ns i k) (differs k i ne)) ∙ e in
      subst (λ (v : Value). Chains v ps) (sym (ap (λ (b : Bool). if b then level_or_zero g (value_at g ns i) (slice_get ns i) else value_at g ns i k) (differs k i ne)))
      (chain-value cells g ns i k ps before)
]

-- what is known of a value, and of the one beneath it

record Agree (v u : Value) (known : List (Option Bits)) : Type 0 where
  over : (j : ℕ) (w : Bits) → slice_get known j ≡ Some (Some w) → v j ≡ w
  beneath : (j : ℕ) → slice_get known j ≡ Some None → v j ≡ u j

set-same : {X : Type 0} (xs : List X) (i : ℕ) (x o : X) → slice_get xs i ≡ Some o → slice_get (set xs i x) i ≡ Some x
set-same [] i x o is = cc
set-same (y ∷ xs) zero x o is = refl
set-same (y ∷ xs) (suc i) x o is = set-same xs i x o is

set-other : {X : Type 0} (xs : List X) (i j : ℕ) (x : X) → (j ≡ i → ⊥) → slice_get (set xs i x) j ≡ slice_get xs j
set-other [] i j x ne = refl
set-other (y ∷ xs) zero zero x ne = absurd (ne refl)
set-other (y ∷ xs) zero (suc j) x ne = refl
set-other (y ∷ xs) (suc i) zero x ne = refl
set-other (y ∷ xs) (suc i) (suc j) x ne = set-other xs i j x (λ e. ne (ap suc e))

agree-set : (v u t : Value) (known : List (Option Bits)) (i : ℕ) (w : Bits) → u ≡ written t i w → Agree v u known → (o : Option (Option Bits)) → slice_get known i ≡ o → Agree v t (put_if o known i w)
agree-set v u t known i w e a (Some None) is = record {
  over = λ j x h. elim (cases_eq j i) [
    | inl q ↦
        let own : Some (Some w) ≡ Some (Some x) = sym (ap (slice_get (set known i (Some w))) q ∙ set-same known i (Some w) None is) ∙ h in
        let same : w ≡ x = cc in
        a.beneath j (ap (slice_get known) q ∙ is) ∙ (ap (λ (f : Value). f j) e ∙ (ap (λ (b : Bool). if b then w else t j) (eq-eqb j i q) ∙ same))
    | inr ne ↦ a.over j x (sym (set-other known i j (Some w) ne) ∙ h)
  ];
  beneath = λ j h. elim (cases_eq j i) [
    | inl q ↦
        let own : Some (Some w) ≡ Some None = sym (ap (slice_get (set known i (Some w))) q ∙ set-same known i (Some w) None is) ∙ h in
        cc
    | inr ne ↦
        a.beneath j (sym (set-other known i j (Some w) ne) ∙ h)
        ∙ (ap (λ (f : Value). f j) e ∙ ap (λ (b : Bool). if b then w else t j) (differs j i ne))
  ];
}
agree-set v u t known i w e a (Some (Some x)) is = record {
  over = a.over;
  beneath = λ j h. elim (cases_eq j i) [
    | inl q ↦ let bad : Some (Some x) ≡ Some None = sym (ap (slice_get known) q ∙ is) ∙ h in cc
    | inr ne ↦ a.beneath j h ∙ (ap (λ (f : Value). f j) e ∙ ap (λ (b : Bool). if b then w else t j) (differs j i ne))
  ];
}
agree-set v u t known i w e a None is = record {
  over = a.over;
  beneath = λ j h. elim (cases_eq j i) [
    | inl q ↦ let bad : None ≡ Some None = sym (ap (slice_get known) q ∙ is) ∙ h in cc
    | inr ne ↦ a.beneath j h ∙ (ap (λ (f : Value). f j) e ∙ ap (λ (b : Bool). if b then w else t j) (differs j i ne))
  ];
}

under-agrees : (v u : Value) (known : List (Option Bits)) (ps : List Put) → Chains u ps → Agree v u known → (j : ℕ) (w : Bits) → slice_get (under known ps) j ≡ Some (Some w) → v j ≡ w
under-agrees v u known [] c a j w h = a.over j w h
under-agrees v u known (p ∷ ps) c a j w h = under-agrees v c.0 (put_under known p.index p.word) ps c.2 (agree-set v u c.0 known p.index p.word c.1 a (slice_get known p.index) refl) j w h

pub slice_get-replicate : {X : Type 0} (n j : ℕ) (x y : X) → slice_get (replicate n x) j ≡ Some y → (x ≡ y) × (j < n)
slice_get-replicate n j x y h =
    let within = slice_get_within (replicate n x) j y h in
    let lt : j < n = omega (arith, within, length-replicate n x) in
    (at n j lt h, lt) where
      at : (m i : ℕ) → i < m → slice_get (replicate m x) i ≡ Some y → x ≡ y
      at zero i lt h = absurd (omega arith)
      at (suc m) zero lt h = cc
      at (suc m) (suc i) lt h = at m i (omega arith) h

none-agree : (v : Value) (n : ℕ) → Agree v v (replicate n None)
none-agree v n = record {
  over = λ j w h. let same = slice_get-replicate n j None (Some w) h in let bad : None ≡ Some w = same.0 in cc;
  beneath = λ j h. refl;
}

length-put_if : (o : Option (Option Bits)) (known : List (Option Bits)) (i : ℕ) (w : Bits) → length (put_if o known i w) ≡ length known
length-put_if None known i w = refl
length-put_if (Some None) known i w = length-set known i (Some w)
length-put_if (Some (Some x)) known i w = refl

length-under : (known : List (Option Bits)) (ps : List Put) → length (under known ps) ≡ length known
length-under known [] = refl
length-under known (p ∷ ps) = length-under (put_under known p.index p.word) ps ∙ length-put_if (slice_get known p.index) known p.index p.word

-- the words that an `init` gives are those that are known

chain-words : (cells : ℕ) (ns : List Node) (state : List Bits) (n k : ℕ) (o : Option (List Put)) → chain_at cells ns (length ns) k ≡ o → (j : ℕ) (d w : Bits) → slice_get (known_or n (laid (replicate n None) o)) j ≡ Some (Some w) → get_or (first_words (values ns state k) n) j d ≡ w
chain-words cells ns state n k None is j d w h = let same = slice_get-replicate n j None (Some w) h in let bad : None ≡ Some w = same.0 in cc
chain-words cells ns state n k (Some ps) is j d w h =
    let within = slice_get_within (under (replicate n None) ps) j (Some w) h in
    let none : Option Bits = None in
    let lt : j < n = omega (arith, within, length-under (replicate n none) ps, length-replicate n none) in
    first_words-at (values ns state k) n j d lt
    ∙ under-agrees (values ns state k) (values ns state k) (replicate n None) ps (chain-value cells (given [] state) ns (length ns) k ps is) (none-agree (values ns state k) n) j w h

pub init-words : (cells : ℕ) (ns : List Node) (s : State) (state old noise : List Bits) (init : Option Next) (j : ℕ) (d w : Bits) → slice_get (init_known cells ns s.words init) j ≡ Some (Some w) → get_or (words_by (values ns state) s old noise (by_init init)) j d ≡ w
init-words cells ns s state old noise None j d w h = let same = slice_get-replicate s.words j None (Some w) h in let bad : None ≡ Some w = same.0 in cc
init-words cells ns s state old noise (Some (next.Word a)) j d w h =
    let same = slice_get-replicate s.words j (rom.constant (length ns) ns a) (Some w) h in
    get_or-replicate s.words j (arg_word (values ns state) a) d same.1 ∙ constant-arg (given [] state) ns (length ns) a w same.0
init-words cells ns s state old noise (Some (next.Array k m)) j d w h = chain-words cells ns state s.words k (chain_at cells ns (length ns) k) refl j d w h

length-known : (n : ℕ) (o : Option (List Put)) → length (known_or n (laid (replicate n None) o)) ≡ n
length-known n None = length-replicate n None
length-known n (Some ps) = length-under (replicate n None) ps ∙ length-replicate n None

pub length-init : (cells : ℕ) (ns : List Node) (n : ℕ) (init : Option Next) → length (init_known cells ns n init) ≡ n
length-init cells ns n None = length-replicate n None
length-init cells ns n (Some (next.Word a)) = length-replicate n (rom.constant (length ns) ns a)
length-init cells ns n (Some (next.Array k m)) = length-known n (chain_at cells ns (length ns) k)
