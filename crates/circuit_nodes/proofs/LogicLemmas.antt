-- Nodes keep their values where others are left out on which they don't hang.
use Rattle.std.proofs.Common.{◌≡◌, ℕ, zero, suc, ◌+◌, ◌<◌, ◌≤◌, ◌==◌, nat_lt, List, [], ◌∷◌, ◌++◌, Some, Bool, true, false, set, length, slice_get, get_or, map, if◌then◌else◌, refl, sym, ◌∙◌, ap, subst, arith, eq-eqb, inl, inr}
use Rattle.std.proofs.lemmas.Bool.{cases_lt, cases_eq, lt-ltb, le-ltb}
use Rattle.std.proofs.lemmas.Option.{get_or_from_slice_get}
use Rattle.std.proofs.lemmas.List.{length-set, length-map, get_or-set_same, get_or-set_other, set_past, get_or_past}
use Rattle.knox_words.specs.Bits.{Bits, ite_value}
use Rattle.knox_words.specs.Ops.{op1_value, op2_or, slice_or, uext_or, sext_or}
use Rattle.knox_words.specs.declared.op.Op1.TheVariants.{Not}
use Rattle.circuit_nodes.specs.declared.node.Arg.{Arg}
use Rattle.circuit_nodes.specs.declared.node.Node.{Node}
use Rattle.circuit_nodes.specs.declared.node.Node.TheVariants as node
use Rattle.circuit_nodes.specs.declared.node.Next.{Next}
use Rattle.circuit_nodes.specs.declared.node.Next.TheVariants as next
use Rattle.circuit_nodes.specs.Values.{Given, Value, given, value_at, values_in, level, level_or_zero, arg_word, constant, written, zero_word}
use Rattle.circuit_nodes.specs.Logic.{IsLogic}
use Rattle.circuit_nodes.specs.Needs.{operands, next_place, roots, is_needed, marked, all_marked, node_or, Each, AreClosedFrom, AreNeeds, counted, places_from, moved_place, moved_arg, moved_next, moved_node, kept_node, packed}
use Rattle.circuit_nodes.specs.Ticks.{first_words, size, words_in, next_words, ticked}
use Rattle.circuit_nodes.proofs.ListLemmas.{standing}
use Rattle.circuit_nodes.proofs.ValuesLemmas.{differs, value_at-none, value_at-at, value_at-later}

-- an operand gives the same at its new place
abbrev Agrees : List ℕ → (ℕ → Value) → (ℕ → Value) → ℕ → Type 0
Agrees p by at o = by (moved_place p o) ≡ at o

moved-word : (p : List ℕ) (by at : ℕ → Value) (a : Arg) → Agrees p by at a.node → arg_word by (moved_arg p a) ≡ arg_word at a
moved-word p by at a e = ap (λ (v : Value). if a.complement then op1_value Not (v 0) else v 0) e

-- a node hangs on its operands alone
level-moved : (g : Given) (p : List ℕ) (by at : ℕ → Value) (n : Node) → Each (Agrees p by at) (operands n) → level g by (moved_node p n) ≡ level g at n
level-moved g p by at (node.Const w) r = refl
level-moved g p by at (node.Input k w) r = refl
level-moved g p by at (node.State k w) r = refl
level-moved g p by at (node.Array k n w) r = refl
level-moved g p by at (node.Un o a) r = ap (λ (x : Bits). constant (op1_value o x)) (moved-word p by at a r.0)
level-moved g p by at (node.Bin o a b) r =
    ap (λ (x : Bits). constant (op2_or o x (arg_word by (moved_arg p b)))) (moved-word p by at a r.0)
    ∙ ap (λ (x : Bits). constant (op2_or o (arg_word at a) x)) (moved-word p by at b r.1.0)
level-moved g p by at (node.Slice a h l) r = ap (λ (x : Bits). constant (slice_or x h l)) (moved-word p by at a r.0)
level-moved g p by at (node.Uext a n) r = ap (λ (x : Bits). constant (uext_or x n)) (moved-word p by at a r.0)
level-moved g p by at (node.Sext a n) r = ap (λ (x : Bits). constant (sext_or x n)) (moved-word p by at a r.0)
level-moved g p by at (node.Ite c a b) r =
    ap (λ (x : Bits). constant (ite_value x (arg_word by (moved_arg p a)) (arg_word by (moved_arg p b)))) (moved-word p by at c r.0)
    ∙ (ap (λ (x : Bits). constant (ite_value (arg_word at c) x (arg_word by (moved_arg p b)))) (moved-word p by at a r.1.0)
    ∙ ap (λ (x : Bits). constant (ite_value (arg_word at c) (arg_word at a) x)) (moved-word p by at b r.1.1.0))
level-moved g p by at (node.Pick c a b) r =
    ap (λ (x : Bits). if x.value == 1 then by (moved_place p a) else by (moved_place p b)) (moved-word p by at c r.0)
    ∙ (ap (λ (v : Value). if (arg_word at c).value == 1 then v else by (moved_place p b)) r.1.0
    ∙ ap (λ (v : Value). if (arg_word at c).value == 1 then at a else v) r.1.1.0)
level-moved g p by at (node.Read a i) r =
    ap (λ (x : Bits). constant (by (moved_place p a) x.value)) (moved-word p by at i r.1.0)
    ∙ ap (λ (v : Value). constant (v (arg_word at i).value)) r.0
level-moved g p by at (node.Write a i w) r =
    ap (λ (v : Value). written v (arg_word by (moved_arg p i)).value (arg_word by (moved_arg p w))) r.0
    ∙ (ap (λ (x : Bits). written (at a) x.value (arg_word by (moved_arg p w))) (moved-word p by at i r.1.0)
    ∙ ap (λ (x : Bits). written (at a) (arg_word at i).value x) (moved-word p by at w r.1.1.0))

-- marks

each-one : (P Q : ℕ → Type 0) (os : List ℕ) → ((o : ℕ) → P o → Q o) → Each P os → Each Q os
each-one P Q [] h r = tt
each-one P Q (o ∷ os) h r = (h o r.0, each-one P Q os h r.1)

length-marked : (bound k : ℕ) (needs : List Bool) → length (marked bound k needs) ≡ length needs
length-marked bound k needs = of (nat_lt k bound) where
  of : (b : Bool) → length (if b then set needs k true else needs) ≡ length needs
  of true = length-set needs k true
  of false = refl

pub length-all_marked : (bound : ℕ) (ks : List ℕ) (needs : List Bool) → length (all_marked bound ks needs) ≡ length needs
length-all_marked bound [] needs = refl
length-all_marked bound (k ∷ ks) needs = length-all_marked bound ks (marked bound k needs) ∙ length-marked bound k needs

set-grows : (needs : List Bool) (k j : ℕ) → is_needed needs j ≡ true → is_needed (set needs k true) j ≡ true
set-grows needs k j h = elim (cases_eq j k) [
  | inl e ↦ elim (cases_lt k (length needs)) [
    | inl lt ↦ rw e (get_or-set_same needs k true false lt)
    | inr past ↦ rw (set_past needs k true past) h
  ]
  | inr ne ↦ get_or-set_other needs k j true false ne ∙ h
]

marked-grows : (bound k : ℕ) (needs : List Bool) (j : ℕ) → is_needed needs j ≡ true → is_needed (marked bound k needs) j ≡ true
marked-grows bound k needs j h = of (nat_lt k bound) where
  of : (b : Bool) → is_needed (if b then set needs k true else needs) j ≡ true
  of true = set-grows needs k j h
  of false = h

all_marked-grows : (bound : ℕ) (ks : List ℕ) (needs : List Bool) (j : ℕ) → is_needed needs j ≡ true → is_needed (all_marked bound ks needs) j ≡ true
all_marked-grows bound [] needs j h = h
all_marked-grows bound (k ∷ ks) needs j h = all_marked-grows bound ks (marked bound k needs) j (marked-grows bound k needs j h)

marked-past : (bound k : ℕ) (needs : List Bool) (j : ℕ) → bound ≤ j → is_needed (marked bound k needs) j ≡ is_needed needs j
marked-past bound k needs j le = elim (cases_lt k bound) [
  | inl lt ↦ rw (lt-ltb k bound lt) (get_or-set_other needs k j true false (omega arith))
  | inr past ↦ rw (le-ltb k bound past) refl
]

all_marked-past : (bound : ℕ) (ks : List ℕ) (needs : List Bool) (j : ℕ) → bound ≤ j → is_needed (all_marked bound ks needs) j ≡ is_needed needs j
all_marked-past bound [] needs j le = refl
all_marked-past bound (k ∷ ks) needs j le = all_marked-past bound ks (marked bound k needs) j le ∙ marked-past bound k needs j le

pub all_marked-each : (bound : ℕ) (ks : List ℕ) (needs : List Bool) → bound ≤ length needs → Each (λ (o : ℕ). o < bound → is_needed (all_marked bound ks needs) o ≡ true) ks
all_marked-each bound [] needs le = tt
all_marked-each bound (k ∷ ks) needs le = (
  λ lt. all_marked-grows bound ks (marked bound k needs) k (rw (lt-ltb k bound lt) (get_or-set_same needs k true false (omega arith))),
  all_marked-each bound ks (marked bound k needs) (let e = length-marked bound k needs in omega (arith, e, le)),
)

-- one more node, from the last to the first

pub close-more : (needs : List Bool) (ns : List Node) (i : ℕ) (n : Node) → slice_get ns i ≡ Some n → i ≤ length needs → AreClosedFrom needs ns (i + 1) → AreClosedFrom (all_marked i (operands n) needs) ns i
close-more needs ns i n is le closed k from h =
    let made = all_marked i (operands n) needs in
    elim (cases_eq k i) [
      | inl e ↦
          let own : node_or ns i ≡ n = get_or_from_slice_get ns i n (node.Const zero_word) is in
          subst (λ (m : ℕ). Each (λ (o : ℕ). o < m → is_needed made o ≡ true) (operands (node_or ns m))) (sym e)
          (subst (λ (m : Node). Each (λ (o : ℕ). o < i → is_needed made o ≡ true) (operands m)) (sym own) (all_marked-each i (operands n) needs le))
      | inr ne ↦
          each-one (λ (o : ℕ). o < k → is_needed needs o ≡ true) (λ (o : ℕ). o < k → is_needed made o ≡ true) (operands (node_or ns k))
          (λ o r lt. all_marked-grows i (operands n) needs o (r lt))
          (closed k (omega arith) (sym (all_marked-past i (operands n) needs k from) ∙ h))
    ]

pub close-grows : (needs : List Bool) (i : ℕ) (ks : List ℕ) (j : ℕ) → is_needed needs j ≡ true → is_needed (all_marked i ks needs) j ≡ true
close-grows needs i ks j h = all_marked-grows i ks needs j h

pub close-skip : (needs : List Bool) (ns : List Node) (i : ℕ) → is_needed needs i ≡ false → AreClosedFrom needs ns (i + 1) → AreClosedFrom needs ns i
close-skip needs ns i none closed k from h = elim (cases_eq k i) [
  | inl e ↦
      let bad : true ≡ false = sym h ∙ (ap (is_needed needs) e ∙ none) in
      cc
  | inr ne ↦ closed k (omega arith) h
]

pub close-none : (needs : List Bool) (ns : List Node) (i : ℕ) → length needs ≡ length ns → length ns ≤ i → AreClosedFrom needs ns i
close-none needs ns i long past k from h =
    let none : is_needed needs k ≡ false = get_or_past needs k false (omega (arith, long, past, from)) in
    let bad : true ≡ false = sym h ∙ none in
    cc

pub ruleset close_steps = (close-skip, close-none)

pub roots-held : (ns : List Node) (places : List ℕ) (needs closed : List Bool) → length needs ≡ length ns → ((k : ℕ) → is_needed (all_marked (length needs) places needs) k ≡ true → is_needed closed k ≡ true) → Each (λ (o : ℕ). o < length ns → is_needed closed o ≡ true) places
roots-held ns places needs closed long grows =
    each-one (λ (o : ℕ). o < length needs → is_needed (all_marked (length needs) places needs) o ≡ true) (λ (o : ℕ). o < length ns → is_needed closed o ≡ true) places
    (λ o r lt. grows o (r (omega (arith, long, lt)))) (all_marked-each (length needs) places needs (omega arith))

-- new places

-- how many nodes before a place are needed
rank : List Bool → ℕ → ℕ
rank [] k = 0
rank (b ∷ bs) zero = 0
rank (b ∷ bs) (suc k) = if b then suc (rank bs k) else rank bs k

rank-zero : (needs : List Bool) → rank needs 0 ≡ 0
unfolding rank
rank-zero [] = refl
rank-zero (b ∷ bs) = refl

rank-next : (needs : List Bool) (i : ℕ) → is_needed needs i ≡ true → rank needs (suc i) ≡ suc (rank needs i)
unfolding rank
rank-next [] i h = cc
rank-next (b ∷ bs) zero h = rw h (ap suc (rank-zero bs))
rank-next (b ∷ bs) (suc i) h = of b (rank-next bs i h) where
  of : (b : Bool) → rank bs (suc i) ≡ suc (rank bs i) → (if b then suc (rank bs (suc i)) else rank bs (suc i)) ≡ suc (if b then suc (rank bs i) else rank bs i)
  of true e = ap suc e
  of false e = e

rank-mono : (needs : List Bool) (i j : ℕ) → i ≤ j → rank needs i ≤ rank needs j
unfolding rank
rank-mono [] i j h = omega arith
rank-mono (b ∷ bs) zero j h = omega arith
rank-mono (b ∷ bs) (suc i) zero h = absurd (omega arith)
rank-mono (b ∷ bs) (suc i) (suc j) h = of b (rank-mono bs i j (omega arith)) where
  of : (b : Bool) → rank bs i ≤ rank bs j → (if b then suc (rank bs i) else rank bs i) ≤ (if b then suc (rank bs j) else rank bs j)
  of true e = omega (arith, e)
  of false e = e

rank-most : (needs : List Bool) (i : ℕ) → rank needs i ≤ i
unfolding rank
rank-most [] i = omega arith
rank-most (b ∷ bs) zero = omega arith
rank-most (b ∷ bs) (suc i) = of b (rank-most bs i) where
  of : (b : Bool) → rank bs i ≤ i → (if b then suc (rank bs i) else rank bs i) ≤ suc i
  of true e = omega (arith, e)
  of false e = omega (arith, e)

places-get : (c : ℕ) (needs : List Bool) (k d : ℕ) → k < length needs → get_or (places_from c needs) k d ≡ c + rank needs k
unfolding rank
places-get c [] k d h = absurd (omega arith)
places-get c (b ∷ bs) zero d h = omega arith
places-get c (b ∷ bs) (suc k) d h = places-get (counted c b) bs k d (omega arith) ∙ of b where
  of : (b : Bool) → counted c b + rank bs k ≡ c + (if b then suc (rank bs k) else rank bs k)
  of true = omega arith
  of false = refl

length-places : (c : ℕ) (needs : List Bool) → length (places_from c needs) ≡ length needs
length-places c [] = refl
length-places c (b ∷ bs) = ap suc (length-places (counted c b) bs)

abbrev Places : List Bool → List ℕ
Places needs = places_from 0 needs

moved-within : (needs : List Bool) (k : ℕ) → k < length needs → moved_place (Places needs) k ≡ rank needs k
moved-within needs k h = let e = places-get 0 needs k k h in omega (arith, e)

-- a place from i on stands from the new place of i on
moved-from : (needs : List Bool) (i k : ℕ) → i ≤ k → rank needs i ≤ moved_place (Places needs) k
moved-from needs i k h = elim (cases_lt k (length needs)) [
  | inl lt ↦ let e = moved-within needs k lt in let le = rank-mono needs i k h in omega (arith, e, le)
  | inr past ↦
      let long = length-places 0 needs in
      let e : moved_place (Places needs) k ≡ k = get_or_past (Places needs) k k (omega (arith, long, past)) in
      let le = rank-most needs i in
      omega (arith, e, le, h)
]

slice_get-packed : (p : List ℕ) (needs : List Bool) (ns : List Node) (k : ℕ) (n : Node) → is_needed needs k ≡ true → slice_get ns k ≡ Some n → slice_get (packed p needs ns) (rank needs k) ≡ Some (moved_node p n)
unfolding rank
slice_get-packed p [] ns k n h is = cc
slice_get-packed p (b ∷ bs) [] k n h is = cc
slice_get-packed p (b ∷ bs) (m ∷ ns) zero n h is = let e : m ≡ n = cc in rw (h, e) refl
slice_get-packed p (b ∷ bs) (m ∷ ns) (suc k) n h is = of b (slice_get-packed p bs ns k n h is) where
  of : (b : Bool) → slice_get (packed p bs ns) (rank bs k) ≡ Some (moved_node p n) → slice_get (kept_node b (moved_node p m) ++ packed p bs ns) (if b then suc (rank bs k) else rank bs k) ≡ Some (moved_node p n)
  of true e = e
  of false e = e

length-packed : (p : List ℕ) (needs : List Bool) (ns : List Node) → length needs ≡ length ns → length (packed p needs ns) ≡ rank needs (length ns)
unfolding rank
length-packed p [] [] e = refl
length-packed p [] (n ∷ ns) e = absurd (omega (arith, e))
length-packed p (b ∷ bs) [] e = absurd (omega (arith, e))
length-packed p (b ∷ bs) (n ∷ ns) e = of b (length-packed p bs ns (omega (arith, e))) where
  of : (b : Bool) → length (packed p bs ns) ≡ rank bs (length ns) → length (kept_node b (moved_node p n) ++ packed p bs ns) ≡ (if b then suc (rank bs (length ns)) else rank bs (length ns))
  of true q = ap suc q
  of false q = q

-- values

abbrev Packed : List Bool → List Node → List Node
Packed needs ns = packed (Places needs) needs ns

own-value : (g : Given) (needs : List Bool) (ns : List Node) (i : ℕ) → AreClosedFrom needs ns 0 → length needs ≡ length ns → i < length ns → is_needed needs i ≡ true → ((o : ℕ) → (o < i → is_needed needs o ≡ true) → value_at g (Packed needs ns) (rank needs i) (moved_place (Places needs) o) ≡ value_at g ns i o) → value_at g (Packed needs ns) (rank needs (suc i)) (moved_place (Places needs) i) ≡ level_or_zero g (value_at g ns i) (slice_get ns i)
own-value g needs ns i closed long lt own before =
    let P = Packed needs ns in
    let by = value_at g P (rank needs i) in
    let at = value_at g ns i in
    let found = standing ns i lt in
    let n = found.0 in
    let is = found.1 in
    let same : node_or ns i ≡ n = get_or_from_slice_get ns i n (node.Const zero_word) is in
    let each : Each (Agrees (Places needs) by at) (operands n) = each-one (λ (o : ℕ). o < i → is_needed needs o ≡ true) (Agrees (Places needs) by at) (operands n) before
    (subst (λ (m : Node). Each (λ (o : ℕ). o < i → is_needed needs o ≡ true) (operands m)) same (closed i (omega arith) own)) in
    let place : moved_place (Places needs) i ≡ rank needs i = moved-within needs i (omega (arith, long, lt)) in
    let next = rank-next needs i own in
    let less : rank needs i < rank needs (suc i) = omega (arith, next) in
    ap (value_at g P (rank needs (suc i))) place
    ∙ (value_at-at g P (rank needs (suc i)) (rank needs i) less
    ∙ (ap (level_or_zero g by) (slice_get-packed (Places needs) needs ns i n own is)
    ∙ (level-moved g (Places needs) by at n each
    ∙ sym (ap (level_or_zero g at) is))))

packed-value : (g : Given) (needs : List Bool) (ns : List Node) (i k : ℕ) → AreClosedFrom needs ns 0 → length needs ≡ length ns → i ≤ length ns → (k < i → is_needed needs k ≡ true) → value_at g (Packed needs ns) (rank needs i) (moved_place (Places needs) k) ≡ value_at g ns i k
packed-value g needs ns zero k closed long le h = ap (λ (r : ℕ). value_at g (Packed needs ns) r (moved_place (Places needs) k)) (rank-zero needs)
packed-value g needs ns (suc i) k closed long le h =
    let lt : i < length ns = omega arith in
    let less : i ≤ length ns = omega arith in
    elim (cases_eq k i) [
      | inl e ↦
          let own : is_needed needs i ≡ true = subst (λ (m : ℕ). is_needed needs m ≡ true) e (h (omega arith)) in
          rw (e, eq-eqb i i refl) (own-value g needs ns i closed long lt own (λ o r. packed-value g needs ns i o closed long less r))
      | inr ne ↦ rw (differs k i ne) (elim (cases_lt k i) [
        | inl before ↦
            let needed : is_needed needs k ≡ true = h (omega arith) in
            let place : moved_place (Places needs) k ≡ rank needs k = moved-within needs k (omega (arith, long, lt, before)) in
            let next = rank-next needs k needed in
            let upto : rank needs (suc k) ≤ rank needs i = rank-mono needs (suc k) i (omega arith) in
            let past : rank needs i ≤ rank needs (suc i) = rank-mono needs i (suc i) (omega arith) in
            let within : moved_place (Places needs) k < rank needs i = omega (arith, place, next, upto) in
            sym (value_at-later g (Packed needs ns) (rank needs i) (rank needs (suc i)) (moved_place (Places needs) k) within past)
            ∙ packed-value g needs ns i k closed long less (λ q. needed)
        | inr after ↦
            let from : rank needs (suc i) ≤ moved_place (Places needs) k = moved-from needs (suc i) k (omega (arith, ne, after)) in
            value_at-none g (Packed needs ns) (rank needs (suc i)) (moved_place (Places needs) k) from ∙ sym (value_at-none g ns i k after)
      ])
    ]

-- over all nodes
whole-value : (g : Given) (needs : List Bool) (ns : List Node) (k : ℕ) → AreClosedFrom needs ns 0 → length needs ≡ length ns → (k < length ns → is_needed needs k ≡ true) → value_at g (Packed needs ns) (length (Packed needs ns)) (moved_place (Places needs) k) ≡ value_at g ns (length ns) k
whole-value g needs ns k closed long h =
    ap (λ (i : ℕ). value_at g (Packed needs ns) i (moved_place (Places needs) k)) (length-packed (Places needs) needs ns long)
    ∙ packed-value g needs ns (length ns) k closed long (omega arith) h

-- what is held of places gives operands and states their words
abbrev Held : Given → List Bool → List Node → ℕ → Type 0
Held g needs ns o = value_at g (Packed needs ns) (length (Packed needs ns)) (moved_place (Places needs) o) ≡ value_at g ns (length ns) o

args-packed : (g : Given) (needs : List Bool) (ns : List Node) (args : List Arg) (nexts : List Next) → Each (Held g needs ns) (roots args nexts) → map (arg_word (value_at g (Packed needs ns) (length (Packed needs ns)))) (map (moved_arg (Places needs)) args) ≡ map (arg_word (value_at g ns (length ns))) args
args-packed g needs ns [] nexts held = refl
args-packed g needs ns (a ∷ args) nexts held =
    let one = moved-word (Places needs) (value_at g (Packed needs ns) (length (Packed needs ns))) (value_at g ns (length ns)) a held.0 in
    let more = args-packed g needs ns args nexts held.1 in
    λ t. one t ∷ more t

next-packed : (p : List ℕ) (by at : ℕ → Value) (n : Next) → Agrees p by at (next_place n) → next_words by (moved_next p n) ≡ next_words at n
next-packed p by at (next.Word a) e = ap (λ (w : Bits). w ∷ []) (moved-word p by at a e)
next-packed p by at (next.Array k m) e = ap (λ (v : Value). first_words v m) e

ticks-packed : (g : Given) (needs : List Bool) (ns : List Node) (args : List Arg) (nexts : List Next) → Each (Held g needs ns) (roots args nexts) → ticked (value_at g (Packed needs ns) (length (Packed needs ns))) (map (moved_next (Places needs)) nexts) ≡ ticked (value_at g ns (length ns)) nexts
ticks-packed g needs ns (a ∷ args) nexts held = ticks-packed g needs ns args nexts held.1
ticks-packed g needs ns [] [] held = refl
ticks-packed g needs ns [] (n ∷ nexts) held =
    let one = next-packed (Places needs) (value_at g (Packed needs ns) (length (Packed needs ns))) (value_at g ns (length ns)) n held.0 in
    let more = ticks-packed g needs ns [] nexts held.1 in
    λ t. one t ++ more t

size-moved : (p : List ℕ) (n : Next) → size (moved_next p n) ≡ size n
size-moved p (next.Word a) = refl
size-moved p (next.Array k m) = refl

words-moved : (p : List ℕ) (nexts : List Next) → words_in (map (moved_next p) nexts) ≡ words_in nexts
words-moved p [] = refl
words-moved p (n ∷ nexts) = λ t. size-moved p n t + words-moved p nexts t

pub packed-logic : (p : List ℕ) (needs : List Bool) (ns nodes : List Node) (args outputs : List Arg) (nexts taken : List Next) → p ≡ places_from 0 needs → AreNeeds needs ns (roots args nexts) → nodes ≡ packed p needs ns → outputs ≡ map (moved_arg p) args → taken ≡ map (moved_next p) nexts → IsLogic (record { nodes = nodes; outputs = outputs; nexts = taken }) ns args nexts
packed-logic p needs ns nodes args outputs nexts taken at are made shown fed =
    let q = Places needs in
    let N : nodes ≡ Packed needs ns = made ∙ ap (λ (z : List ℕ). packed z needs ns) at in
    let O : outputs ≡ map (moved_arg q) args = shown ∙ ap (λ (z : List ℕ). map (moved_arg z) args) at in
    let F : taken ≡ map (moved_next q) nexts = fed ∙ ap (λ (z : List ℕ). map (moved_next z) nexts) at in
    let held : (inputs state : List Bits) → Each (Held (given inputs state) needs ns) (roots args nexts) =
    (λ inputs state. each-one (λ (o : ℕ). o < length ns → is_needed needs o ≡ true) (Held (given inputs state) needs ns) (roots args nexts)
    (λ o r. whole-value (given inputs state) needs ns o are.closed are.long r) are.held) in
    let long = ap length N ∙ length-packed q needs ns are.long in
    let most = rank-most needs (length ns) in
    let count = ap length O ∙ length-map args (moved_arg q) in
    record {
      few = omega (arith, long, most);
      count = count;
      words = ap words_in F ∙ words-moved q nexts;
      outputs = λ inputs state.
          ap (λ (z : List Node). map (arg_word (values_in z inputs state)) outputs) N
          ∙ (ap (λ (z : List Arg). map (arg_word (values_in (Packed needs ns) inputs state)) z) O
          ∙ args-packed (given inputs state) needs ns args nexts (held inputs state));
      ticks = λ inputs state.
          ap (λ (z : List Node). ticked (values_in z inputs state) taken) N
          ∙ (ap (λ (z : List Next). ticked (values_in (Packed needs ns) inputs state) z) F
          ∙ ticks-packed (given inputs state) needs ns args nexts (held inputs state));
    }
