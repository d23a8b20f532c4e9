-- Every value has the width of its sort at each index, where the words that nodes read have theirs.
use Rattle.std.proofs.Common.{◌≡◌, ℕ, zero, suc, ◌+◌, ◌<◌, ◌==◌, ◌&&◌, List, Option, Some, None, Bool, true, false, take, length, slice_get, refl, sym, ◌∙◌, ap, subst, arith, eq-eqb, eqb-true, inl, inr, if◌then◌else◌}
use Rattle.std.proofs.lemmas.Bool.{and_parts, cases_lt, cases_eq, lt-ltb, le-ltb}
use Rattle.std.proofs.lemmas.List.{take_all, length-map}
use Rattle.std.proofs.lemmas.Option.{slice_get_within, slice_get-map, cond_some}
use Rattle.std.specs.Option.{option_map}
use Rattle.knox_words.specs.Bits.{Bits, word_or}
use Rattle.knox_words.specs.Lists.{fits}
use Rattle.knox_words.specs.Ops.{op1_value, op2_or, slice_or, uext_or, sext_or}
use Rattle.knox_words.specs.Typing.{op2_typed, slice_typed, extended}
use Rattle.knox_words.specs.declared.op.Op1.{Op1}
use Rattle.knox_words.specs.declared.op.Op1.TheVariants.{Not}
use Rattle.knox_words.specs.declared.op.Op2.{Op2}
use Rattle.knox_words.proofs.Results.{op1_value-fits, ite_value-fits}
use Rattle.knox_words.proofs.TypingLemmas.{op2_or-typed, slice_or-typed, uext_or-typed, sext_or-typed}
use Rattle.circuit_nodes.specs.declared.node.Arg.{Arg}
use Rattle.circuit_nodes.specs.declared.node.Node.{Node}
use Rattle.circuit_nodes.specs.declared.node.Node.TheVariants as node
use Rattle.circuit_nodes.specs.declared.node.SortOf.{SortOf}
use Rattle.circuit_nodes.specs.declared.node.SortOf.TheVariants.{Words, Arrays}
use Rattle.circuit_nodes.specs.declared.node.Kind.{Kind}
use Rattle.circuit_nodes.specs.declared.node.Kind.TheVariants as kind
use Rattle.circuit_nodes.specs.declared.node.Row.{Row}
use Rattle.circuit_nodes.specs.Values.{Given, Value, word_or_zero, arg_word, level, level_or_zero, value_at, words_within}
use Rattle.circuit_nodes.proofs.ListLemmas.{slice_get-take, length-take-most}
use Rattle.circuit_nodes.proofs.ValuesLemmas.{differs}
use Rattle.circuit_table.specs.Sorts.{word_width, is_sort, are_one, is_width_up_to}
use Rattle.circuit_table.specs.Operators.{words_of, un_sort, bin_sort, slice_sort, extended_sort, ite_sort, read_sort, write_sort}
use Rattle.circuit_table.specs.Rows.{kinds_of, inputs_in}
use Rattle.circuit_table.specs.Typed.{kind_sort, sort_in, IsTyped, IsTypedKind, AreTyped}
use Rattle.circuit_table.proofs.SortsLemmas.{are_one-is, up_to}
use Rattle.knox_circuit.specs.Parts.{kind_node, with_first}
use Rattle.circuit_laws.proofs.FitLemmas.{zero-fits}

-- a word of the width of a sort at each index
abbrev pub Suits : SortOf → Value → Type 0
Suits t v = (k : ℕ) → fits (word_width t) (v k) ≡ true

-- the words that a node reads have its width
abbrev pub ReadsFit : Given → Node → Type 0
ReadsFit g (node.Input p w) = fits w (word_or_zero g.inputs w p) ≡ true
ReadsFit g (node.State p w) = fits w (word_or_zero g.state w p) ≡ true
ReadsFit g (node.Array p n w) = (j : ℕ) → j < n → fits w (word_or_zero g.state w (p + j)) ≡ true
ReadsFit g _ = Unit {0}

-- operators

abbrev pub Sorts : Type 0
Sorts = ℕ → Option SortOf

abbrev pub AllSuit : Sorts → (ℕ → Value) → Type 0
AllSuit sorts at = (k : ℕ) (s : SortOf) → sorts k ≡ Some s → Suits s (at k)

pub arg-fits : (at : ℕ → Value) (a : Arg) (s : SortOf) → Suits s (at a.node) → fits (word_width s) (arg_word at a) ≡ true
arg-fits at a s h = of a.complement where
  of : (b : Bool) → fits (word_width s) (if b then op1_value Not (at a.node 0) else at a.node 0) ≡ true
  of true = op1_value-fits Not (word_width s) (at a.node 0) (h 0)
  of false = h 0

words-some : (o : Option ℕ) (t : SortOf) → words_of o ≡ Some t → (u : ℕ) × (o ≡ Some u) × (t ≡ Words u)
words-some None t e = cc
words-some (Some u) t e = let same : Words u ≡ t = cc in (u, refl, sym same)

fits-sort : (t : SortOf) (u : ℕ) (x : Bits) → t ≡ Words u → fits u x ≡ true → fits (word_width t) x ≡ true
fits-sort t u x e h = subst (λ (s : SortOf). fits (word_width s) x ≡ true) (sym e) h

un-fits : (o : Op1) (s t : SortOf) (x : Bits) → un_sort o (Some s) ≡ Some t → fits (word_width s) x ≡ true → fits (word_width t) (op1_value o x) ≡ true
un-fits o (Words w) t x e h = let same = words-same _ t e in fits-sort t _ (op1_value o x) same (op1_value-fits o w x h) where
  words-same : (u : ℕ) (t : SortOf) → Some (Words u) ≡ Some t → t ≡ Words u
  words-same u t e = let q : Words u ≡ t = cc in sym q
un-fits o (Arrays i w) t x e h = cc

bin-fits : (o : Op2) (s r t : SortOf) (x y : Bits) → bin_sort o (Some s) (Some r) ≡ Some t → fits (word_width s) x ≡ true → fits (word_width r) y ≡ true → fits (word_width t) (op2_or o x y) ≡ true
bin-fits o (Words w) (Words v) t x y e h k =
    let is = words-some (op2_typed o w v) t e in fits-sort t is.0 (op2_or o x y) is.2 (op2_or-typed o w v is.0 x y is.1 h k)
bin-fits o (Words w) (Arrays i v) t x y e h k = cc
bin-fits o (Arrays i w) r t x y e h k = cc

slice-fits : (high low : ℕ) (s t : SortOf) (x : Bits) → slice_sort (Some s) high low ≡ Some t → fits (word_width s) x ≡ true → fits (word_width t) (slice_or x high low) ≡ true
slice-fits high low (Words w) t x e h =
    let is = words-some (slice_typed w high low) t e in fits-sort t is.0 (slice_or x high low) is.2 (slice_or-typed w high low is.0 x is.1 h)
slice-fits high low (Arrays i w) t x e h = cc

uext-fits : (n : ℕ) (s t : SortOf) (x : Bits) → extended_sort (Some s) n ≡ Some t → fits (word_width s) x ≡ true → fits (word_width t) (uext_or x n) ≡ true
uext-fits n (Words w) t x e h = let is = words-some (extended w n) t e in fits-sort t is.0 (uext_or x n) is.2 (uext_or-typed w n is.0 x is.1 h)
uext-fits n (Arrays i w) t x e h = cc

sext-fits : (n : ℕ) (s t : SortOf) (x : Bits) → extended_sort (Some s) n ≡ Some t → fits (word_width s) x ≡ true → fits (word_width t) (sext_or x n) ≡ true
sext-fits n (Words w) t x e h = let is = words-some (extended w n) t e in fits-sort t is.0 (sext_or x n) is.2 (sext_or-typed w n is.0 x is.1 h)
sext-fits n (Arrays i w) t x e h = cc

-- both arms of a choice have its sort
ite-same : (c a b t : SortOf) → ite_sort (Some c) (Some a) (Some b) ≡ Some t → (a ≡ t) × (b ≡ t)
ite-same c a b t e =
    let is = cond_some (are_one (Some c) (Some (Words 1)) && are_one (Some a) (Some b)) a t e in
    let one : Some b ≡ Some a = are_one-is a (Some b) (and_parts (are_one (Some c) (Some (Words 1))) (are_one (Some a) (Some b)) is.0).1 in
    let same : b ≡ a = cc in
    (is.1, same ∙ is.1)

read-same : (a i t : SortOf) → read_sort (Some a) (Some i) ≡ Some t → word_width t ≡ word_width a
read-same (Arrays i e) (Words w) t h = let is = cond_some (i == w) (Words e) t h in ap word_width (sym is.1)
read-same (Arrays i e) (Arrays j f) t h = cc
read-same (Words v) i t h = cc

write-same : (a i w t : SortOf) → write_sort (Some a) (Some i) (Some w) ≡ Some t → (word_width t ≡ word_width a) × (word_width t ≡ word_width w)
write-same (Arrays i e) (Words w) (Words v) t h =
    let is = cond_some (i == w && e == v) (Arrays i e) t h in
    let same : e ≡ v = eqb-true e v (and_parts (i == w) (e == v) is.0).1 in
    let wide : word_width t ≡ e = ap word_width (sym is.1) in
    (wide, wide ∙ same)
write-same (Arrays i e) (Words w) (Arrays j f) t h = cc
write-same (Arrays i e) (Arrays j f) w t h = cc
write-same (Words v) i w t h = cc

-- a node's value has its sort where those of the nodes before have theirs
level-suits : (g : Given) (at : ℕ → Value) (sorts : Sorts) (ins : List ℕ) (t : SortOf) (f : ℕ) (n : Node) → AllSuit sorts at → is_sort t ≡ true → IsTyped sorts ins t n → ReadsFit g (with_first f n) → Suits t (level g at (with_first f n))
level-suits g at sorts ins t f (node.Const w) all sort h reads k = fits-sort t h.0 w h.1 h.2
level-suits g at sorts ins t f (node.Input p w) all sort h reads k = fits-sort t w (word_or_zero g.inputs w p) h.0 reads
level-suits g at sorts ins t f (node.State p w) all sort h reads k = fits-sort t w (word_or_zero g.state w f) h reads
level-suits g at sorts ins t f (node.Array p n w) all sort h reads k =
    let limits : is_sort (Arrays h.0 w) ≡ true = subst (λ (s : SortOf). is_sort s ≡ true) h.1 sort in
    let range = up_to 128 w (and_parts (is_width_up_to 12 h.0) (is_width_up_to 128 w) limits).1 in
    let own : fits w (words_within g.state f n w k) ≡ true = elim (cases_lt k n) [
      | inl lt ↦ subst (λ (b : Bool). fits w (if b then word_or_zero g.state w (f + k) else word_or w 0) ≡ true) (sym (lt-ltb k n lt)) (reads k lt)
      | inr le ↦ subst (λ (b : Bool). fits w (if b then word_or_zero g.state w (f + k) else word_or w 0) ≡ true) (sym (le-ltb k n le)) (zero-fits w range.0 range.1)
    ] in
    subst (λ (s : SortOf). fits (word_width s) (words_within g.state f n w k) ≡ true) (sym h.1) own
level-suits g at sorts ins t f (node.Un o a) all sort h reads k = un-fits o h.0 t (arg_word at a) h.2 (arg-fits at a h.0 (all a.node h.0 h.1))
level-suits g at sorts ins t f (node.Bin o a b) all sort h reads k =
    bin-fits o h.0 h.2.0 t (arg_word at a) (arg_word at b) h.2.2 (arg-fits at a h.0 (all a.node h.0 h.1)) (arg-fits at b h.2.0 (all b.node h.2.0 h.2.1))
level-suits g at sorts ins t f (node.Slice a high low) all sort h reads k = slice-fits high low h.0 t (arg_word at a) h.2 (arg-fits at a h.0 (all a.node h.0 h.1))
level-suits g at sorts ins t f (node.Uext a n) all sort h reads k = uext-fits n h.0 t (arg_word at a) h.2 (arg-fits at a h.0 (all a.node h.0 h.1))
level-suits g at sorts ins t f (node.Sext a n) all sort h reads k = sext-fits n h.0 t (arg_word at a) h.2 (arg-fits at a h.0 (all a.node h.0 h.1))
level-suits g at sorts ins t f (node.Ite c a b) all sort h reads k =
    let x = h.2 in
    let y = x.2 in
    let same = ite-same h.0 x.0 y.0 t y.2 in
    let one = subst (λ (s : SortOf). fits (word_width s) (arg_word at a) ≡ true) same.0 (arg-fits at a x.0 (all a.node x.0 x.1)) in
    let two = subst (λ (s : SortOf). fits (word_width s) (arg_word at b) ≡ true) same.1 (arg-fits at b y.0 (all b.node y.0 y.1)) in
    ite_value-fits (word_width t) (arg_word at c) (arg_word at a) (arg_word at b) one two
level-suits g at sorts ins t f (node.Pick c a b) all sort h reads k = of ((arg_word at c).value == 1) where
  of : (test : Bool) → fits (word_width t) ((if test then at a else at b) k) ≡ true
  of true = let same = ite-same h.0 h.2.0 h.2.2.0 t h.2.2.2 in subst (λ (s : SortOf). fits (word_width s) (at a k) ≡ true) same.0 (all a h.2.0 h.2.1 k)
  of false = let same = ite-same h.0 h.2.0 h.2.2.0 t h.2.2.2 in subst (λ (s : SortOf). fits (word_width s) (at b k) ≡ true) same.1 (all b h.2.2.0 h.2.2.1 k)
level-suits g at sorts ins t f (node.Read a i) all sort h reads k =
    subst (λ (w : ℕ). fits w (at a (arg_word at i).value) ≡ true) (sym (read-same h.0 h.2.0 t h.2.2)) (all a h.0 h.1 (arg_word at i).value)
level-suits g at sorts ins t f (node.Write a i w) all sort h reads k = of (k == (arg_word at i).value) where
  of : (test : Bool) → fits (word_width t) (if test then arg_word at w else at a k) ≡ true
  of true = let same = write-same h.0 h.2.0 h.2.2.0 t h.2.2.2 in subst (λ (v : ℕ). fits v (arg_word at w) ≡ true) (sym same.1) (arg-fits at w h.2.2.0 (all w.node h.2.2.0 h.2.2.1))
  of false = let same = write-same h.0 h.2.0 h.2.2.0 t h.2.2.2 in subst (λ (v : ℕ). fits v (at a k) ≡ true) (sym same.0) (all a h.0 h.1 k)

-- nodes of rows, with the places of their states

pub record AreNodes (rows : List Row) (ns : List Node) : Type 0 where
  pub long : length ns ≡ length rows
  pub at : (k : ℕ) (r : Row) → slice_get rows k ≡ Some r → (f : ℕ) × (slice_get ns k ≡ Some (with_first f (kind_node r.kind)))

abbrev pub AllReadsFit : Given → List Node → Type 0
AllReadsFit g ns = (k : ℕ) (n : Node) → slice_get ns k ≡ Some n → ReadsFit g n

pub sorted-kind : (o : Option Kind) (s : SortOf) → kind_sort o ≡ Some s → (n : Node) × (o ≡ Some (kind.Value s n))
sorted-kind None s e = cc
sorted-kind (Some (kind.Value t n)) s e = let same : t ≡ s = cc in (n, ap (λ (u : SortOf). Some (kind.Value u n)) same)
sorted-kind (Some (kind.Sort t)) s e = cc
sorted-kind (Some (kind.Output a w)) s e = cc
sorted-kind (Some (kind.Fed a)) s e = cc
sorted-kind (Some (kind.Bad a)) s e = cc
sorted-kind (Some kind.Other) s e = cc

row-kind : (o : Option Row) (c : Kind) → option_map (λ (r : Row). r.kind) o ≡ Some c → (r : Row) × (o ≡ Some r) × (r.kind ≡ c)
row-kind None c e = cc
row-kind (Some r) c e = let same : r.kind ≡ c = cc in (r, refl, same)

-- the row of a node of a sort
pub sorted-row : (rows : List Row) (k : ℕ) (s : SortOf) → sort_in (kinds_of rows) k ≡ Some s → (r : Row) × (n : Node) × (slice_get rows k ≡ Some r) × (r.kind ≡ kind.Value s n)
sorted-row rows k s e =
    let one = sorted-kind (slice_get (kinds_of rows) k) s e in
    let row = row-kind (slice_get rows k) (kind.Value s one.0) (sym (slice_get-map (λ (r : Row). r.kind) rows k) ∙ one.1) in
    (row.0, one.0, row.1, row.2)

sorted-within : (kinds : List Kind) (k : ℕ) (s : SortOf) → sort_in kinds k ≡ Some s → k < length kinds
sorted-within kinds k s e = let one = sorted-kind (slice_get kinds k) s e in slice_get_within kinds k (kind.Value s one.0) one.1

take-within : (kinds : List Kind) (i k : ℕ) (s : SortOf) → sort_in (take i kinds) k ≡ Some s → k < i
take-within kinds i k s e =
    let lt = sorted-within (take i kinds) k s e in
    let most = length-take-most i kinds in
    omega arith

pub sort-whole : (kinds : List Kind) (i k : ℕ) (s : SortOf) → sort_in (take i kinds) k ≡ Some s → sort_in kinds k ≡ Some s
sort-whole kinds i k s e = ap kind_sort (sym (slice_get-take kinds i k (take-within kinds i k s e))) ∙ e

pub values-suit : (g : Given) (rows : List Row) (ns : List Node) → AreTyped rows → AreNodes rows ns → AllReadsFit g ns → (i k : ℕ) (s : SortOf) → sort_in (take i (kinds_of rows)) k ≡ Some s → Suits s (value_at g ns i k)
values-suit g rows ns are of reads zero k s e = cc
values-suit g rows ns are of reads (suc i) k s e =
    let lt : k < suc i = take-within (kinds_of rows) (suc i) k s e in
    let here : sort_in (kinds_of rows) k ≡ Some s = sort-whole (kinds_of rows) (suc i) k s e in
    elim (cases_eq k i) [
      | inl q ↦
          let row = sorted-row rows k s here in
          let r = row.0 in
          let n = row.1 in
          let node = of.at k r row.2 in
          let typed = subst (IsTypedKind (sort_in (take k (kinds_of rows))) (inputs_in rows)) row.3 (are k r row.2).kind in
          let place : slice_get ns k ≡ Some (with_first node.0 n) = node.1 ∙ ap (λ (c : Kind). Some (with_first node.0 (kind_node c))) row.3 in
          let level = level-suits g (value_at g ns i) (sort_in (take i (kinds_of rows))) (inputs_in rows) s node.0 n (λ j t h. values-suit g rows ns are of reads i j t h) typed.0
          (subst (λ (m : ℕ). IsTyped (sort_in (take m (kinds_of rows))) (inputs_in rows) s n) q typed.1) (reads k (with_first node.0 n) place) in
          let own : value_at g ns (suc i) k ≡ level_or_zero g (value_at g ns i) (slice_get ns k) = rw (q, eq-eqb i i refl) refl in
          subst (Suits s) (sym (own ∙ ap (level_or_zero g (value_at g ns i)) place)) level
      | inr ne ↦
          let before : sort_in (take i (kinds_of rows)) k ≡ Some s = ap kind_sort (slice_get-take (kinds_of rows) i k (omega arith)) ∙ here in
          let own : value_at g ns (suc i) k ≡ value_at g ns i k = rw (differs k i ne) refl in
          subst (Suits s) (sym own) (values-suit g rows ns are of reads i k s before)
    ]

-- over all nodes
pub all-suit : (g : Given) (rows : List Row) (ns : List Node) → AreTyped rows → AreNodes rows ns → AllReadsFit g ns → (k : ℕ) (s : SortOf) → sort_in (kinds_of rows) k ≡ Some s → Suits s (value_at g ns (length ns) k)
all-suit g rows ns are of reads k s e =
    let long : length (kinds_of rows) ≡ length ns = length-map rows (λ (r : Row). r.kind) ∙ sym of.long in
    let whole : take (length ns) (kinds_of rows) ≡ kinds_of rows = ap (λ (m : ℕ). take m (kinds_of rows)) (sym long) ∙ take_all (length (kinds_of rows)) (kinds_of rows) (omega arith) in
    values-suit g rows ns are of reads (length ns) k s (ap (λ (ks : List Kind). sort_in ks k) whole ∙ e)
