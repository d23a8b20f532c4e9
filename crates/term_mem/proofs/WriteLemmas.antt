-- Writing: the cells one after another.
use Rattle.std.proofs.Common.{◌≡◌, ℕ, ◌+◌, ◌^◌, ◌<◌, ◌≤◌, ◌==◌, ◌++◌, Bool, true, false, List, [], ◌∷◌, length, take, get_or, refl, sym, ap, ◌∙◌, subst, if◌then◌else◌}
use Rattle.std.specs.Prelude.{slice_set}
use Rattle.std.specs.Cmp.{nat_eq_equiv}
use Rattle.std.proofs.lemmas.Bool.{eqb-true, eqb-false}
use Rattle.std.proofs.lemmas.List.{get_or-set_same, get_or-set_other, length-set, length-map, map-append, map-set, take_more, take_all}
use Rattle.std.proofs.lemmas.List.Elements.{All-push, All-get_or}
use Rattle.knox_words.specs.Bits.{Bits, bits, word_or, ite_value, truth}
use Rattle.knox_words.specs.Ops.{op2_or, op2_value}
use Rattle.knox_words.specs.declared.op.Op2.TheVariants.{Eq}
use Rattle.term_graph.specs.declared.node.Node.{Node}
use Rattle.term_graph.specs.Value.{value, width_of, ite_or}
use Rattle.term_graph.specs.Kept.{Keeps, Gives}
use Rattle.term_graph.proofs.WidthLemmas.{value-width, value-IsWord}
use Rattle.term_graph.proofs.FoldLemmas.{chosen, gives-same, keeps-on, keeps-width, alike}
use Rattle.term_graph.proofs.BuiltLemmas.{word_or-same}
use Rattle.term_mem.specs.Memories.{seen, IsCell, AreCells}
use Rattle.term_mem.proofs.CellLemmas.{seen-at, seen-kept, cells-kept}

-- a choice by whether two words are equal
eq-choice : (x y a b : Bits) → x.width ≡ y.width → a.width ≡ b.width → ite_or (op2_or Eq x y) a b ≡ (if x.value == y.value then a else b)
eq-choice x y a b e h = chosen (op2_or Eq x y) a b h ∙ (ap (λ (t : Bool). ite_value (if t then op2_value Eq x y else bits 1 0) a b) fits ∙ by_test (x.value == y.value))
  where
    fits : (x.width == y.width) ≡ true
    fits = subst (λ (k : ℕ). (x.width == k) ≡ true) e (nat_eq_equiv.refl x.width)

    by_test : (t : Bool) → ite_value (truth t) a b ≡ (if t then a else b)
    by_test true = refl
    by_test false = refl

pub gives-cell_after : (old one two new : List Node) (i n s word cell t width k : ℕ) (w : Bits) → Keeps old one → Keeps one two → i < length old → word < length old → cell < length old → width_of old word ≡ width_of old cell → width ≡ width_of old i → k < 2 ^ width_of old i → w ≡ word_or width k → Gives one n (λ _. w) → Gives two s (λ v. op2_or Eq (value v one i) (value v one n)) → Gives new t (λ v. ite_or (value v two s) (value v two word) (value v two cell)) → Gives new t (λ v. if (value v old i).value == k then value v old word else value v old cell)
gives-cell_after old one two new i n s word cell t width k w first second in_i in_word in_cell same e below is gn gs g = gives-same new t _ _ g (λ v.
    let both = keeps-on old one two first second in
    let x = value v old i in
    let wide : x.width ≡ width = value-width v old i ∙ sym e in
    let low : k < 2 ^ x.width = subst (λ (j : ℕ). k < 2 ^ j) (sym (value-width v old i)) below in
    let named : word_or x.width k ≡ bits x.width k = word_or-same (bits x.width k) (record { wide = (value-IsWord v old i).wide; narrow = (value-IsWord v old i).narrow; fits = low }) in
    let y : value v one n ≡ bits x.width k = gn.gives v ∙ (is ∙ (ap (λ (j : ℕ). word_or j k) (sym wide) ∙ named)) in
    let test : value v two s ≡ op2_or Eq x (bits x.width k) = gs.gives v ∙ (ap (λ (z : Bits). op2_or Eq z (value v one n)) (first.values v i in_i) ∙ ap (op2_or Eq x) y) in
    let a : value v two word ≡ value v old word = both.values v word in_word in
    let b : value v two cell ≡ value v old cell = both.values v cell in_cell in
    rw (test, a, b) (eq-choice x (bits x.width k) (value v old word) (value v old cell) refl (alike old word cell same v)))

-- one more cell

set-at : (ws : List Bits) (j k : ℕ) (a d : Bits) → k < length ws → get_or (slice_set ws j a) k d ≡ (if j == k then a else get_or ws k d)
set-at ws j k a d below = by_test (j == k) refl
  where
    by_test : (t : Bool) → (j == k) ≡ t → get_or (slice_set ws j a) k d ≡ (if t then a else get_or ws k d)
    by_test true e = let same = eqb-true j k e in ap (λ (i : ℕ). get_or (slice_set ws i a) k d) same ∙ get_or-set_same ws k a d below
    by_test false e = get_or-set_other ws j k a d (λ p. eqb-false j k e (sym p))

-- the cells of a memory with a word at an index
abbrev pub with_word : List Bits → List Node → List ℕ → ℕ → ℕ → List Bits
with_word v ns cells i word = slice_set (seen v ns cells) (value v ns i).value (value v ns word)

pub is-cell_after : (old mid new : List Node) (i word cell k x w : ℕ) → Keeps old mid → i < length old → word < length old → IsCell mid w cell → width_of old word ≡ w → Gives new x (λ v. if (value v mid i).value == k then value v mid word else value v mid cell) → IsCell new w x
is-cell_after old mid new i word cell k x w kept in_i in_word is e g = record {
  within = g.within;
  wide = ap (λ (z : Bits). z.width) (g.gives []) ∙ by_test ((value [] mid i).value == k);
}
  where
    by_test : (t : Bool) → (if t then value [] mid word else value [] mid cell).width ≡ w
    by_test true = keeps-width old mid word kept in_word ∙ e
    by_test false = is.wide

pub cells-more : (new : List Node) (mid : List Node) (w x : ℕ) (made more : List ℕ) → Keeps mid new → AreCells mid w made → IsCell new w x → more ≡ made ++ x ∷ [] → AreCells new w more
cells-more new mid w x made more kept are is e = subst (AreCells new w) (sym e) (All-push (IsCell new w) made x (cells-kept mid new w made kept are) is)

pub written-more : (v : List Bits) (old mid new : List Node) (i word k x w : ℕ) (cells made more : List ℕ) → Keeps old mid → Keeps mid new → AreCells old w cells → i < length old → word < length old → k < length cells → AreCells mid w made → seen v mid made ≡ take k (with_word v old cells i word) → Gives new x (λ v. if (value v mid i).value == k then value v mid word else value v mid (get_or cells k 0)) → more ≡ made ++ x ∷ [] → seen v new more ≡ take (k + 1) (with_word v old cells i word)
written-more v old mid new i word k x w cells made more first second are in_i in_word below mades done g e =
    let whole = with_word v old cells i word in
    let long : k < length (seen v old cells) = subst (λ (n : ℕ). k < n) (sym (length-map cells (value v old))) below in
    let longer : k < length whole = subst (λ (n : ℕ). k < n) (sym (length-set (seen v old cells) (value v old i).value (value v old word))) long in
    let last : value v new x ≡ get_or whole k (bits 1 0) =
    g.gives v
    ∙ (ap (λ (n : ℕ). if n == k then value v mid word else value v mid (get_or cells k 0)) (ap (λ (z : Bits). z.value) (first.values v i in_i))
    ∙ (ap (λ (z : Bits). if (value v old i).value == k then z else value v mid (get_or cells k 0)) (first.values v word in_word)
    ∙ (ap (λ (z : Bits). if (value v old i).value == k then value v old word else z) (first.values v (get_or cells k 0) (All-get_or (IsCell old w) cells k 0 below are).within ∙ sym (seen-at v old cells k below))
    ∙ sym (set-at (seen v old cells) (value v old i).value k (value v old word) (bits 1 0) long)))) in
    ap (seen v new) e
    ∙ (map-append (value v new) made (x ∷ [])
    ∙ (ap (λ (xs : List Bits). xs ++ value v new x ∷ []) (seen-kept v mid new w made second mades ∙ done)
    ∙ (ap (λ (z : Bits). take k whole ++ z ∷ []) last
    ∙ sym (take_more whole k (bits 1 0) longer))))

pub written-all : (v : List Bits) (old : List Node) (i word k : ℕ) (cells : List ℕ) → length cells ≤ k → take k (with_word v old cells i word) ≡ with_word v old cells i word
written-all v old i word k cells h =
    take_all k (with_word v old cells i word) (subst (λ (n : ℕ). n ≤ k) (sym (length-set (seen v old cells) (value v old i).value (value v old word) ∙ length-map cells (value v old))) h)

pub written-named : (v : List Bits) (ns : List Node) (i word k : ℕ) (cells : List ℕ) → ((v : List Bits) → (value v ns i).value ≡ k) → seen v ns (slice_set cells k word) ≡ with_word v ns cells i word
written-named v ns i word k cells named = map-set (value v ns) cells k word ∙ ap (λ (n : ℕ). slice_set (seen v ns cells) n (value v ns word)) (sym (named v))
