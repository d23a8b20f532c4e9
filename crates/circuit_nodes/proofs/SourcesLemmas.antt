-- The value of a node is that of its source, and the first words of one are what a cell takes.
use Rattle.std.proofs.Common.{◌≡◌, ℕ, zero, suc, ◌+◌, ◌<◌, ◌≤◌, ◌==◌, ◌&&◌, List, [], ◌∷◌, ◌++◌, Option, Some, None, Bool, true, false, set, take, drop, length, slice_get, get_or, if◌then◌else◌, refl, sym, ◌∙◌, ap, arith, add-one, eq-eqb, inl, inr}
use Rattle.std.proofs.lemmas.Bool.{cases_lt, cases_eq, eqb-true, lt-ltb}
use Rattle.std.proofs.lemmas.List.{set_past, set_at, set-append_left, take_more, get_or-drop, length-drop, length_push, length-append}
use Rattle.knox_words.specs.Bits.{Bits, word_at, word_or}
use Rattle.circuit_nodes.specs.declared.node.Node.{Node}
use Rattle.circuit_nodes.specs.declared.node.Node.TheVariants as node
use Rattle.circuit_nodes.specs.declared.node.Next.{Next}
use Rattle.circuit_nodes.specs.declared.node.Next.TheVariants as next
use Rattle.circuit_nodes.specs.declared.chain.Base.{Base}
use Rattle.circuit_nodes.specs.declared.chain.Base.TheVariants as base
use Rattle.circuit_nodes.specs.Values.{Given, Value, value_at, level_or_zero, arg_word, constant, written, words_within, IsFilled}
use Rattle.circuit_nodes.specs.Ticks.{first_words, size, next_words, words_in, ticked}
use Rattle.circuit_nodes.specs.Sources.{Source, room_arg, source_level, source_at, source_of, source_value, base_value, put, put_all, put_word, put_words, is_own, taken, all_taken, put_cell, StagedCell}
use Rattle.circuit_nodes.proofs.ValuesLemmas.{differs, fewer, room_arg-filled}

-- sources

own-word : (g : Given) (ns : List Node) (room : List Bits) (i : ℕ) (n : Option Node) → slice_get ns i ≡ n → IsFilled g ns room (suc i) → word_at room i ≡ level_or_zero g (value_at g ns i) n 0
own-word g ns room i n e f =
    let lt : i < suc i = omega arith in
    let own : value_at g ns (suc i) i ≡ level_or_zero g (value_at g ns i) (slice_get ns i) = rw (eq-eqb i i refl) refl in
    f i lt ∙ (ap (λ (v : Value). v 0) own ∙ ap (λ (o : Option Node). level_or_zero g (value_at g ns i) o 0) e)

picked : (F : Source → Value) (va vb : Value) (sa sb : Source) (t : Bool) → va ≡ F sa → vb ≡ F sb → (if t then va else vb) ≡ F (if t then sa else sb)
picked F va vb sa sb true p q = p
picked F va vb sa sb false p q = q

level-source : (g : Given) (ns : List Node) (room : List Bits) (i : ℕ) → ((k : ℕ) → value_at g ns i k ≡ source_value room ns g.state (source_at room ns i k)) → IsFilled g ns room (suc i) → IsFilled g ns room i → (n : Option Node) → slice_get ns i ≡ n → level_or_zero g (value_at g ns i) n ≡ source_value room ns g.state (source_level room i (source_at room ns i) n)
level-source g ns room i before f less None e = refl
level-source g ns room i before f less (Some (node.Const w)) e = ap constant (sym (own-word g ns room i _ e f))
level-source g ns room i before f less (Some (node.Input p w)) e = ap constant (sym (own-word g ns room i _ e f))
level-source g ns room i before f less (Some (node.State p w)) e = ap constant (sym (own-word g ns room i _ e f))
level-source g ns room i before f less (Some (node.Array p n w)) e = refl
level-source g ns room i before f less (Some (node.Un o a)) e = ap constant (sym (own-word g ns room i _ e f))
level-source g ns room i before f less (Some (node.Bin o a b)) e = ap constant (sym (own-word g ns room i _ e f))
level-source g ns room i before f less (Some (node.Slice a h l)) e = ap constant (sym (own-word g ns room i _ e f))
level-source g ns room i before f less (Some (node.Uext a n)) e = ap constant (sym (own-word g ns room i _ e f))
level-source g ns room i before f less (Some (node.Sext a n)) e = ap constant (sym (own-word g ns room i _ e f))
level-source g ns room i before f less (Some (node.Ite c a b)) e = ap constant (sym (own-word g ns room i _ e f))
level-source g ns room i before f less (Some (node.Pick c a b)) e =
    ap (λ (w : Bits). if w.value == 1 then value_at g ns i a else value_at g ns i b) (sym (room_arg-filled g ns room i c less))
    ∙ picked (source_value room ns g.state) (value_at g ns i a) (value_at g ns i b) (source_at room ns i a) (source_at room ns i b) ((room_arg room i c).value == 1) (before a) (before b)
level-source g ns room i before f less (Some (node.Read a j)) e = ap constant (sym (own-word g ns room i _ e f))
level-source g ns room i before f less (Some (node.Write a j w)) e =
    let over : Value = source_value room ns g.state (source_at room ns i a) in
    ap (λ (v : Value). written v (arg_word (value_at g ns i) j).value (arg_word (value_at g ns i) w)) (before a)
    ∙ (ap (λ (x : Bits). written over x.value (arg_word (value_at g ns i) w)) (sym (room_arg-filled g ns room i j less))
    ∙ (ap (λ (x : Bits). written over (room_arg room i j).value x) (sym (room_arg-filled g ns room i w less))
    ∙ ap (λ (o : Option Node). put room i o over) (sym e)))

pub value-source : (g : Given) (ns : List Node) (room : List Bits) (i k : ℕ) → IsFilled g ns room i → value_at g ns i k ≡ source_value room ns g.state (source_at room ns i k)
value-source g ns room zero k f = refl
value-source g ns room (suc i) k f =
    let le : i ≤ suc i = omega arith in
    let less = fewer g ns room (suc i) i le f in
    elim (cases_eq k i) [
      | inl e ↦ rw (e, eq-eqb i i refl) (level-source g ns room i (λ j. value-source g ns room i j less) f less (slice_get ns i) refl)
      | inr ne ↦ rw (differs k i ne) (value-source g ns room i k less)
    ]

pub taken-next : (g : Given) (ns : List Node) (room : List Bits) (n : Next) → IsFilled g ns room (length ns) → taken room ns g.state n ≡ next_words (value_at g ns (length ns)) n
taken-next g ns room (next.Word a) f = ap (λ (w : Bits). w ∷ []) (room_arg-filled g ns room (length ns) a f)
taken-next g ns room (next.Array k words) f = ap (λ (v : Value). first_words v words) (sym (value-source g ns room (length ns) k f))

pub all_taken-ticked : (g : Given) (ns : List Node) (room : List Bits) (nexts : List Next) → IsFilled g ns room (length ns) → all_taken room ns g.state nexts ≡ ticked (value_at g ns (length ns)) nexts
all_taken-ticked g ns room [] f = refl
all_taken-ticked g ns room (n ∷ rest) f =
    let one = taken-next g ns room n f in
    let more = all_taken-ticked g ns room rest f in
    cc

-- first words

pub length-first_words : (v : Value) (n : ℕ) → length (first_words v n) ≡ n
length-first_words v zero = refl
length-first_words v (suc n) = length_push (first_words v n) (v n) ∙ (add-one (length (first_words v n)) ∙ ap suc (length-first_words v n))

first_words-set : (v : Value) (i : ℕ) (w : Bits) (n : ℕ) → set (first_words v n) i w ≡ first_words (written v i w) n
first_words-set v i w zero = refl
first_words-set v i w (suc n) = elim (cases_lt i n) [
  | inl lt ↦
      let within : i < length (first_words v n) = rw (length-first_words v n) lt in
      let ne : (n ≡ i → ⊥) = (λ e. omega arith) in
      set-append_left (first_words v n) (v n ∷ []) i w within
      ∙ rw (first_words-set v i w n, differs n i ne) refl
  | inr le ↦
      let past : length (first_words v n) ≤ i = rw (length-first_words v n) le in
      let front : first_words v n ≡ first_words (written v i w) n = sym (set_past (first_words v n) i w past) ∙ first_words-set v i w n in
      elim (cases_eq n i) [
        | inl e ↦
            set_at (first_words v n) (v n) [] w i (length-first_words v n ∙ e)
            ∙ rw (front, eq-eqb n i e) refl
        | inr ne ↦
            let long : length (first_words v n ++ v n ∷ []) ≤ i = omega (arith, length_push (first_words v n) (v n), length-first_words v n, le, ne) in
            set_past (first_words v n ++ v n ∷ []) i w long ∙ rw (front, differs n i ne) refl
      ]
]

put_word-first : (room : List Bits) (k : ℕ) (o : Option Node) (v : Value) (n : ℕ) → put_word room k o (first_words v n) ≡ first_words (put room k o v) n
put_word-first room k None v n = refl
put_word-first room k (Some (node.Const w)) v n = refl
put_word-first room k (Some (node.Input f w)) v n = refl
put_word-first room k (Some (node.State f w)) v n = refl
put_word-first room k (Some (node.Array f m w)) v n = refl
put_word-first room k (Some (node.Un o a)) v n = refl
put_word-first room k (Some (node.Bin o a b)) v n = refl
put_word-first room k (Some (node.Slice a h l)) v n = refl
put_word-first room k (Some (node.Uext a m)) v n = refl
put_word-first room k (Some (node.Sext a m)) v n = refl
put_word-first room k (Some (node.Ite c a b)) v n = refl
put_word-first room k (Some (node.Pick c a b)) v n = refl
put_word-first room k (Some (node.Read a j)) v n = refl
put_word-first room k (Some (node.Write a j w)) v n = first_words-set v (room_arg room k j).value (room_arg room k w) n

pub put_words-first : (room : List Bits) (ns : List Node) (chain : List ℕ) (v : Value) (n : ℕ) → put_words room ns chain (first_words v n) ≡ first_words (put_all room ns chain v) n
put_words-first room ns [] v n = refl
put_words-first room ns (k ∷ ks) v n =
    ap (put_word room k (slice_get ns k)) (put_words-first room ns ks v n)
    ∙ put_word-first room k (slice_get ns k) (put_all room ns ks v) n

-- a part of the state is the first words of an array that begins there
pub from_state : (state : List Bits) (first n words w : ℕ) → n ≤ words → first + n ≤ length state → take n (drop first state) ≡ first_words (words_within state first words w) n
from_state state first zero words w few h = refl
from_state state first (suc n) words w few h =
    let within : n < length (drop first state) = omega (arith, length-drop first state) in
    let le : first + n ≤ length state = omega arith in
    let fewer : n ≤ words = omega arith in
    let lt : n < words = omega arith in
    let one : take (suc n) (drop first state) ≡ take n (drop first state) ++ get_or (drop first state) n (word_or w 0) ∷ [] =
    rw add-one at (take_more (drop first state) n (word_or w 0) within) in
    one ∙ (ap (λ (z : List Bits). z ++ get_or (drop first state) n (word_or w 0) ∷ []) (from_state state first n words w fewer le)
    ∙ rw (lt-ltb n words lt) (ap (λ (z : Bits). first_words (words_within state first words w) n ++ z ∷ []) (get_or-drop first state n (word_or w 0))))

-- cells

and-parts : (a b : Bool) → a && b ≡ true → (a ≡ true) × (b ≡ true)
and-parts true b e = (refl, e)
and-parts false b e = cc

own-base : (b : Base) (first words : ℕ) → is_own b first words ≡ true → (w : ℕ) × (b ≡ base.State first words w)
own-base (base.State p n w) first words e =
    let both = and-parts (p == first) (n == words) e in
    (w, ap (λ (q : ℕ). base.State q n w) (eqb-true p first both.0) ∙ ap (λ (m : ℕ). base.State first m w) (eqb-true n words both.1))
own-base (base.Same w) first words e = cc

own-cell : (room : List Bits) (ns : List Node) (state : List Bits) (first words : ℕ) (s : Source) → first + words ≤ length state → is_own s.base first words ≡ true → put_words room ns s.chain (take words (drop first state)) ≡ first_words (source_value room ns state s) words
own-cell room ns state first words s within own =
    let base = own-base s.base first words own in
    ap (put_words room ns s.chain) (from_state state first words words base.0 (omega arith) within)
    ∙ (put_words-first room ns s.chain (words_within state first words base.0) words
    ∙ ap (λ (b : Base). first_words (put_all room ns s.chain (base_value state b)) words) (sym base.1))

chosen : (b : Bool) (own staged all : List Bits) → (b ≡ true → own ≡ all) → (b ≡ false → staged ≡ all) → (if b then own else staged) ≡ all
chosen true own staged all p q = p refl
chosen false own staged all p q = q refl

pub put_cell-taken : (room : List Bits) (ns : List Node) (state : List Bits) (first : ℕ) (n : Next) (stage : List Bits) → first + size n ≤ length state → StagedCell room ns state first n stage → put_cell room ns first n (take (size n) (drop first state)) (take (size n) stage) ≡ taken room ns state n
put_cell-taken room ns state first (next.Word a) stage within staged = refl
put_cell-taken room ns state first (next.Array k words) stage within staged =
    chosen (is_own (source_of room ns k).base first words) _ _ _ (own-cell room ns state first words (source_of room ns k) within) staged

pub length-taken : (room : List Bits) (ns : List Node) (state : List Bits) (n : Next) → length (taken room ns state n) ≡ size n
length-taken room ns state (next.Word a) = refl
length-taken room ns state (next.Array k words) = length-first_words (source_value room ns state (source_of room ns k)) words

pub length-all_taken : (room : List Bits) (ns : List Node) (state : List Bits) (nexts : List Next) → length (all_taken room ns state nexts) ≡ words_in nexts
length-all_taken room ns state [] = refl
length-all_taken room ns state (n ∷ rest) =
    length-append (taken room ns state n) (all_taken room ns state rest)
    ∙ rw (length-taken room ns state n, length-all_taken room ns state rest) refl
