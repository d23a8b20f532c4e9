-- The steps of building states one after another.
use Rattle.std.proofs.Common.{if◌then◌else◌, ◌≡◌, ℕ, zero, suc, ◌+◌, ◌-◌, ◌<◌, ◌≤◌, ◌⊎◌, List, [], ◌∷◌, ◌++◌, Option, Some, None, Bool, true, false, min, take, drop, replicate, length, slice_get, get_or, refl, sym, ◌∙◌, ap, arith, add-one, subst, inl, inr}
use Rattle.std.proofs.lemmas.List.{append_assoc, length-append, length-take-le, length-replicate, length-drop, drop-drop, take_all, drop_all, take-append-drop, take_min, drop_min, get_or-take, get_or-drop, get_or_append_left, get_or-append_right}
use borrow.Rule.Slice.PartMut.{put_mid}
use Rattle.knox_words.specs.Bits.{Bits}
use Rattle.knox_words.specs.Ops.{op1_value}
use Rattle.knox_words.specs.declared.op.Op1.TheVariants.{Not}
use Rattle.circuit_nodes.specs.declared.node.Arg.{Arg}
use Rattle.circuit_nodes.specs.declared.node.Node.{Node}
use Rattle.circuit_nodes.specs.declared.node.Node.TheVariants as node
use Rattle.circuit_nodes.specs.declared.node.State.{State}
use Rattle.circuit_nodes.specs.declared.power.Fresh.{Fresh}
use Rattle.circuit_nodes.specs.declared.power.Fresh.TheVariants as fresh
use Rattle.circuit_nodes.specs.Values.{Given, Value, given, value_at, arg_word, constant, words_within, IsFilled}
use Rattle.circuit_nodes.specs.Ticks.{first_words}
use Rattle.circuit_nodes.specs.Starts.{values, words_by, taken_by, placed, with_state, fresh_of, keep_after, built, wanted, AreApart, Outside}
use Rattle.circuit_nodes.specs.Sources.{source_of, base_value, put_words, room_arg}
use Rattle.circuit_nodes.proofs.ListLemmas.{drop-next}
use Rattle.circuit_nodes.proofs.ValuesLemmas.{value_at-front, value_at-take, stands, fewer, room_arg-filled}
use Rattle.circuit_nodes.proofs.SourcesLemmas.{value-source, put_words-first, length-first_words}
use Rattle.circuit_nodes.proofs.ReadsLemmas.{AgreeAt, same-value}

-- what a state gets

pub stage-word : (ns : List Node) (state room : List Bits) (a : Arg) → IsFilled (given [] state) ns room (length ns) → room_arg room (length ns) a ≡ arg_word (values ns state) a
stage-word ns state room a f = room_arg-filled (given [] state) ns room (length ns) a f

pub stage-array : (ns : List Node) (state room : List Bits) (k n : ℕ) → IsFilled (given [] state) ns room (length ns) → put_words room ns (source_of room ns k).chain (first_words (base_value state (source_of room ns k).base) n) ≡ first_words (values ns state k) n
stage-array ns state room k n f =
    put_words-first room ns (source_of room ns k).chain (base_value state (source_of room ns k).base) n
    ∙ ap (λ (v : Value). first_words v n) (sym (value-source (given [] state) ns room (length ns) k f))

pub ruleset stage_steps = (stage-word, stage-array)

-- a constant stands for an operand
constant-value : (ns : List Node) (state : List Bits) (k : ℕ) (w : Bits) → k < length ns → slice_get ns k ≡ Some (node.Const w) → values ns state k ≡ constant w
constant-value ns state k w lt is = stands (given [] state) ns (length ns) k (node.Const w) lt is

pub constant-plain : (ns : List Node) (a : Arg) (w : Bits) → a.node < length ns → slice_get ns a.node ≡ Some (node.Const w) → a.complement ≡ false → (s : State) (state old noise : List Bits) → words_by (values ns state) s old noise (fresh.Same w) ≡ words_by (values ns state) s old noise (fresh.Word a)
constant-plain ns a w lt is plain s state old noise = rw (plain, constant-value ns state a.node w lt is) refl

pub constant-turned : (ns : List Node) (a : Arg) (w : Bits) → a.node < length ns → slice_get ns a.node ≡ Some (node.Const w) → a.complement ≡ true → (s : State) (state old noise : List Bits) → words_by (values ns state) s old noise (fresh.Same (op1_value Not w)) ≡ words_by (values ns state) s old noise (fresh.Word a)
constant-turned ns a w lt is turned s state old noise = rw (turned, constant-value ns state a.node w lt is) refl

pub ruleset constant_steps = (constant-plain, constant-turned)

-- the first nodes

pub filled-front : (g : Given) (ns : List Node) (room : List Bits) (n : ℕ) → n ≤ length ns → IsFilled g ns room n → IsFilled g (take n ns) room (length (take n ns))
filled-front g ns room n le f k h =
    let long : length (take n ns) ≡ n = length-take-le n ns le in
    let lt : k < n = omega (arith, long, h) in
    f k lt ∙ (ap (λ (v : Value). v 0) (sym (value_at-front g ns n k le)) ∙ ap (λ (i : ℕ). value_at g (take n ns) i k 0) (sym long))

take-least : (ns : List Node) (n : ℕ) → take (min (length ns) n) ns ≡ take n ns
take-least ns n = ap (λ (m : ℕ). take m ns) (omega arith) ∙ take_min n ns

value-front : (ns : List Node) (state : List Bits) (k : ℕ) → values (take (min (length ns) (k + 1)) ns) state k ≡ values ns state k
value-front ns state k =
    let lt : k < k + 1 = omega arith in
    ap (λ (z : List Node). values z state k) (take-least ns (k + 1)) ∙ value_at-take (given [] state) ns (k + 1) k lt

-- the nodes that are wanted give the words
words-front : (ns : List Node) (s : State) (state old noise : List Bits) (f : Fresh) → words_by (values (take (wanted (length ns) f) ns) state) s old noise f ≡ words_by (values ns state) s old noise f
words-front ns s state old noise fresh.Kept = refl
words-front ns s state old noise fresh.Noise = refl
words-front ns s state old noise (fresh.Same w) = refl
words-front ns s state old noise (fresh.Word a) = ap (λ (v : Value). replicate s.words (if a.complement then op1_value Not (v 0) else v 0)) (value-front ns state a.node)
words-front ns s state old noise (fresh.Array k) = ap (λ (v : Value). first_words v s.words) (value-front ns state k)

-- words that are put into a part of the state

pub put-placed : (state ws : List Bits) (first n : ℕ) → length ws ≡ n → put_mid first n state ws ≡ placed state first ws
put-placed state ws first n long =
    ap (λ (z : List Bits). take first state ++ (ws ++ z)) (drop-drop n first state ∙ ap (λ (m : ℕ). drop (first + m) state) (sym long))

pub length-words_by : (at : ℕ → Value) (s : State) (old noise : List Bits) (f : Fresh) → length (words_by at s old noise f) ≡ s.words
length-words_by at s old noise fresh.Kept = length-first_words (words_within old s.first s.words s.width) s.words
length-words_by at s old noise fresh.Noise = length-first_words (words_within noise 0 s.words s.width) s.words
length-words_by at s old noise (fresh.Same w) = length-replicate s.words w
length-words_by at s old noise (fresh.Word a) = length-replicate s.words (arg_word at a)
length-words_by at s old noise (fresh.Array k) = length-first_words (at k) s.words

pub placed-outside : (state ws : List Bits) (first p : ℕ) (d : Bits) → first + length ws ≤ length state → (p < first) ⊎ (first + length ws ≤ p) → get_or state p d ≡ get_or (placed state first ws) p d
placed-outside state ws first p d within outside =
    let front : length (take first state) ≡ first = length-take-le first state (omega arith) in
    elim outside [
      | inl lt ↦
          sym (get_or_append_left (take first state) (ws ++ drop (first + length ws) state) d p (omega (arith, front, lt))
          ∙ get_or-take first state p d lt)
      | inr le ↦
          let past : length ws ≤ p - first = omega arith in
          let at : first + length ws + (p - first - length ws) ≡ p = omega arith in
          sym (get_or-append_right (take first state) (ws ++ drop (first + length ws) state) first p d front (omega arith)
          ∙ (get_or-append_right ws (drop (first + length ws) state) (length ws) (p - first) d refl past
          ∙ (get_or-drop (first + length ws) state (p - first - length ws) d
          ∙ ap (λ (q : ℕ). get_or state q d) at)))
    ]

-- a state that gets its words changes them alone
pub kept-outside : (ns : List Node) (s : State) (f : Fresh) (old noise state : List Bits) → s.first + s.words ≤ length state → AgreeAt (Outside s) state (with_state ns s f old noise state)
kept-outside ns s f old noise state within p outside d =
    let ws = words_by (values ns state) s old noise f in
    let long : length ws ≡ s.words = length-words_by (values ns state) s old noise f in
    placed-outside state ws s.first p d (omega (arith, long, within)) (subst (λ (n : ℕ). (p < s.first) ⊎ (s.first + n ≤ p)) (sym long) outside)

-- one more state

pub record Step (ns : List Node) (states : List State) (keep : List Bool) (old noise state room whole : List Bits) (k n : ℕ) : Type 0 where
  pub built : built ns (drop k states) keep old noise state ≡ whole
  pub filled : IsFilled (given [] state) ns room n

pub step-more : (ns : List Node) (states : List State) (keep : List Bool) (old noise state room whole : List Bits) (k upto reached : ℕ) (s : State) (f : Fresh) (after : List Bits) → slice_get states k ≡ Some s → ((state old noise : List Bits) → words_by (values ns state) s old noise f ≡ words_by (values ns state) s old noise (fresh_of s keep)) → ((n : ℕ) → taken_by n f ≡ taken_by n (fresh_of s keep)) → upto ≡ wanted (length ns) f → after ≡ with_state (take upto ns) s f old noise state → built ns (drop k states) keep old noise state ≡ whole → AreApart ns states → s.first + s.words ≤ length state → IsFilled (given [] state) ns room reached → Step ns states (keep_after s keep) old (drop (taken_by s.words f) noise) after room whole (k + 1) (min reached s.node)
step-more ns states keep old noise state room whole k upto reached s f after is same taken up put so_far apart within filled =
    let g = fresh_of s keep in
    let now : after ≡ with_state ns s g old noise state =
    put ∙ ap (placed state s.first) (ap (λ (z : ℕ). words_by (values (take z ns) state) s old noise f) up
    ∙ (words-front ns s state old noise f ∙ same state old noise)) in
    let next = drop-next states k s is in
    let agree : AgreeAt (Outside s) state after = subst (λ (z : List Bits). AgreeAt (Outside s) state z) (sym now) (kept-outside ns s g old noise state within) in
    let least : min reached s.node ≤ reached = omega arith in
    record {
      built = ap (built ns (drop (k + 1) states) (keep_after s keep) old (drop (taken_by s.words f) noise)) now
          ∙ (ap (λ (n : ℕ). built ns (drop (k + 1) states) (keep_after s keep) old (drop n noise) (with_state ns s g old noise state)) (taken s.words)
          ∙ (sym (ap (λ (z : List State). built ns z keep old noise state) next) ∙ so_far));
      filled = λ j lt.
          fewer (given [] state) ns room reached (min reached s.node) least filled j lt
          ∙ ap (λ (v : Value). v 0) (same-value (Outside s) [] state after ns (min reached s.node) j agree
          (λ q l. apart k s is q (omega arith)));
    }

-- the words that a state gets, put into its part
pub put-fresh : (ns : List Node) (s : State) (f : Fresh) (old noise state words : List Bits) (n : ℕ) → words ≡ words_by (values ns state) s old noise f → n ≡ s.words → put_mid s.first n state words ≡ with_state ns s f old noise state
put-fresh ns s f old noise state words n is e =
    let long : length words ≡ n = ap length is ∙ (length-words_by (values ns state) s old noise f ∙ sym e) in
    put-placed state words s.first n long ∙ ap (placed state s.first) is

pub ruleset put_steps = (put-fresh, take_all, drop_all)

pub ruleset build_steps = (take_all, drop_all, filled-front)
