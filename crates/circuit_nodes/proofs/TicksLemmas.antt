-- The steps of the two passes of a tick over the cells.
use Rattle.std.proofs.Common.{◌≡◌, ℕ, zero, suc, ◌+◌, ◌-◌, ◌<◌, ◌≤◌, List, [], ◌∷◌, ◌++◌, Some, Bool, true, false, set, take, drop, length, slice_get, refl, sym, ◌∙◌, ap, arith, add-one, subst}
use Rattle.std.proofs.lemmas.List.{append_assoc, append-nil, length-append, length-drop, length-take-le, drop-drop, take_at, drop_at, take_all, take-append-le, drop_all, take-append-drop}
use borrow.Rule.Slice.PartMut.{put_mid}
use Rattle.knox_words.specs.Bits.{Bits}
use Rattle.circuit_nodes.specs.declared.node.Arg.{Arg}
use Rattle.circuit_nodes.specs.declared.node.Node.{Node}
use Rattle.circuit_nodes.specs.declared.node.Next.{Next}
use Rattle.circuit_nodes.specs.declared.node.Next.TheVariants as next
use Rattle.circuit_nodes.specs.Ticks.{first_words, size, words_in}
use Rattle.circuit_nodes.specs.Sources.{room_arg, source_of, source_value, base_value, put_words, is_own, taken, all_taken, put_cell, StagedCell, Staged}
use Rattle.circuit_nodes.proofs.ListLemmas.{take-next, drop-next}
use Rattle.circuit_nodes.proofs.SourcesLemmas.{put_words-first, put_cell-taken, length-first_words, length-all_taken, all_taken-ticked}

-- words of cells

words_in-append : (a b : List Next) → words_in (a ++ b) ≡ words_in a + words_in b
words_in-append [] b = omega arith
words_in-append (n ∷ a) b = let more = words_in-append a b in omega arith

pub words_in-next : (nexts : List Next) (k : ℕ) (n : Next) → slice_get nexts k ≡ Some n → words_in (take (k + 1) nexts) ≡ words_in (take k nexts) + size n
words_in-next nexts k n is =
    let a = ap words_in (take-next nexts k n is) in
    let b = words_in-append (take k nexts) (n ∷ []) in
    omega (arith, a, b)

pub words_in-within : (nexts : List Next) (k : ℕ) → words_in (take k nexts) ≤ words_in nexts
words_in-within nexts k =
    let a = ap words_in (take-append-drop k nexts) in
    let b = words_in-append (take k nexts) (drop k nexts) in
    omega (arith, a, b)

all_taken-append : (room : List Bits) (ns : List Node) (state : List Bits) (a b : List Next) → all_taken room ns state (a ++ b) ≡ all_taken room ns state a ++ all_taken room ns state b
all_taken-append room ns state [] b = refl
all_taken-append room ns state (n ∷ a) b =
    ap (λ (z : List Bits). taken room ns state n ++ z) (all_taken-append room ns state a b)
    ∙ sym (append_assoc (taken room ns state n) (all_taken room ns state a) (all_taken room ns state b))

-- staging

pub staged-word : (room : List Bits) (ns : List Node) (state : List Bits) (first : ℕ) (n : Next) (ws : List Bits) → ((k words : ℕ) → n ≡ next.Array k words → ⊥) → StagedCell room ns state first n ws
staged-word room ns state first (next.Word a) ws r = tt
staged-word room ns state first (next.Array k words) ws r = absurd (r k words refl)

pub staged-own : (room : List Bits) (ns : List Node) (state : List Bits) (first k words : ℕ) (ws : List Bits) → is_own (source_of room ns k).base first words ≡ true → StagedCell room ns state first (next.Array k words) ws
staged-own room ns state first k words ws own e = cc

pub staged-array : (room : List Bits) (ns : List Node) (state : List Bits) (first k words : ℕ) (ws : List Bits) → ws ≡ put_words room ns (source_of room ns k).chain (first_words (base_value state (source_of room ns k).base) words) → StagedCell room ns state first (next.Array k words) ws
staged-array room ns state first k words ws is e =
    let all : ws ≡ first_words (source_value room ns state (source_of room ns k)) words =
    is ∙ put_words-first room ns (source_of room ns k).chain (base_value state (source_of room ns k).base) words in
    let short : length ws ≤ words = omega (arith, ap length all, length-first_words (source_value room ns state (source_of room ns k)) words) in
    take_all words ws short ∙ all

staged-front : (room : List Bits) (ns : List Node) (state : List Bits) (first : ℕ) (n : Next) (ws after : List Bits) → length ws ≡ size n → StagedCell room ns state first n ws → StagedCell room ns state first n (ws ++ after)
staged-front room ns state first (next.Word a) ws after e s = tt
staged-front room ns state first (next.Array k words) ws after e s = λ other.
    take_at ws after words e ∙ (sym (take_all words ws (omega (arith, e))) ∙ s other)

put_mid-drop : (stage ws : List Bits) (first end : ℕ) → first ≤ end → end ≤ length stage → drop first (put_mid first (end - first) stage ws) ≡ ws ++ drop end stage
put_mid-drop stage ws first end le within =
    let short : first ≤ length stage = omega arith in
    let sum : first + (end - first) ≡ end = omega arith in
    drop_at (take first stage) (ws ++ drop (end - first) (drop first stage)) first (length-take-le first stage short)
    ∙ rw (drop-drop (end - first) first stage, sum) refl

pub stage-more : (room : List Bits) (ns : List Node) (state : List Bits) (nexts : List Next) (left first end : ℕ) (n : Next) (stage ws : List Bits) → slice_get nexts left ≡ Some n → end ≡ words_in (take (left + 1) nexts) → first ≡ end - size n → end ≤ length stage → length ws ≡ size n → StagedCell room ns state first n ws → Staged room ns state end (drop (left + 1) nexts) (drop end stage) → (first ≡ words_in (take left nexts)) × Staged room ns state first (drop left nexts) (drop first (put_mid first (end - first) stage ws))
stage-more room ns state nexts left first end n stage ws is e f within long cell rest =
    let more = words_in-next nexts left n is in
    let at : first ≡ words_in (take left nexts) = omega arith in
    let sum : end ≡ first + size n = omega arith in
    let le : first ≤ end = omega arith in
    let all : Staged room ns state first (n ∷ drop (left + 1) nexts) (ws ++ drop end stage) = (
      staged-front room ns state first n ws (drop end stage) long cell,
      subst (λ (z : ℕ). Staged room ns state z (drop (left + 1) nexts) (drop (size n) (ws ++ drop end stage))) sum
          (subst (λ (z : List Bits). Staged room ns state end (drop (left + 1) nexts) z) (sym (drop_at ws (drop end stage) (size n) long)) rest),
    ) in (
      at,
      subst (λ (z : List Next). Staged room ns state first z (drop first (put_mid first (end - first) stage ws))) (sym (drop-next nexts left n is))
          (subst (λ (z : List Bits). Staged room ns state first (n ∷ drop (left + 1) nexts) z) (sym (put_mid-drop stage ws first end le within)) all),
    )

pub ruleset stage_steps = (staged-word, staged-own, staged-array, take_all, drop_all)

-- putting

-- the state so far, with one more cell
pub put-more : (room : List Bits) (ns : List Node) (old : List Bits) (nexts : List Next) (k first : ℕ) (n : Next) (state stage : List Bits) → slice_get nexts k ≡ Some n → first ≡ words_in (take k nexts) → first + size n ≤ length old → state ≡ all_taken room ns old (take k nexts) ++ drop first old → Staged room ns old first (drop k nexts) (drop first stage) → put_mid first (size n) state (put_cell room ns first n (take (size n) (drop first state)) (take (size n) (drop first stage))) ≡ all_taken room ns old (take (k + 1) nexts) ++ drop (first + size n) old
put-more room ns old nexts k first n state stage is at within so_far staged =
    let done = all_taken room ns old (take k nexts) in
    let long : length done ≡ first = length-all_taken room ns old (take k nexts) ∙ sym at in
    let front : take first state ≡ done = ap (take first) so_far ∙ take_at done (drop first old) first long in
    let back : drop first state ≡ drop first old = ap (drop first) so_far ∙ drop_at done (drop first old) first long in
    let here : Staged room ns old first (n ∷ drop (k + 1) nexts) (drop first stage) =
    subst (λ (z : List Next). Staged room ns old first z (drop first stage)) (drop-next nexts k n is) staged in
    let cell = put_cell-taken room ns old first n (drop first stage) within here.0 in
    ap (λ (z : List Bits). z ++ (put_cell room ns first n (take (size n) (drop first state)) (take (size n) (drop first stage)) ++ drop (size n) (drop first state))) front
    ∙ (ap (λ (z : List Bits). done ++ (put_cell room ns first n (take (size n) z) (take (size n) (drop first stage)) ++ drop (size n) z)) back
    ∙ (ap (λ (z : List Bits). done ++ (z ++ drop (size n) (drop first old))) cell
    ∙ (ap (λ (z : List Bits). done ++ (taken room ns old n ++ z)) (drop-drop (size n) first old)
    ∙ (sym (append_assoc done (taken room ns old n) (drop (first + size n) old))
    ∙ ap (λ (z : List Bits). z ++ drop (first + size n) old)
    (sym (ap (all_taken room ns old) (take-next nexts k n is)
    ∙ (all_taken-append room ns old (take k nexts) (n ∷ [])
    ∙ ap (λ (z : List Bits). done ++ z) (append-nil (taken room ns old n)))))))))

pub staged-more : (room : List Bits) (ns : List Node) (old : List Bits) (nexts : List Next) (k first : ℕ) (n : Next) (stage : List Bits) → slice_get nexts k ≡ Some n → Staged room ns old first (drop k nexts) (drop first stage) → Staged room ns old (first + size n) (drop (k + 1) nexts) (drop (first + size n) stage)
staged-more room ns old nexts k first n stage is staged =
    let here : Staged room ns old first (n ∷ drop (k + 1) nexts) (drop first stage) =
    subst (λ (z : List Next). Staged room ns old first z (drop first stage)) (drop-next nexts k n is) staged in
    subst (λ (z : List Bits). Staged room ns old (first + size n) (drop (k + 1) nexts) z) (drop-drop (size n) first stage) here.1

-- the same where the cell's end is given
pub put-from : (room : List Bits) (ns : List Node) (old : List Bits) (nexts : List Next) (k first end : ℕ) (n : Next) (state stage own : List Bits) → slice_get nexts k ≡ Some n → first ≡ words_in (take k nexts) → end ≡ first + size n → end ≤ length old → state ≡ all_taken room ns old (take k nexts) ++ drop first old → Staged room ns old first (drop k nexts) (drop first stage) → own ≡ put_cell room ns first n (take (end - first) (drop first state)) (take (end - first) (drop first stage)) → put_mid first (end - first) state own ≡ all_taken room ns old (take (k + 1) nexts) ++ drop end old
put-from room ns old nexts k first end n state stage own is at e within so_far staged put =
    let gap : end - first ≡ size n = omega arith in
    let le : first + size n ≤ length old = omega arith in
    ap (put_mid first (end - first) state) put
    ∙ (ap (λ (m : ℕ). put_mid first m state (put_cell room ns first n (take m (drop first state)) (take m (drop first stage)))) gap
    ∙ (put-more room ns old nexts k first n state stage is at le so_far staged
    ∙ ap (λ (z : ℕ). all_taken room ns old (take (k + 1) nexts) ++ drop z old) (sym e)))

pub staged-from : (room : List Bits) (ns : List Node) (old : List Bits) (nexts : List Next) (k first end : ℕ) (n : Next) (stage : List Bits) → slice_get nexts k ≡ Some n → end ≡ first + size n → Staged room ns old first (drop k nexts) (drop first stage) → Staged room ns old end (drop (k + 1) nexts) (drop end stage)
staged-from room ns old nexts k first end n stage is e staged =
    subst (λ (z : ℕ). Staged room ns old z (drop (k + 1) nexts) (drop z stage)) (sym e) (staged-more room ns old nexts k first n stage is staged)

pub put_cell-word : (room : List Bits) (ns : List Node) (first : ℕ) (n : Next) (a : Arg) (w : Bits) (own staged : List Bits) → n ≡ next.Word a → length own ≡ size n → w ≡ room_arg room (length ns) a → set own 0 w ≡ put_cell room ns first n own staged
put_cell-word room ns first n a w [] staged is long e = let none : 0 ≡ 1 = long ∙ ap size is in absurd (omega (arith, none))
put_cell-word room ns first n a w (x ∷ []) staged is long e = rw (is, e) refl
put_cell-word room ns first n a w (x ∷ (y ∷ own)) staged is long e = let none = long ∙ ap size is in absurd (omega (arith, none))

pub ruleset put_steps = (take_all, drop_all)

pub ruleset cell_steps = (words_in-next, words_in-within, take_all)

pub ruleset tick_steps = (all_taken-ticked)
