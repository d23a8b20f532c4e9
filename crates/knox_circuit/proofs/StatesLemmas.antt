-- Some of the states, one after another, and the widths of their words.
use Rattle.std.proofs.Common.{◌≡◌, ℕ, zero, suc, ◌+◌, ◌-◌, ◌<◌, ◌≤◌, ◌^◌, List, [], ◌∷◌, ◌++◌, length, map, replicate, Bool, true, false, refl, sym, ap, subst, ◌∙◌, arith, lit<, inl, inr, if◌then◌else◌}
use Rattle.std.proofs.Math.Nat.{pow-le-pow_right}
use Rattle.std.proofs.lemmas.Bool.{cases_lt}
use Rattle.knox_words.specs.Bits.{Bits}
use Rattle.knox_words.specs.Lists.{fit, fits, pick}
use Rattle.circuit_nodes.specs.declared.node.Node.TheVariants as node
use Rattle.circuit_nodes.specs.declared.node.SortOf.TheVariants.{Words, Arrays}
use Rattle.circuit_nodes.specs.declared.node.Kind.{Kind}
use Rattle.circuit_nodes.specs.declared.node.Kind.TheVariants as kind
use Rattle.circuit_nodes.specs.declared.node.Row.{Row}
use Rattle.circuit_table.specs.declared.line.Line.{Line}
use Rattle.circuit_table.specs.Rows.{rows_of}
use Rattle.knox_circuit.specs.declared.port.Cell.{Cell}
use Rattle.knox_circuit.specs.declared.port.Stored.{Stored}
use Rattle.knox_circuit.specs.Cells.{words_in, state_widths, placed, chosen, all_words, stored, stored_among, states_of, noise_mask, noise_widths}
use Rattle.knox_circuit.specs.Cells as cells
use Rattle.knox_circuit.specs.Parts.{kind_node, size, cell_words, bare_words}
use Rattle.knox_circuit.proofs.RowsLemmas.{rows-limited}
use Rattle.knox_circuit.proofs.CellsLemmas.{SuitsKind, Suit, rows-suit, placed-widths, picked-widths, words-cons}
use Rattle.knox_circuit.proofs.PartsLemmas.{either-size, sizes-few}

-- as few words have narrow indices
pub narrow_index : (i : ℕ) → 2 ^ i ≤ 2000000 → i < 32
narrow_index i h = elim (cases_lt i 32) [
  | inl lt ↦ lt
  | inr ge ↦ let more : 2 ^ 32 ≤ 2 ^ i = pow-le-pow_right {n = 2} (lit< tt) ge in absurd (omega (arith, more, h))
]

pub ruleset size_steps = (narrow_index)

-- one more state that is marked or not
pub chosen-more : (place : ℕ) (b : Bool) (mask : List Bool) (c : Cell) (cs : List Cell) → placed place (pick (b ∷ mask) (c ∷ cs)) ≡ (if b then record c { first = place } ∷ [] else []) ++ placed (if b then place + cells.size c.index else place) (pick mask cs)
chosen-more place true mask c cs = refl
chosen-more place false mask c cs = refl

pub place-more : (place n m : ℕ) (b : Bool) → place + (n + m) ≤ 2000000 → (if b then place + n else place) + m ≤ 2000000
place-more place n m true h = omega (arith, h)
place-more place n m false h = omega (arith, h)

pub ruleset chosen_steps = (chosen-more, place-more)

-- a word of the width
pub one-fits : (n w : ℕ) (ws : List ℕ) (a : Bits) (words : List Bits) → 0 < n → fits w a ≡ true → fit (replicate n w ++ ws) (a ∷ words) ≡ fit (replicate (n - 1) w ++ ws) words
one-fits zero w ws a words h e = absurd (omega arith)
one-fits (suc n) w ws a words h e = let back : suc n - 1 ≡ n = omega arith in rw (e, back) refl

-- another word
pub one-unfit : (n w : ℕ) (ws : List ℕ) (a : Bits) (words : List Bits) → 0 < n → fits w a ≡ false → fit (replicate n w ++ ws) (a ∷ words) ≡ false
one-unfit zero w ws a words h e = absurd (omega arith)
one-unfit (suc n) w ws a words h e = rw e refl

-- no word
pub none-unfit : (n w : ℕ) (ws : List ℕ) (words : List Bits) → 0 < n → length words ≡ 0 → fit (replicate n w ++ ws) words ≡ false
none-unfit n w ws (a ∷ words) h e = absurd (omega (arith, e))
none-unfit zero w ws [] h e = absurd (omega arith)
none-unfit (suc n) w ws [] h e = refl

pub ruleset word_steps = (one-fits, one-unfit, none-unfit)

pub chosen-fits : (mask : List Bool) (ss : List Stored) (words : List Bits) → fit (state_widths (chosen mask ss)) words ≡ fit (state_widths (pick mask (map (λ (s : Stored). s.cell) ss))) words
chosen-fits mask ss words = ap (λ ws. fit ws words) (placed-widths 0 (pick mask (map (λ (s : Stored). s.cell) ss)))

pub marked-fits : (b : Bool) (mask : List Bool) (c : Cell) (cs : List Cell) (words : List Bits) → fit (state_widths (pick (b ∷ mask) (c ∷ cs))) words ≡ fit ((if b then replicate (cells.size c.index) c.width else []) ++ state_widths (pick mask cs)) words
marked-fits b mask c cs words = ap (λ ws. fit ws words) (picked-widths b mask c cs)

pub ruleset noise_steps = (chosen-fits)

pub ruleset marked_steps = (marked-fits)

-- the states of a circuit have few words

one-few : (before : List Line) (l : Line) (r : Row) (d : Kind) (more : List Stored) → SuitsKind d → all_words (stored before l r d ++ more) ≡ size (kind_node d) + all_words more
one-few before l r (kind.Value t (node.State p w)) more h = ap (λ t. cells.size (cells.sort_index t) + all_words more) h
one-few before l r (kind.Value (Arrays j e) (node.Array p n w)) more h = ap (λ i. i + all_words more) (ap (λ (i : ℕ). 2 ^ i) (index j h.0 e w h.1) ∙ sym h.2) where
  index : (i j e w : ℕ) → Arrays i e ≡ Arrays j w → i ≡ j
  index i j e w q = cc
one-few before l r (kind.Value (Words v) (node.Array p n w)) more h = let q : Words v ≡ Arrays h.0 w = h.1 in absurd (cc)
one-few before l r (kind.Value t _) more h = omega arith
one-few before l r _ more h = omega arith

words-from : (before lines : List Line) (rows : List Row) → Suit rows → all_words (stored_among before lines rows) ≤ cell_words rows + bare_words rows
words-from before [] rows h = omega arith
words-from before (l ∷ ls) [] h = omega arith
words-from before (l ∷ ls) (r ∷ rows) h =
    let rest = words-from (l ∷ before) ls rows h.1 in
    let one = one-few before l r r.kind (stored_among (l ∷ before) ls rows) h.0 in
    let both = either-size r in
    omega (arith, rest, one, both)

pub states-few : (lines : List Line) → all_words (states_of lines) ≤ 2000000
states-few lines =
    let from = words-from [] lines (rows_of lines) (rows-suit lines) in
    let few = sizes-few (rows_of lines) in
    let rows = rows-limited lines in
    omega (arith, from, few, rows.few, rows.words)

pub few-from : (lines : List Line) (rows : List Row) (ss : List Stored) → rows ≡ rows_of lines → ss ≡ stored_among [] lines rows → all_words ss ≤ 2000000
few-from lines rows ss r e = let AtMost : List Stored → Type 0 = λ z. all_words z ≤ 2000000 in subst AtMost (sym (e ∙ ap (stored_among [] lines) r)) (states-few lines)

-- and so have some of them
pick-few : (mask : List Bool) (ss : List Stored) → words_in (pick mask (map (λ (s : Stored). s.cell) ss)) ≤ all_words ss
pick-few [] ss = omega arith
pick-few (b ∷ mask) [] = omega arith
pick-few (true ∷ mask) (s ∷ ss) = let rest = pick-few mask ss in let e = words-cons s.cell (pick mask (map (λ (s : Stored). s.cell) ss)) in omega (arith, rest, e)
pick-few (false ∷ mask) (s ∷ ss) = let rest = pick-few mask ss in omega (arith, rest)

placed-words : (n : ℕ) (cs : List Cell) → words_in (placed n cs) ≡ words_in cs
placed-words n [] = refl
placed-words n (c ∷ cs) = words-cons (record c { first = n }) (placed (n + cells.size c.index) cs) ∙ (ap (λ m. cells.size c.index + m) (placed-words (n + cells.size c.index) cs) ∙ sym (words-cons c cs))

pub chosen-few : (mask : List Bool) (ss : List Stored) → all_words ss ≤ 2000000 → words_in (chosen mask ss) ≤ 2000000
chosen-few mask ss h =
    let same = placed-words 0 (pick mask (map (λ (s : Stored). s.cell) ss)) in
    let few = pick-few mask ss in
    omega (arith, same, few, h)

pub ruleset few_steps = (states-few, chosen-few)
