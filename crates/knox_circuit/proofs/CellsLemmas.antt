-- The layout of states: the words of cells stand among the device words as the parts of a circuit lay
-- them out.
use Rattle.std.proofs.Common.{◌≡◌, ℕ, suc, ◌+◌, ◌^◌, ◌≤◌, List, [], ◌∷◌, ◌++◌, map, replicate, not, Bool, true, false, Option, Some, is_some, length, slice_get, refl, sym, ap, ◌∙◌, arith, if◌then◌else◌}
use Rattle.std.proofs.lemmas.List.{append-nil, append_assoc, length-append, length-replicate}
use Rattle.std.proofs.lemmas.List.Sums.{sum_by-cons}
use Rattle.knox_words.specs.Lists.{pick}
use Rattle.circuit_nodes.specs.declared.node.SortOf.{SortOf}
use Rattle.circuit_nodes.specs.declared.node.SortOf.TheVariants.{Words, Arrays}
use Rattle.circuit_nodes.specs.declared.node.Node.TheVariants as node
use Rattle.circuit_nodes.specs.declared.node.Kind.{Kind}
use Rattle.circuit_nodes.specs.declared.node.Kind.TheVariants as kind
use Rattle.circuit_nodes.specs.declared.node.Row.{Row}
use Rattle.circuit_nodes.specs.declared.node.State.{State}
use Rattle.circuit_table.specs.declared.line.Line.{Line}
use Rattle.circuit_table.specs.Rows.{rows_of}
use Rattle.circuit_table.specs.Typed.{IsTypedKind}
use Rattle.knox_circuit.specs.declared.port.Cell.{Cell}
use Rattle.knox_circuit.specs.declared.port.Stored.{Stored}
use Rattle.knox_circuit.specs.Cells.{words_in, state_widths, sort_width, sort_index, state_cell, stored, stored_among, states_of, placed, chosen, cell_mask, cells_of}
use Rattle.knox_circuit.specs.Cells as cells
use Rattle.knox_circuit.specs.Parts.{kind_node, size, cell_size, bare_size, cell_words, bare_words, first_of, state_of, states_from, widths_where}
use Rattle.knox_circuit.proofs.RowsLemmas.{rows-limited}

-- the node of a state has as many words as its sort, of its sort's width
abbrev pub SuitsKind : Kind → Type 0
SuitsKind (kind.Value t (node.State p w)) = t ≡ Words w
SuitsKind (kind.Value t (node.Array p n w)) = (i : ℕ) × (t ≡ Arrays i w) × (n ≡ 2 ^ i)
SuitsKind _ = Unit {0}

abbrev pub Suit : List Row → Type 0
Suit [] = Unit {0}
Suit (r ∷ rows) = SuitsKind r.kind × Suit rows

kind-suits : (S : ℕ → Option SortOf) (I : List ℕ) (k : Kind) → IsTypedKind S I k → SuitsKind k
kind-suits S I (kind.Value t (node.State p w)) h = h.1
kind-suits S I (kind.Value t (node.Array p n w)) h = h.1
kind-suits S I (kind.Value t _) h = tt
kind-suits S I _ h = tt

all-suit : (rows : List Row) → ((k : ℕ) (r : Row) → slice_get rows k ≡ Some r → SuitsKind r.kind) → Suit rows
all-suit [] h = tt
all-suit (r ∷ rows) h = (h 0 r refl, all-suit rows (λ k s is. h (suc k) s is))

pub rows-suit : (lines : List Line) → Suit (rows_of lines)
rows-suit lines = all-suit (rows_of lines) (λ k r is. kind-suits _ _ r.kind ((rows-limited lines).typed k r is).kind)

-- words and widths of cells

pub words-cons : (c : Cell) (cs : List Cell) → words_in (c ∷ cs) ≡ cells.size c.index + words_in cs
words-cons c cs = sum_by-cons (λ (c : Cell). cells.size c.index) c cs

pub placed-widths : (n : ℕ) (cs : List Cell) → state_widths (placed n cs) ≡ state_widths cs
placed-widths n [] = refl
placed-widths n (c ∷ cs) = ap (λ (z : List ℕ). replicate (cells.size c.index) c.width ++ z) (placed-widths (n + cells.size c.index) cs)

pub widths-counted : (cs : List Cell) → length (state_widths cs) ≡ words_in cs
widths-counted [] = refl
widths-counted (c ∷ cs) =
    length-append (replicate (cells.size c.index) c.width) (state_widths cs)
    ∙ (ap (λ (n : ℕ). n + length (state_widths cs)) (length-replicate (cells.size c.index) c.width)
    ∙ (ap (λ (n : ℕ). cells.size c.index + n) (widths-counted cs)
    ∙ sym (words-cons c cs)))

-- the widths of the words of a state that is one of some, and of the others among them
pub picked-widths : (b : Bool) (mask : List Bool) (c : Cell) (cs : List Cell) → state_widths (pick (b ∷ mask) (c ∷ cs)) ≡ (if b then replicate (cells.size c.index) c.width else []) ++ state_widths (pick mask cs)
picked-widths true mask c cs = refl
picked-widths false mask c cs = refl

-- the widths of the words of cells

abbrev pub widths_in : List Stored → List ℕ
widths_in ss = state_widths (pick (cell_mask ss) (map (λ (s : Stored). s.cell) ss))

where-append : (b : Bool) (ss ts : List State) → widths_where b (ss ++ ts) ≡ widths_where b ss ++ widths_where b ts
where-append b [] ts = refl
where-append true (s ∷ ss) ts = ap (λ (z : List ℕ). (if is_some s.next then replicate s.words s.width else []) ++ z) (where-append true ss ts) ∙ sym (append_assoc (if is_some s.next then replicate s.words s.width else []) (widths_where true ss) (widths_where true ts))
where-append false (s ∷ ss) ts = ap (λ (z : List ℕ). (if not (is_some s.next) then replicate s.words s.width else []) ++ z) (where-append false ss ts) ∙ sym (append_assoc (if not (is_some s.next) then replicate s.words s.width else []) (widths_where false ss) (widths_where false ts))

one-cell : (before : List Line) (l : Line) (k first : ℕ) (r : Row) (d : Kind) (more : List Stored) → SuitsKind d → widths_in (stored before l r d ++ more) ≡ widths_where true (state_of k first r d) ++ widths_in more
one-cell before l k first r (kind.Value t (node.State p w)) more h =
    let rest = widths_in more in
    picked-widths (is_some r.next) (cell_mask more) (state_cell before l t) (map (λ (s : Stored). s.cell) more)
    ∙ (ap (λ (z : SortOf). (if is_some r.next then replicate (cells.size (sort_index z)) (sort_width z) else []) ++ rest) h
    ∙ ap (λ (z : List ℕ). z ++ rest) (sym (append-nil (if is_some r.next then replicate 1 w else []))))
one-cell before l k first r (kind.Value (Arrays j e) (node.Array p n w)) more h =
    let rest = widths_in more in
    let same : e ≡ w = element j h.0 e w h.1 in
    let many : 2 ^ j ≡ n = ap (λ (i : ℕ). 2 ^ i) (index j h.0 e w h.1) ∙ sym h.2 in
    picked-widths (is_some r.next) (cell_mask more) (state_cell before l (Arrays j e)) (map (λ (s : Stored). s.cell) more)
    ∙ (ap (λ (z : ℕ). (if is_some r.next then replicate z e else []) ++ rest) many
    ∙ (ap (λ (z : ℕ). (if is_some r.next then replicate n z else []) ++ rest) same
    ∙ ap (λ (z : List ℕ). z ++ rest) (sym (append-nil (if is_some r.next then replicate n w else []))))) where
      element : (i j e w : ℕ) → Arrays i e ≡ Arrays j w → e ≡ w
      element i j e w q = cc

      index : (i j e w : ℕ) → Arrays i e ≡ Arrays j w → i ≡ j
      index i j e w q = cc
one-cell before l k first r (kind.Value (Words v) (node.Array p n w)) more h = let q : Words v ≡ Arrays h.0 w = h.1 in absurd (cc)
one-cell before l k first r (kind.Value t _) more h = refl
one-cell before l k first r _ more h = refl

widths-from : (before lines : List Line) (rows : List Row) (k c b : ℕ) → Suit rows → length rows ≤ length lines → widths_in (stored_among before lines rows) ≡ widths_where true (states_from k c b rows)
widths-from before [] [] k c b h le = refl
widths-from before [] (r ∷ rows) k c b h le = absurd (omega arith)
widths-from before (l ∷ ls) [] k c b h le = refl
widths-from before (l ∷ ls) (r ∷ rows) k c b h le =
    one-cell before l k (first_of c b r) r r.kind (stored_among (l ∷ before) ls rows) h.0
    ∙ (ap (λ (z : List ℕ). widths_where true (state_of k (first_of c b r) r r.kind) ++ z) (widths-from (l ∷ before) ls rows (k + 1) (c + cell_size r) (b + bare_size r) h.1 (omega (arith, le)))
    ∙ sym (where-append true (state_of k (first_of c b r) r r.kind) (states_from (k + 1) (c + cell_size r) (b + bare_size r) rows)))

-- the widths of the words of cells are those of the states with a `next`
pub cells-widths : (lines : List Line) → state_widths (cells_of lines) ≡ widths_where true (states_from 0 0 (cell_words (rows_of lines)) (rows_of lines))
cells-widths lines =
    placed-widths 0 (pick (cell_mask (states_of lines)) (map (λ (s : Stored). s.cell) (states_of lines)))
    ∙ widths-from [] lines (rows_of lines) 0 0 (cell_words (rows_of lines)) (rows-suit lines) (rows-limited lines).long

-- how many words they have

one-length : (c : Bool) (n w : ℕ) → length ((if c then replicate n w else []) ++ []) ≡ (if c then n else 0)
one-length true n w = ap length (append-nil (replicate n w)) ∙ length-replicate n w
one-length false n w = refl

other-length : (c : Bool) (n w : ℕ) → length ((if not c then replicate n w else []) ++ []) ≡ (if c then 0 else n)
other-length true n w = refl
other-length false n w = ap length (append-nil (replicate n w)) ∙ length-replicate n w

either : (b : Bool) (n : ℕ) → n ≡ (if b then n else n)
either true n = refl
either false n = refl

row-cells : (k first : ℕ) (r : Row) (d : Kind) → SuitsKind d → length (widths_where true (state_of k first r d)) ≡ (if is_some r.next then size (kind_node d) else 0)
row-cells k first r (kind.Value t (node.State p w)) h = one-length (is_some r.next) 1 w
row-cells k first r (kind.Value (Arrays i e) (node.Array p n w)) h = one-length (is_some r.next) n w
row-cells k first r (kind.Value (Words v) (node.Array p n w)) h = let q : Words v ≡ Arrays h.0 w = h.1 in absurd (cc)
row-cells k first r (kind.Value t _) h = either (is_some r.next) 0
row-cells k first r _ h = either (is_some r.next) 0

row-bares : (k first : ℕ) (r : Row) (d : Kind) → SuitsKind d → length (widths_where false (state_of k first r d)) ≡ (if is_some r.next then 0 else size (kind_node d))
row-bares k first r (kind.Value t (node.State p w)) h = other-length (is_some r.next) 1 w
row-bares k first r (kind.Value (Arrays i e) (node.Array p n w)) h = other-length (is_some r.next) n w
row-bares k first r (kind.Value (Words v) (node.Array p n w)) h = let q : Words v ≡ Arrays h.0 w = h.1 in absurd (cc)
row-bares k first r (kind.Value t _) h = either (is_some r.next) 0
row-bares k first r _ h = either (is_some r.next) 0

pub cells-counted : (k c b : ℕ) (rows : List Row) → Suit rows → length (widths_where true (states_from k c b rows)) ≡ cell_words rows
cells-counted k c b [] h = refl
cells-counted k c b (r ∷ rows) h =
    let one = state_of k (first_of c b r) r r.kind in
    let more = states_from (k + 1) (c + cell_size r) (b + bare_size r) rows in
    ap length (where-append true one more) ∙ (length-append (widths_where true one) (widths_where true more)
    ∙ (ap (λ (n : ℕ). n + length (widths_where true more)) (row-cells k (first_of c b r) r r.kind h.0)
    ∙ ap (λ (n : ℕ). cell_size r + n) (cells-counted (k + 1) (c + cell_size r) (b + bare_size r) rows h.1)))

pub bares-counted : (k c b : ℕ) (rows : List Row) → Suit rows → length (widths_where false (states_from k c b rows)) ≡ bare_words rows
bares-counted k c b [] h = refl
bares-counted k c b (r ∷ rows) h =
    let one = state_of k (first_of c b r) r r.kind in
    let more = states_from (k + 1) (c + cell_size r) (b + bare_size r) rows in
    ap length (where-append false one more) ∙ (length-append (widths_where false one) (widths_where false more)
    ∙ (ap (λ (n : ℕ). n + length (widths_where false more)) (row-bares k (first_of c b r) r r.kind h.0)
    ∙ ap (λ (n : ℕ). bare_size r + n) (bares-counted (k + 1) (c + cell_size r) (b + bare_size r) rows h.1)))

-- the cells have the words that stand before those of other states
pub cells-words : (lines : List Line) → words_in (cells_of lines) ≡ cell_words (rows_of lines)
cells-words lines =
    sym (widths-counted (cells_of lines))
    ∙ (ap length (cells-widths lines)
    ∙ cells-counted 0 0 (cell_words (rows_of lines)) (rows_of lines) (rows-suit lines))

pub ruleset word_steps = (words-cons)
