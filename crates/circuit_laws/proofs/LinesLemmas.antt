-- What contracts say of lines, by the states and rows of the lines.
use Rattle.std.proofs.Common.{◌≡◌, ℕ, suc, ◌+◌, ◌≤◌, ◌&&◌, List, [], ◌∷◌, ◌++◌, Option, Some, Bool, true, false, not, is_some, map, drop, replicate, length, slice_get, refl, sym, ◌∙◌, ap, subst, arith, if◌then◌else◌}
use Rattle.std.proofs.lemmas.List.{map-append}
use Rattle.knox_words.specs.Lists.{pick}
use Rattle.circuit_nodes.specs.declared.node.Node.TheVariants as node
use Rattle.circuit_nodes.specs.declared.node.SortOf.{SortOf}
use Rattle.circuit_nodes.specs.declared.node.SortOf.TheVariants.{Words, Arrays}
use Rattle.circuit_nodes.specs.declared.node.State.{State}
use Rattle.circuit_nodes.specs.declared.node.Kind.{Kind}
use Rattle.circuit_nodes.specs.declared.node.Kind.TheVariants as kind
use Rattle.circuit_nodes.specs.declared.node.Row.{Row}
use Rattle.circuit_nodes.specs.Starts.{first_keep, keep_after}
use Rattle.circuit_table.specs.declared.line.Line.{Line}
use Rattle.circuit_table.specs.Rows.{kind_inputs, inputs_in, rows_of}
use Rattle.circuit_table.specs.Typed.{IsTypedKind}
use Rattle.knox_circuit.specs.declared.port.Cell.{Cell}
use Rattle.knox_circuit.specs.declared.port.Port.{Port}
use Rattle.knox_circuit.specs.declared.port.Stored.{Stored}
use Rattle.knox_circuit.specs.Cells as cells
use Rattle.knox_circuit.specs.Cells.{state_widths, stored, stored_among, states_of, placed, cell_mask, cells_of, noise_mask, noise_widths, keep_mask}
use Rattle.knox_circuit.specs.Parts.{cell_words, first_of, states_from}
use Rattle.knox_circuit.specs.Ports as ports
use Rattle.knox_circuit.specs.Ports.{input_port, output_port, input_widths, output_widths}
use Rattle.knox_circuit.proofs.RowsLemmas.{rows-limited}
use Rattle.knox_circuit.proofs.CellsLemmas.{rows-suit, placed-widths, picked-widths}
use Rattle.circuit_laws.proofs.ByCellLemmas.{by_cell}
use Rattle.circuit_laws.proofs.StatesLemmas.{OneState, NoState, state_by, states-each}
use Rattle.circuit_laws.proofs.PowerLemmas.{takes, noise_in}

-- states as callers see them, and as they are evaluated

pub record Same (t : Stored) (s : State) : Type 0 where
  pub width : t.cell.width ≡ s.width
  pub size : cells.size t.cell.index ≡ s.words
  pub is_cell : t.is_cell ≡ is_some s.next
  pub has_init : t.has_init ≡ is_some s.init

abbrev pub AllSame : List Stored → List State → Type 0
AllSame [] [] = Unit {0}
AllSame [] (s ∷ ss) = ⊥
AllSame (t ∷ ts) [] = ⊥
AllSame (t ∷ ts) (s ∷ ss) = Same t s × AllSame ts ss

abbrev Pairs : ℕ → ℕ → ℕ → List Row → List State → Type 0
Pairs k c b rows ss = (before ls : List Line) → length rows ≤ length ls → AllSame (stored_among before ls rows) ss

none-pair : (k c b : ℕ) → Pairs k c b [] []
none-pair k c b before [] le = tt
none-pair k c b before (l ∷ ls) le = tt

one-pair : (k c b : ℕ) (r : Row) (rows : List Row) (ss : List State) (one : OneState r r.kind) → Pairs (k + 1) (c + (if is_some r.next then one.words else 0)) (b + (if is_some r.next then 0 else one.words)) rows ss → Pairs k c b (r ∷ rows) (state_by k (first_of c b r) r one.words one.width one.index ∷ ss)
one-pair k c b r rows ss one rest before [] le = absurd (omega arith)
one-pair k c b r rows ss one rest before (l ∷ ls) le =
    subst (λ (z : List Stored). AllSame (z ++ stored_among (l ∷ before) ls rows) (state_by k (first_of c b r) r one.words one.width one.index ∷ ss)) (sym (one.stored before l)) (
      record { width = one.cell_width; size = ap cells.size one.cell_index ∙ one.many; is_cell = refl; has_init = refl },
      rest (l ∷ before) ls (omega (arith, le)),
    )

no-pair : (k c b : ℕ) (r : Row) (rows : List Row) (ss : List State) (non : NoState r r.kind) → Pairs (k + 1) (c + (if is_some r.next then 0 else 0)) (b + (if is_some r.next then 0 else 0)) rows ss → Pairs k c b (r ∷ rows) ss
no-pair k c b r rows ss non rest before [] le = absurd (omega arith)
no-pair k c b r rows ss non rest before (l ∷ ls) le =
    subst (λ (z : List Stored). AllSame (z ++ stored_among (l ∷ before) ls rows) ss) (sym (non.stored before l)) (rest (l ∷ before) ls (omega (arith, le)))

pub states-same : (lines : List Line) → AllSame (states_of lines) (states_from 0 0 (cell_words (rows_of lines)) (rows_of lines))
states-same lines = states-each Pairs none-pair one-pair no-pair 0 0 (cell_words (rows_of lines)) (rows_of lines) (rows-suit lines) [] lines (rows-limited lines).long

-- which words are kept

-- one truth value for each word of a cell
abbrev pub kept_mask : State → List Bool → List Bool
kept_mask s keep = replicate s.words (first_keep keep)

abbrev pub mask_in : List State → List Bool → List Bool
mask_in ss keep = by_cell kept_mask ss keep

first-same : (keep : List Bool) → cells.first_keep keep ≡ first_keep keep
first-same [] = refl
first-same (k ∷ ks) = refl

placed-mask : (n : ℕ) (cs : List Cell) (keep : List Bool) → keep_mask (placed n cs) keep ≡ keep_mask cs keep
placed-mask n [] keep = refl
placed-mask n (c ∷ cs) keep = ap (λ (z : List Bool). replicate (cells.size c.index) (cells.first_keep keep) ++ z) (placed-mask (n + cells.size c.index) cs (drop 1 keep))

picked-mask : (b : Bool) (mask : List Bool) (c : Cell) (cs : List Cell) (keep : List Bool) → keep_mask (pick (b ∷ mask) (c ∷ cs)) keep ≡ (if b then replicate (cells.size c.index) (cells.first_keep keep) else []) ++ keep_mask (pick mask cs) (if b then drop 1 keep else keep)
picked-mask true mask c cs keep = refl
picked-mask false mask c cs keep = refl

mask-same : (ts : List Stored) (ss : List State) (keep : List Bool) → AllSame ts ss → keep_mask (pick (cell_mask ts) (map (λ (t : Stored). t.cell) ts)) keep ≡ mask_in ss keep
mask-same [] [] keep h = refl
mask-same [] (s ∷ ss) keep h = absurd h
mask-same (t ∷ ts) [] keep h = absurd h
mask-same (t ∷ ts) (s ∷ ss) keep h =
    picked-mask t.is_cell (cell_mask ts) t.cell (map (λ (t : Stored). t.cell) ts) keep
    ∙ (ap (λ (z : Bool). (if z then replicate (cells.size t.cell.index) (cells.first_keep keep) else []) ++ keep_mask (pick (cell_mask ts) (map (λ (t : Stored). t.cell) ts)) (if z then drop 1 keep else keep)) h.0.is_cell
    ∙ (ap (λ (n : ℕ). (if is_some s.next then replicate n (cells.first_keep keep) else []) ++ keep_mask (pick (cell_mask ts) (map (λ (t : Stored). t.cell) ts)) (keep_after s keep)) h.0.size
    ∙ (ap (λ (k : Bool). (if is_some s.next then replicate s.words k else []) ++ keep_mask (pick (cell_mask ts) (map (λ (t : Stored). t.cell) ts)) (keep_after s keep)) (first-same keep)
    ∙ ap (λ (z : List Bool). (if is_some s.next then replicate s.words (first_keep keep) else []) ++ z) (mask-same ts ss (keep_after s keep) h.1))))

pub lines-mask : (lines : List Line) (keep : List Bool) → keep_mask (cells_of lines) keep ≡ mask_in (states_from 0 0 (cell_words (rows_of lines)) (rows_of lines)) keep
lines-mask lines keep =
    placed-mask 0 (pick (cell_mask (states_of lines)) (map (λ (t : Stored). t.cell) (states_of lines))) keep
    ∙ mask-same (states_of lines) _ keep (states-same lines)

-- the widths of noise words

mask-step : (c : Cell) (b i : Bool) (ts : List Stored) (keep : List Bool) → noise_mask (record { cell = c; is_cell = b; has_init = i } ∷ ts) keep ≡ (not i && not (b && cells.first_keep keep)) ∷ noise_mask ts (if b then drop 1 keep else keep)
mask-step c true i ts keep = refl
mask-step c false i ts keep = refl

noise-same : (ts : List Stored) (ss : List State) (keep : List Bool) → AllSame ts ss → state_widths (pick (noise_mask ts keep) (map (λ (t : Stored). t.cell) ts)) ≡ noise_in ss keep
noise-same [] [] keep h = refl
noise-same [] (s ∷ ss) keep h = absurd h
noise-same (t ∷ ts) [] keep h = absurd h
noise-same (t ∷ ts) (s ∷ ss) keep h =
    let cs = map (λ (t : Stored). t.cell) ts in
    ap (λ (m : List Bool). state_widths (pick m (t.cell ∷ cs))) (mask-step t.cell t.is_cell t.has_init ts keep)
    ∙ (picked-widths (not t.has_init && not (t.is_cell && cells.first_keep keep)) (noise_mask ts (if t.is_cell then drop 1 keep else keep)) t.cell cs
    ∙ (ap (λ (z : Bool). (if not t.has_init && not (z && cells.first_keep keep) then replicate (cells.size t.cell.index) t.cell.width else []) ++ state_widths (pick (noise_mask ts (if z then drop 1 keep else keep)) cs)) h.0.is_cell
    ∙ (ap (λ (z : Bool). (if not z && not (is_some s.next && cells.first_keep keep) then replicate (cells.size t.cell.index) t.cell.width else []) ++ state_widths (pick (noise_mask ts (keep_after s keep)) cs)) h.0.has_init
    ∙ (ap (λ (z : Bool). (if not (is_some s.init) && not (is_some s.next && z) then replicate (cells.size t.cell.index) t.cell.width else []) ++ state_widths (pick (noise_mask ts (keep_after s keep)) cs)) (first-same keep)
    ∙ (ap (λ (n : ℕ). (if takes s keep then replicate n t.cell.width else []) ++ state_widths (pick (noise_mask ts (keep_after s keep)) cs)) h.0.size
    ∙ (ap (λ (w : ℕ). (if takes s keep then replicate s.words w else []) ++ state_widths (pick (noise_mask ts (keep_after s keep)) cs)) h.0.width
    ∙ ap (λ (z : List ℕ). (if takes s keep then replicate s.words s.width else []) ++ z) (noise-same ts ss (keep_after s keep) h.1)))))))

pub lines-noise : (lines : List Line) (keep : List Bool) → noise_widths lines keep ≡ noise_in (states_from 0 0 (cell_words (rows_of lines)) (rows_of lines)) keep
lines-noise lines keep =
    placed-widths 0 (pick (noise_mask (states_of lines) keep) (map (λ (t : Stored). t.cell) (states_of lines)))
    ∙ noise-same (states_of lines) _ keep (states-same lines)

-- the widths of inputs and outputs

input-width : (S : ℕ → Option SortOf) (ins : List ℕ) (before : List Line) (l : Line) (d : Kind) → IsTypedKind S ins d → map (λ (p : Port). p.width) (input_port before l d) ≡ kind_inputs d
input-width S ins before l (kind.Value (Words w) (node.Input p v)) h = let same : Words w ≡ Words v = h.1.0 in of w v same where
  of : (w v : ℕ) → Words w ≡ Words v → w ∷ [] ≡ v ∷ []
  of w v e = cc
input-width S ins before l (kind.Value (Arrays i e) (node.Input p v)) h = let same : Arrays i e ≡ Words v = h.1.0 in absurd (cc)
input-width S ins before l (kind.Value t _) h = refl
input-width S ins before l _ h = refl

inputs-width : (before ls : List Line) (rows : List Row) → length rows ≤ length ls → ((k : ℕ) (r : Row) → slice_get rows k ≡ Some r → (before : List Line) (l : Line) → map (λ (p : Port). p.width) (input_port before l r.kind) ≡ kind_inputs r.kind) → map (λ (p : Port). p.width) (ports.inputs_among before ls rows) ≡ inputs_in rows
inputs-width before [] [] le h = refl
inputs-width before [] (r ∷ rows) le h = absurd (omega arith)
inputs-width before (l ∷ ls) [] le h = refl
inputs-width before (l ∷ ls) (r ∷ rows) le h =
    map-append (λ (p : Port). p.width) (input_port before l r.kind) (ports.inputs_among (l ∷ before) ls rows)
    ∙ (ap (λ (z : List ℕ). z ++ map (λ (p : Port). p.width) (ports.inputs_among (l ∷ before) ls rows)) (h 0 r refl before l)
    ∙ ap (λ (z : List ℕ). kind_inputs r.kind ++ z) (inputs-width (l ∷ before) ls rows (omega (arith, le)) (λ k q is. h (suc k) q is)))

pub lines-inputs : (lines : List Line) → input_widths lines ≡ inputs_in (rows_of lines)
lines-inputs lines =
    let limits = rows-limited lines in
    inputs-width [] lines (rows_of lines) limits.long (λ k r is before l. input-width _ _ before l r.kind (limits.typed k r is).kind)

abbrev pub kind_outputs : Kind → List ℕ
kind_outputs (kind.Output a w) = w ∷ []
kind_outputs _ = []

abbrev pub outputs_in : List Row → List ℕ
outputs_in [] = []
outputs_in (r ∷ rows) = kind_outputs r.kind ++ outputs_in rows

output-width : (before : List Line) (l : Line) (d : Kind) → map (λ (p : Port). p.width) (output_port before l d) ≡ kind_outputs d
output-width before l (kind.Output a w) = refl
output-width before l (kind.Value t n) = refl
output-width before l (kind.Sort t) = refl
output-width before l (kind.Fed a) = refl
output-width before l (kind.Bad a) = refl
output-width before l kind.Other = refl

outputs-width : (before ls : List Line) (rows : List Row) → length rows ≤ length ls → map (λ (p : Port). p.width) (ports.outputs_among before ls rows) ≡ outputs_in rows
outputs-width before [] [] le = refl
outputs-width before [] (r ∷ rows) le = absurd (omega arith)
outputs-width before (l ∷ ls) [] le = refl
outputs-width before (l ∷ ls) (r ∷ rows) le =
    map-append (λ (p : Port). p.width) (output_port before l r.kind) (ports.outputs_among (l ∷ before) ls rows)
    ∙ (ap (λ (z : List ℕ). z ++ map (λ (p : Port). p.width) (ports.outputs_among (l ∷ before) ls rows)) (output-width before l r.kind)
    ∙ ap (λ (z : List ℕ). kind_outputs r.kind ++ z) (outputs-width (l ∷ before) ls rows (omega (arith, le))))

pub lines-outputs : (lines : List Line) → output_widths lines ≡ outputs_in (rows_of lines)
lines-outputs lines = outputs-width [] lines (rows_of lines) (rows-limited lines).long
