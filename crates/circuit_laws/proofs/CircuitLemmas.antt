-- The laws of circuits, of their lines.
use Rattle.std.proofs.Common.{◌≡◌, ℕ, suc, ◌+◌, ◌<◌, ◌≤◌, ◌==◌, ◌&&◌, List, [], ◌∷◌, ◌++◌, Option, Some, Bool, true, false, is_some, map, take, replicate, length, slice_get, get_or, refl, sym, ◌∙◌, ap, subst, arith, if◌then◌else◌}
use Rattle.std.proofs.lemmas.Bool.{and_parts}
use Rattle.std.proofs.lemmas.List.{append-nil, map-append, length-append, length-map, length-replicate, length-take-le, get_or-take}
use Rattle.std.proofs.lemmas.Option.{slice_get_within, slice_get-get_or}
use Rattle.knox_words.specs.Bits.{Bits, bits, word_or, is_word}
use Rattle.knox_words.specs.Lists.{fits, fit, are_widths, zeros, zeros_or, pick, merge}
use Rattle.knox_words.proofs.Lists.{fit-both, fit-take, fit-zeros, zeros_or-zeros, length-fit, fits-width}
use Rattle.circuit_nodes.specs.declared.node.Node.{Node}
use Rattle.circuit_nodes.specs.declared.node.SortOf.{SortOf}
use Rattle.circuit_nodes.specs.declared.node.SortOf.TheVariants.{Words}
use Rattle.circuit_nodes.specs.declared.node.State.{State}
use Rattle.circuit_nodes.specs.declared.node.Kind.{Kind}
use Rattle.circuit_nodes.specs.declared.node.Kind.TheVariants as kind
use Rattle.circuit_nodes.specs.declared.node.Next.{Next}
use Rattle.circuit_nodes.specs.declared.node.Row.{Row}
use Rattle.circuit_nodes.specs.declared.power.Fresh.TheVariants as fresh
use Rattle.circuit_nodes.specs.Values.{Value, given, value_at, arg_word, words_within, word_or_zero}
use Rattle.circuit_nodes.specs.Ticks.{ticked}
use Rattle.circuit_nodes.specs.Starts.{values, first_keep, by_init, fresh_of, words_by, keep_after, built}
use Rattle.circuit_table.specs.declared.line.Line.{Line}
use Rattle.circuit_table.specs.Rows.{kinds_of, inputs_in, rows_of}
use Rattle.circuit_table.specs.Typed.{sort_in, IsTypedKind}
use Rattle.knox_circuit.specs.Circuit.{output_words, state_after_tick, state_after_power, factory_state}
use Rattle.knox_circuit.specs.Ports.{input_widths, output_widths}
use Rattle.knox_circuit.specs.Cells.{cells_of, state_widths, words_in, noise_widths, keep_mask}
use Rattle.knox_circuit.specs.Rom.{rom_words, agree}
use Rattle.knox_circuit.specs.Parts as parts
use Rattle.knox_circuit.specs.Parts.{cell_words, nodes_from, states_from, nexts_of, widths_where, all_widths}
use Rattle.knox_circuit.proofs.RowsLemmas.{rows-limited}
use Rattle.knox_circuit.proofs.CellsLemmas.{rows-suit, cells-widths, cells-counted, cells-words, widths-counted}
use Rattle.circuit_laws.proofs.FitLemmas.{FitsAt, fit-at, at-fit, are_widths-both, are_widths-same, first_words-at}
use Rattle.circuit_laws.proofs.SuitsLemmas.{AllSuit, arg-fits, sort-whole}
use Rattle.circuit_laws.proofs.StatesLemmas.{Every, every-get, every-map, nexts_in, Stands, states-next}
use Rattle.circuit_laws.proofs.WidthsLemmas.{Placed, IsFit, IsLaid, is-laid, inputs-range, states-range, values-fit}
use Rattle.circuit_laws.proofs.PowerLemmas.{takes, noise_in, fit-get, Built, built-fits, built-same, length-after, cell-word, within-word}
use Rattle.circuit_laws.proofs.LinesLemmas.{kept_mask, lines-mask, lines-noise, lines-inputs, kind_outputs, outputs_in, lines-outputs}
use Rattle.circuit_laws.proofs.TickLemmas.{tick-fits, tick-word, length-tick, own-value}
use Rattle.circuit_laws.proofs.ByCellLemmas.{turn, length-by_cell, IsOf, is-of}
use Rattle.circuit_laws.proofs.RomLemmas.{slice_get-replicate}
use Rattle.circuit_laws.proofs.KnownLemmas.{agree-at, at-agree, rom_by, length-rom, roms-by_cell, known-still, rom-fresh, turn-none}
use Rattle.circuit_laws.proofs.KeptLemmas.{pick-same, merge-at, default-any, same-kept}

-- the nodes and states of lines

abbrev nodes : List Line → List Node
nodes lines = nodes_from 0 (cell_words (rows_of lines)) (rows_of lines)

abbrev states : List Line → List State
states lines = states_from 0 0 (cell_words (rows_of lines)) (rows_of lines)

abbrev sorts : List Line → ℕ → Option SortOf
sorts lines = sort_in (kinds_of (rows_of lines))

abbrev cell_widths : List Line → List ℕ
cell_widths lines = widths_where true (states lines)

lines-laid : (lines : List Line) → IsLaid (rows_of lines) (nodes lines) (states lines)
lines-laid lines = is-laid (rows_of lines) (rows-limited lines).typed (rows-suit lines)

lines-counted : (lines : List Line) → length (cell_widths lines) ≡ cell_words (rows_of lines)
lines-counted lines = cells-counted 0 0 (cell_words (rows_of lines)) (rows_of lines) (rows-suit lines)

state-fits : (lines : List Line) (state : List Bits) → fit (state_widths (cells_of lines)) state ≡ true → FitsAt (all_widths (states lines)) state
state-fits lines state h = fit-at (cell_widths lines) (widths_where false (states lines)) state (lines-laid lines).range (ap (λ (ws : List ℕ). fit ws state) (sym (cells-widths lines)) ∙ h)

none-fits : (ws : List ℕ) → are_widths ws ≡ true → FitsAt ws []
none-fits ws are = fit-at [] ws [] are refl

inputs-fit : (lines : List Line) (inputs : List Bits) → fit (input_widths lines) inputs ≡ true → FitsAt (inputs_in (rows_of lines)) inputs
inputs-fit lines inputs h =
    let ins = inputs_in (rows_of lines) in
    let are : are_widths (ins ++ []) ≡ true = ap are_widths (append-nil ins) ∙ inputs-range (rows_of lines) (rows-limited lines).typed in
    subst (λ (ws : List ℕ). FitsAt ws inputs) (append-nil ins) (fit-at ins [] inputs are (ap (λ (ws : List ℕ). fit ws inputs) (sym (lines-inputs lines)) ∙ h))

lines-suit : (lines : List Line) (inputs state : List Bits) → FitsAt (inputs_in (rows_of lines)) inputs → FitsAt (all_widths (states lines)) state → AllSuit (sorts lines) (value_at (given inputs state) (nodes lines) (length (nodes lines)))
lines-suit lines inputs state fi fs = values-fit (rows_of lines) (nodes lines) (states lines) (given inputs state) (rows-limited lines).typed (lines-laid lines) fi fs

-- ticks keep widths

lines-next : (lines : List Line) → nexts_of (rows_of lines) ≡ nexts_in (states lines)
lines-next lines = states-next 0 0 (cell_words (rows_of lines)) (rows_of lines) (rows-suit lines)

pub tick-keeps : (lines : List Line) (state inputs : List Bits) → fit (state_widths (cells_of lines)) state ≡ true → fit (input_widths lines) inputs ≡ true → fit (state_widths (cells_of lines)) (state_after_tick lines state inputs) ≡ true
tick-keeps lines state inputs h k =
    let at = value_at (given inputs state) (nodes lines) (length (nodes lines)) in
    ap (λ (ws : List ℕ). fit ws (ticked at (nexts_of (rows_of lines)))) (cells-widths lines)
    ∙ (ap (λ (ns : List Next). fit (cell_widths lines) (ticked at ns)) (lines-next lines)
    ∙ tick-fits (sorts lines) at (states lines) (lines-suit lines inputs state (inputs-fit lines inputs k) (state-fits lines state h)) (lines-laid lines).fit)

-- outputs have their widths

abbrev OutputSuits : (ℕ → Option SortOf) → Kind → Type 0
OutputSuits S (kind.Output a w) = S a.node ≡ Some (Words w)
OutputSuits S _ = Unit {0}

output-suits : (S T : ℕ → Option SortOf) (ins : List ℕ) (d : Kind) → ((k : ℕ) (s : SortOf) → S k ≡ Some s → T k ≡ Some s) → IsTypedKind S ins d → OutputSuits T d
output-suits S T ins (kind.Output a w) more h = more a.node (Words w) h
output-suits S T ins _ more h = tt

output-fits : (S : ℕ → Option SortOf) (at : ℕ → Value) (d : Kind) → AllSuit S at → OutputSuits S d → fit (kind_outputs d) (map (arg_word at) (parts.kind_outputs d)) ≡ true
output-fits S at (kind.Output a w) all h = ap (λ (b : Bool). b && true) (arg-fits at a (Words w) (all a.node (Words w) h))
output-fits S at _ all h = refl

outputs-fit : (S : ℕ → Option SortOf) (at : ℕ → Value) (rows : List Row) → AllSuit S at → ((k : ℕ) (r : Row) → slice_get rows k ≡ Some r → OutputSuits S r.kind) → fit (outputs_in rows) (map (arg_word at) (parts.outputs_of rows)) ≡ true
outputs-fit S at [] all h = refl
outputs-fit S at (r ∷ rows) all h =
    ap (fit (kind_outputs r.kind ++ outputs_in rows)) (map-append (arg_word at) (parts.kind_outputs r.kind) (parts.outputs_of rows))
    ∙ fit-both (kind_outputs r.kind) (outputs_in rows) (map (arg_word at) (parts.kind_outputs r.kind)) (map (arg_word at) (parts.outputs_of rows))
    (output-fits S at r.kind all (h 0 r refl)) (outputs-fit S at rows all (λ k q is. h (suc k) q is))

pub outputs-keep : (lines : List Line) (state inputs : List Bits) → fit (state_widths (cells_of lines)) state ≡ true → fit (input_widths lines) inputs ≡ true → fit (output_widths lines) (output_words lines state inputs) ≡ true
outputs-keep lines state inputs h k =
    let at = value_at (given inputs state) (nodes lines) (length (nodes lines)) in
    ap (λ (ws : List ℕ). fit ws (map (arg_word at) (parts.outputs_of (rows_of lines)))) (lines-outputs lines)
    ∙ outputs-fit (sorts lines) at (rows_of lines) (lines-suit lines inputs state (inputs-fit lines inputs k) (state-fits lines state h))
    (λ j r is. output-suits _ (sorts lines) _ r.kind (λ i s e. sort-whole (kinds_of (rows_of lines)) j i s e) ((rows-limited lines).typed j r is).kind)

-- power-cycles keep widths

abbrev start : List Line → List Bits
start lines = zeros_or (all_widths (states lines))

start-fits : (lines : List Line) → fit (all_widths (states lines)) (start lines) ≡ true
start-fits lines = let range = (lines-laid lines).range in ap (fit (all_widths (states lines))) (zeros_or-zeros (all_widths (states lines)) range) ∙ fit-zeros (all_widths (states lines)) range

start-built : (lines : List Line) → Built (all_widths (states lines)) (start lines)
start-built lines =
    let ws = all_widths (states lines) in
    let are : are_widths (ws ++ []) ≡ true = ap are_widths (append-nil ws) ∙ (lines-laid lines).range in
    record {
      fits = subst (λ (vs : List ℕ). FitsAt vs (start lines)) (append-nil ws) (fit-at ws [] (start lines) are (start-fits lines));
      long = length-fit ws (start lines) (start-fits lines);
    }

power-built : (lines : List Line) (keep : List Bool) (old noise : List Bits) → FitsAt (all_widths (states lines)) old → fit (noise_widths lines keep) noise ≡ true → Built (all_widths (states lines)) (built (nodes lines) (states lines) keep old noise (start lines))
power-built lines keep old noise fo fn =
    let laid = lines-laid lines in
    let ins = inputs_in (rows_of lines) in
    built-fits (sorts lines) (all_widths (states lines)) (nodes lines)
    (λ state fs. lines-suit lines [] state (none-fits ins (inputs-range (rows_of lines) (rows-limited lines).typed)) fs)
    (states lines) keep old noise (start lines) laid.fit laid.placed fo (ap (λ (ws : List ℕ). fit ws noise) (sym (lines-noise lines keep)) ∙ fn) (start-built lines)

power-from : (lines : List Line) (keep : List Bool) (old noise : List Bits) → FitsAt (all_widths (states lines)) old → fit (noise_widths lines keep) noise ≡ true → fit (state_widths (cells_of lines)) (state_after_power lines keep old noise) ≡ true
power-from lines keep old noise fo fn =
    let ts = cell_widths lines in
    let fs = widths_where false (states lines) in
    let after = built (nodes lines) (states lines) keep old noise (start lines) in
    let made = power-built lines keep old noise fo fn in
    ap (λ (ws : List ℕ). fit ws (take (cell_words (rows_of lines)) after)) (cells-widths lines)
    ∙ (ap (λ (n : ℕ). fit ts (take n after)) (sym (lines-counted lines))
    ∙ fit-take ts fs after (at-fit (ts ++ fs) after made.long made.fits))

pub power-keeps : (lines : List Line) (keep : List Bool) (state noise : List Bits) → fit (state_widths (cells_of lines)) state ≡ true → fit (noise_widths lines keep) noise ≡ true → fit (state_widths (cells_of lines)) (state_after_power lines keep state noise) ≡ true
power-keeps lines keep state noise h k = power-from lines keep state noise (state-fits lines state h) k

pub factory-keeps : (lines : List Line) (noise : List Bits) → fit (noise_widths lines []) noise ≡ true → fit (state_widths (cells_of lines)) (factory_state lines noise) ≡ true
factory-keeps lines noise k = power-from lines [] [] noise (none-fits (all_widths (states lines)) (lines-laid lines).range) k

-- widths are widths

pub state-range : (lines : List Line) → are_widths (state_widths (cells_of lines)) ≡ true
state-range lines = ap are_widths (cells-widths lines) ∙ states-range true (sorts lines) (states lines) (lines-laid lines).fit

pub zero-state : (lines : List Line) → fit (state_widths (cells_of lines)) (zeros_or (state_widths (cells_of lines))) ≡ true
zero-state lines =
    let ws = state_widths (cells_of lines) in
    ap (fit ws) (zeros_or-zeros ws (state-range lines)) ∙ fit-zeros ws (state-range lines)

pub input-range : (lines : List Line) → are_widths (input_widths lines) ≡ true
input-range lines = ap are_widths (lines-inputs lines) ∙ inputs-range (rows_of lines) (rows-limited lines).typed

pub state-count : (lines : List Line) (state : List Bits) → fit (state_widths (cells_of lines)) state ≡ true → length state ≡ words_in (cells_of lines)
state-count lines state h = length-fit (state_widths (cells_of lines)) state h ∙ widths-counted (cells_of lines)

noise-range-in : (S : ℕ → Option SortOf) (ss : List State) (keep : List Bool) → Every (IsFit S) ss → are_widths (noise_in ss keep) ≡ true
noise-range-in S [] keep h = refl
noise-range-in S (s ∷ ss) keep h = are_widths-both (if takes s keep then replicate s.words s.width else []) (noise_in ss (keep_after s keep)) (of (takes s keep)) (noise-range-in S ss (keep_after s keep) h.1) where
  of : (b : Bool) → are_widths (if b then replicate s.words s.width else []) ≡ true
  of true = are_widths-same s.words s.width h.0.range.0 h.0.range.1
  of false = refl

pub noise-range : (lines : List Line) (keep : List Bool) → are_widths (noise_widths lines keep) ≡ true
noise-range lines keep = ap are_widths (lines-noise lines keep) ∙ noise-range-in (sorts lines) (states lines) keep (lines-laid lines).fit

-- the words of a cell after a power-cycle

length-built : (lines : List Line) → length (start lines) ≡ length (all_widths (states lines))
length-built lines = (start-built lines).long

lines-within : (lines : List Line) → Every (λ (s : State). s.first + s.words ≤ length (start lines)) (states lines)
lines-within lines =
    every-map (Placed (all_widths (states lines))) (λ (s : State). s.first + s.words ≤ length (start lines)) (states lines)
    (λ s h. subst (λ (n : ℕ). s.first + s.words ≤ n) (sym (length-built lines)) h.within) (lines-laid lines).placed

power-word : (lines : List Line) (keep : List Bool) (old noise : List Bits) (p k j : ℕ) (s : State) (d w : Bits) → p < length (cell_widths lines) → slice_get (states lines) k ≡ Some s → is_some s.next ≡ true → j < s.words → s.first + j ≡ 0 + p
    → ((noise state : List Bits) → get_or (words_by (values (nodes lines) state) s old noise (fresh_of s (turn (states lines) keep k))) j d ≡ w) → get_or (state_after_power lines keep old noise) p d ≡ w
power-word lines keep old noise p k j s d w lt is cell few at given =
    let n = cell_words (rows_of lines) in
    let after = built (nodes lines) (states lines) keep old noise (start lines) in
    let count = lines-counted lines in
    let place : p ≡ s.first + j = omega (arith, at) in
    get_or-take n after p d (omega (arith, count, lt))
    ∙ (ap (λ (q : ℕ). get_or after q d) place
    ∙ cell-word (nodes lines) (states lines) keep old noise (start lines) 0 (length (cell_widths lines)) k j s d w (lines-laid lines).laid (omega arith) (lines-within lines) is cell few given)

-- kept words

kept-fresh : (at : ℕ → Value) (s : State) (old noise : List Bits) (kept : Bool) (j : ℕ) (d : Bits) → kept ≡ true → j < s.words → get_or (words_by at s old noise (if kept then fresh.Kept else by_init s.init)) j d ≡ word_or_zero old s.width (s.first + j)
kept-fresh at s old noise true j d e lt = first_words-at (words_within old s.first s.words s.width) s.words j d lt ∙ within-word old s.first s.words s.width j lt
kept-fresh at s old noise false j d e lt = cc

both-true : (a b : Bool) → a ≡ true → b ≡ true → (a && b) ≡ true
both-true true b p q = q
both-true false b p q = cc

length-cells : (lines : List Line) (state : List Bits) → fit (state_widths (cells_of lines)) state ≡ true → length state ≡ length (cell_widths lines)
length-cells lines state h = length-fit (state_widths (cells_of lines)) state h ∙ ap length (cells-widths lines)

pub power-kept : (lines : List Line) (keep : List Bool) (state noise : List Bits) → fit (state_widths (cells_of lines)) state ≡ true → fit (noise_widths lines keep) noise ≡ true → pick (keep_mask (cells_of lines) keep) (state_after_power lines keep state noise) ≡ pick (keep_mask (cells_of lines) keep) state
power-kept lines keep state noise h k =
    let mask = keep_mask (cells_of lines) keep in
    let after = state_after_power lines keep state noise in
    let long = length-cells lines after (power-keeps lines keep state noise h k) in
    let same = length-cells lines state h in
    pick-same mask after state (long ∙ sym same) (λ p d is lt.
    let found = is-of kept_mask (states lines) keep 0 (length (cell_widths lines)) p true (λ s keep. length-replicate s.words (first_keep keep)) (lines-laid lines).laid (ap (λ (m : List Bool). slice_get m p) (sym (lines-mask lines keep)) ∙ is) in
    let kept = (slice_get-replicate found.s.words found.j (first_keep (turn (states lines) keep found.k)) true found.entry).0 in
    let place : found.s.first + found.j ≡ p = let e = found.at in omega (arith, e) in
    power-word lines keep state noise p found.k found.j found.s d (get_or state p d) (omega (arith, long, lt)) found.state found.cell found.few found.at
    (λ noise now.
    kept-fresh (values (nodes lines) now) found.s state noise (is_some found.s.next && first_keep (turn (states lines) keep found.k)) found.j d (both-true _ _ found.cell kept) found.few
    ∙ (ap (λ (q : ℕ). get_or state q (word_or found.s.width 0)) place ∙ default-any state p (word_or found.s.width 0) d (omega (arith, long, same, lt)))))

pub power-alone : (lines : List Line) (keep : List Bool) (state noise : List Bits) → fit (state_widths (cells_of lines)) state ≡ true → state_after_power lines keep (merge (keep_mask (cells_of lines) keep) (zeros_or (state_widths (cells_of lines))) (pick (keep_mask (cells_of lines) keep) state)) noise ≡ state_after_power lines keep state noise
power-alone lines keep state noise h =
    let mask = keep_mask (cells_of lines) keep in
    let base = zeros_or (state_widths (cells_of lines)) in
    let long : length base ≡ length state = length-map (state_widths (cells_of lines)) (λ (w : ℕ). word_or w 0) ∙ sym (length-fit (state_widths (cells_of lines)) state h) in
    ap (take (cell_words (rows_of lines))) (built-same (nodes lines) (states lines) keep (merge mask base (pick mask state)) state noise (start lines)
    (same-kept (states lines) keep 0 (length (cell_widths lines)) (merge mask base (pick mask state)) state (lines-laid lines).laid (λ p d is.
    merge-at mask base state (0 + p) d long (ap (slice_get mask) (omega arith) ∙ (ap (λ (m : List Bool). slice_get m p) (lines-mask lines keep) ∙ is)))))

-- ROM words

length-roms : (lines : List Line) → length (rom_words lines) ≡ length (cell_widths lines)
length-roms lines =
    let cells = cell_words (rows_of lines) in
    ap length (roms-by_cell cells (nodes lines) (states lines) []) ∙ length-by_cell (rom_by cells (nodes lines)) (states lines) [] (length-rom cells (nodes lines))

rom-at : (lines : List Line) (keep : List Bool) (p : ℕ) (w : Bits) → slice_get (rom_words lines) p ≡ Some (Some w) → IsOf (rom_by (cell_words (rows_of lines)) (nodes lines)) (states lines) keep 0 p (Some w)
rom-at lines keep p w is =
    let cells = cell_words (rows_of lines) in
    is-of (rom_by cells (nodes lines)) (states lines) keep 0 (length (cell_widths lines)) p (Some w) (length-rom cells (nodes lines)) (lines-laid lines).laid
    (ap (λ (os : List (Option Bits)). slice_get os p) (sym (roms-by_cell cells (nodes lines) (states lines) keep)) ∙ is)

pub rom-count : (lines : List Line) → length (rom_words lines) ≡ words_in (cells_of lines)
rom-count lines = length-roms lines ∙ (lines-counted lines ∙ sym (cells-words lines))

rom-within : (lines : List Line) (p : ℕ) (w : Bits) → slice_get (rom_words lines) p ≡ Some (Some w) → p < length (cell_widths lines)
rom-within lines p w is = let lt = slice_get_within (rom_words lines) p (Some w) is in let long = length-roms lines in omega (arith, lt, long)

pub tick-agrees : (lines : List Line) (state inputs : List Bits) → agree (rom_words lines) state ≡ true → agree (rom_words lines) (state_after_tick lines state inputs) ≡ true
tick-agrees lines state inputs h =
    let laid = lines-laid lines in
    let g = given inputs state in
    let at = value_at g (nodes lines) (length (nodes lines)) in
    let ss = states lines in
    let roms = rom_words lines in
    let long = length-roms lines in
    let more = length-tick (sorts lines) at ss laid.fit in
    let goal : agree roms (ticked at (nexts_in ss)) ≡ true = at-agree roms (ticked at (nexts_in ss)) (omega (arith, long, more)) (λ p w d is.
    let found = rom-at lines [] p w is in
    let known = known-still (cell_words (rows_of lines)) (nodes lines) found.s found.j w found.entry in
    let tick = tick-word (sorts lines) at ss 0 (length (cell_widths lines)) found.k found.j found.s d laid.laid laid.fit found.state known.0 found.few in
    let place : p ≡ tick.0 + found.j = let e = found.at in let f = tick.1 in omega (arith, e, f) in
    let own : found.s.first + found.j ≡ p = let e = found.at in omega (arith, e) in
    ap (λ (q : ℕ). get_or (ticked at (nexts_in ss)) q d) place
    ∙ (tick.2
    ∙ (own-value g (rows_of lines) (nodes lines) found.s found.j (every-get (Stands 0 (rows_of lines) (nodes lines)) ss found.k found.s laid.stand found.state) found.few
    ∙ (ap (λ (q : ℕ). get_or state q (word_or found.s.width 0)) own ∙ agree-at roms state p w (word_or found.s.width 0) h is)))) in
    ap (λ (ns : List Next). agree roms (ticked at ns)) (lines-next lines) ∙ goal

power-has : (lines : List Line) (keep : List Bool) (old noise : List Bits) → ((k : ℕ) (s : State) (p j : ℕ) (w : Bits) → slice_get (rom_words lines) p ≡ Some (Some w) → s.first + j ≡ p → (is_some s.next && first_keep (turn (states lines) keep k)) ≡ true → (d : Bits) → get_or old (s.first + j) d ≡ w) → length (start lines) ≡ length (built (nodes lines) (states lines) keep old noise (start lines)) → agree (rom_words lines) (state_after_power lines keep old noise) ≡ true
power-has lines keep old noise has whole =
    let roms = rom_words lines in
    let ss = states lines in
    let n = cell_words (rows_of lines) in
    let after = built (nodes lines) ss keep old noise (start lines) in
    let long = length-roms lines in
    let count = lines-counted lines in
    let sum = length-append (cell_widths lines) (widths_where false ss) in
    let full = length-built lines in
    let taken : length (take n after) ≡ n = length-take-le n after (omega (arith, count, sum, full, whole)) in
    at-agree roms (state_after_power lines keep old noise) (omega (arith, long, count, taken)) (λ p w d is.
    let found = rom-at lines keep p w is in
    let known = known-still n (nodes lines) found.s found.j w found.entry in
    let own : found.s.first + found.j ≡ p = let e = found.at in omega (arith, e) in
    power-word lines keep old noise p found.k found.j found.s d w (rom-within lines p w is) found.state found.cell found.few found.at
    (λ noise now. rom-fresh n (nodes lines) found.s (is_some found.s.next && first_keep (turn ss keep found.k)) old noise now found.j d w found.few known.1 (λ e d. has found.k found.s p found.j w is own e d)))

pub power-agrees : (lines : List Line) (keep : List Bool) (state noise : List Bits) → agree (rom_words lines) state ≡ true → agree (rom_words lines) (state_after_power lines keep state noise) ≡ true
power-agrees lines keep state noise h =
    power-has lines keep state noise
    (λ k s p j w is at e d. ap (λ (q : ℕ). get_or state q d) at ∙ agree-at (rom_words lines) state p w d h is)
    (sym (length-after (nodes lines) (states lines) keep state noise (start lines) (lines-within lines)))

pub factory-agrees : (lines : List Line) (noise : List Bits) → agree (rom_words lines) (factory_state lines noise) ≡ true
factory-agrees lines noise =
    power-has lines [] [] noise
    (λ k s p j w is at e d.
    let yes : first_keep (turn (states lines) [] k) ≡ true = (and_parts (is_some s.next) (first_keep (turn (states lines) [] k)) e).1 in
    let none : first_keep (turn (states lines) [] k) ≡ false = ap first_keep (turn-none (states lines) [] k refl) in
    let bad : true ≡ false = sym yes ∙ none in
    cc)
    (sym (length-after (nodes lines) (states lines) [] [] noise (start lines) (lines-within lines)))

-- a ROM word is one of the factory's words
pub rom-fits : (lines : List Line) (j : ℕ) (w : Bits) → slice_get (rom_words lines) j ≡ Some (Some w) → (slice_get (state_widths (cells_of lines)) j ≡ Some w.width) × (is_word w ≡ true)
rom-fits lines j w is =
    let ws = state_widths (cells_of lines) in
    let noise = zeros (noise_widths lines []) in
    let after = factory_state lines noise in
    let h : fit ws after ≡ true = factory-keeps lines noise (fit-zeros (noise_widths lines []) (noise-range lines [])) in
    let lt : j < length ws = let a = rom-within lines j w is in let b = ap length (cells-widths lines) in omega (arith, a, b) in
    let here : slice_get ws j ≡ Some (get_or ws j 0) = slice_get-get_or ws j 0 lt in
    let same : get_or after j (bits 1 0) ≡ w = agree-at (rom_words lines) after j w (bits 1 0) (factory-agrees lines noise) is in
    let own : fits (get_or ws j 0) w ≡ true = subst (λ (x : Bits). fits (get_or ws j 0) x ≡ true) same (fit-get ws after j (get_or ws j 0) (bits 1 0) h here) in
    (here ∙ ap Some (sym (fits-width (get_or ws j 0) w own)), (and_parts (w.width == get_or ws j 0) (is_word w) own).1)
