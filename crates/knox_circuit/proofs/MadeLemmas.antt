-- What is kept of a circuit's lines has the sizes that its lines have.
use Rattle.std.proofs.Common.{◌≡◌, ℕ, ◌+◌, ◌≤◌, List, [], ◌∷◌, length, replicate, slice_get, Bool, true, false, Option, Some, None, is_some, refl, sym, ◌∙◌, ap, subst, arith, if◌then◌else◌}
use Rattle.std.proofs.lemmas.List.{length-append, length-replicate, length-set}
use Rattle.knox_words.specs.Bits.{Bits}
use Rattle.circuit_nodes.specs.declared.node.Node.{Node}
use Rattle.circuit_nodes.specs.declared.node.Next.{Next}
use Rattle.circuit_nodes.specs.declared.node.Next.TheVariants as next
use Rattle.circuit_nodes.specs.declared.node.State.{State}
use Rattle.circuit_nodes.specs.declared.node.Kind.{Kind}
use Rattle.circuit_nodes.specs.declared.node.Kind.TheVariants as kind
use Rattle.circuit_nodes.specs.declared.node.Row.{Row}
use Rattle.circuit_nodes.specs.Starts.{AreWithin, AreApart}
use Rattle.circuit_table.specs.declared.line.Line.{Line}
use Rattle.circuit_table.specs.Rows.{rows_of}
use Rattle.knox_circuit.specs.declared.made.Made.{Made}
use Rattle.knox_circuit.specs.declared.port.Cell.{Cell}
use Rattle.knox_circuit.specs.declared.port.Stored.{Stored}
use Rattle.knox_circuit.specs.Ports as ports
use Rattle.knox_circuit.specs.Cells.{cells_of, words_in, all_words, states_of, cell_mask}
use Rattle.knox_circuit.specs.Parts.{parts_of, cell_size, bare_size, cell_words, bare_words, nodes_from, states_from, outputs_of, kind_outputs, widths_where, all_widths}
use Rattle.knox_circuit.specs.Rom.{Put, put_if, put_under, under, laid, known_or, init_known, is_itself, rom_of, roms_among, rom_words, chain_at, constant, free_mask}
use Rattle.knox_circuit.specs.Made.{IsTables, IsPlaces, IsPlan, AreCounted, IsMade}
use Rattle.knox_circuit.proofs.RowsLemmas.{rows-limited}
use Rattle.knox_circuit.proofs.PartsLemmas.{nexts-words, all-within, all-apart}
use Rattle.knox_circuit.proofs.CellsLemmas.{rows-suit, cells-words, cells-counted, bares-counted}
use Rattle.knox_circuit.proofs.StatesLemmas.{states-few, chosen-few}

-- outputs

one-output : (before : List Line) (l : Line) (k : Kind) → length (ports.output_port before l k) ≡ length (kind_outputs k)
one-output before l (kind.Output a w) = refl
one-output before l _ = refl

outputs-among : (before lines : List Line) (rows : List Row) → length rows ≤ length lines → length (ports.outputs_among before lines rows) ≡ length (outputs_of rows)
outputs-among before [] [] le = refl
outputs-among before [] (r ∷ rows) le = absurd (omega arith)
outputs-among before (l ∷ ls) [] le = refl
outputs-among before (l ∷ ls) (r ∷ rows) le =
    length-append (ports.output_port before l r.kind) (ports.outputs_among (l ∷ before) ls rows)
    ∙ (ap (λ (n : ℕ). n + length (ports.outputs_among (l ∷ before) ls rows)) (one-output before l r.kind)
    ∙ (ap (λ (n : ℕ). length (kind_outputs r.kind) + n) (outputs-among (l ∷ before) ls rows (omega arith))
    ∙ sym (length-append (kind_outputs r.kind) (outputs_of rows))))

outputs-counted : (lines : List Line) → length (ports.outputs_of lines) ≡ length (outputs_of (rows_of lines))
outputs-counted lines = outputs-among [] lines (rows_of lines) (rows-limited lines).long

-- ROM words

length-put : (o : Option (Option Bits)) (known : List (Option Bits)) (i : ℕ) (w : Bits) → length (put_if o known i w) ≡ length known
length-put (Some None) known i w = length-set known i (Some w)
length-put (Some (Some v)) known i w = refl
length-put None known i w = refl

length-under : (known : List (Option Bits)) (ps : List Put) → length (under known ps) ≡ length known
length-under known [] = refl
length-under known (p ∷ ps) = length-under (put_under known p.index p.word) ps ∙ length-put (slice_get known p.index) known p.index p.word

length-laid : (n : ℕ) (o : Option (List Put)) → length (known_or n (laid (replicate n None) o)) ≡ n
length-laid n None = length-replicate n None
length-laid n (Some ps) = length-under (replicate n None) ps ∙ length-replicate n None

length-init : (cells : ℕ) (ns : List Node) (n : ℕ) (o : Option Next) → length (init_known cells ns n o) ≡ n
length-init cells ns n None = length-replicate n None
length-init cells ns n (Some (next.Word a)) = length-replicate n (constant (length ns) ns a)
length-init cells ns n (Some (next.Array k m)) = length-laid n (chain_at cells ns (length ns) k)

length-rom : (cells : ℕ) (ns : List Node) (s : State) → length (rom_of cells ns s) ≡ s.words
length-rom cells ns s = of (is_itself s.node s.next) where
  of : (b : Bool) → length (if b then init_known cells ns s.words s.init else replicate s.words None) ≡ s.words
  of true = length-init cells ns s.words s.init
  of false = length-replicate s.words None

one-rom : (b : Bool) (rom : List (Option Bits)) (n w : ℕ) → length rom ≡ n → length (if b then rom else []) ≡ length (if b then replicate n w else [])
one-rom true rom n w e = e ∙ sym (length-replicate n w)
one-rom false rom n w e = refl

roms-counted : (cells : ℕ) (ns : List Node) (ss : List State) → length (roms_among cells ns ss) ≡ length (widths_where true ss)
roms-counted cells ns [] = refl
roms-counted cells ns (s ∷ ss) =
    length-append (if is_some s.next then rom_of cells ns s else []) (roms_among cells ns ss)
    ∙ (ap (λ (n : ℕ). n + length (roms_among cells ns ss)) (one-rom (is_some s.next) (rom_of cells ns s) s.words s.width (length-rom cells ns s))
    ∙ (ap (λ (n : ℕ). length (if is_some s.next then replicate s.words s.width else []) + n) (roms-counted cells ns ss)
    ∙ sym (length-append (if is_some s.next then replicate s.words s.width else []) (widths_where true ss))))

-- all sizes

widths-long : (lines : List Line) → length (all_widths (states_from 0 0 (cell_words (rows_of lines)) (rows_of lines))) ≡ cell_words (rows_of lines) + bare_words (rows_of lines)
widths-long lines =
    let rows = rows_of lines in
    let ss = states_from 0 0 (cell_words rows) rows in
    length-append (widths_where true ss) (widths_where false ss)
    ∙ (ap (λ (n : ℕ). n + length (widths_where false ss)) (cells-counted 0 0 (cell_words rows) rows (rows-suit lines))
    ∙ ap (λ (n : ℕ). cell_words rows + n) (bares-counted 0 0 (cell_words rows) rows (rows-suit lines)))

nodes-long : (c b : ℕ) (rows : List Row) → length (nodes_from c b rows) ≡ length rows
nodes-long c b [] = refl
nodes-long c b (r ∷ rows) = let rest = nodes-long (c + cell_size r) (b + bare_size r) rows in omega (arith, rest)

roms-are : (lines : List Line) (m : Made) → IsPlan (parts_of (rows_of lines)) m.plan → m.roms.words.items ≡ roms_among m.plan.cells m.plan.nodes m.plan.states → m.roms.words.items ≡ rom_words lines
roms-are lines m is e =
    let p = parts_of (rows_of lines) in
    e ∙ (ap (λ (n : ℕ). roms_among n m.plan.nodes m.plan.states) is.cells
    ∙ (ap (λ (z : List Node). roms_among p.cells z m.plan.states) is.nodes
    ∙ ap (λ (z : List State). roms_among p.cells p.nodes z) is.states))

counted : (lines : List Line) (m : Made) → IsPlaces lines m.places → IsPlan (parts_of (rows_of lines)) m.plan → m.roms.words.items ≡ rom_words lines → AreCounted lines m
counted lines m places plan roms =
    let rows = rows_of lines in
    let ss = states_from 0 0 (cell_words rows) rows in
    let cells : m.plan.cells ≡ words_in (cells_of lines) = plan.cells ∙ sym (cells-words lines) in
    let long : length m.plan.widths.items ≡ cell_words rows + bare_words rows = ap length plan.widths ∙ widths-long lines in
    let many = nodes-long 0 (cell_words rows) rows in
    let limited = (rows-limited lines).long in
    let AtMost : List Stored → Type 0 = λ z. all_words z ≤ 2000000 in
    let WordsIn : List Cell → Type 0 = λ z. words_in z ≤ 2000000 in
    record {
      states = subst AtMost (sym places.states) (states-few lines);
      cells = subst WordsIn (sym places.cells) (chosen-few (cell_mask (states_of lines)) (states_of lines) (states-few lines));
      nodes = omega (arith, plan.logic.few, many, limited);
      outputs = plan.logic.count ∙ sym (outputs-counted lines);
      nexts = plan.logic.words ∙ (nexts-words rows ∙ sym (cells-words lines));
      words = cells;
      front = omega (arith, plan.cells, long);
      within = subst (AreWithin m.plan.states) (sym long) (subst (λ (z : List State). AreWithin z (cell_words rows + bare_words rows)) (sym plan.states) (all-within rows));
      apart = subst (λ (z : List Node). AreApart z m.plan.states) (sym plan.nodes) (subst (AreApart (nodes_from 0 (cell_words rows) rows)) (sym plan.states) (all-apart rows));
      roms = ap length roms ∙ (roms-counted (cell_words rows) (nodes_from 0 (cell_words rows) rows) ss ∙ (cells-counted 0 0 (cell_words rows) rows (rows-suit lines) ∙ sym (cells-words lines)));
    }

-- what is kept of lines with their rows
pub made-is : (lines : List Line) (rows : List Row) (m : Made) → rows ≡ rows_of lines → IsTables lines m.tables → IsPlaces lines m.places → IsPlan (parts_of rows) m.plan → m.roms.words.items ≡ roms_among m.plan.cells m.plan.nodes m.plan.states → m.roms.free.items ≡ free_mask (roms_among m.plan.cells m.plan.nodes m.plan.states) → IsMade lines m
made-is lines rows m e tables places is words free =
    let plan : IsPlan (parts_of (rows_of lines)) m.plan = subst (λ (z : List Row). IsPlan (parts_of z) m.plan) e is in
    let roms = roms-are lines m plan words in
    record {
      tables = tables;
      places = places;
      plan = plan;
      roms = record { words = roms; free = free ∙ ap free_mask (sym words ∙ roms) };
      counted = counted lines m places plan roms;
    }
