use Rattle.std.proofs.Common.{ℕ, ◌<◌, ◌%◌, ◌^◌, List, length, get_or, ap, sym, ◌∙◌, subst}
use Rattle.term_mem.proofs.CellLemmas.{place-within, gives-named}
use Rattle.term_mem.proofs.ReadLemmas.{gives-read}
use Rattle.knox_words.specs.Bits.{word_at}
use Rattle.term_graph.specs.Kept.{Gives}
use Rattle.term_graph.specs.Value.{value}
use Rattle.term_mem.specs.Memories.{seen}
use Rattle.term_mem.proofs.reading.read_at.Goals as goal

pub cell_at-requires : goal.cell_at-requires
cell_at-requires c =
    subst (λ (xs : List ℕ). c.in-Some.place < length xs) (sym c.as_slice-cells.ensures.value) (place-within c.args.g.now c.args.index c.requires.memory.0 c.in-Some.place c.args.m.now.words.items c.requires.memory.1 c.in-Some.ensures)

pub returns-in-Some-clause-value : goal.returns-in-Some-clause-value
returns-in-Some-clause-value c =
    gives-named c.args.g.now c.args.index c.requires.memory.0 c.in-Some.place c.cell_at.result c.args.m.now.words.items c.requires.memory.1 c.in-Some.ensures (c.cell_at.ensures ∙ ap (λ (xs : List ℕ). get_or xs c.in-Some.place 0) c.as_slice-cells.ensures.value)

pub returns-clause-value : goal.returns-clause-value
returns-clause-value c =
    gives-read c.args.g.now c.among.new.g c.width-width.result c.args.index c.in_ok-t.t c.args.m.now.words.items c.width-width.ensures.width
    (subst (λ (xs : List ℕ). Gives c.among.new.g c.in_ok-t.t (λ v. word_at (seen v c.args.g.now xs) ((value v c.args.g.now c.args.index).value % 2 ^ c.width-width.result))) c.as_slice-cells.ensures.value c.in_ok-t.ensures.value)
