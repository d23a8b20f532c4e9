use Rattle.std.proofs.Common.{◌≡◌, ◌-◌, ◌+◌, ◌%◌, ◌^◌, ℕ, arith, refl, sym, ◌∙◌, subst}
use Rattle.knox_words.specs.Bits.{word_at}
use Rattle.term_graph.specs.Kept.{Gives}
use Rattle.term_graph.specs.Value.{value, width_of}
use Rattle.term_graph.proofs.FoldLemmas.{keeps-on, keeps-within, keeps-width}
use Rattle.term_mem.specs.Memories.{IsMemory, seen}
use Rattle.term_mem.proofs.CellLemmas.{low-half, high-half, memory-kept}
use Rattle.term_mem.proofs.ReadLemmas.{gives-among, read-width}
use Rattle.term_mem.proofs.reading.+among.Goals as goal

pub among-requires : goal.among-requires
among-requires t c =
    let more : c.args.bits ≡ c.args.bits - 1 + 1 = omega arith in
    let whole = subst (λ (n : ℕ). IsMemory c.args.g.now n c.requires.memory.0 c.args.cells.now) more c.requires.memory.1 in
    (omega arith, (c.requires.index, (omega arith, (c.requires.memory.0, low-half c.args.g.now (c.args.bits - 1) _ c.requires.memory.0 c.args.cells.now c.split_at.result.0.now whole refl c.split_at.ensures.front))))

pub among-requires-2 : goal.among-requires-2
among-requires-2 t c =
    let more : c.args.bits ≡ c.args.bits - 1 + 1 = omega arith in
    let whole = subst (λ (n : ℕ). IsMemory c.args.g.now n c.requires.memory.0 c.args.cells.now) more c.requires.memory.1 in
    let wide : width_of c.among.new.g c.args.index ≡ width_of c.args.g.now c.args.index = keeps-width c.args.g.now c.among.new.g c.args.index c.among.ensures.kept c.requires.index in (
      omega arith,
      (
        keeps-within c.args.g.now c.among.new.g c.args.index c.among.ensures.kept c.requires.index,
        (
          omega arith,
          (c.requires.memory.0, memory-kept c.args.g.now c.among.new.g (c.args.bits - 1) c.requires.memory.0 c.split_at.result.1.now c.among.ensures.kept (high-half c.args.g.now (c.args.bits - 1) _ c.requires.memory.0 c.args.cells.now c.split_at.result.1.now whole refl c.split_at.ensures.back)),
        ),
      ),
    )

pub by_bit-requires-clause-same : goal.by_bit-requires-clause-same
by_bit-requires-clause-same t c =
    let more : c.args.bits ≡ c.args.bits - 1 + 1 = omega arith in
    let whole = subst (λ (n : ℕ). IsMemory c.args.g.now n c.requires.memory.0 c.args.cells.now) more c.requires.memory.1 in
    let low = low-half c.args.g.now (c.args.bits - 1) _ c.requires.memory.0 c.args.cells.now c.split_at.result.0.now whole refl c.split_at.ensures.front in
    let high = memory-kept c.args.g.now c.among.new.g (c.args.bits - 1) c.requires.memory.0 c.split_at.result.1.now c.among.ensures.kept (high-half c.args.g.now (c.args.bits - 1) _ c.requires.memory.0 c.args.cells.now c.split_at.result.1.now whole refl c.split_at.ensures.back) in
    read-width c.among.new.g c.among-2.new.g (c.args.bits - 1) c.requires.memory.0 c.args.index c.in_ok-second.second c.split_at.result.1.now high c.in_ok-second.ensures.value
    ∙ sym (keeps-width c.among.new.g c.among-2.new.g c.in_ok-first.first c.among-2.ensures.kept c.in_ok-first.ensures.value.within
    ∙ read-width c.args.g.now c.among.new.g (c.args.bits - 1) c.requires.memory.0 c.args.index c.in_ok-first.first c.split_at.result.0.now low c.in_ok-first.ensures.value)

pub returns-in_err-second-clause-kept : goal.returns-in_err-second-clause-kept
returns-in_err-second-clause-kept t c = keeps-on c.args.g.now c.among.new.g c.among-2.new.g c.among.ensures.kept c.among-2.ensures.kept

pub returns-in_err-t-clause-kept : goal.returns-in_err-t-clause-kept
returns-in_err-t-clause-kept t c = keeps-on c.args.g.now c.among-2.new.g c.by_bit.new.g (keeps-on c.args.g.now c.among.new.g c.among-2.new.g c.among.ensures.kept c.among-2.ensures.kept) c.by_bit.ensures.kept

pub returns-clause-kept : goal.returns-clause-kept
returns-clause-kept t c = keeps-on c.args.g.now c.among-2.new.g c.by_bit.new.g (keeps-on c.args.g.now c.among.new.g c.among-2.new.g c.among.ensures.kept c.among-2.ensures.kept) c.by_bit.ensures.kept

pub returns-clause-value : goal.returns-clause-value
returns-clause-value t c =
    let more : c.args.bits ≡ c.args.bits - 1 + 1 = omega arith in
    let whole = subst (λ (n : ℕ). IsMemory c.args.g.now n c.requires.memory.0 c.args.cells.now) more c.requires.memory.1 in
    subst (λ (n : ℕ). Gives c.by_bit.new.g c.in_ok-t.t (λ v. word_at (seen v c.args.g.now c.args.cells.now) ((value v c.args.g.now c.args.index).value % 2 ^ n))) (sym more)
    (gives-among c.args.g.now c.among.new.g c.among-2.new.g c.by_bit.new.g (c.args.bits - 1) _ c.requires.memory.0 c.args.index c.in_ok-first.first c.in_ok-second.second c.in_ok-t.t c.args.cells.now c.split_at.result.0.now c.split_at.result.1.now c.among.ensures.kept c.among-2.ensures.kept c.requires.index (omega arith) whole refl c.split_at.ensures.front c.split_at.ensures.back c.in_ok-first.ensures.value c.in_ok-second.ensures.value c.in_ok-t.ensures.value)
