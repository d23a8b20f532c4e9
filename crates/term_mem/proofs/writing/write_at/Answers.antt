use Rattle.std.proofs.Common.{◌<◌, length, arith}
use Rattle.term_mem.proofs.CellLemmas.{place-within}
use Rattle.term_mem.proofs.WriteLemmas.{written-named}
use Rattle.term_mem.proofs.writing.write_at.Goals as goal

pub index_mut-requires : goal.index_mut-requires
index_mut-requires c =
    let below : c.in-Some.place < length c.args.m.now.words.items = place-within c.args.g.now c.args.index _ c.in-Some.place c.args.m.now.words.items c.requires.memory c.in-Some.ensures in
    omega arith

pub returns-in-Some-clause-written : goal.returns-in-Some-clause-written
returns-in-Some-clause-written c = λ v. written-named v c.args.g.now c.args.index c.args.word c.in-Some.place c.args.m.now.words.items c.in-Some.ensures
