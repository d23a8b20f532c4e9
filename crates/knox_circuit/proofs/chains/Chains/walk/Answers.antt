use Rattle.std.proofs.Common.{arith}
use Rattle.knox_circuit.proofs.ChainsLemmas.{walk-on}
use Rattle.knox_circuit.proofs.chains.Chains.walk.Goals as goal

pub loop-at-preserved : goal.loop-at-preserved
loop-at-preserved c =
    let cells = c.args.cells in
    let ns = c.args.nodes.now in
    record {
      before = omega (arith, c.loop-at-test.true, c.loop-at.invariant.before);
      rest = walk-on cells ns c.loop-at.before c.loop-at.at c.in-Write.array c.in-Write.index c.in-Write.word c.loop-at.known c.lay.new.known c.put_under.new.known _
          c.loop-at-test.true (c.in_default.ensures cells ns c.requires) c.put_under.ensures c.in-Write.ensures c.loop-at.invariant.rest;
    }
