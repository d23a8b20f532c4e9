use Rattle.std.proofs.Common.{◌≡◌, ◌+◌, ◌∷◌, eqb, false, subst, arith, Option}
use Rattle.std.proofs.lemmas.Result.{err_from_is_err_and}
use Rattle.knox_text.specs.declared.place.Place.{Place}
use Rattle.knox_text.specs.Places.{end_of}
use Rattle.knox_sexpr.specs.declared.fault.SexprFault.{SexprFault}
use Rattle.knox_sexpr.specs.Tokens.{tokens_from}
use Rattle.knox_sexpr.specs.Steps.{IsFault, ReadTrees}
use Rattle.knox_text.proofs.Decimals.{not-eqb}
use Rattle.knox_sexpr.proofs.Trees.{fault-deep, fault-Bad, fault-opened, read-Atom, read-Number, read-List, unclosed, step}
use Rattle.knox_sexpr.proofs.reading.+trees.Goals as goal

pub tree-returns-then-depth-eq256-clause-err : goal.tree-returns-then-depth-eq256-clause-err
tree-returns-then-depth-eq256-clause-err t c =
    rw (c.in-Open.is, c.if-depth-eq256.true) (fault-deep (end_of c.args.cursor.now) c.in-Open.at (tokens_from c.args.cursor.now))

pub tree-returns-in_err-inner-in-Open-clause-err : goal.tree-returns-in_err-inner-in-Open-clause-err
tree-returns-in_err-inner-in-Open-clause-err t c =
    let n : eqb c.args.depth 256 ≡ false = not-eqb c.args.depth 256 c.if-depth-eq256.false in
    let same = fault-opened c.args.depth c.args.token c.args.cursor.now c.in-Open.at c.in-Open.is n in
    let p = err_from_is_err_and c.from_residual.result c.from_residual.ensures.1 in
    let f = c.in_err-inner-in-Open.field-0.0 in
    rw (p.1, p.2) (subst (λ (first : Option SexprFault). IsFault first f) same c.in_err-inner-in-Open.ensures.err)

pub tree-returns-in-Atom-clause-ok : goal.tree-returns-in-Atom-clause-ok
tree-returns-in-Atom-clause-ok t c = read-Atom c.args.depth c.args.token c.args.cursor.now c.in-Atom.at c.in-Atom.word c.in-Atom.is c.requires.depth

pub tree-returns-in-Number-clause-ok : goal.tree-returns-in-Number-clause-ok
tree-returns-in-Number-clause-ok t c = read-Number c.args.depth c.args.token c.args.cursor.now c.in-Number.at c.in-Number.width c.in-Number.value c.in-Number.is c.requires.depth

pub tree-returns-in-Bad-clause-err : goal.tree-returns-in-Bad-clause-err
tree-returns-in-Bad-clause-err t c = rw c.in-Bad.is (fault-Bad (end_of c.args.cursor.now) c.args.depth c.in-Bad.at (tokens_from c.args.cursor.now))

pub tree-returns-in-Some-clause-ok : goal.tree-returns-in-Some-clause-ok
tree-returns-in-Some-clause-ok t c =
    let n : eqb c.args.depth 256 ≡ false = not-eqb c.args.depth 256 c.if-depth-eq256.false in
    let r = subst (λ (close : Option Place). ReadTrees (c.args.depth + 1) c.args.cursor.now c.in_ok-inner-in-Open.inner.trees close c.trees.new.cursor) c.in-Some.is c.in_ok-inner-in-Open.ensures.ok in
    read-List c.args.depth c.args.token c.args.cursor.now c.trees.new.cursor c.in-Open.at c.in-Some.close c.in_ok-inner-in-Open.inner.trees c.in-Open.is c.requires.depth n r

pub tree-returns-in-None-clause-err : goal.tree-returns-in-None-clause-err
tree-returns-in-None-clause-err t c =
    let n : eqb c.args.depth 256 ≡ false = not-eqb c.args.depth 256 c.if-depth-eq256.false in
    let r = subst (λ (close : Option Place). ReadTrees (c.args.depth + 1) c.args.cursor.now c.in_ok-inner-in-Open.inner.trees close c.trees.new.cursor) c.in-None.is c.in_ok-inner-in-Open.ensures.ok in
    rw c.place.ensures.value (unclosed c.args.depth c.args.token c.args.cursor.now c.trees.new.cursor c.in-Open.at c.in_ok-inner-in-Open.inner.trees c.in-Open.is n r)

pub trees-loop-trees-preserved : goal.trees-loop-trees-preserved
trees-loop-trees-preserved t c =
    let i = c.loop-trees.invariant in
    let token : tokens_from c.loop-trees.cursor ≡ c.in-Some.token ∷ tokens_from c.next_token.new.cursor = rw c.in-Some.is at c.in_ok-token.ensures.tokens in
    let done = step c.args.depth c.args.cursor.now c.loop-trees.cursor c.next_token.new.cursor c.tree.new.cursor c.loop-trees.trees c.in_ok-tree.tree c.in-Some.token (i.tokens, i.faults, i.depths) token c.in_ok-token.ensures.end c.in_ok-tree.ensures.ok in
    let shorter = rw c.in-Some.is at c.in_ok-token.ensures.shorter in
    rw c.in_ok-push.ensures.ok record {
      tokens = done.0;
      faults = done.1;
      depths = done.2;
      shorter = omega (arith, shorter, i.shorter, c.in_ok-tree.ensures.ok.shorter);
    }
