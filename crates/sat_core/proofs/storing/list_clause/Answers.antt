use Rattle.std.proofs.Common.{arith, refl, length}
use Rattle.std.proofs.lemmas.List.{get_or_read}
use Rattle.std.specs.Prelude.{true}
use Rattle.knox_cnf.specs.Literals.{literal}
use Rattle.lrat_check.specs.Marks.{index_of}
use Rattle.sat_core.proofs.StoringLemmas.{watch-fits, lists-both, lists-long}
use Rattle.sat_core.proofs.storing.list_clause.Goals as goal

pub add_watch-requires : goal.add_watch-requires
add_watch-requires c = watch-fits c.args.lits.now 0 (length c.args.lists.now) (length c.args.lists.now) c.index-lits-0.result (omega arith) (get_or_read c.args.lits.now 0 c.index-lits-0.result (omega arith) c.index-lits-0.is (literal 1 true)) refl c.requires

pub add_watch-requires-2 : goal.add_watch-requires-2
add_watch-requires-2 c =
    watch-fits c.args.lits.now 1 (length c.args.lists.now) (length c.add_watch.new.lists) c.index-lits-1.result (omega arith) (get_or_read c.args.lits.now 1 c.index-lits-1.result (omega arith) c.index-lits-1.is (literal 1 true))
    (lists-long c.args.lists.now c.add_watch.new.lists (index_of c.index-lits-0.result) c.args.place c.in_ok-add_watch.ensures) c.requires

pub returns : goal.returns
returns c =
    lists-both c.args.lits.now c.args.place (length c.args.lists.now) c.args.lists.now c.add_watch.new.lists c.add_watch-2.new.lists c.index-lits-0.result c.index-lits-1.result refl
    (watch-fits c.args.lits.now 0 (length c.args.lists.now) (length c.args.lists.now) c.index-lits-0.result (omega arith) (get_or_read c.args.lits.now 0 c.index-lits-0.result (omega arith) c.index-lits-0.is (literal 1 true)) refl c.requires)
    (watch-fits c.args.lits.now 1 (length c.args.lists.now) (length c.add_watch.new.lists) c.index-lits-1.result (omega arith) (get_or_read c.args.lits.now 1 c.index-lits-1.result (omega arith) c.index-lits-1.is (literal 1 true))
    (lists-long c.args.lists.now c.add_watch.new.lists (index_of c.index-lits-0.result) c.args.place c.in_ok-add_watch.ensures) c.requires)
    (get_or_read c.args.lits.now 0 c.index-lits-0.result (omega arith) c.index-lits-0.is (literal 1 true))
    (get_or_read c.args.lits.now 1 c.index-lits-1.result (omega arith) c.index-lits-1.is (literal 1 true))
    c.in_ok-add_watch.ensures c.in_ok-add_watch-2.ensures
