use Rattle.std.proofs.Common.{◌≡◌, ◌≤◌, ◌+◌, ◌*◌, ◌-◌, ◌++◌, length, map}
use Rattle.std.specs.List.{flat_map}
use Rattle.knox_sexpr.specs.Tokens.{tokens_from}
use Rattle.knox_sexpr.specs.Grammar.{spelled, greatest, depth}
use Rattle.knox_sexpr.specs.Faults.{fault_from}
use Rattle.knox_sexpr.proofs.reading.+trees.Given as goal

abbrev pub invariant-trees-loop-trees : goal.invariant-trees-loop-trees
invariant-trees-loop-trees l = record {
  tokens : tokens_from l.fn.cursor ≡ flat_map spelled l.trees ++ tokens_from l.cursor;
  faults : fault_from l.fn.depth l.fn.cursor ≡ fault_from l.fn.depth l.cursor;
  depths : greatest (map depth l.trees) + l.fn.depth ≤ 256;
  shorter : length l.cursor.rest ≤ length l.fn.cursor.rest;
}

abbrev pub decreases-trees-loop-trees : goal.decreases-trees-loop-trees
decreases-trees-loop-trees l = length l.cursor.rest

abbrev pub decreases-trees : goal.decreases-trees
decreases-trees l = 2 * (256 - l.depth) + 1

abbrev pub decreases-tree : goal.decreases-tree
decreases-tree l = 2 * (256 - l.depth)
