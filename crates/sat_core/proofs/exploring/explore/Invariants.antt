use Rattle.std.proofs.Common.{◌≡◌, length}
use Rattle.sat_core.specs.Explained.{SameClauses}
use Rattle.sat_core.specs.Searching.{IsSearch}
use Rattle.sat_core.specs.Models.{free_below}
use Rattle.sat_core.proofs.exploring.explore.Given as goal

abbrev pub invariant-loop-conflict : goal.invariant-loop-conflict
invariant-loop-conflict l = record {
  search : IsSearch l.search;
  same : SameClauses l.fn.search.stored.items l.search.stored.items;
  lists : length l.search.lists.items ≡ length l.fn.search.lists.items;
}

abbrev pub decreases-loop-conflict : goal.decreases-loop-conflict
decreases-loop-conflict l = free_below l.search.trail (length l.fn.search.lists.items)
