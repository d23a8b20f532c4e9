use Rattle.std.proofs.Common.{◌≡◌, length, map, nat_lt, true}
use Rattle.std.specs.List.{list_all}
use Rattle.knox_words.specs.Lists.{fit}
use Rattle.term_graph.specs.Value.{width_of, var_widths}
use Rattle.term_graph.proofs.valuation.fits_valuation.Given as goal

abbrev pub invariant-loop-var : goal.invariant-loop-var
invariant-loop-var l = (fit (map (width_of l.g) l.left) l.others ≡ fit (var_widths l.g) l.v.words) × (list_all (λ t. nat_lt t (length l.g)) l.left ≡ true)

abbrev pub decreases-loop-var : goal.decreases-loop-var
decreases-loop-var l = length l.left
