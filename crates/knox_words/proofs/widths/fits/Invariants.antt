use Rattle.std.proofs.Common.{◌≡◌, length}
use Rattle.knox_words.specs.Lists.{fit}
use Rattle.knox_words.proofs.widths.fits.Given as goal

abbrev pub invariant-loop-width : goal.invariant-loop-width
invariant-loop-width l = fit l.fn.widths l.fn.words ≡ fit l.left l.others

abbrev pub decreases-loop-width : goal.decreases-loop-width
decreases-loop-width l = length l.left
