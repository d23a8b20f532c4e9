use Rattle.std.proofs.Common.{◌≡◌, length}
use Rattle.knox_text.specs.Places.{start_of, end_of}
use Rattle.knox_text.proofs.cursor.end_place.Given as goal

abbrev pub invariant-loop-cursor : goal.invariant-loop-cursor
invariant-loop-cursor l = end_of l.cursor ≡ end_of (start_of l.text)

abbrev pub decreases-loop-cursor : goal.decreases-loop-cursor
decreases-loop-cursor l = length l.cursor.rest
