use Rattle.std.proofs.Common.{◌≡◌, length}
use Rattle.script_core.specs.Forms.{last_item_hint}
use Rattle.script_core.proofs.script.last_item_hint.Given as goal

abbrev pub invariant-loop-item : goal.invariant-loop-item
invariant-loop-item l = last_item_hint l.last.0 l.left ≡ last_item_hint l.fn.own.0 l.items

abbrev pub decreases-loop-item : goal.decreases-loop-item
decreases-loop-item l = length l.left
