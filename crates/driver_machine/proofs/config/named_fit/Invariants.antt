use Rattle.std.proofs.Common.{◌≡◌, ℕ, List, map, length}
use Rattle.knox_words.specs.Lists.{fit}
use Rattle.driver_machine.proofs.config.named_fit.Given as goal

abbrev pub invariant-loop-want : goal.invariant-loop-want
invariant-loop-want l = fit (map (λ (a : List ℕ × ℕ). a.1) l.left) l.right ≡ fit (map (λ (a : List ℕ × ℕ). a.1) l.initial.left) l.initial.right

abbrev pub decreases-loop-want : goal.decreases-loop-want
decreases-loop-want l = length l.left
