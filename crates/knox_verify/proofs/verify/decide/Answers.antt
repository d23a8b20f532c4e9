use Rattle.std.proofs.Common.{◌≤◌, ℕ, sym, subst}
use Rattle.knox_verify.specs.Judgements.{parts_of}
use Rattle.knox_verify.proofs.Deciding.{leads-to, all-closed}
use Rattle.knox_verify.proofs.verify.decide.Goals as goal

pub returns-in-Falsified-clause-decided : goal.returns-in-Falsified-clause-decided
returns-in-Falsified-clause-decided c = leads-to (parts_of c.args.dev.now c.args.sc.now) c.loop-g.g _ _ c.loop-g.invariant c.in-Falsified.is c.in_ok-check.ensures

pub returns-in-TooWide-clause-decided : goal.returns-in-TooWide-clause-decided
returns-in-TooWide-clause-decided c = leads-to (parts_of c.args.dev.now c.args.sc.now) c.loop-g.g _ _ c.loop-g.invariant c.in-TooWide.is c.in_ok-check.ensures

pub returns-clause-decided : goal.returns-clause-decided
returns-clause-decided c =
    let dev = c.args.dev.now in
    let count = c.segments-g-end.ensures.all dev.circuit dev.spec dev.driver dev.emulator c.requires.of in
    all-closed (parts_of dev c.args.sc.now) c.loop-g.g (subst (λ (n : ℕ). n ≤ c.loop-g.g) (sym count) c.loop-g-test.false) c.loop-g.invariant
