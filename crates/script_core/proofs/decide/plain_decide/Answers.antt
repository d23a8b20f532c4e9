use Rattle.std.proofs.Common.{◌≡◌, subst, sym, List}
use Rattle.knox_words.specs.Bits.{Bits}
use Rattle.script_core.specs.Decisions.{Finds}
use Rattle.knox_theory.specs.Course.{used}
use Rattle.script_core.proofs.Deciding.{course_in, none-used}
use Rattle.script_core.proofs.decide.plain_decide.Goals as goal

pub returns : goal.returns
returns c =
    let t = course_in c.args.dev.now c.args.sc.now c.args.g.0 in
    c.plain_of.ensures t (subst (λ (z : List Bits). Finds t z z c.search.new.front c.in_ok-found.found) c.new-front.ensures c.in_ok-found.ensures.found)

pub search-requires-clause-taken : goal.search-requires-clause-taken
search-requires-clause-taken c =
    let t = course_in c.args.dev.now c.args.sc.now c.args.g.0 in
    subst (λ (z : List Bits). used t z ≡ z) (sym c.new-front.ensures) (none-used t)
