use Rattle.std.proofs.Common.{arith, rules, length-drop, refl, ◌+◌}
use Rattle.knox_run.specs.Words.{five}
use Rattle.knox_run.proofs.TextsLemmas.{text-next, no-texts}
use Rattle.knox_run.proofs.judging.judge.Goals as goal

pub returns : goal.returns
returns g c =
    let at = c.args.first in
    let said = c.verify_texts.ensures in (
      five c.text-c.result.now c.text-s.result.now c.text-d.result.now c.text-e.result.now c.text-h.result.now,
      text-next _ at (at + 1) _ _ refl c.text-c.ensures
          (text-next _ (at + 1) (at + 2) _ _ (omega arith) c.text-s.ensures
          (text-next _ (at + 2) (at + 3) _ _ (omega arith) c.text-d.ensures
          (text-next _ (at + 3) (at + 4) _ _ (omega arith) c.text-e.ensures
          (text-next _ (at + 4) (at + 5) _ _ (omega arith) c.text-h.ensures (no-texts _ (at + 5) (omega (arith, length-drop at (g.F.Shelf.history c.args.shelf.now).given))))))),
      (c.verify_texts.result, c.outcome_of.ensures, search (rules, said)),
    )
