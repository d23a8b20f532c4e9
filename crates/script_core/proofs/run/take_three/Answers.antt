use Rattle.std.proofs.Common.{subst}
use Rattle.script_core.specs.declared.run.Left.{Left}
use Rattle.script_core.specs.Reached.{Takes, TakesPart}
use Rattle.script_core.specs.Runs.{reach_of}
use Rattle.script_core.proofs.Reaching.{three-first, three-second, three-third}
use Rattle.script_core.proofs.run.take_three.Goals as goal

pub returns-in-Ended : goal.returns-in-Ended
returns-in-Ended c =
    three-first c.args.first.now c.args.known.now c.args.second.now c.args.third.now c.args.words.now (reach_of c.in-Ended.end)
    (subst (λ (l : Left). Takes c.args.first.now c.args.words.now c.take_words.new.into l) c.in-Ended.is c.in_ok-end.ensures)

pub returns-in-Ended-2 : goal.returns-in-Ended-2
returns-in-Ended-2 c =
    three-second c.args.first.now c.args.known.now c.args.second.now c.args.third.now c.args.words.now c.take_words.new.into c.in-On.left.now (reach_of c.in-Ended-2.end)
    (subst (λ (l : Left). Takes c.args.first.now c.args.words.now c.take_words.new.into l) c.in-On.is c.in_ok-end.ensures)
    (subst (λ (l : Left). TakesPart c.args.known.now c.args.second.now c.in-On.left.now c.take_part.new.into l) c.in-Ended-2.is c.in_ok-end-2.ensures)

pub returns : goal.returns
returns c =
    three-third c.args.first.now c.args.known.now c.args.second.now c.args.third.now c.args.words.now c.take_words.new.into c.in-On.left.now c.take_part.new.into c.in-On-2.left.now c.take_words-2.new.into
    (subst (λ (l : Left). Takes c.args.first.now c.args.words.now c.take_words.new.into l) c.in-On.is c.in_ok-end.ensures)
    (subst (λ (l : Left). TakesPart c.args.known.now c.args.second.now c.in-On.left.now c.take_part.new.into l) c.in-On-2.is c.in_ok-end-2.ensures)
    c.in_ok-taken.taken
    c.in_ok-taken.ensures
