use Rattle.std.proofs.Common.{◌∙◌, ◌-◌, length, ap, sym, take, drop}
use Rattle.std.proofs.lemmas.List.{take_rest}
use Rattle.rat_check.specs.Groups.{parts_of}
use Rattle.rat_check.proofs.GroupLemmas.{passes-group}
use Rattle.rat_check.proofs.grouping.behind_group.Goals as goal

pub returns-in-Some : goal.returns-in-Some
returns-in-Some c =
    let more = c.in-Some.more.now in
    let rest = take (length more - c.lead_len.result) (drop c.lead_len.result more) in
    passes-group c.in-Some.first.now more c.args.hints.now rest c.args.id c.in-Some.ensures.cases.0 (sym c.begins_group.ensures ∙ c.if-begins_group.true)
    (c.lead_len.ensures.groups ∙ ap (λ r. (parts_of r).groups) (sym (take_rest more c.lead_len.result)))
