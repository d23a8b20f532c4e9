use Rattle.std.proofs.Common.{◌∙◌, ap, sym, Some, take, drop}
use Rattle.knox_run.specs.Words.{bytes_of}
use Rattle.knox_run.specs.Commands.{most_texts}
use Rattle.knox_run.proofs.RunsLemmas.{because-named, named-as}
use Rattle.knox_run.proofs.program.work.Goals as goal

pub returns-in-Some-Verify : goal.returns-in-Some-Verify
returns-in-Some-Verify g c =
    let is = sym (ap Some (sym c.in-Some-Verify.field-0-is) ∙ c.in-Some-Verify.ensures.value) in
    because-named (bytes_of c.args.words.now) (bytes_of c.first_names.result.now) _ _ c.verify.result _ is
    (named-as (bytes_of c.args.words.now) (bytes_of c.first_names.result.now) _ is c.first_names.ensures.names) c.verify.ensures

pub returns-in-Some-Check : goal.returns-in-Some-Check
returns-in-Some-Check g c =
    let is = sym (ap Some (sym c.in-Some-Check.field-0-is) ∙ c.in-Some-Check.ensures.value) in
    because-named (bytes_of c.args.words.now) (bytes_of c.first_names-in-Some-Check.result.now) _ _ c.check.result _ is
    (named-as (bytes_of c.args.words.now) (bytes_of c.first_names-in-Some-Check.result.now) _ is c.first_names-in-Some-Check.ensures.names) c.check.ensures

pub returns-in-Some-Sat : goal.returns-in-Some-Sat
returns-in-Some-Sat g c =
    let is = sym (ap Some (sym c.in-Some-Sat.field-0-is) ∙ c.in-Some-Sat.ensures.value) in
    because-named (bytes_of c.args.words.now) (bytes_of c.first_names-in-Some-Sat.result.now) _ _ c.sat.result _ is
    (named-as (bytes_of c.args.words.now) (bytes_of c.first_names-in-Some-Sat.result.now) _ is c.first_names-in-Some-Sat.ensures.names) c.sat.ensures
