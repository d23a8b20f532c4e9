use Rattle.std.proofs.Common.{◌∙◌, ap, sym}
use Rattle.script_core.specs.Reached.{kind_bits}
use Rattle.script_core.specs.Runs.{counted}
use Rattle.script_core.proofs.Widest.{factory-counted, boot-counted, idle-counted, call-counted}
use Rattle.script_core.proofs.bits.kind_bits.Goals as goal

pub returns-in-Factory : goal.returns-in-Factory
returns-in-Factory c =
    factory-counted c.args.dev.now c.args.sc.now _ c.noise_bits.ensures ∙ ap (λ k. counted (kind_bits c.args.dev.now c.args.sc.now k)) (sym c.in-Factory.is)

pub returns-in-BootHost : goal.returns-in-BootHost
returns-in-BootHost c =
    boot-counted c.args.dev.now c.args.sc.now _ c.power_bits.ensures ∙ ap (λ k. counted (kind_bits c.args.dev.now c.args.sc.now k)) (sym c.in-BootHost.is)

pub returns-in-Rest : goal.returns-in-Rest
returns-in-Rest c = idle-counted c.args.dev.now c.args.sc.now c.args.kind _ c.in-Rest.is c.idle_bits.ensures

pub returns-in-Call : goal.returns-in-Call
returns-in-Call c =
    call-counted c.args.dev.now c.args.sc.now c.in-Call.op _ c.call_bits.ensures ∙ ap (λ k. counted (kind_bits c.args.dev.now c.args.sc.now k)) (sym c.in-Call.is)
