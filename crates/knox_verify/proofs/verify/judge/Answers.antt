use Rattle.std.proofs.Common.{sym, length, inl, inr}
use Rattle.std.proofs.lemmas.Result.{err_from_is_err_and}
use Rattle.script_core.proofs.Formed.{ops-are}
use Rattle.knox_verify.specs.{Judgements.parts_of, Meanings.five}
use Rattle.knox_verify.proofs.Deciding.{yes-agrees}
use Rattle.knox_verify.proofs.verify.judge.Goals as goal

pub returns-in_err-dev-clause-refused : goal.returns-in_err-dev-clause-refused
returns-in_err-dev-clause-refused c =
    let p = err_from_is_err_and c.from_residual.result c.from_residual.ensures.1 in
    rw (p.1, p.2) (c.in_err-dev.ensures.refused c.args.h.now)

pub returns-in_err-script-clause-refused : goal.returns-in_err-script-clause-refused
returns-in_err-script-clause-refused c =
    let p = err_from_is_err_and c.from_residual-in_err-script.result c.from_residual-in_err-script.ensures.1 in
    let dev = c.in_ok-dev.dev in
    let m = c.in_ok-dev.ensures.meant in
    rw (p.1, p.2) (elim c.in_err-script.ensures.fault [ inl e ↦ inl e | inr bad ↦ inr (inr (dev.circuit, m.circuit_read, inr (dev.spec, m.spec_read, inr (dev.driver, m.driver_read, inr (dev.emulator, m.emulator_read, inr (m.fit, bad)))))) ])

pub decide-requires : goal.decide-requires
decide-requires c =
    let dev = c.in_ok-dev.dev in
    record { of = sym (ops-are (length dev.spec.ops) c.in_ok-script.script (c.texts_mean_scripts.ensures.fits dev.circuit dev.spec dev.driver dev.emulator _ _ c.in_ok-script.script c.in_ok-script.ensures.meant.2)) }

pub returns-clause-agree : goal.returns-clause-agree
returns-clause-agree c =
    let dev = c.in_ok-dev.dev in
    let of = sym (ops-are (length dev.spec.ops) c.in_ok-script.script (c.texts_mean_scripts.ensures.fits dev.circuit dev.spec dev.driver dev.emulator _ _ c.in_ok-script.script c.in_ok-script.ensures.meant.2)) in
    yes-agrees (five c.args.c.now c.args.s.now c.args.d.now c.args.e.now c.args.h.now) (parts_of dev c.in_ok-script.script) c.in_ok-verdict.verdict
    (record { device = c.in_ok-dev.ensures.meant; script = c.in_ok-script.ensures.meant }) c.devices_are_designs.ensures
    (c.scripts_are_formed.ensures.script dev.circuit dev.spec dev.driver dev.emulator of) c.in_ok-verdict.ensures.decided
