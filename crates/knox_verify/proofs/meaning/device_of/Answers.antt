use Rattle.std.proofs.Common.{inl, inr, refl}
use Rattle.std.proofs.lemmas.Result.{err_from_is_err_and}
use Rattle.knox_verify.proofs.FaultsLemmas.{is-false}
use Rattle.knox_verify.proofs.meaning.device_of.Goals as goal

pub returns-in_err-driver-clause-refused : goal.returns-in_err-driver-clause-refused
returns-in_err-driver-clause-refused c h =
    let p = err_from_is_err_and c.from_residual-in_err-driver.result c.from_residual-in_err-driver.ensures.1 in
    let circuit = c.in_ok-circuit in
    let spec = c.in_ok-spec in
    rw (p.1, p.2) (elim c.in_err-driver.ensures.fault [ inl e ↦ inl e | inr bad ↦ inr (inr (circuit.circuit, circuit.ensures.meant, inr (spec.spec, spec.ensures.meant, inl bad))) ])

pub returns-in_err-emulator-clause-refused : goal.returns-in_err-emulator-clause-refused
returns-in_err-emulator-clause-refused c h =
    let p = err_from_is_err_and c.from_residual-in_err-emulator.result c.from_residual-in_err-emulator.ensures.1 in
    let circuit = c.in_ok-circuit in
    let spec = c.in_ok-spec in
    let driver = c.in_ok-driver in
    rw (p.1, p.2) (elim c.in_err-emulator.ensures.fault [ inl e ↦ inl e | inr bad ↦ inr (inr (circuit.circuit, circuit.ensures.meant, inr (spec.spec, spec.ensures.meant, inr (driver.driver, driver.ensures.meant, inl bad)))) ])

pub returns-in-None-clause-refused : goal.returns-in-None-clause-refused
returns-in-None-clause-refused c h =
    let circuit = c.in_ok-circuit in
    let spec = c.in_ok-spec in
    let driver = c.in_ok-driver in
    let emulator = c.in_ok-emulator in
    let misfit = is-false _ c.in-None.ensures.some.1 in
    inr (inr (circuit.circuit, circuit.ensures.meant, inr (spec.spec, spec.ensures.meant, inr (driver.driver, driver.ensures.meant, inr (emulator.emulator, emulator.ensures.meant, inl (misfit, refl))))))
