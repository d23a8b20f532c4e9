use Rattle.std.proofs.Common.{◌≡◌, ◌∙◌, ◌++◌, ℕ, ap, sym, length, take, drop, arith}
use Rattle.std.proofs.Math.Seq.{take-append_seam}
use Rattle.emu_machine.specs.Emulator.{emulator_outputs}
use Rattle.script_core.specs.Rooms.{state_in}
use Rattle.script_core.proofs.Projections.{shown-same}
use Rattle.script_core.proofs.room.Room.shows_the_same.Goals as goal

pub returns-clause-value : goal.returns-clause-value
returns-clause-value c =
    shown-same c.args.dev.now (state_in c.args.self.now) c.args.self.now.inputs.words c.as_slice-3.result.now c.as_slice-4.result.now _ c.eq.ensures
    (let same : length c.outputs.new.out ≡ c.args.self.now.outputs.len = omega arith in
    c.as_slice-3.ensures.value
    ∙ (ap (λ (n : ℕ). take n (c.outputs.new.out ++ drop (length c.outputs.new.out) c.args.self.now.outputs.items)) (sym same)
    ∙ (take-append_seam c.outputs.new.out _ ∙ c.outputs.ensures.out)))
    (c.as_slice-4.ensures ∙ (c.in_ok-outputs.ensures ∙ (λ i. emulator_outputs c.args.dev.now.emulator (c.as_slice.ensures i) (c.as_slice-2.ensures i))))
