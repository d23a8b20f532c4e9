use Rattle.std.proofs.Common.{◌≡◌, Ok}
use Rattle.script_read.specs.Scripts.{names_for, text}
use Rattle.script_read.proofs.Texts.{parts-fit}
use Rattle.script_read.proofs.script.script_for.Goals as goal

pub script_of-requires : goal.script_of-requires
script_of-requires c =
    let v = c.args.dev.now in
    let names = names_for v.circuit v.spec v.driver v.emulator in
    let given : text names v.spec.ops c.args.end c.args.trees.now ≡ Ok c.in_ok-parts.parts = rw (← c.in_ok-names.ensures, ← c.ops.ensures) c.in_ok-parts.ensures in
    parts-fit names v.spec.ops c.args.end c.args.trees.now c.in_ok-parts.parts given
