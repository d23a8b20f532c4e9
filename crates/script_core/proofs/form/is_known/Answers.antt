use Rattle.std.proofs.Common.{◌∙◌, nat_lt, sym, ap}
use Rattle.script_core.specs.Hints.{kinds}
use Rattle.script_core.specs.Forms.{is_among}
use Rattle.script_core.proofs.EachKind.{call-among}
use Rattle.script_core.proofs.form.is_known.Goals as goal

pub returns-in-Call : goal.returns-in-Call
returns-in-Call c =
    ap (λ o. nat_lt o c.args.ops) c.from.ensures ∙ (sym (call-among c.in-Call.op c.args.ops) ∙ sym (ap (λ k. is_among k (kinds c.args.ops)) c.in-Call.is))
