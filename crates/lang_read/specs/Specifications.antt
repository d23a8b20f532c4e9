-- Which specification the trees of a text mean: (spec (field x w n) .. (op x ((x w) ..) w (local x
-- w) .. stmt .. (result e)) ..), or the first fault. A fault that stands at a list comes before those
-- inside it.
use Rattle.std.specs.Prelude.{ℕ, if◌then◌else◌, List, [], ◌∷◌, ◌++◌, take, drop, is_some, codes, Option, Some, None, Result, Ok, Err}
use Rattle.knox_text.specs.declared.place.Place.{Place}
use Rattle.knox_sexpr.specs.declared.tree.Tree.{Tree}
use Rattle.knox_lang.specs.declared.expr.Space.TheVariants.{Own, Arg}
use Rattle.knox_lang.specs.declared.parts.OpHead.{OpHead}
use Rattle.knox_lang.specs.declared.parts.Body.{Body}
use Rattle.knox_lang.specs.declared.parts.SpecParts.{SpecParts}
use Rattle.knox_lang.specs.WellFormed.{spec_fits}
use Rattle.expr_read.specs.declared.faults.LangWhy.TheVariants.{Form, Twice, Width, Missing}
use Rattle.expr_read.specs.declared.faults.LangFault.{LangFault}
use Rattle.expr_read.specs.declared.fields.Fields.{Fields}
use Rattle.expr_read.specs.declared.names.Named.{Named}
use Rattle.expr_read.specs.Views.{◌>>=◌, fails, place_of, width_of, symbol_of, parts_of, is_headed, behind_head, headed_count, no_more, each}
use Rattle.expr_read.specs.Names.{op_number, arguments, and_last, numbered, field_names}
use Rattle.expr_read.specs.Fields.{fields_of}
use Rattle.lang_read.specs.declared.statement.Home.TheVariants.{Plain}
use Rattle.lang_read.specs.declared.spec.Nameless.{Nameless}
use Rattle.lang_read.specs.declared.spec.OpParts.{OpParts}
use Rattle.lang_read.specs.declared.spec.OpList.{OpList}
use Rattle.lang_read.specs.Bodies.{replying_body, within, cut_last}

-- ---- operations

abbrev pub args_of : Tree → Result (List (List ℕ × ℕ)) LangFault
args_of t = parts_of t >>= λ ts. arguments ts

-- arguments, width and body. The body sees the fields, and the arguments, which hide them.
abbrev pub nameless_op : List Named → Tree → Tree → List Tree → Tree → Result Nameless LangFault
nameless_op fields args w ts last = do
  pairs ← args_of args
  width ← width_of w
  body ← replying_body Plain (fields ++ numbered Arg 0 pairs) width ts last
  Ok (record { args = pairs; result = width; body = body })

-- a name that no operation before it has
abbrev pub op_name : List OpHead → Tree → Result (List ℕ) LangFault
op_name known t = symbol_of t >>= λ name. if is_some (op_number name known) then fails (place_of t) Twice else Ok name

abbrev pub op_of : List ℕ → List (List ℕ × ℕ) → ℕ → Body → OpParts
op_of name args width body = record { head = record { name = name; args = args; result = width }; body = body }

-- the operation of a list at a place, whose body may cost 1,000,000. One that is too dear is a fault
-- of the whole list, and comes before one of the name; any other fault stands behind the name.
abbrev pub named_op : Place → Result (List ℕ) LangFault → Result Nameless LangFault → Result OpParts LangFault
named_op at name (Ok op) = do
  body ← within 1000000 at op.body
  n ← name
  Ok (op_of n op.args op.result body)
named_op at name (Err f) = name >>= λ n. Err f

abbrev pub op_ending : Place → List OpHead → List Named → Tree → Tree → Tree → Option (List Tree × Tree) → Result OpParts LangFault
op_ending at known fields x args w None = fails at Form
op_ending at known fields x args w (Some p) =
    if is_headed (codes "result") p.1 then named_op at (op_name known x) (nameless_op fields args w p.0 p.1) else fails at Form

-- (op x ((x w) ..) w stmt .. (result e))
abbrev pub op_in : Place → List OpHead → List Named → List Tree → Result OpParts LangFault
op_in at known fields (head ∷ x ∷ args ∷ w ∷ ts) = op_ending at known fields x args w (cut_last ts)
op_in at known fields ts = fails at Form

abbrev pub operation : List Named → List OpHead → Tree → Result OpParts LangFault
operation fields known t =
    if is_headed (codes "op") t then (parts_of t >>= λ ts. op_in (place_of t) known fields ts) else fails (place_of t) Form

abbrev pub no_ops : OpList
no_ops = record { heads = []; bodies = [] }

abbrev pub and_op : OpList → OpParts → OpList
and_op before op = record { heads = and_last before.heads op.head; bodies = and_last before.bodies op.body }

-- operations in order
abbrev pub operations : List Named → List Tree → Result OpList LangFault
operations fields ts = each (λ (before : OpList). operation fields before.heads) and_op no_ops ts

-- ---- specifications

abbrev pub parts_with : Fields → OpList → SpecParts
parts_with fields ops = record { fields = fields.fields; init = fields.init; funs = []; ops = ops.heads; bodies = ops.bodies }

-- fields stand at the front, operations behind them
abbrev pub spec_in : ℕ → List Tree → Result SpecParts LangFault
spec_in count ts = do
  fields ← fields_of (take count ts)
  ops ← operations (field_names Own fields.fields) (drop count ts)
  Ok (parts_with fields ops)

abbrev pub spec_parts : Tree → Result SpecParts LangFault
spec_parts t = behind_head (codes "spec") t >>= λ ts. spec_in (headed_count (codes "field") ts) ts

abbrev pub made : Place → SpecParts → Result SpecParts LangFault
made at p = if spec_fits p then Ok p else fails at Width

-- the specification of a tree, where other trees follow
abbrev pub spec_of : Tree → List Tree → Result SpecParts LangFault
spec_of t more = do
  parts ← spec_parts t
  done ← no_more more
  made (place_of t) parts

-- the specification of the trees of a text that ends at a place
abbrev pub spec_text : Place → List Tree → Result SpecParts LangFault
spec_text end [] = fails end Missing
spec_text end (t ∷ ts) = spec_of t ts
