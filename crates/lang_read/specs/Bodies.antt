-- Which bodies trees mean: locals at the front, then statements, and at the end a result where one
-- is wanted. A body's cost has a limit.
use Rattle.std.specs.Prelude.{ℕ, nat_lt, if◌then◌else◌, List, [], ◌∷◌, ◌++◌, codes, Option, Some, None, Result, Ok}
use Rattle.knox_text.specs.declared.place.Place.{Place}
use Rattle.knox_sexpr.specs.declared.tree.Tree.{Tree}
use Rattle.knox_lang.specs.declared.expr.Space.TheVariants.{Local}
use Rattle.knox_lang.specs.declared.parts.Body.{Body}
use Rattle.expr_read.specs.declared.faults.LangWhy.TheVariants.{Form, Bound}
use Rattle.expr_read.specs.declared.faults.LangFault.{LangFault}
use Rattle.expr_read.specs.declared.expression.Typed.{Typed}
use Rattle.expr_read.specs.declared.names.Named.{Named}
use Rattle.expr_read.specs.Views.{◌>>=◌, fails, place_of, parts_of}
use Rattle.expr_read.specs.Names.{locals, numbered}
use Rattle.expr_read.specs.Expressions.{dearer, expr_of_width}
use Rattle.lang_read.specs.declared.statement.Home.{Home}
use Rattle.lang_read.specs.declared.statement.Steps.{Steps}
use Rattle.lang_read.specs.declared.body.Priced.{Priced}
use Rattle.lang_read.specs.Entries.{front, behind_front}
use Rattle.lang_read.specs.Statements.{block_of}

abbrev pub empty_body : Body
empty_body = record { locals = []; stmts = []; result = None }

-- ---- without a result

-- a body without a result may cost 1,000,000
abbrev pub silent : Place → List (List ℕ × ℕ) → Steps → Result Body LangFault
silent at ls steps = if nat_lt 1000000 steps.cost then fails at Bound else Ok (record { locals = ls; stmts = steps.stmts; result = None })

-- the body of a list at a place
abbrev pub silent_body : Home → List Named → Place → List Tree → Result Body LangFault
silent_body home names at ts = do
  ls ← locals (front (codes "local") ts)
  steps ← block_of home (behind_front (codes "local") ts) (names ++ numbered Local 0 ls)
  silent at ls steps

-- ---- with a result

-- the expression of (result e), of the width that is wanted
abbrev pub result_in : Place → ℕ → List Named → List Tree → Result Typed LangFault
result_in at w names (head ∷ e ∷ []) = expr_of_width e w names
result_in at w names ts = fails at Form

abbrev pub result_of : Tree → ℕ → List Named → Result Typed LangFault
result_of t w names = parts_of t >>= λ ts. result_in (place_of t) w names ts

-- a body and its cost
abbrev pub replying : List (List ℕ × ℕ) → Steps → Typed → Priced
replying ls steps value = record { body = record { locals = ls; stmts = steps.stmts; result = Some value.expr }; cost = dearer steps.cost value.cost }

-- the body of a list whose last tree is the result, whatever it costs
abbrev pub replying_body : Home → List Named → ℕ → List Tree → Tree → Result Priced LangFault
replying_body home names w ts last = do
  ls ← locals (front (codes "local") ts)
  steps ← block_of home (behind_front (codes "local") ts) (names ++ numbered Local 0 ls)
  value ← result_of last w (names ++ numbered Local 0 ls)
  Ok (replying ls steps value)

-- the body of a list at a place, if it isn't dearer than its limit
abbrev pub within : ℕ → Place → Priced → Result Body LangFault
within most at p = if nat_lt most p.cost then fails at Bound else Ok p.body

-- the trees before the last one, and the last one
abbrev pub and_front : Tree → Option (List Tree × Tree) → Option (List Tree × Tree)
and_front t None = Some ([], t)
and_front t (Some p) = Some (t ∷ p.0, p.1)

abbrev pub cut_last : List Tree → Option (List Tree × Tree)
cut_last [] = None
cut_last (t ∷ ts) = and_front t (cut_last ts)
