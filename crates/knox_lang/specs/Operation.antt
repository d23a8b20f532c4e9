-- What an operation of a specification does to its fields, and what it gives. The language is
-- the project's own.
use Rattle.std.specs.Prelude.{ℕ, List, [], map, slice_get, Option, Some, None, Bool, false}
use Rattle.knox_words.specs.Bits.{Bits, bits, word_or}
use Rattle.knox_words.specs.Lists.{fit}
use Rattle.knox_lang.specs.declared.scope.Spaces.{Spaces}
use Rattle.knox_lang.specs.declared.expr.Expr.{Expr}
use Rattle.knox_lang.specs.declared.parts.Fun.{Fun}
use Rattle.knox_lang.specs.declared.parts.Body.{Body}
use Rattle.knox_lang.specs.declared.parts.OpHead.{OpHead}
use Rattle.knox_lang.specs.declared.parts.SpecParts.{SpecParts}
use Rattle.knox_lang.specs.Scope.{no_words, scope}
use Rattle.knox_lang.specs.Eval.{Calls, eval, called}
use Rattle.knox_lang.specs.Exec.{Answering, does_all}

-- no one is asked: the reply is the zero word
abbrev pub no_queries : Answering (Unit {0})
no_queries = record { reply = λ a k args. bits 1 0; after = λ a k args. a }

-- locals start at the zero words of their widths
abbrev pub start_of : List (List ℕ × ℕ) → List Bits
start_of locals = map (λ l. word_or l.1 0) locals

-- the words before a body: fields, arguments and locals
abbrev pub body_spaces : Body → List Bits → List Bits → Spaces
body_spaces b fields args = record no_words { own = fields; arg = args; local = start_of b.locals }

-- the words after the statements of a body
abbrev pub body_after : List Fun → Body → List Bits → List Bits → Spaces
body_after funs b fields args = (does_all (Unit {0}) (called funs) no_queries b.stmts (body_spaces b fields args, tt) []).0

-- the value of a result after the statements, or the zero word where there is none
abbrev pub result_in : Calls → Option Expr → Spaces → Bits
result_in calls None sp = bits 1 0
result_in calls (Some e) sp = eval calls e (scope sp [])

abbrev pub after_in : List Fun → Option Body → List Bits → List Bits → List Bits
after_in funs None fields args = fields
after_in funs (Some b) fields args = (body_after funs b fields args).own

abbrev pub reply_in : List Fun → Option Body → List Bits → List Bits → Bits
reply_in funs None fields args = bits 1 0
reply_in funs (Some b) fields args = result_in (called funs) b.result (body_after funs b fields args)

-- the fields after operation k
abbrev pub op_after : SpecParts → ℕ → List Bits → List Bits → List Bits
op_after p k fields args = after_in p.funs (slice_get p.bodies k) fields args

-- the result of operation k
abbrev pub op_result : SpecParts → ℕ → List Bits → List Bits → Bits
op_result p k fields args = reply_in p.funs (slice_get p.bodies k) fields args

-- the widths of the words of the fields, in order: `init` has one word for each
abbrev pub state_widths : SpecParts → List ℕ
state_widths p = map (λ w. w.width) p.init

abbrev pub arg_widths : OpHead → List ℕ
arg_widths h = map (λ a. a.1) h.args

abbrev pub fits_head : Option OpHead → List Bits → Bool
fits_head None args = false
fits_head (Some h) args = fit (arg_widths h) args

-- whether there is an operation k that takes these arguments
abbrev pub call_fits : SpecParts → ℕ → List Bits → Bool
call_fits p k args = fits_head (slice_get p.ops k) args
