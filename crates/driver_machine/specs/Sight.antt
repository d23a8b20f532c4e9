-- What a driver's body works on, and what its expressions see: arguments, locals, and the circuit's
-- outputs under the present cells and inputs. The language is the project's own.
use Rattle.std.specs.Prelude.{ℕ, ◌+◌, ◌==◌, List, [], slice_set, Option, Some, None, Bool}
use Rattle.knox_words.specs.Bits.{Bits, bits}
use Rattle.knox_words.specs.Lists.{Words}
use Rattle.knox_circuit.specs.Line.{Line}
use Rattle.knox_circuit.specs.Circuit.{output_words}
use Rattle.knox_lang.specs.declared.scope.Spaces.{Spaces}
use Rattle.knox_lang.specs.declared.expr.Expr.{Expr}
use Rattle.knox_lang.specs.declared.expr.Space.{Space}
use Rattle.knox_lang.specs.declared.expr.Space.TheVariants.{Local}
use Rattle.knox_lang.specs.declared.expr.Slot.{Slot}
use Rattle.knox_lang.specs.declared.parts.Fun.{Fun}
use Rattle.knox_lang.specs.Scope.{no_words, scope}
use Rattle.knox_lang.specs.Eval.{Calls, eval, called}

-- what a body changes: the circuit's cells, its inputs, and the locals
pub record Run : Type 0 where
  pub cells : Words
  pub inputs : Words
  pub locals : Words

-- what it doesn't change: the circuit, what functions give, and the arguments
pub record Setting : Type 0 where
  pub lines : List Line
  pub calls : Calls
  pub args : Words

abbrev pub setting : List Line → List Fun → Words → Setting
setting lines funs args = record { lines = lines; calls = called funs; args = args }

-- the words that an expression sees
abbrev pub sight : Setting → Run → Spaces
sight g run = record no_words { arg = g.args; local = run.locals; output = output_words g.lines run.cells run.inputs }

-- the value of an expression, under bound variables
abbrev pub value : Setting → Run → (bound : Words) → Expr → Bits
value g run bound e = eval g.calls e (scope (sight g run) bound)

-- whether a test holds
abbrev pub holds : Setting → Run → (bound : Words) → Expr → Bool
holds g run bound e = (value g run bound e).value == 1

-- the value of a result, or the zero word where there is none
abbrev pub result_value : Setting → Run → Option Expr → Bits
result_value g run None = bits 1 0
result_value g run (Some e) = value g run [] e

-- the locals with another word at a place: no other space has words that a driver changes
abbrev pub set_local : Space → ℕ → Bits → Words → Words
set_local Local k w locals = slice_set locals k w
set_local _ k w locals = locals

abbrev pub assigned : Slot → (more : ℕ) → Bits → Run → Run
assigned s more w run = record run { locals = set_local s.space (s.number + more) w run.locals }
