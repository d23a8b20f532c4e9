-- Short names for what the computed examples expect.
use Rattle.std.specs.Prelude.{ℕ, List, [], Result, Ok, Err}
use Rattle.circuit_table.specs.declared.fault.Why.{Why}
use Rattle.circuit_table.specs.declared.fault.BtorFault.{BtorFault}
use Rattle.circuit_table.specs.declared.line.Shape.{Shape}
use Rattle.circuit_table.specs.declared.line.Line.{Line}
use Rattle.btor_read.specs.Tokens.{tokens_of}
use Rattle.btor_read.specs.Said.{said}

abbrev pub line : ℕ → ℕ → Shape → List ℕ → Line
line number at shape symbol = record { number = number; at = at; shape = shape; symbol = symbol }

-- line 1, on the first text line, without a symbol
abbrev pub first : Shape → Result Line Why
first shape = Ok (line 1 1 shape [])

-- what a line says as the first of its text
abbrev pub meaning : List ℕ → Result Line Why
meaning text = said 1 0 (tokens_of text)

abbrev pub faulty : ℕ → Why → Result (List Line) BtorFault
faulty at why = Err (record { line = at; why = why })
