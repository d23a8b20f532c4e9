-- What a text is read as, line after line: for the code alone.
use Rattle.std.specs.Prelude.{ℕ, List, [], ◌∷◌, ◌++◌, Option, Some, None, Result, Ok, Err}
use Rattle.circuit_table.specs.declared.fault.Why.{Why}
use Rattle.circuit_table.specs.declared.fault.Why.TheVariants.{Next}
use Rattle.circuit_table.specs.declared.fault.BtorFault.{BtorFault}
use Rattle.circuit_table.specs.declared.line.Line.{Line}
use Rattle.circuit_table.specs.Rows.{bind, rows_of, added}
use Rattle.knox_circuit.specs.Circuit.{unfed}
use Rattle.btor_read.specs.Tokens.{Tokens}
use Rattle.btor_read.specs.Said.{said}
use Rattle.btor_read.specs.TextLines.{TextLine, text_lines}
use Rattle.btor_read.specs.Meaning.{last_number}

-- the lines with what the tokens of a text line say, or the first rule that they break
abbrev pub with_line : List Line → ℕ → Tokens → Result (List Line) Why
with_line before at ts = bind (said at (last_number before) ts) (λ l. bind (added (rows_of before) l) (λ _. Ok (before ++ l ∷ [])))

-- the same of a text line that is skipped where it has no tokens
abbrev pub with_tokens : List Line → ℕ → Tokens → Result (List Line) Why
with_tokens before at [] = Ok before
with_tokens before at (t ∷ ts) = with_line before at (t ∷ ts)

-- all lines, unless one breaks the rule of a whole circuit
abbrev pub unless_unfed : List Line → Option Line → Result (List Line) BtorFault
unless_unfed all None = Ok all
unless_unfed all (Some l) = Err (record { line = l.at; why = Next })

abbrev pub continued : ℕ → Result (List Line) Why → (List Line → Result (List Line) BtorFault) → Result (List Line) BtorFault
continued at (Err w) read = Err (record { line = at; why = w })
continued at (Ok more) read = read more

-- the lines with what the text lines behind them say, or the first fault
abbrev pub read_behind : List Line → List TextLine → Result (List Line) BtorFault
read_behind before [] = unless_unfed before (unfed before)
read_behind before (t ∷ ts) = continued t.at (with_line before t.at t.tokens) (λ more. read_behind more ts)

abbrev pub lines_or_fault : List ℕ → Result (List Line) BtorFault
lines_or_fault text = read_behind [] (text_lines text)
