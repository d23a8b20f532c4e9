-- The tokens of a line up to its comment, and what the next of them means.
-- The project's own: a comment begins with a token that begins with `;`.
use Rattle.std.specs.Prelude.{ℕ, List, [], ◌∷◌, if◌then◌else◌, Option, Some, None, Result, Ok, Err}
use Rattle.knox_text.specs.Lines.{begins_with}
use Rattle.knox_text.specs.Tokens.{bare_tokens}
use Rattle.circuit_table.specs.declared.fault.Why.{Why}
use Rattle.circuit_table.specs.declared.fault.Why.TheVariants.{Operand}

abbrev pub Tokens : Type 0
Tokens = List (List ℕ)

-- the tokens before a comment
abbrev pub uncommented : Tokens → Tokens
uncommented [] = []
uncommented (t ∷ ts) = if begins_with 59 t then [] else t ∷ uncommented ts

-- the tokens of a line
abbrev pub tokens_of : List ℕ → Tokens
tokens_of line = uncommented (bare_tokens line)

-- a meaning and the tokens behind it, or the fault of an operand
abbrev pub operand_before : {A : Type 0} → Tokens → Option A → Result (A × Tokens) Why
operand_before ts None = Err Operand
operand_before ts (Some a) = Ok (a, ts)

-- what the next token means as an operand, and the tokens behind it
abbrev pub next_as : {A : Type 0} → (List ℕ → Option A) → Tokens → Result (A × Tokens) Why
next_as meaning [] = Err Operand
next_as meaning (t ∷ ts) = operand_before ts (meaning t)
