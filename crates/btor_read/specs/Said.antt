-- The line that the tokens of a text line say: a number, a keyword, the operands of its form, and at most
-- one symbol; or the first rule that they break.
-- Standard: BTOR2 (Niemetz, Preiner, Wolf and Biere, CAV 2018).
-- The project's own: the rules and their order. What only the lines before can tell isn't said here.
use Rattle.std.specs.Prelude.{ℕ, nat_lt, nat_le, if◌then◌else◌, [], ◌∷◌, Option, Some, None, Result, Ok, Err}
use Rattle.circuit_table.specs.declared.fault.Why.{Why}
use Rattle.circuit_table.specs.declared.fault.Why.TheVariants as why
use Rattle.circuit_table.specs.declared.line.Line.{Line}
use Rattle.circuit_table.specs.Rows.{bind}
use Rattle.btor_read.specs.declared.keyword.Keyword.{Keyword}
use Rattle.btor_read.specs.Tokens.{Tokens}
use Rattle.btor_read.specs.Numbers.{positive}
use Rattle.btor_read.specs.Keywords.{keyword}
use Rattle.btor_read.specs.Grammar.{Read, form, symbol_of}

-- a line's number, which is above the last one
abbrev pub above : ℕ → Tokens → Option ℕ → Read ℕ
above last ts None = Err why.Number
above last ts (Some n) = if nat_le n last then Err why.Order else Ok (n, ts)

abbrev pub number_at : ℕ → Tokens → Read ℕ
number_at last [] = Err why.Number
number_at last (t ∷ ts) = above last ts (positive t)

abbrev pub keyword_at : Tokens → Read Keyword
keyword_at [] = Err why.Keyword
keyword_at (t ∷ ts) = bind (keyword t) (λ k. Ok (k, ts))

-- what the tokens of a text line say, behind a line with the last number
abbrev pub said : ℕ → ℕ → Tokens → Result Line Why
said at last ts =
    if nat_lt 1000000 at then Err why.TooManyLines else
    bind (number_at last ts) (λ n. bind (keyword_at n.1) (λ k. bind (form k.0 k.1) (λ s. bind (symbol_of s.1) (λ symbol.
    Ok (record { number = n.0; at = at; shape = s.0; symbol = symbol })))))
