-- The text lines that say something: those with a token before a comment.
-- Standard: BTOR2 (Niemetz, Preiner, Wolf and Biere, CAV 2018).
-- The project's own: text lines are numbered from 1, and one without tokens is counted and skipped.
use Rattle.std.specs.Prelude.{ℕ, ◌+◌, List, [], ◌∷◌}
use Rattle.knox_text.specs.Lines.{lines}
use Rattle.btor_read.specs.Tokens.{Tokens, tokens_of}

-- the number of a text line, and its tokens
pub record TextLine : Type 0 where
  pub at : ℕ
  pub tokens : Tokens

-- a text line before others, unless it is skipped
abbrev pub unless_skipped : ℕ → Tokens → List TextLine → List TextLine
unless_skipped at [] others = others
unless_skipped at (t ∷ ts) others = record { at = at; tokens = t ∷ ts } ∷ others

-- the text lines that aren't skipped, where the first of these has a number
abbrev pub text_lines_from : ℕ → List (List ℕ) → List TextLine
text_lines_from at [] = []
text_lines_from at (line ∷ others) = unless_skipped at (tokens_of line) (text_lines_from (at + 1) others)

-- the text lines of a text that aren't skipped, with their numbers
abbrev pub text_lines : List ℕ → List TextLine
text_lines text = text_lines_from 1 (lines text)
