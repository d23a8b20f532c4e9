-- The circuit that a text means, and the first fault of a text that means none, as relations to its text
-- lines.
-- Standard: BTOR2 (Niemetz, Preiner, Wolf and Biere, CAV 2018).
-- The project's own: the rules, their order, and that the rule of a whole circuit comes after all lines.
use Rattle.std.specs.Prelude.{◌≡◌, ◌⊎◌, ℕ, List, [], ◌∷◌, ◌++◌, Some, None, Ok, Err, IsOk}
use Rattle.circuit_table.specs.declared.fault.Why.{Why}
use Rattle.circuit_table.specs.declared.fault.Why.TheVariants.{Next}
use Rattle.circuit_table.specs.declared.fault.BtorFault.{BtorFault}
use Rattle.circuit_table.specs.declared.line.Line.{Line}
use Rattle.circuit_table.specs.Rows.{rows_of, added}
use Rattle.knox_circuit.specs.Circuit.{Circuit, unfed}
use Rattle.btor_read.specs.Said.{said}
use Rattle.btor_read.specs.TextLines.{TextLine, text_lines}

-- the number of the last of some lines, or another where there is none
abbrev pub last_or : ℕ → List Line → ℕ
last_or n [] = n
last_or n (l ∷ ls) = last_or l.number ls

abbrev pub last_number : List Line → ℕ
last_number ls = last_or 0 ls

-- text lines say, behind the lines before them, all these lines: each says one, which breaks no rule
-- after those before it
abbrev pub SayLines : List Line → List TextLine → List Line → Type 0
SayLines before [] all = before ≡ all
SayLines before (t ∷ ts) all = (l : Line) × (said t.at (last_number before) t.tokens ≡ Ok l) × IsOk (added (rows_of before) l) × SayLines (before ++ l ∷ []) ts all

-- a text means these lines
pub record MeansLines (text : List ℕ) (ls : List Line) : Type 0 where
  pub saying : SayLines [] (text_lines text) ls
  pub fed : unfed ls ≡ None

-- a text means the circuit of these lines
abbrev pub IsCircuit : List ℕ → Circuit → Type 0
IsCircuit text c = MeansLines text c.lines

-- the first rule that a text line breaks after these lines: one of its tokens, or one of the line that they say
pub data BreaksFirst (ls : List Line) (t : TextLine) (w : Why) : Type 0 where
  InTokens : said t.at (last_number ls) t.tokens ≡ Err w → BreaksFirst ls t w
  InLine : (l : Line) → said t.at (last_number ls) t.tokens ≡ Ok l → added (rows_of ls) l ≡ Err w → BreaksFirst ls t w

-- the text lines before one say lines that obey the rules, and that one is the first that breaks one
pub record FaultsInLine (text : List ℕ) (f : BtorFault) : Type 0 where
  pub before : List TextLine
  pub text_line : TextLine
  pub after : List TextLine
  pub stands : text_lines text ≡ before ++ text_line ∷ after
  pub said_before : List Line
  pub saying : SayLines [] before said_before
  pub broken_first : BreaksFirst said_before text_line f.why
  pub place : f.line ≡ text_line.at

-- all lines obey the rules of lines, and one is the first that breaks the rule of a whole circuit
pub record FaultsAsWhole (text : List ℕ) (f : BtorFault) : Type 0 where
  pub all : List Line
  pub saying : SayLines [] (text_lines text) all
  pub line : Line
  pub starved : unfed all ≡ Some line
  pub place : f.line ≡ line.at
  pub why : f.why ≡ Next

-- a text has this first fault
abbrev pub FaultsAt : List ℕ → BtorFault → Type 0
FaultsAt text f = FaultsInLine text f ⊎ FaultsAsWhole text f
