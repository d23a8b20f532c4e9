-- What a run prints: the lines of a verdict and of a check on `out`, those of anything else on `err`.
use Rattle.std.specs.Prelude.{ℕ, List, ◌++◌, codes}
use Rattle.std.specs.List.{flat_map}
use Rattle.std.specs.Fmt.{decimal}
use Rattle.knox_circuit.specs.Why.TheVariants as circuit
use Rattle.expr_read.specs.declared.faults.LangWhy.TheVariants as lang
use Rattle.script_read.specs.declared.fault.ScriptWhy.TheVariants as script
use Rattle.rat_check.specs.declared.rat_step.RatStep.TheVariants as step
use Rattle.proof_text.specs.declared.fault.ProofFault.TheVariants as proof
use Rattle.knox_run.specs.Words.{Bytes, Bits, Place, Why, LangWhy, ScriptWhy, RatStep, Letter, C, S, D, E, H, T, F, P, TooLong, Circuit, Lang, Script}
use Rattle.knox_run.specs.Words.{Verdict, Yes, Undecided, TooWide, TextFault, OfDevice, OfProof, CheckEnd, Verified, Rejected, NoEmptyClause}

abbrev pub usage_line : Bytes
usage_line = codes "usage: knox verify C S D E H [budget N] [paths N] | replay C S D E T | prove F [budget N] | sat F [budget N] | check F P | selftest N\n"

abbrev pub not_yet_line : Bytes
not_yet_line = codes "not yet\n"

abbrev pub cannot_read_line : Bytes → Bytes
cannot_read_line name = codes "cannot read " ++ name ++ codes "\n"

-- ---- the fault of a text

abbrev pub letter_name : Letter → Bytes
letter_name C = codes "C"
letter_name S = codes "S"
letter_name D = codes "D"
letter_name E = codes "E"
letter_name H = codes "H"
letter_name T = codes "T"
letter_name F = codes "F"
letter_name P = codes "P"

-- the rule that a circuit's text breaks
abbrev pub rule_name : Why → Bytes
rule_name circuit.TooManyLines = codes "TooManyLines"
rule_name circuit.Number = codes "Number"
rule_name circuit.Order = codes "Order"
rule_name circuit.Constraint = codes "Constraint"
rule_name circuit.Unsupported = codes "Unsupported"
rule_name circuit.Keyword = codes "Keyword"
rule_name circuit.Operand = codes "Operand"
rule_name circuit.Sort = codes "Sort"
rule_name circuit.Digits = codes "Digits"
rule_name circuit.Width = codes "Width"
rule_name circuit.Init = codes "Init"
rule_name circuit.Next = codes "Next"
rule_name circuit.TooManyWords = codes "TooManyWords"
rule_name circuit.Memory = codes "Memory"

-- what is wrong with a text of the languages, and with one of hints
abbrev pub lang_name : LangWhy → Bytes
lang_name lang.Form = codes "Form"
lang_name lang.UnknownName = codes "UnknownName"
lang_name lang.Twice = codes "Twice"
lang_name lang.Width = codes "Width"
lang_name lang.Arity = codes "Arity"
lang_name lang.Bound = codes "Bound"
lang_name lang.Missing = codes "Missing"
lang_name lang.Memory = codes "Memory"

abbrev pub script_name : ScriptWhy → Bytes
script_name script.Form = codes "Form"
script_name script.UnknownName = codes "UnknownName"
script_name script.Twice = codes "Twice"
script_name script.Width = codes "Width"
script_name script.Arity = codes "Arity"
script_name script.Bound = codes "Bound"
script_name script.Missing = codes "Missing"
script_name script.Memory = codes "Memory"

-- a text's fault at a place
abbrev pub at_place : Letter → Place → Bytes → Bytes
at_place letter at word = codes "text " ++ (letter_name letter ++ (codes " " ++ (decimal at.line ++ (codes ":" ++ (decimal at.column ++ (codes " " ++ (word ++ codes "\n")))))))

-- the fault of a text: of a whole one, on a line of a circuit, or at a place
abbrev pub text_line : Letter → TextFault → Bytes
text_line letter (OfDevice TooLong) = codes "text " ++ (letter_name letter ++ codes " TooLong\n")
text_line letter (OfDevice (Circuit f)) = codes "text " ++ (letter_name letter ++ (codes " line " ++ (decimal f.line ++ (codes " " ++ (rule_name f.why ++ codes "\n")))))
text_line letter (OfDevice (Lang f)) = at_place letter f.place (lang_name f.why)
text_line letter (OfDevice (Script f)) = at_place letter f.place (script_name f.why)
text_line letter (OfProof (proof.Header at)) = at_place letter at (codes "Header")
text_line letter (OfProof (proof.Count at)) = at_place letter at (codes "Count")
text_line letter (OfProof (proof.Variable at)) = at_place letter at (codes "Variable")
text_line letter (OfProof (proof.Shape at)) = at_place letter at (codes "Shape")
text_line letter (OfProof proof.Memory) = codes "text " ++ (letter_name letter ++ codes " Memory\n")

-- ---- a check

-- a refused line, a word and an id
abbrev pub rejected_with : ℕ → Bytes → ℕ → Bytes
rejected_with number word id = codes "rejected line " ++ (decimal number ++ (word ++ (decimal id ++ codes "\n")))

abbrev pub rejected_line : ℕ → RatStep → Bytes
rejected_line number (step.IdNotNew id) = rejected_with number (codes " IdNotNew ") id
rejected_line number (step.NoSuchClause id) = rejected_with number (codes " NoSuchClause ") id
rejected_line number (step.NotUnit id) = rejected_with number (codes " NotUnit ") id
rejected_line number (step.NotPivot id) = rejected_with number (codes " NotPivot ") id
rejected_line number (step.Uncovered id) = rejected_with number (codes " Uncovered ") id
rejected_line number step.NoPivot = codes "rejected line " ++ (decimal number ++ codes " NoPivot\n")
rejected_line number step.NoConflict = codes "rejected line " ++ (decimal number ++ codes " NoConflict\n")
rejected_line number step.Memory = codes "rejected line " ++ (decimal number ++ codes " Memory\n")

-- how a check ended
abbrev pub check_line : CheckEnd → Bytes
check_line Verified = codes "verified\n"
check_line (Rejected number why) = rejected_line number why
check_line NoEmptyClause = codes "rejected no empty clause\n"

-- ---- a verdict

-- a space and a word in decimal
abbrev pub spaced : Bits → Bytes
spaced w = codes " " ++ decimal w.value

-- a hint that choices falsify, and the words that the run takes
abbrev pub undecided_lines : ℕ → List Bits → Bytes
undecided_lines hint ws = (codes "undecided " ++ (decimal hint ++ codes "\nchoices")) ++ flat_map spaced ws ++ codes "\n"

abbrev pub too_wide_line : ℕ → ℕ → Bytes
too_wide_line hint bits = codes "too-wide " ++ (decimal hint ++ (codes " " ++ (decimal bits ++ codes "\n")))

abbrev pub verdict_lines : Verdict → Bytes
verdict_lines Yes = codes "yes\n"
verdict_lines (Undecided hint choices) = undecided_lines hint.0 choices.words
verdict_lines (TooWide hint bits) = too_wide_line hint.0 bits
