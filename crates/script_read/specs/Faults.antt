-- Faults of a text of hints. Those of its trees, names and expressions are those of the languages.
use Rattle.std.specs.Prelude.{◌≡◌, Result, Ok, Err}
use Rattle.expr_read.specs.declared.faults.LangWhy.{LangWhy}
use Rattle.expr_read.specs.declared.faults.LangWhy.TheVariants as lang
use Rattle.expr_read.specs.declared.faults.LangFault.{LangFault}
use Rattle.script_read.specs.declared.fault.ScriptWhy.{ScriptWhy}
use Rattle.script_read.specs.declared.fault.ScriptWhy.TheVariants.{Form, UnknownName, Twice, Width, Arity, Bound, Missing, Memory}
use Rattle.script_read.specs.declared.fault.ScriptFault.{ScriptFault}

abbrev pub why_of : LangWhy → ScriptWhy
why_of lang.Form = Form
why_of lang.UnknownName = UnknownName
why_of lang.Twice = Twice
why_of lang.Width = Width
why_of lang.Arity = Arity
why_of lang.Bound = Bound
why_of lang.Missing = Missing
why_of lang.Memory = Memory

abbrev pub script_fault : LangFault → ScriptFault
script_fault f = record { place = f.place; why = why_of f.why }

-- what reading gives, with its fault as one of hints
abbrev pub of_hints : {A : Type 0} → Result A LangFault → Result A ScriptFault
of_hints (Ok x) = Ok x
of_hints (Err f) = Err (script_fault f)

-- What a function returned is what reading gives, unless memory ran out.
abbrev pub Refuses : {A : Type 0} → ScriptWhy → ScriptFault → Result A ScriptFault → Type 0
Refuses Memory f read = Unit {0}
Refuses Form f read = read ≡ Err f
Refuses UnknownName f read = read ≡ Err f
Refuses Twice f read = read ≡ Err f
Refuses Width f read = read ≡ Err f
Refuses Arity f read = read ≡ Err f
Refuses Bound f read = read ≡ Err f
Refuses Missing f read = read ≡ Err f

abbrev pub Tells : {A : Type 0} → Result A ScriptFault → Result A ScriptFault → Type 0
Tells (Ok x) read = read ≡ Ok x
Tells (Err f) read = Refuses f.why f read
