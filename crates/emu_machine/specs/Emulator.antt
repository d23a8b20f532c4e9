-- What an emulator shows, and what it does at power-on and at a tick. It sees its own fields and the inputs, and
-- asks the specification, whose fields it has no name for. The project's own.
use Rattle.std.specs.Prelude.{List, [], map}
use Rattle.knox_words.specs.Bits.{Bits}
use Rattle.knox_lang.specs.declared.scope.Spaces.{Spaces}
use Rattle.knox_lang.specs.declared.parts.SpecParts.{SpecParts}
use Rattle.knox_lang.specs.declared.parts.EmuParts.{EmuParts}
use Rattle.knox_lang.specs.Scope.{no_words, scope}
use Rattle.knox_lang.specs.Eval.{eval, values, called}
use Rattle.knox_lang.specs.Exec.{Answering, does_all}
use Rattle.knox_lang.specs.Operation.{no_queries, start_of, op_after, op_result}

-- the words that a body of the emulator sees: its fields, the inputs and its locals
abbrev pub body_words : List Bits → List Bits → List Bits → Spaces
body_words emu ins locals = record no_words { own = emu; input = ins; local = locals }

-- the outputs that it shows, in line order
abbrev pub emulator_outputs : EmuParts → List Bits → List Bits → List Bits
emulator_outputs p emu ins = values (map (eval (called p.funs)) p.outputs) (scope (body_words emu ins []) [])

-- the words that the body `power` sees: the fields with their initial words, its locals and the noise words.
-- The inputs are idle, and it has no name for them
abbrev pub power_spaces : EmuParts → List Bits → Spaces
power_spaces p noise = record no_words { own = p.init; local = start_of p.power.locals; noise = noise }

-- the emulator's words after a power-cycle with this noise: what the body `power` makes of the initial ones. It asks no one
abbrev pub emulator_after_power : EmuParts → List Bits → List Bits
emulator_after_power p noise = (does_all (Unit {0}) (called p.funs) no_queries p.power.stmts (power_spaces p noise, tt) []).0.own

-- a specification that answers, with its present fields
pub record Answerer : Type 0 where
  pub spec : SpecParts
  pub fields : List Bits

-- each query runs its operation, on the fields that the query before it left
abbrev pub answering : Answering Answerer
answering = record {
  reply = λ a k args. op_result a.spec k a.fields args;
  after = λ a k args. record a { fields = op_after a.spec k a.fields args };
}

-- all words and the specification after the body of a tick, whose locals start at zero
abbrev pub after_tick : SpecParts → EmuParts → List Bits → List Bits → List Bits → Spaces × Answerer
after_tick s p fields emu ins =
    does_all Answerer (called p.funs) answering p.tick.stmts
    (body_words emu ins (start_of p.tick.locals), record { spec = s; fields = fields }) []

-- the emulator's fields after a tick
abbrev pub emulator_after_tick : SpecParts → EmuParts → List Bits → List Bits → List Bits → List Bits
emulator_after_tick s p fields emu ins = (after_tick s p fields emu ins).0.own

-- the specification's fields after it
abbrev pub fields_after_tick : SpecParts → EmuParts → List Bits → List Bits → List Bits → List Bits
fields_after_tick s p fields emu ins = (after_tick s p fields emu ins).1.fields
