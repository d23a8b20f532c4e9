-- A driver's configuration as what is left of its body, with cells, inputs and locals; and whether
-- it is one of a circuit and a driver. The project's own.
use Rattle.std.specs.Prelude.{◌≡◌, ◌<◌, ◌&&◌, ℕ, List, Option, Some, None, Bool, true, slice_get, slice_set}
use Rattle.knox_words.specs.Bits.{Bits}
use Rattle.knox_words.specs.Lists.{fit, fits}
use Rattle.knox_theory.specs.Device.{Replied, OutOfTurns}
use Rattle.knox_theory.specs.Device as theory
use Rattle.knox_theory.specs.Design.{Config}
use Rattle.knox_circuit.specs.Line.{Line}
use Rattle.knox_lang.specs.declared.expr.Expr.{Expr}
use Rattle.knox_lang.specs.declared.parts.OpHead.{OpHead}
use Rattle.knox_lang.specs.declared.parts.Body.{Body}
use Rattle.knox_lang.specs.declared.parts.DriverParts.{DriverParts}
use Rattle.driver_machine.specs.declared.reply.Reply.{Reply}
use Rattle.driver_machine.specs.declared.reply.Reply.TheVariants as reply
use Rattle.driver_machine.specs.declared.reply.Moved.{Moved}
use Rattle.driver_machine.specs.declared.reply.Moved.TheVariants as moved
use Rattle.driver_machine.specs.declared.config.DriverConfig.{DriverConfig}
use Rattle.driver_machine.specs.Sight.{Run, Setting, setting, result_value}
use Rattle.driver_machine.specs.Drive.{stmts_of, result_of}
use Rattle.driver_machine.specs.Left.{Left, Rest, Over, Next, Went, Ticks, NoTurns, AtResult, next, config, run_of}
use Rattle.driver_machine.specs.Place.{items_left}
use Rattle.driver_machine.specs.Begins.{run_in}
use Rattle.driver_machine.specs.Fits.{run_fits}
use Rattle.knox_lang.specs.Operation.{arg_widths}

-- a reply in the words of the theory, and back
abbrev pub meant : Reply → theory.Reply
meant (reply.Value w) = Replied w
meant reply.Stuck = OutOfTurns

abbrev pub said : theory.Reply → Reply
said (Replied w) = reply.Value w
said OutOfTurns = reply.Stuck

-- the body of a configuration's operation
abbrev pub body_of : DriverParts → DriverConfig → Option Body
body_of d m = slice_get d.bodies m.op

-- what is left of its body
abbrev pub left_of : Option Body → DriverConfig → Option Reply → Left
left_of b m (Some r) = Over (meant r)
left_of b m None = Rest (items_left (stmts_of b) m.position) m.scene.args (result_of b)

-- the words that it works on
abbrev pub run_at : DriverConfig → Run
run_at m = run_in m.scene

-- the configuration of a driver
abbrev pub config_of : DriverParts → DriverConfig → Config Left
config_of d m = config (left_of (body_of d m) m m.reply) (run_at m)

-- another word at one place, and all else as it was
abbrev pub with_word : DriverConfig → ℕ → Bits → DriverConfig
with_word m k w = record m { scene = record (m.scene) { state = record { words = slice_set m.scene.state.words k w } } }

abbrev pub with_local : DriverConfig → ℕ → Bits → DriverConfig
with_local m k w = record m { scene = record (m.scene) { locals = slice_set m.scene.locals k w } }

-- what a step answers
abbrev pub moved_next : Setting → Option Expr → Run → Next → Moved
moved_next g result run (Went items run') = moved.Ran
moved_next g result run (Ticks items run') = moved.Ticked
moved_next g result run NoTurns = moved.Done reply.Stuck
moved_next g result run AtResult = moved.Done (reply.Value (result_value g run result))

abbrev pub moved_in : List Line → DriverParts → Left → Run → Moved
moved_in lines d (Over r) run = moved.Done (said r)
moved_in lines d (Rest items args result) run = moved_next (setting lines d.funs args) result run (next (setting lines d.funs args) items run)

abbrev pub moved_of : List Line → DriverParts → Config Left → Moved
moved_of lines d c = moved_in lines d c.left (run_of c)

-- a step that hasn't ended the body leaves fewer parts, and one that has leaves none
abbrev pub LowersParts : Moved → (before after : ℕ) → Type 0
LowersParts (moved.Done r) m n = n ≡ 0
LowersParts _ m n = n < m

-- whether the words of a configuration have the widths of an operation and its body
abbrev pub reply_words_fit : OpHead → DriverConfig → Option Reply → Bool
reply_words_fit h m (Some (reply.Value w)) = fits h.result w
reply_words_fit h m (Some reply.Stuck) = true
reply_words_fit h m None = fit (arg_widths h) m.scene.args

abbrev pub words_fit : List Line → OpHead → Body → DriverConfig → Bool
words_fit lines h b m = run_fits lines b (run_at m) && reply_words_fit h m m.reply
