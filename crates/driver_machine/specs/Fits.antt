-- Whether a driver is at a place of an operation's body: what is left of the body obeys the rules of
-- the language, the cells are device words of the circuit, and all words have their widths. The project's own.
use Rattle.std.specs.Prelude.{ℕ, ◌&&◌, List, [], ◌∷◌, length, slice_get, Option, Some, Bool, true, false}
use Rattle.knox_words.specs.Lists.{fit, fits}
use Rattle.knox_theory.specs.Device.{Reply, Replied, OutOfTurns}
use Rattle.knox_theory.specs.Design.{Config}
use Rattle.knox_circuit.specs.Line.{Line}
use Rattle.knox_circuit.specs.Ports.{input_widths}
use Rattle.knox_circuit.specs.Rom.{fits_state}
use Rattle.knox_lang.specs.declared.parts.OpHead.{OpHead}
use Rattle.knox_lang.specs.declared.parts.Body.{Body}
use Rattle.knox_lang.specs.declared.parts.DriverParts.{DriverParts}
use Rattle.knox_lang.specs.Operation.{arg_widths}
use Rattle.knox_lang.specs.Typing.{Widths, width_of, is_width, stmt_fits, stmts_fit}
use Rattle.knox_lang.specs.WellFormed.{word_widths, local_widths, op_widths, driver_leave, result_fits}
use Rattle.driver_machine.specs.Sight.{Run}
use Rattle.driver_machine.specs.Left.{Item, Does, Again, Left, Rest, Over, run_of}

-- the widths of the words that a body sees
abbrev pub seen_widths : DriverParts → OpHead → Body → Widths
seen_widths d h b = op_widths [] d.outs h b

-- whether an item obeys the rules, under bound variables that are words
abbrev pub item_fits : DriverParts → Widths → Item → Bool
item_fits d ws (Does s bound) = fit (word_widths bound) bound && stmt_fits d.funs ws (driver_leave d) s (word_widths bound)
item_fits d ws (Again e n body bound) =
    fit (word_widths bound) bound
    && (is_width (width_of d.funs (length d.funs) ws e (word_widths bound)) 1 && stmts_fit d.funs ws (driver_leave d) body (word_widths bound))

abbrev pub items_fit : DriverParts → Widths → List Item → Bool
items_fit d ws [] = true
items_fit d ws (i ∷ is) = item_fits d ws i && items_fit d ws is

-- whether a reply is a word of the operation's result, or none
abbrev pub reply_fits : OpHead → Reply → Bool
reply_fits h (Replied w) = fits h.result w
reply_fits h OutOfTurns = true

abbrev pub left_fits : DriverParts → OpHead → Body → Left → Bool
left_fits d h b (Over r) = reply_fits h r
left_fits d h b (Rest items args result) =
    fit (arg_widths h) args && (result_fits d.funs (seen_widths d h b) h.result result && items_fit d (seen_widths d h b) items)

-- whether the cells are device words of the circuit, ROM words included, and inputs and locals have their widths
abbrev pub run_fits : List Line → Body → Run → Bool
run_fits lines b run = fits_state lines run.cells && (fit (input_widths lines) run.inputs && fit (local_widths b) run.locals)

abbrev pub fits_body : List Line → DriverParts → Option OpHead → Option Body → Config Left → Bool
fits_body lines d (Some h) (Some b) c = run_fits lines b (run_of c) && left_fits d h b c.left
fits_body lines d _ _ c = false

-- whether a configuration is a place of an operation's body
abbrev pub fits_config : List Line → DriverParts → (op : ℕ) → Config Left → Bool
fits_config lines d op c = fits_body lines d (slice_get d.ops op) (slice_get d.bodies op) c
