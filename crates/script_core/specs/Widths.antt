-- The bits that words and items take, for the sums of the code. The project's own; no public clause cites it.
use Rattle.std.specs.Prelude.{ℕ, ◌+◌, ◌*◌, List, [], ◌∷◌, Option, Some, None}
use Rattle.knox_circuit.specs.Cells.{cells_of, state_widths, keep_mask}
use Rattle.knox_circuit.specs.Rom.{rom_words, free_mask}
use Rattle.knox_words.specs.Lists.{pick}
use Rattle.emu_machine.specs.declared.device.Device.{Device}
use Rattle.device_design.specs.Meaning.{persistent_roms}
use Rattle.script_core.specs.declared.parts.Act.{Act}
use Rattle.script_core.specs.declared.parts.Act.TheVariants as act
use Rattle.script_core.specs.declared.parts.Item.{Item}

-- the widths of the device words that are taken, and of the persistent words that are: of those that are no ROM words
abbrev pub cells_taken : Device → List ℕ
cells_taken v = pick (free_mask (rom_words v.circuit.lines)) (state_widths (cells_of v.circuit.lines))

abbrev pub kept_taken : Device → List ℕ
kept_taken v = pick (free_mask (persistent_roms v.circuit.lines v.driver.keep)) (pick (keep_mask (cells_of v.circuit.lines) v.driver.keep) (state_widths (cells_of v.circuit.lines)))

-- the ticks of a step
abbrev pub tick_count : Act → Option ℕ
tick_count (act.Step n) = Some n
tick_count a = None

-- so many bits for each tick of an item, and what those behind it take; an item that is no step ends its segment
abbrev pub bits_from : Option ℕ → ℕ → ℕ → ℕ
bits_from None each rest = 0
bits_from (Some n) each rest = n * each + rest

abbrev pub items_bits : ℕ → List Item → ℕ
items_bits each [] = 0
items_bits each (i ∷ is) = bits_from (tick_count i.act) each (items_bits each is)
