-- What a place of a body means: the reply and the cells in which the body will end. The project's own.
use Rattle.std.specs.Prelude.{List, [], ◌∷◌}
use Rattle.knox_words.specs.Lists.{Words}
use Rattle.knox_theory.specs.Device.{Reply}
use Rattle.knox_theory.specs.Design.{Config}
use Rattle.knox_circuit.specs.Line.{Line}
use Rattle.knox_lang.specs.declared.parts.DriverParts.{DriverParts}
use Rattle.driver_machine.specs.Sight.{Run, Setting, setting, holds}
use Rattle.driver_machine.specs.Drive.{Outcome, GoesOn, Stops, loops, drives, drives_all, replied}
use Rattle.driver_machine.specs.Left.{Item, Does, Again, Left, Rest, Over, run_of}

-- more, where it goes on
abbrev pub go_on : Outcome → (Run → Outcome) → Outcome
go_on (GoesOn run) f = f run
go_on (Stops run) f = Stops run

abbrev pub item_does : Setting → Item → Run → Outcome
item_does g (Does s b) run = drives g s run b
item_does g (Again e n body b) run = loops (λ r c. holds g r c e) (drives_all g body) n run b

-- what the items do in order
abbrev pub items_do : Setting → List Item → Run → Outcome
items_do g [] run = GoesOn run
items_do g (i ∷ is) run = go_on (item_does g i run) (items_do g is)

abbrev pub means_in : List Line → DriverParts → Left → Run → Reply × Words
means_in lines d (Over r) run = (r, run.cells)
means_in lines d (Rest items args result) run = replied (setting lines d.funs args) result (items_do (setting lines d.funs args) items run)

-- the reply and the cells in which a configuration will end
abbrev pub means : List Line → DriverParts → Config Left → Reply × Words
means lines d c = means_in lines d c.left (run_of c)
