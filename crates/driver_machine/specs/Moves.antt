-- How many parts are left of a driver's body at most, and the moves to the place directly after the
-- next tick. The project's own.
use Rattle.std.specs.Prelude.{◌≡◌, ℕ, zero, suc, ◌+◌, ◌*◌, ◌||◌, List, [], ◌∷◌, ◌++◌, map, Bool, true, false, if◌then◌else◌}
use Rattle.knox_words.specs.Lists.{total}
use Rattle.knox_theory.specs.Design.{Config}
use Rattle.knox_circuit.specs.Line.{Line}
use Rattle.knox_lang.specs.declared.expr.Stmt.{Stmt, fold-Stmt}
use Rattle.knox_lang.specs.declared.expr.Stmt.TheOpen.{Stmt-F}
use Rattle.knox_lang.specs.declared.parts.DriverParts.{DriverParts}
use Rattle.driver_machine.specs.Left.{Item, Does, Again, Left, Rest, Over, step, step_ticks, step_tests, ended}

abbrev pub parts_level : Stmt-F ℕ → ℕ
parts_level (Stmt-F.If c as' bs) = 1 + (total as' + total bs)
parts_level (Stmt-F.For w n body) = 1 + n * total body
parts_level (Stmt-F.While e n body) = 1 + (1 + n * (total body + 1))
parts_level _ = 1

-- the parts of a statement, counting both lists of an `if`
abbrev pub stmt_parts : Stmt → ℕ
stmt_parts s = fold-Stmt ℕ parts_level s

abbrev pub list_parts : List Stmt → ℕ
list_parts ss = total (map stmt_parts ss)

abbrev pub item_parts : Item → ℕ
item_parts (Does s bound) = stmt_parts s
item_parts (Again e n body bound) = 1 + n * (list_parts body + 1)

abbrev pub items_parts : List Item → ℕ
items_parts [] = 0
items_parts (i ∷ is) = item_parts i + items_parts is

-- at most so many parts are left, the result among them
abbrev pub parts_left : Left → ℕ
parts_left (Over r) = 0
parts_left (Rest items args result) = 1 + items_parts items

-- a number of ticks that is never exceeded: a tick is a part
abbrev pub ticks_left : Config Left → ℕ
ticks_left c = parts_left c.left

-- directly after the first tick of the next n parts, or after all of them
abbrev pub until_tick : List Line → DriverParts → (n : ℕ) → Config Left → Config Left
until_tick lines d zero c = c
until_tick lines d (suc n) c = if step_ticks lines d c then step lines d c else until_tick lines d n (step lines d c)

-- the outcomes of the tests on the way
abbrev pub tests_until_tick : List Line → DriverParts → (n : ℕ) → Config Left → List Bool
tests_until_tick lines d zero c = []
tests_until_tick lines d (suc n) c = step_tests lines d c ++ (if step_ticks lines d c then [] else tests_until_tick lines d n (step lines d c))

-- directly after one more tick, or at the end where that comes first
abbrev pub move : List Line → DriverParts → Config Left → Config Left
move lines d c = until_tick lines d (parts_left c.left) c

abbrev pub move_tests : List Line → DriverParts → Config Left → List Bool
move_tests lines d c = tests_until_tick lines d (parts_left c.left) c

-- the driver after n parts, and the outcomes of the tests of these
abbrev pub steps : List Line → DriverParts → (n : ℕ) → Config Left → Config Left
steps lines d zero c = c
steps lines d (suc n) c = steps lines d n (step lines d c)

abbrev pub steps_tests : List Line → DriverParts → (n : ℕ) → Config Left → List Bool
steps_tests lines d zero c = []
steps_tests lines d (suc n) c = step_tests lines d c ++ steps_tests lines d n (step lines d c)

-- whether one of the n parts is a tick, and whether one but the last is
abbrev pub has_tick : List Line → DriverParts → (n : ℕ) → Config Left → Bool
has_tick lines d zero c = false
has_tick lines d (suc n) c = step_ticks lines d c || has_tick lines d n (step lines d c)

abbrev pub has_early_tick : List Line → DriverParts → (n : ℕ) → Config Left → Bool
has_early_tick lines d zero c = false
has_early_tick lines d (suc zero) c = false
has_early_tick lines d (suc (suc n)) c = step_ticks lines d c || has_early_tick lines d (suc n) (step lines d c)

-- a move is n parts, of which the last alone may be a tick; and it is one, or the body has ended
pub record IsMove (lines : List Line) (d : DriverParts) (c : Config Left) : Type 0 where
  pub parts : ℕ
  pub place : move lines d c ≡ steps lines d parts c
  pub tests : move_tests lines d c ≡ steps_tests lines d parts c
  pub early : has_early_tick lines d parts c ≡ false
  pub last : has_tick lines d parts c || ended (steps lines d parts c) ≡ true
