-- What doing one part of a body comes to, for the position and for the words that a body works on.
-- The project's own.
use Rattle.std.specs.Prelude.{◌≡◌, ℕ, ◌-◌, ◌==◌, List, [], ◌∷◌, ◌++◌, slice_get, slice_set, Option, Some, None, Bool, if◌then◌else◌}
use Rattle.knox_words.specs.Lists.{Words}
use Rattle.knox_circuit.specs.Circuit.{state_after_tick}
use Rattle.knox_lang.specs.declared.expr.Stmt.{Stmt, out-Stmt}
use Rattle.knox_lang.specs.declared.expr.Stmt.TheOpen.{Stmt-F}
use Rattle.driver_machine.specs.declared.position.Way.TheVariants as way
use Rattle.driver_machine.specs.declared.position.Position.{Position}
use Rattle.driver_machine.specs.declared.scene.Scene.{Scene}
use Rattle.driver_machine.specs.declared.part.Part.{Part}
use Rattle.driver_machine.specs.declared.part.Part.TheVariants as part
use Rattle.driver_machine.specs.Sight.{Run, Setting, value, holds, assigned}
use Rattle.driver_machine.specs.Left.{Next, Went, Ticks, NoTurns, AtResult, test_of, next}
use Rattle.driver_machine.specs.Place.{top, items_left, after_list, bumped, entered}

-- the words that a scene holds and a body changes
abbrev pub run_in : Scene → Run
run_in s = record { cells = s.state.words; inputs = s.inputs.words; locals = s.locals }

-- a position and its words before a part, and after it
pub record Doing : Type 0 where
  pub from : Position
  pub words : Run
  pub to : Position
  pub after : Run

abbrev pub doing : Position → Run → Position → Run → Doing
doing p run p' run' = record { from = p; words = run; to = p'; after = run' }

-- a statement is begun
abbrev pub Begins : Setting → Words → Stmt-F Stmt → Doing → Part → Type 0
Begins g bound (Stmt-F.Assign s e) x r = (r ≡ part.Ran) × (x.to ≡ bumped x.from) × (x.after ≡ assigned s 0 (value g x.words bound e) x.words)
Begins g bound (Stmt-F.Store s i e) x r = (r ≡ part.Ran) × (x.to ≡ bumped x.from) × (x.after ≡ assigned s (value g x.words bound i).value (value g x.words bound e) x.words)
Begins g bound (Stmt-F.SetInput k e) x r = (r ≡ part.Ran) × (x.to ≡ bumped x.from) × (x.after ≡ record (x.words) { inputs = slice_set x.words.inputs k (value g x.words bound e) })
Begins g bound (Stmt-F.If c as' bs) x r = (r ≡ part.Ran) × (x.to ≡ entered (bumped x.from) (if holds g x.words bound c then way.Then else way.Else)) × (x.after ≡ x.words)
Begins g bound (Stmt-F.For w n body) x r = (r ≡ part.Ran) × (x.to ≡ (if n == 0 then bumped x.from else entered (bumped x.from) (way.Turn 0))) × (x.after ≡ x.words)
Begins g bound (Stmt-F.While e n body) x r =
    (r ≡ (if holds g x.words bound e then (if n == 0 then part.NoTurns else part.Ran) else part.Ran))
    × (x.to ≡ (if holds g x.words bound e then (if n == 0 then x.from else entered (bumped x.from) (way.While (n - 1))) else bumped x.from))
    × (x.after ≡ x.words)
Begins g bound Stmt-F.Tick x r = (r ≡ part.Ticked) × (x.to ≡ bumped x.from) × (x.after ≡ record (x.words) { cells = state_after_tick g.lines x.words.cells x.words.inputs })
Begins g bound _ x r = (r ≡ part.Ran) × (x.to ≡ bumped x.from) × (x.after ≡ x.words)

-- a loop is tested again, where j more turns may follow
abbrev pub Retests : Setting → Words → ℕ → Stmt-F Stmt → Doing → Part → Type 0
Retests g bound j (Stmt-F.While e n body) x r =
    (r ≡ (if holds g x.words bound e then (if j == 0 then part.NoTurns else part.Ran) else part.Ran))
    × (x.to ≡ (if holds g x.words bound e then (if j == 0 then x.from else entered x.from (way.While (j - 1))) else x.from))
    × (x.after ≡ x.words)
Retests g bound j _ x r = Unit {0}

-- a test's outcome as a list, where there is a test
abbrev pub listed : Option Bool → List Bool
listed None = []
listed (Some t) = t ∷ []

-- the outcome of the test with which a statement of the list that is being done begins
abbrev pub stmt_tests : Setting → Words → Option Stmt → Run → List Bool
stmt_tests g bound None run = []
stmt_tests g bound (Some s) run = test_of g (out-Stmt s) bound run

abbrev pub tests_at : Setting → List Stmt → Position → ℕ → Run → List Bool
tests_at g body pos place run = stmt_tests g (top body [] pos.frames).bound (slice_get (top body [] pos.frames).list place) run

-- what was done leads where the next part of the items does
abbrev pub Goes : List Stmt → Doing → Next → Part → Type 0
Goes body x (Went items run) r = (r ≡ part.Ran) × (items_left body x.to ≡ items) × (x.after ≡ run)
Goes body x (Ticks items run) r = (r ≡ part.Ticked) × (items_left body x.to ≡ items) × (x.after ≡ run)
Goes body x NoTurns r = (r ≡ part.NoTurns) × (x.after ≡ x.words)
Goes body x AtResult r = (r ≡ part.AtResult) × (x.after ≡ x.words)

-- the next part of what is left is done
abbrev pub Moves : Setting → List Stmt → Doing → Part → Type 0
Moves g body x r = Goes body x (next g (items_left body x.from) x.words) r

-- the test after a turn is done, where j more may follow
abbrev pub Tests : Setting → List Stmt → ℕ → Doing → Part → Type 0
Tests g body j x r = Goes body x (next g (after_list body x.from (way.While j) ++ items_left body x.from) x.words) r
