-- What is left of a body at a position. The project's own.
use Rattle.std.specs.Prelude.{◌<◌, length, ℕ, ◌+◌, ◌-◌, nat_lt, List, [], ◌∷◌, ◌++◌, drop, slice_get, Option, Some, None, if◌then◌else◌}
use Rattle.knox_words.specs.Bits.{word_or}
use Rattle.knox_words.specs.Lists.{Words}
use Rattle.knox_lang.specs.declared.expr.Stmt.{Stmt, out-Stmt}
use Rattle.knox_lang.specs.declared.expr.Stmt.TheOpen.{Stmt-F}
use Rattle.driver_machine.specs.declared.position.Way.{Way}
use Rattle.driver_machine.specs.declared.position.Way.TheVariants as way
use Rattle.driver_machine.specs.declared.position.Frame.{Frame}
use Rattle.driver_machine.specs.declared.position.Position.{Position}
use Rattle.driver_machine.specs.Left.{Item, Again, on, turns_from}

-- a list in a statement: its statements, the variables bound there, and what follows it in the statement
pub record Inner : Type 0 where
  pub list : List Stmt
  pub bound : Words
  pub after : List Item

abbrev pub inner : List Stmt → Words → List Item → Inner
inner ss bound after = record { list = ss; bound = bound; after = after }

abbrev pub inner_in : Way → Stmt-F Stmt → Words → Inner
inner_in way.Then (Stmt-F.If c as' bs) bound = inner as' bound []
inner_in way.Else (Stmt-F.If c as' bs) bound = inner bs bound []
inner_in (way.Turn k) (Stmt-F.For w n body) bound = inner (if nat_lt k n then body else []) (bound ++ word_or w k ∷ []) (turns_from w body bound (k + 1) (n - (k + 1)))
inner_in (way.While m) (Stmt-F.While e n body) bound = inner body bound (Again e m body bound ∷ [])
inner_in _ _ bound = inner [] bound []

abbrev pub inner_of : Way → Option Stmt → Words → Inner
inner_of w None bound = inner [] bound []
inner_of w (Some s) bound = inner_in w (out-Stmt s) bound

-- the list that is being done, the variables bound there, and what follows the list
pub record Top : Type 0 where
  pub list : List Stmt
  pub bound : Words
  pub rest : List Item

abbrev pub top : List Stmt → Words → List Frame → Top
top ss bound [] = record { list = ss; bound = bound; rest = [] }
top ss bound (f ∷ fs) =
    let q = inner_of f.way (slice_get ss (f.place - 1)) bound in
    let t = top q.list q.bound fs in
    record { list = t.list; bound = t.bound; rest = t.rest ++ (q.after ++ on bound (drop f.place ss)) }

abbrev pub items_at : Top → ℕ → List Item
items_at t place = on t.bound (drop place t.list) ++ t.rest

-- what is left of a body at a position, in the order in which it is done
abbrev pub items_left : List Stmt → Position → List Item
items_left ss pos = items_at (top ss [] pos.frames) pos.place

-- one more statement is begun
abbrev pub bumped : Position → Position
bumped pos = record pos { place = pos.place + 1 }

-- a list is begun in the statement that was begun last
abbrev pub entered : Position → Way → Position
entered pos w = record { place = 0; frames = pos.frames ++ record { way = w; place = pos.place } ∷ [] }

-- what follows a list in the statement that was begun last
abbrev pub after_list : List Stmt → Position → Way → List Item
after_list ss pos w = (inner_of w (slice_get (top ss [] pos.frames).list (pos.place - 1)) (top ss [] pos.frames).bound).after

abbrev pub while_in : Stmt-F Stmt → Type 0
while_in (Stmt-F.While e n body) = Unit {0}
while_in _ = ⊥

abbrev pub while_at : Option Stmt → Type 0
while_at None = ⊥
while_at (Some s) = while_in (out-Stmt s)

-- the statement that was begun last is a loop with a test
abbrev pub IsAtWhile : List Stmt → Position → Type 0
IsAtWhile ss pos = while_at (slice_get (top ss [] pos.frames).list (pos.place - 1))

abbrev pub IsAtStatement : List Stmt → Position → Type 0
IsAtStatement ss pos = pos.place < length (top ss [] pos.frames).list
