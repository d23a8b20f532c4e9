-- What is left of a body means the same before each part and after it.
use Rattle.std.proofs.Common.{◌≡◌, ℕ, zero, suc, ◌+◌, List, [], ◌∷◌, ◌++◌, slice_get, Option, Some, None, Bool, true, false, if◌then◌else◌, refl, sym, ◌∙◌, ap}
use Rattle.knox_words.specs.Bits.{word_or}
use Rattle.knox_words.specs.Lists.{Words}
use Rattle.knox_theory.specs.Design.{Config}
use Rattle.knox_circuit.specs.Line.{Line}
use Rattle.knox_lang.specs.declared.expr.Expr.{Expr}
use Rattle.knox_lang.specs.declared.expr.Stmt.{Stmt, out-Stmt, fold_out-Stmt, map-Stmt}
use Rattle.knox_lang.specs.declared.expr.Stmt.TheOpen.{Stmt-F}
use Rattle.knox_lang.specs.declared.parts.Body.{Body}
use Rattle.knox_lang.specs.declared.parts.DriverParts.{DriverParts}
use Rattle.driver_machine.specs.Sight.{Run, Setting, setting, holds}
use Rattle.driver_machine.specs.Drive.{Outcome, GoesOn, Stops, Action, then_does, turns, loops, drive_level, drives, drives_all, replied, first_run, drive_body, drive}
use Rattle.driver_machine.specs.Means.{go_on, item_does, items_do, means_in, means}
use Rattle.driver_machine.specs.Left.{Item, Does, Again, Left, Rest, Over, on, turns_from, Next, Went, Ticks, NoTurns, AtResult, next_turn, begun, next, arrived, run_of, step, start_body, start}

assoc : (o : Outcome) (f k h : Run → Outcome) → ((r : Run) → k r ≡ go_on (f r) h) → go_on o k ≡ go_on (go_on o f) h
assoc (GoesOn run) f k h e = e run
assoc (Stops run) f k h e = refl

same_then : (o : Outcome) (f : Run → Outcome) (d : Action) (b : Words) → ((r : Run) → f r ≡ d r b) → go_on o f ≡ then_does o d b
same_then (GoesOn run) f d b e = e run
same_then (Stops run) f d b e = refl

assoc_then : (o : Outcome) (d : Action) (b : Words) (h : Run → Outcome) → go_on o (λ (r : Run). go_on (d r b) h) ≡ go_on (then_does o d b) h
assoc_then (GoesOn run) d b h = refl
assoc_then (Stops run) d b h = refl

module _ (g : Setting) where
  do-append : (xs ys : List Item) (run : Run) → items_do g (xs ++ ys) run ≡ go_on (items_do g xs run) (items_do g ys)
  do-append [] ys run = refl
  do-append (x ∷ xs) ys run = assoc (item_does g x run) (items_do g xs) (items_do g (xs ++ ys)) (items_do g ys) (λ r. do-append xs ys r)

  do-on : (b : Words) (ss : List Stmt) (run : Run) → items_do g (on b ss) run ≡ drives_all g ss run b
  do-on b [] run = refl
  do-on b (s ∷ ss) run = same_then (drives g s run b) (items_do g (on b ss)) (drives_all g ss) b (λ r. do-on b ss r)

  do-list : (b : Words) (ss : List Stmt) (rest : List Item) (run : Run) → items_do g (on b ss ++ rest) run ≡ go_on (drives_all g ss run b) (items_do g rest)
  do-list b ss rest run = do-append (on b ss) rest run ∙ ap (λ (o : Outcome). go_on o (items_do g rest)) (do-on b ss run)

  do-turns : (w : ℕ) (body : List Stmt) (b : Words) (k n : ℕ) (run : Run) → items_do g (turns_from w body b k n) run ≡ turns (drives_all g body) w k n run b
  do-turns w body b k zero run = refl
  do-turns w body b k (suc n) run =
      do-list (b ++ word_or w k ∷ []) body (turns_from w body b (k + 1) n) run
      ∙ same_then (drives_all g body run (b ++ word_or w k ∷ [])) (items_do g (turns_from w body b (k + 1) n)) (turns (drives_all g body) w (k + 1) n) b (λ r. do-turns w body b (k + 1) n r)

  -- where the next part leads, as an outcome
  abbrev next_outcome : Run → Next → Outcome
  next_outcome run (Went items run') = items_do g items run'
  next_outcome run (Ticks items run') = items_do g items run'
  next_outcome run NoTurns = Stops run
  next_outcome run AtResult = GoesOn run

  last_test : (t : Bool) (rest : List Item) (run : Run) → next_outcome run (if t then NoTurns else Went rest run) ≡ go_on (if t then Stops run else GoesOn run) (items_do g rest)
  last_test true rest run = refl
  last_test false rest run = refl

  -- one more turn
  turn : (e : Expr) (n : ℕ) (body : List Stmt) (b : Words) (rest : List Item) (run : Run) →
      items_do g (on b body ++ Again e n body b ∷ rest) run ≡ go_on (then_does (drives_all g body run b) (loops (λ r c. holds g r c e) (drives_all g body) n) b) (items_do g rest)
  turn e n body b rest run =
      do-list b body (Again e n body b ∷ rest) run
      ∙ assoc_then (drives_all g body run b) (loops (λ r c. holds g r c e) (drives_all g body) n) b (items_do g rest)

  some_test : (t : Bool) (e : Expr) (n : ℕ) (body : List Stmt) (b : Words) (rest : List Item) (run : Run) →
      next_outcome run (if t then Went (on b body ++ Again e n body b ∷ rest) run else Went rest run)
      ≡ go_on (if t then then_does (drives_all g body run b) (loops (λ r c. holds g r c e) (drives_all g body) n) b else GoesOn run) (items_do g rest)
  some_test true e n body b rest run = turn e n body b rest run
  some_test false e n body b rest run = refl

  do-loop : (e : Expr) (n : ℕ) (body : List Stmt) (b : Words) (rest : List Item) (run : Run) →
      next_outcome run (next_turn g e n body b rest run) ≡ go_on (loops (λ r c. holds g r c e) (drives_all g body) n run b) (items_do g rest)
  do-loop e zero body b rest run = last_test (holds g run b e) rest run
  do-loop e (suc n) body b rest run = some_test (holds g run b e) e n body b rest run

  chosen : (t : Bool) (as' bs : List Stmt) (b : Words) (rest : List Item) (run : Run) →
      items_do g (on b (if t then as' else bs) ++ rest) run ≡ go_on (if t then drives_all g as' run b else drives_all g bs run b) (items_do g rest)
  chosen true as' bs b rest run = do-list b as' rest run
  chosen false as' bs b rest run = do-list b bs rest run

  arm : (y : Stmt-F Stmt) (b : Words) (rest : List Item) (run : Run) →
      next_outcome run (begun g y b rest run) ≡ go_on (drive_level g (map-Stmt Stmt Action (drives g) y) run b) (items_do g rest)
  arm (Stmt-F.Assign s e) b rest run = refl
  arm (Stmt-F.Store s i e) b rest run = refl
  arm (Stmt-F.If c as' bs) b rest run = chosen (holds g run b c) as' bs b rest run
  arm (Stmt-F.For w n body) b rest run =
      do-append (turns_from w body b 0 n) rest run ∙ ap (λ (o : Outcome). go_on o (items_do g rest)) (do-turns w body b 0 n run)
  arm (Stmt-F.While c n body) b rest run = do-loop c n body b rest run
  arm (Stmt-F.SetInput k e) b rest run = refl
  arm Stmt-F.Tick b rest run = refl
  arm Stmt-F.CopyTick b rest run = refl
  arm (Stmt-F.Query s k as') b rest run = refl

  next-means : (items : List Item) (run : Run) → next_outcome run (next g items run) ≡ items_do g items run
  next-means [] run = refl
  next-means (Does s b ∷ rest) run =
      arm (out-Stmt s) b rest run
      ∙ ap (λ (d : Action). go_on (d run b) (items_do g rest)) (sym (fold_out-Stmt Action (drive_level g) s))
  next-means (Again e n body b ∷ rest) run = do-loop e n body b rest run

arrived-means : (lines : List Line) (d : DriverParts) (args : Words) (result : Option Expr) (run : Run) (n : Next) →
    means lines d (arrived (setting lines d.funs args) result run n) ≡ replied (setting lines d.funs args) result (next_outcome (setting lines d.funs args) run n)
arrived-means lines d args result run (Went items run') = refl
arrived-means lines d args result run (Ticks items run') = refl
arrived-means lines d args result run NoTurns = refl
arrived-means lines d args result run AtResult = refl

step-in : (lines : List Line) (d : DriverParts) (left : Left) (run : Run) → means lines d (step lines d (record { left = left; cells = run.cells; inputs = run.inputs; locals = run.locals })) ≡ means_in lines d left run
step-in lines d (Over r) run = refl
step-in lines d (Rest items args result) run =
    let g = setting lines d.funs args in
    arrived-means lines d args result run (next g items run) ∙ ap (replied g result) (next-means g items run)

-- a step keeps what the configuration means
pub step-means : (lines : List Line) (d : DriverParts) (c : Config Left) → means lines d (step lines d c) ≡ means lines d c
step-means lines d c = step-in lines d c.left (run_of c)

body-means : (lines : List Line) (d : DriverParts) (b : Option Body) (args cells : Words) → means lines d (start_body d b args cells) ≡ drive_body lines d b args cells
body-means lines d None args cells = refl
body-means lines d (Some b) args cells = ap (replied (setting lines d.funs args) b.result) (do-on (setting lines d.funs args) [] b.stmts (first_run d (Some b) cells))

-- a body means what its start means
pub start-means : (lines : List Line) (d : DriverParts) (op : ℕ) (args cells : Words) → means lines d (start d op args cells) ≡ drive lines d op args cells
start-means lines d op args cells = body-means lines d (slice_get d.bodies op) args cells
