-- A driver that has done the next part of its body is where a step leads.
use Rattle.std.proofs.Common.{◌≡◌, List, Option, Some, None, slice_get, refl, sym, ◌∙◌, ap, subst}
use Rattle.knox_words.specs.Bits.{Bits}
use Rattle.knox_words.specs.Lists.{Words}
use Rattle.knox_circuit.specs.Line.{Line}
use Rattle.knox_lang.specs.declared.expr.Expr.{Expr}
use Rattle.knox_lang.specs.declared.expr.Stmt.{Stmt}
use Rattle.knox_lang.specs.declared.parts.Fun.{Fun}
use Rattle.knox_lang.specs.declared.parts.DriverParts.{DriverParts}
use Rattle.driver_machine.specs.declared.position.Position.{Position}
use Rattle.driver_machine.specs.declared.part.Part.{Part}
use Rattle.driver_machine.specs.declared.part.Part.TheVariants as part
use Rattle.driver_machine.specs.declared.reply.Reply.{Reply}
use Rattle.driver_machine.specs.declared.reply.Reply.TheVariants as reply
use Rattle.driver_machine.specs.declared.reply.Moved.{Moved}
use Rattle.driver_machine.specs.declared.reply.Moved.TheVariants as moved
use Rattle.driver_machine.specs.declared.config.DriverConfig.{DriverConfig}
use Rattle.driver_machine.specs.Sight.{Run, Setting, setting, result_value}
use Rattle.driver_machine.specs.Drive.{stmts_of, result_of}
use Rattle.driver_machine.specs.Left.{Left, Rest, Next, Went, Ticks, NoTurns, AtResult, next, config, arrived, step, step_tests, next_tests}
use Rattle.driver_machine.specs.Place.{items_left}
use Rattle.driver_machine.specs.Begins.{Doing, doing, Goes, Moves, run_in}
use Rattle.driver_machine.specs.Configs.{config_of, left_of, body_of, moved_next, moved_of}

ran-next : (body : List Stmt) (x : Doing) (n : Next) → Goes body x n part.Ran → n ≡ Went (items_left body x.to) x.after
ran-next body x (Went items run) p = λ i. Went (sym p.1 i) (sym p.2 i)
ran-next body x (Ticks items run) p = let e = p.0 in cc
ran-next body x NoTurns p = let e = p.0 in cc
ran-next body x AtResult p = let e = p.0 in cc

ticked-next : (body : List Stmt) (x : Doing) (n : Next) → Goes body x n part.Ticked → n ≡ Ticks (items_left body x.to) x.after
ticked-next body x (Went items run) p = let e = p.0 in cc
ticked-next body x (Ticks items run) p = λ i. Ticks (sym p.1 i) (sym p.2 i)
ticked-next body x NoTurns p = let e = p.0 in cc
ticked-next body x AtResult p = let e = p.0 in cc

stuck-next : (body : List Stmt) (x : Doing) (n : Next) → Goes body x n part.NoTurns → (n ≡ NoTurns) × (x.after ≡ x.words)
stuck-next body x (Went items run) p = let e = p.0 in cc
stuck-next body x (Ticks items run) p = let e = p.0 in cc
stuck-next body x NoTurns p = (refl, p.1)
stuck-next body x AtResult p = let e = p.0 in cc

result-next : (body : List Stmt) (x : Doing) (n : Next) → Goes body x n part.AtResult → (n ≡ AtResult) × (x.after ≡ x.words)
result-next body x (Went items run) p = let e = p.0 in cc
result-next body x (Ticks items run) p = let e = p.0 in cc
result-next body x NoTurns p = let e = p.0 in cc
result-next body x AtResult p = (refl, p.1)

-- the same part, by equal names
pub moves-as : (lines : List Line) (args : Words) (run : Run) (to : Position) (after : Run) (funs funs' : List Fun) (body body' : List Stmt) (p p' : Position) (r r' : Part) →
    funs ≡ funs' → body ≡ body' → p ≡ p' → r ≡ r' → Moves (setting lines funs args) body (doing p run to after) r → Moves (setting lines funs' args) body' (doing p' run to after) r'
moves-as lines args run to after funs funs' body body' p p' r r' a b c e h =
    subst (λ (x : Part). Moves (setting lines funs' args) body' (doing p' run to after) x) e
    (subst (λ (x : Position). Moves (setting lines funs' args) body' (doing x run to after) r) c
    (subst (λ (x : List Stmt). Moves (setting lines funs' args) x (doing p run to after) r) b
    (subst (λ (x : List Fun). Moves (setting lines x args) body (doing p run to after) r) a h)))

-- the place that a step leads to, and what it answers
abbrev pub Steps : List Line → DriverParts → DriverConfig → DriverConfig → Moved → Type 0
Steps lines d m m' r = (config_of d m' ≡ step lines d (config_of d m)) × (r ≡ moved_of lines d (config_of d m))

module _ (lines : List Line) (d : DriverParts) (m m' : DriverConfig) (open_ : m.reply ≡ None) where
  abbrev g : Setting
  g = setting lines d.funs m.scene.args

  abbrev stmts : List Stmt
  stmts = stmts_of (body_of d m)

  abbrev end : Option Expr
  end = result_of (body_of d m)

  abbrev before : Run
  before = run_in m.scene

  abbrev x : Doing
  x = doing m.position before m'.position (run_in m'.scene)

  abbrev the_next : Next
  the_next = next g (items_left stmts m.position) before

  -- a step and its answer by the next part
  step-is : (n : Next) → the_next ≡ n → step lines d (config_of d m) ≡ arrived g end before n
  step-is n e = ap (λ (o : Option Reply). step lines d (config (left_of (body_of d m) m o) before)) open_ ∙ ap (arrived g end before) e

  moved-is : (n : Next) → the_next ≡ n → moved_of lines d (config_of d m) ≡ moved_next g end before n
  moved-is n e = ap (λ (o : Option Reply). moved_of lines d (config (left_of (body_of d m) m o) before)) open_ ∙ ap (moved_next g end before) e

  -- what is left where the body has not ended
  left-is : m'.reply ≡ None → m'.op ≡ m.op → m'.scene.args ≡ m.scene.args → left_of (body_of d m') m' m'.reply ≡ Rest (items_left stmts m'.position) m.scene.args end
  left-is reply_is op_is args_is =
      ap (left_of (body_of d m') m') reply_is
      ∙ (ap (λ k. Rest (items_left (stmts_of (slice_get d.bodies k)) m'.position) m'.scene.args (result_of (slice_get d.bodies k))) op_is
      ∙ ap (λ (a : Words). Rest (items_left stmts m'.position) a end) args_is)

  pub ran-steps : m'.reply ≡ None → m'.op ≡ m.op → m'.scene.args ≡ m.scene.args → Moves g stmts x part.Ran → Steps lines d m m' moved.Ran
  ran-steps reply_is op_is args_is p =
      let e = ran-next stmts x the_next p in
      let n = Went (items_left stmts m'.position) (run_in m'.scene) in
      (ap (λ (l : Left). config l (run_in m'.scene)) (left-is reply_is op_is args_is) ∙ sym (step-is n e), sym (moved-is n e))

  pub ticked-steps : m'.reply ≡ None → m'.op ≡ m.op → m'.scene.args ≡ m.scene.args → Moves g stmts x part.Ticked → Steps lines d m m' moved.Ticked
  ticked-steps reply_is op_is args_is p =
      let e = ticked-next stmts x the_next p in
      let n = Ticks (items_left stmts m'.position) (run_in m'.scene) in
      (ap (λ (l : Left). config l (run_in m'.scene)) (left-is reply_is op_is args_is) ∙ sym (step-is n e), sym (moved-is n e))

  -- a body that has ended is over, wherever the position stands
  over-is : (r : Reply) (l : Left) → m'.reply ≡ Some r → left_of (body_of d m') m' (Some r) ≡ l → run_in m'.scene ≡ before → config_of d m' ≡ config l before
  over-is r l reply_is e run_is =
      ap (λ (o : Option Reply). config (left_of (body_of d m') m' o) (run_in m'.scene)) reply_is
      ∙ (ap (λ (left : Left). config left (run_in m'.scene)) e ∙ ap (config l) run_is)

module _ (lines : List Line) (d : DriverParts) (m m' : DriverConfig) (open_ : m.reply ≡ None) (to : Position) where
  pub stuck-steps : m'.reply ≡ Some reply.Stuck → Moves (setting lines d.funs m.scene.args) (stmts_of (body_of d m)) (doing m.position (run_in m.scene) to (run_in m'.scene)) part.NoTurns →
      Steps lines d m m' (moved.Done reply.Stuck)
  stuck-steps reply_is p =
      let s = stuck-next (stmts_of (body_of d m)) (doing m.position (run_in m.scene) to (run_in m'.scene)) (next (setting lines d.funs m.scene.args) (items_left (stmts_of (body_of d m)) m.position) (run_in m.scene)) p in
      (over-is lines d m m' open_ reply.Stuck _ reply_is refl s.1 ∙ sym (step-is lines d m m' open_ NoTurns s.0), sym (moved-is lines d m m' open_ NoTurns s.0))

  pub result-steps : (w : Bits) → m'.reply ≡ Some (reply.Value w) → m'.scene.args ≡ m.scene.args → w ≡ result_value (setting lines d.funs m'.scene.args) (run_in m'.scene) (result_of (body_of d m)) →
      Moves (setting lines d.funs m.scene.args) (stmts_of (body_of d m)) (doing m.position (run_in m.scene) to (run_in m'.scene)) part.AtResult →
      Steps lines d m m' (moved.Done (reply.Value w))
  result-steps w reply_is args_is w_is p =
      let s = result-next (stmts_of (body_of d m)) (doing m.position (run_in m.scene) to (run_in m'.scene)) (next (setting lines d.funs m.scene.args) (items_left (stmts_of (body_of d m)) m.position) (run_in m.scene)) p in
      let end = result_of (body_of d m) in
      let is : w ≡ result_value (setting lines d.funs m.scene.args) (run_in m.scene) end =
      w_is ∙ (ap (λ (a : Words). result_value (setting lines d.funs a) (run_in m'.scene) end) args_is ∙ ap (λ (r : Run). result_value (setting lines d.funs m.scene.args) r end) s.1) in (
        over-is lines d m m' open_ (reply.Value w) _ reply_is refl s.1
            ∙ (ap (λ (v : Bits). config (left_of (body_of d m) m (Some (reply.Value v))) (run_in m.scene)) is
            ∙ sym (step-is lines d m m' open_ AtResult s.0)),
        ap (λ (v : Bits). moved.Done (reply.Value v)) is ∙ sym (moved-is lines d m m' open_ AtResult s.0),
      )

-- the tests of a step of a body that has not ended
pub open-tests : (lines : List Line) (d : DriverParts) (m : DriverConfig) → m.reply ≡ None →
    step_tests lines d (config_of d m) ≡ next_tests (setting lines d.funs m.scene.args) (items_left (stmts_of (body_of d m)) m.position) (run_in m.scene)
open-tests lines d m e = ap (λ (o : Option Reply). step_tests lines d (config (left_of (body_of d m) m o) (run_in m.scene))) e
