-- The bodies of the example, statement by statement: each is a plain function of the words, which computes.
use Rattle.std.proofs.Common.{◌≡◌, ℕ, ◌==◌, List, [], ◌∷◌, map, slice_set, Some, refl, ap, sym, ◌∙◌}
use Rattle.knox_words.specs.Bits.{Bits, bits}
use Rattle.knox_words.specs.Lists.{Words}
use Rattle.knox_words.specs.declared.op.Op1.TheVariants.{Not}
use Rattle.knox_theory.specs.Device.{Reply, Replied, OutOfTurns}
use Rattle.knox_lang.specs.declared.expr.Slot.{Slot}
use Rattle.knox_lang.specs.declared.expr.Space.TheVariants as space
use Rattle.knox_lang.specs.declared.expr.Expr.{Expr, fold-roll-Expr}
use Rattle.knox_lang.specs.declared.expr.Expr.TheOpen.{Expr-F}
use Rattle.knox_lang.specs.declared.expr.Expr.TheVariants as expr
use Rattle.knox_lang.specs.declared.expr.Stmt.{Stmt, fold-roll-Stmt}
use Rattle.knox_lang.specs.declared.expr.Stmt.TheOpen.{Stmt-F}
use Rattle.knox_lang.specs.declared.expr.Stmt.TheVariants as stmt
use Rattle.knox_lang.specs.Scope.{scope}
use Rattle.knox_lang.specs.Eval.{Value, level, eval}
use Rattle.driver_machine.specs.Sight.{Setting, setting, sight, assigned}
use Rattle.driver_machine.specs.Drive.{Outcome, GoesOn, Stops, Action, in_order, loops, drive_level, drives, drives_all, replied, first_run, drive}
use Rattle.driver_machine.specs.Slow.{store, name, driver, set_body, check_body}

-- an input is set to a value
abbrev sets : Setting → ℕ → Value → Action
sets g k v run bound = GoesOn (record run { inputs = slice_set run.inputs k (v (scope (sight g run) bound)) })

-- a word is assigned a value
abbrev assigns : Setting → Slot → Value → Action
assigns g s v run bound = GoesOn (assigned s 0 (v (scope (sight g run) bound)) run)

-- a loop with a value as its test
abbrev repeats : Setting → Value → (n : ℕ) → List Action → Action
repeats g v n as' run bound = loops (λ r b. (v (scope (sight g r) b)).value == 1) (in_order as') n run bound

-- a reply by a value
abbrev answers : Setting → Value → Outcome → Reply × Words
answers g v (GoesOn run) = (Replied (v (scope (sight g run) [])), run.cells)
answers g v (Stops run) = (OutOfTurns, run.cells)

module _ (g : Setting) where
  pub value-lit : (w : Bits) → eval g.calls (expr.Lit w) ≡ level g.calls (Expr-F.Lit w)
  value-lit w = ap (eval g.calls) (sym (expr.rolls-Lit w)) ∙ fold-roll-Expr Value (level g.calls) (Expr-F.Lit w)

  pub value-name : (s : Slot) → eval g.calls (expr.Name s) ≡ level g.calls (Expr-F.Name s)
  value-name s = ap (eval g.calls) (sym (expr.rolls-Name s)) ∙ fold-roll-Expr Value (level g.calls) (Expr-F.Name s)

  pub value-not : (a : Expr) (v : Value) → eval g.calls a ≡ v → eval g.calls (expr.Un Not a) ≡ level g.calls (Expr-F.Un Not v)
  value-not a v e =
      ap (eval g.calls) (sym (expr.rolls-Un Not a)) ∙ (fold-roll-Expr Value (level g.calls) (Expr-F.Un Not a) ∙ ap (λ (x : Value). level g.calls (Expr-F.Un Not x)) e)

  drives-set : (k : ℕ) (e : Expr) (v : Value) → eval g.calls e ≡ v → drives g (stmt.SetInput k e) ≡ sets g k v
  drives-set k e v is = ap (drives g) (sym (stmt.rolls-SetInput k e)) ∙ (fold-roll-Stmt Action (drive_level g) (Stmt-F.SetInput k e) ∙ ap (sets g k) is)

  drives-assign : (s : Slot) (e : Expr) (v : Value) → eval g.calls e ≡ v → drives g (stmt.Assign s e) ≡ assigns g s v
  drives-assign s e v is = ap (drives g) (sym (stmt.rolls-Assign s e)) ∙ (fold-roll-Stmt Action (drive_level g) (Stmt-F.Assign s e) ∙ ap (assigns g s) is)

  drives-tick : drives g stmt.Tick ≡ drive_level g Stmt-F.Tick
  drives-tick = ap (drives g) (sym stmt.rolls-Tick) ∙ fold-roll-Stmt Action (drive_level g) Stmt-F.Tick

  drives-while : (c : Expr) (n : ℕ) (body : List Stmt) (v : Value) (as' : List Action) → eval g.calls c ≡ v → map (drives g) body ≡ as' → drives g (stmt.While c n body) ≡ repeats g v n as'
  drives-while c n body v as' is e =
      ap (drives g) (sym (stmt.rolls-While c n body))
      ∙ (fold-roll-Stmt Action (drive_level g) (Stmt-F.While c n body) ∙ (λ i. repeats g (is i) n (e i)))

  -- the values that the bodies name
  abbrev pub constant : Bits → Value
  constant w = level g.calls (Expr-F.Lit w)

  abbrev pub argument : Value
  argument = level g.calls (Expr-F.Name (record { space = space.Arg; number = 0 }))

  abbrev pub shown : ℕ → Value
  shown k = level g.calls (Expr-F.Name (record { space = space.Output; number = k }))

  abbrev kept : Value
  kept = level g.calls (Expr-F.Name (record { space = space.Local; number = 0 }))

  abbrev pub busy : Value
  busy = level g.calls (Expr-F.Un Not (shown 1))

  abbrev ticks : Action
  ticks = drive_level g Stmt-F.Tick

  -- the actions of the bodies
  abbrev set_actions : ℕ → List Action
  set_actions n = sets g 0 (constant (bits 2 1)) ∷ sets g 1 argument ∷ ticks ∷ sets g 0 (constant (bits 2 0)) ∷ repeats g busy n (ticks ∷ []) ∷ []

  abbrev check_actions : ℕ → List Action
  check_actions n =
      sets g 0 (constant (bits 2 2)) ∷ sets g 1 argument ∷ ticks ∷ assigns g (record { space = space.Local; number = 0 }) (shown 0) ∷ sets g 0 (constant (bits 2 0)) ∷ repeats g busy n (ticks ∷ []) ∷ []

  waiting : (n : ℕ) → drives g (stmt.While (expr.Un Not (name space.Output 1)) n (stmt.Tick ∷ [])) ≡ repeats g busy n (ticks ∷ [])
  waiting n =
      drives-while (expr.Un Not (name space.Output 1)) n (stmt.Tick ∷ []) busy (ticks ∷ []) (value-not (name space.Output 1) (shown 1) (value-name (record { space = space.Output; number = 1 }))) (λ i. drives-tick i ∷ [])

  set-actions : (n : ℕ) → map (drives g) (set_body n).stmts ≡ set_actions n
  set-actions n =
      let one = drives-set 0 (expr.Lit (bits 2 1)) (constant (bits 2 1)) (value-lit (bits 2 1)) in
      let two = drives-set 1 (name space.Arg 0) argument (value-name (record { space = space.Arg; number = 0 })) in
      let four = drives-set 0 (expr.Lit (bits 2 0)) (constant (bits 2 0)) (value-lit (bits 2 0)) in
      λ i. one i ∷ two i ∷ drives-tick i ∷ four i ∷ waiting n i ∷ []

  check-actions : (n : ℕ) → map (drives g) (check_body n).stmts ≡ check_actions n
  check-actions n =
      let one = drives-set 0 (expr.Lit (bits 2 2)) (constant (bits 2 2)) (value-lit (bits 2 2)) in
      let two = drives-set 1 (name space.Arg 0) argument (value-name (record { space = space.Arg; number = 0 })) in
      let four = drives-assign (record { space = space.Local; number = 0 }) (name space.Output 0) (shown 0) (value-name (record { space = space.Output; number = 0 })) in
      let five = drives-set 0 (expr.Lit (bits 2 0)) (constant (bits 2 0)) (value-lit (bits 2 0)) in
      λ i. one i ∷ two i ∷ drives-tick i ∷ four i ∷ five i ∷ waiting n i ∷ []

  answers-is : (e : Expr) (v : Value) → eval g.calls e ≡ v → (o : Outcome) → replied g (Some e) o ≡ answers g v o
  answers-is e v is (GoesOn run) = ap (λ (x : Value). (Replied (x (scope (sight g run) [])), run.cells)) is
  answers-is e v is (Stops run) = refl

abbrev of_args : Words → Setting
of_args args = setting store [] args

-- what is replied, computed
pub set-replies : (n : ℕ) (args cells : Words) (whole : Reply × Words) →
    answers (of_args args) (constant (of_args args) (bits 1 1)) (in_order (set_actions (of_args args) n) (first_run (driver n) (Some (set_body n)) cells) []) ≡ whole → drive store (driver n) 0 args cells ≡ whole
set-replies n args cells whole e =
    let g = of_args args in
    answers-is g (expr.Lit (bits 1 1)) (constant g (bits 1 1)) (value-lit g (bits 1 1)) (drives_all g (set_body n).stmts (first_run (driver n) (Some (set_body n)) cells) [])
    ∙ (ap (λ (as' : List Action). answers g (constant g (bits 1 1)) (in_order as' (first_run (driver n) (Some (set_body n)) cells) [])) (set-actions g n) ∙ e)

pub check-replies : (n : ℕ) (args cells : Words) (whole : Reply × Words) →
    answers (of_args args) (kept (of_args args)) (in_order (check_actions (of_args args) n) (first_run (driver n) (Some (check_body n)) cells) []) ≡ whole → drive store (driver n) 1 args cells ≡ whole
check-replies n args cells whole e =
    let g = of_args args in
    answers-is g (name space.Local 0) (kept g) (value-name g (record { space = space.Local; number = 0 })) (drives_all g (check_body n).stmts (first_run (driver n) (Some (check_body n)) cells) [])
    ∙ (ap (λ (as' : List Action). answers g (kept g) (in_order as' (first_run (driver n) (Some (check_body n)) cells) [])) (check-actions g n) ∙ e)
