-- The store's programs with a secret of one bit obey the rules of the language.
use Rattle.std.proofs.Common.{◌≡◌, ℕ, ◌&&◌, List, [], ◌∷◌, map, slice_get, Some, true, refl, ap, sym, ◌∙◌}
use Rattle.knox_words.specs.Bits.{Bits, bits}
use Rattle.knox_words.specs.Lists.{are_widths}
use Rattle.knox_words.specs.declared.op.Op2.TheVariants.{Eq}
use Rattle.knox_lang.specs.declared.expr.Slot.{Slot}
use Rattle.knox_lang.specs.declared.expr.Space.{Space}
use Rattle.knox_lang.specs.declared.expr.Space.TheVariants as space
use Rattle.knox_lang.specs.declared.expr.Expr.{Expr, fold-roll-Expr}
use Rattle.knox_lang.specs.declared.expr.Expr.TheOpen.{Expr-F}
use Rattle.knox_lang.specs.declared.expr.Expr.TheVariants as expr
use Rattle.knox_lang.specs.declared.expr.Stmt.{Stmt, fold-roll-Stmt}
use Rattle.knox_lang.specs.declared.expr.Stmt.TheOpen.{Stmt-F}
use Rattle.knox_lang.specs.declared.expr.Stmt.TheVariants as stmt
use Rattle.knox_lang.specs.declared.parts.Body.{Body}
use Rattle.knox_lang.specs.declared.parts.OpHead.{OpHead}
use Rattle.knox_lang.specs.Operation.{arg_widths}
use Rattle.knox_lang.specs.Typing.{Widths, Kind, Leave, Obeys, width_level, width_of, name_width, bin_width, is_width, takes, input_fits, query_fits, all_obey, widths_under, same_widths, stmt_fits_level, stmt_fits}
use Rattle.knox_lang.specs.WellFormed.{fields_fit, local_widths, no_leave, op_widths, op_fits, spec_fits, driver_leave, driver_fits, wire_widths, tick_leave, emulator_fits}
use Rattle.pin_store.specs.Store.{name, equal, is_command, asks, spec, set_head, check_head, set_body, check_body, driver, set_call, check_call, commanded, emulator, emu_stmts}

-- ---- widths of expressions

module _ (ws : Widths) where
  abbrev width : Expr → Kind
  width e = width_of [] 0 ws e

  abbrev width_at : Expr-F Kind → Kind
  width_at e = width_level [] 0 ws e

  width-lit : (w : Bits) → width (expr.Lit w) ≡ width_at (Expr-F.Lit w)
  width-lit w = ap width (sym (expr.rolls-Lit w)) ∙ fold-roll-Expr Kind width_at (Expr-F.Lit w)

  abbrev named : Space → ℕ → Kind
  named s n vs = name_width ws (record { space = s; number = n }) vs

  width-name : (s : Space) (n : ℕ) → width (name s n) ≡ named s n
  width-name s n =
      let slot : Slot = record { space = s; number = n } in
      ap width (sym (expr.rolls-Name slot)) ∙ fold-roll-Expr Kind width_at (Expr-F.Name slot)

  width-equal : (a b : Expr) (k l : Kind) → width a ≡ k → width b ≡ l → width (equal a b) ≡ (λ vs. bin_width Eq (k vs) (l vs))
  width-equal a b k l p q =
      ap width (sym (expr.rolls-Bin Eq a b)) ∙ (fold-roll-Expr Kind width_at (Expr-F.Bin Eq a b) ∙ (λ i vs. bin_width Eq (p i vs) (q i vs)))

  abbrev commanding : ℕ → Kind
  commanding n vs = bin_width Eq (named space.Input 0 vs) (width_at (Expr-F.Lit (bits 2 n)) vs)

  width-command : (n : ℕ) → width (is_command n) ≡ commanding n
  width-command n = width-equal (name space.Input 0) (expr.Lit (bits 2 n)) (named space.Input 0) (width_at (Expr-F.Lit (bits 2 n))) (width-name space.Input 0) (width-lit (bits 2 n))

  -- ---- statements

  module _ (leave : Leave) where
    abbrev obeys : Stmt → Obeys
    obeys s = stmt_fits [] ws leave s

    abbrev obeys_at : Stmt-F Obeys → Obeys
    obeys_at s = stmt_fits_level [] ws leave s

    obeys-assign : (s : Slot) (e : Expr) (k : Kind) → width e ≡ k → obeys (stmt.Assign s e) ≡ (λ vs. takes ws s (k vs))
    obeys-assign s e k p = ap obeys (sym (stmt.rolls-Assign s e)) ∙ (fold-roll-Stmt Obeys obeys_at (Stmt-F.Assign s e) ∙ (λ i vs. takes ws s (p i vs)))

    obeys-input : (n : ℕ) (e : Expr) (k : Kind) → width e ≡ k → obeys (stmt.SetInput n e) ≡ (λ vs. input_fits (slice_get leave.inputs n) (k vs))
    obeys-input n e k p = ap obeys (sym (stmt.rolls-SetInput n e)) ∙ (fold-roll-Stmt Obeys obeys_at (Stmt-F.SetInput n e) ∙ (λ i vs. input_fits (slice_get leave.inputs n) (p i vs)))

    obeys-tick : obeys stmt.Tick ≡ obeys_at Stmt-F.Tick
    obeys-tick = ap obeys (sym stmt.rolls-Tick) ∙ fold-roll-Stmt Obeys obeys_at Stmt-F.Tick

    abbrev asking : (local op : ℕ) → Obeys
    asking l o vs = query_fits ws (record { space = space.Local; number = l }) (slice_get leave.heads o) (widths_under (named space.Input 1 ∷ []) vs)

    obeys-query : (l o : ℕ) → obeys (asks l o) ≡ asking l o
    obeys-query l o =
        let slot : Slot = record { space = space.Local; number = l } in
        ap obeys (sym (stmt.rolls-Query slot o (name space.Input 1 ∷ [])))
        ∙ (fold-roll-Stmt Obeys obeys_at (Stmt-F.Query slot o (name space.Input 1 ∷ []))
        ∙ (λ i vs. query_fits ws slot (slice_get leave.heads o) (widths_under (width-name space.Input 1 i ∷ []) vs)))

    abbrev if_commanded : (command local op : ℕ) → Obeys
    if_commanded n l o vs = is_width (commanding n vs) 1 && (all_obey (asking l o ∷ []) vs && true)

    obeys-if : (n l o : ℕ) → obeys (stmt.If (is_command n) (asks l o ∷ []) []) ≡ if_commanded n l o
    obeys-if n l o =
        ap obeys (sym (stmt.rolls-If (is_command n) (asks l o ∷ []) []))
        ∙ (fold-roll-Stmt Obeys obeys_at (Stmt-F.If (is_command n) (asks l o ∷ []) [])
        ∙ (λ i vs. is_width (width-command n i vs) 1 && (all_obey (obeys-query l o i ∷ []) vs && true)))

    abbrev command_rules : ℕ → List Obeys
    command_rules n =
        (λ vs. input_fits (slice_get leave.inputs 0) (width_at (Expr-F.Lit (bits 2 n)) vs)) ∷ (λ vs. input_fits (slice_get leave.inputs 1) (named space.Arg 0 vs)) ∷ obeys_at Stmt-F.Tick ∷ []

    obeys-commanded : (n : ℕ) → map obeys (commanded n) ≡ command_rules n
    obeys-commanded n =
        let one = obeys-input 0 (expr.Lit (bits 2 n)) (width_at (Expr-F.Lit (bits 2 n))) (width-lit (bits 2 n)) in
        let two = obeys-input 1 (name space.Arg 0) (named space.Arg 0) (width-name space.Arg 0) in
        λ i. one i ∷ two i ∷ obeys-tick i ∷ []

-- ---- programs

module _ (own outs : List ℕ) (leave : Leave) (h : OpHead) (b : Body) where
  abbrev sees : Widths
  sees = op_widths own outs h b

  -- a body by what its statements and its result obey
  op-obeys : (e : Expr) (rules : List Obeys) (k : Kind) → b.result ≡ Some e → map (stmt_fits [] sees leave) b.stmts ≡ rules → width_of [] 0 sees e ≡ k →
      are_widths (arg_widths h) && ((are_widths (local_widths b) && all_obey rules []) && is_width (k []) h.result) ≡ true → op_fits [] own outs leave h b ≡ true
  op-obeys e rules k is p q whole = rw (is, p, q) whole

pub spec-fits : spec_fits (spec 1) ≡ true
spec-fits =
    let see = op_widths (1 ∷ []) [] (set_head 1) set_body in
    let look = op_widths (1 ∷ []) [] (check_head 1) check_body in
    let sets : map (stmt_fits [] see no_leave) set_body.stmts ≡ _ = (λ i. obeys-assign see no_leave (record { space = space.Own; number = 0 }) (name space.Arg 0) (named see space.Arg 0) (width-name see space.Arg 0) i ∷ []) in
    let set = op-obeys (1 ∷ []) [] no_leave (set_head 1) set_body (expr.Lit (bits 1 1)) _ _ refl sets (width-lit see (bits 1 1)) refl in
    let equals = width-equal look (name space.Arg 0) (name space.Own 0) _ _ (width-name look space.Arg 0) (width-name look space.Own 0) in
    let check = op-obeys (1 ∷ []) [] no_leave (check_head 1) check_body (equal (name space.Arg 0) (name space.Own 0)) [] _ refl refl equals refl in
    λ i. fields_fit (spec 1).fields (spec 1).init && (true && (set i && (check i && true)))

pub driver-fits : driver_fits (driver 1) ≡ true
driver-fits =
    let leave = driver_leave (driver 1) in
    let see = op_widths [] (1 ∷ []) (set_head 1) (set_call []) in
    let look = op_widths [] (1 ∷ []) (check_head 1) check_call in
    let set = op-obeys [] (1 ∷ []) leave (set_head 1) (set_call []) (expr.Lit (bits 1 1)) _ _ refl (obeys-commanded see leave 1) (width-lit see (bits 1 1)) refl in
    let check = op-obeys [] (1 ∷ []) leave (check_head 1) check_call (name space.Output 0) _ _ refl (obeys-commanded look leave 2) (width-name look space.Output 0) refl in
    λ i. true && (true && (set i && (check i && true)))

-- the emulator's outputs, and its tick
outputs-fit : same_widths (1 ∷ []) (widths_under (width_of [] 0 (wire_widths (emulator 1) []) (name space.Own 0) ∷ []) []) ≡ true
outputs-fit = ap (λ (k : Kind). same_widths (1 ∷ []) (widths_under (k ∷ []) [])) (width-name (wire_widths (emulator 1) []) space.Own 0)

tick-fits : all_obey (map (stmt_fits [] (wire_widths (emulator 1) (1 ∷ 1 ∷ [])) (tick_leave (emulator 1))) emu_stmts) [] ≡ true
tick-fits =
    let see = wire_widths (emulator 1) (1 ∷ 1 ∷ []) in
    let leave = tick_leave (emulator 1) in
    let shows = obeys-assign see leave (record { space = space.Own; number = 0 }) (name space.Local 1) (named see space.Local 1) (width-name see space.Local 1) in
    λ i. all_obey (obeys-if see leave 1 0 0 i ∷ obeys-if see leave 2 1 1 i ∷ shows i ∷ []) []

pub emulator-fits : emulator_fits (emulator 1) ≡ true
emulator-fits i = fields_fit (emulator 1).fields (emulator 1).init && (true && (true && (true && (true && (outputs-fit i && (true && tick-fits i))))))
