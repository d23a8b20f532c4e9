-- A design with this driver obeys the laws of drivers.
use Rattle.std.proofs.Common.{◌≡◌, ℕ, zero, suc, ◌==◌, ◌&&◌, List, [], ◌∷◌, length, slice_get, slice_index, slice_set, Option, Some, None, Bool, true, false, if◌then◌else◌, refl, sym, ◌∙◌, ap, subst}
use Rattle.std.specs.Cmp.Lexicographic.{pointwise, same_text}
use Rattle.knox_words.specs.Bits.{Bits}
use Rattle.knox_words.specs.Lists.{Words, fit, fits, are_widths}
use Rattle.knox_words.proofs.Lists.{fits-width, fit-slice_set}
use Rattle.knox_theory.specs.Design.{Config, Design}
use Rattle.knox_theory.specs.Lawful.{IsDriver}
use Rattle.knox_circuit.specs.Line.{Line}
use Rattle.knox_circuit.specs.Cells.{cells_of, state_widths}
use Rattle.knox_circuit.specs.Ports.{input_widths, output_widths}
use Rattle.knox_circuit.specs.Rom.{rom_words, fits_state}
use Rattle.knox_lang.specs.declared.parts.OpHead.{OpHead}
use Rattle.knox_lang.specs.declared.parts.Body.{Body}
use Rattle.knox_lang.specs.declared.parts.DriverParts.{DriverParts}
use Rattle.knox_lang.specs.Fitting.{fits_driver}
use Rattle.knox_lang.specs.Operation.{arg_widths}
use Rattle.knox_lang.specs.Typing.{funs_fit, FunsGive, stmts_fit}
use Rattle.knox_lang.specs.WellFormed.{word_widths, local_widths, driver_leave, driver_fits, ops_fit, statements_fit, result_fits}
use Rattle.knox_lang.proofs.WidthLemmas.{and_first, and_second, funs-give}
use Rattle.knox_lang.proofs.OperationLemmas.{start-fit, ops_fit-at}
use Rattle.driver_machine.specs.Drive.{first_run}
use Rattle.driver_machine.specs.Left.{Left, on, run_of, step, step_ticks, start, start_body}
use Rattle.driver_machine.specs.Moves.{parts_left, until_tick, move}
use Rattle.driver_machine.specs.Fits.{seen_widths, items_fit, run_fits, left_fits, fits_body, fits_config}
use Rattle.driver_machine.specs.Means.{means}
use Rattle.driver_machine.specs.Lawful.{HasOp, HasDriver}
use Rattle.driver_machine.proofs.Meaning.{start-means}
use Rattle.driver_machine.proofs.Moving.{ended-move, ended-tests, finish-over, finish-means}
use Rattle.device_design.proofs.FitsLemmas.{KeepsStates, fits_state-set, run_fits-parts, run_fits-all, body-step}
use Rattle.driver_machine.proofs.Items.{both, on-fits}

widths-of : (ws : List ℕ) (as' : Words) → fit ws as' ≡ true → word_widths as' ≡ ws
widths-of [] [] h = refl
widths-of [] (a ∷ as') h = cc
widths-of (w ∷ ws) [] h = cc
widths-of (w ∷ ws) (a ∷ as') h =
    let first = fits-width w a (and_first (fits w a) (fit ws as') h) in
    let more = widths-of ws as' (and_second (fits w a) (fit ws as') h) in
    λ i. first i ∷ more i

-- what a driver of a circuit knows
pub record Known (lines : List Line) (d : DriverParts) : Type 0 where
  pub give : FunsGive d.funs (length d.funs)
  pub keeps : KeepsStates lines d.outs
  pub ins : word_widths d.idle ≡ input_widths lines
  pub idle : fit (input_widths lines) d.idle ≡ true
  pub bodies : ops_fit d.funs [] d.outs (driver_leave d) d.ops d.bodies ≡ true

pub known : (lines : List Line) (d : DriverParts) → driver_fits d ≡ true → fits_driver (input_widths lines) (output_widths lines) (length (cells_of lines)) d ≡ true → KeepsStates lines (output_widths lines) → Known lines d
known lines d ok fit_it keeps =
    let idle_fit = fit (input_widths lines) d.idle in
    let outs_fit = pointwise (λ v w. v == w) (output_widths lines) d.outs in
    let keep_fit = length d.keep == length (cells_of lines) in
    let funs = funs_fit d.funs (length d.funs) in
    let bodies = ops_fit d.funs [] d.outs (driver_leave d) d.ops d.bodies in
    let idle = and_first idle_fit (outs_fit && keep_fit) fit_it in
    let outs : output_widths lines ≡ d.outs = same_text (output_widths lines) d.outs (sym (and_first outs_fit keep_fit (and_second idle_fit (outs_fit && keep_fit) fit_it))) in
    let rest = and_second (are_widths d.outs) (funs && bodies) ok in
    record {
      give = funs-give d.funs (length d.funs) (and_first funs bodies rest);
      keeps = subst (λ (os : List ℕ). KeepsStates lines os) outs keeps;
      ins = widths-of (input_widths lines) d.idle idle;
      idle = idle;
      bodies = and_second funs bodies rest;
    }

module _ (lines : List Line) (d : DriverParts) where
  options-word : (o : Option OpHead) (p : Option Body) (c : Config Left) (j : ℕ) (w : Bits) → slice_get (rom_words lines) j ≡ Some None → fits (slice_index (state_widths (cells_of lines)) j) w ≡ true → fits_body lines d o p c ≡ true →
      fits_body lines d o p (record c { cells = slice_set c.cells j w }) ≡ true
  options-word None p c j w at f e = cc
  options-word (Some h) None c j w at f e = cc
  options-word (Some h) (Some b) c j w at f e =
      let r = run_fits-parts lines b (run_of c) (and_first (run_fits lines b (run_of c)) (left_fits d h b c.left) e) in
      let c' : Config Left = record c { cells = slice_set c.cells j w } in
      both (run_fits lines b (run_of c')) (left_fits d h b c.left)
      (run_fits-all lines b (run_of c') (record { cells = fits_state-set lines c.cells j w at f r.cells; inputs = r.inputs; locals = r.locals }))
      (and_second (run_fits lines b (run_of c)) (left_fits d h b c.left) e)

  options-local : (o : Option OpHead) (p : Option Body) (c : Config Left) (b : Body) (j : ℕ) (w : Bits) → p ≡ Some b → fits (slice_index (local_widths b) j) w ≡ true → fits_body lines d o p c ≡ true →
      fits_body lines d o p (record c { locals = slice_set c.locals j w }) ≡ true
  options-local None p c b j w is f e = cc
  options-local (Some h) None c b j w is f e = cc
  options-local (Some h) (Some b') c b j w is f e =
      let same : b' ≡ b = cc in
      let f' : fits (slice_index (local_widths b') j) w ≡ true = subst (λ (x : Body). fits (slice_index (local_widths x) j) w ≡ true) (sym same) f in
      let r = run_fits-parts lines b' (run_of c) (and_first (run_fits lines b' (run_of c)) (left_fits d h b' c.left) e) in
      let c' : Config Left = record c { locals = slice_set c.locals j w } in
      both (run_fits lines b' (run_of c')) (left_fits d h b' c.left)
      (run_fits-all lines b' (run_of c') (record { cells = r.cells; inputs = r.inputs; locals = fit-slice_set (local_widths b') c.locals j w f' r.locals }))
      (and_second (run_fits lines b' (run_of c)) (left_fits d h b' c.left) e)

  pub word-fits : (op : ℕ) (c : Config Left) (j : ℕ) (w : Bits) → slice_get (rom_words lines) j ≡ Some None → fits (slice_index (state_widths (cells_of lines)) j) w ≡ true → fits_config lines d op c ≡ true →
      fits_config lines d op (record c { cells = slice_set c.cells j w }) ≡ true
  word-fits op c j w at f e = options-word (slice_get d.ops op) (slice_get d.bodies op) c j w at f e

  pub local-fits : (op : ℕ) (c : Config Left) (b : Body) (j : ℕ) (w : Bits) → slice_get d.bodies op ≡ Some b → fits (slice_index (local_widths b) j) w ≡ true → fits_config lines d op c ≡ true →
      fits_config lines d op (record c { locals = slice_set c.locals j w }) ≡ true
  local-fits op c b j w is f e = options-local (slice_get d.ops op) (slice_get d.bodies op) c b j w is f e

module _ (lines : List Line) (d : DriverParts) (k : Known lines d) where
  options-step : (o : Option OpHead) (p : Option Body) (c : Config Left) → fits_body lines d o p c ≡ true → fits_body lines d o p (step lines d c) ≡ true
  options-step None p c e = cc
  options-step (Some h) None c e = cc
  options-step (Some h) (Some b) c e = body-step lines d h b k.give k.keeps k.ins c e

  pub step-fits : (op : ℕ) (c : Config Left) → fits_config lines d op c ≡ true → fits_config lines d op (step lines d c) ≡ true
  step-fits op c e = options-step (slice_get d.ops op) (slice_get d.bodies op) c e

  either-fits : (t : Bool) (op : ℕ) (a b : Config Left) → fits_config lines d op a ≡ true → fits_config lines d op b ≡ true → fits_config lines d op (if t then a else b) ≡ true
  either-fits true op a b e f = e
  either-fits false op a b e f = f

  until-fits : (op n : ℕ) (c : Config Left) → fits_config lines d op c ≡ true → fits_config lines d op (until_tick lines d n c) ≡ true
  until-fits op zero c e = e
  until-fits op (suc n) c e =
      let one = step-fits op c e in
      either-fits (step_ticks lines d c) op (step lines d c) (until_tick lines d n (step lines d c)) one (until-fits op n (step lines d c) one)

  pub move-fits : (op : ℕ) (c : Config Left) → fits_config lines d op c ≡ true → fits_config lines d op (move lines d c) ≡ true
  move-fits op c e = until-fits op (parts_left c.left) c e

  options-cells : (o : Option OpHead) (p : Option Body) (c : Config Left) → fits_body lines d o p c ≡ true → fits_state lines c.cells ≡ true
  options-cells None p c e = cc
  options-cells (Some h) None c e = cc
  options-cells (Some h) (Some b) c e = (run_fits-parts lines b (run_of c) (and_first (run_fits lines b (run_of c)) (left_fits d h b c.left) e)).cells

  pub cells-fit : (op : ℕ) (c : Config Left) → fits_config lines d op c ≡ true → fits_state lines c.cells ≡ true
  cells-fit op c e = options-cells (slice_get d.ops op) (slice_get d.bodies op) c e

  body-starts : (h : OpHead) (b : Body) (args cells : Words) → are_widths (arg_widths h) && (statements_fit d.funs (seen_widths d h b) (driver_leave d) b && result_fits d.funs (seen_widths d h b) h.result b.result) ≡ true →
      fit (arg_widths h) args ≡ true → fits_state lines cells ≡ true → fits_body lines d (Some h) (Some b) (start_body d (Some b) args cells) ≡ true
  body-starts h b args cells ok fa fc =
      let ws = seen_widths d h b in
      let stmts = statements_fit d.funs ws (driver_leave d) b in
      let result = result_fits d.funs ws h.result b.result in
      let rest = and_second (are_widths (arg_widths h)) (stmts && result) ok in
      let body = and_first stmts result rest in
      let locals = start-fit b.locals (and_first (are_widths (local_widths b)) (stmts_fit d.funs ws (driver_leave d) b.stmts []) body) in
      let items = on-fits d ws [] b.stmts refl (and_second (are_widths (local_widths b)) (stmts_fit d.funs ws (driver_leave d) b.stmts []) body) in
      let more = result && items_fit d ws (on [] b.stmts) in
      both (run_fits lines b (first_run d (Some b) cells)) (fit (arg_widths h) args && more)
      (run_fits-all lines b (first_run d (Some b) cells) (record { cells = fc; inputs = k.idle; locals = locals }))
      (both (fit (arg_widths h) args) more fa (both result (items_fit d ws (on [] b.stmts)) (and_second stmts result rest) items))

  pub start-fits : (op : ℕ) (args cells : Words) (widths : List ℕ) → HasOp d op widths → fit widths args ≡ true → fits_state lines cells ≡ true → fits_config lines d op (start d op args cells) ≡ true
  start-fits op args cells widths has fa fc =
      let r = ops_fit-at d.funs [] d.outs (driver_leave d) d.ops d.bodies op has.head k.bodies has.at in
      let fa' : fit (arg_widths has.head) args ≡ true = subst (λ (ws : List ℕ). fit ws args ≡ true) (sym has.widths) fa in
      subst (λ (o : Option OpHead). fits_body lines d o (slice_get d.bodies op) (start_body d (slice_get d.bodies op) args cells) ≡ true) (sym has.at)
      (subst (λ (p : Option Body). fits_body lines d (Some has.head) p (start_body d p args cells) ≡ true) (sym r.at) (body-starts has.head r.body args cells r.obeys fa' fc))

  -- the laws
  pub is-driver : (g : Design Left) → HasDriver lines d g → IsDriver g
  is-driver g has = record {
    start = λ o args cells lt fa fc.
        subst (λ (c : Config Left). g.fits_config o c ≡ true) (sym (has.start o args cells))
        (has.fits_config o (start d o args cells) ∙ start-fits o args cells (g.device.args o) (has.ops o lt) fa (has.cells cells fc));
    move = λ o c e.
        subst (λ (x : Config Left). g.fits_config o x ≡ true) (sym (has.move c))
        (has.fits_config o (move lines d c) ∙ move-fits o c (sym (has.fits_config o c) ∙ e));
    config_cells = λ o c e. has.of_cells c.cells (cells-fit o c (sym (has.fits_config o c) ∙ e));
    ended_move = λ o c e f. has.move c ∙ ended-move lines d c (sym (has.ended c) ∙ f);
    ended_tests = λ o c e f. has.move_tests c ∙ ended-tests lines d c (sym (has.ended c) ∙ f);
    ticks_left = λ o c e. has.ended _ ∙ finish-over lines d g has c;
    drive = λ o args cells lt fa fc.
        has.drive o args cells
        ∙ (sym (start-means lines d o args cells)
        ∙ (ap (means lines d) (sym (has.start o args cells)) ∙ sym (finish-means lines d g has (g.start o args cells))));
  }
