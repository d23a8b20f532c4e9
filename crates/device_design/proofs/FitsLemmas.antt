-- A step keeps what is left in order: it obeys the rules, and all words have their widths.
use Rattle.std.proofs.Common.{◌≡◌, ℕ, zero, suc, ◌+◌, ◌&&◌, nat_le, List, [], ◌∷◌, ◌++◌, map, length, slice_get, slice_index, slice_set, eqb-true, Option, Some, None, Bool, true, false, if◌then◌else◌, refl, sym, ◌∙◌, ap, subst, arith}
use Rattle.knox_words.specs.Bits.{Bits}
use Rattle.knox_words.specs.Lists.{Words, fit, fits}
use Rattle.knox_words.proofs.Lists.{fit-slice_set}
use Rattle.knox_theory.specs.Design.{Config}
use Rattle.knox_circuit.specs.Line.{Line}
use Rattle.knox_circuit.specs.Circuit.{output_words, state_after_tick}
use Rattle.knox_circuit.specs.Cells.{cells_of, state_widths, words_in}
use Rattle.knox_circuit.specs.Ports.{input_widths, output_widths}
use Rattle.knox_circuit.specs.Rom.{rom_words, is_known, agree, fits_state}
use Rattle.knox_lang.specs.declared.expr.Space.{Space}
use Rattle.knox_lang.specs.declared.expr.Space.TheVariants.{Own, Arg, Local, Bound, Input, Output, Noise, Spec, Device, Emu, Copy, Taken}
use Rattle.knox_lang.specs.declared.expr.Slot.{Slot}
use Rattle.knox_lang.specs.declared.expr.Expr.{Expr}
use Rattle.knox_lang.specs.declared.expr.Stmt.{Stmt, out-Stmt, fold_out-Stmt, map-Stmt}
use Rattle.knox_lang.specs.declared.expr.Stmt.TheOpen.{Stmt-F}
use Rattle.knox_lang.specs.declared.parts.OpHead.{OpHead}
use Rattle.knox_lang.specs.declared.parts.Body.{Body}
use Rattle.knox_lang.specs.declared.parts.DriverParts.{DriverParts}
use Rattle.knox_lang.specs.declared.scope.Spaces.{Spaces}
use Rattle.knox_lang.specs.Scope.{put_in, scope}
use Rattle.knox_lang.specs.Exec.{Does, does, stmt_level}
use Rattle.knox_lang.specs.Operation.{no_queries, arg_widths}
use Rattle.knox_lang.specs.Typing.{Widths, Obeys, width_of, is_width, turns_fit, input_fits, obeys_under, stmt_fits_level, stmts_fit, SpacesFit, FunsGive, AnswersFit}
use Rattle.knox_lang.specs.WellFormed.{word_widths, local_widths, driver_leave, result_fits}
use Rattle.knox_lang.proofs.WidthLemmas.{and_first, and_second, is_width-true, get-some, turns_fit-true, eval-has}
use Rattle.knox_lang.proofs.StmtLemmas.{stmts-keep}
use Rattle.driver_machine.specs.Sight.{Run, Setting, setting, sight, value, holds, result_value, set_local}
use Rattle.driver_machine.specs.Left.{Item, Does as Statement, Again, Left, Rest, Over, on, turns_from, Next, Went, Ticks, NoTurns, AtResult, next_turn, begun, next, arrived, run_of, step_in, step}
use Rattle.driver_machine.proofs.Items.{both, inner-obey, obeys, append-fits, on-fits, turns-fit}
use Rattle.driver_machine.specs.Fits.{seen_widths, item_fits, items_fit, left_fits, run_fits}

-- the locals that an assignment leaves are those of the spaces after it
local-put : (sp : Spaces) (s : Space) (k : ℕ) (w : Bits) → set_local s k w sp.local ≡ (put_in sp s k w).local
local-put sp Own k w = refl
local-put sp Arg k w = refl
local-put sp Local k w = refl
local-put sp Bound k w = refl
local-put sp Input k w = refl
local-put sp Output k w = refl
local-put sp Noise k w = refl
local-put sp Spec k w = refl
local-put sp Device k w = refl
local-put sp Emu k w = refl
local-put sp Copy k w = refl
local-put sp Taken k w = refl

-- what a circuit owes: its outputs have their widths, and its cells after a tick are device words again
pub record KeepsStates (lines : List Line) (outs : List ℕ) : Type 0 where
  pub shows : (cells ins : Words) → fits_state lines cells ≡ true → fit (input_widths lines) ins ≡ true → fit outs (output_words lines cells ins) ≡ true
  pub ticks : (cells ins : Words) → fits_state lines cells ≡ true → fit (input_widths lines) ins ≡ true → fits_state lines (state_after_tick lines cells ins) ≡ true

-- by the widths and by the ROM words
pub keeps-states : (lines : List Line) →
    ((cells ins : Words) → fit (state_widths (cells_of lines)) cells ≡ true → fit (input_widths lines) ins ≡ true → fit (output_widths lines) (output_words lines cells ins) ≡ true) →
    ((cells ins : Words) → fit (state_widths (cells_of lines)) cells ≡ true → fit (input_widths lines) ins ≡ true → fit (state_widths (cells_of lines)) (state_after_tick lines cells ins) ≡ true) →
    ((cells ins : Words) → length cells ≡ words_in (cells_of lines) → agree (rom_words lines) cells ≡ true → agree (rom_words lines) (state_after_tick lines cells ins) ≡ true) →
    ((cells : Words) → fit (state_widths (cells_of lines)) cells ≡ true → length cells ≡ words_in (cells_of lines)) → KeepsStates lines (output_widths lines)
keeps-states lines shows ticks known count = record {
  shows = λ cells ins f g. shows cells ins (and_first (fit (state_widths (cells_of lines)) cells) (agree (rom_words lines) cells) f) g;
  ticks = λ cells ins f g.
      let widths = and_first (fit (state_widths (cells_of lines)) cells) (agree (rom_words lines) cells) f in
      both (fit (state_widths (cells_of lines)) (state_after_tick lines cells ins)) (agree (rom_words lines) (state_after_tick lines cells ins)) (ticks cells ins widths g)
      (known cells ins (count cells widths) (and_second (fit (state_widths (cells_of lines)) cells) (agree (rom_words lines) cells) f));
}

-- another word at a place where none is known
agree-slice_set : (known : List (Option Bits)) (ws : Words) (k : ℕ) (w : Bits) → slice_get known k ≡ Some None → agree known ws ≡ true → agree known (slice_set ws k w) ≡ true
agree-slice_set [] ws k w at h = refl
agree-slice_set (o ∷ os) [] k w at h = cc
agree-slice_set (None ∷ os) (x ∷ ws) zero w at h = h
agree-slice_set (Some v ∷ os) (x ∷ ws) zero w at h = cc
agree-slice_set (o ∷ os) (x ∷ ws) (suc k) w at h =
    both (is_known o x) (agree os (slice_set ws k w)) (and_first (is_known o x) (agree os ws) h) (agree-slice_set os ws k w at (and_second (is_known o x) (agree os ws) h))

pub fits_state-set : (lines : List Line) (cells : Words) (k : ℕ) (w : Bits) → slice_get (rom_words lines) k ≡ Some None → fits (slice_index (state_widths (cells_of lines)) k) w ≡ true → fits_state lines cells ≡ true → fits_state lines (slice_set cells k w) ≡ true
fits_state-set lines cells k w at f h =
    let widths = fit (state_widths (cells_of lines)) cells in
    let known = agree (rom_words lines) cells in
    both (fit (state_widths (cells_of lines)) (slice_set cells k w)) (agree (rom_words lines) (slice_set cells k w)) (fit-slice_set (state_widths (cells_of lines)) cells k w f (and_first widths known h))
    (agree-slice_set (rom_words lines) cells k w at (and_second widths known h))

pub record RunFits (lines : List Line) (b : Body) (run : Run) : Type 0 where
  pub cells : fits_state lines run.cells ≡ true
  pub inputs : fit (input_widths lines) run.inputs ≡ true
  pub locals : fit (local_widths b) run.locals ≡ true

pub run_fits-parts : (lines : List Line) (b : Body) (run : Run) → run_fits lines b run ≡ true → RunFits lines b run
run_fits-parts lines b run h =
    let x = fits_state lines run.cells in
    let y = fit (input_widths lines) run.inputs in
    let z = fit (local_widths b) run.locals in
    record { cells = and_first x (y && z) h; inputs = and_first y z (and_second x (y && z) h); locals = and_second y z (and_second x (y && z) h) }

pub run_fits-all : (lines : List Line) (b : Body) (run : Run) → RunFits lines b run → run_fits lines b run ≡ true
run_fits-all lines b run r =
    let y = fit (input_widths lines) run.inputs in
    let z = fit (local_widths b) run.locals in
    both (fits_state lines run.cells) (y && z) r.cells (both y z r.inputs r.locals)

module _ (lines : List Line) (d : DriverParts) (h : OpHead) (b : Body) (args : Words)
    (give : FunsGive d.funs (length d.funs)) (keeps : KeepsStates lines d.outs)
    (ins : word_widths d.idle ≡ input_widths lines) (args_fit : fit (arg_widths h) args ≡ true) where
  abbrev ws : Widths
  ws = seen_widths d h b

  abbrev g : Setting
  g = setting lines d.funs args

  sights : (run : Run) → RunFits lines b run → SpacesFit ws (sight g run)
  sights run r Arg = args_fit
  sights run r Local = r.locals
  sights run r Output = keeps.shows run.cells run.inputs r.cells r.inputs
  sights run r s = refl

  value-fits : (run : Run) (bound : Words) (vs : List ℕ) (e : Expr) (w : ℕ) → RunFits lines b run → fit vs bound ≡ true → width_of d.funs (length d.funs) ws e vs ≡ Some w → fits w (value g run bound e) ≡ true
  value-fits run bound vs e w r f is = eval-has d.funs (length d.funs) ws give e vs (scope (sight g run) bound) (sights run r) f w is

  -- where the next part leads is in order
  abbrev NextFits : Next → Type 0
  NextFits (Went items run) = (items_fit d ws items ≡ true) × RunFits lines b run
  NextFits (Ticks items run) = (items_fit d ws items ≡ true) × RunFits lines b run
  NextFits NoTurns = Unit {0}
  NextFits AtResult = Unit {0}

  loop-fits : (t : Bool) (e : Expr) (n : ℕ) (body : List Stmt) (bound : Words) (rest : List Item) (run : Run) →
      item_fits d ws (Again e n body bound) ≡ true → items_fit d ws rest ≡ true → RunFits lines b run →
      NextFits (if t then Went (on bound body ++ Again e n body bound ∷ rest) run else Went rest run)
  loop-fits true e n body bound rest run i f r =
      let test = is_width (width_of d.funs (length d.funs) ws e (word_widths bound)) 1 in
      let inner = stmts_fit d.funs ws (driver_leave d) body (word_widths bound) in
      let words = and_first (fit (word_widths bound) bound) (test && inner) i in (
        append-fits d ws (on bound body) (Again e n body bound ∷ rest) (on-fits d ws bound body words (and_second test inner (and_second (fit (word_widths bound) bound) (test && inner) i)))
            (both (item_fits d ws (Again e n body bound)) (items_fit d ws rest) i f),
        r,
      )
  loop-fits false e n body bound rest run i f r = (f, r)

  last-fits : (t : Bool) (rest : List Item) (run : Run) → items_fit d ws rest ≡ true → RunFits lines b run → NextFits (if t then NoTurns else Went rest run)
  last-fits true rest run f r = tt
  last-fits false rest run f r = (f, r)

  turn-next : (e : Expr) (n : ℕ) (body : List Stmt) (bound : Words) (rest : List Item) (run : Run) →
      item_fits d ws (Again e n body bound) ≡ true → items_fit d ws rest ≡ true → RunFits lines b run → NextFits (next_turn g e n body bound rest run)
  turn-next e zero body bound rest run i f r = last-fits (holds g run bound e) rest run f r
  turn-next e (suc n) body bound rest run i f r = loop-fits (holds g run bound e) e n body bound rest run i f r

  chosen-fits : (t : Bool) (as' bs : List Stmt) (bound : Words) (rest : List Item) → fit (word_widths bound) bound ≡ true →
      stmts_fit d.funs ws (driver_leave d) as' (word_widths bound) ≡ true → stmts_fit d.funs ws (driver_leave d) bs (word_widths bound) ≡ true → items_fit d ws rest ≡ true →
      items_fit d ws (on bound (if t then as' else bs) ++ rest) ≡ true
  chosen-fits true as' bs bound rest w a c f = append-fits d ws (on bound as') rest (on-fits d ws bound as' w a) f
  chosen-fits false as' bs bound rest w a c f = append-fits d ws (on bound bs) rest (on-fits d ws bound bs w c) f

  abbrev Good : Unit {0} → Type 0
  Good a = Unit {0}

  no-answers : AnswersFit (Unit {0}) no_queries [] Good
  no-answers = record { replies = λ a k x as' good e f. absurd (none k x e); stays = λ a k x as' good e f. tt }
    where
      none : (k : ℕ) (x : OpHead) → slice_get [] k ≡ Some x → ⊥
      none k x e = cc

  -- the words after a statement that changes spaces alone
  after-fits : (s : Stmt) (bound : Words) (run : Run) → fit (word_widths bound) bound ≡ true → obeys d ws s (word_widths bound) ≡ true → RunFits lines b run →
      SpacesFit ws (does (Unit {0}) g.calls no_queries s (sight g run, tt) bound).0
  after-fits s bound run w e r =
      (stmts-keep (Unit {0}) no_queries d.funs ws (driver_leave d) Good give no-answers (s ∷ []) (word_widths bound) bound (sight g run, tt) w (both (obeys d ws s (word_widths bound)) true e refl)
      (record { spaces = sights run r; asked = tt })).spaces

  put-fits : (s : Stmt) (y : Stmt-F Stmt) (bound : Words) (run : Run) (x : Slot) (k : ℕ) (v : Bits) → out-Stmt s ≡ y →
      fit (word_widths bound) bound ≡ true → obeys d ws s (word_widths bound) ≡ true → RunFits lines b run →
      stmt_level (Unit {0}) g.calls no_queries (map-Stmt Stmt (Does (Unit {0})) (does (Unit {0}) g.calls no_queries) y) (sight g run, tt) bound ≡ (put_in (sight g run) x.space k v, tt) →
      fit (local_widths b) (set_local x.space k v run.locals) ≡ true
  put-fits s y bound run x k v is w e r same =
      let all = after-fits s bound run w e r in
      let done : does (Unit {0}) g.calls no_queries s (sight g run, tt) bound ≡ (put_in (sight g run) x.space k v, tt) =
      ap (λ (f : Does (Unit {0})). f (sight g run, tt) bound) (fold_out-Stmt (Does (Unit {0})) (stmt_level (Unit {0}) g.calls no_queries) s)
      ∙ (ap (λ (z : Stmt-F Stmt). stmt_level (Unit {0}) g.calls no_queries (map-Stmt Stmt (Does (Unit {0})) (does (Unit {0}) g.calls no_queries) z) (sight g run, tt) bound) is ∙ same) in
      let there : SpacesFit ws (put_in (sight g run) x.space k v) = subst (λ (st : Spaces × (Unit {0})). SpacesFit ws st.0) done all in
      subst (λ (l : Words). fit (local_widths b) l ≡ true) (sym (local-put (sight g run) x.space k v)) (there Local)

  set-fits : (k : ℕ) (e : Expr) (bound : Words) (run : Run) (o p : Option ℕ) → slice_get (driver_leave d).inputs k ≡ o → width_of d.funs (length d.funs) ws e (word_widths bound) ≡ p →
      fit (word_widths bound) bound ≡ true → input_fits o p ≡ true → RunFits lines b run → fit (input_widths lines) (slice_set run.inputs k (value g run bound e)) ≡ true
  set-fits k e bound run None None is at w h r = cc
  set-fits k e bound run None (Some v) is at w h r = cc
  set-fits k e bound run (Some u) None is at w h r = cc
  set-fits k e bound run (Some u) (Some v) is at w h r =
      let same : u ≡ v = eqb-true u v h in
      let got = get-some (driver_leave d).inputs k u is in
      let width : slice_index (input_widths lines) k ≡ v = ap (λ (x : List ℕ). slice_index x k) (sym ins) ∙ (got.1 ∙ same) in
      fit-slice_set (input_widths lines) run.inputs k (value g run bound e)
      (subst (λ (x : ℕ). fits x (value g run bound e) ≡ true) (sym width) (value-fits run bound (word_widths bound) e v r w at)) r.inputs

  arm : (s : Stmt) (y : Stmt-F Stmt) (bound : Words) (rest : List Item) (run : Run) → out-Stmt s ≡ y → fit (word_widths bound) bound ≡ true → obeys d ws s (word_widths bound) ≡ true →
      stmt_fits_level d.funs ws (driver_leave d) (map-Stmt Stmt Obeys (obeys d ws) y) (word_widths bound) ≡ true → items_fit d ws rest ≡ true → RunFits lines b run → NextFits (begun g y bound rest run)
  arm s (Stmt-F.Assign x e) bound rest run is w all ok f r =
      let at : x.number + 0 ≡ x.number = omega arith in
      let v = value g run bound e in
      let locals = subst (λ (k : ℕ). fit (local_widths b) (set_local x.space k v run.locals) ≡ true) (sym at) (put-fits s (Stmt-F.Assign x e) bound run x x.number v is w all r refl) in
      (f, record { cells = r.cells; inputs = r.inputs; locals = locals })
  arm s (Stmt-F.Store x i e) bound rest run is w all ok f r =
      let locals = put-fits s (Stmt-F.Store x i e) bound run x (x.number + (value g run bound i).value) (value g run bound e) is w all r refl in
      (f, record { cells = r.cells; inputs = r.inputs; locals = locals })
  arm s (Stmt-F.If c as' bs) bound rest run is w all ok f r =
      let vs = word_widths bound in
      let yes = stmts_fit d.funs ws (driver_leave d) as' vs in
      let not = stmts_fit d.funs ws (driver_leave d) bs vs in
      let both_fit = and_second (is_width (width_of d.funs (length d.funs) ws c vs) 1) (yes && not) ok in
      (chosen-fits (holds g run bound c) as' bs bound rest w (and_first yes not both_fit) (and_second yes not both_fit) f, r)
  arm s (Stmt-F.For v n body) bound rest run is w all ok f r =
      let os : List Obeys = map (obeys d ws) body in
      let t = turns_fit-true v n (and_first (turns_fit v n) (obeys_under os (word_widths bound) v) ok) in
      let inner = inner-obey os (word_widths bound) v (and_second (turns_fit v n) (obeys_under os (word_widths bound) v) ok) in
      (append-fits d ws (turns_from v body bound 0 n) rest (turns-fit d ws v n body bound 0 n t (omega arith) w inner) f, r)
  arm s (Stmt-F.While c n body) bound rest run is w all ok f r =
      let vs = word_widths bound in
      let test = is_width (width_of d.funs (length d.funs) ws c vs) 1 in
      let inner = stmts_fit d.funs ws (driver_leave d) body vs in
      let more = and_second test (nat_le n 1000000 && inner) ok in
      turn-next c n body bound rest run (both (fit vs bound) (test && inner) w (both test inner (and_first test (nat_le n 1000000 && inner) ok) (and_second (nat_le n 1000000) inner more))) f r
  arm s (Stmt-F.SetInput k e) bound rest run is w all ok f r =
      (f, record { cells = r.cells; inputs = set-fits k e bound run (slice_get (driver_leave d).inputs k) (width_of d.funs (length d.funs) ws e (word_widths bound)) refl refl w ok r; locals = r.locals })
  arm s Stmt-F.Tick bound rest run is w all ok f r = (f, record { cells = keeps.ticks run.cells run.inputs r.cells r.inputs; inputs = r.inputs; locals = r.locals })
  arm s Stmt-F.CopyTick bound rest run is w all ok f r = (f, r)
  arm s (Stmt-F.Query x k es) bound rest run is w all ok f r = (f, r)

  next-fits : (items : List Item) (run : Run) → items_fit d ws items ≡ true → RunFits lines b run → NextFits (next g items run)
  next-fits [] run f r = tt
  next-fits (Statement s bound ∷ rest) run f r =
      let i = and_first (item_fits d ws (Statement s bound)) (items_fit d ws rest) f in
      let w = and_first (fit (word_widths bound) bound) (obeys d ws s (word_widths bound)) i in
      let all = and_second (fit (word_widths bound) bound) (obeys d ws s (word_widths bound)) i in
      let level = ap (λ (o : Obeys). o (word_widths bound)) (sym (fold_out-Stmt Obeys (stmt_fits_level d.funs ws (driver_leave d)) s)) ∙ all in
      arm s (out-Stmt s) bound rest run refl w all level (and_second (item_fits d ws (Statement s bound)) (items_fit d ws rest) f) r
  next-fits (Again e n body bound ∷ rest) run f r =
      turn-next e n body bound rest run (and_first (item_fits d ws (Again e n body bound)) (items_fit d ws rest) f) (and_second (item_fits d ws (Again e n body bound)) (items_fit d ws rest) f) r

  result-fits : (result : Option Expr) (run : Run) → result_fits d.funs ws h.result result ≡ true → RunFits lines b run → fits h.result (result_value g run result) ≡ true
  result-fits None run e r = cc
  result-fits (Some x) run e r = value-fits run [] [] x h.result r refl (is_width-true (width_of d.funs (length d.funs) ws x []) h.result e)

  -- a configuration in order
  abbrev pub InOrder : Config Left → Type 0
  InOrder c = (left_fits d h b c.left ≡ true) × RunFits lines b (run_of c)

  arrived-fits : (result : Option Expr) (run : Run) (n : Next) → result_fits d.funs ws h.result result ≡ true → NextFits n → RunFits lines b run → InOrder (arrived g result run n)
  arrived-fits result run (Went items run') e n r = (both (fit (arg_widths h) args) (result_fits d.funs ws h.result result && items_fit d ws items) args_fit (both (result_fits d.funs ws h.result result) (items_fit d ws items) e n.0), n.1)
  arrived-fits result run (Ticks items run') e n r = (both (fit (arg_widths h) args) (result_fits d.funs ws h.result result && items_fit d ws items) args_fit (both (result_fits d.funs ws h.result result) (items_fit d ws items) e n.0), n.1)
  arrived-fits result run NoTurns e n r = (refl, r)
  arrived-fits result run AtResult e n r = (result-fits result run e r, r)

  rest-fits : (items : List Item) (result : Option Expr) (run : Run) → result_fits d.funs ws h.result result && items_fit d ws items ≡ true → RunFits lines b run →
      InOrder (arrived g result run (next g items run))
  rest-fits items result run e r =
      arrived-fits result run (next g items run) (and_first (result_fits d.funs ws h.result result) (items_fit d ws items) e)
      (next-fits items run (and_second (result_fits d.funs ws h.result result) (items_fit d ws items) e) r) r

module _ (lines : List Line) (d : DriverParts) (h : OpHead) (b : Body) (give : FunsGive d.funs (length d.funs)) (keeps : KeepsStates lines d.outs) (ins : word_widths d.idle ≡ input_widths lines) where
  left-step : (left : Left) (run : Run) → left_fits d h b left ≡ true → RunFits lines b run →
      (left_fits d h b (step_in lines d left run).left ≡ true) × RunFits lines b (run_of (step_in lines d left run))
  left-step (Over x) run e r = (e, r)
  left-step (Rest items args result) run e r =
      let more = result_fits d.funs (seen_widths d h b) h.result result && items_fit d (seen_widths d h b) items in
      rest-fits lines d h b args give keeps ins (and_first (fit (arg_widths h) args) more e) items result run (and_second (fit (arg_widths h) args) more e) r

  -- a step keeps a place of this body
  pub body-step : (c : Config Left) → run_fits lines b (run_of c) && left_fits d h b c.left ≡ true → run_fits lines b (run_of (step lines d c)) && left_fits d h b (step lines d c).left ≡ true
  body-step c e =
      let run = run_of c in
      let s = left-step c.left run (and_second (run_fits lines b run) (left_fits d h b c.left) e) (run_fits-parts lines b run (and_first (run_fits lines b run) (left_fits d h b c.left) e)) in
      both (run_fits lines b (run_of (step lines d c))) (left_fits d h b (step lines d c).left) (run_fits-all lines b (run_of (step lines d c)) s.1) s.0
