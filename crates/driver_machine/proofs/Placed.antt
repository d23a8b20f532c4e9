-- What is left of a body at any position obeys the rules that the body obeys.
use Rattle.std.proofs.Common.{◌≡◌, ℕ, zero, suc, ◌+◌, ◌-◌, ◌<◌, ◌&&◌, nat_lt, nat_le, List, [], ◌∷◌, ◌++◌, map, length, drop, slice_get, Option, Some, None, Bool, true, false, if◌then◌else◌, refl, sym, ◌∙◌, ap, subst, arith}
use Rattle.std.proofs.lemmas.Bool.{ltb-true}
use Rattle.knox_words.specs.Bits.{bits, is_word, word_or}
use Rattle.knox_words.specs.Lists.{Words, fit, fits, are_widths}
use Rattle.knox_words.proofs.Lists.{fit-both, fits-from, fits-width, is_word-IsWord}
use Rattle.knox_lang.specs.declared.expr.Stmt.{Stmt, out-Stmt, fold_out-Stmt, map-Stmt}
use Rattle.knox_lang.specs.declared.expr.Stmt.TheOpen.{Stmt-F}
use Rattle.knox_circuit.specs.Line.{Line}
use Rattle.knox_lang.specs.declared.parts.OpHead.{OpHead}
use Rattle.knox_lang.specs.declared.parts.Body.{Body}
use Rattle.knox_lang.specs.declared.parts.DriverParts.{DriverParts}
use Rattle.knox_lang.specs.Operation.{arg_widths}
use Rattle.knox_lang.specs.Typing.{Widths, Obeys, is_width, width_of, turns_fit, obeys_under, funs_fit, stmt_fits_level, stmts_fit}
use Rattle.knox_lang.specs.WellFormed.{word_widths, local_widths, driver_leave, driver_fits, op_fits, ops_fit, statements_fit, result_fits}
use Rattle.knox_lang.proofs.OperationLemmas.{BodyAt, ops_fit-at}
use Rattle.knox_lang.proofs.WidthLemmas.{and_first, and_second, Turns, turns_fit-true, turn-fits}
use Rattle.driver_machine.specs.declared.position.Way.{Way}
use Rattle.driver_machine.specs.declared.position.Way.TheVariants as way
use Rattle.driver_machine.specs.declared.position.Frame.{Frame}
use Rattle.driver_machine.specs.declared.position.Position.{Position}
use Rattle.driver_machine.specs.declared.reply.Reply.{Reply}
use Rattle.driver_machine.specs.declared.reply.Reply.TheVariants as reply
use Rattle.driver_machine.specs.declared.config.DriverConfig.{DriverConfig}
use Rattle.driver_machine.specs.Left.{Again, on, turns_from, config}
use Rattle.driver_machine.specs.Configs.{config_of, left_of, run_at, reply_words_fit, words_fit}
use Rattle.driver_machine.specs.Place.{Inner, inner_in, inner_of, Top, top, items_left}
use Rattle.driver_machine.specs.Fits.{seen_widths, item_fits, items_fit, run_fits, left_fits, fits_body, fits_config}
use Rattle.driver_machine.proofs.Items.{both, leave, obeys, append-fits, on-fits, turns-fit, inner-obey, widths-append}

-- a word that is made for any number is a word
word_or-word : (w n : ℕ) → fits (word_or w n).width (word_or w n) ≡ true
word_or-word w n = by_test (is_word (bits w n)) refl
  where
    by_test : (t : Bool) → is_word (bits w n) ≡ t → fits (if t then bits w n else bits 1 0).width (if t then bits w n else bits 1 0) ≡ true
    by_test true e = fits-from w (bits w n) refl (is_word-IsWord (bits w n) e)
    by_test false e = refl

one-more : (bound : Words) (w k : ℕ) → fit (word_widths bound) bound ≡ true → fit (word_widths (bound ++ word_or w k ∷ [])) (bound ++ word_or w k ∷ []) ≡ true
one-more bound w k f =
    subst (λ (ws : List ℕ). fit ws (bound ++ word_or w k ∷ []) ≡ true) (sym (widths-append bound (word_or w k ∷ [])))
    (fit-both (word_widths bound) ((word_or w k).width ∷ []) bound (word_or w k ∷ []) f (both (fits (word_or w k).width (word_or w k)) true (word_or-word w k) refl))

module _ (d : DriverParts) (ws : Widths) where
  abbrev all : List Stmt → Obeys
  all ss = stmts_fit d.funs ws (leave d ws) ss

  at-obeys : (ss : List Stmt) (k : ℕ) (s : Stmt) (vs : List ℕ) → slice_get ss k ≡ Some s → all ss vs ≡ true → obeys d ws s vs ≡ true
  at-obeys [] k s vs is e = cc
  at-obeys (x ∷ ss) zero s vs is e = let same : x ≡ s = cc in subst (λ (y : Stmt). obeys d ws y vs ≡ true) same (and_first (obeys d ws x vs) (all ss vs) e)
  at-obeys (x ∷ ss) (suc k) s vs is e = at-obeys ss k s vs is (and_second (obeys d ws x vs) (all ss vs) e)

  drop-obeys : (k : ℕ) (ss : List Stmt) (vs : List ℕ) → all ss vs ≡ true → all (drop k ss) vs ≡ true
  drop-obeys zero ss vs e = e
  drop-obeys (suc k) [] vs e = e
  drop-obeys (suc k) (x ∷ ss) vs e = drop-obeys k ss vs (and_second (obeys d ws x vs) (all ss vs) e)

  record InnerFits (q : Inner) : Type 0 where
    words : fit (word_widths q.bound) q.bound ≡ true
    list : all q.list (word_widths q.bound) ≡ true
    after : items_fit d ws q.after ≡ true

  -- the turn that is done, where it is one
  turn-list : (t : Bool) (w n k : ℕ) (body : List Stmt) (bound : Words) → nat_lt k n ≡ t → Turns w n → fit (word_widths bound) bound ≡ true → all body (word_widths bound ++ w ∷ []) ≡ true →
      all (if t then body else []) (word_widths (bound ++ word_or w k ∷ [])) ≡ true
  turn-list false w n k body bound is t f e = refl
  turn-list true w n k body bound is t f e =
      let lt : k < n = ltb-true k n is in
      let word = turn-fits w n k t lt in
      let widths : word_widths (bound ++ word_or w k ∷ []) ≡ word_widths bound ++ w ∷ [] =
      widths-append bound (word_or w k ∷ []) ∙ ap (λ (v : ℕ). word_widths bound ++ v ∷ []) (fits-width w (word_or w k) word) in
      subst (λ (vs : List ℕ). all body vs ≡ true) (sym widths) e

  -- the turns that follow
  more-turns : (w n k m : ℕ) (body : List Stmt) (bound : Words) → n - (k + 1) ≡ m → Turns w n → fit (word_widths bound) bound ≡ true → all body (word_widths bound ++ w ∷ []) ≡ true →
      items_fit d ws (turns_from w body bound (k + 1) m) ≡ true
  more-turns w n k zero body bound is t f e = refl
  more-turns w n k (suc m) body bound is t f e = turns-fit d ws w n body bound (k + 1) (suc m) t (omega arith) f e

  inner-fits : (v : Way) (y : Stmt-F Stmt) (bound : Words) → fit (word_widths bound) bound ≡ true →
      stmt_fits_level d.funs ws (leave d ws) (map-Stmt Stmt Obeys (obeys d ws) y) (word_widths bound) ≡ true → InnerFits (inner_in v y bound)
  inner-fits way.Then (Stmt-F.If c as' bs) bound f e =
      let vs = word_widths bound in
      let pair = and_second (is_width (width_of d.funs (length d.funs) ws c vs) 1) (all as' vs && all bs vs) e in
      record { words = f; list = and_first (all as' vs) (all bs vs) pair; after = refl }
  inner-fits way.Else (Stmt-F.If c as' bs) bound f e =
      let vs = word_widths bound in
      let pair = and_second (is_width (width_of d.funs (length d.funs) ws c vs) 1) (all as' vs && all bs vs) e in
      record { words = f; list = and_second (all as' vs) (all bs vs) pair; after = refl }
  inner-fits (way.Turn k) (Stmt-F.For w n body) bound f e =
      let os : List Obeys = map (obeys d ws) body in
      let t = turns_fit-true w n (and_first (turns_fit w n) (obeys_under os (word_widths bound) w) e) in
      let body_fits = inner-obey os (word_widths bound) w (and_second (turns_fit w n) (obeys_under os (word_widths bound) w) e) in
      record {
        words = one-more bound w k f;
        list = turn-list (nat_lt k n) w n k body bound refl t f body_fits;
        after = more-turns w n k (n - (k + 1)) body bound refl t f body_fits;
      }
  inner-fits (way.While m) (Stmt-F.While c n body) bound f e =
      let vs = word_widths bound in
      let test = is_width (width_of d.funs (length d.funs) ws c vs) 1 in
      let body_fits = and_second (nat_le n 1000000) (all body vs) (and_second test (nat_le n 1000000 && all body vs) e) in
      record {
        words = f;
        list = body_fits;
        after = both (item_fits d ws (Again c m body bound)) true (both (fit vs bound) (test && all body vs) f (both test (all body vs) (and_first test (nat_le n 1000000 && all body vs) e) body_fits)) refl;
      }
  inner-fits _ _ bound f e = record { words = f; list = refl; after = refl }

  inner-of : (v : Way) (o : Option Stmt) (bound : Words) → fit (word_widths bound) bound ≡ true → ((s : Stmt) → o ≡ Some s → obeys d ws s (word_widths bound) ≡ true) → InnerFits (inner_of v o bound)
  inner-of v None bound f e = record { words = f; list = refl; after = refl }
  inner-of v (Some s) bound f e =
      inner-fits v (out-Stmt s) bound f (ap (λ (o : Obeys). o (word_widths bound)) (sym (fold_out-Stmt Obeys (stmt_fits_level d.funs ws (leave d ws)) s)) ∙ e s refl)

  record TopFits (t : Top) : Type 0 where
    words : fit (word_widths t.bound) t.bound ≡ true
    list : all t.list (word_widths t.bound) ≡ true
    rest : items_fit d ws t.rest ≡ true

  top-fits : (ss : List Stmt) (bound : Words) (fs : List Frame) → fit (word_widths bound) bound ≡ true → all ss (word_widths bound) ≡ true → TopFits (top ss bound fs)
  top-fits ss bound [] f e = record { words = f; list = e; rest = refl }
  top-fits ss bound (x ∷ fs) f e =
      let q = inner_of x.way (slice_get ss (x.place - 1)) bound in
      let i = inner-of x.way (slice_get ss (x.place - 1)) bound f (λ s is. at-obeys ss (x.place - 1) s (word_widths bound) is e) in
      let t = top-fits q.list q.bound fs i.words i.list in
      record {
        words = t.words;
        list = t.list;
        rest = append-fits d ws (top q.list q.bound fs).rest (q.after ++ on bound (drop x.place ss)) t.rest
            (append-fits d ws q.after (on bound (drop x.place ss)) i.after (on-fits d ws bound (drop x.place ss) f (drop-obeys x.place ss (word_widths bound) e)));
      }

  -- whatever the position
  pub placed-fits : (ss : List Stmt) (pos : Position) → all ss [] ≡ true → items_fit d ws (items_left ss pos) ≡ true
  placed-fits ss pos e =
      let t = top-fits ss [] pos.frames refl e in
      let u = top ss [] pos.frames in
      append-fits d ws (on u.bound (drop pos.place u.list)) u.rest (on-fits d ws u.bound (drop pos.place u.list) t.words (drop-obeys pos.place u.list (word_widths u.bound) t.list)) t.rest

and-true : (x : Bool) → x && true ≡ x
and-true true = refl
and-true false = refl

-- the rules hold at any place, so that the words alone decide
pub config-fits : (lines : List Line) (d : DriverParts) (m : DriverConfig) (h : OpHead) (b : Body) → driver_fits d ≡ true → slice_get d.ops m.op ≡ Some h → slice_get d.bodies m.op ≡ Some b →
    words_fit lines h b m ≡ fits_config lines d m.op (config_of d m)
config-fits lines d m h b ok at_op at_body =
    sym (ap (λ (o : Option OpHead). fits_body lines d o (slice_get d.bodies m.op) (config_of d m)) at_op
    ∙ (ap (λ (p : Option Body). fits_body lines d (Some h) p (config (left_of p m m.reply) (run_at m))) at_body
    ∙ ap (λ (t : Bool). run_fits lines b (run_at m) && t) (sym (by_reply m.reply))))
  where
    bodies : ops_fit d.funs [] d.outs (driver_leave d) d.ops d.bodies ≡ true
    bodies = and_second (funs_fit d.funs (length d.funs)) (ops_fit d.funs [] d.outs (driver_leave d) d.ops d.bodies)
        (and_second (are_widths d.outs) (funs_fit d.funs (length d.funs) && ops_fit d.funs [] d.outs (driver_leave d) d.ops d.bodies) ok)

    found : BodyAt d.funs [] d.outs (driver_leave d) h d.bodies m.op
    found = ops_fit-at d.funs [] d.outs (driver_leave d) d.ops d.bodies m.op h bodies at_op

    same : found.body ≡ b
    same = let e : Some found.body ≡ Some b = sym found.at ∙ at_body in cc

    rules : op_fits d.funs [] d.outs (driver_leave d) h b ≡ true
    rules = subst (λ (x : Body). op_fits d.funs [] d.outs (driver_leave d) h x ≡ true) same found.obeys

    stmts_and_result : statements_fit d.funs (seen_widths d h b) (driver_leave d) b && result_fits d.funs (seen_widths d h b) h.result b.result ≡ true
    stmts_and_result = and_second (are_widths (arg_widths h)) (statements_fit d.funs (seen_widths d h b) (driver_leave d) b && result_fits d.funs (seen_widths d h b) h.result b.result) rules

    result_ok : result_fits d.funs (seen_widths d h b) h.result b.result ≡ true
    result_ok = and_second (statements_fit d.funs (seen_widths d h b) (driver_leave d) b) (result_fits d.funs (seen_widths d h b) h.result b.result) stmts_and_result

    items_ok : items_fit d (seen_widths d h b) (items_left b.stmts m.position) ≡ true
    items_ok = placed-fits d (seen_widths d h b) b.stmts m.position
        (and_second (are_widths (local_widths b)) (stmts_fit d.funs (seen_widths d h b) (driver_leave d) b.stmts [])
        (and_first (statements_fit d.funs (seen_widths d h b) (driver_leave d) b) (result_fits d.funs (seen_widths d h b) h.result b.result) stmts_and_result))

    by_reply : (o : Option Reply) → reply_words_fit h m o ≡ left_fits d h b (left_of (Some b) m o)
    by_reply (Some (reply.Value w)) = refl
    by_reply (Some reply.Stuck) = refl
    by_reply None = sym (ap (λ (t : Bool). fit (arg_widths h) m.scene.args && t) (ap (λ (t : Bool). t && items_fit d (seen_widths d h b) (items_left b.stmts m.position)) result_ok ∙ items_ok) ∙ and-true (fit (arg_widths h) m.scene.args))

pub ruleset placing = (config-fits)
