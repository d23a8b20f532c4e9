-- Statements keep the widths of the words.
use Rattle.std.proofs.Common.{◌≡◌, ℕ, zero, suc, ◌+◌, ◌≤◌, ◌==◌, ◌&&◌, ◌++◌, if◌then◌else◌, List, [], ◌∷◌, Bool, true, false, refl, ap, sym, ◌∙◌, subst, Option, Some, None, map, length, slice_get, slice_index, nat_lt, arith}
use Rattle.knox_words.specs.Bits.{Bits, word_or}
use Rattle.knox_words.specs.Lists.{fit, fits}
use Rattle.knox_words.proofs.Lists.{fit-slice_set, fits-below}
use Rattle.knox_lang.specs.declared.expr.Space.{Space}
use Rattle.knox_lang.specs.declared.expr.Space.TheVariants.{Own, Arg, Local, Bound, Input, Output, Noise, Spec, Device, Emu, Copy, Taken}
use Rattle.knox_lang.specs.declared.expr.Slot.{Slot}
use Rattle.knox_lang.specs.declared.expr.Expr.{Expr}
use Rattle.knox_lang.specs.declared.expr.Stmt.{Stmt, roll-Stmt, fold-roll-Stmt, ind-Stmt, map-Stmt}
use Rattle.knox_lang.specs.declared.expr.Stmt.TheOpen.{Stmt-F}
use Rattle.knox_lang.specs.declared.parts.Fun.{Fun}
use Rattle.knox_lang.specs.declared.parts.OpHead.{OpHead}
use Rattle.knox_lang.specs.declared.scope.Spaces.{Spaces}
use Rattle.knox_lang.specs.Scope.{put_in, scope}
use Rattle.knox_lang.specs.Eval.{eval, values, called}
use Rattle.knox_lang.specs.Exec.{Answering, Does, in_order, turns, asks, stmt_level, does, does_all}
use Rattle.knox_lang.specs.Typing.{Widths, is_width, turns_fit, widths_under, same_widths, width_of, Obeys, Leave, is_location, takes, stores, read_width, widths_of, all_obey, obeys_under, query_fits, stmt_fits_level, stmt_fits, stmts_fit, SpacesFit, FunsGive, AnswersFit, Fine}
use Rattle.knox_lang.proofs.WidthLemmas.{and_first, and_second, is_width-true, get-some, read-at, bound-fits, Turns, turns_fit-true, turn-fits, same-parts, eval-has}

-- a word is replaced by one of its width
pub put-fits : (ws : Widths) (sp : Spaces) (s : Space) (k : ℕ) (a : Bits) → fits (slice_index (ws s) k) a ≡ true → SpacesFit ws sp → SpacesFit ws (put_in sp s k a)
put-fits ws sp Own k a p h Own = fit-slice_set (ws Own) sp.own k a p (h Own)
put-fits ws sp Own k a p h t = h t
put-fits ws sp Arg k a p h Arg = fit-slice_set (ws Arg) sp.arg k a p (h Arg)
put-fits ws sp Arg k a p h t = h t
put-fits ws sp Local k a p h Local = fit-slice_set (ws Local) sp.local k a p (h Local)
put-fits ws sp Local k a p h t = h t
put-fits ws sp Bound k a p h t = h t
put-fits ws sp Input k a p h Input = fit-slice_set (ws Input) sp.input k a p (h Input)
put-fits ws sp Input k a p h t = h t
put-fits ws sp Output k a p h Output = fit-slice_set (ws Output) sp.output k a p (h Output)
put-fits ws sp Output k a p h t = h t
put-fits ws sp Noise k a p h Noise = fit-slice_set (ws Noise) sp.noise k a p (h Noise)
put-fits ws sp Noise k a p h t = h t
put-fits ws sp Spec k a p h Spec = fit-slice_set (ws Spec) sp.spec k a p (h Spec)
put-fits ws sp Spec k a p h t = h t
put-fits ws sp Device k a p h Device = fit-slice_set (ws Device) sp.device k a p (h Device)
put-fits ws sp Device k a p h t = h t
put-fits ws sp Emu k a p h Emu = fit-slice_set (ws Emu) sp.emu k a p (h Emu)
put-fits ws sp Emu k a p h t = h t
put-fits ws sp Copy k a p h Copy = fit-slice_set (ws Copy) sp.copy k a p (h Copy)
put-fits ws sp Copy k a p h t = h t
put-fits ws sp Taken k a p h Taken = fit-slice_set (ws Taken) sp.taken k a p (h Taken)
put-fits ws sp Taken k a p h t = h t

pub record Taken_width (ws : Widths) (s : Slot) (o : Option ℕ) : Type 0 where
  pub width : ℕ
  pub given : o ≡ Some width
  pub there : slice_get (ws s.space) s.number ≡ Some width

takes-width : (ws : Widths) (s : Slot) (o : Option ℕ) → takes ws s o ≡ true → Taken_width ws s o
takes-width ws s None h = cc
takes-width ws s (Some w) h = record {
  width = w;
  given = refl;
  there = is_width-true (slice_get (ws s.space) s.number) w (and_second (is_location s.space) (is_width (slice_get (ws s.space) s.number) w) h);
}

put-taken : (ws : Widths) (sp : Spaces) (s : Slot) (w : ℕ) (a : Bits) → slice_get (ws s.space) s.number ≡ Some w → fits w a ≡ true → SpacesFit ws sp → SpacesFit ws (put_in sp s.space s.number a)
put-taken ws sp s w a at p h =
    let r = get-some (ws s.space) s.number w at in
    put-fits ws sp s.space s.number a (subst (λ (k : ℕ). fits k a ≡ true) (sym r.1) p) h

not-both : (b : Bool) → b && false ≡ true → ⊥
not-both true h = cc
not-both false h = cc

location-widths : (ws : Widths) (vs : List ℕ) (s : Space) → is_location s ≡ true → widths_of ws vs s ≡ ws s
location-widths ws vs Bound h = cc
location-widths ws vs s h = refl

under-obey : (os : List Obeys) (vs : List ℕ) (w : ℕ) → obeys_under os vs w ≡ true → all_obey os (vs ++ w ∷ []) ≡ true
under-obey os vs w e = by_test (nat_lt (length vs) 256) e
  where
    by_test : (t : Bool) → (if t then all_obey os (vs ++ w ∷ []) else false) ≡ true → all_obey os (vs ++ w ∷ []) ≡ true
    by_test true e = e
    by_test false e = cc

module _ (A : Type 0) (q : Answering A) (funs : List Fun) (ws : Widths) (leave : Leave) (Good : A → Type 0) (give : FunsGive funs (length funs)) (answers : AnswersFit A q leave.heads Good) where
  abbrev pub KeepsFine : Stmt → Type 0
  KeepsFine s = (vs : List ℕ) (bound : List Bits) (st : Spaces × A) → fit vs bound ≡ true → stmt_fits funs ws leave s vs ≡ true → Fine A ws Good st →
      Fine A ws Good (does A (called funs) q s st bound)

  abbrev Shown : Type 0
  Shown = (s : Stmt) × KeepsFine s

  abbrev fitting : Stmt → Obeys
  fitting s = stmt_fits funs ws leave s

  abbrev doing : Stmt → Does A
  doing s = does A (called funs) q s

  value-fits : (e : Expr) (vs : List ℕ) (sp : Spaces) (bound : List Bits) (w : ℕ) → SpacesFit ws sp → fit vs bound ≡ true → width_of funs (length funs) ws e vs ≡ Some w →
      fits w (eval (called funs) e (scope sp bound)) ≡ true
  value-fits e vs sp bound w h g is = eval-has funs (length funs) ws give e vs (scope sp bound) h g w is

  values-fit : (es : List Expr) (vs : List ℕ) (sp : Spaces) (bound : List Bits) (us : List ℕ) → SpacesFit ws sp → fit vs bound ≡ true →
      same_widths us (widths_under (map (width_of funs (length funs) ws) es) vs) ≡ true → fit us (values (map (eval (called funs)) es) (scope sp bound)) ≡ true
  values-fit [] vs sp bound [] h g e = refl
  values-fit [] vs sp bound (u ∷ us) h g e = cc
  values-fit (x ∷ es) vs sp bound [] h g e = cc
  values-fit (x ∷ es) vs sp bound (u ∷ us) h g e =
      let s = same-parts u us (width_of funs (length funs) ws x vs) (widths_under (map (width_of funs (length funs) ws) es) vs) e in
      rw (value-fits x vs sp bound u h g s.0) (values-fit es vs sp bound us h g s.1)

  list-keeps : (ss : List Shown) (vs : List ℕ) (bound : List Bits) (st : Spaces × A) → fit vs bound ≡ true → all_obey (map fitting (map (λ (s : Shown). s.0) ss)) vs ≡ true → Fine A ws Good st →
      Fine A ws Good (in_order A (map doing (map (λ (s : Shown). s.0) ss)) st bound)
  list-keeps [] vs bound st g e f = f
  list-keeps (s ∷ ss) vs bound st g e f =
      let first = and_first (fitting s.0 vs) (all_obey (map fitting (map (λ (s : Shown). s.0) ss)) vs) e in
      let rest = and_second (fitting s.0 vs) (all_obey (map fitting (map (λ (s : Shown). s.0) ss)) vs) e in
      list-keeps ss vs bound (doing s.0 st bound) g rest (s.1 vs bound st g first f)

  turns-keep : (ss : List Shown) (vs : List ℕ) (bound : List Bits) (w n k : ℕ) (st : Spaces × A) → fit vs bound ≡ true → Turns w n → k ≤ n →
      all_obey (map fitting (map (λ (s : Shown). s.0) ss)) (vs ++ w ∷ []) ≡ true → Fine A ws Good st →
      Fine A ws Good (turns A (in_order A (map doing (map (λ (s : Shown). s.0) ss))) w k st bound)
  turns-keep ss vs bound w n zero st g t le e f = f
  turns-keep ss vs bound w n (suc k) st g t le e f =
      list-keeps ss (vs ++ w ∷ []) (bound ++ word_or w k ∷ []) (turns A (in_order A (map doing (map (λ (s : Shown). s.0) ss))) w k st bound)
      (bound-fits vs bound w (word_or w k) g (turn-fits w n k t (omega arith))) e
      (turns-keep ss vs bound w n k st g t (omega arith) e f)

  asks-keeps : (s : Slot) (k : ℕ) (o : Option OpHead) (args : List Bits) (os : List (Option ℕ)) (st : Spaces × A) → slice_get leave.heads k ≡ o →
      ((us : List ℕ) → same_widths us os ≡ true → fit us args ≡ true) → query_fits ws s o os ≡ true → Fine A ws Good st → Fine A ws Good (asks A q s k args st)
  asks-keeps s k None args os st is h e f = cc
  asks-keeps s k (Some x) args os st is h e f =
      let fitted : fit (map (λ (a : List ℕ × ℕ). a.1) x.args) args ≡ true = h (map (λ (a : List ℕ × ℕ). a.1) x.args) (and_first (same_widths (map (λ (a : List ℕ × ℕ). a.1) x.args) os) (takes ws s (Some x.result)) e) in
      let t = takes-width ws s (Some x.result) (and_second (same_widths (map (λ (a : List ℕ × ℕ). a.1) x.args) os) (takes ws s (Some x.result)) e) in
      let same : x.result ≡ t.width = let e = t.given in cc in
      record {
        spaces = put-taken ws st.0 s t.width (q.reply st.1 k args) t.there (subst (λ (n : ℕ). fits n (q.reply st.1 k args) ≡ true) same (answers.replies st.1 k x args f.asked is fitted)) f.spaces;
        asked = answers.stays st.1 k x args f.asked is fitted;
      }

  store-keeps : (s : Slot) (i e : Expr) (vs : List ℕ) (sp : Spaces) (bound : List Bits) (o p : Option ℕ) → SpacesFit ws sp → fit vs bound ≡ true →
      width_of funs (length funs) ws i vs ≡ o → width_of funs (length funs) ws e vs ≡ p → stores ws vs s o p ≡ true →
      SpacesFit ws (put_in sp s.space (s.number + (eval (called funs) i (scope sp bound)).value) (eval (called funs) e (scope sp bound)))
  store-keeps s i e vs sp bound o None h g is_i is_e ok = cc
  store-keeps s i e vs sp bound None (Some w) h g is_i is_e ok = absurd (not-both (is_location s.space) ok)
  store-keeps s i e vs sp bound (Some x) (Some w) h g is_i is_e ok =
      let there : is_location s.space ≡ true = and_first (is_location s.space) (is_width (read_width (widths_of ws vs s.space) s.number (Some x)) w) ok in
      let found : read_width (widths_of ws vs s.space) s.number (Some x) ≡ Some w = is_width-true (read_width (widths_of ws vs s.space) s.number (Some x)) w (and_second (is_location s.space) (is_width (read_width (widths_of ws vs s.space) s.number (Some x)) w) ok) in
      let read : read_width (ws s.space) s.number (Some x) ≡ Some w = subst (λ (us : List ℕ). read_width us s.number (Some x) ≡ Some w) (location-widths ws vs s.space there) found in
      let index : fits x (eval (called funs) i (scope sp bound)) ≡ true = value-fits i vs sp bound x h g is_i in
      let r = read-at (ws s.space) s.number x (eval (called funs) i (scope sp bound)).value w read (fits-below x (eval (called funs) i (scope sp bound)) index) in
      put-fits ws sp s.space (s.number + (eval (called funs) i (scope sp bound)).value) (eval (called funs) e (scope sp bound))
      (subst (λ (k : ℕ). fits k (eval (called funs) e (scope sp bound)) ≡ true) (sym r.1) (value-fits e vs sp bound w h g is_e)) h

  either-keeps : (t : Bool) (a b : Spaces × A) → Fine A ws Good a → Fine A ws Good b → Fine A ws Good (if t then a else b)
  either-keeps true a b f g = f
  either-keeps false a b f g = g

  at_level : (y : Stmt-F Shown) (vs : List ℕ) (bound : List Bits) (st : Spaces × A) → fit vs bound ≡ true →
      stmt_fits_level funs ws leave (map-Stmt Stmt Obeys fitting (map-Stmt Shown Stmt (λ (s : Shown). s.0) y)) vs ≡ true → Fine A ws Good st →
      Fine A ws Good (stmt_level A (called funs) q (map-Stmt Stmt (Does A) doing (map-Stmt Shown Stmt (λ (s : Shown). s.0) y)) st bound)
  at_level (Stmt-F.Assign s e) vs bound st g ok f =
      let t = takes-width ws s (width_of funs (length funs) ws e vs) ok in
      record {
        spaces = put-taken ws st.0 s t.width (eval (called funs) e (scope st.0 bound)) t.there (value-fits e vs st.0 bound t.width f.spaces g t.given) f.spaces;
        asked = f.asked;
      }
  at_level (Stmt-F.Store s i e) vs bound st g ok f = record { spaces = store-keeps s i e vs st.0 bound (width_of funs (length funs) ws i vs) (width_of funs (length funs) ws e vs) f.spaces g refl refl ok; asked = f.asked }
  at_level (Stmt-F.If c as' bs) vs bound st g ok f =
      let xs : List Obeys = map fitting (map (λ (s : Shown). s.0) as') in
      let ys : List Obeys = map fitting (map (λ (s : Shown). s.0) bs) in
      let both = and_second (is_width (width_of funs (length funs) ws c vs) 1) (all_obey xs vs && all_obey ys vs) ok in
      either-keeps ((eval (called funs) c (scope st.0 bound)).value == 1) (in_order A (map doing (map (λ (s : Shown). s.0) as')) st bound) (in_order A (map doing (map (λ (s : Shown). s.0) bs)) st bound)
      (list-keeps as' vs bound st g (and_first (all_obey xs vs) (all_obey ys vs) both) f)
      (list-keeps bs vs bound st g (and_second (all_obey xs vs) (all_obey ys vs) both) f)
  at_level (Stmt-F.For w n ss) vs bound st g ok f =
      let xs : List Obeys = map fitting (map (λ (s : Shown). s.0) ss) in
      turns-keep ss vs bound w n n st g (turns_fit-true w n (and_first (turns_fit w n) (obeys_under xs vs w) ok)) (omega arith)
      (under-obey xs vs w (and_second (turns_fit w n) (obeys_under xs vs w) ok)) f
  at_level (Stmt-F.While c n ss) vs bound st g ok f = f
  at_level (Stmt-F.SetInput k e) vs bound st g ok f = f
  at_level Stmt-F.Tick vs bound st g ok f = f
  at_level Stmt-F.CopyTick vs bound st g ok f = f
  at_level (Stmt-F.Query s k es) vs bound st g ok f =
      asks-keeps s k (slice_get leave.heads k) (values (map (eval (called funs)) es) (scope st.0 bound)) (widths_under (map (width_of funs (length funs) ws) es) vs) st refl
      (λ us e. values-fit es vs st.0 bound us f.spaces g e) ok f

  pub stmt-keeps : (s : Stmt) → KeepsFine s
  stmt-keeps = ind-Stmt KeepsFine (λ x y is.
      subst (λ z. KeepsFine (roll-Stmt z)) is (λ vs bound st g ok f.
      subst (λ (d : Does A). Fine A ws Good (d st bound)) (sym (fold-roll-Stmt (Does A) (stmt_level A (called funs) q) (map-Stmt Shown Stmt (λ (s : Shown). s.0) y)))
      (at_level y vs bound st g (ap (λ (o : Obeys). o vs) (sym (fold-roll-Stmt Obeys (stmt_fits_level funs ws leave) (map-Stmt Shown Stmt (λ (s : Shown). s.0) y))) ∙ ok) f)))

  -- statements in order
  pub stmts-keep : (ss : List Stmt) (vs : List ℕ) (bound : List Bits) (st : Spaces × A) → fit vs bound ≡ true → stmts_fit funs ws leave ss vs ≡ true → Fine A ws Good st →
      Fine A ws Good (does_all A (called funs) q ss st bound)
  stmts-keep [] vs bound st g e f = f
  stmts-keep (s ∷ ss) vs bound st g e f =
      stmts-keep ss vs bound (doing s st bound) g (and_second (fitting s vs) (stmts_fit funs ws leave ss vs) e)
      (stmt-keeps s vs bound st g (and_first (fitting s vs) (stmts_fit funs ws leave ss vs) e) f)
