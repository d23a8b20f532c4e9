-- Items of a body that obeys the rules are in order.
use Rattle.std.proofs.Common.{◌≡◌, ℕ, zero, suc, ◌+◌, ◌≤◌, ◌&&◌, nat_lt, List, [], ◌∷◌, ◌++◌, length, Bool, true, false, if◌then◌else◌, refl, sym, ◌∙◌, ap, subst, arith}
use Rattle.knox_words.specs.Bits.{word_or}
use Rattle.knox_words.specs.Lists.{Words, fit}
use Rattle.knox_words.proofs.Lists.{fits-width}
use Rattle.knox_lang.specs.declared.expr.Stmt.{Stmt}
use Rattle.knox_lang.specs.declared.parts.DriverParts.{DriverParts}
use Rattle.knox_lang.specs.Typing.{Widths, Leave, Obeys, all_obey, obeys_under, stmt_fits, stmts_fit}
use Rattle.knox_lang.specs.WellFormed.{word_widths, driver_leave}
use Rattle.knox_lang.proofs.WidthLemmas.{and_first, and_second, bound-fits, Turns, turn-fits}
use Rattle.driver_machine.specs.Left.{Item, Does, on, turns_from}
use Rattle.driver_machine.specs.Fits.{item_fits, items_fit}

pub both : (a b : Bool) → a ≡ true → b ≡ true → a && b ≡ true
both true b e f = f
both false b e f = cc

pub widths-append : (as' bs : Words) → word_widths (as' ++ bs) ≡ word_widths as' ++ word_widths bs
widths-append [] bs = refl
widths-append (a ∷ as') bs = ap (λ (ws : List ℕ). a.width ∷ ws) (widths-append as' bs)

pub inner-obey : (os : List Obeys) (vs : List ℕ) (w : ℕ) → obeys_under os vs w ≡ true → all_obey os (vs ++ w ∷ []) ≡ true
inner-obey os vs w e = by_test (nat_lt (length vs) 256) e
  where
    by_test : (t : Bool) → (if t then all_obey os (vs ++ w ∷ []) else false) ≡ true → all_obey os (vs ++ w ∷ []) ≡ true
    by_test true e = e
    by_test false e = cc

module _ (d : DriverParts) (ws : Widths) where
  abbrev pub leave : Leave
  leave = driver_leave d

  abbrev pub obeys : Stmt → Obeys
  obeys s = stmt_fits d.funs ws leave s

  pub append-fits : (xs ys : List Item) → items_fit d ws xs ≡ true → items_fit d ws ys ≡ true → items_fit d ws (xs ++ ys) ≡ true
  append-fits [] ys e f = f
  append-fits (x ∷ xs) ys e f =
      both (item_fits d ws x) (items_fit d ws (xs ++ ys)) (and_first (item_fits d ws x) (items_fit d ws xs) e) (append-fits xs ys (and_second (item_fits d ws x) (items_fit d ws xs) e) f)

  pub on-fits : (bound : Words) (ss : List Stmt) → fit (word_widths bound) bound ≡ true → stmts_fit d.funs ws leave ss (word_widths bound) ≡ true → items_fit d ws (on bound ss) ≡ true
  on-fits bound [] f e = refl
  on-fits bound (s ∷ ss) f e =
      let one = and_first (obeys s (word_widths bound)) (stmts_fit d.funs ws leave ss (word_widths bound)) e in
      let more = and_second (obeys s (word_widths bound)) (stmts_fit d.funs ws leave ss (word_widths bound)) e in
      both (item_fits d ws (Does s bound)) (items_fit d ws (on bound ss)) (both (fit (word_widths bound) bound) (obeys s (word_widths bound)) f one) (on-fits bound ss f more)

  pub turns-fit : (w n : ℕ) (body : List Stmt) (bound : Words) (k m : ℕ) → Turns w n → k + m ≤ n → fit (word_widths bound) bound ≡ true → stmts_fit d.funs ws leave body (word_widths bound ++ w ∷ []) ≡ true →
      items_fit d ws (turns_from w body bound k m) ≡ true
  turns-fit w n body bound k zero t le f e = refl
  turns-fit w n body bound k (suc m) t le f e =
      let word = turn-fits w n k t (omega arith) in
      let widths : word_widths (bound ++ word_or w k ∷ []) ≡ word_widths bound ++ w ∷ [] =
      widths-append bound (word_or w k ∷ []) ∙ ap (λ (v : ℕ). word_widths bound ++ v ∷ []) (fits-width w (word_or w k) word) in
      append-fits (on (bound ++ word_or w k ∷ []) body) (turns_from w body bound (k + 1) m)
      (on-fits (bound ++ word_or w k ∷ []) body
      (subst (λ (vs : List ℕ). fit vs (bound ++ word_or w k ∷ []) ≡ true) (sym widths) (bound-fits (word_widths bound) bound w (word_or w k) f word))
      (subst (λ (vs : List ℕ). stmts_fit d.funs ws leave body vs ≡ true) (sym widths) e))
      (turns-fit w n body bound (k + 1) m t (omega arith) f e)
