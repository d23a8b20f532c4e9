-- Each statement does the next part of what is left.
use Rattle.std.proofs.Common.{◌≡◌, ℕ, zero, suc, ◌+◌, ◌-◌, ◌==◌, nat_lt, List, [], ◌∷◌, ◌++◌, drop, slice_get, Option, Some, Bool, true, false, if◌then◌else◌, refl, sym, ◌∙◌, ap, append_assoc, arith, add-one, inl, inr}
use Rattle.std.proofs.lemmas.Grind.{common_steps}
use Rattle.std.proofs.lemmas.Bool.Decides.{eqb_tells}
use Rattle.knox_words.specs.Bits.{word_or}
use Rattle.knox_words.specs.Lists.{Words}
use Rattle.knox_lang.specs.declared.expr.Expr.{Expr}
use Rattle.knox_lang.specs.declared.expr.Stmt.{Stmt, out-Stmt}
use Rattle.knox_lang.specs.declared.expr.Stmt.TheOpen.{Stmt-F}
use Rattle.driver_machine.specs.declared.position.Way.{Way}
use Rattle.driver_machine.specs.declared.position.Way.TheVariants as way
use Rattle.driver_machine.specs.declared.position.Position.{Position}
use Rattle.driver_machine.specs.declared.part.Part.{Part}
use Rattle.driver_machine.specs.declared.part.Part.TheVariants as part
use Rattle.driver_machine.specs.Sight.{Setting, holds}
use Rattle.driver_machine.specs.Left.{Item, Does, Again, on, turns_from, Next, Went, NoTurns, begun, next}
use Rattle.driver_machine.specs.Place.{inner_of, inner_in, Top, top, items_left, bumped, entered, after_list, while_in}
use Rattle.driver_machine.specs.Begins.{Doing, Begins, Goes, Moves, Retests, Tests}
use Rattle.driver_machine.proofs.Tops.{left-entered}

abbrev here_of : List Stmt → Position → Top
here_of body pos = top body [] pos.frames

drop-at : (ss : List Stmt) (k : ℕ) (s : Stmt) → slice_get ss k ≡ Some s → drop k ss ≡ s ∷ drop (k + 1) ss
drop-at [] k s e = cc
drop-at (x ∷ xs) zero s e = let is : x ≡ s = cc in ap (λ (y : Stmt). y ∷ xs) is
drop-at (x ∷ xs) (suc k) s e = rw (add-one) (drop-at xs k s e ∙ ap (λ (n : ℕ). s ∷ drop n xs) (add-one k))

pub left-next : (body : List Stmt) (pos : Position) (s : Stmt) → slice_get (here_of body pos).list pos.place ≡ Some s → items_left body pos ≡ Does s (here_of body pos).bound ∷ items_left body (bumped pos)
left-next body pos s e = ap (λ (ss : List Stmt). on (here_of body pos).bound ss ++ (here_of body pos).rest) (drop-at (here_of body pos).list pos.place s e)

-- a list in the statement that was begun
pub left-in : (body : List Stmt) (pos : Position) (s : Stmt) (w : Way) → slice_get (here_of body pos).list pos.place ≡ Some s →
    items_left body (entered (bumped pos) w) ≡
    (let q = inner_in w (out-Stmt s) (here_of body pos).bound in
    on q.bound q.list ++ (q.after ++ items_left body (bumped pos)))
left-in body pos s w e =
    let one : (pos.place + 1) - 1 ≡ pos.place = omega arith in
    let is : slice_get (here_of body pos).list ((pos.place + 1) - 1) ≡ Some s = ap (λ n. slice_get (here_of body pos).list n) one ∙ e in
    left-entered body (bumped pos) w ∙ ap (λ (o : Option Stmt). on (inner_of w o (here_of body pos).bound).bound (inner_of w o (here_of body pos).bound).list ++ ((inner_of w o (here_of body pos).bound).after ++ items_left body (bumped pos))) is

not_zero : (n : ℕ) → suc n == 0 ≡ false
not_zero n = elim (eqb_tells (suc n) 0) [ inl p ↦ absurd (omega (arith, p.1)) | inr p ↦ p.0 ]

module _ (g : Setting) (body : List Stmt) (x : Doing) (r : Part) (s : Stmt) (at : slice_get (here_of body x.from).list x.from.place ≡ Some s) where
  abbrev bound : Words
  bound = (here_of body x.from).bound

  abbrev rest : List Item
  rest = items_left body (bumped x.from)

  -- a loop's test, with its outcome
  abbrev tested : Bool → Expr → ℕ → List Stmt → Next
  tested t c zero list = if t then NoTurns else Went rest x.words
  tested t c (suc n) list = if t then Went (on bound list ++ Again c n list bound ∷ rest) x.words else Went rest x.words

  -- the list that a test chooses
  chosen : (t : Bool) (c : Expr) (as' bs : List Stmt) → out-Stmt s ≡ Stmt-F.If c as' bs →
      items_left body (entered (bumped x.from) (if t then way.Then else way.Else)) ≡ on bound (if t then as' else bs) ++ rest
  chosen true c as' bs e = left-in body x.from s way.Then at ∙ ap (λ (y : Stmt-F Stmt). on (inner_in way.Then y bound).bound (inner_in way.Then y bound).list ++ ((inner_in way.Then y bound).after ++ rest)) e
  chosen false c as' bs e = left-in body x.from s way.Else at ∙ ap (λ (y : Stmt-F Stmt). on (inner_in way.Else y bound).bound (inner_in way.Else y bound).list ++ ((inner_in way.Else y bound).after ++ rest)) e

  -- the first turn
  turned : (w n : ℕ) (list : List Stmt) → out-Stmt s ≡ Stmt-F.For w n list →
      items_left body (if n == 0 then bumped x.from else entered (bumped x.from) (way.Turn 0)) ≡ turns_from w list bound 0 n ++ rest
  turned w zero list e = refl
  turned w (suc n) list e = rw (not_zero n) (
      left-in body x.from s (way.Turn 0) at
      ∙ (ap (λ (y : Stmt-F Stmt). on (inner_in (way.Turn 0) y bound).bound (inner_in (way.Turn 0) y bound).list ++ ((inner_in (way.Turn 0) y bound).after ++ rest)) e
      ∙ (ap (λ (t : Bool). on (bound ++ word_or w 0 ∷ []) (if t then list else []) ++ (turns_from w list bound 1 (suc n - 1) ++ rest)) first
      ∙ (ap (λ (k : ℕ). on (bound ++ word_or w 0 ∷ []) list ++ (turns_from w list bound 1 k ++ rest)) less_one
      ∙ sym (append_assoc (on (bound ++ word_or w 0 ∷ []) list) (turns_from w list bound 1 n) rest)))))
    where
      first : nat_lt 0 (suc n) ≡ true
      first = grind (arith, common_steps)

      less_one : suc n - 1 ≡ n
      less_one = omega arith

  looped : (t : Bool) (c : Expr) (n : ℕ) (list : List Stmt) → out-Stmt s ≡ Stmt-F.While c n list →
      r ≡ (if t then (if n == 0 then part.NoTurns else part.Ran) else part.Ran) →
      x.to ≡ (if t then (if n == 0 then x.from else entered (bumped x.from) (way.While (n - 1))) else bumped x.from) →
      x.after ≡ x.words → Goes body x (tested t c n list) r
  looped true c zero list e a b d = (a, d)
  looped false c zero list e a b d = (a, ap (items_left body) b, d)
  looped false c (suc n) list e a b d = (a, ap (items_left body) b, d)
  looped true c (suc n) list e a b d =
      let ran : r ≡ part.Ran = rw (not_zero n) at a in
      let place : x.to ≡ entered (bumped x.from) (way.While (suc n - 1)) = rw (not_zero n) at b in
      let one : suc n - 1 ≡ n = omega arith in (
        ran,
        ap (items_left body) place
            ∙ (left-in body x.from s (way.While (suc n - 1)) at
            ∙ (ap (λ (y : Stmt-F Stmt). on (inner_in (way.While (suc n - 1)) y bound).bound (inner_in (way.While (suc n - 1)) y bound).list ++ ((inner_in (way.While (suc n - 1)) y bound).after ++ rest)) e
            ∙ ap (λ (k : ℕ). on bound list ++ Again c k list bound ∷ rest) one)),
        d,
      )

  arm : (y : Stmt-F Stmt) → out-Stmt s ≡ y → Begins g bound y x r → Goes body x (begun g y bound rest x.words) r
  arm (Stmt-F.Assign y a) e b = (b.0, ap (items_left body) b.1, b.2)
  arm (Stmt-F.Store y i a) e b = (b.0, ap (items_left body) b.1, b.2)
  arm (Stmt-F.If c as' bs) e b = (b.0, ap (items_left body) b.1 ∙ chosen (holds g x.words bound c) c as' bs e, b.2)
  arm (Stmt-F.For w n list) e b = (b.0, ap (items_left body) b.1 ∙ turned w n list e, b.2)
  arm (Stmt-F.While c zero list) e b = looped (holds g x.words bound c) c zero list e b.0 b.1 b.2
  arm (Stmt-F.While c (suc n) list) e b = looped (holds g x.words bound c) c (suc n) list e b.0 b.1 b.2
  arm (Stmt-F.SetInput k a) e b = (b.0, ap (items_left body) b.1, b.2)
  arm Stmt-F.Tick e b = (b.0, ap (items_left body) b.1, b.2)
  arm Stmt-F.CopyTick e b = (b.0, ap (items_left body) b.1, b.2)
  arm (Stmt-F.Query y k as') e b = (b.0, ap (items_left body) b.1, b.2)

  pub begins-moves : Begins g bound (out-Stmt s) x r → Moves g body x r
  begins-moves b = rw (left-next body x.from s at) (arm (out-Stmt s) refl b)

-- a loop's test that comes again
module _ (g : Setting) (body : List Stmt) (x : Doing) (r : Part) (s : Stmt) (at : slice_get (here_of body x.from).list (x.from.place - 1) ≡ Some s) where
  abbrev around : Words
  around = (here_of body x.from).bound

  abbrev outside : List Item
  outside = items_left body x.from

  abbrev came : Bool → Expr → ℕ → List Stmt → Next
  came t c zero list = if t then NoTurns else Went outside x.words
  came t c (suc j) list = if t then Went (on around list ++ Again c j list around ∷ outside) x.words else Went outside x.words

  retried : (t : Bool) (c : Expr) (n j : ℕ) (list : List Stmt) → out-Stmt s ≡ Stmt-F.While c n list →
      r ≡ (if t then (if j == 0 then part.NoTurns else part.Ran) else part.Ran) →
      x.to ≡ (if t then (if j == 0 then x.from else entered x.from (way.While (j - 1))) else x.from) →
      x.after ≡ x.words → Goes body x (came t c j list) r
  retried true c n zero list e a b d = (a, d)
  retried false c n zero list e a b d = (a, ap (items_left body) b, d)
  retried false c n (suc j) list e a b d = (a, ap (items_left body) b, d)
  retried true c n (suc j) list e a b d =
      let ran : r ≡ part.Ran = rw (not_zero j) at a in
      let place : x.to ≡ entered x.from (way.While (suc j - 1)) = rw (not_zero j) at b in
      let one : suc j - 1 ≡ j = omega arith in (
        ran,
        ap (items_left body) place
            ∙ (left-entered body x.from (way.While (suc j - 1))
            ∙ (ap (λ (o : Option Stmt). on (inner_of (way.While (suc j - 1)) o around).bound (inner_of (way.While (suc j - 1)) o around).list ++ ((inner_of (way.While (suc j - 1)) o around).after ++ outside)) at
            ∙ (ap (λ (y : Stmt-F Stmt). on (inner_in (way.While (suc j - 1)) y around).bound (inner_in (way.While (suc j - 1)) y around).list ++ ((inner_in (way.While (suc j - 1)) y around).after ++ outside)) e
            ∙ ap (λ (k : ℕ). on around list ++ Again c k list around ∷ outside) one))),
        d,
      )

  retest : (j : ℕ) (y : Stmt-F Stmt) → out-Stmt s ≡ y → while_in y → Retests g around j y x r → Goes body x (next g ((inner_in (way.While j) y around).after ++ outside) x.words) r
  retest zero (Stmt-F.While c n list) e h b = retried (holds g x.words around c) c n zero list e b.0 b.1 b.2
  retest (suc j) (Stmt-F.While c n list) e h b = retried (holds g x.words around c) c n (suc j) list e b.0 b.1 b.2
  retest j _ e h b = absurd h

  pub retests-tests : (j : ℕ) → while_in (out-Stmt s) → Retests g around j (out-Stmt s) x r → Tests g body j x r
  retests-tests j h b =
      let is : after_list body x.from (way.While j) ≡ (inner_in (way.While j) (out-Stmt s) around).after = ap (λ (o : Option Stmt). (inner_of (way.While j) o around).after) at in
      rw is (retest j (out-Stmt s) refl h b)
