-- The test that the next part meets stands at the statement that comes next, or that was begun last.
use Rattle.std.proofs.Common.{◌≡◌, ℕ, zero, suc, ◌-◌, ◌<◌, List, [], ◌∷◌, ◌++◌, length, slice_get, Option, Some, None, refl, sym, ◌∙◌, ap, arith}
use Rattle.knox_words.specs.Lists.{Words}
use Rattle.knox_lang.specs.declared.expr.Stmt.{Stmt, out-Stmt}
use Rattle.knox_lang.specs.declared.expr.Stmt.TheOpen.{Stmt-F}
use Rattle.driver_machine.specs.declared.position.Way.TheVariants as way
use Rattle.driver_machine.specs.declared.position.Position.{Position}
use Rattle.driver_machine.specs.Sight.{Run, Setting}
use Rattle.driver_machine.specs.Left.{Item, test_of, next_tests}
use Rattle.driver_machine.specs.Place.{inner_in, inner_of, top, items_left, after_list, while_in, while_at, IsAtWhile, IsAtStatement}
use Rattle.driver_machine.specs.Begins.{stmt_tests, tests_at}
use Rattle.driver_machine.proofs.Arms.{left-next}

none-there : (ss : List Stmt) (k : ℕ) → k < length ss → slice_get ss k ≡ None → ⊥
none-there [] k h e = absurd (omega arith)
none-there (x ∷ ss) zero h e = cc
none-there (x ∷ ss) (suc k) h e = none-there ss k (omega arith) e

module _ (g : Setting) (body : List Stmt) (run : Run) where
  at-next : (p : Position) (o : Option Stmt) → slice_get (top body [] p.frames).list p.place ≡ o → IsAtStatement body p → stmt_tests g (top body [] p.frames).bound o run ≡ next_tests g (items_left body p) run
  at-next p None e h = absurd (none-there (top body [] p.frames).list p.place h e)
  at-next p (Some s) e h = sym (ap (λ (items : List Item). next_tests g items run) (left-next body p s e))

  pub statement-tests : (p p' : Position) → items_left body p' ≡ items_left body p → IsAtStatement body p' → tests_at g body p' p'.place run ≡ next_tests g (items_left body p) run
  statement-tests p p' e h = at-next p' (slice_get (top body [] p'.frames).list p'.place) refl h ∙ ap (λ (items : List Item). next_tests g items run) e

  in-while : (j : ℕ) (y : Stmt-F Stmt) (bound : Words) (rest : List Item) → while_in y → test_of g y bound run ≡ next_tests g ((inner_in (way.While j) y bound).after ++ rest) run
  in-while j (Stmt-F.While e n list) bound rest h = refl
  in-while j _ bound rest h = absurd h

  of-while : (j : ℕ) (o : Option Stmt) (bound : Words) (rest : List Item) → while_at o → stmt_tests g bound o run ≡ next_tests g ((inner_of (way.While j) o bound).after ++ rest) run
  of-while j None bound rest h = absurd h
  of-while j (Some s) bound rest h = in-while j (out-Stmt s) bound rest h

  pub again-tests : (p p' : Position) (j : ℕ) → items_left body p ≡ after_list body p' (way.While j) ++ items_left body p' → IsAtWhile body p' → tests_at g body p' (p'.place - 1) run ≡ next_tests g (items_left body p) run
  again-tests p p' j e h =
      of-while j (slice_get (top body [] p'.frames).list (p'.place - 1)) (top body [] p'.frames).bound (items_left body p') h ∙ ap (λ (items : List Item). next_tests g items run) (sym e)

pub ruleset meeting = (statement-tests, again-tests)
