-- The tests that are left, part by part, are those of the next part and of what follows it; move by move they are the same.
use Rattle.std.proofs.Common.{◌≡◌, ℕ, zero, suc, ◌≤◌, List, [], ◌++◌, append_assoc, append-nil, Bool, refl, sym, ◌∙◌, ap, subst, arith}
use Rattle.knox_words.specs.Lists.{Words}
use Rattle.knox_theory.specs.Design.{Config, Design, go_tests, finish_tests}
use Rattle.knox_circuit.specs.Line.{Line}
use Rattle.knox_lang.specs.declared.parts.DriverParts.{DriverParts}
use Rattle.driver_machine.specs.Left.{Left, Rest, Over, step, step_tests}
use Rattle.driver_machine.specs.Moves.{steps, steps_tests, parts_left, move, move_tests}
use Rattle.driver_machine.specs.Outcomes.{tests_left}
use Rattle.driver_machine.specs.Lawful.{HasDriver}
use Rattle.driver_machine.proofs.Lowers.{step-lowers}
use Rattle.driver_machine.proofs.Moving.{is-move, move-lowers}

module _ (lines : List Line) (d : DriverParts) where
  -- behind the end there are none
  none-left : (n : ℕ) (left : Left) (cells inputs locals : Words) → parts_left left ≤ 0 →
      steps_tests lines d n (record { left = left; cells = cells; inputs = inputs; locals = locals }) ≡ []
  none-left zero left cells inputs locals h = refl
  none-left (suc n) (Over r) cells inputs locals h = none-left n (Over r) cells inputs locals h
  none-left (suc n) (Rest items args result) cells inputs locals h = absurd (omega arith)

  -- so more parts than are left meet no more tests
  enough : (m n : ℕ) (c : Config Left) → parts_left c.left ≤ m → parts_left c.left ≤ n → steps_tests lines d m c ≡ steps_tests lines d n c
  enough zero n c h k = sym (none-left n c.left c.cells c.inputs c.locals h)
  enough (suc m) zero c h k = none-left (suc m) c.left c.cells c.inputs c.locals k
  enough (suc m) (suc n) c h k =
      let less = step-lowers lines d c in
      ap (λ (ts : List Bool). step_tests lines d c ++ ts) (enough m n (step lines d c) (omega arith) (omega arith))

  first-tests : (c : Config Left) → step_tests lines d c ++ tests_left lines d (step lines d c) ≡ tests_left lines d c
  first-tests c =
      let less = step-lowers lines d c in
      ap (λ (ts : List Bool). step_tests lines d c ++ ts) (enough (parts_left (step lines d c).left) (parts_left c.left) (step lines d c) (omega arith) (omega arith))
      ∙ enough (suc (parts_left c.left)) (parts_left c.left) c (omega arith) (omega arith)

  behind-tests : (k : ℕ) (c : Config Left) → steps_tests lines d k c ++ tests_left lines d (steps lines d k c) ≡ tests_left lines d c
  behind-tests zero c = refl
  behind-tests (suc k) c =
      append_assoc (step_tests lines d c) (steps_tests lines d k (step lines d c)) (tests_left lines d (steps lines d k (step lines d c)))
      ∙ (ap (λ (ts : List Bool). step_tests lines d c ++ ts) (behind-tests k (step lines d c)) ∙ first-tests c)

  move-first : (c : Config Left) → move_tests lines d c ++ tests_left lines d (move lines d c) ≡ tests_left lines d c
  move-first c = let m = is-move lines d c in (λ i. m.tests i ++ tests_left lines d (m.place i)) ∙ behind-tests m.parts c

  -- over any design with this driver
  module _ (g : Design Left) (has : HasDriver lines d g) where
    go-all : (n : ℕ) (c : Config Left) → parts_left c.left ≤ n → go_tests g n c ≡ tests_left lines d c
    go-all zero c h = sym (none-left (parts_left c.left) c.left c.cells c.inputs c.locals h)
    go-all (suc n) c h =
        let less = move-lowers lines d c in
        let few : parts_left (g.move c).left ≤ n = subst (λ (x : Config Left). parts_left x.left ≤ n) (sym (has.move c)) (omega arith) in
        ap (λ (ts : List Bool). ts ++ go_tests g n (g.move c)) (has.move_tests c)
        ∙ (ap (λ (ts : List Bool). move_tests lines d c ++ ts) (go-all n (g.move c) few ∙ ap (tests_left lines d) (has.move c)) ∙ move-first c)

    pub finish-all : (c : Config Left) → finish_tests g c ≡ tests_left lines d c
    finish-all c =
        let t : g.ticks_left c ≡ parts_left c.left = has.ticks_left c in
        go-all (suc (g.ticks_left c)) c (omega arith)

-- one more part, and the last one: `before` was met already
pub more-tests : (lines : List Line) (d : DriverParts) (c c' : Config Left) (before met whole : List Bool) → met ≡ step_tests lines d c → c' ≡ step lines d c →
    before ++ tests_left lines d c ≡ whole → (before ++ met) ++ tests_left lines d c' ≡ whole
more-tests lines d c c' before met whole m e h =
    (λ i. (before ++ m i) ++ tests_left lines d (e i))
    ∙ (append_assoc before (step_tests lines d c) (tests_left lines d (step lines d c))
    ∙ (ap (λ (ts : List Bool). before ++ ts) (first-tests lines d c) ∙ h))

pub last-tests : (lines : List Line) (d : DriverParts) (c c' : Config Left) (before met whole : List Bool) → met ≡ step_tests lines d c → c' ≡ step lines d c → parts_left c'.left ≡ 0 →
    before ++ tests_left lines d c ≡ whole → before ++ met ≡ whole
last-tests lines d c c' before met whole m e none h =
    sym (append-nil (before ++ met))
    ∙ (ap (λ (ts : List Bool). (before ++ met) ++ ts) (sym (none-left lines d (parts_left c'.left) c'.left c'.cells c'.inputs c'.locals (omega arith)))
    ∙ more-tests lines d c c' before met whole m e h)
