-- The moves from a place of a body to its end come to what the place means.
use Rattle.std.proofs.Common.{◌≡◌, ℕ, zero, suc, ◌-◌, ◌≤◌, List, [], ◌++◌, ◌||◌, Bool, true, false, if◌then◌else◌, refl, sym, ◌∙◌, ap, subst, arith}
use Rattle.knox_words.specs.Lists.{Words}
use Rattle.knox_theory.specs.Device.{Reply}
use Rattle.knox_theory.specs.Design.{Config, Design, go, finish}
use Rattle.knox_circuit.specs.Line.{Line}
use Rattle.knox_lang.specs.declared.parts.DriverParts.{DriverParts}
use Rattle.driver_machine.specs.Left.{Left, Rest, Over, step, step_ticks, step_tests, is_over, ended, reply}
use Rattle.driver_machine.specs.Moves.{IsMove, steps, steps_tests, has_tick, has_early_tick, parts_left, until_tick, tests_until_tick, move, move_tests}
use Rattle.driver_machine.specs.Means.{means}
use Rattle.driver_machine.specs.Lawful.{HasDriver}
use Rattle.driver_machine.proofs.Meaning.{step-means}
use Rattle.driver_machine.proofs.Lowers.{step-lowers}

module _ (lines : List Line) (d : DriverParts) where
  either-means : (t : Bool) (a b c : Config Left) → means lines d a ≡ means lines d c → means lines d b ≡ means lines d c → means lines d (if t then a else b) ≡ means lines d c
  either-means true a b c e f = e
  either-means false a b c e f = f

  until-means : (n : ℕ) (c : Config Left) → means lines d (until_tick lines d n c) ≡ means lines d c
  until-means zero c = refl
  until-means (suc n) c =
      either-means (step_ticks lines d c) (step lines d c) (until_tick lines d n (step lines d c)) c
      (step-means lines d c) (until-means n (step lines d c) ∙ step-means lines d c)

  pub move-means : (c : Config Left) → means lines d (move lines d c) ≡ means lines d c
  move-means c = until-means (parts_left c.left) c

  either-lowers : (t : Bool) (a b : Config Left) (m : ℕ) → parts_left a.left ≤ m → parts_left b.left ≤ m → parts_left ((if t then a else b).left) ≤ m
  either-lowers true a b m e f = e
  either-lowers false a b m e f = f

  until-lowers : (n : ℕ) (c : Config Left) → parts_left (until_tick lines d n c).left ≤ parts_left c.left
  until-lowers zero c = omega arith
  until-lowers (suc n) c =
      let one = step-lowers lines d c in
      let more = until-lowers n (step lines d c) in
      either-lowers (step_ticks lines d c) (step lines d c) (until_tick lines d n (step lines d c)) (parts_left c.left) (omega arith) (omega arith)

  some-lowers : (n : ℕ) (c : Config Left) → parts_left (until_tick lines d (suc n) c).left ≤ parts_left c.left - 1
  some-lowers n c =
      let one = step-lowers lines d c in
      let more = until-lowers n (step lines d c) in
      either-lowers (step_ticks lines d c) (step lines d c) (until_tick lines d n (step lines d c)) (parts_left c.left - 1) one (omega arith)

  by-parts : (m : ℕ) (c : Config Left) → parts_left c.left ≡ m → parts_left (until_tick lines d m c).left ≤ m - 1
  by-parts zero c e = omega arith
  by-parts (suc m) c e = let h = some-lowers m c in omega arith

  -- a move leaves fewer parts, and at the end none
  pub move-lowers : (c : Config Left) → parts_left (move lines d c).left ≤ parts_left c.left - 1
  move-lowers c = by-parts (parts_left c.left) c refl

  none-over : (left : Left) → parts_left left ≤ 0 → is_over left ≡ true
  none-over (Over r) h = refl
  none-over (Rest items args result) h = absurd (omega arith)

  -- at the end the meaning is there
  over-means : (left : Left) (cells inputs locals : Words) → is_over left ≡ true → means lines d (record { left = left; cells = cells; inputs = inputs; locals = locals }) ≡ (reply left, cells)
  over-means (Over r) cells inputs locals h = refl
  over-means (Rest items args result) cells inputs locals h = cc

  over-move : (left : Left) (cells inputs locals : Words) → is_over left ≡ true →
      move lines d (record { left = left; cells = cells; inputs = inputs; locals = locals }) ≡ record { left = left; cells = cells; inputs = inputs; locals = locals }
  over-move (Over r) cells inputs locals h = refl
  over-move (Rest items args result) cells inputs locals h = cc

  over-tests : (left : Left) (cells inputs locals : Words) → is_over left ≡ true → move_tests lines d (record { left = left; cells = cells; inputs = inputs; locals = locals }) ≡ []
  over-tests (Over r) cells inputs locals h = refl
  over-tests (Rest items args result) cells inputs locals h = cc

  pub ended-move : (c : Config Left) → ended c ≡ true → move lines d c ≡ c
  ended-move c h = over-move c.left c.cells c.inputs c.locals h

  pub ended-tests : (c : Config Left) → ended c ≡ true → move_tests lines d c ≡ []
  ended-tests c h = over-tests c.left c.cells c.inputs c.locals h

  -- a move of at most m parts, part by part
  record Parted (m : ℕ) (c : Config Left) : Type 0 where
    parts : ℕ
    place : until_tick lines d m c ≡ steps lines d parts c
    tests : tests_until_tick lines d m c ≡ steps_tests lines d parts c
    early : has_early_tick lines d parts c ≡ false
    last : has_tick lines d parts c || ended (steps lines d parts c) ≡ true

  ticked-parted : (m : ℕ) (c : Config Left) → step_ticks lines d c ≡ true → Parted (suc m) c
  ticked-parted m c e = record {
    parts = 1;
    place = ap (λ (t : Bool). if t then step lines d c else until_tick lines d m (step lines d c)) e;
    tests = ap (λ (t : Bool). step_tests lines d c ++ (if t then [] else tests_until_tick lines d m (step lines d c))) e;
    early = refl;
    last = ap (λ (t : Bool). (t || false) || ended (step lines d c)) e;
  }

  later-early : (n : ℕ) (c : Config Left) → step_ticks lines d c ≡ false → has_early_tick lines d n (step lines d c) ≡ false → has_early_tick lines d (suc n) c ≡ false
  later-early zero c e h = refl
  later-early (suc n) c e h = ap (λ (t : Bool). t || has_early_tick lines d (suc n) (step lines d c)) e ∙ h

  later-parted : (m : ℕ) (c : Config Left) → step_ticks lines d c ≡ false → Parted m (step lines d c) → Parted (suc m) c
  later-parted m c e p = record {
    parts = suc p.parts;
    place = ap (λ (t : Bool). if t then step lines d c else until_tick lines d m (step lines d c)) e ∙ p.place;
    tests = ap (λ (t : Bool). step_tests lines d c ++ (if t then [] else tests_until_tick lines d m (step lines d c))) e ∙ ap (λ (ts : List Bool). step_tests lines d c ++ ts) p.tests;
    early = later-early p.parts c e p.early;
    last = ap (λ (t : Bool). (t || has_tick lines d p.parts (step lines d c)) || ended (steps lines d p.parts (step lines d c))) e ∙ p.last;
  }

  by_tick : (m : ℕ) (c : Config Left) (t : Bool) → step_ticks lines d c ≡ t → Parted m (step lines d c) → Parted (suc m) c
  by_tick m c true e p = ticked-parted m c e
  by_tick m c false e p = later-parted m c e p

  parted : (m : ℕ) (c : Config Left) → parts_left c.left ≤ m → Parted m c
  parted zero c h = record { parts = 0; place = refl; tests = refl; early = refl; last = none-over c.left h }
  parted (suc m) c h =
      let less = step-lowers lines d c in
      by_tick m c (step_ticks lines d c) refl (parted m (step lines d c) (omega arith))

  pub is-move : (c : Config Left) → IsMove lines d c
  is-move c =
      let p = parted (parts_left c.left) c (omega arith) in
      record { parts = p.parts; place = p.place; tests = p.tests; early = p.early; last = p.last }

  -- over any design with this driver
  module _ (g : Design Left) (has : HasDriver lines d g) where
    go-means : (n : ℕ) (c : Config Left) → means lines d (go g n c) ≡ means lines d c
    go-means zero c = refl
    go-means (suc n) c = go-means n (g.move c) ∙ (ap (means lines d) (has.move c) ∙ move-means c)

    go-lowers : (n : ℕ) (c : Config Left) → parts_left (go g n c).left ≤ parts_left c.left - n
    go-lowers zero c = omega arith
    go-lowers (suc n) c =
        let one : parts_left (g.move c).left ≤ parts_left c.left - 1 = subst (λ (x : Config Left). parts_left x.left ≤ parts_left c.left - 1) (sym (has.move c)) (move-lowers c) in
        let more = go-lowers n (g.move c) in
        omega arith

    -- the end is reached
    pub finish-over : (c : Config Left) → is_over (finish g c).left ≡ true
    finish-over c =
        let t : g.ticks_left c ≡ parts_left c.left = has.ticks_left c in
        let h = go-lowers (suc (g.ticks_left c)) c in
        none-over (finish g c).left (omega arith)

    -- the reply and the cells at the end are what the place means
    pub finish-means : (c : Config Left) → (g.reply (finish g c).left, (finish g c).cells) ≡ means lines d c
    finish-means c =
        let f = finish g c in
        ap (λ (r : Reply). (r, f.cells)) (has.reply f.left)
        ∙ (sym (over-means f.left f.cells f.inputs f.locals (finish-over c)) ∙ go-means (suc (g.ticks_left c)) c)
