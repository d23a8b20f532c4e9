-- From a state of a wire segment to the next tick of a step, over the words that are there.
use Rattle.std.proofs.Common.{◌≡◌, ℕ, zero, suc, ◌+◌, ◌*◌, ◌==◌, length, ◌⊎◌, inl, inr, [], ◌∷◌, ◌++◌, Bool, true, false, refl, subst, if◌then◌else◌}
use Rattle.knox_words.specs.Lists.{Words}
use Rattle.knox_theory.specs.Design.{Design}
use Rattle.knox_theory.specs.Script.{Cut, FitsState, Havoc, Invariant, is_paced, Label, leads, Place, Replace, Script, Split, State, Step, Subsume, WireItems}
use Rattle.knox_theory.specs.Course.{Arrival, Course, Missed, reach, Reached, Safe}
use Rattle.knox_theory.specs.WireSegments.{Absent, arrives, cut_course, cut_places, either, enters, filled, find, never, passed, rebased, steps, subsumes, Target, ToCut, ToLabel, wire_course, wire_places}
use Rattle.knox_theory.proofs.Basics.{and-left, and-right, same_state-equal}
use Rattle.knox_theory.proofs.Safety.{enters-goes, check-holds, check-goes, assume-goes, mark-goes, take-goes, takes-go, Comes, fork-goes}
use Rattle.knox_theory.proofs.Landing.{real, Sound, sound-yes, sound-no, Landing, wire-landing, cut-landing}

passed-if : {A : Type 0} (v : Bool) (x y : Target) (l : ℕ) (p : Place) → passed l (if v then x else y) p ≡ true → (passed l x p ≡ true → A) → (passed l y p ≡ true → A) → A
passed-if true x y l p e f g = f e
passed-if false x y l p e f g = g e

passed-either : {A : Type 0} (x y : Target) (l : ℕ) (p : Place) → passed l (either x y) p ≡ true → (passed l x p ≡ true → A) → (passed l y p ≡ true → A) → A
passed-either Absent y l p e f g = g e
passed-either (ToCut c) y l p e f g = f e
passed-either (ToLabel n pins t) y l p e f g = f e

module _ {P : Type 0} (d : Design P) (s : Script P) where
  -- the state st stands before a tick of a step
  pub record Standing (st : State) : Type 0 where
    pub hint : ℕ
    pub count : ℕ
    pub items : WireItems
    pub taken : Words
    pub sound : Sound d s items
    pub safe : Safe (steps d s hint (suc count) (record { state = st; taken = taken }) (λ q. real d s items q))

  -- a subsume that holds in this state leads to a step
  abbrev Jump : State → Type 0
  Jump st = (l : ℕ) (taken : Words) → subsumes d s l (record { state = st; taken = taken }) ≡ true → Standing st

  -- either no subsume comes before the next step, or each one leads to a step
  abbrev Way : WireItems → State → Type 0
  Way items st = (leads items ≡ true) ⊎ Jump st

  way-yes : (h : ℕ) (t : Place → Bool) (a b : WireItems) (st : State) → Way (Split h t a b) st → Way a st
  way-yes h t a b st (inl e) = inl (and-left (leads a) (leads b) e)
  way-yes h t a b st (inr j) = inr j

  way-no : (h : ℕ) (t : Place → Bool) (a b : WireItems) (st : State) → Way (Split h t a b) st → Way b st
  way-no h t a b st (inl e) = inl (and-right (leads a) (leads b) e)
  way-no h t a b st (inr j) = inr j

  way-jump : (h l : ℕ) (st : State) (taken : Words) → Way (Subsume h l) st → subsumes d s l (record { state = st; taken = taken }) ≡ true → Standing st
  way-jump h l st taken (inl e) ok = cc
  way-jump h l st taken (inr j) ok = j l taken ok

  -- the state of a fitting place, from the words that a cut's segment takes
  filled-same : (st : State) → FitsState d st → filled d st.fields (d.cells.strip st.cells) st.emu (d.copy.strip st.copy) ≡ st
  filled-same st f = λ i. record { fields = st.fields; cells = f.cells.whole i; emu = st.emu; copy = f.copy.whole i }

  -- a cut's segment takes the state that is there
  record Entered (st : State) (rest : WireItems) : Type 0 where
    taken : Words
    safe : Safe (real d s rest (record { state = st; taken = taken }))

  enter : (e : State → Bool) (rest : WireItems) (st : State) → FitsState d st → e st ≡ true → Safe (cut_course d s (subsumes d s) e rest) → Entered st rest
  enter e rest st f ok safe =
      let x = d.cells.strip st.cells in
      let k = d.copy.strip st.copy in
      let words : Words = st.fields ++ (x ++ (st.emu ++ k)) in
      let safe1 = takes-go d.copy.widths _ (takes-go d.emu _ (takes-go d.cells.widths _ (takes-go d.fields _ safe st.fields f.fields) x f.cells.taken) st.emu f.emu) k f.copy.taken in
      let safe2 = subst (λ z. Safe (enters (e z) (real d s rest (record { state = z; taken = words })))) (filled-same st f) safe1 in
      record { taken = words; safe = enters-goes ok safe2 }

  -- to the next step
  settle : (items : WireItems) (st : State) (taken : Words) → FitsState d st → Way items st → Sound d s items → Safe (real d s items (record { state = st; taken = taken })) → Standing st
  settle (Step h zero rest) st taken f way g safe = settle rest st taken f way (record { cuts = g.cuts; paced = g.paced; locs = g.locs }) safe
  settle (Step h (suc n) rest) st taken f way g safe = record { hint = h; count = n; items = rest; taken = taken; sound = record { cuts = g.cuts; paced = g.paced; locs = g.locs }; safe = safe }
  settle (Split h t a b) st taken f way g safe =
      fork-goes (t (record { state = st; taken = taken })) _ _ safe
      (λ safe1. settle a st taken f (way-yes h t a b st way) (sound-yes d s h t a b g) safe1)
      (λ safe1. settle b st taken f (way-no h t a b st way) (sound-no d s h t a b g) safe1)
  settle (Invariant h e rest) st taken f way g safe = settle rest st taken f way (record { cuts = g.cuts; paced = g.paced; locs = g.locs }) (check-goes safe)
  settle (Replace h a b rest) st taken f way g safe = settle rest st taken f way (record { cuts = g.cuts; paced = g.paced; locs = g.locs }) (check-goes safe)
  settle (Havoc h x e rest) st taken f way g safe =
      let b = x.get st in
      let more : Words = taken ++ b ∷ [] in
      let safe1 = assume-goes (check-holds safe) (take-goes (check-goes safe) b (g.locs.0.fits st f)) in
      settle rest st more f way (record { cuts = g.cuts; paced = g.paced; locs = g.locs.1 })
      (subst (λ z. Safe (real d s rest (record { state = z; taken = more }))) (g.locs.0.same st f) safe1)
  settle (Label m pins rest) st taken f way g safe =
      settle rest st taken f way (record { cuts = g.cuts; paced = and-right (leads rest) (is_paced rest) g.paced; locs = g.locs }) (mark-goes safe)
  settle (Cut h e rest) st taken f way g safe =
      let in_cut = enter e rest st f (check-holds safe) g.cuts.0 in
      settle rest st in_cut.taken f way (record { cuts = g.cuts.1; paced = and-right (leads rest) (is_paced rest) g.paced; locs = g.locs }) in_cut.safe
  settle (Subsume h l) st taken f way g safe = way-jump h l st taken way (check-holds safe)

  -- what a run to a label's place gives where its state is the present one
  arrived : (l : ℕ) (t : Course) (cs : Words) (st : State) → FitsState d st → (a : Arrival) → reach l t cs ≡ a →
      ((q : Place) → Comes l t cs q → Landing d s q) → arrives a st ≡ true → Standing st
  arrived l t cs st f Missed is land e = cc
  arrived l t cs st f (Reached q) is land e =
      let there = land q (record { reached = is }) in
      let same : q.state ≡ st = same_state-equal q.state st e in
      settle there.items st q.taken f (inl there.leading) there.sound
      (subst (λ z. Safe (real d s there.items (record { state = z; taken = q.taken }))) same there.safe)

  -- the target of a subsume that holds leads to a step
  found : (items : WireItems) (n : ℕ) (t : Course) → ((l : ℕ) (cs : Words) (q : Place) → Comes l t cs q → Landing d s q) → Sound d s items →
      (l : ℕ) (st : State) (taken : Words) → FitsState d st → passed l (find d s l items n t) (record { state = st; taken = taken }) ≡ true → Standing st
  found (Step h k rest) n t land g l st taken f e = found rest (n + k * length d.device.ins) t land (record { cuts = g.cuts; paced = g.paced; locs = g.locs }) l st taken f e
  found (Split h c a b) n t land g l st taken f e =
      passed-either (find d s l a n t) (find d s l b n t) l (record { state = st; taken = taken }) e
      (λ e1. found a n t land (sound-yes d s h c a b g) l st taken f e1)
      (λ e1. found b n t land (sound-no d s h c a b g) l st taken f e1)
  found (Invariant h c rest) n t land g l st taken f e = found rest n t land (record { cuts = g.cuts; paced = g.paced; locs = g.locs }) l st taken f e
  found (Replace h a b rest) n t land g l st taken f e = found rest n t land (record { cuts = g.cuts; paced = g.paced; locs = g.locs }) l st taken f e
  found (Havoc h x c rest) n t land g l st taken f e = found rest (n + 1) t land (record { cuts = g.cuts; paced = g.paced; locs = g.locs.1 }) l st taken f e
  found (Label m pins rest) n t land g l st taken f e =
      let sound : Sound d s rest = record { cuts = g.cuts; paced = and-right (leads rest) (is_paced rest) g.paced; locs = g.locs } in
      passed-if (l == m) (ToLabel n pins t) (find d s l rest n t) l (record { state = st; taken = taken }) e
      (λ e1. arrived l t (rebased 0 n pins st taken) st f _ refl (λ q c. land l (rebased 0 n pins st taken) q c) e1)
      (λ e1. found rest n t land sound l st taken f e1)
  found (Cut h c rest) n t land g l st taken f e =
      let sound : Sound d s rest = record { cuts = g.cuts.1; paced = and-right (leads rest) (is_paced rest) g.paced; locs = g.locs } in
      passed-if (l == h) (ToCut c) (find d s l rest (cut_places d) (cut_course d s never c rest)) l (record { state = st; taken = taken }) e
      (λ e1.
      let in_cut = enter c rest st f e1 g.cuts.0 in
      settle rest st in_cut.taken f (inl (and-left (leads rest) (is_paced rest) g.paced)) sound in_cut.safe)
      (λ e1. found rest (cut_places d) (cut_course d s never c rest) (cut-landing d s c rest g.cuts.0 sound) sound l st taken f e1)
  found (Subsume h m) n t land g l st taken f e = cc

  -- The walk of a closed script: from any state of a safe course to the next step.
  pub advance : Safe (wire_course d s (subsumes d s)) → Sound d s s.wire →
      (items : WireItems) (st : State) (taken : Words) → FitsState d st → Sound d s items → Safe (real d s items (record { state = st; taken = taken })) → Standing st
  advance closed whole items st taken f g safe =
      settle items st taken f (inr (λ l more e. found s.wire (wire_places d) (wire_course d s never) (wire-landing d s closed whole) whole l st more f e)) g safe
