-- The dialogue of a tick is the tick: who is asked in the dialogue is asked the same by the statements.
use Rattle.std.proofs.Common.{◌≡◌, ℕ, zero, suc, ◌==◌, ◌++◌, if◌then◌else◌, List, [], ◌∷◌, Bool, true, false, refl, ap, sym, ◌∙◌, subst, map}
use Rattle.knox_words.specs.Bits.{Bits, word_or}
use Rattle.knox_words.specs.Lists.{Words}
use Rattle.knox_theory.specs.Device.{Asking, Ask, Ended, Ticked, answered}
use Rattle.knox_circuit.specs.Circuit.{Circuit}
use Rattle.knox_lang.specs.declared.expr.Stmt.{Stmt, roll-Stmt, fold-roll-Stmt, ind-Stmt, map-Stmt}
use Rattle.knox_lang.specs.declared.expr.Stmt.TheOpen.{Stmt-F}
use Rattle.knox_lang.specs.declared.parts.SpecParts.{SpecParts}
use Rattle.knox_lang.specs.declared.parts.DriverParts.{DriverParts}
use Rattle.knox_lang.specs.declared.parts.EmuParts.{EmuParts}
use Rattle.knox_lang.specs.declared.scope.Spaces.{Spaces}
use Rattle.knox_lang.specs.Scope.{scope}
use Rattle.knox_lang.specs.Operation.{start_of}
use Rattle.knox_lang.specs.Eval.{Calls, eval, called}
use Rattle.knox_lang.specs.Exec.{Answering, Does, in_order, turns, stmt_level, does, does_all}
use Rattle.emu_machine.specs.Emulator.{Answerer, answering, body_words, emulator_after_tick, fields_after_tick}
use Rattle.emu_machine.specs.Dialogue.{Talk, talks, talk_turns, talk_level, talk_of, talk_of_all, tick_dialogue}
use Rattle.device_design.specs.Meaning.{device_of}

-- what is there after a dialogue, and the one who was asked in it
abbrev pub hear : (A : Type 0) → Answering A → A → Asking → (Words × Words) × A
hear A q a (Ask o args next) = hear A q (q.after a o args) (next (q.reply a o args))
hear A q a (Ended emu copy) = ((emu, copy), a)

module _ (A : Type 0) (q : Answering A) (calls : Calls) where
  -- a statement's dialogue goes on from the words that the statement leaves, with the one who was asked
  abbrev pub GoesOn : Stmt → Type 0
  GoesOn s = (st : Spaces × A) (bound : List Bits) (next : Spaces → Asking) →
      hear A q st.1 (talk_of calls s st.0 bound next) ≡ hear A q (does A calls q s st bound).1 (next (does A calls q s st bound).0)

  abbrev Shown : Type 0
  Shown = (s : Stmt) × GoesOn s

  abbrev talking : Stmt → Talk
  talking s = talk_of calls s

  abbrev doing : Stmt → Does A
  doing s = does A calls q s

  abbrev talks_in : List Shown → Talk
  talks_in ss = talks (map talking (map (λ (s : Shown). s.0) ss))

  abbrev done_in : List Shown → Does A
  done_in ss = in_order A (map doing (map (λ (s : Shown). s.0) ss))

  list-goes-on : (ss : List Shown) (st : Spaces × A) (bound : List Bits) (next : Spaces → Asking) →
      hear A q st.1 (talks_in ss st.0 bound next) ≡ hear A q (done_in ss st bound).1 (next (done_in ss st bound).0)
  list-goes-on [] st bound next = refl
  list-goes-on (s ∷ ss) st bound next = s.1 st bound (λ after. talks_in ss after bound next) ∙ list-goes-on ss (doing s.0 st bound) bound next

  turns-go-on : (ss : List Shown) (w n : ℕ) (st : Spaces × A) (bound : List Bits) (next : Spaces → Asking) →
      hear A q st.1 (talk_turns (talks_in ss) w n st.0 bound next) ≡ hear A q (turns A (done_in ss) w n st bound).1 (next (turns A (done_in ss) w n st bound).0)
  turns-go-on ss w zero st bound next = refl
  turns-go-on ss w (suc n) st bound next =
      turns-go-on ss w n st bound (λ after. talks_in ss after (bound ++ word_or w n ∷ []) next)
      ∙ list-goes-on ss (turns A (done_in ss) w n st bound) (bound ++ word_or w n ∷ []) next

  either-goes-on : (t : Bool) (x y : Asking) (u v : Spaces × A) (a : A) (next : Spaces → Asking) → hear A q a x ≡ hear A q u.1 (next u.0) → hear A q a y ≡ hear A q v.1 (next v.0) →
      hear A q a (if t then x else y) ≡ hear A q (if t then u else v).1 (next (if t then u else v).0)
  either-goes-on true x y u v a next e f = e
  either-goes-on false x y u v a next e f = f

  at_level : (y : Stmt-F Shown) (st : Spaces × A) (bound : List Bits) (next : Spaces → Asking) →
      hear A q st.1 (talk_level calls (map-Stmt Stmt Talk talking (map-Stmt Shown Stmt (λ (s : Shown). s.0) y)) st.0 bound next)
      ≡ hear A q (stmt_level A calls q (map-Stmt Stmt (Does A) doing (map-Stmt Shown Stmt (λ (s : Shown). s.0) y)) st bound).1
      (next (stmt_level A calls q (map-Stmt Stmt (Does A) doing (map-Stmt Shown Stmt (λ (s : Shown). s.0) y)) st bound).0)
  at_level (Stmt-F.Assign s e) st bound next = refl
  at_level (Stmt-F.Store s i e) st bound next = refl
  at_level (Stmt-F.If c as' bs) st bound next =
      either-goes-on ((eval calls c (scope st.0 bound)).value == 1) (talks_in as' st.0 bound next) (talks_in bs st.0 bound next) (done_in as' st bound) (done_in bs st bound) st.1 next
      (list-goes-on as' st bound next) (list-goes-on bs st bound next)
  at_level (Stmt-F.For w n body) st bound next = turns-go-on body w n st bound next
  at_level (Stmt-F.While c n body) st bound next = refl
  at_level (Stmt-F.SetInput k e) st bound next = refl
  at_level Stmt-F.Tick st bound next = refl
  at_level Stmt-F.CopyTick st bound next = refl
  at_level (Stmt-F.Query s k args) st bound next = refl

  pub stmt-goes-on : (s : Stmt) → GoesOn s
  stmt-goes-on = ind-Stmt GoesOn (λ x y is.
      subst (λ z. GoesOn (roll-Stmt z)) is (λ st bound next.
      ap (λ (t : Talk). hear A q st.1 (t st.0 bound next)) (fold-roll-Stmt Talk (talk_level calls) (map-Stmt Shown Stmt (λ (s : Shown). s.0) y))
      ∙ (at_level y st bound next
      ∙ ap (λ (d : Does A). hear A q (d st bound).1 (next (d st bound).0)) (sym (fold-roll-Stmt (Does A) (stmt_level A calls q) (map-Stmt Shown Stmt (λ (s : Shown). s.0) y))))))

  -- statements in order
  pub stmts-go-on : (ss : List Stmt) (st : Spaces × A) (bound : List Bits) (next : Spaces → Asking) →
      hear A q st.1 (talk_of_all calls ss st.0 bound next) ≡ hear A q (does_all A calls q ss st bound).1 (next (does_all A calls q ss st bound).0)
  stmts-go-on [] st bound next = refl
  stmts-go-on (s ∷ ss) st bound next = stmt-goes-on s st bound (λ after. talk_of_all calls ss after bound next) ∙ stmts-go-on ss (doing s st bound) bound next

abbrev ticked : (Words × Words) × Answerer → Ticked
ticked x = record { fields = x.1.fields; emu = x.0.0; copy = x.0.1 }

-- the specification of a device answers as one that has its fields
answered-hears : (c : Circuit) (s : SpecParts) (d : DriverParts) (p : EmuParts) (fields : Words) (t : Asking) →
    answered (device_of c s d p) fields t ≡ ticked (hear Answerer answering (record { spec = s; fields = fields }) t)
unfolding device_of
answered-hears c s d p fields (Ask o args next) = answered-hears c s d p ((device_of c s d p).op o args fields).1 (next ((device_of c s d p).op o args fields).0)
answered-hears c s d p fields (Ended emu copy) = refl

pub dialogue-is-tick : (c : Circuit) (s : SpecParts) (d : DriverParts) (p : EmuParts) (fields emu ins : Words) →
    answered (device_of c s d p) fields (tick_dialogue p emu ins)
    ≡ record { fields = fields_after_tick s p fields emu ins; emu = emulator_after_tick s p fields emu ins; copy = [] }
dialogue-is-tick c s d p fields emu ins =
    answered-hears c s d p fields (tick_dialogue p emu ins)
    ∙ ap (λ x. ticked x) (stmts-go-on Answerer answering (called p.funs) p.tick.stmts (body_words emu ins (start_of p.tick.locals), record { spec = s; fields = fields }) [] (λ after. Ended after.own []))

pub asks-the-tick : (c : Circuit) (s : SpecParts) (d : DriverParts) (p : EmuParts) (emu copy ins : Words) → (device_of c s d p).emu_tick emu copy ins ≡ tick_dialogue p emu ins
unfolding device_of
asks-the-tick c s d p emu copy ins = refl
