-- Whatever words of the results' widths are replied, the queries of an emulator's tick are of operations that exist, with words for their arguments.
-- One who replies given words where they fit, and the specification's own elsewhere, is asked by the statements.
use Rattle.std.proofs.Common.{◌≡◌, ℕ, zero, suc, ◌<◌, ◌==◌, ◌&&◌, if◌then◌else◌, List, [], ◌∷◌, Bool, true, false, refl, ap, sym, ◌∙◌, subst, Option, Some, map, length, slice_get, nat_le, eqb-true, arith}
use Rattle.std.specs.Str.{bytes_eq}
use Rattle.knox_words.specs.Bits.{Bits}
use Rattle.knox_words.specs.Lists.{Words, fit, fits, are_widths}
use Rattle.knox_words.proofs.Lists.{fits-from, fits-IsWord}
use Rattle.knox_theory.specs.Device.{Asking, Ask, Ended}
use Rattle.knox_theory.specs.Lawful.{FitsAsking}
use Rattle.knox_theory.proofs.Basics.{and-both}
use Rattle.knox_circuit.specs.Circuit.{Circuit}
use Rattle.knox_lang.specs.declared.expr.Space.TheVariants.{Own, Local, Input, Output, Copy}
use Rattle.knox_lang.specs.declared.parts.Field.{Field}
use Rattle.knox_lang.specs.declared.parts.OpHead.{OpHead}
use Rattle.knox_lang.specs.declared.parts.SpecParts.{SpecParts}
use Rattle.knox_lang.specs.declared.parts.DriverParts.{DriverParts}
use Rattle.knox_lang.specs.declared.parts.EmuParts.{EmuParts}
use Rattle.knox_lang.specs.declared.scope.Spaces.{Spaces}
use Rattle.knox_lang.specs.Operation.{start_of, op_result, state_widths, arg_widths, fits_head, call_fits}
use Rattle.knox_lang.specs.Eval.{called}
use Rattle.knox_lang.specs.Exec.{Answering, does_all}
use Rattle.knox_lang.specs.Typing.{Widths, funs_fit, stmts_fit, SpacesFit, FunsGive, AnswersFit, Fine}
use Rattle.knox_lang.specs.WellFormed.{word_widths, local_widths, field_widths, in_place, fields_fit, statements_fit, wire_widths, tick_leave, emulator_fits, spec_fits, IsTyped}
use Rattle.knox_lang.proofs.WidthLemmas.{and_first, and_second, funs-give}
use Rattle.knox_lang.proofs.StmtLemmas.{stmts-keep}
use Rattle.knox_lang.proofs.OperationLemmas.{start-fit, spec-is-typed}
use Rattle.emu_machine.specs.Emulator.{body_words}
use Rattle.emu_machine.specs.Dialogue.{tick_dialogue}
use Rattle.emu_machine.specs.Fits.{same_args, same_heads}
use Rattle.device_design.specs.Meaning.{head_args, head_result, device_of, design_of}
use Rattle.device_design.proofs.DialogueLemmas.{hear, stmts-go-on}

-- the same operations have the same widths

same-args : (as' bs : List (List ℕ × ℕ)) → same_args as' bs ≡ true → map (λ (a : List ℕ × ℕ). a.1) bs ≡ map (λ (a : List ℕ × ℕ). a.1) as'
same-args [] [] h = refl
same-args [] (b ∷ bs) h = cc
same-args (a ∷ as') [] h = cc
same-args (a ∷ as') (b ∷ bs) h =
    let first : bytes_eq a.0 b.0 && a.1 == b.1 ≡ true = and_first (bytes_eq a.0 b.0 && a.1 == b.1) (same_args as' bs) h in
    let width : a.1 ≡ b.1 = eqb-true a.1 b.1 (and_second (bytes_eq a.0 b.0) (a.1 == b.1) first) in
    let more = same-args as' bs (and_second (bytes_eq a.0 b.0 && a.1 == b.1) (same_args as' bs) h) in
    ap (λ w. w ∷ map (λ (a : List ℕ × ℕ). a.1) bs) (sym width) ∙ ap (λ ws. a.1 ∷ ws) more

-- an operation at a place, with the widths of another
pub record HeadAt (hs : List OpHead) (k : ℕ) (h : OpHead) : Type 0 where
  pub head : OpHead
  pub at : slice_get hs k ≡ Some head
  pub args : arg_widths head ≡ arg_widths h
  pub result : head.result ≡ h.result

pub heads-at : (as' bs : List OpHead) (k : ℕ) (h : OpHead) → same_heads as' bs ≡ true → slice_get as' k ≡ Some h → HeadAt bs k h
heads-at [] bs k h e is = cc
heads-at (a ∷ as') [] k h e is = cc
heads-at (a ∷ as') (b ∷ bs) zero h e is =
    let same : a ≡ h = cc in
    let both : bytes_eq a.name b.name && same_args a.args b.args && a.result == b.result ≡ true = and_first (bytes_eq a.name b.name && same_args a.args b.args && a.result == b.result) (same_heads as' bs) e in
    let args : same_args a.args b.args ≡ true = and_second (bytes_eq a.name b.name) (same_args a.args b.args) (and_first (bytes_eq a.name b.name && same_args a.args b.args) (a.result == b.result) both) in
    let result : a.result ≡ b.result = eqb-true a.result b.result (and_second (bytes_eq a.name b.name && same_args a.args b.args) (a.result == b.result) both) in
    record { head = b; at = refl; args = same-args a.args b.args args ∙ ap (λ x. arg_widths x) same; result = sym result ∙ ap (λ (x : OpHead). x.result) same }
heads-at (a ∷ as') (b ∷ bs) (suc k) h e is =
    let r = heads-at as' bs k h (and_second (bytes_eq a.name b.name && same_args a.args b.args && a.result == b.result) (same_heads as' bs) e) is in
    record { head = r.head; at = r.at; args = r.args; result = r.result }

call-at : (hs : List OpHead) (k : ℕ) (args : Words) → fits_head (slice_get hs k) args ≡ true → (k < length hs) × (fit (head_args (slice_get hs k)) args ≡ true)
call-at [] k args h = cc
call-at (x ∷ hs) zero args h = let there : 0 < length (x ∷ hs) = omega arith in (there, h)
call-at (x ∷ hs) (suc k) args h =
    let r = call-at hs k args h in
    let before : k < length hs = r.0 in
    let there : suc k < length (x ∷ hs) = omega arith in
    (there, r.1)

-- one who replies given words in order where they fit, and keeps in mind whether all queries were of operations
pub record Oracle : Type 0 where
  pub given : Words
  pub ok : Bool

abbrev next_reply : SpecParts → ℕ → Words → (given : Words) → Bits
next_reply s k args [] = op_result s k s.init args
next_reply s k args (r ∷ rs) = if fits (head_result (slice_get s.ops k)) r then r else op_result s k s.init args

abbrev after_first : Words → Words
after_first [] = []
after_first (r ∷ rs) = rs

abbrev oracle : SpecParts → Answering Oracle
oracle s = record {
  reply = λ a k args. next_reply s k args a.given;
  after = λ a k args. record { given = after_first a.given; ok = a.ok && call_fits s k args };
}

abbrev Good : Oracle → Type 0
Good a = a.ok ≡ true

own-fits : (s : SpecParts) (k : ℕ) (h : OpHead) (args : Words) → IsTyped s → fit (state_widths s) s.init ≡ true → slice_get s.ops k ≡ Some h → fit (arg_widths h) args ≡ true →
    fits h.result (op_result s k s.init args) ≡ true
own-fits s k h args typed init at f = (typed k h s.init args at init f).given

reply-fits : (s : SpecParts) (k : ℕ) (h : OpHead) (args given : Words) → slice_get s.ops k ≡ Some h → fits h.result (op_result s k s.init args) ≡ true →
    fits h.result (next_reply s k args given) ≡ true
reply-fits s k h args [] at own = own
reply-fits s k h args (r ∷ rs) at own = by_test (fits (head_result (slice_get s.ops k)) r) refl
  where
    by_test : (t : Bool) → fits (head_result (slice_get s.ops k)) r ≡ t → fits h.result (if t then r else op_result s k s.init args) ≡ true
    by_test true e = subst (λ (o : Option OpHead). fits (head_result o) r ≡ true) at e
    by_test false e = own

oracle-fits : (s : SpecParts) (hs : List OpHead) → IsTyped s → fit (state_widths s) s.init ≡ true → same_heads hs s.ops ≡ true → AnswersFit Oracle (oracle s) hs Good
oracle-fits s hs typed init same = record {
  replies = λ a k h args good is f.
      let r = heads-at hs s.ops k h same is in
      let args_fit : fit (arg_widths r.head) args ≡ true = subst (λ ws. fit ws args ≡ true) (sym r.args) f in
      subst (λ w. fits w (next_reply s k args a.given) ≡ true) r.result (reply-fits s k r.head args a.given r.at (own-fits s k r.head args typed init r.at args_fit));
  stays = λ a k h args good is f.
      let r = heads-at hs s.ops k h same is in
      let args_fit : fit (arg_widths r.head) args ≡ true = subst (λ ws. fit ws args ≡ true) (sym r.args) f in
      and-both a.ok (call_fits s k args) good (subst (λ (o : Option OpHead). fits_head o args ≡ true) (sym r.at) args_fit);
}

-- whoever is good at the end of a dialogue was good before it
stayed-good : (s : SpecParts) (t : Asking) (a : Oracle) → Good (hear Oracle (oracle s) a t).1 → Good a
stayed-good s (Ask o args next) a h =
    and_first a.ok (call_fits s o args) (stayed-good s (next (next_reply s o args a.given)) (record { given = after_first a.given; ok = a.ok && call_fits s o args }) h)
stayed-good s (Ended emu copy) a h = h

-- a dialogue that ends with words that fit, all queries of which were of operations
pub record EndsFit (ws : List ℕ) (x : (Words × Words) × Oracle) : Type 0 where
  pub ok : x.1.ok ≡ true
  pub emu : fit ws x.0.0 ≡ true
  pub copy : x.0.1 ≡ []

ends-fit-fits : (c : Circuit) (s : SpecParts) (d : DriverParts) (e : EmuParts) (t : Asking) →
    ((given : Words) → EndsFit (word_widths e.init) (hear Oracle (oracle s) (record { given = given; ok = true }) t)) → FitsAsking (design_of c s d e) t
unfolding design_of device_of
ends-fit-fits c s d e (Ended emu copy) h = ((h []).emu, record { taken = refl; whole = sym (h []).copy })
ends-fit-fits c s d e (Ask o args next) h =
    let call : call_fits s o args ≡ true = stayed-good s (next (next_reply s o args [])) (record { given = []; ok = call_fits s o args }) (h []).ok in
    let there = call-at s.ops o args call in (
      there.0,
      there.1,
      λ r f. ends-fit-fits c s d e (next r) (λ given.
          subst (λ x. EndsFit (word_widths e.init) x)
          (λ i. hear Oracle (oracle s) (record { given = given; ok = call i }) (next (if f i then r else op_result s o s.init args)))
          (h (r ∷ given))),
    )

-- the words that the body of a tick sees at first
body-words-fit : (e : EmuParts) (emu ins : Words) → e.copy ≡ false → fit (word_widths e.init) emu ≡ true → fit e.ins ins ≡ true → are_widths (local_widths e.tick) ≡ true →
    SpacesFit (wire_widths e (local_widths e.tick)) (body_words emu ins (start_of e.tick.locals))
body-words-fit e emu ins alone f g l Own = f
body-words-fit e emu ins alone f g l Local = start-fit e.tick.locals l
body-words-fit e emu ins alone f g l Input = g
body-words-fit e emu ins alone f g l Output = subst (λ (b : Bool). fit (if b then e.outs else []) [] ≡ true) (sym alone) refl
body-words-fit e emu ins alone f g l Copy = subst (λ (b : Bool). fit (if b then field_widths e.cells else []) [] ≡ true) (sym alone) refl
body-words-fit e emu ins alone f g l s = refl

-- words that fit some widths are words of their own widths
pub own-widths : (ws : List ℕ) (as' : Words) → fit ws as' ≡ true → fit (word_widths as') as' ≡ true
own-widths [] [] h = refl
own-widths [] (a ∷ as') h = cc
own-widths (w ∷ ws) [] h = cc
own-widths (w ∷ ws) (a ∷ as') h =
    and-both (fits a.width a) (fit (word_widths as') as') (fits-from a.width a refl (fits-IsWord w a (and_first (fits w a) (fit ws as') h))) (own-widths ws as' (and_second (fits w a) (fit ws as') h))

pub init-fits : (fs : List Field) (as' : Words) → fields_fit fs as' ≡ true → fit (word_widths as') as' ≡ true
init-fits fs as' h =
    own-widths (field_widths fs) as' (and_second (nat_le (length as') 65536) (fit (field_widths fs) as') (and_second (in_place 0 fs) (nat_le (length as') 65536 && fit (field_widths fs) as') h))

-- what an emulator's parts obey
pub record TickObeys (e : EmuParts) : Type 0 where
  pub init : fit (word_widths e.init) e.init ≡ true
  pub give : FunsGive e.funs (length e.funs)
  pub locals : are_widths (local_widths e.tick) ≡ true
  pub stmts : stmts_fit e.funs (wire_widths e (local_widths e.tick)) (tick_leave e) e.tick.stmts [] ≡ true

pub tick-obeys : (e : EmuParts) → emulator_fits e ≡ true → TickObeys e
tick-obeys e ok =
    let ins = and_second (fields_fit e.fields e.init) _ ok in
    let outs = and_second (are_widths e.ins) _ ins in
    let funs = and_second (are_widths e.outs) _ outs in
    let power = and_second (funs_fit e.funs (length e.funs)) _ funs in
    let outputs = and_second _ _ power in
    let tick : statements_fit e.funs (wire_widths e (local_widths e.tick)) (tick_leave e) e.tick ≡ true = and_second _ _ outputs in
    record {
      init = init-fits e.fields e.init (and_first (fields_fit e.fields e.init) _ ok);
      give = funs-give e.funs (length e.funs) (and_first (funs_fit e.funs (length e.funs)) _ funs);
      locals = and_first (are_widths (local_widths e.tick)) _ tick;
      stmts = and_second (are_widths (local_widths e.tick)) _ tick;
    }

pub spec-init : (s : SpecParts) → spec_fits s ≡ true → fit (state_widths s) s.init ≡ true
spec-init s ok = init-fits s.fields s.init (and_first (fields_fit s.fields s.init) _ ok)

pub tick-asks-fit : (c : Circuit) (s : SpecParts) (d : DriverParts) (e : EmuParts) (emu ins : Words) → spec_fits s ≡ true → emulator_fits e ≡ true → e.copy ≡ false → same_heads e.ops s.ops ≡ true →
    fit (word_widths e.init) emu ≡ true → fit e.ins ins ≡ true → FitsAsking (design_of c s d e) (tick_dialogue e emu ins)
tick-asks-fit c s d e emu ins spec ok alone same f g =
    let o = tick-obeys e ok in
    let ws : Widths = wire_widths e (local_widths e.tick) in
    let answers : AnswersFit Oracle (oracle s) e.ops Good = oracle-fits s e.ops (spec-is-typed s spec) (spec-init s spec) same in
    let first : SpacesFit ws (body_words emu ins (start_of e.tick.locals)) = body-words-fit e emu ins alone f g o.locals in
    ends-fit-fits c s d e (tick_dialogue e emu ins) (λ given.
    let start : Spaces × Oracle = (body_words emu ins (start_of e.tick.locals), record { given = given; ok = true }) in
    let fine : Fine Oracle ws Good (does_all Oracle (called e.funs) (oracle s) e.tick.stmts start []) =
    stmts-keep Oracle (oracle s) e.funs ws (tick_leave e) Good o.give answers e.tick.stmts [] [] start refl o.stmts (record { spaces = first; asked = refl }) in
    subst (λ x. EndsFit (word_widths e.init) x) (sym (stmts-go-on Oracle (oracle s) (called e.funs) e.tick.stmts start [] (λ after. Ended after.own [])))
    (record { ok = fine.asked; emu = fine.spaces Own; copy = refl }))
