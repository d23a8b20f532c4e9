-- The power-on and the tick of an emulator, from the parts of their evaluation.
use Rattle.std.proofs.Common.{◌≡◌, ◌∙◌, ap, List, ℕ, []}
use Rattle.knox_words.specs.Bits.{Bits}
use Rattle.knox_lang.specs.declared.scope.Spaces.{Spaces}
use Rattle.knox_lang.specs.declared.expr.Stmt.{Stmt}
use Rattle.knox_lang.specs.declared.parts.Fun.{Fun}
use Rattle.knox_lang.specs.declared.parts.SpecParts.{SpecParts}
use Rattle.knox_lang.specs.declared.parts.EmuParts.{EmuParts}
use Rattle.knox_lang.specs.Operation.{no_queries, start_of}
use Rattle.knox_lang.specs.Eval.{called}
use Rattle.knox_lang.specs.Exec.{does_all}
use Rattle.emu_machine.specs.Emulator.{body_words, power_spaces, emulator_after_power, after_tick, Answerer, answering}

-- what is done by the statements of the body of a tick, with a specification that answers
abbrev pub does_tick : SpecParts → EmuParts → Spaces → List Bits → Spaces × Answerer
does_tick s p sp fields = does_all Answerer (called p.funs) answering p.tick.stmts (sp, record { spec = s; fields = fields }) []

pub done-tick : {st : Spaces × Answerer} (s : SpecParts) (p : EmuParts) {q : EmuParts} {funs : List Fun} {stmts : List Stmt} (sp : Spaces) (f fields : List Bits) {bound : List Bits} →
    q ≡ p → funs ≡ q.funs → stmts ≡ q.tick.stmts → f ≡ fields → bound ≡ [] →
    st ≡ does_all Answerer (called funs) answering stmts (sp, record { spec = s; fields = f }) bound →
    st ≡ does_tick s p sp fields
done-tick s p sp f fields parts funs stmts same-fields bound done =
    let funs' = funs ∙ ap (λ q. q.funs) parts in
    let stmts' = stmts ∙ ap (λ q. q.tick.stmts) parts in
    done ∙ (λ i. does_all Answerer (called (funs' i)) answering (stmts' i) (sp, record { spec = s; fields = same-fields i }) (bound i))

-- over what the emulator sees, they are the tick
pub tick-seen : (s : SpecParts) (p : EmuParts) {q : EmuParts} {locals : List (List ℕ × ℕ)} {sp : Spaces} {f : List Bits} (e emu ins fields : List Bits) →
    q ≡ p → locals ≡ q.tick.locals → e ≡ emu → sp ≡ body_words e ins (start_of locals) → f ≡ fields →
    does_tick s p sp f ≡ after_tick s p fields emu ins
tick-seen s p e emu ins fields parts locals same-emu seen same-fields =
    let locals' = locals ∙ ap (λ q. q.tick.locals) parts in
    let seen' = seen ∙ (λ i. body_words (same-emu i) ins (start_of (locals' i))) in
    λ i. does_tick s p (seen' i) (same-fields i)

-- statements of the body `power`, over what it sees, are the power-on
pub done-after_power : {st : Spaces × Unit {0}} (p : EmuParts) {q : EmuParts} {funs : List Fun} {stmts : List Stmt} {sp : Spaces} {u : Unit {0}} (noise : List Bits) {bound : List Bits} →
    q ≡ p → funs ≡ q.funs → stmts ≡ q.power.stmts → u ≡ tt → bound ≡ [] → sp ≡ power_spaces p noise →
    st ≡ does_all (Unit {0}) (called funs) no_queries stmts (sp, u) bound →
    st.0.own ≡ emulator_after_power p noise
done-after_power p noise parts funs stmts one bound seen done =
    let funs' = funs ∙ ap (λ q. q.funs) parts in
    let stmts' = stmts ∙ ap (λ q. q.power.stmts) parts in
    ap (λ st. st.0.own) done ∙ (λ i. (does_all (Unit {0}) (called (funs' i)) no_queries (stmts' i) (seen i, one i) (bound i)).0.own)
