-- The store's specification and its emulator are the plain ones.
use Rattle.std.proofs.Common.{◌≡◌, ℕ, zero, suc, ◌==◌, List, [], ◌∷◌, if◌then◌else◌, refl, ap, ◌∙◌, codes}
use Rattle.knox_words.specs.Bits.{bits, word_at}
use Rattle.knox_words.specs.Ops.{op2_or}
use Rattle.knox_words.specs.Lists.{Words}
use Rattle.knox_words.specs.declared.op.Op2.{Op2}
use Rattle.knox_words.specs.declared.op.Op2.TheVariants.{Eq}
use Rattle.knox_theory.specs.Device.{Ask, Ended}
use Rattle.knox_lang.specs.declared.expr.Expr.{Expr}
use Rattle.knox_lang.specs.declared.expr.Expr.TheVariants as expr
use Rattle.knox_lang.specs.declared.expr.Stmt.TheVariants as stmt
use Rattle.knox_lang.specs.declared.expr.Space.{Space}
use Rattle.knox_lang.specs.declared.expr.Space.TheVariants as space
use Rattle.knox_lang.specs.Scope.{scope, named, put_in}
use Rattle.knox_lang.specs.Eval.{Calls, Value, eval, called}
use Rattle.knox_lang.specs.Exec.{Does, does}
use Rattle.knox_lang.specs.Operation.{op_result, op_after, no_queries, body_spaces, body_after}
use Rattle.knox_lang.specs.declared.parts.Field.{Field}
use Rattle.knox_lang.specs.declared.parts.Body.{Body}
use Rattle.emu_machine.specs.Emulator.{body_words, emulator_outputs, emulator_after_power, power_spaces}
use Rattle.emu_machine.specs.Dialogue.{Talk, talk_of, talks, tick_dialogue}
use Rattle.pin_store.specs.Store.{spec, emulator_with, field, nothing, shows_noise, set_body, check_body, name, equal, is_command, asks}
use Rattle.pin_store.proofs.Plain.{result_of, fields_after, silence, the_noise, outs, tick}
use Rattle.pin_store.proofs.Values.{value-Lit, value-Name, value-Bin, talk-Assign, talk-If, talk-Query, does-Assign}

abbrev pub calls : Calls
calls = called []

-- ---- expressions

abbrev pub slot_value : Space → ℕ → Value
slot_value s n sc = named sc (record { space = s; number = n })

pub name-is : (s : Space) (n : ℕ) → eval calls (name s n) ≡ slot_value s n
name-is s n = value-Name calls (record { space = s; number = n })

pub bin-is : (o : Op2) (a b : Expr) (v w : Value) → eval calls a ≡ v → eval calls b ≡ w → eval calls (expr.Bin o a b) ≡ (λ sc. op2_or o (v sc) (w sc))
bin-is o a b v w p q = value-Bin calls o a b ∙ (λ i sc. op2_or o (p i sc) (q i sc))

pub names-equal : (s t : Space) (m n : ℕ) → eval calls (equal (name s m) (name t n)) ≡ (λ sc. op2_or Eq (slot_value s m sc) (slot_value t n sc))
names-equal s t m n = bin-is Eq (name s m) (name t n) (slot_value s m) (slot_value t n) (name-is s m) (name-is t n)

abbrev command_value : ℕ → Value
command_value n sc = op2_or Eq (slot_value space.Input 0 sc) (bits 2 n)

command-is : (n : ℕ) → eval calls (is_command n) ≡ command_value n
command-is n = bin-is Eq (name space.Input 0) (expr.Lit (bits 2 n)) (slot_value space.Input 0) (λ sc. bits 2 n) (name-is space.Input 0) (value-Lit calls (bits 2 n))

-- ---- the emulator

abbrev asking : (local op : ℕ) → Talk
asking l o sp bound next = Ask o (word_at sp.input 1 ∷ []) (λ r. next (put_in sp space.Local l r))

asking-is : (l o : ℕ) → talk_of calls (asks l o) ≡ asking l o
asking-is l o =
    talk-Query calls (record { space = space.Local; number = l }) o (name space.Input 1 ∷ [])
    ∙ (λ i sp bound next. Ask o (name-is space.Input 1 i (scope sp bound) ∷ []) (λ r. next (put_in sp space.Local l r)))

abbrev on_command : (command : ℕ) → Talk → Talk
on_command n t sp bound next = if (command_value n (scope sp bound)).value == 1 then t sp bound next else next sp

on-command-is : (n l o : ℕ) → talk_of calls (stmt.If (is_command n) (asks l o ∷ []) []) ≡ on_command n (asking l o)
on-command-is n l o =
    talk-If calls (is_command n) (asks l o ∷ []) []
    ∙ (λ i sp bound next. if (command-is n i (scope sp bound)).value == 1 then asking-is l o i sp bound next else next sp)

abbrev showing : Talk
showing sp bound next = next (put_in sp space.Own 0 (word_at sp.local 1))

showing-is : talk_of calls (stmt.Assign (record { space = space.Own; number = 0 }) (name space.Local 1)) ≡ showing
showing-is =
    talk-Assign calls (record { space = space.Own; number = 0 }) (name space.Local 1)
    ∙ (λ i sp bound next. next (put_in sp space.Own 0 (name-is space.Local 1 i (scope sp bound))))

-- what the emulator does at power-on, with its words
pub record Powering : Type 0 where
  pub noise : List Field
  pub power : Body
  pub words : Words → Words
  pub same : (w : ℕ) (ns : Words) → emulator_after_power (emulator_with noise power w) ns ≡ words ns

abbrev pub quiet : Powering
quiet = record { noise = []; power = nothing; words = silence; same = λ w ns. refl }

-- a word is assigned another
abbrev assigning : (from : Space) → Does (Unit {0})
assigning s st bound = (put_in st.0 space.Own 0 (slot_value s 0 (scope st.0 bound)), st.1)

pub assigning-is : (s : Space) → does (Unit {0}) calls no_queries (stmt.Assign (record { space = space.Own; number = 0 }) (name s 0)) ≡ assigning s
assigning-is s =
    does-Assign calls (Unit {0}) no_queries (record { space = space.Own; number = 0 }) (name s 0)
    ∙ (λ i st bound. (put_in st.0 space.Own 0 (name-is s 0 i (scope st.0 bound)), st.1))

abbrev pub noisy : Powering
noisy = record {
  noise = field (codes "ok") 1 ∷ [];
  power = shows_noise;
  words = the_noise;
  same = λ w ns. ap (λ (d : Does (Unit {0})). (d (power_spaces (emulator_with (field (codes "ok") 1 ∷ []) shows_noise w) ns, tt) []).0.own) (assigning-is space.Noise);
}

module _ (w : ℕ) (p : Powering) where
  pub tick-is : (emu ins : Words) → tick_dialogue (emulator_with p.noise p.power w) emu ins ≡ tick emu ins
  tick-is emu ins i =
      talks (on-command-is 1 0 0 i ∷ on-command-is 2 1 1 i ∷ showing-is i ∷ []) (body_words emu ins (bits 1 0 ∷ bits 1 0 ∷ [])) [] (λ after. Ended after.own [])

  pub outs-are : (emu ins : Words) → emulator_outputs (emulator_with p.noise p.power w) emu ins ≡ outs emu
  outs-are emu ins i = name-is space.Own 0 i (scope (body_words emu ins []) []) ∷ []

-- ---- the specification

pub result-is : (w o : ℕ) (args fields : Words) → op_result (spec w) o fields args ≡ result_of o args fields
result-is w zero args fields = ap (λ (v : Value). v (scope (body_after [] set_body fields args) [])) (value-Lit calls (bits 1 1))
result-is w (suc zero) args fields = ap (λ (v : Value). v (scope (body_after [] check_body fields args) [])) (names-equal space.Arg space.Own 0 0)
result-is w (suc (suc o)) args fields = refl

pub fields-are : (w o : ℕ) (args fields : Words) → op_after (spec w) o fields args ≡ fields_after o args fields
fields-are w zero args fields = ap (λ (d : Does (Unit {0})). (d (body_spaces set_body fields args, tt) []).0.own) (assigning-is space.Arg)
fields-are w (suc zero) args fields = refl
fields-are w (suc (suc o)) args fields = refl
