-- Something is missing in a text exactly where every tree is read and a form is missing: the reading of trees has other faults.
use Rattle.std.proofs.Common.{◌≡◌, ◌==◌, ℕ, Bool, true, false, if◌then◌else◌, List, [], ◌∷◌, length, codes, is_some, Option, Some, None, Result, Ok, Err, refl, sym, ap, ◌∙◌, nat_le}
use Rattle.std.specs.Str.{bytes_eq}
use Rattle.knox_text.specs.declared.place.Place.{Place}
use Rattle.knox_sexpr.specs.declared.tree.Tree.{Tree}
use Rattle.knox_circuit.specs.Circuit.{Circuit}
use Rattle.knox_lang.specs.declared.expr.Expr.{Expr}
use Rattle.knox_lang.specs.declared.parts.OpHead.{OpHead}
use Rattle.knox_lang.specs.declared.parts.SpecParts.{SpecParts}
use Rattle.knox_lang.specs.declared.parts.DriverParts.{DriverParts}
use Rattle.knox_lang.specs.declared.parts.EmuParts.{EmuParts}
use Rattle.expr_read.specs.declared.faults.LangWhy.{LangWhy}
use Rattle.expr_read.specs.declared.faults.LangWhy.TheVariants.{Form, UnknownName, Twice, Width, Arity, Bound, Missing, Memory}
use Rattle.expr_read.specs.declared.faults.LangFault.{LangFault}
use Rattle.expr_read.specs.declared.names.Named.{Named}
use Rattle.expr_read.specs.Views.{◌>>=◌, fails, place_of, number_of, symbol_of, is_headed, behind_head}
use Rattle.expr_read.specs.Names.{op_number}
use Rattle.expr_read.specs.Expressions.{expr_of_width}
use Rattle.expr_read.proofs.NotMissing.{is_missing, NotMissing, and-then, either, in-each, in-number, in-symbol, in-head}
use Rattle.expr_read.proofs.NotMissingExpr.{in-typed}
use Rattle.script_core.specs.declared.parts.Kind.{Kind}
use Rattle.script_core.specs.declared.parts.Kind.TheVariants.{Factory, BootHost, Rest, Wait, Call, Wire}
use Rattle.script_core.specs.declared.parts.ScriptParts.{ScriptParts}
use Rattle.script_read.specs.declared.fault.ScriptWhy.TheVariants as script
use Rattle.script_read.specs.declared.fault.ScriptFault.{ScriptFault}
use Rattle.script_read.specs.declared.scope.Names.{Names}
use Rattle.script_read.specs.declared.draft.Draft.{Draft}
use Rattle.script_read.specs.declared.draft.Said.TheVariants as said
use Rattle.script_read.specs.Faults.{why_of, script_fault, of_hints}
use Rattle.script_read.specs.Scripts.{names_for, limited, condition, sole, operand, stated, cut_in, cut, one_tick, step, leads_to, subsume, wire_in, wire, is_left, once, none_behind, bare, op_at, op_named, call, section, add, nothing, form, forms, is_whole, finished, text, script_text, LacksForm}

in-condition : (names : List Named) (t : Tree) → NotMissing (condition names t)
in-condition names t = and-then (expr_of_width t 1 names) (λ x. limited (place_of t) x) (in-typed t 1 names) (λ x. either (nat_le x.cost 1000000) (Ok x.expr) (fails (place_of t) Bound) tt refl)

-- ---- forms

in-sole : (at : Place) (ts : List Tree) → NotMissing (sole at ts)
in-sole at [] = refl
in-sole at (x ∷ []) = tt
in-sole at (x ∷ y ∷ ts) = refl

in-operand : (w : List ℕ) (t : Tree) → NotMissing (operand w t)
in-operand w t = and-then (behind_head w t) (λ parts. sole (place_of t) parts) (in-head w t) (λ parts. in-sole (place_of t) parts)

in-stated : (known : Bool) (w : List ℕ) (names : List Named) (t : Tree) → NotMissing (stated known w names t)
in-stated true w names t = refl
in-stated false w names t = and-then (operand w t) (λ e. condition names e) (in-operand w t) (λ e. in-condition names e)

in-cut-in : (names : List Named) (at : Place) (ts : List Tree) → NotMissing (cut_in names at ts)
in-cut-in names at [] = refl
in-cut-in names at (a ∷ []) = refl
in-cut-in names at (a ∷ e ∷ []) = and-then (symbol_of a) _ (in-symbol a) (λ name. and-then (condition names e) (λ c. Ok (name, c)) (in-condition names e) (λ c. tt))
in-cut-in names at (a ∷ e ∷ b ∷ ts) = refl

in-cut : (names : List Named) (t : Tree) → NotMissing (cut names t)
in-cut names t = and-then (behind_head (codes "cut") t) (λ parts. cut_in names (place_of t) parts) (in-head (codes "cut") t) (λ parts. in-cut-in names (place_of t) parts)

in-step : (t : Tree) → NotMissing (step t)
in-step t =
    and-then (operand (codes "step") t) (λ n. one_tick n) (in-operand (codes "step") t)
    (λ n. and-then (number_of n) (λ k. if k == 1 then Ok tt else fails (place_of n) Bound) (in-number n) (λ k. either (k == 1) (Ok tt) (fails (place_of n) Bound) tt refl))

in-subsume : (name : List ℕ) (t : Tree) → NotMissing (subsume name t)
in-subsume name t =
    and-then (operand (codes "subsume") t) (λ a. leads_to name a) (in-operand (codes "subsume") t)
    (λ a. and-then (symbol_of a) (λ led. if bytes_eq led name then Ok tt else fails (place_of a) UnknownName) (in-symbol a)
    (λ led. either (bytes_eq led name) (Ok tt) (fails (place_of a) UnknownName) tt refl))

in-wire-in : (names : List Named) (at : Place) (ts : List Tree) → NotMissing (wire_in names at ts)
in-wire-in names at [] = refl
in-wire-in names at (a ∷ []) = refl
in-wire-in names at (a ∷ b ∷ []) = refl
in-wire-in names at (a ∷ b ∷ c ∷ []) =
    and-then (cut names a) _ (in-cut names a) (λ x. and-then (step b) (λ stepped. subsume x.0 c >>= λ led. Ok x.1) (in-step b) (λ stepped. and-then (subsume x.0 c) (λ led. Ok x.1) (in-subsume x.0 c) (λ led. tt)))
in-wire-in names at (a ∷ b ∷ c ∷ d ∷ ts) = refl

in-wire : (names : List Named) (t : Tree) → NotMissing (wire names t)
in-wire names t = and-then (behind_head (codes "wire") t) (λ parts. wire_in names (place_of t) parts) (in-head (codes "wire") t) (λ parts. in-wire-in names (place_of t) parts)

in-bare : (w : List ℕ) (k : Kind) (left : List Kind) (t : Tree) → NotMissing (bare w k left t)
in-bare w k left t =
    and-then (behind_head w t) (λ parts. none_behind (place_of t) parts >>= λ alone. once (place_of t) Form k left) (in-head w t)
    (λ parts. and-then (none_behind (place_of t) parts) (λ alone. once (place_of t) Form k left) (none parts) (λ alone. either (is_left k left) (Ok (said.Host k)) (fails (place_of t) Form) tt refl)) where
      none : (parts : List Tree) → NotMissing (none_behind (place_of t) parts)
      none [] = tt
      none (x ∷ xs) = refl

in-op : (at : Place) (o : Option ℕ) → NotMissing (op_at at o)
in-op at None = refl
in-op at (Some n) = tt

in-call : (ops : List OpHead) (left : List Kind) (t : Tree) → NotMissing (call ops left t)
in-call ops left t =
    and-then (operand (codes "call") t) (λ x. op_named ops x >>= λ o. once (place_of x) Twice (Call o) left) (in-operand (codes "call") t)
    (λ x. and-then (op_named ops x) (λ o. once (place_of x) Twice (Call o) left)
    (and-then (symbol_of x) (λ name. op_at (place_of x) (op_number name ops)) (in-symbol x) (λ name. in-op (place_of x) (op_number name ops)))
    (λ o. either (is_left (Call o) left) (Ok (said.Host (Call o))) (fails (place_of x) Twice) tt refl))

in-section : (names : Names) (ops : List OpHead) (left : List Kind) (t : Tree) → NotMissing (section names ops left t)
in-section names ops left t =
    either (is_headed (codes "factory") t) _ _ (in-bare (codes "factory") Factory left t)
    (either (is_headed (codes "boot-host") t) _ _ (in-bare (codes "boot-host") BootHost left t)
    (either (is_headed (codes "rest") t) _ _ (in-bare (codes "rest") Rest left t)
    (either (is_headed (codes "wait") t) _ _ (in-bare (codes "wait") Wait left t)
    (either (is_headed (codes "call") t) _ _ (in-call ops left t)
    (either (is_headed (codes "wire") t) _ (fails (place_of t) Form)
    (either (is_left Wire left) (wire names.cut t >>= λ c. Ok (said.Wire c)) (fails (place_of t) Form) (and-then (wire names.cut t) (λ c. Ok (said.Wire c)) (in-wire names.cut t) (λ c. tt)) refl)
    refl)))))

in-form : (names : Names) (ops : List OpHead) (d : Draft) (t : Tree) → NotMissing (form names ops d t)
in-form names ops d t =
    either (is_headed (codes "refine") t) _ _ (and-then (stated (is_some d.refine) (codes "refine") names.refine t) (λ e. Ok (said.Refine e)) (in-stated (is_some d.refine) (codes "refine") names.refine t) (λ e. tt))
    (either (is_headed (codes "idle") t) _ _ (and-then (stated (is_some d.idle) (codes "idle") names.idle t) (λ e. Ok (said.Idle e)) (in-stated (is_some d.idle) (codes "idle") names.idle t) (λ e. tt))
    (in-section names ops d.left t))

in-forms : (names : Names) (ops : List OpHead) (d : Draft) (ts : List Tree) → NotMissing (forms names ops d ts)
in-forms names ops d ts = in-each (form names ops) add d ts (λ before t. in-form names ops before t)

-- ---- texts

record Ends (end : Place) (d : Draft) (f : LangFault) : Type 0 where
  lacks : is_whole d ≡ false
  fault : f ≡ record { place = end; why = Missing }

same-fault : {A : Type 0} (f g : LangFault) (r : Result A LangFault) → r ≡ Err f → r ≡ Err g → f ≡ g
same-fault f g r h k = cc

ends-in : (end : Place) (d : Draft) (f : LangFault) (r i : Option Expr) (left : List Kind) → d.refine ≡ r → d.idle ≡ i → d.left ≡ left → finished end d ≡ Err f → Ends end d f
ends-in end d f None i left er ei el h =
    let g : LangFault = record { place = end; why = Missing } in
    record { lacks = rw er refl; fault = sym (same-fault g f (finished end d) (rw er refl) h) }
ends-in end d f (Some r) None left er ei el h =
    let g : LangFault = record { place = end; why = Missing } in
    record { lacks = rw (er, ei) refl; fault = sym (same-fault g f (finished end d) (rw (er, ei) refl) h) }
ends-in end d f (Some r) (Some i) [] er ei el h =
    let p : ScriptParts = record { refine = r; idle = i; sections = d.sections } in
    let made : finished end d ≡ Ok p = rw (er, ei, el) refl in
    absurd (cc (made, h))
ends-in end d f (Some r) (Some i) (k ∷ ks) er ei el h =
    let g : LangFault = record { place = end; why = Missing } in
    record { lacks = rw (er, ei, el) refl; fault = sym (same-fault g f (finished end d) (rw (er, ei, el) refl) h) }

missing-at : (end : Place) (d : Draft) (r i : Option Expr) (left : List Kind) → d.refine ≡ r → d.idle ≡ i → d.left ≡ left → is_whole d ≡ false → finished end d ≡ fails end Missing
missing-at end d None i left er ei el h = rw er refl
missing-at end d (Some r) None left er ei el h = rw (er, ei) refl
missing-at end d (Some r) (Some i) [] er ei el h =
    let whole : is_whole d ≡ true = rw (er, ei, el) refl in
    absurd (cc (whole, h))
missing-at end d (Some r) (Some i) (k ∷ ks) er ei el h = rw (er, ei, el) refl

record Lacks (names : Names) (ops : List OpHead) (end : Place) (ts : List Tree) (f : LangFault) : Type 0 where
  lacks : LacksForm names ops ts
  fault : f ≡ record { place = end; why = Missing }

lacks-at : (names : Names) (ops : List OpHead) (end : Place) (ts : List Tree) (f : LangFault) (r : Result Draft LangFault) → forms names ops (nothing (length ops)) ts ≡ r → NotMissing r → (r >>= λ d. finished end d) ≡ Err f → is_missing f.why ≡ true → Lacks names ops end ts f
lacks-at names ops end ts f (Ok d) e n h m =
    let x = ends-in end d f d.refine d.idle d.left refl refl refl h in
    record { lacks = record { read = d; reads = e; lacks = x.lacks }; fault = x.fault }
lacks-at names ops end ts f (Err g) e n h m =
    let same : g ≡ f = same-fault g f (Err g) refl h in
    absurd (cc (ap (λ (x : LangFault). is_missing x.why) same, n, m))

missing-why : (why : LangWhy) → why_of why ≡ script.Missing → is_missing why ≡ true
missing-why Form h = cc
missing-why UnknownName h = cc
missing-why Twice h = cc
missing-why Width h = cc
missing-why Arity h = cc
missing-why Bound h = cc
missing-why Missing h = refl
missing-why Memory h = cc

record Refused {A : Type 0} (r : Result A LangFault) (f : ScriptFault) : Type 0 where
  fault : LangFault
  read : r ≡ Err fault
  said : script_fault fault ≡ f

refused : {A : Type 0} (r : Result A LangFault) (f : ScriptFault) → of_hints r ≡ Err f → Refused r f
refused (Ok x) f h = cc
refused (Err g) f h = record { fault = g; read = refl; said = cc }

pub lacks : (c : Circuit) (s : SpecParts) (d : DriverParts) (e : EmuParts) (end : Place) (ts : List Tree) (f : ScriptFault) → script_text c s d e end ts ≡ Err f → f.why ≡ script.Missing →
    LacksForm (names_for c s d e) s.ops ts × (f ≡ record { place = end; why = script.Missing })
lacks c s d e end ts f h m =
    let names = names_for c s d e in
    let x = refused (text names s.ops end ts) f h in
    let why : is_missing x.fault.why ≡ true = missing-why x.fault.why (ap (λ (g : ScriptFault). g.why) x.said ∙ m) in
    let y = lacks-at names s.ops end ts x.fault (forms names s.ops (nothing (length s.ops)) ts) refl (in-forms names s.ops (nothing (length s.ops)) ts) x.read why in
    (y.lacks, sym x.said ∙ ap script_fault y.fault)

pub is-lacking : (c : Circuit) (s : SpecParts) (d : DriverParts) (e : EmuParts) (end : Place) (ts : List Tree) (f : ScriptFault) → LacksForm (names_for c s d e) s.ops ts → f ≡ record { place = end; why = script.Missing } →
    (script_text c s d e end ts ≡ Err f) × (f.why ≡ script.Missing)
is-lacking c s d e end ts f x same =
    let names = names_for c s d e in
    let none : text names s.ops end ts ≡ fails end Missing = rw x.reads (missing-at end x.read x.read.refine x.read.idle x.read.left refl refl refl x.lacks) in
    (ap of_hints none ∙ ap (λ (g : ScriptFault). Err g) (sym same), ap (λ (g : ScriptFault). g.why) same)
