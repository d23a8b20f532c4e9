-- What a tree says, and that it is not there yet, exactly where its form is read.
use Rattle.std.proofs.Common.{◌≡◌, ◌==◌, ℕ, Bool, true, false, if◌then◌else◌, List, [], ◌∷◌, codes, is_some, Option, Some, None, Result, Ok, Err, refl, ap, subst, ◌∙◌, eqb-true}
use Rattle.std.specs.Str.{bytes_eq}
use Rattle.std.proofs.lemmas.Slice.Eq.{bytes_eq-Decides}
use Rattle.knox_text.specs.declared.place.Place.{Place}
use Rattle.knox_sexpr.specs.declared.tree.Tree.{Tree, out-Tree}
use Rattle.knox_sexpr.specs.declared.tree.Tree.TheOpen.{Tree-F}
use Rattle.knox_lang.specs.declared.expr.Expr.{Expr}
use Rattle.knox_lang.specs.declared.parts.OpHead.{OpHead}
use Rattle.expr_read.specs.declared.faults.LangWhy.{LangWhy}
use Rattle.expr_read.specs.declared.faults.LangWhy.TheVariants as lang
use Rattle.expr_read.specs.declared.faults.LangFault.{LangFault}
use Rattle.expr_read.specs.declared.names.Named.{Named}
use Rattle.expr_read.specs.Views.{◌>>=◌, fails, place_of, number_of, symbol_of, symbol_in, parts_of, is_symbol, is_symbol_in, is_headed, is_headed_in, parts_in, behind, behind_head}
use Rattle.expr_read.specs.Names.{op_number}
use Rattle.script_core.specs.declared.parts.Kind.{Kind}
use Rattle.script_core.specs.declared.parts.Kind.TheVariants.{Factory, BootHost, Rest, Wait, Call, Wire}
use Rattle.script_read.specs.declared.scope.Names.{Names}
use Rattle.script_read.specs.declared.draft.Draft.{Draft}
use Rattle.script_read.specs.declared.draft.Said.{Said}
use Rattle.script_read.specs.declared.draft.Said.TheVariants as said
use Rattle.script_read.specs.Scripts.{condition, sole, operand, stated, cut_in, cut, one_tick, step, leads_to, subsume, wire_in, wire, is_left, once, none_behind, bare, op_at, op_named, call, wire_once, section, form}
use Rattle.script_read.specs.Grammar.{IsForm, IsStated, IsCut, IsStep, IsSubsume, IsWire, IsCall, IsHost, Says}

-- ---- steps of a reading that gave a value

pub record Step {A B : Type 0} (r : Result A LangFault) (f : A → Result B LangFault) (y : B) : Type 0 where
  pub value : A
  pub read : r ≡ Ok value
  pub next : f value ≡ Ok y

pub step-is : {A B : Type 0} (r : Result A LangFault) (f : A → Result B LangFault) (y : B) → (r >>= f) ≡ Ok y → Step r f y
step-is (Ok x) f y h = record { value = x; read = refl; next = h }
step-is (Err e) f y h = cc

pub ok-same : {A : Type 0} (x y : A) (r : Result A LangFault) → r ≡ Ok x → r ≡ Ok y → x ≡ y
ok-same x y r h k = cc

record Passed {A : Type 0} (b : Bool) (r : Result A LangFault) (y : A) : Type 0 where
  test : b ≡ true
  value : r ≡ Ok y

passed : {A : Type 0} (b : Bool) (r : Result A LangFault) (at : Place) (why : LangWhy) (y : A) → (if b then r else fails at why) ≡ Ok y → Passed b r y
passed true r at why y h = record { test = refl; value = h }
passed false r at why y h = cc

-- ---- a form and what stands behind its word

symbol-is : (word : List ℕ) (y : Tree-F Tree) → is_symbol_in word y ≡ true → symbol_in y ≡ Ok word
symbol-is word (Tree-F.Atom at name) h = ap Ok ((bytes_eq-Decides name word).0 h)
symbol-is word (Tree-F.Number at width value) h = cc
symbol-is word (Tree-F.List at parts close) h = cc

-- whether it is another symbol
symbol-test : (word v : List ℕ) (y : Tree-F Tree) → symbol_in y ≡ Ok word → is_symbol_in v y ≡ bytes_eq word v
symbol-test word v (Tree-F.Atom at name) h = ap (λ (n : List ℕ). bytes_eq n v) (ok-same name word (Ok name) refl h)
symbol-test word v (Tree-F.Number at width value) h = cc
symbol-test word v (Tree-F.List at parts close) h = cc

is-symbol : (word : List ℕ) (y : Tree-F Tree) → symbol_in y ≡ Ok word → is_symbol_in word y ≡ true
is-symbol word y h = symbol-test word word y h ∙ (bytes_eq-Decides word word).1 refl

form-in : (word : List ℕ) (t : Tree) (ts us : List Tree) → parts_of t ≡ Ok ts → behind (place_of t) word ts ≡ Ok us → IsForm word t us
form-in word t [] us e h = cc
form-in word t (a ∷ ts) us e h =
    let x = passed (is_symbol word a) (Ok ts) (place_of t) lang.Form us h in
    record { head = a; named = symbol-is word (out-Tree a) x.test; parts = e ∙ ap (λ (vs : List Tree). Ok (a ∷ vs)) (ok-same ts us (Ok ts) refl x.value) }

pub form-is : (word : List ℕ) (t : Tree) (us : List Tree) → behind_head word t ≡ Ok us → IsForm word t us
form-is word t us h =
    let x = step-is (parts_of t) (λ ts. behind (place_of t) word ts) us h in
    form-in word t x.value us x.read x.next

is-form : (word : List ℕ) (t : Tree) (us : List Tree) → IsForm word t us → behind_head word t ≡ Ok us
is-form word t us x = rw (x.parts, is-symbol word (out-Tree x.head) x.named) refl

sole-is : (at : Place) (ts : List Tree) (x : Tree) → sole at ts ≡ Ok x → ts ≡ x ∷ []
sole-is at [] x h = cc
sole-is at (t ∷ []) x h = ap (λ (u : Tree). u ∷ []) (ok-same t x (Ok t) refl h)
sole-is at (t ∷ u ∷ ts) x h = cc

pub operand-is : (word : List ℕ) (t x : Tree) → operand word t ≡ Ok x → IsForm word t (x ∷ [])
operand-is word t x h =
    let s = step-is (behind_head word t) (λ parts. sole (place_of t) parts) x h in
    subst (λ (ts : List Tree). IsForm word t ts) (sole-is (place_of t) s.value x s.next) (form-is word t s.value s.read)

is-operand : (word : List ℕ) (t x : Tree) → IsForm word t (x ∷ []) → operand word t ≡ Ok x
is-operand word t x f = rw (is-form word t (x ∷ []) f) refl

-- ---- refine and idle

stated-is : (known : Bool) (word : List ℕ) (names : List Named) (t : Tree) (c : Expr) → stated known word names t ≡ Ok c → (known ≡ false) × IsStated word names t c
stated-is true word names t c h = cc
stated-is false word names t c h =
    let s = step-is (operand word t) (λ e. condition names e) c h in
    (refl, record { e = s.value; form = operand-is word t s.value s.read; means = s.next })

is-stated : (known : Bool) (word : List ℕ) (names : List Named) (t : Tree) (c : Expr) → known ≡ false → IsStated word names t c → stated known word names t ≡ Ok c
is-stated known word names t c free x = rw (free, is-operand word t x.e x.form) x.means

-- ---- wire

cut-in : (names : List Named) (t : Tree) (at : Place) (ts : List Tree) (x : List ℕ × Expr) → IsForm (codes "cut") t ts → cut_in names at ts ≡ Ok x → IsCut names t x.0 x.1
cut-in names t at [] x f h = cc
cut-in names t at (a ∷ []) x f h = cc
cut-in names t at (a ∷ e ∷ []) x f h =
    let s = step-is (symbol_of a) (λ name. condition names e >>= λ c. Ok (name, c)) x h in
    let r = step-is (condition names e) (λ c. Ok (s.value, c)) x s.next in
    let pair : (s.value, r.value) ≡ x = ok-same (s.value, r.value) x (Ok (s.value, r.value)) refl r.next in
    record { label = a; e = e; form = f; named = s.read ∙ ap (λ (p : List ℕ × Expr). Ok p.0) pair; means = r.read ∙ ap (λ (p : List ℕ × Expr). Ok p.1) pair }
cut-in names t at (a ∷ e ∷ b ∷ ts) x f h = cc

cut-is : (names : List Named) (t : Tree) (x : List ℕ × Expr) → cut names t ≡ Ok x → IsCut names t x.0 x.1
cut-is names t x h =
    let s = step-is (behind_head (codes "cut") t) (λ parts. cut_in names (place_of t) parts) x h in
    cut-in names t (place_of t) s.value x (form-is (codes "cut") t s.value s.read) s.next

is-cut : (names : List Named) (t : Tree) (name : List ℕ) (c : Expr) → IsCut names t name c → cut names t ≡ Ok (name, c)
is-cut names t name c x = rw (is-form (codes "cut") t (x.label ∷ x.e ∷ []) x.form, x.named, x.means) refl

tick-is : (count : Tree) → one_tick count ≡ Ok tt → number_of count ≡ Ok 1
tick-is count h =
    let s = step-is (number_of count) (λ k. if k == 1 then Ok tt else fails (place_of count) lang.Bound) tt h in
    let p = passed (s.value == 1) (Ok tt) (place_of count) lang.Bound tt s.next in
    s.read ∙ ap Ok (eqb-true s.value 1 p.test)

step-form : (t : Tree) → step t ≡ Ok tt → IsStep t
step-form t h =
    let s = step-is (operand (codes "step") t) (λ n. one_tick n) tt h in
    record { count = s.value; form = operand-is (codes "step") t s.value s.read; once = tick-is s.value s.next }

is-step : (t : Tree) → IsStep t → step t ≡ Ok tt
is-step t x = rw (is-operand (codes "step") t x.count x.form, x.once) refl

leads-is : (name : List ℕ) (label : Tree) → leads_to name label ≡ Ok tt → symbol_of label ≡ Ok name
leads-is name label h =
    let s = step-is (symbol_of label) (λ led. if bytes_eq led name then Ok tt else fails (place_of label) lang.UnknownName) tt h in
    let p = passed (bytes_eq s.value name) (Ok tt) (place_of label) lang.UnknownName tt s.next in
    s.read ∙ ap Ok ((bytes_eq-Decides s.value name).0 p.test)

subsume-is : (name : List ℕ) (t : Tree) → subsume name t ≡ Ok tt → IsSubsume t name
subsume-is name t h =
    let s = step-is (operand (codes "subsume") t) (λ a. leads_to name a) tt h in
    record { label = s.value; form = operand-is (codes "subsume") t s.value s.read; named = leads-is name s.value s.next }

is-subsume : (name : List ℕ) (t : Tree) → IsSubsume t name → subsume name t ≡ Ok tt
is-subsume name t x = rw (is-operand (codes "subsume") t x.label x.form, x.named, (bytes_eq-Decides name name).1 refl) refl

wire-in : (names : List Named) (t : Tree) (at : Place) (ts : List Tree) (c : Expr) → IsForm (codes "wire") t ts → wire_in names at ts ≡ Ok c → IsWire names t c
wire-in names t at [] c f h = cc
wire-in names t at (x ∷ []) c f h = cc
wire-in names t at (x ∷ y ∷ []) c f h = cc
wire-in names t at (x ∷ y ∷ z ∷ []) c f h =
    let a = step-is (cut names x) (λ p. step y >>= λ done. subsume p.0 z >>= λ led. Ok p.1) c h in
    let b = step-is (step y) (λ done. subsume a.value.0 z >>= λ led. Ok a.value.1) c a.next in
    let d = step-is (subsume a.value.0 z) (λ led. Ok a.value.1) c b.next in
    let same : a.value.1 ≡ c = ok-same a.value.1 c (Ok a.value.1) refl d.next in
    record { cut = x; step = y; subsume = z; form = f; name = a.value.0; cuts = subst (λ (e : Expr). IsCut names x a.value.0 e) same (cut-is names x a.value a.read); steps = step-form y b.read; leads = subsume-is a.value.0 z d.read }
wire-in names t at (x ∷ y ∷ z ∷ u ∷ ts) c f h = cc

wire-is : (names : List Named) (t : Tree) (c : Expr) → wire names t ≡ Ok c → IsWire names t c
wire-is names t c h =
    let s = step-is (behind_head (codes "wire") t) (λ parts. wire_in names (place_of t) parts) c h in
    wire-in names t (place_of t) s.value c (form-is (codes "wire") t s.value s.read) s.next

is-wire : (names : List Named) (t : Tree) (c : Expr) → IsWire names t c → wire names t ≡ Ok c
is-wire names t c x = rw (is-form (codes "wire") t (x.cut ∷ x.step ∷ x.subsume ∷ []) x.form, is-cut names x.cut x.name c x.cuts, is-step x.step x.steps, is-subsume x.name x.subsume x.leads) refl

-- ---- sections of the host

none-is : (at : Place) (ts : List Tree) → none_behind at ts ≡ Ok tt → ts ≡ []
none-is at [] h = refl
none-is at (t ∷ ts) h = cc

record Once (k : Kind) (left : List Kind) (x : Said) : Type 0 where
  free : is_left k left ≡ true
  made : said.Host k ≡ x

once-is : (at : Place) (why : LangWhy) (k : Kind) (left : List Kind) (x : Said) → once at why k left ≡ Ok x → Once k left x
once-is at why k left x h =
    let p = passed (is_left k left) (Ok (said.Host k)) at why x h in
    record { free = p.test; made = ok-same (said.Host k) x (Ok (said.Host k)) refl p.value }

record Bare (word : List ℕ) (t : Tree) (k : Kind) (left : List Kind) (x : Said) : Type 0 where
  form : IsForm word t []
  here : Once k left x

bare-is : (word : List ℕ) (k : Kind) (left : List Kind) (t : Tree) (x : Said) → bare word k left t ≡ Ok x → Bare word t k left x
bare-is word k left t x h =
    let s = step-is (behind_head word t) (λ parts. none_behind (place_of t) parts >>= λ alone. once (place_of t) lang.Form k left) x h in
    let r = step-is (none_behind (place_of t) s.value) (λ alone. once (place_of t) lang.Form k left) x s.next in
    record {
      form = subst (λ (ts : List Tree). IsForm word t ts) (none-is (place_of t) s.value r.read) (form-is word t s.value s.read);
      here = once-is (place_of t) lang.Form k left x r.next;
    }

is-bare : (word : List ℕ) (k : Kind) (left : List Kind) (t : Tree) → IsForm word t [] → is_left k left ≡ true → bare word k left t ≡ Ok (said.Host k)
is-bare word k left t f free = rw (is-form word t [] f, free) refl

op-is : (at : Place) (found : Option ℕ) (o : ℕ) → op_at at found ≡ Ok o → found ≡ Some o
op-is at None o h = cc
op-is at (Some p) o h = ap Some (ok-same p o (Ok p) refl h)

record Called (ops : List OpHead) (t : Tree) (left : List Kind) (x : Said) : Type 0 where
  number : ℕ
  calls : IsCall ops t number
  here : Once (Call number) left x

call-is : (ops : List OpHead) (left : List Kind) (t : Tree) (x : Said) → call ops left t ≡ Ok x → Called ops t left x
call-is ops left t x h =
    let s = step-is (operand (codes "call") t) (λ a. op_named ops a >>= λ o. once (place_of a) lang.Twice (Call o) left) x h in
    let r = step-is (op_named ops s.value) (λ o. once (place_of s.value) lang.Twice (Call o) left) x s.next in
    let n = step-is (symbol_of s.value) (λ name. op_at (place_of s.value) (op_number name ops)) r.value r.read in
    record {
      number = r.value;
      calls = record { label = s.value; form = operand-is (codes "call") t s.value s.read; name = n.value; named = n.read; number = op-is (place_of s.value) (op_number n.value ops) r.value n.next };
      here = once-is (place_of s.value) lang.Twice (Call r.value) left x r.next;
    }

is-call : (ops : List OpHead) (left : List Kind) (t : Tree) (o : ℕ) → IsCall ops t o → is_left (Call o) left ≡ true → call ops left t ≡ Ok (said.Host (Call o))
is-call ops left t o x free = rw (is-operand (codes "call") t x.label x.form, x.named, x.number, free) refl

-- ---- what a tree says

-- what is not there yet
abbrev pub Free : Draft → Said → Type 0
Free d (said.Refine c) = is_some d.refine ≡ false
Free d (said.Idle c) = is_some d.idle ≡ false
Free d (said.Host k) = is_left k d.left ≡ true
Free d (said.Wire c) = is_left Wire d.left ≡ true

pub record Told (names : Names) (ops : List OpHead) (d : Draft) (t : Tree) (x : Said) : Type 0 where
  pub says : Says names ops t x
  pub free : Free d x

branch : {A G : Type 0} (b : Bool) (r s : Result A LangFault) (x : A) → (r ≡ Ok x → G) → (s ≡ Ok x → G) → (if b then r else s) ≡ Ok x → G
branch true r s x f g h = f h
branch false r s x f g h = g h

module _ (names : Names) (ops : List OpHead) (d : Draft) (t : Tree) (x : Said) where
  abbrev Tells : Type 0
  Tells = Told names ops d t x

  at-once : (k : Kind) → IsHost ops t k → Once k d.left x → Tells
  at-once k host o = subst (λ (y : Said). Told names ops d t y) o.made (record { says = host; free = o.free })

  tells-factory : bare (codes "factory") Factory d.left t ≡ Ok x → Tells
  tells-factory h = let b = bare-is (codes "factory") Factory d.left t x h in at-once Factory b.form b.here

  tells-boot : bare (codes "boot-host") BootHost d.left t ≡ Ok x → Tells
  tells-boot h = let b = bare-is (codes "boot-host") BootHost d.left t x h in at-once BootHost b.form b.here

  tells-rest : bare (codes "rest") Rest d.left t ≡ Ok x → Tells
  tells-rest h = let b = bare-is (codes "rest") Rest d.left t x h in at-once Rest b.form b.here

  tells-wait : bare (codes "wait") Wait d.left t ≡ Ok x → Tells
  tells-wait h = let b = bare-is (codes "wait") Wait d.left t x h in at-once Wait b.form b.here

  tells-call : call ops d.left t ≡ Ok x → Tells
  tells-call h = let b = call-is ops d.left t x h in at-once (Call b.number) b.calls b.here

  tells-wire : wire_once names.cut d.left t ≡ Ok x → Tells
  tells-wire h =
      let p = passed (is_left Wire d.left) (wire names.cut t >>= λ c. Ok (said.Wire c)) (place_of t) lang.Form x h in
      let s = step-is (wire names.cut t) (λ c. Ok (said.Wire c)) x p.value in
      subst (λ (y : Said). Told names ops d t y) (ok-same (said.Wire s.value) x (Ok (said.Wire s.value)) refl s.next) (record { says = wire-is names.cut t s.value s.read; free = p.test })

  tells-refine : (stated (is_some d.refine) (codes "refine") names.refine t >>= λ e. Ok (said.Refine e)) ≡ Ok x → Tells
  tells-refine h =
      let s = step-is (stated (is_some d.refine) (codes "refine") names.refine t) (λ e. Ok (said.Refine e)) x h in
      let r = stated-is (is_some d.refine) (codes "refine") names.refine t s.value s.read in
      subst (λ (y : Said). Told names ops d t y) (ok-same (said.Refine s.value) x (Ok (said.Refine s.value)) refl s.next) (record { says = r.1; free = r.0 })

  tells-idle : (stated (is_some d.idle) (codes "idle") names.idle t >>= λ e. Ok (said.Idle e)) ≡ Ok x → Tells
  tells-idle h =
      let s = step-is (stated (is_some d.idle) (codes "idle") names.idle t) (λ e. Ok (said.Idle e)) x h in
      let r = stated-is (is_some d.idle) (codes "idle") names.idle t s.value s.read in
      subst (λ (y : Said). Told names ops d t y) (ok-same (said.Idle s.value) x (Ok (said.Idle s.value)) refl s.next) (record { says = r.1; free = r.0 })

  tells-section : section names ops d.left t ≡ Ok x → Tells
  tells-section h =
      branch (is_headed (codes "factory") t) _ _ x tells-factory
      (branch (is_headed (codes "boot-host") t) _ _ x tells-boot
      (branch (is_headed (codes "rest") t) _ _ x tells-rest
      (branch (is_headed (codes "wait") t) _ _ x tells-wait
      (branch (is_headed (codes "call") t) _ _ x tells-call
      (branch (is_headed (codes "wire") t) _ (fails (place_of t) lang.Form) x tells-wire (λ e. absurd (cc e))))))) h

  pub form-tells : form names ops d t ≡ Ok x → Told names ops d t x
  form-tells h = branch (is_headed (codes "refine") t) _ _ x tells-refine (branch (is_headed (codes "idle") t) _ _ x tells-idle tells-section) h

-- ---- heads

headed-in : (v : List ℕ) (y : Tree-F Tree) (a : Tree) (ts : List Tree) → parts_in y ≡ Ok (a ∷ ts) → is_headed_in v y ≡ is_symbol v a
headed-in v (Tree-F.Atom at name) a ts h = cc
headed-in v (Tree-F.Number at width value) a ts h = cc
headed-in v (Tree-F.List at [] close) a ts h = cc
headed-in v (Tree-F.List at (b ∷ us) close) a ts h = ap (is_symbol v) (first (ok-same (b ∷ us) (a ∷ ts) (Ok (b ∷ us)) refl h)) where
  first : b ∷ us ≡ a ∷ ts → b ≡ a
  first e = cc

-- whether a form begins with another word
headed-by : (word v : List ℕ) (t : Tree) (ts : List Tree) → IsForm word t ts → is_headed v t ≡ bytes_eq word v
headed-by word v t ts x = headed-in v (out-Tree t) x.head ts x.parts ∙ symbol-test word v (out-Tree x.head) x.named

module _ (names : Names) (ops : List OpHead) (d : Draft) (t : Tree) where
  says-host : (k : Kind) → IsHost ops t k → is_left k d.left ≡ true → form names ops d t ≡ Ok (said.Host k)
  says-host Factory x free =
      let at = λ (v : List ℕ). headed-by (codes "factory") v t [] x in
      rw (at (codes "refine"), at (codes "idle"), at (codes "factory")) (is-bare (codes "factory") Factory d.left t x free)
  says-host BootHost x free =
      let at = λ (v : List ℕ). headed-by (codes "boot-host") v t [] x in
      rw (at (codes "refine"), at (codes "idle"), at (codes "factory"), at (codes "boot-host")) (is-bare (codes "boot-host") BootHost d.left t x free)
  says-host Rest x free =
      let at = λ (v : List ℕ). headed-by (codes "rest") v t [] x in
      rw (at (codes "refine"), at (codes "idle"), at (codes "factory"), at (codes "boot-host"), at (codes "rest")) (is-bare (codes "rest") Rest d.left t x free)
  says-host Wait x free =
      let at = λ (v : List ℕ). headed-by (codes "wait") v t [] x in
      rw (at (codes "refine"), at (codes "idle"), at (codes "factory"), at (codes "boot-host"), at (codes "rest"), at (codes "wait")) (is-bare (codes "wait") Wait d.left t x free)
  says-host (Call o) x free =
      let at = λ (v : List ℕ). headed-by (codes "call") v t (x.label ∷ []) x.form in
      rw (at (codes "refine"), at (codes "idle"), at (codes "factory"), at (codes "boot-host"), at (codes "rest"), at (codes "wait"), at (codes "call")) (is-call ops d.left t o x free)
  says-host Wire x free = absurd x

  pub says-form : (x : Said) → Says names ops t x → Free d x → form names ops d t ≡ Ok x
  says-form (said.Refine c) x free =
      rw (headed-by (codes "refine") (codes "refine") t (x.e ∷ []) x.form, is-stated (is_some d.refine) (codes "refine") names.refine t c free x) refl
  says-form (said.Idle c) x free =
      let at = λ (v : List ℕ). headed-by (codes "idle") v t (x.e ∷ []) x.form in
      rw (at (codes "refine"), at (codes "idle"), is-stated (is_some d.idle) (codes "idle") names.idle t c free x) refl
  says-form (said.Host k) x free = says-host k x free
  says-form (said.Wire c) x free =
      let at = λ (v : List ℕ). headed-by (codes "wire") v t (x.cut ∷ x.step ∷ x.subsume ∷ []) x.form in
      rw (at (codes "refine"), at (codes "idle"), at (codes "factory"), at (codes "boot-host"), at (codes "rest"), at (codes "wait"), at (codes "call"), at (codes "wire"), free, is-wire names.cut t c x) refl
