-- A text of hints means a script exactly where it is of the grammar, and the script is of the form.
use Rattle.std.proofs.Common.{◌≡◌, ◌==◌, ◌+◌, ℕ, true, false, List, [], ◌∷◌, ◌++◌, length, is_some, unwrap_or, Option, Some, None, Result, Ok, Err, refl, sym, ap, ◌∙◌, append_assoc, arith}
use Rattle.std.specs.Prelude.{option_to_list}
use Rattle.std.proofs.lemmas.Bool.Decides.{nat_tests}
use Rattle.std.proofs.lemmas.List.{append-nil}
use Rattle.knox_text.specs.declared.place.Place.{Place}
use Rattle.knox_sexpr.specs.declared.tree.Tree.{Tree}
use Rattle.knox_circuit.specs.Circuit.{Circuit}
use Rattle.knox_lang.specs.declared.expr.Expr.{Expr}
use Rattle.knox_lang.specs.declared.parts.OpHead.{OpHead}
use Rattle.knox_lang.specs.declared.parts.SpecParts.{SpecParts}
use Rattle.knox_lang.specs.declared.parts.DriverParts.{DriverParts}
use Rattle.knox_lang.specs.declared.parts.EmuParts.{EmuParts}
use Rattle.expr_read.specs.declared.faults.LangFault.{LangFault}
use Rattle.expr_read.specs.Views.{◌>>=◌, each}
use Rattle.script_core.specs.declared.parts.Kind.{Kind}
use Rattle.script_core.specs.declared.parts.Kind.TheVariants.{Factory, BootHost, Rest, Wait, Call, Wire}
use Rattle.script_core.specs.declared.parts.Section.{Section}
use Rattle.script_core.specs.declared.parts.ScriptParts.{ScriptParts}
use Rattle.script_core.specs.Hints.{is_empty, kinds, without, are_of, are_numbered, script_fits}
use Rattle.script_read.specs.declared.scope.Names.{Names}
use Rattle.script_read.specs.declared.draft.Draft.{Draft}
use Rattle.script_read.specs.declared.draft.Said.{Said}
use Rattle.script_read.specs.declared.draft.Said.TheVariants as said
use Rattle.script_read.specs.Faults.{of_hints}
use Rattle.script_read.specs.Scripts.{names_for, host_section, wire_section, is_left, less, nothing, add, form, forms, needed, none_left, finished, text, script_text}
use Rattle.script_read.specs.Grammar.{IsHost, Say, refines, idles, sections, IsText}
use Rattle.script_read.proofs.Forms.{step-is, ok-same, Free, form-tells, says-form}

-- ---- the fold over trees, by what they say

-- what is known after some sayings
abbrev after : Draft → List Said → Draft
after d [] = d
after d (x ∷ xs) = after (add d x) xs

-- each of them is not there yet
abbrev AllFree : Draft → List Said → Type 0
AllFree d [] = Unit {0}
AllFree d (x ∷ xs) = Free d x × AllFree (add d x) xs

record Read (names : Names) (ops : List OpHead) (d : Draft) (ts : List Tree) (read : Draft) : Type 0 where
  said : List Said
  say : Say names ops ts said
  free : AllFree d said
  after : after d said ≡ read

reads-is : (names : Names) (ops : List OpHead) (d : Draft) (ts : List Tree) (read : Draft) → forms names ops d ts ≡ Ok read → Read names ops d ts read
unfolding each
reads-is names ops d [] read h = record { said = []; say = tt; free = tt; after = ok-same d read (Ok d) refl h }
reads-is names ops d (t ∷ ts) read h =
    let s = step-is (form names ops d t) (λ x. forms names ops (add d x) ts) read h in
    let told = form-tells names ops d t s.value s.read in
    let rest = reads-is names ops (add d s.value) ts read s.next in
    record { said = s.value ∷ rest.said; say = (told.says, rest.say); free = (told.free, rest.free); after = rest.after }

is-read : (names : Names) (ops : List OpHead) (d : Draft) (ts : List Tree) (xs : List Said) → Say names ops ts xs → AllFree d xs → forms names ops d ts ≡ Ok (after d xs)
unfolding each
is-read names ops d [] [] say free = refl
is-read names ops d [] (x ∷ xs) say free = absurd say
is-read names ops d (t ∷ ts) [] say free = absurd say
is-read names ops d (t ∷ ts) (x ∷ xs) say free = rw (says-form names ops d t x say.0 free.0) (is-read names ops (add d x) ts xs say.1 free.1)

-- ---- what is known after some sayings

some-is : {A : Type 0} (o : Option A) (d : A) → is_some o ≡ true → o ≡ Some (unwrap_or o d)
some-is None d h = cc
some-is (Some x) d h = refl

none-is : {A : Type 0} (o : Option A) → is_some o ≡ false → o ≡ None
none-is None h = refl
none-is (Some x) h = cc

taken : (k : Kind) (left : List Kind) → is_left k left ≡ true → without k left ≡ Some (less k left)
taken k left h = some-is (without k left) left h

after-sections : (d : Draft) (xs : List Said) → (after d xs).sections ≡ d.sections ++ sections d.next xs
after-sections d [] = sym (append-nil d.sections)
after-sections d (said.Refine c ∷ xs) = after-sections (add d (said.Refine c)) xs
after-sections d (said.Idle c ∷ xs) = after-sections (add d (said.Idle c)) xs
after-sections d (said.Host k ∷ xs) = after-sections (add d (said.Host k)) xs ∙ append_assoc d.sections (host_section d.next k ∷ []) (sections (d.next + 1) xs)
after-sections d (said.Wire c ∷ xs) = after-sections (add d (said.Wire c)) xs ∙ append_assoc d.sections (wire_section d.next c ∷ []) (sections (d.next + 4) xs)

after-left : (d : Draft) (xs : List Said) → AllFree d xs → are_of (sections d.next xs) (Some d.left) ≡ is_empty (after d xs).left
after-left d [] free = refl
after-left d (said.Refine c ∷ xs) free = after-left (add d (said.Refine c)) xs free.1
after-left d (said.Idle c ∷ xs) free = after-left (add d (said.Idle c)) xs free.1
after-left d (said.Host k ∷ xs) free = ap (are_of (sections (d.next + 1) xs)) (taken k d.left free.0) ∙ after-left (add d (said.Host k)) xs free.1
after-left d (said.Wire c ∷ xs) free = ap (are_of (sections (d.next + 4) xs)) (taken Wire d.left free.0) ∙ after-left (add d (said.Wire c)) xs free.1

after-refine : (d : Draft) (xs : List Said) → AllFree d xs → option_to_list (after d xs).refine ≡ option_to_list d.refine ++ refines xs
after-refine d [] free = sym (append-nil (option_to_list d.refine))
after-refine d (said.Refine c ∷ xs) free = after-refine (add d (said.Refine c)) xs free.1 ∙ ap (λ (o : Option Expr). option_to_list o ++ c ∷ refines xs) (sym (none-is d.refine free.0))
after-refine d (said.Idle c ∷ xs) free = after-refine (add d (said.Idle c)) xs free.1
after-refine d (said.Host k ∷ xs) free = after-refine (add d (said.Host k)) xs free.1
after-refine d (said.Wire c ∷ xs) free = after-refine (add d (said.Wire c)) xs free.1

after-idle : (d : Draft) (xs : List Said) → AllFree d xs → option_to_list (after d xs).idle ≡ option_to_list d.idle ++ idles xs
after-idle d [] free = sym (append-nil (option_to_list d.idle))
after-idle d (said.Refine c ∷ xs) free = after-idle (add d (said.Refine c)) xs free.1
after-idle d (said.Idle c ∷ xs) free = after-idle (add d (said.Idle c)) xs free.1 ∙ ap (λ (o : Option Expr). option_to_list o ++ c ∷ idles xs) (sym (none-is d.idle free.0))
after-idle d (said.Host k ∷ xs) free = after-idle (add d (said.Host k)) xs free.1
after-idle d (said.Wire c ∷ xs) free = after-idle (add d (said.Wire c)) xs free.1

-- ---- where each condition and each kind is there once, none is there twice

one-more : {A : Type 0} (o : Option A) (x y : A) (xs : List A) → option_to_list o ++ x ∷ xs ≡ y ∷ [] → is_some o ≡ false
one-more None x y xs h = refl
one-more (Some z) x y xs h = cc

alone : {A : Type 0} (o : Option A) (x y : A) (xs : List A) → option_to_list o ++ x ∷ xs ≡ y ∷ [] → x ∷ xs ≡ y ∷ []
alone None x y xs h = h
alone (Some z) x y xs h = absurd (cc)

some-of : (ss : List Section) (o : Option (List Kind)) → are_of ss o ≡ true → is_some o ≡ true
some-of [] None h = cc
some-of (s ∷ ss) None h = cc
some-of ss (Some left) h = refl

all-free : (d : Draft) (xs : List Said) (r i : Expr) → option_to_list d.refine ++ refines xs ≡ r ∷ [] → option_to_list d.idle ++ idles xs ≡ i ∷ [] → are_of (sections d.next xs) (Some d.left) ≡ true → AllFree d xs
all-free d [] r i hr hi h = tt
all-free d (said.Refine c ∷ xs) r i hr hi h = (one-more d.refine c r (refines xs) hr, all-free (add d (said.Refine c)) xs r i (alone d.refine c r (refines xs) hr) hi h)
all-free d (said.Idle c ∷ xs) r i hr hi h = (one-more d.idle c i (idles xs) hi, all-free (add d (said.Idle c)) xs r i hr (alone d.idle c i (idles xs) hi) h)
all-free d (said.Host k ∷ xs) r i hr hi h =
    let free = some-of (sections (d.next + 1) xs) (without k d.left) h in
    (free, all-free (add d (said.Host k)) xs r i hr hi (sym (ap (are_of (sections (d.next + 1) xs)) (taken k d.left free)) ∙ h))
all-free d (said.Wire c ∷ xs) r i hr hi h =
    let free = some-of (sections (d.next + 4) xs) (without Wire d.left) h in
    (free, all-free (add d (said.Wire c)) xs r i hr hi (sym (ap (are_of (sections (d.next + 4) xs)) (taken Wire d.left free)) ∙ h))

-- ---- texts

needed-is : {A : Type 0} (end : Place) (o : Option A) (x : A) → needed end o ≡ Ok x → o ≡ Some x
needed-is end None x h = cc
needed-is end (Some y) x h = ap Some (ok-same y x (Ok y) refl h)

none-left : (end : Place) (left : List Kind) → none_left end left ≡ Ok tt → left ≡ []
none-left end [] h = refl
none-left end (k ∷ ks) h = cc

empty-is : (left : List Kind) → is_empty left ≡ true → left ≡ []
empty-is [] h = refl
empty-is (k ∷ ks) h = cc

only : {A : Type 0} (o : Option A) (x : A) → option_to_list o ≡ x ∷ [] → o ≡ Some x
only None x h = cc
only (Some y) x h = ap Some (first h) where
  first : y ∷ [] ≡ x ∷ [] → y ≡ x
  first e = cc

record Finished (d : Draft) (p : ScriptParts) : Type 0 where
  refine : d.refine ≡ Some p.refine
  idle : d.idle ≡ Some p.idle
  left : d.left ≡ []
  sections : d.sections ≡ p.sections

finished-is : (end : Place) (d : Draft) (p : ScriptParts) → finished end d ≡ Ok p → Finished d p
finished-is end d p h =
    let r = step-is (needed end d.refine) (λ r. needed end d.idle >>= λ i. none_left end d.left >>= λ whole. Ok (record { refine = r; idle = i; sections = d.sections })) p h in
    let i = step-is (needed end d.idle) (λ i. none_left end d.left >>= λ whole. Ok (record { refine = r.value; idle = i; sections = d.sections })) p r.next in
    let w = step-is (none_left end d.left) (λ whole. Ok (record { refine = r.value; idle = i.value; sections = d.sections })) p i.next in
    let q : ScriptParts = record { refine = r.value; idle = i.value; sections = d.sections } in
    let same : q ≡ p = ok-same q p (Ok q) refl w.next in
    record {
      refine = needed-is end d.refine r.value r.read ∙ ap (λ (x : ScriptParts). Some x.refine) same;
      idle = needed-is end d.idle i.value i.read ∙ ap (λ (x : ScriptParts). Some x.idle) same;
      left = none-left end d.left w.read;
      sections = ap (λ (x : ScriptParts). x.sections) same;
    }

is-finished : (end : Place) (d : Draft) (p : ScriptParts) → Finished d p → finished end d ≡ Ok p
is-finished end d p x = rw (x.refine, x.idle, x.left, x.sections) refl

text-means : (names : Names) (ops : List OpHead) (end : Place) (ts : List Tree) (p : ScriptParts) → text names ops end ts ≡ Ok p → IsText names ops ts p
text-means names ops end ts p h =
    let start = nothing (length ops) in
    let s = step-is (forms names ops start ts) (λ d. finished end d) p h in
    let x = reads-is names ops start ts s.value s.read in
    let f = finished-is end s.value p s.next in
    let made : sections 1 x.said ≡ p.sections = sym (after-sections start x.said) ∙ ap (λ (d : Draft). d.sections) x.after ∙ f.sections in
    let none : is_empty (after start x.said).left ≡ true = ap (λ (d : Draft). is_empty d.left) x.after ∙ ap is_empty f.left in
    record {
      said = x.said;
      say = x.say;
      refine = sym (after-refine start x.said x.free) ∙ ap (λ (d : Draft). option_to_list d.refine) x.after ∙ ap option_to_list f.refine;
      idle = sym (after-idle start x.said x.free) ∙ ap (λ (d : Draft). option_to_list d.idle) x.after ∙ ap option_to_list f.idle;
      sections = made;
      once = ap (λ (ss : List Section). are_of ss (Some (kinds (length ops)))) (sym made) ∙ after-left start x.said x.free ∙ none;
    }

means-text : (names : Names) (ops : List OpHead) (end : Place) (ts : List Tree) (p : ScriptParts) → IsText names ops ts p → text names ops end ts ≡ Ok p
means-text names ops end ts p x =
    let start = nothing (length ops) in
    let once : are_of (sections 1 x.said) (Some (kinds (length ops))) ≡ true = ap (λ (ss : List Section). are_of ss (Some (kinds (length ops)))) x.sections ∙ x.once in
    let free = all-free start x.said p.refine p.idle x.refine x.idle once in
    let f : Finished (after start x.said) p = record {
      refine = only (after start x.said).refine p.refine (after-refine start x.said free ∙ x.refine);
      idle = only (after start x.said).idle p.idle (after-idle start x.said free ∙ x.idle);
      left = empty-is (after start x.said).left (sym (after-left start x.said free) ∙ once);
      sections = after-sections start x.said ∙ x.sections;
    } in
    rw (is-read names ops start ts x.said x.say free) (is-finished end (after start x.said) p f)

-- ---- the script is of the form

same : (n : ℕ) → (n == n) ≡ true
same n = grind (arith, nat_tests)

host-fits : (ops : List OpHead) (t : Tree) (k : Kind) (n : ℕ) (ss : List Section) → IsHost ops t k → are_numbered (n + 1) ss ≡ true → are_numbered n (host_section n k ∷ ss) ≡ true
host-fits ops t Factory n ss x h = rw (same n) h
host-fits ops t BootHost n ss x h = rw (same n) h
host-fits ops t Rest n ss x h = rw (same n) h
host-fits ops t Wait n ss x h = rw (same n) h
host-fits ops t (Call o) n ss x h = rw (same n) h
host-fits ops t Wire n ss x h = absurd x

wire-fits : (c : Expr) (n : ℕ) (ss : List Section) → are_numbered (n + 4) ss ≡ true → are_numbered n (wire_section n c ∷ ss) ≡ true
wire-fits c n ss h = rw (same n, same (n + 1), same (n + 2), same (n + 3)) h

numbered : (names : Names) (ops : List OpHead) (n : ℕ) (ts : List Tree) (xs : List Said) → Say names ops ts xs → are_numbered n (sections n xs) ≡ true
numbered names ops n [] [] say = refl
numbered names ops n [] (x ∷ xs) say = absurd say
numbered names ops n (t ∷ ts) [] say = absurd say
numbered names ops n (t ∷ ts) (said.Refine c ∷ xs) say = numbered names ops n ts xs say.1
numbered names ops n (t ∷ ts) (said.Idle c ∷ xs) say = numbered names ops n ts xs say.1
numbered names ops n (t ∷ ts) (said.Host k ∷ xs) say = host-fits ops t k n (sections (n + 1) xs) say.0 (numbered names ops (n + 1) ts xs say.1)
numbered names ops n (t ∷ ts) (said.Wire c ∷ xs) say = wire-fits c n (sections (n + 4) xs) (numbered names ops (n + 4) ts xs say.1)

pub parts-fit : (names : Names) (ops : List OpHead) (end : Place) (ts : List Tree) (p : ScriptParts) → text names ops end ts ≡ Ok p → script_fits (length ops) p ≡ true
parts-fit names ops end ts p h =
    let x = text-means names ops end ts p h in
    let n : are_numbered 1 p.sections ≡ true = ap (are_numbered 1) (sym x.sections) ∙ numbered names ops 1 ts x.said x.say in
    rw (n, x.once) refl

-- ---- of a device

given : {A : Type 0} (r : Result A LangFault) (p : A) → of_hints r ≡ Ok p → r ≡ Ok p
given (Ok x) p h = cc
given (Err f) p h = cc

pub text-is : (c : Circuit) (s : SpecParts) (d : DriverParts) (e : EmuParts) (end : Place) (ts : List Tree) (p : ScriptParts) → script_text c s d e end ts ≡ Ok p → IsText (names_for c s d e) s.ops ts p
text-is c s d e end ts p h = text-means (names_for c s d e) s.ops end ts p (given (text (names_for c s d e) s.ops end ts) p h)

pub is-text : (c : Circuit) (s : SpecParts) (d : DriverParts) (e : EmuParts) (end : Place) (ts : List Tree) (p : ScriptParts) → IsText (names_for c s d e) s.ops ts p → script_text c s d e end ts ≡ Ok p
is-text c s d e end ts p x = ap of_hints (means-text (names_for c s d e) s.ops end ts p x)

pub text-fits : (c : Circuit) (s : SpecParts) (d : DriverParts) (e : EmuParts) (end : Place) (ts : List Tree) (p : ScriptParts) → script_text c s d e end ts ≡ Ok p → script_fits (length s.ops) p ≡ true
text-fits c s d e end ts p h = parts-fit (names_for c s d e) s.ops end ts p (given (text (names_for c s d e) s.ops end ts) p h)
