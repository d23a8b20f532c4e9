-- A run of a segment fails at a hint of that segment.
use Rattle.std.proofs.Common.{◌≡◌, ℕ, zero, suc, List, [], ◌∷◌, Bool, true, false, refl, arith, ◌==◌, ◌++◌, ◌⊎◌, inl, inr, if◌then◌else◌}
use Rattle.knox_words.specs.Bits.{Bits}
use Rattle.knox_words.specs.Lists.{fits, Words}
use Rattle.knox_theory.specs.Design.{Design, go}
use Rattle.knox_theory.specs.Script.{CallHavoc, CallInvariant, CallItems, CallPlace, CallReplace, CallSplit, Close, Cut, Havoc, HostSections, Invariant, Label, Place, Replace, Run, Script, Split, Step, Subsume, WireItems}
use Rattle.knox_theory.specs.Course.{Assume, Check, Course, Done, Failed, Mark, Note, run, Short, Take, takes, Tell}
use Rattle.knox_theory.specs.WireSegments.{course, enters, forks, noted, steps, subsumes, ticked}
use Rattle.knox_theory.specs.HostSegments.{call_items, moved}
use Rattle.knox_theory.specs.Segments.{call_item_hints, item_hints, Segment, segments}
use Rattle.knox_theory.specs.Closed.{is_hint_of, IsAmong}
use Rattle.knox_theory.proofs.Listed.{each-segment}

record Fails (t : Course) (h : ℕ) : Type 0 where
  choices : Words
  fails : run t choices ≡ Failed h

-- where a course fails at h, it is at this check or later
check-fails : {A : Type 0} {ok : Bool} {k h : ℕ} {t : Course} → Fails (Check ok k t) h → (k ≡ h → A) → (Fails t h → A) → A
check-fails {ok = true} f here later = later (record { choices = f.choices; fails = f.fails })
check-fails {ok = false} f here later = let e = f.fails in here (cc)

assume-fails : {ok : Bool} {h : ℕ} {t : Course} → Fails (Assume ok t) h → Fails t h
assume-fails {ok = true} f = record { choices = f.choices; fails = f.fails }
assume-fails {ok = false} f = let e = f.fails in cc

enters-fails : {ok : Bool} {h : ℕ} {t : Course} → Fails (enters ok t) h → Fails t h
enters-fails f = let g = assume-fails f in record { choices = g.choices; fails = g.fails }

tell-fails : {n : Note} {h : ℕ} {t : Course} → Fails (Tell n t) h → Fails t h
tell-fails f = record { choices = f.choices; fails = f.fails }

mark-fails : {l : ℕ} {p : Place} {h : ℕ} {t : Course} → Fails (Mark l p t) h → Fails t h
mark-fails f = record { choices = f.choices; fails = f.fails }

done-fails : {A : Type 0} {h : ℕ} → Fails Done h → A
done-fails f = let e = f.fails in cc

record FailsAt (rest : Bits → Course) (h : ℕ) : Type 0 where
  word : Bits
  later : Fails (rest word) h

take-fails-over : (w : ℕ) (rest : Bits → Course) (h : ℕ) (cs : Words) → run (Take w rest) cs ≡ Failed h → FailsAt rest h
take-fails-over w rest h [] e = cc
take-fails-over w rest h (c ∷ cs) e = by_test (fits w c) e
  where
    by_test : (v : Bool) → (if v then run (rest c) cs else Short) ≡ Failed h → FailsAt rest h
    by_test true p = record { word = c; later = record { choices = cs; fails = p } }
    by_test false p = cc

take-fails : {w h : ℕ} {rest : Bits → Course} → Fails (Take w rest) h → FailsAt rest h
take-fails {w = w} {h = h} {rest = rest} f = take-fails-over w rest h f.choices f.fails

record FailsAfter (rest : Words → Course) (h : ℕ) : Type 0 where
  words : Words
  later : Fails (rest words) h

takes-fail : {h : ℕ} (ws : List ℕ) (rest : Words → Course) → Fails (takes ws rest) h → FailsAfter rest h
takes-fail [] rest f = record { words = []; later = f }
takes-fail (w ∷ ws) rest f =
    let one = take-fails f in
    let all = takes-fail ws (λ cs. rest (one.word ∷ cs)) one.later in
    record { words = one.word ∷ all.words; later = all.later }

fork-fails : {A : Type 0} (v : Bool) (x y : Course) {h : ℕ} → Fails (forks v x y) h → (Fails x h → A) → (Fails y h → A) → A
fork-fails true x y f yes' no' = yes' (tell-fails f)
fork-fails false x y f yes' no' = no' (tell-fails f)

same-hint : (k h : ℕ) (ks : List ℕ) → k ≡ h → is_hint_of h (k ∷ ks) ≡ true
same-hint k h ks e = let same : h == k ≡ true = grind arith in rw same refl

later-hint : (k h : ℕ) (ks : List ℕ) → is_hint_of h ks ≡ true → is_hint_of h (k ∷ ks) ≡ true
later-hint k h ks e = by_test (h == k)
  where
    by_test : (b : Bool) → (if b then true else is_hint_of h ks) ≡ true
    by_test true = refl
    by_test false = e

pub left-hint : (h : ℕ) (as' bs : List ℕ) → is_hint_of h as' ≡ true → is_hint_of h (as' ++ bs) ≡ true
left-hint h [] bs e = cc
left-hint h (a ∷ as') bs e = by_test (h == a) e (λ p. left-hint h as' bs p)
  where
    by_test : (b : Bool) → (if b then true else is_hint_of h as') ≡ true → (is_hint_of h as' ≡ true → is_hint_of h (as' ++ bs) ≡ true) → (if b then true else is_hint_of h (as' ++ bs)) ≡ true
    by_test true p go = refl
    by_test false p go = go p

pub right-hint : (h : ℕ) (as' bs : List ℕ) → is_hint_of h bs ≡ true → is_hint_of h (as' ++ bs) ≡ true
right-hint h [] bs e = e
right-hint h (a ∷ as') bs e = later-hint a h (as' ++ bs) (right-hint h as' bs e)

either-hint : {A B C : Type 0} → A ⊎ B → (B → C) → A ⊎ C
either-hint (inl a) f = inl a
either-hint (inr b) f = inr (f b)

behind : {A : Type 0} (k : ℕ) (ks : List ℕ) (h : ℕ) → A ⊎ (is_hint_of h ks ≡ true) → A ⊎ (is_hint_of h (k ∷ ks) ≡ true)
behind k ks h (inl a) = inl a
behind k ks h (inr e) = inr (later-hint k h ks e)

of-call : (k : ℕ) (ks : List ℕ) (h : ℕ) → (k ≡ h) ⊎ (is_hint_of h ks ≡ true) → is_hint_of h (k ∷ ks) ≡ true
of-call k ks h (inl e) = same-hint k h ks e
of-call k ks h (inr e) = later-hint k h ks e

module _ {P : Type 0} (d : Design P) (s : Script P) where
  steps-fail : (k n : ℕ) (p : Place) (rest : Place → Course) (h : ℕ) (ks : List ℕ) → ((q : Place) → Fails (rest q) h → is_hint_of h ks ≡ true) →
      Fails (steps d s k n p rest) h → is_hint_of h (k ∷ ks) ≡ true
  steps-fail k zero p rest h ks on f = later-hint k h ks (on p f)
  steps-fail k (suc n) p rest h ks on f =
      let t = takes-fail d.device.ins _ f in
      check-fails (tell-fails t.later) (same-hint k h ks)
      (λ f1. check-fails f1 (same-hint k h ks) (λ f2. steps-fail k n (noted (ticked d p.state t.words) p.taken t.words) rest h ks on f2))

  items-fail : (items : WireItems) (p : Place) (h : ℕ) → Fails (course d s (subsumes d s) items p) h → is_hint_of h (item_hints items) ≡ true
  items-fail (Step k n rest) p h f = steps-fail k n p (λ q. course d s (subsumes d s) rest q) h (item_hints rest) (λ q f1. items-fail rest q h f1) f
  items-fail (Split k t a b) p h f =
      later-hint k h (item_hints a ++ item_hints b)
      (fork-fails (t p) _ _ f (λ f1. left-hint h (item_hints a) (item_hints b) (items-fail a p h f1)) (λ f1. right-hint h (item_hints a) (item_hints b) (items-fail b p h f1)))
  items-fail (Invariant k c rest) p h f = check-fails f (same-hint k h (item_hints rest)) (λ f1. later-hint k h (item_hints rest) (items-fail rest p h f1))
  items-fail (Replace k a b rest) p h f = check-fails f (same-hint k h (item_hints rest)) (λ f1. later-hint k h (item_hints rest) (items-fail rest p h f1))
  items-fail (Havoc k x c rest) p h f =
      check-fails f (same-hint k h (item_hints rest))
      (λ f1. let one = take-fails f1 in later-hint k h (item_hints rest) (items-fail rest (noted (x.put p.state one.word) p.taken (one.word ∷ [])) h (assume-fails one.later)))
  items-fail (Label k pins rest) p h f = later-hint k h (item_hints rest) (items-fail rest p h (mark-fails f))
  items-fail (Cut k c rest) p h f = check-fails f (same-hint k h []) (λ f1. done-fails f1)
  items-fail (Subsume k l) p h f = check-fails f (same-hint k h []) (λ f1. done-fails f1)

  -- the hints of a call's items, or that of its section, which stands behind them here
  call-fails : (host : HostSections P) (o : ℕ) (items : CallItems P) (p : CallPlace P) (h : ℕ) → Fails (call_items d host o items p) h → (host.call_hint o ≡ h) ⊎ (is_hint_of h (call_item_hints items) ≡ true)
  call-fails host o (Run k n rest) p h f = behind k (call_item_hints rest) h (call-fails host o rest (moved p (go d n p.config) []) h (tell-fails f))
  call-fails host o (CallSplit k t a b) p h f =
      fork-fails (t p) _ _ f
      (λ f1. either-hint (call-fails host o a p h f1) (λ e. later-hint k h _ (left-hint h (call_item_hints a) (call_item_hints b) e)))
      (λ f1. either-hint (call-fails host o b p h f1) (λ e. later-hint k h _ (right-hint h (call_item_hints a) (call_item_hints b) e)))
  call-fails host o (CallInvariant k c rest) p h f = check-fails f (λ e. inr (same-hint k h (call_item_hints rest) e)) (λ f1. behind k (call_item_hints rest) h (call-fails host o rest p h f1))
  call-fails host o (CallReplace k a b rest) p h f = check-fails f (λ e. inr (same-hint k h (call_item_hints rest) e)) (λ f1. behind k (call_item_hints rest) h (call-fails host o rest p h f1))
  call-fails host o (CallHavoc k x c rest) p h f =
      check-fails f (λ e. inr (same-hint k h (call_item_hints rest) e))
      (λ f1.
      let one = take-fails f1 in
      behind k (call_item_hints rest) h (call-fails host o rest (moved p (x.put p.config one.word) (one.word ∷ [])) h (assume-fails one.later)))
  call-fails host o Close p h f = check-fails (tell-fails f) (λ e. inl e) (λ f1. done-fails f1)

  record OwnHints (g : Segment) : Type 0 where
    own : (h : ℕ) → Fails g.course h → is_hint_of h g.hints ≡ true

  -- a run of a segment fails at a hint of that segment alone
  pub own-hints : (g : Segment) → IsAmong g (segments d s) → (h : ℕ) (cs : Words) → run g.course cs ≡ Failed h → is_hint_of h g.hints ≡ true
  own-hints g among h cs e =
      (each-segment d s OwnHints
      (record {
        wire = record {
          own = λ h f.
              let a = takes-fail d.fields _ f in
              let b = takes-fail d.persistent.widths _ a.later in
              let m = takes-fail d.device.noise _ b.later in
              let n = takes-fail d.kept _ m.later in
              later-hint s.wire_hint h (item_hints s.wire) (items-fail s.wire _ h (enters-fails n.later));
        };
        cut = λ m k c rest. record {
          own = λ h f.
              let a = takes-fail d.fields _ f in
              let b = takes-fail d.cells.widths _ a.later in
              let y = takes-fail d.emu _ b.later in
              let z = takes-fail d.copy.widths _ y.later in
              items-fail rest _ h (enters-fails z.later);
        };
        factory = λ host. record { own = λ h f. let a = takes-fail d.device.factory_noise _ f in check-fails a.later (same-hint host.factory_hint h []) (λ f1. done-fails f1) };
        boot_host = λ host. record {
          own = λ h f.
              let a = takes-fail d.fields _ f in
              let b = takes-fail d.persistent.widths _ a.later in
              let m = takes-fail d.device.noise _ b.later in
              let n = takes-fail d.kept _ m.later in
              check-fails (enters-fails n.later) (same-hint host.boot_host_hint h []) (λ f1. done-fails f1);
        };
        rest = λ host. record {
          own = λ h f.
              let a = takes-fail d.fields _ f in
              let b = takes-fail d.cells.widths _ a.later in
              let n = takes-fail d.kept _ b.later in
              check-fails (enters-fails n.later) (same-hint host.rest_hint h []) (λ f1. done-fails f1);
        };
        wait = λ host. record {
          own = λ h f.
              let a = takes-fail d.fields _ f in
              let b = takes-fail d.cells.widths _ a.later in
              let n = takes-fail d.kept _ b.later in
              check-fails (enters-fails n.later) (same-hint host.wait_hint h []) (λ f1. done-fails f1);
        };
        call = λ host o lt. record {
          own = λ h f.
              let a = takes-fail d.fields _ f in
              let b = takes-fail d.cells.widths _ a.later in
              let m = takes-fail (d.device.args o) _ b.later in
              let n = takes-fail d.kept _ m.later in
              of-call (host.call_hint o) (call_item_hints (host.calls o)) h (call-fails host o (host.calls o) _ h (enters-fails n.later));
        };
      })
      g among).own h (record { choices = cs; fails = e })
