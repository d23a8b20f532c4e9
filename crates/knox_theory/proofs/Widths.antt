-- The widest path of a segment bounds what its runs take, and a segment is closed where its numbers are.
use Rattle.std.proofs.Common.{refl, ◌≡◌, ℕ, zero, suc, ◌+◌, ◌-◌, ◌*◌, ◌^◌, ◌<◌, ◌≤◌, ◌⊎◌, inl, inr, max, List, [], ◌∷◌, Bool, true, false, ap, sym, ◌∙◌, subst, arith}
use Rattle.knox_words.specs.Bits.{Bits}
use Rattle.knox_words.specs.Lists.{total, Words}
use Rattle.knox_theory.specs.Design.{Design, go}
use Rattle.knox_theory.specs.Script.{CallHavoc, CallInvariant, CallItems, CallPlace, CallReplace, CallSplit, Close, Cut, Havoc, HostSections, Invariant, Label, Place, Replace, Run, Script, Split, State, Step, Subsume, WireItems}
use Rattle.knox_theory.specs.Course.{Assume, Check, Course, Done, End, Failed, Mark, run, Safe, Take, takes, Tell, Held, Short, Vacuous}
use Rattle.knox_theory.specs.WireSegments.{course, cut_course, forks, noted, steps, subsumes, ticked, wire_course}
use Rattle.knox_theory.specs.HostSegments.{boot_host_course, call_course, call_items, factory_course, moved, rest_course, wait_course}
use Rattle.knox_theory.specs.Segments.{boot_host_bits, call_bits, call_widest, cut_bits, factory_bits, idle_bits, Segment, segments, widest, wire_bits}
use Rattle.knox_theory.specs.Closed.{Closed, IsAmong}
use Rattle.knox_theory.specs.Numbered.{all_below, all_tried, choices_at, is_closed_below, is_unfalsified, Within}
use Rattle.knox_theory.proofs.Listed.{closed-safe, each-segment, safe-closed}
use Rattle.knox_theory.proofs.Basics.{and-both, and-left, and-right}
use Rattle.knox_theory.proofs.Covering.{covered}

wider : (t : Course) (b c : ℕ) → b ≤ c → Within t b → Within t c
wider (Check ok h rest) b c le w = wider rest b c le w
wider (Assume ok rest) b c le w = wider rest b c le w
wider (Take v rest) b c le w =
    let first : v ≤ b = w.0 in
    (omega arith, λ x f. wider (rest x) (b - v) (c - v) (omega arith) (w.1 x f))
wider (Mark l s rest) b c le w = wider rest b c le w
wider (Tell n rest) b c le w = wider rest b c le w
wider Done b c le w = tt

-- bits in front
in_front : (w : ℕ) (rest : Bits → Course) (b : ℕ) → ((c : Bits) → Within (rest c) b) → Within (Take w rest) (w + b)
in_front w rest b h =
    let less : (w + b) - w ≡ b = omega arith in
    (omega arith, λ c f. subst (λ z. Within (rest c) z) (sym less) (h c))

pub takes-within : (ws : List ℕ) (rest : Words → Course) (b : ℕ) → ((cs : Words) → Within (rest cs) b) → Within (takes ws rest) (total ws + b)
takes-within [] rest b h = subst (λ z. Within (rest []) z) (omega arith) (h [])
takes-within (w ∷ ws) rest b h =
    let same : w + (total ws + b) ≡ (w + total ws) + b = omega arith in
    subst (λ z. Within (takes (w ∷ ws) rest) z) same (in_front w (λ c. takes ws (λ cs. rest (c ∷ cs))) (total ws + b) (λ c. takes-within ws (λ cs. rest (c ∷ cs)) b (λ cs. h (c ∷ cs))))

takes-last : (ws : List ℕ) (rest : Words → Course) → ((cs : Words) → Within (rest cs) 0) → Within (takes ws rest) (total ws)
takes-last ws rest h = let same : total ws + 0 ≡ total ws = omega arith in subst (λ z. Within (takes ws rest) z) same (takes-within ws rest 0 h)

left_most : (a b : ℕ) → a ≤ max a b
left_most a b = omega arith

right_most : (a b : ℕ) → b ≤ max a b
right_most a b = omega arith

forks-within : (v : Bool) (x y : Course) (a b : ℕ) → Within x a → Within y b → Within (forks v x y) (max a b)
forks-within true x y a b p q = wider x a (max a b) (left_most a b) p
forks-within false x y a b p q = wider y b (max a b) (right_most a b) q

module _ {P : Type 0} (d : Design P) (s : Script P) where
  steps-within : (h n : ℕ) (p : Place) (rest : Place → Course) (b : ℕ) → ((q : Place) → Within (rest q) b) → Within (steps d s h n p rest) (n * total d.device.ins + b)
  steps-within h zero p rest b w = subst (λ z. Within (rest p) z) (omega arith) (w p)
  steps-within h (suc n) p rest b w =
      let same : total d.device.ins + (n * total d.device.ins + b) ≡ suc n * total d.device.ins + b = omega arith in
      subst (λ z. Within (steps d s h (suc n) p rest) z) same
      (takes-within d.device.ins _ (n * total d.device.ins + b) (λ i. steps-within h n (noted (ticked d p.state i) p.taken i) rest b w))

  pub items-within : (passes : ℕ → Place → Bool) (items : WireItems) (p : Place) → Within (course d s passes items p) (widest d items)
  items-within passes (Step h n rest) p = steps-within h n p (λ q. course d s passes rest q) (widest d rest) (λ q. items-within passes rest q)
  items-within passes (Split h t a b) p = forks-within (t p) _ _ (widest d a) (widest d b) (items-within passes a p) (items-within passes b p)
  items-within passes (Invariant h c rest) p = items-within passes rest p
  items-within passes (Replace h a b rest) p = items-within passes rest p
  items-within passes (Havoc h x c rest) p = in_front x.width
      (λ b. Assume (c (noted p.state p.taken (b ∷ []))) (course d s passes rest (noted (x.put p.state b) p.taken (b ∷ []))))
      (widest d rest) (λ b. items-within passes rest (noted (x.put p.state b) p.taken (b ∷ [])))
  items-within passes (Label l pins rest) p = items-within passes rest p
  items-within passes (Cut h c rest) p = tt
  items-within passes (Subsume h l) p = tt

  pub call-within : (host : HostSections P) (o : ℕ) (items : CallItems P) (p : CallPlace P) → Within (call_items d host o items p) (call_widest items)
  call-within host o (Run h n rest) p = call-within host o rest (moved p (go d n p.config) [])
  call-within host o (CallSplit h t a b) p = forks-within (t p) _ _ (call_widest a) (call_widest b) (call-within host o a p) (call-within host o b p)
  call-within host o (CallInvariant h c rest) p = call-within host o rest p
  call-within host o (CallReplace h a b rest) p = call-within host o rest p
  call-within host o (CallHavoc h x c rest) p = in_front x.width
      (λ b. Assume (c (moved p p.config (b ∷ []))) (call_items d host o rest (moved p (x.put p.config b) (b ∷ []))))
      (call_widest rest) (λ b. call-within host o rest (moved p (x.put p.config b) (b ∷ [])))
  call-within host o Close p = tt

  pub cut-within : (passes : ℕ → Place → Bool) (c : State → Bool) (rest : WireItems) → Within (cut_course d s passes c rest) (cut_bits d rest)
  cut-within passes c rest =
      takes-within d.fields _ _ (λ f. takes-within d.cells.widths _ _ (λ x. takes-within d.emu _ _ (λ e. takes-within d.copy.widths _ _ (λ k. items-within passes rest _))))

  pub wire-within : (passes : ℕ → Place → Bool) → Within (wire_course d s passes) (wire_bits d s.wire)
  wire-within passes =
      takes-within d.fields _ _ (λ f. takes-within d.persistent.widths _ _ (λ x. takes-within d.device.noise _ _ (λ n. takes-within d.kept _ _ (λ k. items-within passes s.wire _))))

module _ {P : Type 0} (d : Design P) (s : Script P) where
  pub factory-within : (host : HostSections P) → Within (factory_course d s host) (factory_bits d)
  factory-within host = takes-last d.device.factory_noise _ (λ n. tt)

  pub boot-within : (host : HostSections P) → Within (boot_host_course d s host) (boot_host_bits d)
  boot-within host = takes-within d.fields _ _ (λ f. takes-within d.persistent.widths _ _ (λ x. takes-within d.device.noise _ _ (λ n. takes-last d.kept _ (λ k. tt))))

  pub rest-within : (host : HostSections P) → Within (rest_course d s host) (idle_bits d)
  rest-within host = takes-within d.fields _ _ (λ f. takes-within d.cells.widths _ _ (λ x. takes-last d.kept _ (λ k. tt)))

  pub wait-within : (host : HostSections P) → Within (wait_course d host) (idle_bits d)
  wait-within host = takes-within d.fields _ _ (λ f. takes-within d.cells.widths _ _ (λ x. takes-last d.kept _ (λ k. tt)))

  pub call-course-within : (host : HostSections P) → (o : ℕ) → Within (call_course d host o) (call_bits d o (host.calls o))
  call-course-within host o =
      takes-within d.fields _ _ (λ f. takes-within d.cells.widths _ _ (λ x. takes-within (d.device.args o) _ _ (λ as'. takes-within d.kept _ _ (λ k. call-within d s host o (host.calls o) _))))

at_or_below : (k n : ℕ) (test : ℕ → Bool) → test n ≡ true → (k < n → test k ≡ true) → (k ≡ n) ⊎ (k < n) → test k ≡ true
at_or_below k n test here below (inl e) = ap test e ∙ here
at_or_below k n test here below (inr l) = below l

-- where every number passes, no choices falsify a hint
below-all : (n : ℕ) (test : ℕ → Bool) → all_below n test ≡ true → (k : ℕ) → k < n → test k ≡ true
below-all zero test h k lt = absurd (omega arith)
below-all (suc n) test h k lt =
    at_or_below k n test (and-left (test n) (all_below n test) h) (λ l. below-all n test (and-right (test n) (all_below n test) h) k l) (grind arith)

unfalsified : (e : End) (h : ℕ) → is_unfalsified e ≡ true → e ≡ Failed h → ⊥
unfalsified e h p q = let no : is_unfalsified (Failed h) ≡ true = subst (λ z. is_unfalsified z ≡ true) q p in cc

pub closed-below : (t : Course) (b : ℕ) → Within t b → is_closed_below t b ≡ true → Safe t
closed-below t b w p = record {
  never = λ h cs e.
      let c = covered t b w h cs e in
      unfalsified (run t (choices_at t b c.number)) h (below-all (2 ^ b) (λ n. is_unfalsified (run t (choices_at t b n))) p c.number c.below) c.falsifies;
}

module _ {P : Type 0} (d : Design P) (s : Script P) where
  record InBits (g : Segment) : Type 0 where
    within : Within g.course g.choice_bits

  -- no path of a segment takes more bits than are told for it
  pub segments-within : (g : Segment) → IsAmong g (segments d s) → Within g.course g.choice_bits
  segments-within g among =
      (each-segment d s InBits
      (record {
        wire = record { within = wire-within d s (subsumes d s) };
        cut = λ m h c rest. record { within = cut-within d s (subsumes d s) c rest };
        factory = λ host. record { within = factory-within d s host };
        boot_host = λ host. record { within = boot-within d s host };
        rest = λ host. record { within = rest-within d s host };
        wait = λ host. record { within = wait-within d s host };
        call = λ host o lt. record { within = call-course-within d s host o };
      })
      g among).within

  tried-one : (xs : List Segment) (g : Segment) → all_tried xs ≡ true → IsAmong g xs → is_closed_below g.course g.choice_bits ≡ true
  tried-one [] g e a = absurd a
  tried-one (x ∷ xs) g e (inl p) = subst (λ z. is_closed_below z.course z.choice_bits ≡ true) (sym p) (and-left (is_closed_below x.course x.choice_bits) (all_tried xs) e)
  tried-one (x ∷ xs) g e (inr a) = tried-one xs g (and-right (is_closed_below x.course x.choice_bits) (all_tried xs) e) a

  -- a script whose every segment is tried at every number is closed
  pub tried-closed : all_tried (segments d s) ≡ true → Closed d s
  tried-closed e = safe-closed d s (λ g a. closed-below g.course g.choice_bits (segments-within g a) (tried-one (segments d s) g e a))

-- the other way round
not-failed : (e : End) → ((h : ℕ) → e ≡ Failed h → ⊥) → is_unfalsified e ≡ true
not-failed Held never = refl
not-failed Vacuous never = refl
not-failed (Failed h) never = absurd (never h refl)
not-failed Short never = refl

all-below : (n : ℕ) (test : ℕ → Bool) → ((k : ℕ) → test k ≡ true) → all_below n test ≡ true
all-below zero test f = refl
all-below (suc n) test f = and-both (test n) (all_below n test) (f n) (all-below n test f)

safe-below : (t : Course) (b : ℕ) → Safe t → is_closed_below t b ≡ true
safe-below t b safe = all-below (2 ^ b) (λ n. is_unfalsified (run t (choices_at t b n))) (λ n. not-failed (run t (choices_at t b n)) (λ h e. safe.never h (choices_at t b n) e))

safe-tried : (gs : List Segment) → ((g : Segment) → IsAmong g gs → Safe g.course) → all_tried gs ≡ true
safe-tried [] safe = refl
safe-tried (g ∷ gs) safe = and-both (is_closed_below g.course g.choice_bits) (all_tried gs) (safe-below g.course g.choice_bits (safe g (inl refl))) (safe-tried gs (λ x a. safe x (inr a)))

pub closed-tried : {P : Type 0} (d : Design P) (s : Script P) → Closed d s → all_tried (segments d s) ≡ true
closed-tried d s closed = safe-tried (segments d s) (closed-safe d s closed)
