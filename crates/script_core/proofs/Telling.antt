-- What the driver's tests are in a run: behind the words that its root takes, those of the driver's body; in a segment that isn't of a call, none.
use Rattle.std.proofs.Common.{◌≡◌, ◌∙◌, inl, inr, ℕ, zero, suc, ◌&&◌, List, [], ◌∷◌, ◌++◌, append-nil, length, slice_get, Option, Some, None, Bool, true, false, refl, sym, ap, subst, if◌then◌else◌}
use Rattle.knox_words.specs.Bits.{Bits}
use Rattle.knox_words.specs.Lists.{Words, fits, same_words}
use Rattle.knox_words.proofs.Lists.{same_words-refl, same_words-true}
use Rattle.knox_theory.specs.Design.{Config, finish_tests}
use Rattle.knox_theory.specs.Course.{Course, Check, Done, told, takes}
use Rattle.knox_theory.specs.WireSegments.{enters}
use Rattle.knox_theory.specs.Segments.{Segment}
use Rattle.knox_theory.specs.Closed.{IsAmong}
use Rattle.knox_theory.specs.Traces.{drove, branch_word, is_of_call}
use Rattle.knox_theory.proofs.Basics.{and-left, and-right, and-both}
use Rattle.knox_theory.proofs.Tracing.{undriven}
use Rattle.knox_circuit.specs.Cells.{cells_of, state_widths}
use Rattle.knox_circuit.specs.Rom.{rom_words, free_mask}
use Rattle.knox_words.specs.Lists.{pick, merge}
use Rattle.device_design.specs.Roms.{known_words}
use Rattle.knox_lang.specs.WellFormed.{word_widths}
use Rattle.driver_machine.specs.Left as driver
use Rattle.driver_machine.specs.Outcomes.{tests_left, tests_met}
use Rattle.emu_machine.specs.declared.device.Device.{Device}
use Rattle.device_design.specs.Meaning.{head_args, design_of}
use Rattle.script_core.specs.declared.parts.Kind.TheVariants.{Factory, BootHost, Rest, Wait, Call, Wire}
use Rattle.script_core.specs.declared.parts.Root.{Root}
use Rattle.script_core.specs.declared.parts.Root.TheVariants.{OfKind, OfCut}
use Rattle.script_core.specs.declared.parts.ScriptParts.{ScriptParts}
use Rattle.script_core.specs.Branches.{op_of_root}
use Rattle.script_core.specs.Hints.{seen, holds, script_fits, roots, root_at}
use Rattle.script_core.specs.Reached.{design, script, kind_course, root_course, idling}
use Rattle.script_core.specs.Runs.{Reach, ToEnd, ToVacuous, ToFailure, Wanting, Misfitting, reach, course_of, course_at, segments_of}
use Rattle.script_core.proofs.Formed.{Formed, formed}
use Rattle.script_core.proofs.Listing.{seg, segs, segments-are}
use Rattle.script_core.proofs.Rooted.{root-course}
use Rattle.script_core.proofs.Hosting.{call_tail, call-is}

-- WORDS OF SOME WIDTHS are taken, or the run ends among them, whatever follows

record Goes (ws : List ℕ) (cs taken left : Words) : Type 0 where
  reached : (rest : Words → Course) → reach (takes ws rest) cs ≡ reach (rest taken) left
  tells : (rest : Words → Course) → told (takes ws rest) cs ≡ told (rest taken) left

record Lacks (ws : List ℕ) (cs : Words) (r : Reach) : Type 0 where
  reached : (rest : Words → Course) → reach (takes ws rest) cs ≡ r
  tells : (rest : Words → Course) → told (takes ws rest) cs ≡ []

data Front (ws : List ℕ) (cs : Words) : Type 0 where
  On : (taken left : Words) → Goes ws cs taken left → Front ws cs
  Out : (r : Reach) → Lacks ws cs r → Front ws cs

front-more : (w : ℕ) (ws : List ℕ) (c : Bits) (cs : Words) (b : Bool) → fits w c ≡ b → Front ws cs → Front (w ∷ ws) (c ∷ cs)
front-more w ws c cs true e (On taken left g) =
    On (c ∷ taken) left (record {
      reached = λ rest. ap (λ (b : Bool). if b then reach (takes ws (λ t. rest (c ∷ t))) cs else Misfitting) e ∙ g.reached (λ t. rest (c ∷ t));
      tells = λ rest. ap (λ (b : Bool). if b then told (takes ws (λ t. rest (c ∷ t))) cs else []) e ∙ g.tells (λ t. rest (c ∷ t));
    })
front-more w ws c cs true e (Out r g) =
    Out r (record {
      reached = λ rest. ap (λ (b : Bool). if b then reach (takes ws (λ t. rest (c ∷ t))) cs else Misfitting) e ∙ g.reached (λ t. rest (c ∷ t));
      tells = λ rest. ap (λ (b : Bool). if b then told (takes ws (λ t. rest (c ∷ t))) cs else []) e ∙ g.tells (λ t. rest (c ∷ t));
    })
front-more w ws c cs false e f =
    Out Misfitting (record {
      reached = λ rest. ap (λ (b : Bool). if b then reach (takes ws (λ t. rest (c ∷ t))) cs else Misfitting) e;
      tells = λ rest. ap (λ (b : Bool). if b then told (takes ws (λ t. rest (c ∷ t))) cs else []) e;
    })

front : (ws : List ℕ) (cs : Words) → Front ws cs
front [] cs = On [] cs (record { reached = λ rest. refl; tells = λ rest. refl })
front (w ∷ ws) [] = Out (Wanting w) (record { reached = λ rest. refl; tells = λ rest. refl })
front (w ∷ ws) (c ∷ cs) = front-more w ws c cs (fits w c) refl (front ws cs)

-- THE ROOT OF A CALL

module _ (v : Device) (p : ScriptParts) (ws : List ℕ) (cs : Words) where
  abbrev Rests : Type 0
  Rests = Words → Words → Words → Course

  -- the run goes on behind it, or it ends there, whatever follows
  data Begun : Type 0 where
    Enters : (fields cells args left : Words) → ((rest : Rests) → reach (idling v p ws rest) cs ≡ reach (rest fields cells args) left) →
        ((rest : Rests) → drove (told (idling v p ws rest) cs) ≡ drove (told (rest fields cells args) left)) → Begun
    Ends : (r : Reach) → ((rest : Rests) → reach (idling v p ws rest) cs ≡ r) → ((rest : Rests) → drove (told (idling v p ws rest) cs) ≡ []) → Begun

  abbrev idle_in : Words → Words → Bool
  idle_in fields cells = holds v.spec.funs p.idle (seen fields cells [])

  abbrev widths_taken : List ℕ
  widths_taken = pick (free_mask (rom_words v.circuit.lines)) (state_widths (cells_of v.circuit.lines))

  abbrev third_of : Rests → Words → Words → Words → Course
  third_of rest a b c = enters (idle_in a b) (rest a b c)

  abbrev second_of : Rests → Words → Words → Course
  second_of rest a b = takes ws (third_of rest a b)

  abbrev first_of : Rests → Words → Course
  first_of rest a = takes widths_taken (λ b. second_of rest a (merge (free_mask (rom_words v.circuit.lines)) (known_words (rom_words v.circuit.lines)) b))

  -- behind all words
  abbrev TookAll : (a b c left : Words) → Type 0
  TookAll a b c left =
      ((rest : Rests) → reach (idling v p ws rest) cs ≡ reach (third_of rest a b c) left)
      × ((rest : Rests) → told (idling v p ws rest) cs ≡ told (third_of rest a b c) left)

  by-idle : (a b c left : Words) → TookAll a b c left → (t : Bool) → idle_in a b ≡ t → Begun
  by-idle a b c left took true e =
      Enters a b c left
      (λ rest. took.0 rest ∙ ap (λ (t : Bool). if t then reach (rest a b c) left else ToVacuous) e)
      (λ rest. ap drove (took.1 rest) ∙ ap (λ (t : Bool). drove (told (enters t (rest a b c)) left)) e)
  by-idle a b c left took false e =
      Ends ToVacuous
      (λ rest. took.0 rest ∙ ap (λ (t : Bool). if t then reach (rest a b c) left else ToVacuous) e)
      (λ rest. ap drove (took.1 rest) ∙ ap (λ (t : Bool). drove (told (enters t (rest a b c)) left)) e)

  by-third : (a b left : Words) → ((rest : Rests) → reach (idling v p ws rest) cs ≡ reach (second_of rest a b) left) → ((rest : Rests) → told (idling v p ws rest) cs ≡ told (second_of rest a b) left) → Front ws left → Begun
  by-third a b left h k (On c more g) =
      by-idle a b c more ((λ rest. h rest ∙ g.reached (third_of rest a b)), (λ rest. k rest ∙ g.tells (third_of rest a b))) (idle_in a b) refl
  by-third a b left h k (Out r g) = Ends r (λ rest. h rest ∙ g.reached (third_of rest a b)) (λ rest. ap drove (k rest ∙ g.tells (third_of rest a b)))

  by-second : (a left : Words) → ((rest : Rests) → reach (idling v p ws rest) cs ≡ reach (first_of rest a) left) → ((rest : Rests) → told (idling v p ws rest) cs ≡ told (first_of rest a) left) →
      Front widths_taken left → Begun
  by-second a left h k (On b more g) =
      by-third a (merge (free_mask (rom_words v.circuit.lines)) (known_words (rom_words v.circuit.lines)) b) more
      (λ rest. h rest ∙ g.reached (λ b. second_of rest a (merge (free_mask (rom_words v.circuit.lines)) (known_words (rom_words v.circuit.lines)) b)))
      (λ rest. k rest ∙ g.tells (λ b. second_of rest a (merge (free_mask (rom_words v.circuit.lines)) (known_words (rom_words v.circuit.lines)) b)))
      (front ws more)
  by-second a left h k (Out r g) =
      Ends r
      (λ rest. h rest ∙ g.reached (λ b. second_of rest a (merge (free_mask (rom_words v.circuit.lines)) (known_words (rom_words v.circuit.lines)) b)))
      (λ rest. ap drove (k rest ∙ g.tells (λ b. second_of rest a (merge (free_mask (rom_words v.circuit.lines)) (known_words (rom_words v.circuit.lines)) b))))

  by-first : Front (word_widths v.spec.init) cs → Begun
  by-first (On a left g) = by-second a left (λ rest. g.reached (first_of rest)) (λ rest. g.tells (first_of rest)) (front widths_taken left)
  by-first (Out r g) = Ends r (λ rest. g.reached (first_of rest)) (λ rest. ap drove (g.tells (first_of rest)))

  begun : Begun
  begun = by-first (front (word_widths v.spec.init) cs)

  -- So what is known of how far the run comes, whatever follows, says which words were taken. Three courses that could follow tell it.
  abbrev holding : Rests
  holding a b c = Done

  abbrev failing : Rests
  failing a b c = Check false 0 Done

  abbrev comparing : (a b c : Words) → Rests
  comparing a b c x y z = Check (same_words a x && (same_words b y && same_words c z)) 0 Done

  not-both : (r : Reach) → ToEnd ≡ r → ToFailure 0 ≡ r → ⊥
  not-both r e f = let x : ToEnd ≡ ToFailure 0 = e ∙ sym f in cc

  passed : (b : Bool) → (if b then ToEnd else ToFailure 0) ≡ ToEnd → b ≡ true
  passed true e = refl
  passed false e = cc

  compared-self : (a b c : Words) → (same_words a a && (same_words b b && same_words c c)) ≡ true
  compared-self a b c = and-both (same_words a a) _ (same_words-refl a) (and-both (same_words b b) _ (same_words-refl b) (same_words-refl c))

  pub tells-short : (r : Reach) → ((rest : Rests) → reach (idling v p ws rest) cs ≡ r) → (rest : Rests) → drove (told (idling v p ws rest) cs) ≡ []
  tells-short r h rest = by_root begun
    where
      by_root : Begun → drove (told (idling v p ws rest) cs) ≡ []
      by_root (Ends r' reached tells) = tells rest
      by_root (Enters a b c left reached tells) = absurd (not-both r (sym (reached holding) ∙ h holding) (sym (reached failing) ∙ h failing))

  pub tells-on : (fields cells args left : Words) → ((rest : Rests) → reach (idling v p ws rest) cs ≡ reach (rest fields cells args) left) →
      (rest : Rests) (f : Words → Words → Words → List Bool) → ((a b c left : Words) → drove (told (rest a b c) left) ≡ f a b c) → drove (told (idling v p ws rest) cs) ≡ f fields cells args
  tells-on fields cells args left h rest f is = by_root begun
    where
      by_root : Begun → drove (told (idling v p ws rest) cs) ≡ f fields cells args
      by_root (Ends r reached tells) = absurd (not-both r (sym (h holding) ∙ reached holding) (sym (h failing) ∙ reached failing))
      by_root (Enters a b c more reached tells) =
          let same : (if same_words a fields && (same_words b cells && same_words c args) then ToEnd else ToFailure 0) ≡ ToEnd =
          sym (h (comparing a b c)) ∙ (reached (comparing a b c) ∙ ap (λ (t : Bool). if t then ToEnd else ToFailure 0) (compared-self a b c)) in
          let all = passed _ same in
          let others = and-right (same_words a fields) _ all in
          let x : a ≡ fields = same_words-true a fields (and-left (same_words a fields) _ all) in
          let y : b ≡ cells = same_words-true b cells (and-left (same_words b cells) _ others) in
          let z : c ≡ args = same_words-true c args (and-right (same_words b cells) _ others) in
          tells rest ∙ (is a b c more ∙ (λ i. f (x i) (y i) (z i)))

-- A CALL tells the tests on the way to its body's end, before its check

module _ (v : Device) (p : ScriptParts) where
  no-more : (ok : Bool) → drove (if ok then [] else []) ≡ []
  no-more true = refl
  no-more false = refl

  tail-tells : (o : ℕ) (fields cells args left : Words) → drove (told (call_tail v p o fields cells args) left) ≡ finish_tests (design v) ((design v).start o args cells)
  tail-tells o fields cells args left =
      let tests = finish_tests (design v) ((design v).start o args cells) in
      ap (λ (ts : List Bool). tests ++ ts) (no-more _) ∙ append-nil tests

  started : (o : ℕ) (args cells : Words) → (design v).start o args cells ≡ driver.start v.driver o args cells
  unfolding design_of
  started o args cells = refl

  abbrev Meets : Type 0
  Meets = (x : Config driver.Left) → finish_tests (design v) x ≡ tests_left v.circuit.lines v.driver x

  pub call-short : (o : ℕ) (ws : List ℕ) (cs : Words) (r : Reach) → ws ≡ head_args (slice_get v.spec.ops o) →
      ((rest : Words → Words → Words → Course) → reach (idling v p ws rest) cs ≡ r) → [] ≡ branch_word (kind_course v p (Call o)) cs
  call-short o ws cs r w h =
      sym (ap (λ (t : Course). drove (told t cs)) (call-is v p o)
      ∙ ((λ i. drove (told (idling v p (sym w i) (call_tail v p o)) cs)) ∙ tells-short v p ws cs r h (call_tail v p o)))

  pub call-on : Meets → (o : ℕ) (ws : List ℕ) (cs fields cells args left : Words) → ws ≡ head_args (slice_get v.spec.ops o) →
      ((rest : Words → Words → Words → Course) → reach (idling v p ws rest) cs ≡ reach (rest fields cells args) left) →
      tests_met v.circuit.lines v.driver o args cells ≡ branch_word (kind_course v p (Call o)) cs
  call-on meets o ws cs fields cells args left w h =
      sym (ap (λ (t : Course). drove (told t cs)) (call-is v p o)
      ∙ ((λ i. drove (told (idling v p (sym w i) (call_tail v p o)) cs))
      ∙ (tells-on v p ws cs fields cells args left h (call_tail v p o) (λ a b c. finish_tests (design v) ((design v).start o c b)) (tail-tells o)
      ∙ (meets ((design v).start o args cells) ∙ ap (tests_left v.circuit.lines v.driver) (started o args cells)))))

  -- THE SEGMENT WITH A NUMBER

  module _ (f : Formed (length v.spec.ops) p) where
    abbrev seg_of : Root → Segment
    seg_of r = seg v.circuit v.spec v.driver v.emulator p f r

    abbrev seg_at : Option Root → Option Segment
    seg_at None = None
    seg_at (Some r) = Some (seg_of r)

    segs-at : (rs : List Root) (g : ℕ) → slice_get (segs v.circuit v.spec v.driver v.emulator p f rs) g ≡ seg_at (slice_get rs g)
    segs-at [] g = refl
    segs-at (r ∷ rs) zero = refl
    segs-at (r ∷ rs) (suc g) = segs-at rs g

    among : (rs : List Root) (g : ℕ) (r : Root) → slice_get rs g ≡ Some r → IsAmong (seg_of r) (segs v.circuit v.spec v.driver v.emulator p f rs)
    among [] g r e = cc
    among (x ∷ rs) zero r e = let same : r ≡ x = cc in inl (ap seg_of same)
    among (x ∷ rs) (suc g) r e = inr (among rs g r e)

    no-call : (r : Root) → op_of_root (Some r) ≡ None → is_of_call (seg_of r).kind ≡ false
    no-call (OfKind Factory) e = refl
    no-call (OfKind BootHost) e = refl
    no-call (OfKind Rest) e = refl
    no-call (OfKind Wait) e = refl
    no-call (OfKind (Call o)) e = cc
    no-call (OfKind Wire) e = refl
    no-call OfCut e = refl

    undriven-at : (g : ℕ) (o : Option Root) → root_at p g ≡ o → op_of_root o ≡ None → (cs : Words) → branch_word (course_of (seg_at o)) cs ≡ []
    undriven-at g None at none cs = refl
    undriven-at g (Some r) at none cs =
        undriven (design v) (script v p) (seg_of r)
        (subst (λ (gs : List Segment). IsAmong (seg_of r) gs) (sym (segments-are v.circuit v.spec v.driver v.emulator p f)) (among (roots p.sections) g r at))
        (no-call r none) cs

    course-seg : (g : ℕ) → course_at (segments_of v.circuit v.spec v.driver v.emulator p) g ≡ course_of (seg_at (root_at p g))
    course-seg g = ap (λ (gs : List Segment). course_at gs g) (segments-are v.circuit v.spec v.driver v.emulator p f) ∙ ap course_of (segs-at (roots p.sections) g)

  pub segment-undriven : script_fits (length v.spec.ops) p ≡ true → (g : ℕ) → op_of_root (root_at p g) ≡ None → (cs : Words) →
      [] ≡ branch_word (course_at (segments_of v.circuit v.spec v.driver v.emulator p) g) cs
  segment-undriven fits g none cs =
      let f = formed (length v.spec.ops) p fits in
      sym (ap (λ (t : Course). branch_word t cs) (course-seg f g) ∙ undriven-at f g (root_at p g) refl none cs)

  op-root : (o : Option Root) (n : ℕ) → op_of_root o ≡ Some n → o ≡ Some (OfKind (Call n))
  op-root None n e = cc
  op-root (Some OfCut) n e = cc
  op-root (Some (OfKind Factory)) n e = cc
  op-root (Some (OfKind BootHost)) n e = cc
  op-root (Some (OfKind Rest)) n e = cc
  op-root (Some (OfKind Wait)) n e = cc
  op-root (Some (OfKind Wire)) n e = cc
  op-root (Some (OfKind (Call o))) n e = let same : o ≡ n = cc in ap (λ k. Some (OfKind (Call k))) same

  pub call-segment : script_fits (length v.spec.ops) p ≡ true → (g o : ℕ) → op_of_root (root_at p g) ≡ Some o → (cs : Words) →
      branch_word (kind_course v p (Call o)) cs ≡ branch_word (course_at (segments_of v.circuit v.spec v.driver v.emulator p) g) cs
  call-segment fits g o at cs =
      sym (ap (λ (t : Course). branch_word t cs) (root-course v p fits g) ∙ ap (λ (r : Option Root). branch_word (root_course v p r) cs) (op-root (root_at p g) o at))
