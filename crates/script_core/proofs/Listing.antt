-- The segments of a script in the order of the text, and what is read off them: courses, bits, hints, and the segment of a hint.
use Rattle.std.proofs.Common.{◌≡◌, ◌∙◌, ℕ, zero, suc, ◌+◌, ◌-◌, ◌<◌, ◌≤◌, ◌==◌, not, nat_le, Option, Some, List, [], ◌∷◌, ◌++◌, length, slice_get, Bool, true, false, if◌then◌else◌, refl, ap, sym, subst, eqb-true, arith}
use Rattle.knox_theory.specs.Design.{Design}
use Rattle.knox_theory.specs.Script.{State, Place, WireItems, Step, Cut, Subsume, HostSections, Script, is_paced, HasLocations, HasCallLocations, IsScript}
use Rattle.knox_theory.specs.WireSegments.{wire_course, subsumes, passed, find, never, wire_places, ToCut, Absent}
use Rattle.knox_theory.specs.Segments.{Segment, factory_segment, boot_host_segment, rest_segment, wait_segment, call_segment, call_segments, wire_segment, cut_segment, cut_segments, host_segments, all_segments, item_hints, in_order}
use Rattle.knox_theory.specs.Closed.{all_hints, all_differ, is_hint_of, segment_of}
use Rattle.knox_theory.proofs.Basics.{and-left, and-right}
use Rattle.knox_circuit.specs.Circuit.{Circuit}
use Rattle.knox_lang.specs.declared.expr.Expr.{Expr}
use Rattle.knox_lang.specs.declared.parts.Fun.{Fun}
use Rattle.knox_lang.specs.declared.parts.SpecParts.{SpecParts}
use Rattle.knox_lang.specs.declared.parts.DriverParts.{DriverParts}
use Rattle.knox_lang.specs.declared.parts.EmuParts.{EmuParts}
use Rattle.driver_machine.specs.Left.{Left}
use Rattle.device_design.specs.Meaning.{design_of, device_of}
use Rattle.script_core.specs.declared.parts.Kind.{Kind}
use Rattle.script_core.specs.declared.parts.Kind.TheVariants.{Factory, BootHost, Rest, Wait, Call, Wire}
use Rattle.script_core.specs.declared.parts.Root.{Root}
use Rattle.script_core.specs.declared.parts.Root.TheVariants.{OfKind, OfCut}
use Rattle.script_core.specs.declared.parts.Section.{Section}
use Rattle.script_core.specs.declared.parts.ScriptParts.{ScriptParts}
use Rattle.script_core.specs.Hints.{seen, holds, items_of, host_of, script_of, is_wire, call_kinds, kinds, hint_of_kind, wire_items, hint_count, roots_of, roots, root_at}
use Rattle.script_core.specs.Forms.{is_among, stands_in, are_apart, own_hints, first_hint, segment_number}
use Rattle.script_core.specs.Reached.{root_hint}
use Rattle.script_core.specs.Runs.{segments_of, hint_at}
use Rattle.script_core.proofs.EachKind.{same-of, not-true}
use Rattle.script_core.proofs.Ordered.{Rising, blocks, along, in-text-order}
use Rattle.script_core.proofs.Formed.{Formed, Are, Side, OnWire, OnHost, side, host-not, next-count, wire-in}

-- what a cut's condition says of a state
abbrev pub cut_holds : List Fun → Expr → State → Bool
cut_holds funs e st = holds funs e (seen st.fields st.cells st.emu)

-- the items behind the cut of a `wire` with hint w, as the theory has them
abbrev pub end_items : ℕ → WireItems
end_items w = Step (w + 2) 1 (Subsume (w + 3) (w + 1))

-- so many numbers from one on
abbrev pub from_on : ℕ → ℕ → List ℕ
from_on h zero = []
from_on h (suc n) = h ∷ from_on (suc h) n

from-count : (h n : ℕ) → length (from_on h n) ≡ n
from-count h zero = refl
from-count h (suc n) = ap suc (from-count (suc h) n)

below-none : (h k n : ℕ) → h < k → is_hint_of h (from_on k n) ≡ false
below-none h k zero lt = refl
below-none h k (suc n) lt =
    let other : h == k ≡ false = grind (arith, lt) in
    ap (λ b. if b then true else is_hint_of h (from_on (suc k) n)) other ∙ below-none h (suc k) n (omega (arith, lt))

from-differ : (h n : ℕ) → all_differ (from_on h n) ≡ true
from-differ h zero = refl
from-differ h (suc n) =
    let none : is_hint_of h (from_on (suc h) n) ≡ false = below-none h (suc h) n (omega arith) in
    ap (λ b. if b then false else all_differ (from_on (suc h) n)) none ∙ from-differ (suc h) n

module _ (c : Circuit) (s : SpecParts) (d : DriverParts) (e : EmuParts) (p : ScriptParts) (f : Formed (length s.ops) p) where
  abbrev D : Design Left
  D = design_of c s d e

  abbrev S : Script Left
  S = script_of c s d p

  abbrev H : HostSections Left
  H = host_of s.funs p

  abbrev w : ℕ
  w = hint_of_kind Wire p.sections

  abbrev pub hold : State → Bool
  hold = cut_holds s.funs f.condition

  -- the segment that begins with a root
  abbrev pub seg : Root → Segment
  seg (OfKind Factory) = factory_segment D S H
  seg (OfKind BootHost) = boot_host_segment D S H
  seg (OfKind Rest) = rest_segment D S H
  seg (OfKind Wait) = wait_segment D H
  seg (OfKind (Call o)) = call_segment D H o
  seg (OfKind Wire) = wire_segment D S
  seg OfCut = cut_segment D S 0 (w + 1) hold (end_items w)

  abbrev pub segs : List Root → List Segment
  segs [] = []
  segs (r ∷ rs) = seg r ∷ segs rs

  segs-append : (front back : List Root) → segs (front ++ back) ≡ segs front ++ segs back
  segs-append [] back = refl
  segs-append (r ∷ front) back = ap (λ z. seg r ∷ z) (segs-append front back)

  abbrev block : Kind → List Segment
  block k = segs (roots_of k)

  along-are : (ss : List Section) → along block ss ≡ segs (roots ss)
  along-are [] = refl
  along-are (x ∷ ss) = ap (λ z. block x.kind ++ z) (along-are ss) ∙ sym (segs-append (roots_of x.kind) (roots ss))

  -- the script of the theory
  pub wire-is : S.wire ≡ Cut (w + 1) hold (end_items w)
  unfolding script_of
  wire-is = ap (items_of s.funs) f.items

  pub host-is : S.host ≡ Some H
  unfolding script_of
  host-is = refl

  pub wire-hint : S.wire_hint ≡ w
  unfolding script_of
  wire-hint = refl

  calls-are : (n : ℕ) → call_segments D H n ≡ blocks block (call_kinds n)
  calls-are zero = refl
  calls-are (suc o) = ap (λ z. call_segment D H o ∷ z) (calls-are o)

  ops-are : D.device.ops ≡ length s.ops
  unfolding design_of device_of
  ops-are = refl

  all-are : all_segments D S ≡ blocks block (kinds (length s.ops))
  all-are =
      (λ i. wire_segment D S ∷ (cut_segments D S 0 (wire-is i) ++ host_segments D S (host-is i)))
      ∙ ((λ i. wire_segment D S ∷ (seg OfCut ∷ (factory_segment D S H ∷ boot_host_segment D S H ∷ rest_segment D S H ∷ wait_segment D H ∷ call_segments D H (ops-are i))))
      ∙ (λ i. wire_segment D S ∷ (seg OfCut ∷ (factory_segment D S H ∷ boot_host_segment D S H ∷ rest_segment D S H ∷ wait_segment D H ∷ calls-are (length s.ops) i))))

  pub kind-hint : (k : Kind) → (seg (OfKind k)).hint ≡ hint_of_kind k p.sections
  kind-hint Factory = refl
  kind-hint BootHost = refl
  kind-hint Rest = refl
  kind-hint Wait = refl
  kind-hint (Call o) = refl
  kind-hint Wire = wire-hint

  host-hints : (k : Kind) → is_wire k ≡ false → (seg (OfKind k)).hints ≡ hint_of_kind k p.sections ∷ []
  host-hints Factory no_wire = refl
  host-hints BootHost no_wire = refl
  host-hints Rest no_wire = refl
  host-hints Wait no_wire = refl
  host-hints (Call o) no_wire = refl
  host-hints Wire no_wire = cc

  wire-hints : (seg (OfKind Wire)).hints ≡ w ∷ (w + 1) ∷ []
  wire-hints = λ i. wire-hint i ∷ item_hints (wire-is i)

  host-block : (k : Kind) → is_wire k ≡ false → block k ≡ seg (OfKind k) ∷ []
  host-block k no_wire = ap (λ b. segs (if b then OfKind k ∷ OfCut ∷ [] else OfKind k ∷ [])) no_wire

  host-segs : (x : Section) (ss : List Section) → is_wire x.kind ≡ false → segs (roots (x ∷ ss)) ≡ seg (OfKind x.kind) ∷ segs (roots ss)
  host-segs x ss no_wire = segs-append (roots_of x.kind) (roots ss) ∙ ap (λ z. z ++ segs (roots ss)) (host-block x.kind no_wire)

  wire-segs : (x : Section) (ss : List Section) → x.kind ≡ Wire → segs (roots (x ∷ ss)) ≡ seg (OfKind Wire) ∷ seg OfCut ∷ segs (roots ss)
  wire-segs x ss is = segs-append (roots_of x.kind) (roots ss) ∙ ap (λ k. block k ++ segs (roots ss)) is

  rising : (h n : ℕ) (ss : List Section) → n < h → Are p.sections h ss → Rising n (along block ss)
  rising h n [] lt a = tt
  rising h n (x ∷ ss) lt a = by_side (side x.kind) (λ m le. rising (h + own_hints x.kind) m ss le a.1)
    where
      by_side : Side x.kind → ((m : ℕ) → m < h + own_hints x.kind → Rising m (along block ss)) → Rising n (block x.kind ++ along block ss)
      by_side (OnWire is) go =
          let at : w ≡ h = ap (λ k. hint_of_kind k p.sections) (sym is) ∙ a.0.told in
          let four : own_hints x.kind ≡ 4 = ap own_hints is in
          let first : n < S.wire_hint = omega (arith, at, wire-hint, lt) in
          let second : S.wire_hint < w + 1 = omega (arith, wire-hint) in
          let rest : Rising (w + 1) (along block ss) = go (w + 1) (omega (arith, at, four)) in
          subst (λ k. Rising n (block k ++ along block ss)) (sym is) (first, (second, rest))
      by_side (OnHost no_wire) go =
          let at : (seg (OfKind x.kind)).hint ≡ h = kind-hint x.kind ∙ a.0.told in
          let one : own_hints x.kind ≡ 1 = ap (λ b. if b then 4 else 1) no_wire in
          let first : n < (seg (OfKind x.kind)).hint = omega (arith, at, lt) in
          let rest : Rising (seg (OfKind x.kind)).hint (along block ss) = go (seg (OfKind x.kind)).hint (omega (arith, at, one)) in
          subst (λ z. Rising n (z ++ along block ss)) (sym (host-block x.kind no_wire)) (first, rest)

  -- the segments are those of the roots, in their order
  pub segments-are : segments_of c s d e p ≡ segs (roots p.sections)
  segments-are =
      ap in_order all-are
      ∙ (in-text-order block 0 p.sections (kinds (length s.ops)) f.each (rising 1 0 p.sections (omega arith) f.are)
      ∙ along-are p.sections)

  segs-count : (rs : List Root) → length (segs rs) ≡ length rs
  segs-count [] = refl
  segs-count (r ∷ rs) = ap suc (segs-count rs)

  pub segment-count : length (segments_of c s d e p) ≡ length (roots p.sections)
  segment-count = ap length segments-are ∙ segs-count (roots p.sections)

  -- THE HINTS are all numbers from 1 on
  hints-from : (h : ℕ) (ss : List Section) → Are p.sections h ss → all_hints (segs (roots ss)) ≡ from_on h (hint_count ss)
  hints-from h [] a = refl
  hints-from h (x ∷ ss) a = by_side (side x.kind) (hints-from (h + own_hints x.kind) ss a.1)
    where
      by_side : Side x.kind → all_hints (segs (roots ss)) ≡ from_on (h + own_hints x.kind) (hint_count ss) → all_hints (segs (roots (x ∷ ss))) ≡ from_on h (hint_count (x ∷ ss))
      by_side (OnWire is) more =
          let at : w ≡ h = ap (λ k. hint_of_kind k p.sections) (sym is) ∙ a.0.told in
          let four : own_hints x.kind ≡ 4 = ap own_hints is in
          let next : h + own_hints x.kind ≡ suc (suc (suc (suc h))) = omega (arith, four) in
          let whole : hint_count (x ∷ ss) ≡ suc (suc (suc (suc (hint_count ss)))) = omega (arith, four, next-count p.sections h x ss a.0) in
          let h0 : w ≡ h = at in
          let h1 : w + 1 ≡ suc h = omega (arith, at) in
          let h2 : w + 2 ≡ suc (suc h) = omega (arith, at) in
          let h3 : w + 3 ≡ suc (suc (suc h)) = omega (arith, at) in
          ap all_hints (wire-segs x ss is)
          ∙ ((λ i. wire-hints i ++ ((w + 2) ∷ (w + 3) ∷ all_hints (segs (roots ss))))
          ∙ ((λ i. h0 i ∷ h1 i ∷ h2 i ∷ h3 i ∷ (more ∙ ap (λ k. from_on k (hint_count ss)) next) i)
          ∙ sym (ap (from_on h) whole)))
      by_side (OnHost no_wire) more =
          let at : hint_of_kind x.kind p.sections ≡ h = a.0.told in
          let one : own_hints x.kind ≡ 1 = ap (λ b. if b then 4 else 1) no_wire in
          let next : h + own_hints x.kind ≡ suc h = omega (arith, one) in
          let whole : hint_count (x ∷ ss) ≡ suc (hint_count ss) = omega (arith, one, next-count p.sections h x ss a.0) in
          ap all_hints (host-segs x ss no_wire)
          ∙ ((λ i. host-hints x.kind no_wire i ++ all_hints (segs (roots ss)))
          ∙ ((λ i. at i ∷ (more ∙ ap (λ k. from_on k (hint_count ss)) next) i)
          ∙ sym (ap (from_on h) whole)))

  pub hints-are : all_hints (segments_of c s d e p) ≡ from_on 1 (hint_count p.sections)
  hints-are = ap all_hints segments-are ∙ hints-from 1 p.sections f.are

  pub all-hints-count : length (all_hints (segments_of c s d e p)) ≡ hint_count p.sections
  all-hints-count = ap length hints-are ∙ from-count 1 (hint_count p.sections)

  pub all-differ : all_differ (all_hints (segments_of c s d e p)) ≡ true
  all-differ = ap all_differ hints-are ∙ from-differ 1 (hint_count p.sections)

  -- A SCRIPT OF THE THEORY
  pub scripted : IsScript D S
  scripted = record {
    paced = ap is_paced wire-is;
    locs = subst (λ z. HasLocations D z) (sym wire-is) tt;
    call_locs = λ h is o lt.
        let some : Some H ≡ Some h = sym host-is ∙ is in
        let same : H ≡ h = cc some in
        subst (λ (z : HostSections Left). HasCallLocations D o (z.calls o)) same tt;
  }

  -- a subsume of the cut's hint holds where the cut's condition does, and any other never
  pub passes : (m : ℕ) (q : Place) → subsumes D S m q ≡ (if m == w + 1 then hold q.state else false)
  passes m q = ap (λ z. passed m (find D S m z (wire_places D) (wire_course D S never)) q) wire-is ∙ by_test (m == w + 1)
    where
      by_test : (b : Bool) → passed m (if b then ToCut hold else Absent) q ≡ (if b then hold q.state else false)
      by_test true = refl
      by_test false = refl

  -- THE SEGMENT OF A HINT. A segment of the host's sections has one hint
  host-find : (h m place next : ℕ) (g : Segment) (gs : List Segment) → g.hints ≡ h ∷ [] → h ≤ m → (m ≡ h → place ≡ 0) → (suc h ≤ m → place ≡ suc next) → (suc h ≤ m → segment_of m gs ≡ slice_get gs next) →
      segment_of m (g ∷ gs) ≡ slice_get (g ∷ gs) place
  host-find h m place next g gs hints le here there more = ap (λ hs. if is_hint_of m hs then Some g else segment_of m gs) hints ∙ by_test (m == h) refl
    where
      by_test : (b : Bool) → m == h ≡ b → (if (if b then true else false) then Some g else segment_of m gs) ≡ slice_get (g ∷ gs) place
      by_test true t = sym (ap (slice_get (g ∷ gs)) (here (eqb-true m h t)))
      by_test false t =
          let later : suc h ≤ m = grind (arith, t, le) in
          more later ∙ sym (ap (slice_get (g ∷ gs)) (there later))

  -- behind `wire` they stand by their numbers
  found-without : (h m : ℕ) (ss : List Section) → Are p.sections h ss → stands_in Wire ss ≡ false → h ≤ m → segment_of m (segs (roots ss)) ≡ slice_get (segs (roots ss)) (m - h)
  found-without h m [] a none le = refl
  found-without h m (x ∷ ss) a none le = by_side (side x.kind) (λ t l. found-without (h + own_hints x.kind) m ss a.1 t l)
    where
      by_side : Side x.kind → (stands_in Wire ss ≡ false → h + own_hints x.kind ≤ m → segment_of m (segs (roots ss)) ≡ slice_get (segs (roots ss)) (m - (h + own_hints x.kind))) →
          segment_of m (segs (roots (x ∷ ss))) ≡ slice_get (segs (roots (x ∷ ss))) (m - h)
      by_side (OnWire is) go =
          let there : true ≡ false = sym (ap (λ b. if b then true else stands_in Wire ss) (same-of Wire x.kind (sym is))) ∙ none in
          cc
      by_side (OnHost no_wire) go =
          let one : own_hints x.kind ≡ 1 = ap (λ b. if b then 4 else 1) no_wire in
          let next : h + own_hints x.kind ≡ suc h = omega (arith, one) in
          let nothing = sym (ap (λ b. if b then true else stands_in Wire ss) (host-not x.kind no_wire)) ∙ none in
          let more : suc h ≤ m → segment_of m (segs (roots ss)) ≡ slice_get (segs (roots ss)) (m - suc h) =
          λ l. go nothing (omega (arith, one, l)) ∙ ap (λ n. slice_get (segs (roots ss)) (m - n)) next in
          ap (segment_of m) (host-segs x ss no_wire)
          ∙ (host-find h m (m - h) (m - suc h) (seg (OfKind x.kind)) (segs (roots ss)) (host-hints x.kind no_wire ∙ ap (λ n. n ∷ []) a.0.told) le (λ e. omega (arith, e)) (λ l. omega (arith, l)) more
          ∙ sym (ap (λ gs. slice_get gs (m - h)) (host-segs x ss no_wire)))

  -- where the segment of a hint stands, from h on: `wire` has two hints before its cut, and the cut two
  abbrev place : (h m : ℕ) (low mid : Bool) → ℕ
  place h m low mid = if low then m - h else if mid then m - (h + 1) else m - (h + 2)

  abbrev place_of : (h m : ℕ) → ℕ
  place_of h m = place h m (nat_le m w) (nat_le m (w + 2))

  first-place : (h m : ℕ) → h < w → m ≡ h → place_of h m ≡ 0
  first-place h m lt e =
      let low : nat_le m w ≡ true = grind (arith, lt, e) in
      let zero_at : m - h ≡ 0 = omega (arith, e) in
      ap (λ b. place h m b (nat_le m (w + 2))) low ∙ zero_at

  next-place : (h m : ℕ) → h < w → suc h ≤ m → place_of h m ≡ suc (place_of (suc h) m)
  next-place h m lt le = by_tests (nat_le m w) refl (nat_le m (w + 2)) refl
    where
      by_tests : (low : Bool) → nat_le m w ≡ low → (mid : Bool) → nat_le m (w + 2) ≡ mid → place h m low mid ≡ suc (place (suc h) m low mid)
      by_tests true t mid u = omega (arith, le)
      by_tests false t true u = let above : w < m = grind (arith, t) in omega (arith, lt, above)
      by_tests false t false u = let above : w + 2 < m = grind (arith, u) in omega (arith, lt, above)

  -- the hints of the two segments of `wire`, as tests
  abbrev look : (gs : List Segment) (m : ℕ) (t0 t1 t2 t3 : Bool) → Option Segment
  look gs m t0 t1 t2 t3 =
      if (if t0 then true else (if t1 then true else false)) then Some (seg (OfKind Wire))
      else (if (if t2 then true else (if t3 then true else false)) then Some (seg OfCut) else segment_of m gs)

  looked : (gs : List Segment) (m : ℕ) → segment_of m (seg (OfKind Wire) ∷ seg OfCut ∷ gs) ≡ look gs m (m == w) (m == w + 1) (m == w + 2) (m == w + 3)
  looked gs m = ap (λ hs. if is_hint_of m hs then Some (seg (OfKind Wire)) else segment_of m (seg OfCut ∷ gs)) wire-hints

  wire-find : (m : ℕ) (gs : List Segment) → w ≤ m → (w + 4 ≤ m → segment_of m gs ≡ slice_get gs (m - (w + 4))) →
      segment_of m (seg (OfKind Wire) ∷ seg OfCut ∷ gs) ≡ slice_get (seg (OfKind Wire) ∷ seg OfCut ∷ gs) (place_of w m)
  wire-find m gs le more = looked gs m ∙ by_tests (m == w) refl (m == w + 1) refl (m == w + 2) refl (m == w + 3) refl
    where
      all : List Segment
      all = seg (OfKind Wire) ∷ seg OfCut ∷ gs

      stands : (low mid : Bool) (n : ℕ) → nat_le m w ≡ low → nat_le m (w + 2) ≡ mid → place w m low mid ≡ n → slice_get all (place_of w m) ≡ slice_get all n
      stands low mid n t u e = ap (slice_get all) ((λ i. place w m (t i) (u i)) ∙ e)

      by_tests : (t0 : Bool) → m == w ≡ t0 → (t1 : Bool) → m == w + 1 ≡ t1 → (t2 : Bool) → m == w + 2 ≡ t2 → (t3 : Bool) → m == w + 3 ≡ t3 → look gs m t0 t1 t2 t3 ≡ slice_get all (place_of w m)
      by_tests true e0 t1 e1 t2 e2 t3 e3 = let at : m ≡ w = eqb-true m w e0 in sym (stands true true 0 (grind (arith, at)) (grind (arith, at)) (omega (arith, at)))
      by_tests false e0 true e1 t2 e2 t3 e3 = let at : m ≡ w + 1 = eqb-true m (w + 1) e1 in sym (stands false true 0 (grind (arith, at)) (grind (arith, at)) (omega (arith, at)))
      by_tests false e0 false e1 true e2 t3 e3 = let at : m ≡ w + 2 = eqb-true m (w + 2) e2 in sym (stands false true 1 (grind (arith, at)) (grind (arith, at)) (omega (arith, at)))
      by_tests false e0 false e1 false e2 true e3 = let at : m ≡ w + 3 = eqb-true m (w + 3) e3 in sym (stands false false 1 (grind (arith, at)) (grind (arith, at)) (omega (arith, at)))
      by_tests false e0 false e1 false e2 false e3 =
          let high : w + 4 ≤ m = grind (arith, le, e0, e1, e2, e3) in
          more high ∙ sym (stands false false (suc (suc (m - (w + 4)))) (grind (arith, high)) (grind (arith, high)) (omega (arith, high)))

  found-with : (ks : List Kind) (h m : ℕ) (ss : List Section) → Are p.sections h ss → are_apart ks ss ≡ true → stands_in Wire ss ≡ true → h ≤ m → segment_of m (segs (roots ss)) ≡ slice_get (segs (roots ss)) (place_of h m)
  found-with ks h m [] a apart there le = cc
  found-with ks h m (x ∷ ss) a apart there le = by_side (side x.kind) (λ t l. found-with ks (h + own_hints x.kind) m ss a.1 (and-right (not (stands_in x.kind ss)) _ (and-right (is_among x.kind ks) _ apart)) t l)
    where
      alone : stands_in x.kind ss ≡ false
      alone = not-true (stands_in x.kind ss) (and-left (not (stands_in x.kind ss)) _ (and-right (is_among x.kind ks) _ apart))

      by_side : Side x.kind → (stands_in Wire ss ≡ true → h + own_hints x.kind ≤ m → segment_of m (segs (roots ss)) ≡ slice_get (segs (roots ss)) (place_of (h + own_hints x.kind) m)) →
          segment_of m (segs (roots (x ∷ ss))) ≡ slice_get (segs (roots (x ∷ ss))) (place_of h m)
      by_side (OnWire is) go =
          let at : w ≡ h = ap (λ k. hint_of_kind k p.sections) (sym is) ∙ a.0.told in
          let four : own_hints x.kind ≡ 4 = ap own_hints is in
          let next : h + own_hints x.kind ≡ w + 4 = omega (arith, at, four) in
          let rest = found-without (h + own_hints x.kind) m ss a.1 (ap (λ k. stands_in k ss) (sym is) ∙ alone) in
          let more : w + 4 ≤ m → segment_of m (segs (roots ss)) ≡ slice_get (segs (roots ss)) (m - (w + 4)) = λ l. rest (omega (arith, next, l)) ∙ ap (λ n. slice_get (segs (roots ss)) (m - n)) next in
          ap (segment_of m) (wire-segs x ss is)
          ∙ (wire-find m (segs (roots ss)) (omega (arith, at, le)) more
          ∙ (λ i. slice_get (sym (wire-segs x ss is) i) (place_of (at i) m)))
      by_side (OnHost no_wire) go =
          let one : own_hints x.kind ≡ 1 = ap (λ b. if b then 4 else 1) no_wire in
          let next : h + own_hints x.kind ≡ suc h = omega (arith, one) in
          let later = sym (ap (λ b. if b then true else stands_in Wire ss) (host-not x.kind no_wire)) ∙ there in
          let from = (wire-in p.sections (h + own_hints x.kind) ss a.1 later).from in
          let lt : h < w = omega (arith, from, one) in
          let more : suc h ≤ m → segment_of m (segs (roots ss)) ≡ slice_get (segs (roots ss)) (place_of (suc h) m) =
          λ l. go later (omega (arith, one, l)) ∙ ap (λ n. slice_get (segs (roots ss)) (place_of n m)) next in
          ap (segment_of m) (host-segs x ss no_wire)
          ∙ (host-find h m (place_of h m) (place_of (suc h) m) (seg (OfKind x.kind)) (segs (roots ss)) (host-hints x.kind no_wire ∙ ap (λ n. n ∷ []) a.0.told) le (first-place h m lt) (next-place h m lt) more
          ∙ sym (ap (λ gs. slice_get gs (place_of h m)) (host-segs x ss no_wire)))

  pub segment-found : (m : ℕ) → 1 ≤ m → segment_of m (segments_of c s d e p) ≡ slice_get (segments_of c s d e p) (segment_number w m)
  segment-found m le =
      ap (segment_of m) segments-are
      ∙ (found-with (kinds (length s.ops)) 1 m p.sections f.are f.apart f.wire le
      ∙ sym (ap (λ gs. slice_get gs (segment_number w m)) segments-are))

  -- THE HINT of a segment's section or cut
  seg-hint : (r : Root) → (seg r).hint ≡ root_hint p (Some r)
  seg-hint (OfKind k) = kind-hint k
  seg-hint OfCut = refl

  hints-of : (rs : List Root) (g : ℕ) → hint_at (segs rs) g ≡ root_hint p (slice_get rs g)
  hints-of [] g = refl
  hints-of (r ∷ rs) zero = seg-hint r
  hints-of (r ∷ rs) (suc g) = hints-of rs g

  pub segment-hint : (g : ℕ) → hint_at (segments_of c s d e p) g ≡ root_hint p (root_at p g)
  segment-hint g = ap (λ gs. hint_at gs g) segments-are ∙ hints-of (roots p.sections) g

  -- that of the cut is the first one in `wire`
  pub cut-hint : first_hint (wire_items p) ≡ w + 1
  cut-hint = ap first_hint f.items
