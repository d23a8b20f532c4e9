-- The segment with a number, by the root that it begins with: its course, its bits and its hint.
use Rattle.std.proofs.Common.{◌≡◌, ◌∙◌, ℕ, zero, suc, ◌+◌, ◌<◌, ◌==◌, not, nat_lt, Some, None, List, [], ◌∷◌, ◌++◌, length, slice_get, true, false, if◌then◌else◌, refl, ap, sym, arith}
use Rattle.knox_theory.specs.Script.{Place}
use Rattle.knox_theory.specs.Segments.{wire_bits, cut_bits}
use Rattle.knox_theory.proofs.Basics.{and-left, and-right}
use Rattle.knox_lang.specs.declared.expr.Expr.{Expr}
use Rattle.emu_machine.specs.declared.device.Device.{Device}
use Rattle.script_core.specs.declared.parts.Kind.{Kind}
use Rattle.script_core.specs.declared.parts.Kind.TheVariants.{Factory, BootHost, Rest, Wait, Call, Wire}
use Rattle.script_core.specs.declared.parts.Root.{Root}
use Rattle.script_core.specs.declared.parts.Root.TheVariants.{OfKind, OfCut}
use Rattle.script_core.specs.declared.parts.Section.{Section}
use Rattle.script_core.specs.declared.parts.ScriptParts.{ScriptParts}
use Rattle.script_core.specs.Hints.{items_of, script_of, kinds, script_fits, hint_of_kind, wire_items, first_cut, behind_cut, cut_named, roots_of, roots, root_at}
use Rattle.script_core.specs.Forms.{is_among, stands_in, are_apart}
use Rattle.script_core.specs.Reached.{design, script, passes, cut_run, behind_course, root_course, root_bits, root_hint}
use Rattle.script_core.specs.Runs.{segments_of, course_at, bits_at, hint_at}
use Rattle.script_core.proofs.EachKind.{call-among}
use Rattle.script_core.proofs.Formed.{Formed, formed, behind, Side, OnWire, OnHost, side, host-roots}
use Rattle.script_core.proofs.Listing as listing
use Rattle.script_core.proofs.Listing.{cut_holds, seg, segs, segments-are, segment-count, segment-hint}

module _ (v : Device) (p : ScriptParts) (f : Formed (length v.spec.ops) p) where
  cut-condition : first_cut (wire_items p) ≡ Some f.condition
  cut-condition = ap first_cut f.items

  behind-is : behind_cut (wire_items p) ≡ behind (hint_of_kind Wire p.sections)
  behind-is = ap behind_cut f.items

  seg-course : (r : Root) → (seg v.circuit v.spec v.driver v.emulator p f r).course ≡ root_course v p (Some r)
  seg-course (OfKind Factory) = refl
  seg-course (OfKind BootHost) = refl
  seg-course (OfKind Rest) = refl
  seg-course (OfKind Wait) = refl
  seg-course (OfKind (Call o)) = refl
  seg-course (OfKind Wire) = refl
  seg-course OfCut = sym (ap (behind_course v p) cut-condition ∙ ap (cut_run v p f.condition) behind-is)

  wire-meant : (script v p).wire ≡ items_of v.spec.funs (wire_items p)
  unfolding script_of
  wire-meant = refl

  seg-bits : (r : Root) → (seg v.circuit v.spec v.driver v.emulator p f r).choice_bits ≡ root_bits v p (Some r)
  seg-bits (OfKind Factory) = refl
  seg-bits (OfKind BootHost) = refl
  seg-bits (OfKind Rest) = refl
  seg-bits (OfKind Wait) = refl
  seg-bits (OfKind (Call o)) = refl
  seg-bits (OfKind Wire) = ap (wire_bits (design v)) wire-meant
  seg-bits OfCut = sym (ap (λ is. cut_bits (design v) (items_of v.spec.funs is)) behind-is)

  -- one root after another
  courses : (rs : List Root) (g : ℕ) → course_at (segs v.circuit v.spec v.driver v.emulator p f rs) g ≡ root_course v p (slice_get rs g)
  courses [] g = refl
  courses (r ∷ rs) zero = seg-course r
  courses (r ∷ rs) (suc g) = courses rs g

  bits : (rs : List Root) (g : ℕ) → bits_at (segs v.circuit v.spec v.driver v.emulator p f rs) g ≡ root_bits v p (slice_get rs g)
  bits [] g = refl
  bits (r ∷ rs) zero = seg-bits r
  bits (r ∷ rs) (suc g) = bits rs g

-- the kind of a root is among those of the device
root-among : (ks : List Kind) (ss : List Section) (g : ℕ) (k : Kind) → are_apart ks ss ≡ true → slice_get (roots ss) g ≡ Some (OfKind k) → is_among k ks ≡ true
root-among ks [] g k apart e = cc
root-among ks (s ∷ ss) g k apart e = by_side (side s.kind) (λ n at. root-among ks ss n k (and-right (not (stands_in s.kind ss)) _ (and-right (is_among s.kind ks) _ apart)) at)
  where
    here : is_among s.kind ks ≡ true
    here = and-left (is_among s.kind ks) _ apart

    own : (j : Kind) → s.kind ≡ j → Some (OfKind j) ≡ Some (OfKind k) → is_among k ks ≡ true
    own j is some = let same : j ≡ k = cc some in ap (λ x. is_among x ks) (sym (is ∙ same)) ∙ here

    of_wire : (n : ℕ) → s.kind ≡ Wire → slice_get (OfKind Wire ∷ OfCut ∷ roots ss) n ≡ Some (OfKind k) → ((n : ℕ) → slice_get (roots ss) n ≡ Some (OfKind k) → is_among k ks ≡ true) → is_among k ks ≡ true
    of_wire zero is at go = own Wire is at
    of_wire (suc zero) is at go = cc
    of_wire (suc (suc n)) is at go = go n at

    of_host : (n : ℕ) → slice_get (OfKind s.kind ∷ roots ss) n ≡ Some (OfKind k) → ((n : ℕ) → slice_get (roots ss) n ≡ Some (OfKind k) → is_among k ks ≡ true) → is_among k ks ≡ true
    of_host zero at go = own s.kind refl at
    of_host (suc n) at go = go n at

    by_side : Side s.kind → ((n : ℕ) → slice_get (roots ss) n ≡ Some (OfKind k) → is_among k ks ≡ true) → is_among k ks ≡ true
    by_side (OnWire is) go = of_wire g is (sym (ap (λ j. slice_get (roots_of j ++ roots ss) g) is) ∙ e) go
    by_side (OnHost no_wire) go = of_host g (sym (ap (λ rs. slice_get rs g) (host-roots s.kind ss no_wire)) ∙ e) go

-- OF A SCRIPT FOR A DEVICE, at every number
module _ (v : Device) (p : ScriptParts) (fits : script_fits (length v.spec.ops) p ≡ true) where
  abbrev form : Formed (length v.spec.ops) p
  form = formed (length v.spec.ops) p fits

  pub root-course : (g : ℕ) → course_at (segments_of v.circuit v.spec v.driver v.emulator p) g ≡ root_course v p (root_at p g)
  root-course g = ap (λ gs. course_at gs g) (segments-are v.circuit v.spec v.driver v.emulator p form) ∙ courses v p form (roots p.sections) g

  pub root-bits : (g : ℕ) → bits_at (segments_of v.circuit v.spec v.driver v.emulator p) g ≡ root_bits v p (root_at p g)
  root-bits g = ap (λ gs. bits_at gs g) (segments-are v.circuit v.spec v.driver v.emulator p form) ∙ bits v p form (roots p.sections) g

  pub root-hint : (g : ℕ) → hint_at (segments_of v.circuit v.spec v.driver v.emulator p) g ≡ root_hint p (root_at p g)
  root-hint g = segment-hint v.circuit v.spec v.driver v.emulator p form g

  pub root-count : length (segments_of v.circuit v.spec v.driver v.emulator p) ≡ length (roots p.sections)
  root-count = segment-count v.circuit v.spec v.driver v.emulator p form

  pub root-op : (g o : ℕ) → root_at p g ≡ Some (OfKind (Call o)) → o < length v.spec.ops
  root-op g o at =
      let among = root-among (kinds (length v.spec.ops)) p.sections g (Call o) form.apart at in
      let lt : nat_lt o (length v.spec.ops) ≡ true = sym (call-among o (length v.spec.ops)) ∙ among in
      grind (arith, lt)

  -- a subsume of a hint holds where the condition of its cut does
  abbrev pub the_condition : Expr
  the_condition = form.condition

  pub cut-named : (m : ℕ) → cut_named m (wire_items p) ≡ (if m == hint_of_kind Wire p.sections + 1 then Some the_condition else None)
  cut-named m = ap (cut_named m) form.items

  pub passes-are : (m : ℕ) (q : Place) → passes v p m q ≡ (if m == hint_of_kind Wire p.sections + 1 then cut_holds v.spec.funs the_condition q.state else false)
  passes-are m q = listing.passes v.circuit v.spec v.driver v.emulator p form m q
