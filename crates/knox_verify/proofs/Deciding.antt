-- Deciding the segments of a script one after another: what is known where all hold, and at the first one that doesn't; and what a yes says.
use Rattle.std.proofs.Common.{◌≡◌, ℕ, zero, suc, ◌<◌, ◌≤◌, List, [], ◌∷◌, ◌++◌, Option, Some, None, Result, Ok, length, take, drop, slice_get, refl, sym, ap, subst, inl, inr, arith}
use Rattle.std.proofs.lemmas.List.{take_all}
use Rattle.knox_theory.proofs.{Agreeing.agree, Listed.safe-closed, Listed.closed-host, Listed.closed-wires, Ordering.closed-below}
use Rattle.script_core.specs.declared.decide.Checked.TheVariants as checked
use Rattle.script_core.specs.{declared.decide.Checked.Checked, Hints.host_of, Hints.script_of, Decisions.Checks, Runs.course_of, Runs.bits_of, Runs.hint_of}
use Rattle.knox_verify.specs.declared.verdict.{Verdict.Verdict, Verdict.TheVariants.Yes, VerifyFault.VerifyFault}
use Rattle.knox_verify.specs.Words.{Agree, Closed, IsAmong, IsDesign, IsScript, Safe, Segment, segments, counted, design_of}
use Rattle.knox_verify.specs.Judgements.{Parts, device, design, hints, HoldBefore, AllHold, Undecides, IsTooWide}
use Rattle.knox_verify.specs.{Meanings.FiveTexts, Meanings.Means, Verdicts.Decides}

-- no choices falsify a hint of it, and it takes at most 20 bits
abbrev pub Holds : Segment → Type 0
Holds x = Safe x.course × (counted x.choice_bits ≤ 20)

-- the segments below a number hold,
abbrev pub HoldBelow : List Segment → ℕ → Type 0
HoldBelow gs n = (i : ℕ) (x : Segment) → i < n → slice_get gs i ≡ Some x → Holds x

-- and so the first ones of the list
held-first : (gs : List Segment) (n : ℕ) → HoldBelow gs n → (x : Segment) → IsAmong x (take n gs) → Holds x
held-first gs zero held x among = absurd among
held-first [] (suc n) held x among = absurd among
held-first (g ∷ gs) (suc n) held x (inl same) = held 0 x (omega arith) (ap Some (sym same))
held-first (g ∷ gs) (suc n) held x (inr among) = held-first gs n (λ i y below there. held (suc i) y (omega (arith, below)) there) x among

-- a list around the segment at a number
around : (gs : List Segment) (n : ℕ) (g : Segment) → slice_get gs n ≡ Some g → gs ≡ take n gs ++ g ∷ drop (suc n) gs
around [] n g e = absurd cc
around (x ∷ gs) zero g e = let same : x ≡ g = cc in ap (λ y. y ∷ gs) same
around (x ∷ gs) (suc n) g e = ap (λ xs. x ∷ xs) (around gs n g e)

among-at : (gs : List Segment) (n : ℕ) (g : Segment) → slice_get gs n ≡ Some g → IsAmong g gs
among-at [] n g e = absurd cc
among-at (x ∷ gs) zero g e = inl cc
among-at (x ∷ gs) (suc n) g e = inr (among-at gs n g e)

before : (p : Parts) (n : ℕ) (g : Segment) → slice_get (segments (design p) (hints p)) n ≡ Some g → HoldBelow (segments (design p) (hints p)) n → HoldBefore p g
before p n g there held =
    let gs = segments (design p) (hints p) in
    let whole = around gs n g there in
    record {
      before = take n gs;
      after = drop (suc n) gs;
      whole = whole;
      narrow = λ x among. (held-first gs n held x among).1;
      below = closed-below (design p) (hints p) g (take n gs) (drop (suc n) gs) whole (λ x among. (held-first gs n held x among).0);
    }

-- what an answer of checking leads to at the first segment that doesn't hold
abbrev pub Leads : Parts → Checked → Type 0
Leads p checked.Holds = Unit {0}
Leads p (checked.Falsified h cs) = Undecides p h.0 cs.words
Leads p (checked.TooWide h b) = IsTooWide p h.0 b

leads : (p : Parts) (n : ℕ) (o : Option Segment) (x : Checked) → slice_get (segments (design p) (hints p)) n ≡ o → HoldBelow (segments (design p) (hints p)) n →
    Checks (course_of o) (hint_of o) (counted (bits_of o)) x → Leads p x
leads p n o checked.Holds there held says = tt
leads p n None (checked.Falsified h cs) there held says = absurd (let fails = says.0.fails in cc)
leads p n None (checked.TooWide h b) there held says = absurd (let counts = says.1.0 in let wide = says.1.1 in omega (arith, counts, wide))
leads p n (Some g) (checked.Falsified h cs) there held says = record {
  falsified = record { segment = g; listed = among-at (segments (design p) (hints p)) n g there; fails = says.0.fails };
  taken = says.0.taken;
  fits = says.1;
  first = before p n g there held;
}
leads p n (Some g) (checked.TooWide h b) there held says = record {
  segment = g;
  listed = among-at (segments (design p) (hints p)) n g there;
  named = says.0;
  counts = says.1.0;
  wide = subst (λ (k : ℕ). 20 < k) (sym says.1.0) says.1.1;
  first = before p n g there held;
}

pub leads-to : (p : Parts) (n : ℕ) (x y : Checked) → HoldBelow (segments (design p) (hints p)) n → x ≡ y →
    Checks (course_of (slice_get (segments (design p) (hints p)) n)) (hint_of (slice_get (segments (design p) (hints p)) n)) (counted (bits_of (slice_get (segments (design p) (hints p)) n))) x → Leads p y
leads-to p n x y held is says = subst (Leads p) is (leads p n (slice_get (segments (design p) (hints p)) n) x refl held says)

-- where all segments hold
pub all-closed : (p : Parts) (n : ℕ) → length (segments (design p) (hints p)) ≤ n → HoldBelow (segments (design p) (hints p)) n → AllHold p
all-closed p n all held =
    let gs = segments (design p) (hints p) in
    let each = λ (x : Segment) (among : IsAmong x gs). held-first gs n held x (subst (IsAmong x) (sym (take_all n gs all)) among) in
    record { closed = safe-closed (design p) (hints p) (λ x among. (each x among).0); narrow = λ x among. (each x among).1 }

-- a closed script implies agreement
closed-agrees : (p : Parts) → IsDesign (design p) → IsScript (design p) (hints p) → Closed (design p) (hints p) → Agree (device p)
unfolding design_of script_of
closed-agrees p lawful script closed =
    let host = host_of p.spec.funs p.script in
    agree (design p) (hints p) host refl lawful script (closed-wires (design p) (hints p) closed) (closed-host (design p) (hints p) host refl closed)

-- where the verdict on parts that the texts mean is yes, the worlds agree
pub yes-agrees : (t : FiveTexts) (p : Parts) (v : Verdict) → Means t p → IsDesign (design p) → IsScript (design p) (hints p) → Decides p v → ◌≡◌ {A = Result Verdict VerifyFault} (Ok v) (Ok Yes) → (q : Parts) × Means t q × Agree (device q)
yes-agrees t p v m lawful script held e = let yes : v ≡ Yes = cc in (p, m, closed-agrees p lawful script (subst (Decides p) yes held).closed)
