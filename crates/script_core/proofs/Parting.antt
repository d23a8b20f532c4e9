-- Words of a state are taken but for those that are known, which stand in their places.
use Rattle.std.proofs.Common.{◌≡◌, ◌∙◌, ℕ, List, [], ◌∷◌, ◌++◌, drop, Option, Some, None, Bool, true, false, refl, sym, ap, subst, append_assoc, append-nil, length, arith, if◌then◌else◌}
use Rattle.std.proofs.lemmas.Bool.{and_parts, and_from}
use Rattle.knox_words.specs.Bits.{Bits}
use Rattle.knox_words.specs.Lists.{Words, fits, fit, same_word}
use Rattle.knox_words.proofs.Lists.{same_word-refl}
use Rattle.knox_theory.specs.Course.{Course, takes}
use Rattle.knox_circuit.specs.Rom.{agree, free_mask}
use Rattle.knox_words.specs.Lists.{pick, merge}
use Rattle.device_design.specs.Roms.{known_words, known_fit}
use Rattle.script_core.specs.Reached.{first_known}
use Rattle.script_core.specs.Runs.{Wanting, Misfitting, reach}
use Rattle.script_core.proofs.Reaching.{TookPart, DoesNotTakePart}

-- Of widths ws, where `known` is known of their words, some words stand already. Those of the widths `wanted` are still to come, of which `more_known` is
-- known, and the others are taken from `left`.
pub record Parting (known : List (Option Bits)) (ws : List ℕ) (cs : Words) (more_known : List (Option Bits)) (wanted : List ℕ) (whole left : Words) : Type 0 where
  pub reached : (rest : Words → Course) → reach (takes (pick (free_mask known) ws) (λ taken. rest (merge (free_mask known) (known_words known) taken))) cs ≡ reach (takes (pick (free_mask more_known) wanted) (λ taken. rest (whole ++ merge (free_mask more_known) (known_words more_known) taken))) left
  pub fitting : (more : Words) → fit wanted more ≡ true → fit ws (whole ++ more) ≡ true
  pub agreeing : (more : Words) → agree more_known more ≡ true → agree known (whole ++ more) ≡ true
  pub widths : known_fit more_known wanted ≡ true

pub parting-start : (known : List (Option Bits)) (ws : List ℕ) (cs : Words) → known_fit known ws ≡ true → Parting known ws cs known ws [] cs
parting-start known ws cs h = record { reached = λ rest. refl; fitting = λ more f. f; agreeing = λ more f. f; widths = h }

module _ (known : List (Option Bits)) (ws : List ℕ) (cs : Words) where
  append-one : (whole more : Words) (c : Bits) → whole ++ c ∷ more ≡ (whole ++ c ∷ []) ++ more
  append-one whole more c = sym (append_assoc whole (c ∷ []) more)

  -- a known word stands next
  known-next : (v : Bits) (os : List (Option Bits)) (w : ℕ) (wanted : List ℕ) (whole left : Words) → Parting known ws cs (Some v ∷ os) (w ∷ wanted) whole left → Parting known ws cs os wanted (whole ++ v ∷ []) left
  known-next v os w wanted whole left t =
      let both = and_parts (fits w v) (known_fit os wanted) t.widths in
      record {
        reached = λ rest. t.reached rest ∙ (λ i. reach (takes (pick (free_mask os) wanted) (λ taken. rest (append-one whole (merge (free_mask os) (known_words os) taken) v i))) left);
        fitting = λ more f. subst (λ (z : Words). fit ws z ≡ true) (append-one whole more v) (t.fitting (v ∷ more) (and_from (fits w v) (fit wanted more) both.0 f));
        agreeing = λ more f. subst (λ (z : Words). agree known z ≡ true) (append-one whole more v) (t.agreeing (v ∷ more) (and_from (same_word v v) (agree os more) (same_word-refl v) f));
        widths = both.1;
      }

  -- a word is taken
  taken-next : (os : List (Option Bits)) (w : ℕ) (wanted : List ℕ) (whole : Words) (c : Bits) (left : Words) → Parting known ws cs (None ∷ os) (w ∷ wanted) whole (c ∷ left) → fits w c ≡ true → Parting known ws cs os wanted (whole ++ c ∷ []) left
  taken-next os w wanted whole c left t h = record {
    reached = λ rest.
        t.reached rest
        ∙ (ap (λ (b : Bool). if b then reach (takes (pick (free_mask os) wanted) (λ taken. rest (whole ++ c ∷ merge (free_mask os) (known_words os) taken))) left else Misfitting) h
        ∙ (λ i. reach (takes (pick (free_mask os) wanted) (λ taken. rest (append-one whole (merge (free_mask os) (known_words os) taken) c i))) left));
    fitting = λ more f. subst (λ (z : Words). fit ws z ≡ true) (append-one whole more c) (t.fitting (c ∷ more) (and_from (fits w c) (fit wanted more) h f));
    agreeing = λ more f. subst (λ (z : Words). agree known z ≡ true) (append-one whole more c) (t.agreeing (c ∷ more) f);
    widths = t.widths;
  }

  -- by what is known of the next place

  known-of : (os : List (Option Bits)) (v : Bits) → first_known os ≡ Some v → os ≡ Some v ∷ drop 1 os
  known-of [] v e = cc
  known-of (None ∷ os) v e = cc
  known-of (Some u ∷ os) v e = ap (λ o. o ∷ os) e

  unknown-of : (os : List (Option Bits)) (w : ℕ) (wanted : List ℕ) → first_known os ≡ None → known_fit os (w ∷ wanted) ≡ true → os ≡ None ∷ drop 1 os
  unknown-of [] w wanted e h = cc
  unknown-of (None ∷ os) w wanted e h = refl
  unknown-of (Some u ∷ os) w wanted e h = cc

  pub parting-known : (os rest : List (Option Bits)) (v : Bits) (wanted : List ℕ) (w : ℕ) (others : List ℕ) (whole into left left' : Words) → wanted ≡ w ∷ others → first_known os ≡ Some v → rest ≡ drop 1 os →
      into ≡ whole ++ v ∷ [] → left' ≡ left → Parting known ws cs os wanted whole left → Parting known ws cs rest others into left'
  parting-known os rest v wanted w others whole into left left' is first more i l t =
      let next =
      subst (λ (z : List (Option Bits)). Parting known ws cs z others (whole ++ v ∷ []) left) (sym more)
      (known-next v (drop 1 os) w others whole left
      (subst (λ (z : List (Option Bits)). Parting known ws cs z (w ∷ others) whole left) (known-of os v first) (subst (λ (z : List ℕ). Parting known ws cs os z whole left) is t))) in
      subst (λ (z : Words). Parting known ws cs rest others z left') (sym i) (subst (λ (z : Words). Parting known ws cs rest others (whole ++ v ∷ []) z) (sym l) next)

  wants : (os : List (Option Bits)) (wanted : List ℕ) (w : ℕ) (others : List ℕ) (whole left : Words) → wanted ≡ w ∷ others → first_known os ≡ None → Parting known ws cs os wanted whole left → Parting known ws cs (None ∷ drop 1 os) (w ∷ others) whole left
  wants os wanted w others whole left is first t =
      let u = subst (λ (z : List ℕ). Parting known ws cs os z whole left) is t in
      subst (λ (z : List (Option Bits)). Parting known ws cs z (w ∷ others) whole left) (unknown-of os w others first u.widths) u

  pub parting-taken : (os rest : List (Option Bits)) (wanted : List ℕ) (w : ℕ) (others : List ℕ) (whole into left left' : Words) (c : Bits) (more : Words) → wanted ≡ w ∷ others → first_known os ≡ None → rest ≡ drop 1 os →
      left ≡ c ∷ more → fits w c ≡ true → into ≡ whole ++ c ∷ [] → left' ≡ more → Parting known ws cs os wanted whole left → Parting known ws cs rest others into left'
  parting-taken os rest wanted w others whole into left left' c more is first behind word h i l t =
      let next =
      subst (λ (z : List (Option Bits)). Parting known ws cs z others (whole ++ c ∷ []) more) (sym behind)
      (taken-next (drop 1 os) w others whole c more (wants os wanted w others whole (c ∷ more) is first (subst (λ (z : Words). Parting known ws cs os wanted whole z) word t)) h) in
      subst (λ (z : Words). Parting known ws cs rest others z left') (sym i) (subst (λ (z : Words). Parting known ws cs rest others (whole ++ c ∷ []) z) (sym l) next)

  pub parting-short : (os : List (Option Bits)) (wanted : List ℕ) (w : ℕ) (others : List ℕ) (whole left : Words) → wanted ≡ w ∷ others → first_known os ≡ None → left ≡ [] → Parting known ws cs os wanted whole left → DoesNotTakePart known ws cs (Wanting w)
  parting-short os wanted w others whole left is first none t = (wants os wanted w others whole [] is first (subst (λ (z : Words). Parting known ws cs os wanted whole z) none t)).reached

  pub parting-misfit : (os : List (Option Bits)) (wanted : List ℕ) (w : ℕ) (others : List ℕ) (whole left : Words) (c : Bits) (more : Words) → wanted ≡ w ∷ others → first_known os ≡ None → left ≡ c ∷ more → fits w c ≡ false →
      Parting known ws cs os wanted whole left → DoesNotTakePart known ws cs Misfitting
  parting-misfit os wanted w others whole left c more is first word h t rest =
      (wants os wanted w others whole (c ∷ more) is first (subst (λ (z : Words). Parting known ws cs os wanted whole z) word t)).reached rest
      ∙ ap (λ (b : Bool). if b then reach (takes (pick (free_mask (drop 1 os)) others) (λ taken. rest (whole ++ c ∷ merge (free_mask (drop 1 os)) (known_words (drop 1 os)) taken))) more else Misfitting) h

  pub parting-done : (os : List (Option Bits)) (wanted : List ℕ) (whole left : Words) → length wanted ≡ 0 → Parting known ws cs os wanted whole left → TookPart known ws cs whole left
  parting-done os (w ∷ wanted) whole left e t = absurd (omega (arith, e))
  parting-done (o ∷ os) [] whole left e t = let h = t.widths in cc
  parting-done [] [] whole left e t = (
    subst (λ (z : Words). fit ws z ≡ true) (append-nil whole) (t.fitting [] refl),
    subst (λ (z : Words). agree known z ≡ true) (append-nil whole) (t.agreeing [] refl),
    λ rest. t.reached rest ∙ ap (λ (z : Words). reach (rest z) left) (append-nil whole),
  )
