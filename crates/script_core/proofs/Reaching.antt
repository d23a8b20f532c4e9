-- How far runs come: what a run comes to, words that are taken one after another, and courses that look at the state of their place alone.
use Rattle.std.proofs.Common.{◌≡◌, ◌∙◌, ℕ, zero, suc, ◌&&◌, List, [], ◌∷◌, ◌++◌, Option, Bool, true, false, refl, sym, ap, subst, append_assoc, append-nil, length, arith, if◌then◌else◌}
use Rattle.knox_words.specs.Bits.{Bits}
use Rattle.knox_words.specs.Lists.{Words, fits, fit}
use Rattle.knox_theory.specs.Design.{Design}
use Rattle.knox_theory.specs.Script.{Place, Script}
use Rattle.knox_theory.specs.Course as course
use Rattle.knox_theory.specs.Course.{Ticking, Course, Check, Assume, Take, Mark, Tell, Done, run, takes}
use Rattle.knox_theory.specs.WireSegments.{noted, ticked, same_outs, is_refined, steps}
use Rattle.knox_circuit.specs.Rom.{agree, free_mask}
use Rattle.knox_words.specs.Lists.{pick, merge}
use Rattle.device_design.specs.Roms.{known_words}
use Rattle.script_core.specs.declared.run.Left.{Left}
use Rattle.script_core.specs.declared.run.Left.TheVariants.{On, Ended}
use Rattle.script_core.specs.Reached.{Takes, three, TakesThree}
use Rattle.script_core.specs.Runs.{Reach, Wanting, Misfitting, ToFailure, reach, end_of}

-- what a run comes to is read from how far it comes

pub run-end_of_reach : (t : Course) (cs : Words) → run t cs ≡ end_of (reach t cs)
run-end_of_reach (Check true h rest) cs = run-end_of_reach rest cs
run-end_of_reach (Check false h rest) cs = refl
run-end_of_reach (Assume true rest) cs = run-end_of_reach rest cs
run-end_of_reach (Assume false rest) cs = refl
run-end_of_reach (Take w rest) [] = refl
run-end_of_reach (Take w rest) (c ∷ cs) = by_width (fits w c) (run-end_of_reach (rest c) cs) where
  by_width : (b : Bool) → run (rest c) cs ≡ end_of (reach (rest c) cs) → (if b then run (rest c) cs else course.Short) ≡ end_of (if b then reach (rest c) cs else Misfitting)
  by_width true h = h
  by_width false h = refl
run-end_of_reach (Mark l s rest) cs = run-end_of_reach rest cs
run-end_of_reach (Tell n rest) cs = run-end_of_reach rest cs
run-end_of_reach Done cs = refl

-- Words of widths ws are taken from cs: those of the widths `wanted` are still to be taken from `left`.

pub record Taking (ws : List ℕ) (cs : Words) (wanted : List ℕ) (taken left : Words) : Type 0 where
  pub reached : (rest : Words → Course) → reach (takes ws rest) cs ≡ reach (takes wanted (λ more. rest (taken ++ more))) left
  pub fitting : (more : Words) → fit wanted more ≡ true → fit ws (taken ++ more) ≡ true

pub taking-start : (ws : List ℕ) (cs : Words) → Taking ws cs ws [] cs
taking-start ws cs = record { reached = λ rest. refl; fitting = λ more h. h }

pub taking-more : (ws : List ℕ) (cs : Words) (w : ℕ) (wanted : List ℕ) (taken : Words) (c : Bits) (left : Words) → Taking ws cs (w ∷ wanted) taken (c ∷ left) → fits w c ≡ true → Taking ws cs wanted (taken ++ c ∷ []) left
taking-more ws cs w wanted taken c left t h = record {
  reached = λ rest.
      t.reached rest
      ∙ (ap (λ b. if b then reach (takes wanted (λ more. rest (taken ++ c ∷ more))) left else Misfitting) h
      ∙ (λ i. reach (takes wanted (λ more. rest (sym (append_assoc taken (c ∷ []) more) i))) left));
  fitting = λ more f.
      subst (λ (z : Words). fit ws z ≡ true) (sym (append_assoc taken (c ∷ []) more))
      (t.fitting (c ∷ more) (ap (λ b. b && fit wanted more) h ∙ f));
}

pub taking-short : (ws : List ℕ) (cs : Words) (w : ℕ) (wanted : List ℕ) (taken : Words) → Taking ws cs (w ∷ wanted) taken [] → (rest : Words → Course) → reach (takes ws rest) cs ≡ Wanting w
taking-short ws cs w wanted taken t rest = t.reached rest

pub taking-misfit : (ws : List ℕ) (cs : Words) (w : ℕ) (wanted : List ℕ) (taken : Words) (c : Bits) (left : Words) → Taking ws cs (w ∷ wanted) taken (c ∷ left) → fits w c ≡ false → (rest : Words → Course) → reach (takes ws rest) cs ≡ Misfitting
taking-misfit ws cs w wanted taken c left t h rest =
    t.reached rest ∙ ap (λ b. if b then reach (takes wanted (λ more. rest (taken ++ c ∷ more))) left else Misfitting) h

pub taking-done : (ws : List ℕ) (cs : Words) (wanted : List ℕ) (taken left : Words) → Taking ws cs wanted taken left → length wanted ≡ 0 → (fit ws taken ≡ true) × ((rest : Words → Course) → reach (takes ws rest) cs ≡ reach (rest taken) left)
taking-done ws cs (w ∷ wanted) taken left t e = absurd (omega (arith, e))
taking-done ws cs [] taken left t e =
    (subst (λ (z : Words). fit ws z ≡ true) (append-nil taken) (t.fitting [] refl), λ rest. t.reached rest ∙ ap (λ z. reach (rest z) left) (append-nil taken))

-- words of three lists of widths, one after another

abbrev pub Took : List ℕ → Words → Words → Words → Type 0
Took ws cs taken left = (fit ws taken ≡ true) × ((rest : Words → Course) → reach (takes ws rest) cs ≡ reach (rest taken) left)

abbrev pub DoesNotTake : List ℕ → Words → Reach → Type 0
DoesNotTake ws cs r = (rest : Words → Course) → reach (takes ws rest) cs ≡ r

abbrev pub TookPart : List (Option Bits) → List ℕ → Words → Words → Words → Type 0
TookPart known ws cs whole left =
    (fit ws whole ≡ true) × (agree known whole ≡ true) × ((rest : Words → Course) → reach (takes (pick (free_mask known) ws) (λ taken. rest (merge (free_mask known) (known_words known) taken))) cs ≡ reach (rest whole) left)

abbrev pub DoesNotTakePart : List (Option Bits) → List ℕ → Words → Reach → Type 0
DoesNotTakePart known ws cs r = (rest : Words → Course) → reach (takes (pick (free_mask known) ws) (λ taken. rest (merge (free_mask known) (known_words known) taken))) cs ≡ r

abbrev pub TookThree : (ws : List ℕ) → List (Option Bits) → (xs ys : List ℕ) → Words → (first second third : Words) → Words → Type 0
TookThree ws known xs ys words first second third left =
    (fit ws first ≡ true) × (fit xs second ≡ true) × (agree known second ≡ true) × (fit ys third ≡ true)
    × ((rest : Words → Words → Words → Course) → reach (three ws known xs ys rest) words ≡ reach (rest first second third) left)

abbrev pub DoesNotTakeThree : (ws : List ℕ) → List (Option Bits) → (xs ys : List ℕ) → Words → Reach → Type 0
DoesNotTakeThree ws known xs ys words r = (rest : Words → Words → Words → Course) → reach (three ws known xs ys rest) words ≡ r

pub three-first : (ws : List ℕ) (known : List (Option Bits)) (xs ys : List ℕ) (words : Words) (r : Reach) → DoesNotTake ws words r → DoesNotTakeThree ws known xs ys words r
three-first ws known xs ys words r t rest = t (λ a. takes (pick (free_mask known) xs) (λ b. takes ys (λ c. rest a (merge (free_mask known) (known_words known) b) c)))

pub three-second : (ws : List ℕ) (known : List (Option Bits)) (xs ys : List ℕ) (words first left : Words) (r : Reach) → Took ws words first left → DoesNotTakePart known xs left r → DoesNotTakeThree ws known xs ys words r
three-second ws known xs ys words first left r t u rest = t.1 (λ a. takes (pick (free_mask known) xs) (λ b. takes ys (λ c. rest a (merge (free_mask known) (known_words known) b) c))) ∙ u (λ b. takes ys (λ c. rest first b c))

pub three-third : (ws : List ℕ) (known : List (Option Bits)) (xs ys : List ℕ) (words first left second left' third : Words) → Took ws words first left → TookPart known xs left second left' → (l : Left) → Takes ys left' third l →
    TakesThree ws known xs ys words first second third l
three-third ws known xs ys words first left second left' third t u (On l) s = (
  t.0,
  u.0,
  u.1,
  s.0,
  λ rest. t.1 (λ a. takes (pick (free_mask known) xs) (λ b. takes ys (λ c. rest a (merge (free_mask known) (known_words known) b) c))) ∙ (u.2 (λ b. takes ys (λ c. rest first b c)) ∙ s.1 (λ c. rest first second c)),
)
three-third ws known xs ys words first left second left' third t u (Ended e) s =
    λ rest. t.1 (λ a. takes (pick (free_mask known) xs) (λ b. takes ys (λ c. rest a (merge (free_mask known) (known_words known) b) c))) ∙ (u.2 (λ b. takes ys (λ c. rest first b c)) ∙ s (λ c. rest first second c))

-- the same of other lists, which are equal
pub three-of : (ws : List ℕ) (known : List (Option Bits)) (xs ys ws' : List ℕ) (known' : List (Option Bits)) (xs' ys' : List ℕ) (words first second third : Words) (l : Left) → ws ≡ ws' → known ≡ known' → xs ≡ xs' → ys ≡ ys' →
    TakesThree ws known xs ys words first second third l → TakesThree ws' known' xs' ys' words first second third l
three-of ws known xs ys ws' known' xs' ys' words first second third l w k x y t =
    subst (λ (z : List ℕ). TakesThree z known' xs' ys' words first second third l) w
    (subst (λ (z : List (Option Bits)). TakesThree ws z xs' ys' words first second third l) k
    (subst (λ (z : List ℕ). TakesThree ws known z ys' words first second third l) x
    (subst (λ (z : List ℕ). TakesThree ws known xs z words first second third l) y t)))

-- two ways to go on behind words that are taken, which reach the same

pub takes-same : (ws : List ℕ) (f g : Words → Course) (cs : Words) → ((taken left : Words) → reach (f taken) left ≡ reach (g taken) left) → reach (takes ws f) cs ≡ reach (takes ws g) cs
takes-same [] f g cs h = h [] cs
takes-same (w ∷ ws) f g [] h = refl
takes-same (w ∷ ws) f g (c ∷ cs) h =
    ap (λ z. if fits w c then z else Misfitting) (takes-same ws (λ more. f (c ∷ more)) (λ more. g (c ∷ more)) cs (λ taken left. h (c ∷ taken) left))

-- the same behind three lists of words
pub three-same : (ws xs ys : List ℕ) (f g : Words → Words → Words → Course) (cs : Words) → ((a b c left : Words) → reach (f a b c) left ≡ reach (g a b c) left) →
    reach (takes ws (λ a. takes xs (λ b. takes ys (λ c. f a b c)))) cs ≡ reach (takes ws (λ a. takes xs (λ b. takes ys (λ c. g a b c)))) cs
three-same ws xs ys f g cs h =
    takes-same ws (λ a. takes xs (λ b. takes ys (λ c. f a b c))) (λ a. takes xs (λ b. takes ys (λ c. g a b c))) cs (λ a left.
    takes-same xs (λ b. takes ys (λ c. f a b c)) (λ b. takes ys (λ c. g a b c)) left (λ b left.
    takes-same ys (λ c. f a b c) (λ c. g a b c) left (λ c left. h a b c left)))

-- a course at places, which hangs on their state alone

pub record IsBlind (f : Place → Course) : Type 0 where
  pub same : (p q : Place) (cs : Words) → p.state ≡ q.state → reach (f p) cs ≡ reach (f q) cs

-- behind the words of a tick
abbrev pub tick_with : {P : Type 0} → Design P → Script P → ℕ → ℕ → (Place → Course) → Place → Words → Course
tick_with d s h n rest p i =
    Tell (Ticking i) (Check (same_outs d p.state i) h (Check (is_refined d s (ticked d p.state i)) h (steps d s h n (noted (ticked d p.state i) p.taken i) rest)))

pub steps-blind : {P : Type 0} (d : Design P) (s : Script P) (h n : ℕ) (rest : Place → Course) → IsBlind rest → IsBlind (λ p. steps d s h n p rest)
steps-blind d s h zero rest b = b
steps-blind d s h (suc n) rest b = record {
  same = λ p q cs e.
      takes-same d.device.ins (tick_with d s h n rest p) (tick_with d s h n rest q) cs
      (λ i left. let next = (steps-blind d s h n rest b).same (noted (ticked d p.state i) p.taken i) (noted (ticked d q.state i) q.taken i) left (ap (λ st. ticked d st i) e) in
      (λ j. if same_outs d (e j) i then (if is_refined d s (ticked d (e j) i) then next j else ToFailure h) else ToFailure h));
}
