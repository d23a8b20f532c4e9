-- Five texts mean at most one thing, or have one first fault and mean nothing.
use Rattle.std.proofs.Common.{◌≡◌, ◌⊎◌, inl, inr, List, Bool, true, false, Result, Ok, Err, IfOk, IfErr, refl, sym, ◌∙◌, ap, subst, arith}
use Rattle.btor_read.proofs.MeaningLemmas.{one-circuit, one-fault, faultless}
use Rattle.knox_verify.specs.Words.{Place, start_of, end_of, Tree, MeansTrees, Bytes, Circuit, SpecParts, DriverParts, EmuParts, ScriptParts, spec_text, driver_text, emulator_text, script_text, fits_device}
use Rattle.knox_verify.specs.declared.verdict.Letter.{Letter, TheVariants.C, TheVariants.S, TheVariants.D, TheVariants.E, TheVariants.H}
use Rattle.knox_verify.specs.declared.verdict.TextWhy.TheVariants as why
use Rattle.knox_verify.specs.declared.verdict.Verdict.{Verdict, TheVariants.Yes, TheVariants.Undecided, TheVariants.TooWide}
use Rattle.knox_verify.specs.declared.verdict.VerifyFault.{VerifyFault, TheVariants.Text, TheVariants.NotYet, TheVariants.Memory}
use Rattle.knox_verify.specs.{Judgements.Parts, Judgements.AllHold, Meanings.FiveTexts, Meanings.MeansCircuit, Meanings.Spells, Meanings.Reads, Meanings.Means, Verdicts.Decides}
use Rattle.knox_verify.specs.Faults.{of_program, of_driver, of_script, TreesFault, TextFault, CircuitFault, Unless, Then, FirstFault, OrMemory}

-- ---- one meaning, or one fault

-- a text means at most one list of trees
abbrev pub OneMeaning : Type 0
OneMeaning = (text : Bytes) (a b : List Tree) → MeansTrees text a → MeansTrees text b → a ≡ b

-- at most one thing is meant, or one fault is there and nothing is meant
pub record One {A : Type 0} (meaning : A → Type 0) (fault : VerifyFault → Type 0) : Type 0 where
  pub same : (x y : A) → meaning x → meaning y → x ≡ y
  pub told : (f g : VerifyFault) → fault f → fault g → f ≡ g
  pub apart : (x : A) (f : VerifyFault) → meaning x → fault f → ⊥

-- of a condition and what stands behind it
unless-one : {A : Type 0} (fails holds : Type 0) (e : VerifyFault) (meaning : A → Type 0) (fault : VerifyFault → Type 0) → (fails → holds → ⊥) → One meaning fault →
    One (λ x. holds × meaning x) (Unless fails holds e fault)
unless-one fails holds e meaning fault never one = record {
  same = λ x y p q. one.same x y p.1 q.1;
  told = λ f g a b. grind (arith, never, one.told f g);
  apart = λ x f p a. grind (arith, never, one.apart x f);
}

-- of a text and what stands behind it
then-one : {A B : Type 0} (fault : VerifyFault → Type 0) (meaning : A → Type 0) (next : A → VerifyFault → Type 0) (means : A → B → Type 0) → One meaning fault → ((x : A) → One (means x) (next x)) →
    One (λ y. (x : A) × meaning x × means x y) (Then fault meaning next)
then-one {A} {B} fault meaning next means one ones = record { same = λ y z p q. (ones q.0).same y z (subst (λ x. means x y) (one.same p.0 q.0 p.1 q.1) p.2) q.2; told = told; apart = apart }
  where
    told : (f g : VerifyFault) → Then fault meaning next f → Then fault meaning next g → f ≡ g
    told f g (inl a) (inl b) = one.told f g a b
    told f g (inl a) (inr b) = absurd (one.apart b.0 f b.1 a)
    told f g (inr a) (inl b) = absurd (one.apart a.0 g a.1 b)
    told f g (inr a) (inr b) = (ones b.0).told f g (subst (λ x. next x f) (one.same a.0 b.0 a.1 b.1) a.2) b.2

    apart : (y : B) (f : VerifyFault) → (x : A) × meaning x × means x y → Then fault meaning next f → ⊥
    apart y f p (inl a) = one.apart p.0 f p.1 a
    apart y f p (inr a) = (ones a.0).apart y f (subst (λ x. means x y) (one.same p.0 a.0 p.1 a.1) p.2) a.2

trees-one : OneMeaning → (letter : Letter) (text : Bytes) → One (Spells text) (TreesFault letter text)
trees-one one letter text =
    unless-one _ _ (Text letter why.TooLong) (MeansTrees text) _ (λ long short. omega (arith, long, short)) (record { same = one text; told = λ f g a b. a.1 ∙ sym b.1; apart = λ ts f p a. a.0 ts p })

read-one : {A F : Type 0} (told : F → VerifyFault) (r : Result A F) → One (λ x. r ≡ Ok x) (λ f. (g : F) × (r ≡ Err g) × (f ≡ told g))
read-one told r = record { same = λ x y p q. cc; told = λ f g a b. cc; apart = λ x f p a. absurd cc }

text-one : {A F : Type 0} → OneMeaning → (letter : Letter) (told : F → VerifyFault) (reading : Place → List Tree → Result A F) (text : Bytes) → One (Reads reading text) (TextFault letter told reading text)
text-one one letter told reading text = then-one _ _ _ _ (trees-one one letter text) (λ list. read-one told (reading (end_of (start_of text)) list))

circuit-one : (c : Bytes) → One (MeansCircuit c) (CircuitFault c)
circuit-one c = unless-one _ _ (Text C why.TooLong) _ _ (λ long short. omega (arith, long, short)) (record {
  same = one-circuit c;
  told = λ f g a b. a.2 ∙ (ap (λ x. Text C (why.Circuit x)) (one-fault c a.0 b.0 a.1 b.1) ∙ sym b.2);
  apart = λ x f m a. faultless c x a.0 m a.1;
})

-- of what is made of what is meant
made-one : {A B : Type 0} (h : A → B) (meaning : A → Type 0) (fault : VerifyFault → Type 0) → One meaning fault → One (λ y. (x : A) × meaning x × (y ≡ h x)) fault
made-one h meaning fault one = record { same = λ y z p q. p.2 ∙ (ap h (one.same p.0 q.0 p.1 q.1) ∙ sym q.2); told = one.told; apart = λ y f p a. one.apart p.0 f p.1 a }

-- the parts of five texts, one behind the other
abbrev Meant : FiveTexts → Parts → Type 0
Meant t p =
    (circuit : Circuit) × MeansCircuit t.c circuit
    × ((spec : SpecParts) × Reads spec_text t.s spec
    × ((driver : DriverParts) × Reads (driver_text circuit spec) t.d driver
    × ((emulator : EmuParts) × Reads (emulator_text circuit spec driver) t.e emulator
    × ((fits_device circuit spec driver emulator ≡ true)
    × ((script : ScriptParts) × Reads (script_text circuit spec driver emulator) t.h script
    × (p ≡ record { circuit = circuit; spec = spec; driver = driver; emulator = emulator; script = script }))))))

meant-of : (t : FiveTexts) (p : Parts) → Means t p → Meant t p
meant-of t p m =
    let d = m.device in
    (p.circuit, d.circuit_read, (p.spec, d.spec_read, (p.driver, d.driver_read, (p.emulator, d.emulator_read, (d.fit, (p.script, m.script, refl))))))

parts-one : OneMeaning → (t : FiveTexts) → One (Meant t) (FirstFault t)
parts-one one t =
    then-one _ _ _ _ (circuit-one t.c) (λ circuit.
    then-one _ _ _ _ (text-one one S of_program spec_text t.s) (λ spec.
    then-one _ _ _ _ (text-one one D of_driver (driver_text circuit spec) t.d) (λ driver.
    then-one _ _ _ _ (text-one one E of_program (emulator_text circuit spec driver) t.e) (λ emulator.
    unless-one _ _ NotYet _ _ (λ misfits fits. cc)
    (made-one (λ script. record { circuit = circuit; spec = spec; driver = driver; emulator = emulator; script = script }) _ _ (text-one one H of_script (script_text circuit spec driver emulator) t.h))))))

pub five-one : OneMeaning → (t : FiveTexts) → One (Means t) (FirstFault t)
five-one one t =
    let parts = parts-one one t in
    record { same = λ p q m n. parts.same p q (meant-of t p m) (meant-of t q n); told = parts.told; apart = λ p f m a. parts.apart p f (meant-of t p m) a }

-- ---- what is refused

pub is-false : (b : Bool) → (b ≡ true → false ≡ true) → b ≡ false
is-false b h = grind (arith, h)

-- ---- what follows of a refusal that is the first fault, and of a verdict

pub meant-memory : {A V : Type 0} (meaning : A → Type 0) (fault : VerifyFault → Type 0) (p : A) (r : Result V VerifyFault) → One meaning fault → meaning p → IfErr r (OrMemory fault) → IfErr r (λ f. f ≡ Memory)
meant-memory meaning fault p r one m said = grind (arith, one.apart p)

pub first-told : (t : FiveTexts) (f : VerifyFault) (r : Result Verdict VerifyFault) → One (Means t) (FirstFault t) → FirstFault t f → IfOk r (λ v. (p : Parts) × Means t p × Decides p v) → IfErr r (OrMemory (FirstFault t)) →
    (r ≡ Err f) ⊎ (r ≡ Err Memory)
first-told t f (Ok v) one bad judged said = absurd (one.apart judged.0 f judged.1 bad)
first-told t f (Err g) one bad judged (inl e) = inr (ap Err e)
first-told t f (Err g) one bad judged (inr told) = inl (ap Err (one.told g f told bad))

held-yes : (p : Parts) (v : Verdict) → AllHold p → Decides p v → v ≡ Yes
held-yes p Yes held says = refl
held-yes p (Undecided hint choices) held says = absurd (held.closed.never hint.0 choices.words says.falsified)
held-yes p (TooWide hint bits) held says =
    absurd (let low = held.narrow says.segment says.listed in let wide = says.wide in let counts = says.counts in omega (arith, low, wide, counts))

pub yes-told : (t : FiveTexts) (p : Parts) (r : Result Verdict VerifyFault) → One (Means t) (FirstFault t) → Means t p → AllHold p → IfOk r (λ v. (p : Parts) × Means t p × Decides p v) → IfErr r (OrMemory (FirstFault t)) →
    (r ≡ Ok Yes) ⊎ (r ≡ Err Memory)
yes-told t p (Ok v) one m held judged said = inl (ap Ok (held-yes p v held (subst (λ q. Decides q v) (one.same judged.0 p judged.1 m) judged.2)))
yes-told t p (Err f) one m held judged said = inr (ap Err (meant-memory {V = Verdict} (Means t) (FirstFault t) p (Err f) one m said))
