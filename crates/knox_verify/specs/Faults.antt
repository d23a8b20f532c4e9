-- The first fault of five texts: what is wrong with the first of them, in their order, that is too long or has no meaning.
-- Each fault of a circuit's text is told. Until the languages stand whole, another text without a meaning is one of a form that isn't built yet, unless nothing is wrong but
-- that a driver's text lacks a call, or a text of hints a form.
use Rattle.std.specs.Prelude.{◌≡◌, ◌≤◌, ◌<◌, ◌⊎◌, true, false, List, length, Result, Err}
use Rattle.knox_verify.specs.Words.{Place, start_of, end_of, Tree, MeansTrees, Bytes, limit, BtorFault, FaultsAt, LangFault, ScriptFault, spec_text, driver_text, emulator_text, script_text, fits_device}
use Rattle.expr_read.specs.declared.faults.LangWhy.TheVariants as lang
use Rattle.script_read.specs.declared.fault.ScriptWhy.TheVariants as script
use Rattle.knox_verify.specs.declared.verdict.{Letter.Letter, VerifyFault.VerifyFault, VerifyFault.TheVariants.Text, VerifyFault.TheVariants.NotYet, VerifyFault.TheVariants.Memory}
use Rattle.knox_verify.specs.declared.verdict.Letter.TheVariants.{C, S, D, E, H}
use Rattle.knox_verify.specs.declared.verdict.TextWhy.TheVariants.{TooLong, Circuit, Lang, Script}
use Rattle.knox_verify.specs.Meanings.{FiveTexts, MeansCircuit, Spells, Reads}

-- what is told of a fault of a specification's and an emulator's text, of a driver's, and of a text of hints
abbrev pub of_program : LangFault → VerifyFault
of_program f = elim f.why [ lang.Memory ↦ Memory | _ ↦ NotYet ]

abbrev pub of_driver : LangFault → VerifyFault
of_driver f = elim f.why [ lang.Memory ↦ Memory | lang.Missing ↦ Text D (Lang f) | _ ↦ NotYet ]

abbrev pub of_script : ScriptFault → VerifyFault
of_script f = elim f.why [ script.Memory ↦ Memory | script.Missing ↦ Text H (Script f) | _ ↦ NotYet ]

-- a condition fails, of which this is told, or it holds and this is the fault behind it
abbrev pub Unless : (fails holds : Type 0) → VerifyFault → (VerifyFault → Type 0) → VerifyFault → Type 0
Unless fails holds told next f = (fails × (f ≡ told)) ⊎ (holds × next f)

-- the text of this letter is too long, or it has this fault
abbrev pub TooLongOr : Letter → Bytes → (VerifyFault → Type 0) → VerifyFault → Type 0
TooLongOr letter text = Unless (limit < length text) (length text ≤ limit) (Text letter TooLong)

-- a text has this fault, or it means something and this is the fault behind it
abbrev pub Then : {A : Type 0} → (VerifyFault → Type 0) → (A → Type 0) → (A → VerifyFault → Type 0) → VerifyFault → Type 0
Then {A} fault meaning next f = fault f ⊎ ((x : A) × meaning x × next x f)

-- the circuit's text is too long, or has this first fault
abbrev pub CircuitFault : Bytes → VerifyFault → Type 0
CircuitFault c = TooLongOr C c (λ f. (g : BtorFault) × FaultsAt c g × (f ≡ Text C (Circuit g)))

-- the text of this letter is too long, or no trees
abbrev pub TreesFault : Letter → Bytes → VerifyFault → Type 0
TreesFault letter text = TooLongOr letter text (λ f. ((ts : List Tree) → MeansTrees text ts → ⊥) × (f ≡ NotYet))

-- the text of this letter is too long, no trees, or trees that a reading refuses, of which this is told
abbrev pub TextFault : {A F : Type 0} → Letter → (F → VerifyFault) → (Place → List Tree → Result A F) → Bytes → VerifyFault → Type 0
TextFault {A} {F} letter told reading text =
    Then (TreesFault letter text) (Spells text) (λ list f. (g : F) × (reading (end_of (start_of text)) list ≡ Err g) × (f ≡ told g))

-- the first fault of five texts, in their order; the parts of a device may not fit each other
abbrev pub FirstFault : FiveTexts → VerifyFault → Type 0
FirstFault t =
    Then (CircuitFault t.c) (MeansCircuit t.c) (λ circuit.
    Then (TextFault S of_program spec_text t.s) (Reads spec_text t.s) (λ spec.
    Then (TextFault D of_driver (driver_text circuit spec) t.d) (Reads (driver_text circuit spec) t.d) (λ driver.
    Then (TextFault E of_program (emulator_text circuit spec driver) t.e) (Reads (emulator_text circuit spec driver) t.e) (λ emulator.
    Unless (fits_device circuit spec driver emulator ≡ false) (fits_device circuit spec driver emulator ≡ true) NotYet
    (TextFault H of_script (script_text circuit spec driver emulator) t.h)))))

-- memory ran out, or this
abbrev pub OrMemory : (VerifyFault → Type 0) → VerifyFault → Type 0
OrMemory cause f = (f ≡ Memory) ⊎ cause f
