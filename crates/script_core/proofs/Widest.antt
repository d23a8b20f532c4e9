-- The bits of each segment as sums over the device's words.
use Rattle.std.proofs.Common.{◌≡◌, ◌∙◌, ℕ, ◌+◌, ◌*◌, List, [], ◌∷◌, Some, slice_get, ◌⊎◌, inl, inr, refl, ap, sym, arith}
use Rattle.knox_words.specs.Lists.{total}
use Rattle.knox_theory.specs.Segments.{widest}
use Rattle.knox_circuit.specs.Cells.{noise_widths}
use Rattle.knox_circuit.specs.Ports.{input_widths}
use Rattle.knox_lang.specs.WellFormed.{word_widths}
use Rattle.emu_machine.specs.declared.device.Device.{Device}
use Rattle.device_design.specs.Meaning.{design_of, device_of, head_args}
use Rattle.script_core.specs.declared.parts.Act.{Act}
use Rattle.script_core.specs.declared.parts.Act.TheVariants as act
use Rattle.script_core.specs.declared.parts.Item.{Item}
use Rattle.script_core.specs.declared.parts.Kind.{Kind}
use Rattle.script_core.specs.declared.parts.Kind.TheVariants.{Factory, BootHost, Rest, Wait, Call, Wire}
use Rattle.script_core.specs.declared.parts.Root.TheVariants.{OfCut}
use Rattle.script_core.specs.declared.parts.ScriptParts.{ScriptParts}
use Rattle.script_core.specs.Hints.{items_of, wire_items, behind_cut}
use Rattle.script_core.specs.Widths.{cells_taken, kept_taken, items_bits}
use Rattle.script_core.specs.Reached.{design, kind_bits, root_bits}
use Rattle.script_core.specs.Runs.{counted}
use Rattle.script_core.proofs.Counting.{sum-two, counted-times, counted-both}

module _ (v : Device) where
  ins-are : total (design v).device.ins ≡ total (input_widths v.circuit.lines)
  unfolding design_of device_of
  ins-are = refl

  -- the bits of items are those of their widest path
  pub items-widest : (items : List Item) → counted (items_bits (counted (total (input_widths v.circuit.lines))) items) ≡ counted (widest (design v) (items_of v.spec.funs items))
  items-widest [] = refl
  items-widest (i ∷ is) = by_act i.act (items-widest is)
    where
      T : ℕ
      T = total (input_widths v.circuit.lines)

      more : (n : ℕ) → counted (items_bits (counted T) is) ≡ counted (widest (design v) (items_of v.spec.funs is)) →
          counted (n * counted T + items_bits (counted T) is) ≡ counted (n * total (design v).device.ins + widest (design v) (items_of v.spec.funs is))
      more n e =
          sym (counted-both (n * counted T) (items_bits (counted T) is))
          ∙ ((λ j. counted (counted-times n T j + e j))
          ∙ (counted-both (n * T) (widest (design v) (items_of v.spec.funs is))
          ∙ ap (λ t. counted (n * t + widest (design v) (items_of v.spec.funs is))) (sym ins-are)))

      by_act : (a : Act) → counted (items_bits (counted T) is) ≡ counted (widest (design v) (items_of v.spec.funs is)) →
          counted (items_bits (counted T) (record { hint = i.hint; act = a } ∷ is)) ≡ counted (widest (design v) (items_of v.spec.funs (record { hint = i.hint; act = a } ∷ is)))
      by_act (act.Step n) e = more n e
      by_act (act.Cut c) e = refl
      by_act (act.Subsume l) e = refl

  module _ (p : ScriptParts) where
    pub factory-counted : (r : ℕ) → r ≡ counted (total (noise_widths v.circuit.lines [])) → r ≡ counted (kind_bits v p Factory)
    unfolding design_of device_of
    factory-counted r e = e

    pub boot-counted : (r : ℕ) → r ≡ counted (total (word_widths v.spec.init) + (total (kept_taken v) + total (noise_widths v.circuit.lines v.driver.keep))) → r ≡ counted (kind_bits v p BootHost)
    unfolding design_of device_of
    boot-counted r e = e ∙ ap counted (omega arith)

    rest-counted : (r : ℕ) → r ≡ counted (total (word_widths v.spec.init) + total (cells_taken v)) → r ≡ counted (kind_bits v p Rest)
    unfolding design_of device_of
    rest-counted r e = e ∙ ap counted (omega arith)

    -- of `rest` and `wait`
    pub idle-counted : (k : Kind) (r : ℕ) → (k ≡ Rest) ⊎ (k ≡ Wait) → r ≡ counted (total (word_widths v.spec.init) + total (cells_taken v)) → r ≡ counted (kind_bits v p k)
    idle-counted k r (inl is) e = rest-counted r e ∙ ap (λ j. counted (kind_bits v p j)) (sym is)
    idle-counted k r (inr is) e = rest-counted r e ∙ ap (λ j. counted (kind_bits v p j)) (sym is)

    pub call-counted : (o r : ℕ) → r ≡ counted ((total (word_widths v.spec.init) + total (cells_taken v)) + total (head_args (slice_get v.spec.ops o))) → r ≡ counted (kind_bits v p (Call o))
    unfolding design_of device_of
    call-counted o r e = e ∙ ap counted (omega arith)

    wire-sum : (x : ℕ) → x ≡ widest (design v) (items_of v.spec.funs (wire_items p)) →
        (total (word_widths v.spec.init) + (total (kept_taken v) + total (noise_widths v.circuit.lines v.driver.keep))) + x ≡ kind_bits v p Wire
    unfolding design_of device_of
    wire-sum x e = omega (arith, e)

    pub wire-counted : (a b r : ℕ) → a ≡ counted (total (word_widths v.spec.init) + (total (kept_taken v) + total (noise_widths v.circuit.lines v.driver.keep))) →
        b ≡ counted (items_bits (counted (total (input_widths v.circuit.lines))) (wire_items p)) → r ≡ counted (a + b) → r ≡ counted (kind_bits v p Wire)
    wire-counted a b r ea eb er =
        sum-two _ (widest (design v) (items_of v.spec.funs (wire_items p))) a b r ea (eb ∙ items-widest (wire_items p)) er ∙ ap counted (wire-sum _ refl)

    cut-sum : (x : ℕ) → x ≡ widest (design v) (items_of v.spec.funs (behind_cut (wire_items p))) →
        ((total (word_widths v.spec.init) + total (cells_taken v)) + total (word_widths v.emulator.init)) + x ≡ root_bits v p (Some OfCut)
    unfolding design_of device_of
    cut-sum x e = omega (arith, e)

    pub cut-counted : (a b r : ℕ) → a ≡ counted ((total (word_widths v.spec.init) + total (cells_taken v)) + total (word_widths v.emulator.init)) →
        b ≡ counted (items_bits (counted (total (input_widths v.circuit.lines))) (behind_cut (wire_items p))) → r ≡ counted (a + b) → r ≡ counted (root_bits v p (Some OfCut))
    cut-counted a b r ea eb er =
        sum-two _ (widest (design v) (items_of v.spec.funs (behind_cut (wire_items p)))) a b r ea (eb ∙ items-widest (behind_cut (wire_items p))) er ∙ ap counted (cut-sum _ refl)
