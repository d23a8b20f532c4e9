-- What is evaluated over what a circuit keeps is what its lines give.
use Rattle.std.proofs.Common.{◌≡◌, ℕ, List, ◌++◌, length, map, take, drop, Bool, sym, ◌∙◌, ap}
use Rattle.std.proofs.lemmas.List.{length-map}
use Rattle.std.proofs.Math.Seq.{take-append_seam}
use Rattle.knox_words.specs.Bits.{Bits, word_or}
use Rattle.knox_words.specs.Lists.{zeros_or}
use Rattle.circuit_nodes.specs.declared.node.Node.{Node}
use Rattle.circuit_nodes.specs.declared.node.State.{State}
use Rattle.circuit_nodes.specs.Values.{arg_word, values_in}
use Rattle.circuit_nodes.specs.Ticks.{ticked}
use Rattle.circuit_nodes.specs.Starts.{built}
use Rattle.circuit_table.specs.declared.line.Line.{Line}
use Rattle.circuit_table.specs.Rows.{rows_of}
use Rattle.knox_circuit.specs.declared.made.Plan.{Plan}
use Rattle.knox_circuit.specs.Circuit.{Circuit, output_words, state_after_tick, state_after_power}
use Rattle.knox_circuit.specs.Parts.{Parts, parts_of}
use Rattle.knox_circuit.specs.Made.{IsPlan}

pub zeros-length : (widths : List ℕ) → length (zeros_or widths) ≡ length widths
zeros-length widths = length-map widths (λ w. word_or w 0)

pub ruleset length_steps = (zeros-length)

-- a circuit as its contract sees it
pub outputs-are : (c : Circuit) (lines : List Line) (plan : Plan) (state state' inputs inputs' out : List Bits) → record { lines = lines } ≡ c → IsPlan (parts_of (rows_of lines)) plan → state' ≡ state → inputs' ≡ inputs → out ≡ map (arg_word (values_in plan.logic.nodes inputs' state')) plan.logic.outputs → out ≡ output_words c.lines state inputs
outputs-are c lines plan state state' inputs inputs' out view is s i e =
    e ∙ (is.logic.outputs inputs' state'
    ∙ (ap (λ z. output_words lines z inputs') s ∙ (ap (output_words lines state) i ∙ ap (λ (z : Circuit). output_words z.lines state inputs) view)))

pub ticks-are : (c : Circuit) (lines : List Line) (plan : Plan) (state state' inputs inputs' after : List Bits) → record { lines = lines } ≡ c → IsPlan (parts_of (rows_of lines)) plan → state' ≡ state → inputs' ≡ inputs → after ≡ ticked (values_in plan.logic.nodes inputs' state') plan.logic.nexts → after ≡ state_after_tick c.lines state inputs
ticks-are c lines plan state state' inputs inputs' after view is s i e =
    e ∙ (is.logic.ticks inputs' state'
    ∙ (ap (λ z. state_after_tick lines z inputs') s ∙ (ap (state_after_tick lines state) i ∙ ap (λ (z : Circuit). state_after_tick z.lines state inputs) view)))

plan-starts : (p : Parts) (plan : Plan) (keep : List Bool) (old noise : List Bits) → IsPlan p plan → take plan.cells (built plan.nodes plan.states keep old noise (zeros_or plan.widths.items)) ≡ take p.cells (built p.nodes p.states keep old noise (zeros_or p.widths))
plan-starts p plan keep old noise is =
    ap (λ (n : ℕ). take n (built plan.nodes plan.states keep old noise (zeros_or plan.widths.items))) is.cells
    ∙ (ap (λ (z : List Node). take p.cells (built z plan.states keep old noise (zeros_or plan.widths.items))) is.nodes
    ∙ (ap (λ (z : List State). take p.cells (built p.nodes z keep old noise (zeros_or plan.widths.items))) is.states
    ∙ ap (λ (z : List ℕ). take p.cells (built p.nodes p.states keep old noise (zeros_or z))) is.widths))

pub starts-are : (c : Circuit) (lines : List Line) (plan : Plan) (keep : List Bool) (old old' noise noise' after : List Bits) → record { lines = lines } ≡ c → IsPlan (parts_of (rows_of lines)) plan → old' ≡ old → noise' ≡ noise → after ≡ take plan.cells (built plan.nodes plan.states keep old' noise' (zeros_or plan.widths.items)) → after ≡ state_after_power c.lines keep old noise
starts-are c lines plan keep old old' noise noise' after view is o n e =
    e ∙ (plan-starts (parts_of (rows_of lines)) plan keep old' noise' is
    ∙ (ap (λ z. state_after_power lines keep z noise') o ∙ (ap (state_after_power lines keep old) n ∙ ap (λ (z : Circuit). state_after_power z.lines keep old noise) view)))

-- a list that was written whole is what was written
pub written-whole : (n : ℕ) (new old items : List Bits) → length new ≡ length old → length old ≡ n → take n (new ++ drop (length new) items) ≡ new
written-whole n new old items e f =
    ap (λ (k : ℕ). take k (new ++ drop (length new) items)) (sym (e ∙ f)) ∙ take-append_seam new (drop (length new) items)
