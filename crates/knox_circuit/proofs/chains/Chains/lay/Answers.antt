use Rattle.std.proofs.Common.{rules, ◌≡◌, Option, Some, None, List, length, if◌then◌else◌, sym, ap, subst, ◌∙◌}
use Rattle.std.specs.Option.{IfSome}
use Rattle.knox_words.specs.Bits.{Bits}
use Rattle.knox_circuit.specs.declared.chains.Found.{Found}
use Rattle.knox_circuit.specs.Rom.{chain_at}
use Rattle.knox_circuit.specs.Chains.{over, IsFound}
use Rattle.knox_circuit.proofs.ChainsLemmas.{laid-found}
use Rattle.knox_circuit.proofs.chains.Chains.lay.Goals as goal

pub returns : goal.returns
returns c = λ cells ns are.
    let found = c.in_ok-found.found.now in
    let known = c.args.known.now in
    let long : length found.words.items ≡ length known = search rules in
    let is : IsFound cells ns c.args.node found = subst (λ (o : Option Found). IfSome o (IsFound cells ns c.args.node)) (sym c.in_ok-found.ensures.value) (are c.args.node) in
    laid-found known found.words.items (chain_at cells ns (length ns) c.args.node) found.sound long is
    ∙ ap (λ (ks : List (Option Bits)). if found.sound then Some ks else None) (sym (c.lay_all.ensures ∙ ap (λ ws. over known ws) c.as_slice.ensures.value))
