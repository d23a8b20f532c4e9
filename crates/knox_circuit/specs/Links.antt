-- What a node is in a chain of writes, as the walk sees it. No public clause cites it.
use Rattle.std.specs.Prelude.{◌≡◌, ℕ, ◌+◌, List, [], ◌∷◌, Option, Some, None}
use Rattle.knox_words.specs.Bits.{Bits}
use Rattle.circuit_nodes.specs.declared.node.Node.{Node}
use Rattle.knox_circuit.specs.declared.chains.Link.{Link}
use Rattle.knox_circuit.specs.declared.chains.Link.TheVariants as link
use Rattle.knox_circuit.specs.Rom.{Put, chain_at}

abbrev pub with_put : ℕ → Bits → Option (List Put) → Option (List Put)
with_put i w None = None
with_put i w (Some ps) = Some (record { index = i; word = w } ∷ ps)

abbrev pub Links : ℕ → List Node → ℕ → Link → Type 0
Links cells ns k link.Base = chain_at cells ns (k + 1) k ≡ Some []
Links cells ns k link.Broken = chain_at cells ns (k + 1) k ≡ None
Links cells ns k (link.Write i w a) = chain_at cells ns (k + 1) k ≡ with_put i w (chain_at cells ns k a)
