-- What is remembered of chains of writes, as walks see it. No public clause cites it.
use Rattle.std.specs.Prelude.{◌≡◌, ℕ, List, [], ◌∷◌, Option, Some, None, IfSome, length, replicate, if◌then◌else◌}
use Rattle.std.specs.Option.{option_or}
use Rattle.std.specs.BTreeMap.{get}
use Rattle.std.specs.Ordering.{nat_cmp}
use Rattle.knox_words.specs.Bits.{Bits}
use Rattle.circuit_nodes.specs.declared.node.Node.{Node}
use Rattle.knox_circuit.specs.declared.chains.Found.{Found}
use Rattle.knox_circuit.specs.declared.chains.Chains.{Chains}
use Rattle.knox_circuit.specs.Rom.{put_under, chain_at, laid}

-- a word, where there is one, at an index that has none yet
abbrev pub lay : List (Option Bits) → ℕ → Option Bits → List (Option Bits)
lay known i None = known
lay known i (Some w) = put_under known i w

-- the words that are known, and others where none is
abbrev pub over : List (Option Bits) → List (Option Bits) → List (Option Bits)
over [] bs = []
over (o ∷ os) [] = o ∷ os
over (o ∷ os) (b ∷ bs) = option_or o b ∷ over os bs

-- whether what was found at node k is what its chain gives
abbrev pub IsFound : ℕ → List Node → ℕ → Found → Type 0
IsFound cells ns k f = laid (replicate (length f.words.items) None) (chain_at cells ns (length ns) k) ≡ (if f.sound then Some f.words.items else None)

abbrev pub AreFound : ℕ → List Node → Chains → Type 0
AreFound cells ns chains = (k : ℕ) → IfSome (get nat_cmp chains.found k) (IsFound cells ns k)
