-- ROM words: the words of a cell that keeps itself at each tick, and whose `init` gives them known
-- values: a constant, or a chain of writes of constant words at constant indices over a bare array
-- state.
-- The project's own.
use Rattle.std.specs.Prelude.{ℕ, zero, suc, ◌==◌, ◌&&◌, nat_le, nat_lt, set, List, [], ◌∷◌, ◌++◌, map, replicate, length, slice_get, Bool, true, false, not, Option, Some, None, is_some, is_none, if◌then◌else◌}
use Rattle.knox_words.specs.Bits.{Bits}
use Rattle.circuit_nodes.specs.declared.node.Arg.{Arg}
use Rattle.circuit_nodes.specs.declared.node.Node.{Node}
use Rattle.circuit_nodes.specs.declared.node.Node.TheVariants as node
use Rattle.circuit_nodes.specs.declared.node.Next.{Next}
use Rattle.circuit_nodes.specs.declared.node.Next.TheVariants as next
use Rattle.circuit_nodes.specs.declared.node.State.{State}
use Rattle.circuit_table.specs.declared.line.Line.{Line}
use Rattle.circuit_table.specs.Rows.{rows_of}
use Rattle.knox_words.specs.Lists.{fit, same_word}
use Rattle.knox_circuit.specs.Parts.{Parts, parts_of}
use Rattle.knox_circuit.specs.Cells.{cells_of, state_widths}

abbrev pub node_word : Option Node → Option Bits
node_word (Some (node.Const w)) = Some w
node_word _ = None

-- the word of an operand that is a constant before a place; a complement is none
abbrev pub constant : ℕ → List Node → Arg → Option Bits
constant bound ns a = if a.complement then None else if nat_lt a.node bound then node_word (slice_get ns a.node) else None

-- a write of a word at an index
pub record Put : Type 0 where
  pub index : ℕ
  pub word : Bits

-- a chain with one more write, where index and word are known
abbrev pub linked : Option Bits → Option Bits → Option (List Put) → Option (List Put)
linked (Some i) (Some w) (Some puts) = Some (record { index = i.value; word = w } ∷ puts)
linked _ _ _ = None

-- the writes of a node, where the nodes before it tell theirs; the words of bare states stand from `cells` on
abbrev pub puts_of : ℕ → List Node → ℕ → (ℕ → Option (List Put)) → Option Node → Option (List Put)
puts_of cells ns k chains (Some (node.Array p n w)) = if nat_le cells p then Some [] else None
puts_of cells ns k chains (Some (node.Write a i w)) = linked (constant k ns i) (constant k ns w) (chains a)
puts_of cells ns k chains _ = None

-- the writes of the node at place k, the last first, where it is a chain over a bare state, over the first i nodes
abbrev pub chain_at : ℕ → List Node → ℕ → ℕ → Option (List Put)
chain_at cells ns zero k = None
chain_at cells ns (suc i) k = if k == i then puts_of cells ns i (chain_at cells ns i) (slice_get ns i) else chain_at cells ns i k

-- a word at an index that has none yet
abbrev pub put_if : Option (Option Bits) → List (Option Bits) → ℕ → Bits → List (Option Bits)
put_if (Some None) known i w = set known i (Some w)
put_if _ known i w = known

abbrev pub put_under : List (Option Bits) → ℕ → Bits → List (Option Bits)
put_under known i w = put_if (slice_get known i) known i w

-- writes from the last to the first: each index has the word that was written last
abbrev pub under : List (Option Bits) → List Put → List (Option Bits)
under known [] = known
under known (p ∷ ps) = under (put_under known p.index p.word) ps

-- the same, where there is a chain
abbrev pub laid : List (Option Bits) → Option (List Put) → Option (List (Option Bits))
laid known None = None
laid known (Some ps) = Some (under known ps)

abbrev pub known_or : ℕ → Option (List (Option Bits)) → List (Option Bits)
known_or n None = replicate n None
known_or n (Some known) = known

abbrev pub init_known : ℕ → List Node → ℕ → Option Next → List (Option Bits)
init_known cells ns n None = replicate n None
init_known cells ns n (Some (next.Word a)) = replicate n (constant (length ns) ns a)
init_known cells ns n (Some (next.Array k m)) = known_or n (laid (replicate n None) (chain_at cells ns (length ns) k))

-- whether the `next` of a state is the state itself
abbrev pub is_itself : ℕ → Option Arg → Bool
is_itself k None = false
is_itself k (Some a) = a.node == k && not a.complement

-- the words of a cell: the value where it is a ROM word, and none elsewhere
abbrev pub rom_of : ℕ → List Node → State → List (Option Bits)
rom_of cells ns s = if is_itself s.node s.next then init_known cells ns s.words s.init else replicate s.words None

-- the ROM words of the cells among some states
abbrev pub roms_among : ℕ → List Node → List State → List (Option Bits)
roms_among cells ns [] = []
roms_among cells ns (s ∷ ss) = (if is_some s.next then rom_of cells ns s else []) ++ roms_among cells ns ss

abbrev pub roms_by : Parts → List (Option Bits)
roms_by p = roms_among p.cells p.nodes p.states

-- the value of each device word that is a ROM word, and none for the others
abbrev pub rom_words : List Line → List (Option Bits)
rom_words lines = roms_by (parts_of (rows_of lines))

-- whether a word is the one that is known
abbrev pub is_known : Option Bits → Bits → Bool
is_known None w = true
is_known (Some v) w = same_word v w

-- whether words are those that are known
abbrev pub agree : List (Option Bits) → List Bits → Bool
agree [] ws = true
agree (o ∷ os) [] = false
agree (o ∷ os) (w ∷ ws) = is_known o w && agree os ws

-- one truth value for each place: whether no word is known there
abbrev pub free_mask : List (Option Bits) → List Bool
free_mask known = map is_none known

-- whether words are device words of a circuit, ROM words included
abbrev pub fits_state : List Line → List Bits → Bool
fits_state lines words = fit (state_widths (cells_of lines)) words && agree (rom_words lines) words
