-- A power-cycle: states are built one after another, in line order. A cell that is kept keeps its old
-- words; another state gets the value of its `init` over the states that were built before it, or
-- noise words in order where it has none. `keep` has one truth value for each cell.
-- The project's own.
use Rattle.std.specs.Prelude.{ℕ, ◌+◌, ◌<◌, ◌≤◌, ◌≡◌, ◌⊎◌, ◌&&◌, min, List, [], ◌∷◌, ◌++◌, length, take, drop, replicate, slice_get, Option, Some, None, is_some, Bool, false, if◌then◌else◌}
use Rattle.knox_words.specs.Bits.{Bits}
use Rattle.circuit_nodes.specs.declared.node.Node.{Node}
use Rattle.circuit_nodes.specs.declared.node.Node.TheVariants as node
use Rattle.circuit_nodes.specs.declared.node.State.{State}
use Rattle.circuit_nodes.specs.declared.node.Next.{Next}
use Rattle.circuit_nodes.specs.declared.node.Next.TheVariants as next
use Rattle.circuit_nodes.specs.declared.power.Fresh.{Fresh}
use Rattle.circuit_nodes.specs.declared.power.Fresh.TheVariants as fresh
use Rattle.circuit_nodes.specs.Values.{Value, values_in, arg_word, words_within}
use Rattle.circuit_nodes.specs.Ticks.{first_words}

-- the values of nodes by place over a state, without inputs
abbrev pub values : List Node → List Bits → ℕ → Value
values ns state = values_in ns [] state

abbrev pub first_keep : List Bool → Bool
first_keep [] = false
first_keep (k ∷ ks) = k

-- how a state gets its words
abbrev pub by_init : Option Next → Fresh
by_init None = fresh.Noise
by_init (Some (next.Word a)) = fresh.Word a
by_init (Some (next.Array k n)) = fresh.Array k

abbrev pub fresh_of : State → List Bool → Fresh
fresh_of s keep = if is_some s.next && first_keep keep then fresh.Kept else by_init s.init

-- the words of a state in one of these ways; where old or noise words lack, zero words of its width
abbrev pub words_by : (ℕ → Value) → State → List Bits → List Bits → Fresh → List Bits
words_by at s old noise fresh.Kept = first_words (words_within old s.first s.words s.width) s.words
words_by at s old noise fresh.Noise = first_words (words_within noise 0 s.words s.width) s.words
words_by at s old noise (fresh.Same w) = replicate s.words w
words_by at s old noise (fresh.Word a) = replicate s.words (arg_word at a)
words_by at s old noise (fresh.Array k) = first_words (at k) s.words

abbrev pub taken_by : ℕ → Fresh → ℕ
taken_by n fresh.Noise = n
taken_by n _ = 0

-- a list with other words from a place on
abbrev pub placed : List Bits → ℕ → List Bits → List Bits
placed state first ws = take first state ++ (ws ++ drop (first + length ws) state)

-- the states so far with one more, which gets its words in some way
abbrev pub with_state : List Node → State → Fresh → List Bits → List Bits → List Bits → List Bits
with_state ns s f old noise state = placed state s.first (words_by (values ns state) s old noise f)

abbrev pub keep_after : State → List Bool → List Bool
keep_after s keep = if is_some s.next then drop 1 keep else keep

-- the words of all states, built from the first to the last
abbrev pub built : List Node → List State → List Bool → List Bits → List Bits → List Bits → List Bits
built ns [] keep old noise state = state
built ns (s ∷ ss) keep old noise state =
    built ns ss (keep_after s keep) old (drop (taken_by s.words (fresh_of s keep)) noise) (with_state ns s (fresh_of s keep) old noise state)

-- every state's words stand among so many
abbrev pub AreWithin : List State → ℕ → Type 0
AreWithin states n = (k : ℕ) (s : State) → slice_get states k ≡ Some s → s.first + s.words ≤ n

-- a node reads the state at places of a kind alone
abbrev pub Reads : (ℕ → Type 0) → Option Node → Type 0
Reads P (Some (node.State p w)) = P p
Reads P (Some (node.Array p n w)) = (j : ℕ) → j < n → P (p + j)
Reads P _ = Unit {0}

-- so do the first i nodes
abbrev pub AllRead : (ℕ → Type 0) → List Node → ℕ → Type 0
AllRead P ns i = (k : ℕ) → k < i → Reads P (slice_get ns k)

-- a place outside a state's words
abbrev pub Outside : State → ℕ → Type 0
Outside s p = (p < s.first) ⊎ (s.first + s.words ≤ p)

-- the words of each state are read by no node before its own
abbrev pub AreApart : List Node → List State → Type 0
AreApart ns states = (k : ℕ) (s : State) → slice_get states k ≡ Some s → AllRead (Outside s) ns s.node

-- how many nodes are looked at for a state's words; no public clause cites it
abbrev pub wanted : ℕ → Fresh → ℕ
wanted n (fresh.Word a) = min n (a.node + 1)
wanted n (fresh.Array k) = min n (k + 1)
wanted n _ = 0
