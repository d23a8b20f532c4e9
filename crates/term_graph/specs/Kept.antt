-- What constructors keep and give.
use Rattle.std.specs.Prelude.{ℕ, ◌<◌, List, [], ◌∷◌, ◌++◌, length, ◌≡◌, ◌⊎◌}
use Rattle.knox_words.specs.Bits.{Bits, word_at}
use Rattle.term_graph.specs.declared.node.Node.{Node}
use Rattle.term_graph.specs.declared.node.Node.TheVariants as node
use Rattle.term_graph.specs.Value.{value, vars_of, of_width}

-- older nodes stay in their places, older terms keep their values under every valuation, and no variable is made
pub record Keeps (old new : List Node) : Type 0 where
  pub more : List Node
  pub longer : new ≡ old ++ more
  pub vars : vars_of new ≡ vars_of old
  pub values : (v : List Bits) (t : ℕ) → t < length old → value v new t ≡ value v old t

-- a term of a graph with a value under each valuation
pub record Gives (ns : List Node) (t : ℕ) (f : List Bits → Bits) : Type 0 where
  pub within : t < length ns
  pub gives : (v : List Bits) → value v ns t ≡ f v

-- one variable is new, the last term, whose value is the valuation's next word, and older terms keep their values
pub record Makes (old : List Node) (width : ℕ) (new : List Node) (t : ℕ) : Type 0 where
  pub longer : new ≡ old ++ node.Var width (length (vars_of old)) ∷ []
  pub last : t ≡ length old
  pub vars : vars_of new ≡ vars_of old ++ t ∷ []
  pub values : (v : List Bits) (s : ℕ) → s < length old → value v new s ≡ value v old s
  pub gives : Gives new t (λ v. of_width width (word_at v (length (vars_of old))))

-- a term is one word under each valuation
pub record IsAlways (ns : List Node) (t : ℕ) (w : Bits) : Type 0 where
  pub each : (v : List Bits) → value v ns t ≡ w

-- at most one node is new, with its width
pub record Adds (old : List Node) (widths : List ℕ) (n : Node) (w : ℕ) (new : List Node) (more : List ℕ) : Type 0 where
  pub either : ((new ≡ old) × (more ≡ widths)) ⊎ ((new ≡ old ++ n ∷ []) × (more ≡ widths ++ w ∷ []))
