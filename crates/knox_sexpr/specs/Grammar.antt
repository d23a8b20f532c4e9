-- Which trees a text means: its tokens spell them. S-expressions are common; that they have at most
-- 256 open lists is the project's own rule.
use Rattle.std.specs.Prelude.{◌≡◌, ℕ, ◌+◌, ◌≤◌, List, [], ◌∷◌, ◌++◌, map, max, flat_map}
use Rattle.knox_sexpr.specs.declared.token.Token.{Token}
use Rattle.knox_sexpr.specs.declared.token.Token.TheVariants.{Open, Close, Atom, Number}
use Rattle.knox_sexpr.specs.declared.tree.Tree.{Tree, fold-Tree}
use Rattle.knox_sexpr.specs.declared.tree.Tree.TheOpen.{Tree-F}
use Rattle.knox_sexpr.specs.Tokens.{tokens_of}

-- one level of a tree, over what its parts are spelled
abbrev pub spelled_level : Tree-F (List Token) → List Token
spelled_level (Tree-F.Atom at word) = Atom at word ∷ []
spelled_level (Tree-F.Number at width value) = Number at width value ∷ []
spelled_level (Tree-F.List at parts close) = Open at ∷ (flat_map (λ p. p) parts ++ Close close ∷ [])

-- the tokens of a tree
abbrev pub spelled : Tree → List Token
spelled = fold-Tree (List Token) spelled_level

-- the greatest of numbers, or 0
abbrev pub greatest : List ℕ → ℕ
greatest [] = 0
greatest (n ∷ ns) = max n (greatest ns)

-- how many lists are open at once, at most
abbrev pub depth_level : Tree-F ℕ → ℕ
depth_level (Tree-F.Atom at word) = 0
depth_level (Tree-F.Number at width value) = 0
depth_level (Tree-F.List at depths close) = 1 + greatest depths

abbrev pub depth : Tree → ℕ
depth = fold-Tree ℕ depth_level

-- the text means these trees
pub record Means (text : List ℕ) (trees : List Tree) : Type 0 where
  pub tokens : tokens_of text ≡ flat_map spelled trees
  pub depths : greatest (map depth trees) ≤ 256
