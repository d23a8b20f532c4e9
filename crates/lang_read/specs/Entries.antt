-- Forms that may stand at the front of a list, and entries of a list: each has the number of what
-- it names, and gives something to it.
use Rattle.std.specs.Prelude.{ℕ, suc, ◌==◌, Bool, true, false, if◌then◌else◌, List, [], ◌∷◌, take, drop, Option, Some, None, Result, Ok}
use Rattle.knox_sexpr.specs.declared.tree.Tree.{Tree}
use Rattle.expr_read.specs.declared.faults.LangFault.{LangFault}
use Rattle.expr_read.specs.declared.faults.LangWhy.TheVariants.{Twice}
use Rattle.expr_read.specs.declared.names.Group.{Group}
use Rattle.expr_read.specs.declared.names.Named.{Named}
use Rattle.expr_read.specs.declared.names.Seen.{Seen}
use Rattle.expr_read.specs.Views.{◌>>=◌, fails, place_of, is_headed, headed_count, behind_head}
use Rattle.expr_read.specs.Names.{seen_of}

-- the lists at the front that begin with some symbol, and what stands behind them
abbrev pub front : List ℕ → List Tree → List Tree
front word ts = take (headed_count word ts) ts

abbrev pub behind_front : List ℕ → List Tree → List Tree
behind_front word ts = drop (headed_count word ts) ts

-- what stands in a form that may stand at the front, and what stands behind it
abbrev pub form_trees : List ℕ → List Tree → Result (List Tree) LangFault
form_trees word [] = Ok []
form_trees word (t ∷ ts) = if is_headed word t then behind_head word t else Ok []

abbrev pub behind_form : List ℕ → List Tree → List Tree
behind_form word [] = []
behind_form word (t ∷ ts) = if is_headed word t then ts else t ∷ ts

-- whether an entry names the thing of a number
abbrev pub is_entered : {A : Type 0} → ℕ → List (ℕ × A) → Bool
is_entered k [] = false
is_entered k (e ∷ es) = if e.0 == k then true else is_entered k es

-- the word that a tree names in an entry, which no entry before names
abbrev pub new_entry : {A : Type 0} → Group → List Named → List (ℕ × A) → Tree → Result Seen LangFault
new_entry group names before t = do
  s ← seen_of group t names
  if is_entered s.slot.number before then fails (place_of t) Twice else Ok s

-- what the first entry gives to a number
abbrev pub entry_of : {A : Type 0} → ℕ → List (ℕ × A) → Option A
entry_of k [] = None
entry_of k (e ∷ es) = if e.0 == k then Some e.1 else entry_of k es

abbrev pub or_this : {A : Type 0} → A → Option A → A
or_this x None = x
or_this x (Some y) = y

-- things, the first of some number, each of which gives way to what an entry gives to its number
abbrev pub filled_from : {A : Type 0} → ℕ → List (ℕ × A) → List A → List A
filled_from k es [] = []
filled_from k es (x ∷ xs) = or_this x (entry_of k es) ∷ filled_from (suc k) es xs

abbrev pub filled : {A : Type 0} → List (ℕ × A) → List A → List A
filled es xs = filled_from 0 es xs
