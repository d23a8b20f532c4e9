-- What has been read where a reader stands between two tokens.
use Rattle.std.specs.Prelude.{◌≡◌, ℕ, ◌+◌, ◌≤◌, List, [], ◌∷◌, ◌++◌, length, map, flat_map, Option, Some, None, IfNone}
use Rattle.knox_text.specs.declared.place.Place.{Place}
use Rattle.knox_text.specs.Spot.{Spot}
use Rattle.knox_text.specs.Places.{end_of}
use Rattle.knox_sexpr.specs.declared.fault.SexprFault.{SexprFault}
use Rattle.knox_sexpr.specs.declared.fault.SexprFault.TheVariants.{Unclosed, Unopened, BadAtom, TooDeep, Memory}
use Rattle.knox_sexpr.specs.declared.token.Token.{Token}
use Rattle.knox_sexpr.specs.declared.token.Token.TheVariants.{Open, Close, Atom, Number, Bad}
use Rattle.knox_sexpr.specs.declared.tree.Tree.{Tree}
use Rattle.knox_sexpr.specs.Tokens.{tokens_from}
use Rattle.knox_sexpr.specs.Grammar.{spelled, greatest, depth}
use Rattle.knox_sexpr.specs.Faults.{fault_of, fault_from}

-- A reader fails by want of memory, or by the first fault.
abbrev pub IsFault : Option SexprFault → SexprFault → Type 0
IsFault first Memory = Unit {0}
IsFault first (Unclosed at) = first ≡ Some (Unclosed at)
IsFault first (Unopened at) = first ≡ Some (Unopened at)
IsFault first (BadAtom at) = first ≡ Some (BadAtom at)
IsFault first (TooDeep at) = first ≡ Some (TooDeep at)

-- a closing parenthesis, if one ended the trees
abbrev pub ending : Option Place → List Token
ending None = []
ending (Some at) = Close at ∷ []

pub record ReadTrees (open_lists : ℕ) (old : Spot) (trees : List Tree) (close : Option Place) (new : Spot) : Type 0 where
  pub tokens : tokens_from old ≡ flat_map spelled trees ++ (ending close ++ tokens_from new)
  pub faults : fault_from open_lists old ≡ fault_of (end_of new) open_lists (ending close ++ tokens_from new)
  pub depths : greatest (map depth trees) + open_lists ≤ 256
  pub at_end : IfNone close (new.rest ≡ [])
  pub shorter : length new.rest ≤ length old.rest

abbrev pub IsClose : Token → Type 0
IsClose (Close at) = Unit {0}
IsClose (Open at) = ⊥
IsClose (Atom at word) = ⊥
IsClose (Number at width value) = ⊥
IsClose (Bad at) = ⊥

pub record ReadTree (open_lists : ℕ) (token : Token) (old : Spot) (tree : Tree) (new : Spot) : Type 0 where
  pub tokens : token ∷ tokens_from old ≡ spelled tree ++ tokens_from new
  pub faults : fault_of (end_of old) open_lists (token ∷ tokens_from old) ≡ fault_from open_lists new
  pub depths : depth tree + open_lists ≤ 256
  pub shorter : length new.rest ≤ length old.rest
