-- The grammar of texts of hints, by the shape of trees: a text means a script exactly where `script_text` gives it.
use Rattle.std.specs.Prelude.{◌≡◌, ℕ, ◌+◌, true, List, [], ◌∷◌, length, codes, Some, Ok}
use Rattle.knox_sexpr.specs.declared.tree.Tree.{Tree}
use Rattle.knox_lang.specs.declared.expr.Expr.{Expr}
use Rattle.knox_lang.specs.declared.parts.OpHead.{OpHead}
use Rattle.expr_read.specs.declared.names.Named.{Named}
use Rattle.expr_read.specs.Views.{number_of, symbol_of, parts_of}
use Rattle.expr_read.specs.Names.{op_number}
use Rattle.script_core.specs.declared.parts.Kind.{Kind}
use Rattle.script_core.specs.declared.parts.Kind.TheVariants.{Factory, BootHost, Rest, Wait, Call, Wire}
use Rattle.script_core.specs.declared.parts.Section.{Section}
use Rattle.script_core.specs.declared.parts.ScriptParts.{ScriptParts}
use Rattle.script_core.specs.Hints.{kinds, are_of}
use Rattle.script_read.specs.declared.scope.Names.{Names}
use Rattle.script_read.specs.declared.draft.Said.{Said}
use Rattle.script_read.specs.declared.draft.Said.TheVariants as said
use Rattle.script_read.specs.Scripts.{condition, host_section, wire_section}

-- a list that begins with a word, behind which these trees stand
pub record IsForm (word : List ℕ) (t : Tree) (ts : List Tree) : Type 0 where
  pub head : Tree
  pub named : symbol_of head ≡ Ok word
  pub parts : parts_of t ≡ Ok (head ∷ ts)

-- (refine e) and (idle e)
pub record IsStated (word : List ℕ) (names : List Named) (t : Tree) (c : Expr) : Type 0 where
  pub e : Tree
  pub form : IsForm word t (e ∷ [])
  pub means : condition names e ≡ Ok c

-- (cut A e)
pub record IsCut (names : List Named) (t : Tree) (name : List ℕ) (c : Expr) : Type 0 where
  pub label : Tree
  pub e : Tree
  pub form : IsForm (codes "cut") t (label ∷ e ∷ [])
  pub named : symbol_of label ≡ Ok name
  pub means : condition names e ≡ Ok c

-- (step 1)
pub record IsStep (t : Tree) : Type 0 where
  pub count : Tree
  pub form : IsForm (codes "step") t (count ∷ [])
  pub once : number_of count ≡ Ok 1

-- (subsume A)
pub record IsSubsume (t : Tree) (name : List ℕ) : Type 0 where
  pub label : Tree
  pub form : IsForm (codes "subsume") t (label ∷ [])
  pub named : symbol_of label ≡ Ok name

-- (wire (cut A e) (step 1) (subsume A))
pub record IsWire (names : List Named) (t : Tree) (c : Expr) : Type 0 where
  pub cut : Tree
  pub step : Tree
  pub subsume : Tree
  pub form : IsForm (codes "wire") t (cut ∷ step ∷ subsume ∷ [])
  pub name : List ℕ
  pub cuts : IsCut names cut name c
  pub steps : IsStep step
  pub leads : IsSubsume subsume name

-- (call op)
pub record IsCall (ops : List OpHead) (t : Tree) (o : ℕ) : Type 0 where
  pub label : Tree
  pub form : IsForm (codes "call") t (label ∷ [])
  pub name : List ℕ
  pub named : symbol_of label ≡ Ok name
  pub number : op_number name ops ≡ Some o

-- a section of the host
abbrev pub IsHost : List OpHead → Tree → Kind → Type 0
IsHost ops t Factory = IsForm (codes "factory") t []
IsHost ops t BootHost = IsForm (codes "boot-host") t []
IsHost ops t Rest = IsForm (codes "rest") t []
IsHost ops t Wait = IsForm (codes "wait") t []
IsHost ops t (Call o) = IsCall ops t o
IsHost ops t Wire = ⊥

-- what a tree says, whatever the others say
abbrev pub Says : Names → List OpHead → Tree → Said → Type 0
Says names ops t (said.Refine c) = IsStated (codes "refine") names.refine t c
Says names ops t (said.Idle c) = IsStated (codes "idle") names.idle t c
Says names ops t (said.Host k) = IsHost ops t k
Says names ops t (said.Wire c) = IsWire names.cut t c

-- trees and what they say, in step
abbrev pub Say : Names → List OpHead → List Tree → List Said → Type 0
Say names ops [] [] = Unit {0}
Say names ops [] (x ∷ xs) = ⊥
Say names ops (t ∷ ts) [] = ⊥
Say names ops (t ∷ ts) (x ∷ xs) = Says names ops t x × Say names ops ts xs

-- the conditions of the `refine` forms, and those of the `idle` forms
abbrev pub refines : List Said → List Expr
refines [] = []
refines (said.Refine c ∷ xs) = c ∷ refines xs
refines (said.Idle c ∷ xs) = refines xs
refines (said.Host k ∷ xs) = refines xs
refines (said.Wire c ∷ xs) = refines xs

abbrev pub idles : List Said → List Expr
idles [] = []
idles (said.Refine c ∷ xs) = idles xs
idles (said.Idle c ∷ xs) = c ∷ idles xs
idles (said.Host k ∷ xs) = idles xs
idles (said.Wire c ∷ xs) = idles xs

-- the sections, whose hints and those of their items are numbered on from a number
abbrev pub sections : ℕ → List Said → List Section
sections n [] = []
sections n (said.Refine c ∷ xs) = sections n xs
sections n (said.Idle c ∷ xs) = sections n xs
sections n (said.Host k ∷ xs) = host_section n k ∷ sections (n + 1) xs
sections n (said.Wire c ∷ xs) = wire_section n c ∷ sections (n + 4) xs

-- one `refine`, one `idle` and a section of each kind, in any order
pub record IsText (names : Names) (ops : List OpHead) (ts : List Tree) (p : ScriptParts) : Type 0 where
  pub said : List Said
  pub say : Say names ops ts said
  pub refine : refines said ≡ p.refine ∷ []
  pub idle : idles said ≡ p.idle ∷ []
  pub sections : sections 1 said ≡ p.sections
  pub once : are_of p.sections (Some (kinds (length ops))) ≡ true
