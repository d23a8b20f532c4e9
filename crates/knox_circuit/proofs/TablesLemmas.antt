-- Ports and states of one more line.
use Rattle.std.proofs.Common.{◌≡◌, ℕ, List, [], ◌++◌, Option, if◌then◌else◌, ◌∙◌, ap}
use Rattle.std.proofs.lemmas.List.{append_assoc}
use Rattle.circuit_nodes.specs.declared.node.SortOf.{SortOf}
use Rattle.circuit_table.specs.declared.line.Line.{Line}
use Rattle.knox_circuit.specs.declared.port.Role.{Role}
use Rattle.knox_circuit.specs.declared.port.Role.TheVariants as role
use Rattle.knox_circuit.specs.declared.port.Cell.{Cell}
use Rattle.knox_circuit.specs.declared.names.Names.{Names}
use Rattle.knox_circuit.specs.Names.{name_of}
use Rattle.knox_circuit.specs.Taken.{has, Know}
use Rattle.knox_circuit.specs.Ports.{port}
use Rattle.knox_circuit.specs.Cells.{sort_width, sort_index, state_cell}
use Rattle.knox_circuit.proofs.NamesLemmas.{name-is}

pub port-is : (names : Names) (l : Line) (width : ℕ) (given name : List ℕ) → name ≡ (if has names given then [] else name_of given) → given ≡ l.symbol → (k : Role) (before : List Line) → Know names k before → record { name = name; number = l.number; width = width } ≡ port k before l width
port-is names l width given name e same k before known =
    ap (λ (z : List ℕ). record { name = z; number = l.number; width = width }) (name-is before k names l.symbol given name known e same)

pub state-is : (names : Names) (l : Line) (t : SortOf) (given name : List ℕ) (width : ℕ) (index : Option ℕ) → name ≡ (if has names given then [] else name_of given) → given ≡ l.symbol → width ≡ sort_width t → index ≡ sort_index t → (before : List Line) → Know names role.State before → record { name = name; number = l.number; width = width; index = index; first = 0 } ≡ state_cell before l t
state-is names l t given name width index e same w i before known =
    let made : List ℕ → ℕ → Option ℕ → Cell = λ z v j. record { name = z; number = l.number; width = v; index = j; first = 0 } in
    ap (λ (z : List ℕ). made z width index) (name-is before role.State names l.symbol given name known e same)
    ∙ (ap (λ (v : ℕ). made (state_cell before l t).name v index) w ∙ ap (λ (j : Option ℕ). made (state_cell before l t).name (sort_width t) j) i)

pub ruleset port_steps = (port-is, state-is)

-- a list with what one more line gives
pub joined : {A : Type 0} (made new one more all : List A) → new ≡ made ++ one → made ++ (one ++ more) ≡ all → new ++ more ≡ all
joined made new one more all e f = ap (λ (z : List _). z ++ more) e ∙ (append_assoc made one more ∙ f)
