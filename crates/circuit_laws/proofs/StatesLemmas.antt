-- The states of rows: where their words stand, which node each is, and what each takes.
use Rattle.std.proofs.Common.{◌≡◌, ℕ, zero, suc, ◌+◌, ◌^◌, ◌⊎◌, List, [], ◌∷◌, ◌++◌, Option, Some, None, is_some, slice_get, refl, sym, ◌∙◌, ap, subst, arith, inl, inr, if◌then◌else◌}
use Rattle.circuit_nodes.specs.declared.node.Arg.{Arg}
use Rattle.circuit_nodes.specs.declared.node.Node.{Node}
use Rattle.circuit_nodes.specs.declared.node.Node.TheVariants as node
use Rattle.circuit_nodes.specs.declared.node.Next.{Next}
use Rattle.circuit_nodes.specs.declared.node.Next.TheVariants as next
use Rattle.circuit_nodes.specs.declared.node.SortOf.{SortOf}
use Rattle.circuit_nodes.specs.declared.node.SortOf.TheVariants.{Words, Arrays}
use Rattle.circuit_nodes.specs.declared.node.State.{State}
use Rattle.circuit_nodes.specs.declared.node.Kind.{Kind}
use Rattle.circuit_nodes.specs.declared.node.Kind.TheVariants as kind
use Rattle.circuit_nodes.specs.declared.node.Row.{Row}
use Rattle.circuit_table.specs.declared.line.Line.{Line}
use Rattle.circuit_table.specs.Sorts.{word_width}
use Rattle.circuit_table.specs.Typed.{kind_sort}
use Rattle.knox_circuit.specs.Cells as cells
use Rattle.knox_circuit.specs.Cells.{sort_width, sort_index, state_cell, stored, stored_among}
use Rattle.knox_circuit.specs.Parts.{kind_node, size, cell_size, bare_size, with_first, first_of, nodes_from, state_of, states_from, next_for, row_nexts, nexts_of}
use Rattle.knox_circuit.proofs.CellsLemmas.{SuitsKind, Suit}

-- a node as a state: so many words of a width, or one word where it is no array
abbrev pub own_node : Option ℕ → ℕ → ℕ → ℕ → Node
own_node None first words width = node.State first width
own_node (Some i) first words width = node.Array first words width

abbrev pub next_of : Option ℕ → ℕ → Arg → Next
next_of None words a = next.Word a
next_of (Some i) words a = next.Array a.node words

-- what a state that is no array has: one word
abbrev pub count_of : Option ℕ → ℕ → ℕ
count_of None words = 1
count_of (Some i) words = words

abbrev pub state_by : ℕ → ℕ → Row → ℕ → ℕ → Option ℕ → State
state_by k first r words width index = record { node = k; first = first; words = words; width = width; index = index; next = r.next; init = r.init }

-- a row that is a state
pub record OneState (r : Row) (d : Kind) : Type 0 where
  pub words : ℕ
  pub width : ℕ
  pub index : Option ℕ
  pub sort : SortOf
  pub states : (k first : ℕ) → state_of k first r d ≡ state_by k first r words width index ∷ []
  pub size : size (kind_node d) ≡ words
  pub node : (first : ℕ) → with_first first (kind_node d) ≡ own_node index first words width
  pub next : (a : Arg) → next_for (kind_node d) a ≡ next_of index words a ∷ []
  pub count : count_of index words ≡ words
  pub many : cells.size index ≡ words
  pub sorted : kind_sort (Some d) ≡ Some sort
  pub wide : word_width sort ≡ width
  pub stored : (before : List Line) (l : Line) → stored before l r d ≡ record { cell = state_cell before l sort; is_cell = is_some r.next; has_init = is_some r.init } ∷ []
  pub cell_width : sort_width sort ≡ width
  pub cell_index : sort_index sort ≡ index

-- a node that reads no state
abbrev pub ReadsNone : Node → Type 0
ReadsNone (node.State p w) = ⊥
ReadsNone (node.Array p n w) = ⊥
ReadsNone _ = Unit {0}

-- a row that is none
pub record NoState (r : Row) (d : Kind) : Type 0 where
  pub states : (k first : ℕ) → state_of k first r d ≡ []
  pub size : size (kind_node d) ≡ 0
  pub node : (first : ℕ) → ReadsNone (with_first first (kind_node d))
  pub next : (a : Arg) → next_for (kind_node d) a ≡ []
  pub stored : (before : List Line) (l : Line) → stored before l r d ≡ []

array-state : (r : Row) (j e p n w i : ℕ) → Arrays j e ≡ Arrays i w → n ≡ 2 ^ i → OneState r (kind.Value (Arrays j e) (node.Array p n w))
array-state r j e p n w i same many =
    let element : e ≡ w = cc in
    let index : j ≡ i = cc in
    record {
      words = n;
      width = w;
      index = Some j;
      sort = Arrays j e;
      states = λ k first. refl;
      size = refl;
      node = λ first. refl;
      next = λ a. refl;
      count = refl;
      many = ap (λ (m : ℕ). 2 ^ m) index ∙ sym many;
      sorted = refl;
      wide = element;
      stored = λ before l. refl;
      cell_width = element;
      cell_index = refl;
    }

word-state : (r : Row) (t : SortOf) (p w : ℕ) → t ≡ Words w → OneState r (kind.Value t (node.State p w))
word-state r t p w same = record {
  words = 1;
  width = w;
  index = None;
  sort = t;
  states = λ k first. refl;
  size = refl;
  node = λ first. refl;
  next = λ a. refl;
  count = refl;
  many = refl;
  sorted = refl;
  wide = ap word_width same;
  stored = λ before l. refl;
  cell_width = ap sort_width same;
  cell_index = ap sort_index same;
}

pub view : (r : Row) (d : Kind) → SuitsKind d → OneState r d ⊎ NoState r d
view r (kind.Value t (node.State p w)) h = inl (word-state r t p w h)
view r (kind.Value (Arrays j e) (node.Array p n w)) h = inl (array-state r j e p n w h.0 h.1 h.2)
view r (kind.Value (Words v) (node.Array p n w)) h = let q : Words v ≡ Arrays h.0 w = h.1 in absurd (cc)
view r (kind.Value t _) h = inr (record { states = λ k first. refl; size = refl; node = λ first. tt; next = λ a. refl; stored = λ before l. refl })
view r _ h = inr (record { states = λ k first. refl; size = refl; node = λ first. tt; next = λ a. refl; stored = λ before l. refl })

-- what holds of rows and their states, row by row
pub states-each : (P : ℕ → ℕ → ℕ → List Row → List State → Type 0) → ((k c b : ℕ) → P k c b [] [])
    → ((k c b : ℕ) (r : Row) (rows : List Row) (ss : List State) (one : OneState r r.kind) → P (k + 1) (c + (if is_some r.next then one.words else 0)) (b + (if is_some r.next then 0 else one.words)) rows ss → P k c b (r ∷ rows) (state_by k (first_of c b r) r one.words one.width one.index ∷ ss))
    → ((k c b : ℕ) (r : Row) (rows : List Row) (ss : List State) (non : NoState r r.kind) → P (k + 1) (c + (if is_some r.next then 0 else 0)) (b + (if is_some r.next then 0 else 0)) rows ss → P k c b (r ∷ rows) ss)
    → (k c b : ℕ) (rows : List Row) → Suit rows → P k c b rows (states_from k c b rows)
states-each P none more less k c b [] h = none k c b
states-each P none more less k c b (r ∷ rows) h = elim (view r r.kind h.0) [
  | inl one ↦
      let rest : P (k + 1) (c + (if is_some r.next then one.words else 0)) (b + (if is_some r.next then 0 else one.words)) rows (states_from (k + 1) (c + (if is_some r.next then one.words else 0)) (b + (if is_some r.next then 0 else one.words)) rows) =
      states-each P none more less (k + 1) (c + (if is_some r.next then one.words else 0)) (b + (if is_some r.next then 0 else one.words)) rows h.1 in
      let sized : states_from (k + 1) (c + (if is_some r.next then one.words else 0)) (b + (if is_some r.next then 0 else one.words)) rows ≡ states_from (k + 1) (c + cell_size r) (b + bare_size r) rows =
      ap (λ (n : ℕ). states_from (k + 1) (c + (if is_some r.next then n else 0)) (b + (if is_some r.next then 0 else n)) rows) (sym one.size) in
      subst (P k c b (r ∷ rows)) (ap (λ (z : List State). z ++ states_from (k + 1) (c + cell_size r) (b + bare_size r) rows) (sym (one.states k (first_of c b r))))
      (subst (λ (z : List State). P k c b (r ∷ rows) (state_by k (first_of c b r) r one.words one.width one.index ∷ z)) sized (more k c b r rows _ one rest))
  | inr non ↦
      let rest : P (k + 1) (c + (if is_some r.next then 0 else 0)) (b + (if is_some r.next then 0 else 0)) rows (states_from (k + 1) (c + (if is_some r.next then 0 else 0)) (b + (if is_some r.next then 0 else 0)) rows) =
      states-each P none more less (k + 1) (c + (if is_some r.next then 0 else 0)) (b + (if is_some r.next then 0 else 0)) rows h.1 in
      let sized : states_from (k + 1) (c + (if is_some r.next then 0 else 0)) (b + (if is_some r.next then 0 else 0)) rows ≡ states_from (k + 1) (c + cell_size r) (b + bare_size r) rows =
      ap (λ (n : ℕ). states_from (k + 1) (c + (if is_some r.next then n else 0)) (b + (if is_some r.next then 0 else n)) rows) (sym non.size) in
      subst (P k c b (r ∷ rows)) (ap (λ (z : List State). z ++ states_from (k + 1) (c + cell_size r) (b + bare_size r) rows) (sym (non.states k (first_of c b r))))
      (subst (P k c b (r ∷ rows)) sized (less k c b r rows _ non rest))
]

-- states one behind the other, cells from a place on and the others from another

abbrev pub cell_count : State → ℕ
cell_count s = if is_some s.next then s.words else 0

abbrev pub bare_count : State → ℕ
bare_count s = if is_some s.next then 0 else s.words

abbrev pub LaidOut : ℕ → ℕ → List State → Type 0
LaidOut c b [] = Unit {0}
LaidOut c b (s ∷ ss) = (s.first ≡ (if is_some s.next then c else b)) × LaidOut (c + cell_count s) (b + bare_count s) ss

pub nothing : (o : Option Arg) (c : ℕ) → c + (if is_some o then 0 else 0) ≡ c
nothing None c = omega arith
nothing (Some a) c = omega arith

pub states-laid : (k c b : ℕ) (rows : List Row) → Suit rows → LaidOut c b (states_from k c b rows)
states-laid k c b rows h = states-each (λ k c b rows ss. LaidOut c b ss) (λ k c b. tt) (λ k c b r rows ss one rest. (refl, rest))
    (λ k c b r rows ss non rest. subst (λ (m : ℕ). LaidOut c m ss) (nothing r.next b) (subst (λ (m : ℕ). LaidOut m (b + (if is_some r.next then 0 else 0)) ss) (nothing r.next c) rest)) k c b rows h

-- what the cells among some states take at a tick

abbrev pub next_by : State → Option Arg → List Next
next_by s None = []
next_by s (Some a) = next_of s.index s.words a ∷ []

abbrev pub nexts_in : List State → List Next
nexts_in [] = []
nexts_in (s ∷ ss) = next_by s s.next ++ nexts_in ss

row-next : (r : Row) (one : OneState r r.kind) (k first : ℕ) (o : Option Arg) → row_nexts (kind_node r.kind) o ≡ next_by (state_by k first r one.words one.width one.index) o
row-next r one k first None = refl
row-next r one k first (Some a) = one.next a

row-none : (r : Row) (non : NoState r r.kind) (o : Option Arg) → row_nexts (kind_node r.kind) o ≡ []
row-none r non None = refl
row-none r non (Some a) = non.next a

pub states-next : (k c b : ℕ) (rows : List Row) → Suit rows → nexts_of rows ≡ nexts_in (states_from k c b rows)
states-next k c b rows h = states-each (λ k c b rows ss. nexts_of rows ≡ nexts_in ss) (λ k c b. refl)
    (λ k c b r rows ss one rest. ap (λ (z : List Next). z ++ nexts_of rows) (row-next r one k (first_of c b r) r.next) ∙ ap (λ (z : List Next). next_by (state_by k (first_of c b r) r one.words one.width one.index) r.next ++ z) rest)
    (λ k c b r rows ss non rest. ap (λ (z : List Next). z ++ nexts_of rows) (row-none r non r.next) ∙ rest) k c b rows h

-- each state's row and its own node

pub record Stands (k : ℕ) (rows : List Row) (ns : List Node) (s : State) : Type 0 where
  pub place : ℕ
  pub node : s.node ≡ k + place
  pub row : Row
  pub at : slice_get rows place ≡ Some row
  pub sort : SortOf
  pub sorted : kind_sort (Some row.kind) ≡ Some sort
  pub wide : word_width sort ≡ s.width
  pub next : row.next ≡ s.next
  pub init : row.init ≡ s.init
  pub own : slice_get ns place ≡ Some (own_node s.index s.first s.words s.width)
  pub count : count_of s.index s.words ≡ s.words

abbrev pub Every : (State → Type 0) → List State → Type 0
Every P [] = Unit {0}
Every P (s ∷ ss) = P s × Every P ss

pub every-map : (P Q : State → Type 0) (ss : List State) → ((s : State) → P s → Q s) → Every P ss → Every Q ss
every-map P Q [] f h = tt
every-map P Q (s ∷ ss) f h = (f s h.0, every-map P Q ss f h.1)

pub every-get : (P : State → Type 0) (ss : List State) (k : ℕ) (s : State) → Every P ss → slice_get ss k ≡ Some s → P s
every-get P [] k s h is = cc
every-get P (t ∷ ss) zero s h is = let e : t ≡ s = cc in subst P e h.0
every-get P (t ∷ ss) (suc k) s h is = every-get P ss k s h.1 is

stands-more : (k : ℕ) (r : Row) (rows : List Row) (n : Node) (ns : List Node) (s : State) → Stands (k + 1) rows ns s → Stands k (r ∷ rows) (n ∷ ns) s
stands-more k r rows n ns s h = record {
  place = suc h.place;
  node = let e = h.node in omega (arith, e);
  row = h.row;
  at = h.at;
  sort = h.sort;
  sorted = h.sorted;
  wide = h.wide;
  next = h.next;
  init = h.init;
  own = h.own;
  count = h.count;
}

pub states-stand : (k c b : ℕ) (rows : List Row) → Suit rows → Every (Stands k rows (nodes_from c b rows)) (states_from k c b rows)
states-stand k c b rows h = states-each (λ k c b rows ss. Every (Stands k rows (nodes_from c b rows)) ss) (λ k c b. tt)
    (λ k c b r rows ss one rest. (
      record {
        place = 0;
        node = omega arith;
        row = r;
        at = refl;
        sort = one.sort;
        sorted = one.sorted;
        wide = one.wide;
        next = refl;
        init = refl;
        own = ap Some (one.node (first_of c b r));
        count = one.count;
      },
      every-map (Stands (k + 1) rows _) (Stands k (r ∷ rows) _) ss
          (λ s stands. stands-more k r rows (with_first (first_of c b r) (kind_node r.kind)) (nodes_from (c + cell_size r) (b + bare_size r) rows) s stands)
          (subst (λ (m : ℕ). Every (Stands (k + 1) rows (nodes_from (c + (if is_some r.next then m else 0)) (b + (if is_some r.next then 0 else m)) rows)) ss) (sym one.size) rest),
    ))
    (λ k c b r rows ss non rest.
    every-map (Stands (k + 1) rows _) (Stands k (r ∷ rows) _) ss
    (λ s stands. stands-more k r rows (with_first (first_of c b r) (kind_node r.kind)) (nodes_from (c + cell_size r) (b + bare_size r) rows) s stands)
    (subst (λ (m : ℕ). Every (Stands (k + 1) rows (nodes_from (c + (if is_some r.next then m else 0)) (b + (if is_some r.next then 0 else m)) rows)) ss) (sym non.size) rest)) k c b rows h
