-- The widths of the words of states, place by place: what nodes read and states have.
use Rattle.std.proofs.Common.{◌≡◌, ℕ, zero, suc, ◌+◌, ◌<◌, ◌≤◌, List, [], ◌∷◌, ◌++◌, Option, Some, None, Bool, true, false, not, is_some, replicate, length, slice_get, refl, sym, ◌∙◌, ap, subst, arith, if◌then◌else◌}
use Rattle.std.proofs.lemmas.Bool.{and_parts}
use Rattle.std.proofs.lemmas.List.{length-append, length-replicate}
use Rattle.std.proofs.lemmas.Option.{slice_get_within}
use Rattle.knox_words.specs.Lists.{are_widths}
use Rattle.circuit_nodes.specs.declared.node.Node.{Node}
use Rattle.circuit_nodes.specs.declared.node.Node.TheVariants as node
use Rattle.circuit_nodes.specs.declared.node.SortOf.{SortOf}
use Rattle.circuit_nodes.specs.declared.node.SortOf.TheVariants.{Words, Arrays}
use Rattle.circuit_nodes.specs.declared.node.State.{State}
use Rattle.circuit_nodes.specs.declared.node.Kind.{Kind}
use Rattle.circuit_nodes.specs.declared.node.Kind.TheVariants as kind
use Rattle.circuit_nodes.specs.declared.node.Row.{Row}
use Rattle.circuit_nodes.specs.Values.{Given, value_at}
use Rattle.circuit_nodes.proofs.ListLemmas.{slice_get-append}
use Rattle.circuit_table.specs.Sorts.{word_width, is_sort, is_width_up_to}
use Rattle.circuit_table.specs.Rows.{kinds_of, kind_inputs, inputs_in}
use Rattle.circuit_table.specs.Typed.{kind_sort, sort_in, IsTypedKind, NextSuits, InitSuits, AreTyped}
use Rattle.circuit_table.proofs.SortsLemmas.{up_to}
use Rattle.knox_circuit.specs.Parts.{kind_node, cell_size, bare_size, cell_words, with_first, first_of, nodes_from, states_from, widths_where, all_widths}
use Rattle.knox_circuit.proofs.CellsLemmas.{Suit, cells-counted}
use Rattle.circuit_laws.proofs.FitLemmas.{FitsAt, are_widths-both, are_widths-same, slice_get-same}
use Rattle.circuit_laws.proofs.SuitsLemmas.{Suits, ReadsFit, AreNodes, sorted-kind, all-suit}
use Rattle.circuit_laws.proofs.StatesLemmas.{OneState, NoState, ReadsNone, own_node, count_of, state_by, cell_count, bare_count, LaidOut, Stands, Every, every-map, nothing, states-each, states-laid, states-stand}

-- widths among others, from a place on

abbrev pub Holds : List ℕ → ℕ → List ℕ → Type 0
Holds ws c vs = (p w : ℕ) → slice_get vs p ≡ Some w → slice_get ws (c + p) ≡ Some w

pub slice_get-behind : {X : Type 0} (vs us : List X) (p : ℕ) → slice_get (vs ++ us) (length vs + p) ≡ slice_get us p
slice_get-behind [] us p = ap (slice_get us) (omega arith)
slice_get-behind (v ∷ vs) us p = let e : length (v ∷ vs) + p ≡ suc (length vs + p) = omega arith in ap (slice_get (v ∷ vs ++ us)) e ∙ slice_get-behind vs us p

holds-front : (ws : List ℕ) (c : ℕ) (vs us : List ℕ) → Holds ws c (vs ++ us) → Holds ws c vs
holds-front ws c vs us h p w is = h p w (slice_get-append vs us p (slice_get_within vs p w is) ∙ is)

holds-rest : (ws : List ℕ) (c n : ℕ) (vs us : List ℕ) → length vs ≡ n → Holds ws c (vs ++ us) → Holds ws (c + n) us
holds-rest ws c n vs us long h p w is =
    let at : c + n + p ≡ c + (length vs + p) = omega arith in
    ap (slice_get ws) at ∙ h (length vs + p) w (slice_get-behind vs us p ∙ is)

-- the places of so many words of a width
abbrev pub Has : List ℕ → ℕ → ℕ → ℕ → Type 0
Has ws first n w = (j : ℕ) → j < n → slice_get ws (first + j) ≡ Some w

record One (ws : List ℕ) (q : Bool) (c b first n w : ℕ) (ts fs : List ℕ) : Type 0 where
  own : Has ws first n w
  within : first + n ≤ length ws
  cells : Holds ws (c + (if q then n else 0)) ts
  bares : Holds ws (b + (if q then 0 else n)) fs
  more : c + (if q then n else 0) + length ts ≤ length ws
  others : b + (if q then 0 else n) + length fs ≤ length ws

one-state : (ws : List ℕ) (q : Bool) (c b first n w : ℕ) (ts fs : List ℕ) → first ≡ (if q then c else b) → Holds ws c ((if q then replicate n w else []) ++ ts) → Holds ws b ((if not q then replicate n w else []) ++ fs)
    → c + length ((if q then replicate n w else []) ++ ts) ≤ length ws → b + length ((if not q then replicate n w else []) ++ fs) ≤ length ws → One ws q c b first n w ts fs
one-state ws true c b first n w ts fs e h k le few =
    let long = length-replicate n w in
    let sum = length-append (replicate n w) ts in
    record {
      own = λ j lt. ap (λ (m : ℕ). slice_get ws (m + j)) e ∙ holds-front ws c (replicate n w) ts h j w (slice_get-same n j w lt);
      within = omega (arith, e, long, sum, le);
      cells = holds-rest ws c n (replicate n w) ts long h;
      bares = subst (λ (m : ℕ). Holds ws m fs) (omega arith) k;
      more = omega (arith, long, sum, le);
      others = omega (arith, few);
    }
one-state ws false c b first n w ts fs e h k le few =
    let long = length-replicate n w in
    let sum = length-append (replicate n w) fs in
    record {
      own = λ j lt. ap (λ (m : ℕ). slice_get ws (m + j)) e ∙ holds-front ws b (replicate n w) fs k j w (slice_get-same n j w lt);
      within = omega (arith, e, long, sum, few);
      cells = subst (λ (m : ℕ). Holds ws m ts) (omega arith) h;
      bares = holds-rest ws b n (replicate n w) fs long k;
      more = omega (arith, le);
      others = omega (arith, long, sum, few);
    }

-- each state's words have its width

pub record Placed (ws : List ℕ) (s : State) : Type 0 where
  pub own : Has ws s.first s.words s.width
  pub within : s.first + s.words ≤ length ws

pub states-placed : (ws : List ℕ) (c b : ℕ) (ss : List State) → LaidOut c b ss → Holds ws c (widths_where true ss) → Holds ws b (widths_where false ss) → c + length (widths_where true ss) ≤ length ws → b + length (widths_where false ss) ≤ length ws → Every (Placed ws) ss
states-placed ws c b [] laid h k le few = tt
states-placed ws c b (s ∷ ss) laid h k le few =
    let one = one-state ws (is_some s.next) c b s.first s.words s.width (widths_where true ss) (widths_where false ss) laid.0 h k le few in
    (record { own = one.own; within = one.within }, states-placed ws (c + cell_count s) (b + bare_count s) ss laid.1 one.cells one.bares one.more one.others)

-- what nodes read has their width

abbrev pub WidthsAt : List ℕ → Node → Type 0
WidthsAt ws (node.State p w) = slice_get ws p ≡ Some w
WidthsAt ws (node.Array p n w) = Has ws p n w
WidthsAt ws _ = Unit {0}

own-widths : (ws : List ℕ) (index : Option ℕ) (first n w : ℕ) → count_of index n ≡ n → Has ws first n w → WidthsAt ws (own_node index first n w)
own-widths ws None first n w e h = ap (slice_get ws) (omega arith) ∙ h 0 (omega (arith, e))
own-widths ws (Some i) first n w e h = h

none-widths : (ws : List ℕ) (n : Node) → ReadsNone n → WidthsAt ws n
none-widths ws (node.State p w) h = absurd h
none-widths ws (node.Array p n w) h = absurd h
none-widths ws _ h = tt

abbrev NodesHold : ℕ → ℕ → ℕ → List Row → List State → Type 0
NodesHold k c b rows ss = (ws : List ℕ) → Holds ws c (widths_where true ss) → Holds ws b (widths_where false ss) → c + length (widths_where true ss) ≤ length ws → b + length (widths_where false ss) ≤ length ws → (j : ℕ) (n : Node) → slice_get (nodes_from c b rows) j ≡ Some n → WidthsAt ws n

none-hold : (k c b : ℕ) → NodesHold k c b [] []
none-hold k c b ws h l le few j n is = cc

one-hold : (k c b : ℕ) (r : Row) (rows : List Row) (ss : List State) (one : OneState r r.kind) → NodesHold (k + 1) (c + (if is_some r.next then one.words else 0)) (b + (if is_some r.next then 0 else one.words)) rows ss → NodesHold k c b (r ∷ rows) (state_by k (first_of c b r) r one.words one.width one.index ∷ ss)
one-hold k c b r rows ss one rest ws h l le few zero n is =
    let own = one-state ws (is_some r.next) c b (first_of c b r) one.words one.width (widths_where true ss) (widths_where false ss) refl h l le few in
    let same : with_first (first_of c b r) (kind_node r.kind) ≡ n = cc in
    subst (WidthsAt ws) (sym (one.node (first_of c b r)) ∙ same) (own-widths ws one.index (first_of c b r) one.words one.width one.count own.own)
one-hold k c b r rows ss one rest ws h l le few (suc j) n is =
    let own = one-state ws (is_some r.next) c b (first_of c b r) one.words one.width (widths_where true ss) (widths_where false ss) refl h l le few in
    rest ws own.cells own.bares own.more own.others j n
    (ap (λ (m : ℕ). slice_get (nodes_from (c + (if is_some r.next then m else 0)) (b + (if is_some r.next then 0 else m)) rows) j) (sym one.size) ∙ is)

no-hold : (k c b : ℕ) (r : Row) (rows : List Row) (ss : List State) (non : NoState r r.kind) → NodesHold (k + 1) (c + (if is_some r.next then 0 else 0)) (b + (if is_some r.next then 0 else 0)) rows ss → NodesHold k c b (r ∷ rows) ss
no-hold k c b r rows ss non rest ws h l le few zero n is = let same : with_first (first_of c b r) (kind_node r.kind) ≡ n = cc in none-widths ws n (subst ReadsNone same (non.node (first_of c b r)))
no-hold k c b r rows ss non rest ws h l le few (suc j) n is =
    rest ws (subst (λ (m : ℕ). Holds ws m (widths_where true ss)) (sym (nothing r.next c)) h) (subst (λ (m : ℕ). Holds ws m (widths_where false ss)) (sym (nothing r.next b)) l)
    (subst (λ (m : ℕ). m + length (widths_where true ss) ≤ length ws) (sym (nothing r.next c)) le) (subst (λ (m : ℕ). m + length (widths_where false ss) ≤ length ws) (sym (nothing r.next b)) few) j n
    (ap (λ (m : ℕ). slice_get (nodes_from (c + (if is_some r.next then m else 0)) (b + (if is_some r.next then 0 else m)) rows) j) (sym non.size) ∙ is)

nodes-hold : (k c b : ℕ) (rows : List Row) → Suit rows → NodesHold k c b rows (states_from k c b rows)
nodes-hold = states-each NodesHold none-hold one-hold no-hold

-- inputs

abbrev pub InputsAt : List ℕ → Node → Type 0
InputsAt is (node.Input p w) = slice_get is p ≡ Some w
InputsAt is _ = Unit {0}

input-at : (S : ℕ → Option SortOf) (ins : List ℕ) (d : Kind) (f : ℕ) → IsTypedKind S ins d → InputsAt ins (with_first f (kind_node d))
input-at S ins (kind.Value t (node.Input p w)) f h = h.1.1
input-at S ins (kind.Value t _) f h = tt
input-at S ins _ f h = tt

nodes-at : (c b : ℕ) (rows : List Row) (k : ℕ) (n : Node) → slice_get (nodes_from c b rows) k ≡ Some n → (r : Row) × (f : ℕ) × (slice_get rows k ≡ Some r) × (with_first f (kind_node r.kind) ≡ n)
nodes-at c b [] k n is = cc
nodes-at c b (r ∷ rows) zero n is = let same : with_first (first_of c b r) (kind_node r.kind) ≡ n = cc in (r, first_of c b r, refl, same)
nodes-at c b (r ∷ rows) (suc k) n is = nodes-at (c + cell_size r) (b + bare_size r) rows k n is

length-nodes : (c b : ℕ) (rows : List Row) → length (nodes_from c b rows) ≡ length rows
length-nodes c b [] = refl
length-nodes c b (r ∷ rows) = ap suc (length-nodes (c + cell_size r) (b + bare_size r) rows)

node-of : (c b : ℕ) (rows : List Row) (k : ℕ) (r : Row) → slice_get rows k ≡ Some r → (f : ℕ) × (slice_get (nodes_from c b rows) k ≡ Some (with_first f (kind_node r.kind)))
node-of c b [] k r is = cc
node-of c b (q ∷ rows) zero r is = let same : q ≡ r = cc in (first_of c b q, ap (λ (z : Row). Some (with_first (first_of c b q) (kind_node z.kind))) same)
node-of c b (q ∷ rows) (suc k) r is = node-of (c + cell_size q) (b + bare_size q) rows k r is

pub are-nodes : (c b : ℕ) (rows : List Row) → AreNodes rows (nodes_from c b rows)
are-nodes c b rows = record { long = length-nodes c b rows; at = node-of c b rows }

-- limits

sort-range : (t : SortOf) → is_sort t ≡ true → (1 ≤ word_width t) × (word_width t ≤ 128)
sort-range (Words w) h = up_to 128 w h
sort-range (Arrays i e) h = up_to 128 e (and_parts (is_width_up_to 12 i) (is_width_up_to 128 e) h).1

kind-range : (S : ℕ → Option SortOf) (ins : List ℕ) (d : Kind) → IsTypedKind S ins d → are_widths (kind_inputs d) ≡ true
kind-range S ins (kind.Value t (node.Input p w)) h =
    let sort : is_sort (Words w) ≡ true = subst (λ (s : SortOf). is_sort s ≡ true) h.1.0 h.0 in
    let range = up_to 128 w sort in
    are_widths-same 1 w range.0 range.1
kind-range S ins (kind.Value t _) h = refl
kind-range S ins _ h = refl

among-range : (rows : List Row) → ((k : ℕ) (r : Row) → slice_get rows k ≡ Some r → are_widths (kind_inputs r.kind) ≡ true) → are_widths (inputs_in rows) ≡ true
among-range [] h = refl
among-range (r ∷ rows) h = are_widths-both (kind_inputs r.kind) (inputs_in rows) (h 0 r refl) (among-range rows (λ k q is. h (suc k) q is))

pub inputs-range : (rows : List Row) → AreTyped rows → are_widths (inputs_in rows) ≡ true
inputs-range rows are = among-range rows (λ k r is. kind-range _ _ r.kind (are k r is).kind)

-- what the rules let each state be

pub record IsFit (sorts : ℕ → Option SortOf) (s : State) : Type 0 where
  pub sort : SortOf
  pub wide : word_width sort ≡ s.width
  pub range : (1 ≤ s.width) × (s.width ≤ 128)
  pub next : NextSuits sorts (Some sort) s.next
  pub init : InitSuits sorts (Some sort) s.init
  pub count : count_of s.index s.words ≡ s.words

kind-sorted : (S : ℕ → Option SortOf) (ins : List ℕ) (d : Kind) (t : SortOf) → IsTypedKind S ins d → kind_sort (Some d) ≡ Some t → is_sort t ≡ true
kind-sorted S ins d t h e =
    let is = sorted-kind (Some d) t e in
    let same : d ≡ kind.Value t is.0 = let q = is.1 in cc in
    (subst (IsTypedKind S ins) same h).0

stands-fit : (k : ℕ) (rows : List Row) (ns : List Node) (s : State) → AreTyped rows → Stands k rows ns s → IsFit (sort_in (kinds_of rows)) s
stands-fit k rows ns s are h =
    let typed = are h.place h.row h.at in
    let range = sort-range h.sort (kind-sorted _ _ h.row.kind h.sort typed.kind h.sorted) in
    let S : ℕ → Option SortOf = sort_in (kinds_of rows) in
    record {
      sort = h.sort;
      wide = h.wide;
      range = subst (λ (w : ℕ). (1 ≤ w) × (w ≤ 128)) h.wide range;
      next = subst (NextSuits S (Some h.sort)) h.next (subst (λ (t : Option SortOf). NextSuits S t h.row.next) h.sorted typed.next);
      init = subst (InitSuits S (Some h.sort)) h.init (subst (λ (t : Option SortOf). InitSuits S t h.row.init) h.sorted typed.init);
      count = h.count;
    }

where-same : (b q : Bool) (n w : ℕ) → 1 ≤ w → w ≤ 128 → are_widths (if b then replicate n w else []) ≡ true
where-same true q n w low high = are_widths-same n w low high
where-same false q n w low high = refl

pub states-range : (b : Bool) (S : ℕ → Option SortOf) (ss : List State) → Every (IsFit S) ss → are_widths (widths_where b ss) ≡ true
states-range b S [] h = refl
states-range true S (s ∷ ss) h =
    are_widths-both (if is_some s.next then replicate s.words s.width else []) (widths_where true ss) (where-same (is_some s.next) true s.words s.width h.0.range.0 h.0.range.1) (states-range true S ss h.1)
states-range false S (s ∷ ss) h =
    are_widths-both (if not (is_some s.next) then replicate s.words s.width else []) (widths_where false ss) (where-same (not (is_some s.next)) true s.words s.width h.0.range.0 h.0.range.1) (states-range false S ss h.1)

-- all of a circuit

pub record IsLaid (rows : List Row) (ns : List Node) (ss : List State) : Type 0 where
  pub laid : LaidOut 0 (length (widths_where true ss)) ss
  pub stand : Every (Stands 0 rows ns) ss
  pub fit : Every (IsFit (sort_in (kinds_of rows))) ss
  pub placed : Every (Placed (all_widths ss)) ss
  pub range : are_widths (all_widths ss) ≡ true
  pub nodes : AreNodes rows ns
  pub reads : (k : ℕ) (n : Node) → slice_get ns k ≡ Some n → WidthsAt (all_widths ss) n × InputsAt (inputs_in rows) n

pub is-laid : (rows : List Row) → AreTyped rows → Suit rows → IsLaid rows (nodes_from 0 (cell_words rows) rows) (states_from 0 0 (cell_words rows) rows)
is-laid rows are suit =
    let cells = cell_words rows in
    let ss = states_from 0 0 cells rows in
    let ns = nodes_from 0 cells rows in
    let ts = widths_where true ss in
    let fs = widths_where false ss in
    let long : length ts ≡ cells = cells-counted 0 0 cells rows suit in
    let sum : length (ts ++ fs) ≡ length ts + length fs = length-append ts fs in
    let front : Holds (ts ++ fs) 0 ts = λ p w is. ap (slice_get (ts ++ fs)) (omega arith) ∙ (slice_get-append ts fs p (slice_get_within ts p w is) ∙ is) in
    let behind : Holds (ts ++ fs) cells fs = λ p w is. ap (λ (m : ℕ). slice_get (ts ++ fs) (m + p)) (sym long) ∙ (slice_get-behind ts fs p ∙ is) in
    let one : 0 + length ts ≤ length (ts ++ fs) = omega arith in
    let two : cells + length fs ≤ length (ts ++ fs) = omega arith in
    let laid = states-laid 0 0 cells rows suit in
    let stand = states-stand 0 0 cells rows suit in
    let fit = every-map (Stands 0 rows ns) (IsFit (sort_in (kinds_of rows))) ss (λ s h. stands-fit 0 rows ns s are h) stand in
    record {
      laid = subst (λ (m : ℕ). LaidOut 0 m ss) (sym long) laid;
      stand = stand;
      fit = fit;
      placed = states-placed (ts ++ fs) 0 cells ss laid front behind one two;
      range = are_widths-both ts fs (states-range true _ ss fit) (states-range false _ ss fit);
      nodes = are-nodes 0 cells rows;
      reads = λ k n is. (
        nodes-hold 0 0 cells rows suit (ts ++ fs) front behind one two k n is,
        let at = nodes-at 0 cells rows k n is in
            subst (InputsAt (inputs_in rows)) at.3 (input-at _ _ at.0.kind at.1 (are k at.0 at.2).kind),
      );
    }

-- values of nodes where inputs and states fit
reads-fit : (ws ins : List ℕ) (g : Given) (n : Node) → WidthsAt ws n → InputsAt ins n → FitsAt ins g.inputs → FitsAt ws g.state → ReadsFit g n
reads-fit ws ins g (node.Input p w) h k fi fs = fi p w k
reads-fit ws ins g (node.State p w) h k fi fs = fs p w h
reads-fit ws ins g (node.Array p n w) h k fi fs = λ j lt. fs (p + j) w (h j lt)
reads-fit ws ins g _ h k fi fs = tt

pub values-fit : (rows : List Row) (ns : List Node) (ss : List State) (g : Given) → AreTyped rows → IsLaid rows ns ss → FitsAt (inputs_in rows) g.inputs → FitsAt (all_widths ss) g.state → (k : ℕ) (s : SortOf) → sort_in (kinds_of rows) k ≡ Some s → Suits s (value_at g ns (length ns) k)
values-fit rows ns ss g are laid fi fs =
    all-suit g rows ns are laid.nodes (λ k n is. reads-fit (all_widths ss) (inputs_in rows) g n (laid.reads k n is).0 (laid.reads k n is).1 fi fs)
