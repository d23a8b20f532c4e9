-- Where the words of states stand: none is read before the node of its state.
use Rattle.std.proofs.Common.{◌≡◌, ℕ, zero, suc, ◌+◌, ◌<◌, ◌≤◌, List, [], ◌∷◌, ◌++◌, Option, Some, None, Bool, true, false, is_some, length, slice_get, refl, subst, arith, inl, inr, if◌then◌else◌}
use Rattle.circuit_nodes.specs.declared.node.Arg.{Arg}
use Rattle.circuit_nodes.specs.declared.node.Node.{Node}
use Rattle.circuit_nodes.specs.declared.node.Node.TheVariants as node
use Rattle.circuit_nodes.specs.declared.node.Next.{Next}
use Rattle.circuit_nodes.specs.declared.node.State.{State}
use Rattle.circuit_nodes.specs.declared.node.SortOf.TheVariants.{Words, Arrays}
use Rattle.circuit_nodes.specs.declared.node.Kind.{Kind}
use Rattle.circuit_nodes.specs.declared.node.Kind.TheVariants as kind
use Rattle.circuit_nodes.specs.declared.node.Row.{Row}
use Rattle.circuit_nodes.specs.Ticks.{words_in}
use Rattle.circuit_nodes.specs.Starts.{AreWithin, AreApart, Reads, Outside}
use Rattle.circuit_table.specs.Rows.{kind_words, array_words}
use Rattle.knox_circuit.specs.Parts.{kind_node, size, row_size, cell_size, bare_size, cell_words, bare_words, with_first, first_of, nodes_from, state_of, states_from, next_for, row_nexts, nexts_of}

-- what cells take

pub words_in-append : (a b : List Next) → words_in (a ++ b) ≡ words_in a + words_in b
words_in-append [] b = omega arith
words_in-append (n ∷ a) b = let more = words_in-append a b in omega (arith, more)

next-words : (n : Node) (a : Arg) → words_in (next_for n a) ≡ size n
next-words (node.State p w) a = omega arith
next-words (node.Array p n w) a = omega arith
next-words (node.Const w) a = refl
next-words (node.Input p w) a = refl
next-words (node.Un o x) a = refl
next-words (node.Bin o x y) a = refl
next-words (node.Slice x h l) a = refl
next-words (node.Uext x n) a = refl
next-words (node.Sext x n) a = refl
next-words (node.Ite c x y) a = refl
next-words (node.Pick c x y) a = refl
next-words (node.Read x i) a = refl
next-words (node.Write x i w) a = refl

pub row-words : (n : Node) (o : Option Arg) → words_in (row_nexts n o) ≡ (if is_some o then size n else 0)
row-words n None = refl
row-words n (Some a) = next-words n a

pub nexts-words : (rows : List Row) → words_in (nexts_of rows) ≡ cell_words rows
nexts-words [] = refl
nexts-words (r ∷ rows) =
    let one = row-words (kind_node r.kind) r.next in
    let more = nexts-words rows in
    let both = words_in-append (row_nexts (kind_node r.kind) r.next) (nexts_of rows) in
    omega (arith, one, more, both)

-- lists of states

abbrev pub Every : (State → Type 0) → List State → Type 0
Every P [] = Unit {0}
Every P (s ∷ ss) = P s × Every P ss

pub every-append : (P : State → Type 0) (a b : List State) → Every P a → Every P b → Every P (a ++ b)
every-append P [] b h k = k
every-append P (s ∷ a) b h k = (h.0, every-append P a b h.1 k)

pub every-both : (P Q R : State → Type 0) (a : List State) → ((s : State) → P s → Q s → R s) → Every P a → Every Q a → Every R a
every-both P Q R [] f h k = tt
every-both P Q R (s ∷ a) f h k = (f s h.0 k.0, every-both P Q R a f h.1 k.1)

pub every-get : (P : State → Type 0) (a : List State) (k : ℕ) (s : State) → Every P a → slice_get a k ≡ Some s → P s
every-get P [] k s h is = cc
every-get P (t ∷ a) zero s h is = let e : t ≡ s = cc in subst P e h.0
every-get P (t ∷ a) (suc k) s h is = every-get P a k s h.1 is

-- the words of a cell stand among those of cells, and those of another state among the others'
abbrev pub Ranges : Bool → ℕ → ℕ → ℕ → ℕ → State → Type 0
Ranges true c b cells bares s = (c ≤ s.first) × (s.first + s.words ≤ c + cells)
Ranges false c b cells bares s = (b ≤ s.first) × (s.first + s.words ≤ b + bares)

ranges-more : (is own : Bool) (c b n cells bares : ℕ) (s : State) → Ranges is (c + (if own then n else 0)) (b + (if own then 0 else n)) cells bares s → Ranges is c b ((if own then n else 0) + cells) ((if own then 0 else n) + bares) s
ranges-more true own c b n cells bares s h = (omega (arith, h.0), omega (arith, h.1))
ranges-more false own c b n cells bares s h = (omega (arith, h.0), omega (arith, h.1))

ranges-own : (own : Bool) (c b n cells bares : ℕ) (s : State) → s.first ≡ (if own then c else b) → s.words ≡ n → Ranges own c b ((if own then n else 0) + cells) ((if own then 0 else n) + bares) s
ranges-own true c b n cells bares s e f = (omega (arith, e), omega (arith, e, f))
ranges-own false c b n cells bares s e f = (omega (arith, e), omega (arith, e, f))

state-ranges : (k c b : ℕ) (r : Row) (d : Kind) (cells bares : ℕ) → Every (λ (s : State). Ranges (is_some s.next) c b ((if is_some r.next then size (kind_node d) else 0) + cells) ((if is_some r.next then 0 else size (kind_node d)) + bares) s) (state_of k (first_of c b r) r d)
state-ranges k c b r (kind.Value t (node.State p w)) cells bares = (ranges-own (is_some r.next) c b 1 cells bares _ refl refl, tt)
state-ranges k c b r (kind.Value (Arrays i e) (node.Array p n w)) cells bares = (ranges-own (is_some r.next) c b n cells bares _ refl refl, tt)
state-ranges k c b r (kind.Value (Words v) (node.Array p n w)) cells bares = tt
state-ranges k c b r (kind.Value t _) cells bares = tt
state-ranges k c b r _ cells bares = tt

abbrev pub Standing : ℕ → ℕ → List Row → State → Type 0
Standing c b rows s = Ranges (is_some s.next) c b (cell_words rows) (bare_words rows) s

pub every-map : (P Q : State → Type 0) (a : List State) → ((s : State) → P s → Q s) → Every P a → Every Q a
every-map P Q [] f h = tt
every-map P Q (s ∷ a) f h = (f s h.0, every-map P Q a f h.1)

pub states-stand : (k c b : ℕ) (rows : List Row) → Every (Standing c b rows) (states_from k c b rows)
states-stand k c b [] = tt
states-stand k c b (r ∷ rows) =
    every-append (Standing c b (r ∷ rows)) (state_of k (first_of c b r) r r.kind) (states_from (k + 1) (c + cell_size r) (b + bare_size r) rows)
    (state-ranges k c b r r.kind (cell_words rows) (bare_words rows))
    (every-map (Standing (c + cell_size r) (b + bare_size r) rows) (Standing c b (r ∷ rows)) (states_from (k + 1) (c + cell_size r) (b + bare_size r) rows)
    (λ s h. ranges-more (is_some s.next) (is_some r.next) c b (row_size r) (cell_words rows) (bare_words rows) s h) (states-stand (k + 1) (c + cell_size r) (b + bare_size r) rows))

-- no node reads the words of a later state

pub outside-later : (is own : Bool) (c b n cells bares j : ℕ) (s : State) → Ranges is (c + (if own then n else 0)) (b + (if own then 0 else n)) cells bares s → c + ((if own then n else 0) + cells) ≤ b → j < n → Outside s ((if own then c else b) + j)
outside-later true true c b n cells bares j s h apart lt = inl (omega (arith, h.0))
outside-later true false c b n cells bares j s h apart lt = inr (omega (arith, h.1))
outside-later false true c b n cells bares j s h apart lt = inl (omega (arith, h.0))
outside-later false false c b n cells bares j s h apart lt = inl (omega (arith, h.0))

reads-later : (c b : ℕ) (r : Row) (n : Node) (cells bares : ℕ) (s : State) → Ranges (is_some s.next) (c + (if is_some r.next then size n else 0)) (b + (if is_some r.next then 0 else size n)) cells bares s → c + ((if is_some r.next then size n else 0) + cells) ≤ b → Reads (Outside s) (Some (with_first (first_of c b r) n))
reads-later c b r (node.State p w) cells bares s h apart =
    let out = outside-later (is_some s.next) (is_some r.next) c b 1 cells bares 0 s h apart (omega arith) in
    subst (Outside s) (omega arith) out
reads-later c b r (node.Array p n w) cells bares s h apart = λ j lt. outside-later (is_some s.next) (is_some r.next) c b n cells bares j s h apart lt
reads-later c b r (node.Const w) cells bares s h apart = tt
reads-later c b r (node.Input p w) cells bares s h apart = tt
reads-later c b r (node.Un o x) cells bares s h apart = tt
reads-later c b r (node.Bin o x y) cells bares s h apart = tt
reads-later c b r (node.Slice x g l) cells bares s h apart = tt
reads-later c b r (node.Uext x n) cells bares s h apart = tt
reads-later c b r (node.Sext x n) cells bares s h apart = tt
reads-later c b r (node.Ite x y z) cells bares s h apart = tt
reads-later c b r (node.Pick x y z) cells bares s h apart = tt
reads-later c b r (node.Read x i) cells bares s h apart = tt
reads-later c b r (node.Write x i w) cells bares s h apart = tt

abbrev pub Apart : ℕ → List Node → State → Type 0
Apart k ns s = (j : ℕ) → k + j < s.node → Reads (Outside s) (slice_get ns j)

state-apart : (k first : ℕ) (r : Row) (d : Kind) (ns : List Node) → Every (Apart k ns) (state_of k first r d)
state-apart k first r (kind.Value t (node.State p w)) ns = (λ j lt. absurd (omega arith), tt)
state-apart k first r (kind.Value (Arrays i e) (node.Array p n w)) ns = (λ j lt. absurd (omega arith), tt)
state-apart k first r (kind.Value (Words v) (node.Array p n w)) ns = tt
state-apart k first r (kind.Value t _) ns = tt
state-apart k first r _ ns = tt

apart-more : (k : ℕ) (n : Node) (ns : List Node) (s : State) → Reads (Outside s) (Some n) → Apart (k + 1) ns s → Apart k (n ∷ ns) s
apart-more k n ns s here more zero lt = here
apart-more k n ns s here more (suc j) lt = more j (omega arith)

pub states-apart : (k c b : ℕ) (rows : List Row) → c + cell_words rows ≤ b → Every (Apart k (nodes_from c b rows)) (states_from k c b rows)
states-apart k c b [] le = tt
states-apart k c b (r ∷ rows) le =
    let first = first_of c b r in
    let n = with_first first (kind_node r.kind) in
    let tail = nodes_from (c + cell_size r) (b + bare_size r) rows in
    let states = states_from (k + 1) (c + cell_size r) (b + bare_size r) rows in
    let less : c + cell_size r + cell_words rows ≤ b + bare_size r = omega arith in
    every-append (Apart k (n ∷ tail)) (state_of k first r r.kind) states
    (state-apart k first r r.kind (n ∷ tail))
    (every-both (Standing (c + cell_size r) (b + bare_size r) rows) (Apart (k + 1) tail) (Apart k (n ∷ tail)) states
    (λ s stands apart. apart-more k n tail s (reads-later c b r (kind_node r.kind) (cell_words rows) (bare_words rows) s stands le) apart)
    (states-stand (k + 1) (c + cell_size r) (b + bare_size r) rows) (states-apart (k + 1) (c + cell_size r) (b + bare_size r) rows less))

pub all-apart : (rows : List Row) → AreApart (nodes_from 0 (cell_words rows) rows) (states_from 0 0 (cell_words rows) rows)
all-apart rows k s is j lt =
    let le : 0 + cell_words rows ≤ cell_words rows = omega arith in
    let far : 0 + j < s.node = omega (arith, lt) in
    every-get (Apart 0 (nodes_from 0 (cell_words rows) rows)) (states_from 0 0 (cell_words rows) rows) k s (states-apart 0 0 (cell_words rows) rows le) is j far

within-all : (is : Bool) (cells bares : ℕ) (s : State) → Ranges is 0 cells cells bares s → s.first + s.words ≤ cells + bares
within-all true cells bares s h = omega (arith, h.1)
within-all false cells bares s h = omega (arith, h.1)

pub all-within : (rows : List Row) → AreWithin (states_from 0 0 (cell_words rows) rows) (cell_words rows + bare_words rows)
all-within rows k s is =
    within-all (is_some s.next) (cell_words rows) (bare_words rows) s
    (every-get (Standing 0 (cell_words rows) rows) (states_from 0 0 (cell_words rows) rows) k s (states-stand 0 0 (cell_words rows) rows) is)

-- all states have as many words as arrays and rows are

kind-few : (k : Kind) → size (kind_node k) ≤ kind_words k + 1
kind-few (kind.Value t (node.Array p n w)) = omega arith
kind-few (kind.Value t (node.State p w)) = omega arith
kind-few (kind.Value t _) = omega arith
kind-few _ = omega arith

either : (own : Bool) (n : ℕ) → (if own then n else 0) + (if own then 0 else n) ≡ n
either true n = omega arith
either false n = omega arith

pub either-size : (r : Row) → cell_size r + bare_size r ≡ row_size r
either-size r = either (is_some r.next) (row_size r)

pub sizes-few : (rows : List Row) → cell_words rows + bare_words rows ≤ array_words rows + length rows
sizes-few [] = omega arith
sizes-few (r ∷ rows) =
    let rest = sizes-few rows in
    let one = kind-few r.kind in
    let both = either (is_some r.next) (row_size r) in
    omega (arith, rest, one, both)

pub ruleset size_steps = (sizes-few)
