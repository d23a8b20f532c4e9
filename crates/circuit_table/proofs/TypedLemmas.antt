-- Rows stay typed as rows are added, and as what is said of a state is kept with its row.
use Rattle.std.proofs.Common.{◌≡◌, ℕ, ◌⊎◌, zero, suc, List, [], ◌∷◌, ◌++◌, Option, Some, None, true, set, slice_get, refl, sym, ◌∙◌, ap, subst, inl, inr, take, length, arith}
use Rattle.std.proofs.lemmas.Option.{slice_get_within}
use Rattle.std.proofs.lemmas.List.{map-append, length-map, take-append-le, take_at}
use Rattle.circuit_nodes.proofs.ListLemmas.{slice_get-append, slice_get-mapped, last-or-before}
use Rattle.circuit_nodes.specs.declared.node.Arg.{Arg}
use Rattle.circuit_nodes.specs.declared.node.Next.{Next}
use Rattle.circuit_nodes.specs.declared.node.Next.TheVariants as next
use Rattle.circuit_nodes.specs.declared.node.Node.{Node}
use Rattle.circuit_nodes.specs.declared.node.Node.TheVariants as node
use Rattle.circuit_nodes.specs.declared.node.SortOf.{SortOf}
use Rattle.circuit_nodes.specs.declared.node.Kind.{Kind}
use Rattle.circuit_nodes.specs.declared.node.Kind.TheVariants as kind
use Rattle.circuit_nodes.specs.declared.node.Row.{Row}
use Rattle.circuit_nodes.specs.declared.node.Feed.{Feed}
use Rattle.circuit_nodes.specs.declared.node.Feed.TheVariants as feed
use Rattle.circuit_nodes.specs.declared.node.Resolved.{Resolved}
use Rattle.circuit_table.specs.Sorts.{is_sort}
use Rattle.circuit_table.specs.Rows.{kinds_of, kind_inputs, inputs_in, with_next, with_init, fed, extended_by}
use Rattle.circuit_table.specs.Typed.{kind_sort, sort_in, IsTyped, IsTypedKind, NextSuits, InitSuits, IsTypedRow, AreTyped}
use Rattle.circuit_table.proofs.RowsLemmas.{kinds-more, inputs-more}

-- sorts and inputs of more rows

abbrev pub Sorts : Type 0
Sorts = ℕ → Option SortOf

abbrev Grows : Sorts → Sorts → Type 0
Grows S T = (i : ℕ) (s : SortOf) → S i ≡ Some s → T i ≡ Some s

abbrev Extends : List ℕ → List ℕ → Type 0
Extends I J = (p w : ℕ) → slice_get I p ≡ Some w → slice_get J p ≡ Some w

sort-more : (ks : List Kind) (k : Kind) → Grows (sort_in ks) (sort_in (ks ++ k ∷ []))
sort-more ks k i s h = of (slice_get ks i) refl h where
  of : (o : Option Kind) → slice_get ks i ≡ o → kind_sort o ≡ Some s → sort_in (ks ++ k ∷ []) i ≡ Some s
  of None is e = cc
  of (Some c) is e = ap kind_sort (slice_get-append ks (k ∷ []) i (slice_get_within ks i c is) ∙ is) ∙ e

inputs-extend : (I J : List ℕ) → Extends I (I ++ J)
inputs-extend I J p w is = slice_get-append I J p (slice_get_within I p w is) ∙ is

node-inputs : (S : Sorts) (I J : List ℕ) (t : SortOf) (n : Node) → Extends I J → IsTyped S I t n → IsTyped S J t n
node-inputs S I J t (node.Un o a) x h = h
node-inputs S I J t (node.Bin o a b) x h = h
node-inputs S I J t (node.Slice a m l) x h = h
node-inputs S I J t (node.Uext a m) x h = h
node-inputs S I J t (node.Sext a m) x h = h
node-inputs S I J t (node.Ite c a b) x h = h
node-inputs S I J t (node.Pick c a b) x h = h
node-inputs S I J t (node.Read a i) x h = h
node-inputs S I J t (node.Write a i w) x h = h
node-inputs S I J t (node.Const w) x h = h
node-inputs S I J t (node.Input p w) x h = (h.0, x p w h.1)
node-inputs S I J t (node.State p w) x h = h
node-inputs S I J t (node.Array p m w) x h = h

kind-inputs : (S : Sorts) (I J : List ℕ) (k : Kind) → Extends I J → IsTypedKind S I k → IsTypedKind S J k
kind-inputs S I J (kind.Value t n) x h = (h.0, node-inputs S I J t n x h.1)
kind-inputs S I J (kind.Sort t) x h = h
kind-inputs S I J (kind.Output a w) x h = h
kind-inputs S I J (kind.Fed a) x h = h
kind-inputs S I J (kind.Bad a) x h = h
kind-inputs S I J kind.Other x h = h

next-more : (S T : Sorts) (t : Option SortOf) (v : Option Arg) → Grows S T → NextSuits S t v → NextSuits T t v
next-more S T t None g h = tt
next-more S T None (Some a) g h = h
next-more S T (Some t) (Some a) g h = g a.node t h

init-more : (S T : Sorts) (t : Option SortOf) (v : Option Next) → Grows S T → InitSuits S t v → InitSuits T t v
init-more S T t None g h = tt
init-more S T None (Some v) g h = h
init-more S T (Some t) (Some (next.Word a)) g h = g a.node _ h
init-more S T (Some t) (Some (next.Array k n)) g h = g k t h

row-more : (B S T : Sorts) (I J : List ℕ) (r : Row) → Grows S T → Extends I J → IsTypedRow B S I r → IsTypedRow B T J r
row-more B S T I J r g x h = record {
  kind = kind-inputs B I J r.kind x h.kind;
  next = next-more S T (kind_sort (Some r.kind)) r.next g h.next;
  init = init-more S T (kind_sort (Some r.kind)) r.init g h.init;
}

-- what a line gives: its row is typed over the rows before it, and what it says of a state suits it

abbrev pub IsFeedTyped : Sorts → Option Feed → Type 0
IsFeedTyped S None = Unit {0}
IsFeedTyped S (Some (feed.Next p v)) = (t : SortOf) × (S p ≡ Some t) × NextSuits S (Some t) (Some v)
IsFeedTyped S (Some (feed.Init p v)) = (t : SortOf) × (S p ≡ Some t) × InitSuits S (Some t) (Some v)

pub record IsGood (rows : List Row) (d : Resolved) : Type 0 where
  pub kind : IsTypedKind (sort_in (kinds_of rows)) (inputs_in rows ++ kind_inputs d.row.kind) d.row.kind
  pub next : d.row.next ≡ None
  pub init : d.row.init ≡ None
  pub feed : IsFeedTyped (sort_in (kinds_of rows)) d.feed

-- a row with what is said of it

set-cases : {X : Type 0} (xs : List X) (p : ℕ) (x : X) (i : ℕ) (y : X) → slice_get (set xs p x) i ≡ Some y → ((p ≡ i) × (x ≡ y)) ⊎ (slice_get xs i ≡ Some y)
set-cases [] p x i y is = inr is
set-cases (z ∷ xs) zero x zero y is = inl (refl, cc)
set-cases (z ∷ xs) zero x (suc i) y is = inr is
set-cases (z ∷ xs) (suc p) x zero y is = inr is
set-cases (z ∷ xs) (suc p) x (suc i) y is = elim (set-cases xs p x i y is) [
  | inl here ↦ inl (ap suc here.0, here.1)
  | inr before ↦ inr before
]

abbrev Each : (ℕ → Row → Type 0) → List Row → Type 0
Each P rows = (k : ℕ) (r : Row) → slice_get rows k ≡ Some r → P k r

each-set : (P : ℕ → Row → Type 0) (rows : List Row) (p : ℕ) (x : Row) → Each P rows → P p x → Each P (set rows p x)
each-set P rows p x are own k r is = elim (set-cases rows p x k r is) [
  | inl here ↦ subst (P k) here.1 (subst (λ (q : ℕ). P q x) here.0 own)
  | inr before ↦ are k r before
]

-- rows of which each is typed over the nodes before it
abbrev Typed : (ℕ → Sorts) → Sorts → List ℕ → ℕ → Row → Type 0
Typed B S I k r = IsTypedRow (B k) S I r

-- the sort of a row's node
own-sort : (rows : List Row) (p : ℕ) (q : Row) (t : SortOf) → slice_get rows p ≡ Some q → sort_in (kinds_of rows) p ≡ Some t → kind_sort (Some q.kind) ≡ Some t
own-sort rows p q t is e = ap kind_sort (sym (slice_get-mapped (λ (r : Row). r.kind) rows p q is)) ∙ e

next-typed : (B : ℕ → Sorts) (S : Sorts) (I : List ℕ) (rows : List Row) (p : ℕ) (v : Arg) (t : SortOf) (o : Option Row) → slice_get rows p ≡ o → sort_in (kinds_of rows) p ≡ Some t → NextSuits S (Some t) (Some v) → Each (Typed B S I) rows → Each (Typed B S I) (with_next p v o rows)
next-typed B S I rows p v t None is e suits are = are
next-typed B S I rows p v t (Some q) is e suits are =
    each-set (Typed B S I) rows p (record q { next = Some v }) are (record {
      kind = (are p q is).kind;
      next = subst (λ (z : Option SortOf). NextSuits S z (Some v)) (sym (own-sort rows p q t is e)) suits;
      init = (are p q is).init;
    })

init-typed : (B : ℕ → Sorts) (S : Sorts) (I : List ℕ) (rows : List Row) (p : ℕ) (v : Next) (t : SortOf) (o : Option Row) → slice_get rows p ≡ o → sort_in (kinds_of rows) p ≡ Some t → InitSuits S (Some t) (Some v) → Each (Typed B S I) rows → Each (Typed B S I) (with_init p v o rows)
init-typed B S I rows p v t None is e suits are = are
init-typed B S I rows p v t (Some q) is e suits are =
    each-set (Typed B S I) rows p (record q { init = Some v }) are (record {
      kind = (are p q is).kind;
      next = (are p q is).next;
      init = subst (λ (z : Option SortOf). InitSuits S z (Some v)) (sym (own-sort rows p q t is e)) suits;
    })

fed-typed : (B : ℕ → Sorts) (S T : Sorts) (I : List ℕ) (rows : List Row) (f : Option Feed) → Grows S T → T ≡ sort_in (kinds_of rows) → IsFeedTyped S f → Each (Typed B T I) rows → Each (Typed B T I) (fed f rows)
fed-typed B S T I rows None g e h are = are
fed-typed B S T I rows (Some (feed.Next p v)) g e h are =
    next-typed B T I rows p v h.0 (slice_get rows p) refl (ap (λ (z : Sorts). z p) (sym e) ∙ g p h.0 h.1) (next-more S T (Some h.0) (Some v) g h.2) are
fed-typed B S T I rows (Some (feed.Init p v)) g e h are =
    init-typed B T I rows p v h.0 (slice_get rows p) refl (ap (λ (z : Sorts). z p) (sym e) ∙ g p h.0 h.1) (init-more S T (Some h.0) (Some v) g h.2) are

-- one more row

-- the sorts before a place
abbrev Before : List Kind → ℕ → Sorts
Before ks k = sort_in (take k ks)

pushed-typed : (rows : List Row) (d : Resolved) → AreTyped rows → IsGood rows d → Each (Typed (Before (kinds_of rows ++ d.row.kind ∷ [])) (sort_in (kinds_of rows ++ d.row.kind ∷ [])) (inputs_in rows ++ kind_inputs d.row.kind)) (rows ++ d.row ∷ [])
pushed-typed rows d are good k r is =
    let ks = kinds_of rows in
    let T = sort_in (ks ++ d.row.kind ∷ []) in
    let J = inputs_in rows ++ kind_inputs d.row.kind in
    let long : length ks ≡ length rows = length-map rows (λ (q : Row). q.kind) in
    let own : IsTypedRow (sort_in ks) T J d.row = record {
      kind = good.kind;
      next = subst (λ (z : Option Arg). NextSuits T (kind_sort (Some d.row.kind)) z) (sym good.next) tt;
      init = subst (λ (z : Option Next). InitSuits T (kind_sort (Some d.row.kind)) z) (sym good.init) tt;
    } in
    elim (last-or-before rows d.row r k is) [
      | inl before ↦
          let front : take k (ks ++ d.row.kind ∷ []) ≡ take k ks = take-append-le k ks (d.row.kind ∷ []) (omega (arith, long, before.0)) in
          subst (λ (z : List Kind). IsTypedRow (sort_in z) T J r) (sym front)
          (row-more (Before ks k) (sort_in ks) T (inputs_in rows) J r (sort-more ks d.row.kind) (inputs-extend (inputs_in rows) (kind_inputs d.row.kind)) (are k r before.1))
      | inr here ↦
          let all : take k (ks ++ d.row.kind ∷ []) ≡ ks = take_at ks (d.row.kind ∷ []) k (long ∙ sym here.0) in
          subst (λ (z : List Kind). IsTypedRow (sort_in z) T J r) (sym all) (subst (IsTypedRow (sort_in ks) T J) here.1 own)
    ]

pub extended-typed : (rows : List Row) (d : Resolved) → AreTyped rows → IsGood rows d → AreTyped (extended_by rows d)
extended-typed rows d are good k r is =
    let ks = kinds_of rows ++ d.row.kind ∷ [] in
    let J = inputs_in rows ++ kind_inputs d.row.kind in
    let kinds : sort_in ks ≡ sort_in (kinds_of (rows ++ d.row ∷ [])) = ap sort_in (sym (map-append (λ (q : Row). q.kind) rows (d.row ∷ []))) in
    let all = fed-typed (Before ks) (sort_in (kinds_of rows)) (sort_in ks) J (rows ++ d.row ∷ []) d.feed (sort-more (kinds_of rows) d.row.kind) kinds good.feed (pushed-typed rows d are good) in
    subst (λ (z : List Kind). IsTypedRow (sort_in (take k z)) (sort_in z) (inputs_in (extended_by rows d)) r) (sym (kinds-more rows d))
    (subst (λ (z : List ℕ). IsTypedRow (Before ks k) (sort_in ks) z r) (sym (inputs-more rows d)) (all k r is))

-- the sort of a sort line is in its limits
pub sort-limits : (rows : List Row) (p : ℕ) (r : Row) (t : SortOf) → AreTyped rows → slice_get rows p ≡ Some r → r.kind ≡ kind.Sort t → is_sort t ≡ true
sort-limits rows p r t are is e = subst (IsTypedKind (Before (kinds_of rows) p) (inputs_in rows)) e (are p r is).kind

pub ruleset sort_steps = (sort-limits)
