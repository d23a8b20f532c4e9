-- Rows by number, kinds and inputs, as rows are added.
use Rattle.std.proofs.Common.{◌≡◌, ℕ, ◌+◌, ◌<◌, ◌≤◌, ◌==◌, List, [], ◌∷◌, ◌++◌, Option, Some, None, Result, Ok, Err, Bool, true, false, map, set, length, slice_get, refl, sym, ◌∙◌, ap, arith, if◌then◌else◌}
use Rattle.std.proofs.lemmas.List.{append-nil, append_assoc, map-append, length-map, length-append}
use Rattle.std.proofs.Math.Seq.{map-set_same}
use Rattle.std.proofs.lemmas.Option.{get_or_from_slice_get}
use Rattle.circuit_nodes.specs.declared.node.Arg.{Arg}
use Rattle.circuit_nodes.specs.declared.node.Next.{Next}
use Rattle.circuit_nodes.specs.declared.node.Node.TheVariants as node
use Rattle.circuit_nodes.specs.declared.node.Kind.{Kind}
use Rattle.circuit_nodes.specs.declared.node.Kind.TheVariants as kind
use Rattle.circuit_nodes.specs.declared.node.Row.{Row}
use Rattle.circuit_nodes.specs.declared.node.Feed.{Feed}
use Rattle.circuit_nodes.specs.declared.node.Feed.TheVariants as feed
use Rattle.circuit_nodes.specs.declared.node.Resolved.{Resolved}
use Rattle.circuit_table.specs.declared.fault.Why.{Why}
use Rattle.circuit_table.specs.declared.line.Line.{Line}
use Rattle.circuit_table.specs.Rows.{bind, kinds_of, kind_inputs, inputs_among, later, last_place, place_of, total, row_words, inputs_in, array_words, with_next, with_init, fed, extended_by, added, rows_after}

-- places

later-within : (o : Option ℕ) (b : Bool) (n p : ℕ) → ((k : ℕ) → o ≡ Some k → k < n) → later o b ≡ Some p → p < n + 1
later-within (Some k) b n p h e = let lt = h k refl in let q : k + 1 ≡ p = cc in omega (arith, lt, q)
later-within None true n p h e = let q : 0 ≡ p = cc in omega (arith, q)
later-within None false n p h e = cc

last-within : (ms : List ℕ) (n p : ℕ) → last_place ms n ≡ Some p → p < length ms
last-within [] n p e = cc
last-within (m ∷ ms) n p e = let lt = later-within (last_place ms n) (m == n) (length ms) p (λ k q. last-within ms n k q) e in omega (arith, lt)

pub place-within : (rows : List Row) (n p : ℕ) → place_of rows n ≡ Some p → p < length rows
place-within rows n p e = let lt = last-within (map (λ (r : Row). r.number) rows) n p e in let long = length-map rows (λ (r : Row). r.number) in omega (arith, lt, long)

pub ruleset place_steps = (place-within)

later-if : (b : Bool) (o : Option ℕ) (n : ℕ) (c : Bool) → later (if b then Some n else o) c ≡ (if b then Some (n + 1) else later o c)
later-if true o n c = refl
later-if false o n c = refl

last-push : (ms : List ℕ) (m n : ℕ) → last_place (ms ++ m ∷ []) n ≡ (if m == n then Some (length ms) else last_place ms n)
last-push [] m n = of (m == n) where
  of : (b : Bool) → later None b ≡ (if b then Some 0 else None)
  of true = refl
  of false = refl
last-push (k ∷ ms) m n =
    ap (λ (o : Option ℕ). later o (k == n)) (last-push ms m n)
    ∙ (later-if (m == n) (last_place ms n) (length ms) (k == n)
    ∙ ap (λ (p : ℕ). if m == n then Some p else later (last_place ms n) (k == n)) (omega arith))

-- what is said of a state changes neither numbers nor kinds

same-set : {B : Type 0} (f : Row → B) (rows : List Row) (p : ℕ) (r s : Row) → slice_get rows p ≡ Some r → f s ≡ f r → map f (set rows p s) ≡ map f rows
same-set f rows p r s is e = map-set_same f rows p s r (e ∙ ap f (sym (get_or_from_slice_get rows p r r is)))

fed-next : {B : Type 0} (f : Row → B) (rows : List Row) (p : ℕ) (v : Arg) (o : Option Row) → slice_get rows p ≡ o → ((r : Row) → f (record r { next = Some v }) ≡ f r) → map f (with_next p v o rows) ≡ map f rows
fed-next f rows p v None is e = refl
fed-next f rows p v (Some r) is e = same-set f rows p r (record r { next = Some v }) is (e r)

fed-init : {B : Type 0} (f : Row → B) (rows : List Row) (p : ℕ) (v : Next) (o : Option Row) → slice_get rows p ≡ o → ((r : Row) → f (record r { init = Some v }) ≡ f r) → map f (with_init p v o rows) ≡ map f rows
fed-init f rows p v None is e = refl
fed-init f rows p v (Some r) is e = same-set f rows p r (record r { init = Some v }) is (e r)

fed-same : {B : Type 0} (f : Row → B) (rows : List Row) (d : Option Feed) → ((r : Row) (v : Arg) → f (record r { next = Some v }) ≡ f r) → ((r : Row) (v : Next) → f (record r { init = Some v }) ≡ f r) → map f (fed d rows) ≡ map f rows
fed-same f rows None n i = refl
fed-same f rows (Some (feed.Next p v)) n i = fed-next f rows p v (slice_get rows p) refl (λ r. n r v)
fed-same f rows (Some (feed.Init p v)) n i = fed-init f rows p v (slice_get rows p) refl (λ r. i r v)

pub extended-map : {B : Type 0} (f : Row → B) (rows : List Row) (d : Resolved) → ((r : Row) (v : Arg) → f (record r { next = Some v }) ≡ f r) → ((r : Row) (v : Next) → f (record r { init = Some v }) ≡ f r) → map f (extended_by rows d) ≡ map f rows ++ f d.row ∷ []
extended-map f rows d n i = fed-same f (rows ++ d.row ∷ []) d.feed n i ∙ map-append f rows (d.row ∷ [])

-- one more row

pub place-more : (rows : List Row) (d : Resolved) (n : ℕ) → place_of (extended_by rows d) n ≡ (if d.row.number == n then Some (length rows) else place_of rows n)
place-more rows d n =
    ap (λ (ms : List ℕ). last_place ms n) (extended-map (λ (r : Row). r.number) rows d (λ r v. refl) (λ r v. refl))
    ∙ (last-push (map (λ (r : Row). r.number) rows) d.row.number n
    ∙ ap (λ (p : ℕ). if d.row.number == n then Some p else place_of rows n) (length-map rows (λ (r : Row). r.number)))

total-push : (ns : List ℕ) (n : ℕ) → total (ns ++ n ∷ []) ≡ total ns + n
total-push [] n = omega arith
total-push (m ∷ ns) n = let rest = total-push ns n in omega (arith, rest)

pub kinds-more : (rows : List Row) (d : Resolved) → kinds_of (extended_by rows d) ≡ kinds_of rows ++ d.row.kind ∷ []
kinds-more rows d = extended-map (λ (r : Row). r.kind) rows d (λ r v. refl) (λ r v. refl)

inputs-push : (ks : List Kind) (k : Kind) → inputs_among (ks ++ k ∷ []) ≡ inputs_among ks ++ kind_inputs k
inputs-push [] k = append-nil (kind_inputs k)
inputs-push (j ∷ ks) k =
    ap (λ (z : List ℕ). kind_inputs j ++ z) (inputs-push ks k) ∙ sym (append_assoc (kind_inputs j) (inputs_among ks) (kind_inputs k))

pub inputs-more : (rows : List Row) (d : Resolved) → inputs_in (extended_by rows d) ≡ inputs_in rows ++ kind_inputs d.row.kind
inputs-more rows d = ap inputs_among (kinds-more rows d) ∙ inputs-push (kinds_of rows) d.row.kind

pub words-more : (rows : List Row) (d : Resolved) → array_words (extended_by rows d) ≡ array_words rows + row_words d.row
words-more rows d = ap total (extended-map row_words rows d (λ r v. refl) (λ r v. refl)) ∙ total-push (map row_words rows) (row_words d.row)

pub length-more : (rows : List Row) (d : Resolved) → length (extended_by rows d) ≡ length rows + 1
length-more rows d =
    sym (length-map (extended_by rows d) (λ (r : Row). r.number))
    ∙ (ap length (extended-map (λ (r : Row). r.number) rows d (λ r v. refl) (λ r v. refl))
    ∙ (length-append (map (λ (r : Row). r.number) rows) (d.row.number ∷ []) ∙ ap (λ (n : ℕ). n + 1) (length-map rows (λ (r : Row). r.number))))

-- counts

kind-few : (k : Kind) → length (kind_inputs k) ≤ 1
kind-few (kind.Value t (node.Input p w)) = omega arith
kind-few _ = omega arith

pub inputs-few : (rows : List Row) → length (inputs_in rows) ≤ length rows
inputs-few [] = omega arith
inputs-few (r ∷ rows) =
    let rest = inputs-few rows in
    let one = kind-few r.kind in
    let sum = length-append (kind_inputs r.kind) (inputs_in rows) in
    omega (arith, rest, one, sum)

pub length-inputs-more : (rows : List Row) (d : Resolved) → length (inputs_in (extended_by rows d)) ≡ length (inputs_in rows) + length (kind_inputs d.row.kind)
length-inputs-more rows d = ap length (inputs-more rows d) ∙ length-append (inputs_in rows) (kind_inputs d.row.kind)

-- one more line

pub rows_after-push : (rows : List Row) (ls : List Line) (l : Line) → rows_after rows (ls ++ l ∷ []) ≡ bind (rows_after rows ls) (λ more. added more l)
rows_after-push rows [] l = of (added rows l) where
  of : (x : Result (List Row) Why) → bind x (λ more. Ok more) ≡ x
  of (Ok more) = refl
  of (Err e) = refl
rows_after-push rows (k ∷ ls) l = of (added rows k) (λ more. rows_after-push more ls l) where
  of : (x : Result (List Row) Why) → ((more : List Row) → rows_after more (ls ++ l ∷ []) ≡ bind (rows_after more ls) (λ z. added z l)) → bind x (λ more. rows_after more (ls ++ l ∷ [])) ≡ bind (bind x (λ more. rows_after more ls)) (λ more. added more l)
  of (Ok more) rest = rest more
  of (Err e) rest = refl
