-- What a line gives is typed, and so are the rows of lines.
use Rattle.std.proofs.Common.{◌≡◌, ℕ, ◌-◌, ◌<◌, ◌≤◌, ◌^◌, ◌==◌, ◌&&◌, ◌||◌, ◌++◌, not, nat_le, nat_lt, ℤ, List, [], ◌∷◌, Option, Some, None, Bool, true, false, Result, Ok, Err, length, take, slice_get, refl, sym, ◌∙◌, ap, subst, arith, if◌then◌else◌, ◌+◌}
use Rattle.std.specs.Str.Parse.{digits_value}
use Rattle.std.proofs.lemmas.Bool.{and_parts, leb-true}
use Rattle.std.proofs.lemmas.Nat.{pow_pos}
use Rattle.knox_words.specs.Bits.{Bits, bits, is_word, word_or}
use Rattle.knox_words.specs.Lists.{fits}
use Rattle.knox_words.specs.Ops.{op1_value}
use Rattle.knox_words.specs.declared.op.Op1.TheVariants.{Neg}
use Rattle.knox_words.specs.declared.op.Op2.{Op2}
use Rattle.knox_words.proofs.Lists.{fits-bits}
use Rattle.knox_words.proofs.Results.{op1_value-fits}
use Rattle.knox_words.proofs.Signed.{halves}
use Rattle.circuit_nodes.proofs.ListLemmas.{slice_get-mapped}
use Rattle.circuit_nodes.specs.declared.node.Arg.{Arg}
use Rattle.circuit_nodes.specs.declared.node.Next.TheVariants as next
use Rattle.circuit_nodes.specs.declared.node.Node.{Node}
use Rattle.circuit_nodes.specs.declared.node.Node.TheVariants as node
use Rattle.circuit_nodes.specs.declared.node.SortOf.{SortOf}
use Rattle.circuit_nodes.specs.declared.node.SortOf.TheVariants.{Words, Arrays}
use Rattle.circuit_nodes.specs.declared.node.Reach.{Reach}
use Rattle.circuit_nodes.specs.declared.node.Kind.{Kind}
use Rattle.circuit_nodes.specs.declared.node.Kind.TheVariants as kind
use Rattle.circuit_nodes.specs.declared.node.Row.{Row}
use Rattle.circuit_nodes.specs.declared.node.Feed.{Feed}
use Rattle.circuit_nodes.specs.declared.node.Feed.TheVariants as feed
use Rattle.circuit_nodes.specs.declared.node.Resolved.{Resolved}
use Rattle.circuit_table.specs.declared.fault.Why.{Why}
use Rattle.circuit_table.specs.declared.fault.Why.TheVariants as why
use Rattle.circuit_table.specs.declared.line.Line.{Line}
use Rattle.circuit_table.specs.declared.line.Shape.{Shape}
use Rattle.circuit_table.specs.declared.line.Shape.TheVariants as shape
use Rattle.circuit_table.specs.declared.table.Operand.{Operand}
use Rattle.circuit_table.specs.declared.table.Target.{Target}
use Rattle.circuit_table.specs.Sorts.{are_one, is_arrays, element_of, is_width_up_to, is_sort}
use Rattle.circuit_table.specs.Constants.{all_digits, writes_up_to, is_unsigned, is_decimal}
use Rattle.circuit_table.specs.Literals.{decimal}
use Rattle.circuit_table.specs.Operators.{un_sort, bin_sort, slice_sort, extended_sort, ite_sort, read_sort, write_sort}
use Rattle.circuit_table.specs.Rows.{bind, operand, operand_at, operand_row, operand_kind, number_of, is_negative, place_of, sort, sort_at, sort_row, sort_kind, words, words_width, target, target_at, target_row, target_kind, target_of, state_size, done, fed_by, typed, array_of, constant, itself, kinds_of, kind_inputs, inputs_in, state, taken, fed_next, fed_init, is_equality, binary, choice, shown, bit, is_operand, is_bit, all_operands, justice, nothing, joined, shape_resolved, last_number, resolved, extended_by, accepted, array_words, row_words, added, rows_after, rows_of, AreRuled}
use Rattle.circuit_table.specs.Typed.{kind_sort, sort_in, IsTyped, IsTypedKind, InitSuits, AreTyped}
use Rattle.circuit_table.proofs.SortsLemmas.{are_one-is, up_to}
use Rattle.circuit_table.proofs.TypedLemmas.{Sorts, IsFeedTyped, IsGood, extended-typed}

-- what holds of each value that a step gives
AllOk : {A : Type 0} → (A → Type 0) → Result A Why → Type 0
AllOk P (Err e) = Unit {0}
AllOk P (Ok a) = P a

bind-all : {A B : Type 0} (P : A → Type 0) (Q : B → Type 0) (x : Result A Why) (f : A → Result B Why) → AllOk P x → ((a : A) → P a → AllOk Q (f a)) → AllOk Q (bind x f)
unfolding AllOk
bind-all P Q (Err e) f p h = tt
bind-all P Q (Ok a) f p h = h a p

if-all : {A : Type 0} (P : A → Type 0) (b : Bool) (x y : Result A Why) → (b ≡ true → AllOk P x) → (b ≡ false → AllOk P y) → AllOk P (if b then x else y)
if-all P true x y h k = h refl
if-all P false x y h k = k refl

err-all : {A : Type 0} (P : A → Type 0) (e : Why) → AllOk P (Err e)
unfolding AllOk
err-all P e = tt

ok-all : {A : Type 0} (P : A → Type 0) (a : A) → P a → AllOk P (Ok a)
unfolding AllOk
ok-all P a p = p

ok-of : {A : Type 0} (P : A → Type 0) (a : A) → AllOk P (Ok a) → P a
unfolding AllOk
ok-of P a p = p

-- sorts and operands

sort-kind : (S : Sorts) (I : List ℕ) (k : Kind) → IsTypedKind S I k → AllOk (λ t. is_sort t ≡ true) (sort_kind k)
sort-kind S I (kind.Sort t) h = ok-all (λ t. is_sort t ≡ true) t h
sort-kind S I (kind.Value t n) h = err-all (λ t. is_sort t ≡ true) why.Sort
sort-kind S I (kind.Output a w) h = err-all (λ t. is_sort t ≡ true) why.Sort
sort-kind S I (kind.Fed a) h = err-all (λ t. is_sort t ≡ true) why.Sort
sort-kind S I (kind.Bad a) h = err-all (λ t. is_sort t ≡ true) why.Sort
sort-kind S I kind.Other h = err-all (λ t. is_sort t ≡ true) why.Sort

sort-row : (rows : List Row) (p : ℕ) (o : Option Row) → AreTyped rows → slice_get rows p ≡ o → AllOk (λ t. is_sort t ≡ true) (sort_row o)
sort-row rows p None are is = err-all (λ t. is_sort t ≡ true) why.Sort
sort-row rows p (Some r) are is = sort-kind (sort_in (take p (kinds_of rows))) (inputs_in rows) r.kind (are p r is).kind

sort-at : (rows : List Row) (o : Option ℕ) → AreTyped rows → AllOk (λ t. is_sort t ≡ true) (sort_at rows o)
sort-at rows None are = err-all (λ t. is_sort t ≡ true) why.Sort
sort-at rows (Some p) are = sort-row rows p (slice_get rows p) are refl

sort-all : (rows : List Row) (s : ℕ) → AreTyped rows → AllOk (λ t. is_sort t ≡ true) (sort rows s)
sort-all rows s are = sort-at rows (place_of rows s) are

width-all : (t : SortOf) → is_sort t ≡ true → AllOk (λ w. is_width_up_to 128 w ≡ true) (words_width t)
width-all (Words w) h = ok-all (λ w. is_width_up_to 128 w ≡ true) w h
width-all (Arrays i e) h = err-all (λ w. is_width_up_to 128 w ≡ true) why.Sort

words-all : (rows : List Row) (s : ℕ) → AreTyped rows → AllOk (λ w. is_width_up_to 128 w ≡ true) (words rows s)
words-all rows s are = bind-all (λ t. is_sort t ≡ true) (λ w. is_width_up_to 128 w ≡ true) (sort rows s) words_width (sort-all rows s are) width-all

abbrev IsOperand : List Row → Operand → Type 0
IsOperand rows o = sort_in (kinds_of rows) o.arg.node ≡ Some o.sort

operand-kind : (rows : List Row) (p : ℕ) (neg : Bool) (reach : Reach) (k : Kind) → slice_get (kinds_of rows) p ≡ Some k → AllOk (IsOperand rows) (operand_kind p neg reach k)
operand-kind rows p neg reach (kind.Value t n) is = if-all (IsOperand rows) (neg && is_arrays t) (Err why.Operand) (Ok (record { sort = t; arg = record { node = p; complement = neg }; reach = reach })) (λ e. err-all (IsOperand rows) why.Operand) (λ e. ok-all (IsOperand rows) (record { sort = t; arg = record { node = p; complement = neg }; reach = reach }) (ap kind_sort is))
operand-kind rows p neg reach (kind.Sort t) is = err-all (IsOperand rows) why.Operand
operand-kind rows p neg reach (kind.Output a w) is = err-all (IsOperand rows) why.Operand
operand-kind rows p neg reach (kind.Fed a) is = err-all (IsOperand rows) why.Operand
operand-kind rows p neg reach (kind.Bad a) is = err-all (IsOperand rows) why.Operand
operand-kind rows p neg reach kind.Other is = err-all (IsOperand rows) why.Operand

operand-row : (rows : List Row) (p : ℕ) (neg : Bool) (o : Option Row) → slice_get rows p ≡ o → AllOk (IsOperand rows) (operand_row p neg o)
operand-row rows p neg None is = err-all (IsOperand rows) why.Operand
operand-row rows p neg (Some r) is = operand-kind rows p neg r.reach r.kind (slice_get-mapped (λ (z : Row). z.kind) rows p r is)

operand-at : (rows : List Row) (neg : Bool) (o : Option ℕ) → AllOk (IsOperand rows) (operand_at rows neg o)
operand-at rows neg None = err-all (IsOperand rows) why.Operand
operand-at rows neg (Some p) = operand-row rows p neg (slice_get rows p) refl

operand-all : (rows : List Row) (a : ℤ) → AllOk (IsOperand rows) (operand rows a)
operand-all rows a = operand-at rows (is_negative a) (place_of rows (number_of a))

-- states of which a line speaks

abbrev IsTarget : List Row → Target → Type 0
IsTarget rows x = sort_in (kinds_of rows) x.place ≡ Some x.sort

target-of : (rows : List Row) (p : ℕ) (t : SortOf) (r : Row) (o : Option ℕ) → sort_in (kinds_of rows) p ≡ Some t → AllOk (IsTarget rows) (target_of p t r o)
target-of rows p t r None is = err-all (IsTarget rows) why.Operand
target-of rows p t r (Some n) is = ok-all (IsTarget rows) _ is

target-kind : (rows : List Row) (p : ℕ) (r : Row) (k : Kind) → slice_get (kinds_of rows) p ≡ Some k → AllOk (IsTarget rows) (target_kind p r k)
target-kind rows p r (kind.Value t n) is = target-of rows p t r (state_size n) (ap kind_sort is)
target-kind rows p r (kind.Sort t) is = err-all (IsTarget rows) why.Operand
target-kind rows p r (kind.Output a w) is = err-all (IsTarget rows) why.Operand
target-kind rows p r (kind.Fed a) is = err-all (IsTarget rows) why.Operand
target-kind rows p r (kind.Bad a) is = err-all (IsTarget rows) why.Operand
target-kind rows p r kind.Other is = err-all (IsTarget rows) why.Operand

target-row : (rows : List Row) (p : ℕ) (o : Option Row) → slice_get rows p ≡ o → AllOk (IsTarget rows) (target_row p o)
target-row rows p None is = err-all (IsTarget rows) why.Operand
target-row rows p (Some r) is = target-kind rows p r r.kind (slice_get-mapped (λ (z : Row). z.kind) rows p r is)

target-at : (rows : List Row) (o : Option ℕ) → AllOk (IsTarget rows) (target_at rows o)
target-at rows None = err-all (IsTarget rows) why.Operand
target-at rows (Some p) = target-row rows p (slice_get rows p) refl

target-all : (rows : List Row) (a : ℤ) → AllOk (IsTarget rows) (target rows a)
target-all rows a = if-all (IsTarget rows) (is_negative a) (Err why.Operand) (target_at rows (place_of rows (number_of a))) (λ e. err-all (IsTarget rows) why.Operand) (λ e. target-at rows (place_of rows (number_of a)))

-- constants

word_or-fits : (w n : ℕ) → is_width_up_to 128 w ≡ true → n < 2 ^ w → fits w (word_or w n) ≡ true
word_or-fits w n h lt =
    let range = up_to 128 w h in
    let both : fits w (bits w n) ≡ true = fits-bits w n range.0 range.1 lt in
    let is : is_word (bits w n) ≡ true = (and_parts (w == w) (is_word (bits w n)) both).1 in
    rw is both

writes-at_most : (base most : ℕ) (ds : List ℕ) → writes_up_to base most ds ≡ true → digits_value base ds ≤ most
writes-at_most base most [] h = cc
writes-at_most base most (d ∷ ds) h = leb-true (digits_value base (d ∷ ds)) most (and_parts (all_digits base (d ∷ ds)) (nat_le (digits_value base (d ∷ ds)) most) h).1

below-power : (w n : ℕ) → n ≤ 2 ^ w - 1 → n < 2 ^ w
below-power w n le = let some = pow_pos w in omega (arith, some, le)

unsigned-fits : (base w : ℕ) (ds : List ℕ) → is_width_up_to 128 w ≡ true → is_unsigned base w ds ≡ true → fits w (word_or w (digits_value base ds)) ≡ true
unsigned-fits base w ds h d = word_or-fits w (digits_value base ds) h (below-power w (digits_value base ds) (writes-at_most base (2 ^ w - 1) ds d))

decimal-fits : (w : ℕ) (ds : List ℕ) → is_width_up_to 128 w ≡ true → is_decimal w ds ≡ true → fits w (decimal w ds) ≡ true
decimal-fits w [] h d = cc
decimal-fits w (d ∷ ds) h f = of (d == 45) f where
  of : (b : Bool) → (if b then writes_up_to 10 (2 ^ (w - 1)) ds else is_unsigned 10 w (d ∷ ds)) ≡ true → fits w (if b then op1_value Neg (word_or w (digits_value 10 ds)) else word_or w (digits_value 10 (d ∷ ds))) ≡ true
  of true e =
      let le : digits_value 10 ds ≤ 2 ^ (w - 1) = writes-at_most 10 (2 ^ (w - 1)) ds e in
      let two = halves w (up_to 128 w h).0 in
      let some = pow_pos (w - 1) in
      let lt : digits_value 10 ds < 2 ^ w = omega (arith, le, two, some) in
      op1_value-fits Neg w (word_or w (digits_value 10 ds)) (word_or-fits w (digits_value 10 ds) h lt)
  of false e = unsigned-fits 10 w (d ∷ ds) h e

one-below : (w : ℕ) → is_width_up_to 128 w ≡ true → 1 < 2 ^ w
one-below w h =
    let two = halves w (up_to 128 w h).0 in
    let some = pow_pos (w - 1) in
    omega (arith, two, some)

-- lines

done-all : (rows : List Row) (n : ℕ) (k : Kind) (reach : Reach) → IsTypedKind (sort_in (kinds_of rows)) (inputs_in rows ++ kind_inputs k) k → AllOk (IsGood rows) (done n k reach)
done-all rows n k reach h = ok-all (IsGood rows) _ (record { kind = h; next = refl; init = refl; feed = tt })

fed-all : (rows : List Row) (n : ℕ) (k : Kind) (f : Feed) → IsTypedKind (sort_in (kinds_of rows)) (inputs_in rows ++ kind_inputs k) k → IsFeedTyped (sort_in (kinds_of rows)) (Some f) → AllOk (IsGood rows) (fed_by n k f)
fed-all rows n k f h g = ok-all (IsGood rows) _ (record { kind = h; next = refl; init = refl; feed = g })

refused : (rows : List Row) (e : Why) → AllOk (IsGood rows) (Err e)
refused rows e = err-all (IsGood rows) e

typed-all : (rows : List Row) (n : ℕ) (t : SortOf) (given : Option SortOf) (nd : Node) (reach : Reach) → is_sort t ≡ true → (given ≡ Some t → IsTyped (sort_in (kinds_of rows)) (inputs_in rows ++ kind_inputs (kind.Value t nd)) t nd) → AllOk (IsGood rows) (typed n t given nd reach)
typed-all rows n t given nd reach l h = if-all (IsGood rows) (are_one (Some t) given) (done n (kind.Value t nd) reach) (Err why.Width) (λ e. done-all rows n (kind.Value t nd) reach (l, h (are_one-is t given e))) (λ e. refused rows why.Width)

constant-all : (rows : List Row) (n w : ℕ) (fit : Bool) (word : Bits) → is_width_up_to 128 w ≡ true → (fit ≡ true → fits w word ≡ true) → AllOk (IsGood rows) (constant n w fit word)
constant-all rows n w fit word l h = if-all (IsGood rows) fit (done n (kind.Value (Words w) (node.Const word)) nothing) (Err why.Digits) (λ e. done-all rows n (kind.Value (Words w) (node.Const word)) nothing (l, (w, refl, h e))) (λ e. refused rows why.Digits)

-- after an operand, a state, a sort, and a sort of words
with-all : (rows : List Row) (a : ℤ) (f : Operand → Result Resolved Why) → ((o : Operand) → IsOperand rows o → AllOk (IsGood rows) (f o)) → AllOk (IsGood rows) (bind (operand rows a) f)
with-all rows a f h = bind-all (IsOperand rows) (IsGood rows) (operand rows a) f (operand-all rows a) h

of-all : (rows : List Row) (a : ℤ) (f : Target → Result Resolved Why) → ((x : Target) → IsTarget rows x → AllOk (IsGood rows) (f x)) → AllOk (IsGood rows) (bind (target rows a) f)
of-all rows a f h = bind-all (IsTarget rows) (IsGood rows) (target rows a) f (target-all rows a) h

by-all : (rows : List Row) (s : ℕ) (f : SortOf → Result Resolved Why) → AreTyped rows → ((t : SortOf) → is_sort t ≡ true → AllOk (IsGood rows) (f t)) → AllOk (IsGood rows) (bind (sort rows s) f)
by-all rows s f are h = bind-all (λ t. is_sort t ≡ true) (IsGood rows) (sort rows s) f (sort-all rows s are) h

wide-all : (rows : List Row) (s : ℕ) (f : ℕ → Result Resolved Why) → AreTyped rows → ((w : ℕ) → is_width_up_to 128 w ≡ true → AllOk (IsGood rows) (f w)) → AllOk (IsGood rows) (bind (words rows s) f)
wide-all rows s f are h = bind-all (λ w. is_width_up_to 128 w ≡ true) (IsGood rows) (words rows s) f (words-all rows s are) h

state-all : (rows : List Row) (n : ℕ) (t : SortOf) → is_sort t ≡ true → AllOk (IsGood rows) (state rows n t)
state-all rows n (Words w) l = done-all rows n (kind.Value (Words w) (node.State 0 w)) (itself rows false) (l, refl)
state-all rows n (Arrays i e) l = done-all rows n (kind.Value (Arrays i e) (node.Array 0 (2 ^ i) e)) (itself rows false) (l, (i, refl, refl))

-- the width of an input stands behind those of the inputs before it
at-end : (I : List ℕ) (w : ℕ) → slice_get (I ++ w ∷ []) (length I) ≡ Some w
at-end [] w = refl
at-end (v ∷ I) w = at-end I w

not-false : (b : Bool) → not b ≡ false → b ≡ true
not-false true e = refl
not-false false e = cc

-- a line that speaks of a state
fed-if : (rows : List Row) (n : ℕ) (b c : Bool) (e d : Why) (k : Kind) (f : Feed) → IsTypedKind (sort_in (kinds_of rows)) (inputs_in rows ++ kind_inputs k) k → (b ≡ false → IsFeedTyped (sort_in (kinds_of rows)) (Some f)) → AllOk (IsGood rows) (if b then Err e else if c then Err d else fed_by n k f)
fed-if rows n b c e d k f h g = if-all (IsGood rows) b (Err e) (if c then Err d else fed_by n k f) (λ q. refused rows e)
    (λ q. if-all (IsGood rows) c (Err d) (fed_by n k f) (λ q. refused rows d) (λ r. fed-all rows n k f h (g q)))

next-all : (rows : List Row) (n : ℕ) (t : SortOf) (x : Target) (v : Operand) → IsTarget rows x → IsOperand rows v → AllOk (IsGood rows) (fed_next n t x v)
next-all rows n t x v p q =
    let A = are_one (Some t) (Some x.sort) in
    let B = are_one (Some t) (Some v.sort) in
    fed-if rows n (not (A && B)) x.next why.Sort why.Next (kind.Fed v.arg) (feed.Next x.place v.arg) tt
    (λ e. let both = and_parts A B (not-false (A && B) e) in (t, p ∙ are_one-is t (Some x.sort) both.0, q ∙ are_one-is t (Some v.sort) both.1))

or-none : (b : Bool) → b || false ≡ true → b ≡ true
or-none true e = refl
or-none false e = cc

init-suits : (S : Sorts) (t s : SortOf) (a : Arg) (n : ℕ) → S a.node ≡ Some s → (are_one (Some t) (Some s) || are_one (element_of t) (Some s)) ≡ true → InitSuits S (Some t) (Some (if is_arrays s then next.Array a.node n else next.Word a))
init-suits S (Words v) (Words w) a n e h = e ∙ are_one-is (Words v) (Some (Words w)) (or-none (are_one (Some (Words v)) (Some (Words w))) h)
init-suits S (Arrays i f) (Words w) a n e h = e ∙ are_one-is (Words f) (Some (Words w)) h
init-suits S (Words v) (Arrays j g) a n e h = cc
init-suits S (Arrays i f) (Arrays j g) a n e h = e ∙ are_one-is (Arrays i f) (Some (Arrays j g)) (or-none (are_one (Some (Arrays i f)) (Some (Arrays j g))) h)

init-all : (rows : List Row) (n : ℕ) (t : SortOf) (x : Target) (v : Operand) → IsTarget rows x → IsOperand rows v → AllOk (IsGood rows) (fed_init n t x v)
init-all rows n t x v p q =
    let A = are_one (Some t) (Some x.sort) in
    let B = are_one (Some t) (Some v.sort) || are_one (element_of t) (Some v.sort) in
    fed-if rows n (not (A && B)) (x.init || v.reach.input || nat_lt x.place v.reach.bound) why.Sort why.Init kind.Other (feed.Init x.place (taken v x.words)) tt
    (λ e. let both = and_parts A B (not-false (A && B) e) in (t, p ∙ are_one-is t (Some x.sort) both.0, init-suits (sort_in (kinds_of rows)) t v.sort v.arg x.words q both.1))

-- a row that is no node, behind a test
done-if : (rows : List Row) (n : ℕ) (b : Bool) (k : Kind) (e : Why) → (b ≡ true → IsTypedKind (sort_in (kinds_of rows)) (inputs_in rows ++ kind_inputs k) k) → AllOk (IsGood rows) (if b then done n k nothing else Err e)
done-if rows n b k e h = if-all (IsGood rows) b (done n k nothing) (Err e) (λ q. done-all rows n k nothing (h q)) (λ q. refused rows e)

array-all : (rows : List Row) (n : ℕ) (a b : SortOf) → is_sort b ≡ true → AllOk (IsGood rows) (bind (array_of a b) (λ t. done n (kind.Sort t) nothing))
array-all rows n (Words i) (Words e) l = bind-all (λ t. is_sort t ≡ true) (IsGood rows) (array_of (Words i) (Words e)) (λ t. done n (kind.Sort t) nothing)
    (if-all (λ t. is_sort t ≡ true) (is_width_up_to 12 i) (Ok (Arrays i e)) (Err why.Sort) (λ q. ok-all (λ t. is_sort t ≡ true) (Arrays i e) (rw (q, l) refl)) (λ q. err-all (λ t. is_sort t ≡ true) why.Sort))
    (λ t h. done-all rows n (kind.Sort t) nothing h)
array-all rows n (Words i) (Arrays j e) l = refused rows why.Sort
array-all rows n (Arrays j e) b l = refused rows why.Sort

binary-all : (rows : List Row) (n : ℕ) (o : Op2) (t : SortOf) (a b : Operand) → is_sort t ≡ true → IsOperand rows a → IsOperand rows b → AllOk (IsGood rows) (binary n o t a b)
binary-all rows n o t a b l p q =
    let made = typed n t (bin_sort o (Some a.sort) (Some b.sort)) (node.Bin o a.arg b.arg) (joined a.reach b.reach) in
    if-all (IsGood rows) (is_equality o && is_arrays a.sort && is_arrays b.sort) (Err why.Unsupported) made (λ e. refused rows why.Unsupported)
    (λ e. typed-all rows n t (bin_sort o (Some a.sort) (Some b.sort)) (node.Bin o a.arg b.arg) (joined a.reach b.reach) l (λ g. (a.sort, p, (b.sort, q, g))))

shown-all : (rows : List Row) (n : ℕ) (a : Arg) (t : SortOf) → sort_in (kinds_of rows) a.node ≡ Some t → AllOk (IsGood rows) (shown n a t)
shown-all rows n a (Words w) p = done-all rows n (kind.Output a w) nothing p
shown-all rows n a (Arrays i e) p = refused rows why.Sort

bit-all : (rows : List Row) (n : ℕ) (k : Kind) (a : Operand) → ((a.sort ≡ Words 1) → IsTypedKind (sort_in (kinds_of rows)) (inputs_in rows ++ kind_inputs k) k) → AllOk (IsGood rows) (bit n k a)
bit-all rows n k a h = done-if rows n (are_one (Some a.sort) (Some (Words 1))) k why.Width (λ e. h (some-is (are_one-is a.sort (Some (Words 1)) e))) where
  some-is : Some (Words 1) ≡ Some a.sort → a.sort ≡ Words 1
  some-is e = cc

justice-all : (rows : List Row) (n m : ℕ) (as' : List ℤ) → AllOk (IsGood rows) (justice rows n m as')
justice-all rows n m as' =
    let first = m == 0 || not (m == length as') || not (all_operands is_operand rows as') in
    let second = not (all_operands is_bit rows as') in
    if-all (IsGood rows) first (Err why.Operand) (if second then Err why.Width else done n kind.Other nothing) (λ q. refused rows why.Operand)
    (λ q. if-all (IsGood rows) second (Err why.Width) (done n kind.Other nothing) (λ r. refused rows why.Width) (λ r. done-all rows n kind.Other nothing tt))

choice-typed : (S : Sorts) (I : List ℕ) (t c a b : SortOf) (ca aa ba : Arg) (k : Bool) → S ca.node ≡ Some c → S aa.node ≡ Some a → S ba.node ≡ Some b → ite_sort (Some c) (Some a) (Some b) ≡ Some t → IsTyped S I t (if k then node.Pick ca aa.node ba.node else node.Ite ca aa ba)
choice-typed S I t c a b ca aa ba true p q r g = (c, p, (a, q, (b, r, g)))
choice-typed S I t c a b ca aa ba false p q r g = (c, p, (a, q, (b, r, g)))

shape-all : (rows : List Row) (n : ℕ) (s : Shape) → AreTyped rows → AllOk (IsGood rows) (shape_resolved rows n s)
shape-all rows n (shape.Bitvec w) are = done-if rows n (is_width_up_to 128 w) (kind.Sort (Words w)) why.Sort (λ q. q)
shape-all rows n (shape.Array i e) are = by-all rows i _ are (λ a k. by-all rows e _ are (λ b l. array-all rows n a b l))
shape-all rows n (shape.Const s ds) are = wide-all rows s _ are (λ w l. constant-all rows n w (is_unsigned 2 w ds) _ l (unsigned-fits 2 w ds l))
shape-all rows n (shape.Constd s ds) are = wide-all rows s _ are (λ w l. constant-all rows n w (is_decimal w ds) _ l (decimal-fits w ds l))
shape-all rows n (shape.Consth s ds) are = wide-all rows s _ are (λ w l. constant-all rows n w (is_unsigned 16 w ds) _ l (unsigned-fits 16 w ds l))
shape-all rows n (shape.Zero s) are = wide-all rows s _ are (λ w l. constant-all rows n w true (word_or w 0) l (λ q. word_or-fits w 0 l (pow_pos w)))
shape-all rows n (shape.One s) are = wide-all rows s _ are (λ w l. constant-all rows n w true (word_or w 1) l (λ q. word_or-fits w 1 l (one-below w l)))
shape-all rows n (shape.Ones s) are = wide-all rows s _ are (λ w l. constant-all rows n w true (word_or w (2 ^ w - 1)) l (λ q. word_or-fits w (2 ^ w - 1) l (below-power w (2 ^ w - 1) (omega arith))))
shape-all rows n (shape.Input s) are = wide-all rows s _ are (λ w l. done-all rows n (kind.Value (Words w) (node.Input (length (inputs_in rows)) w)) (itself rows true) (l, (refl, at-end (inputs_in rows) w)))
shape-all rows n (shape.State s) are = by-all rows s _ are (λ t l. state-all rows n t l)
shape-all rows n (shape.Init s x v) are = of-all rows x _ (λ x p. with-all rows v _ (λ v q. by-all rows s _ are (λ t l. init-all rows n t x v p q)))
shape-all rows n (shape.Next s x v) are = of-all rows x _ (λ x p. with-all rows v _ (λ v q. by-all rows s _ are (λ t l. next-all rows n t x v p q)))
shape-all rows n (shape.Un o s a) are = with-all rows a _ (λ a p. by-all rows s _ are (λ t l. typed-all rows n t (un_sort o (Some a.sort)) (node.Un o a.arg) a.reach l (λ g. (a.sort, p, g))))
shape-all rows n (shape.Bin o s a b) are = with-all rows a _ (λ a p. with-all rows b _ (λ b q. by-all rows s _ are (λ t l. binary-all rows n o t a b l p q)))
shape-all rows n (shape.Slice s a h m) are = with-all rows a _ (λ a p. by-all rows s _ are (λ t l. typed-all rows n t (slice_sort (Some a.sort) h m) (node.Slice a.arg h m) a.reach l (λ g. (a.sort, p, g))))
shape-all rows n (shape.Uext s a m) are = with-all rows a _ (λ a p. by-all rows s _ are (λ t l. typed-all rows n t (extended_sort (Some a.sort) m) (node.Uext a.arg m) a.reach l (λ g. (a.sort, p, g))))
shape-all rows n (shape.Sext s a m) are = with-all rows a _ (λ a p. by-all rows s _ are (λ t l. typed-all rows n t (extended_sort (Some a.sort) m) (node.Sext a.arg m) a.reach l (λ g. (a.sort, p, g))))
shape-all rows n (shape.Ite s c a b) are = with-all rows c _ (λ c p. with-all rows a _ (λ a q. with-all rows b _ (λ b r. by-all rows s _ are (λ t l.
    typed-all rows n t (ite_sort (Some c.sort) (Some a.sort) (Some b.sort)) (choice t c.arg a.arg b.arg) (joined (joined c.reach a.reach) b.reach) l (λ g. choice-typed (sort_in (kinds_of rows)) _ t c.sort a.sort b.sort c.arg a.arg b.arg (is_arrays t) p q r g)))))
shape-all rows n (shape.Read s a i) are = with-all rows a _ (λ a p. with-all rows i _ (λ i q. by-all rows s _ are (λ t l.
    typed-all rows n t (read_sort (Some a.sort) (Some i.sort)) (node.Read a.arg.node i.arg) (joined a.reach i.reach) l (λ g. (a.sort, p, (i.sort, q, g))))))
shape-all rows n (shape.Write s a i w) are = with-all rows a _ (λ a p. with-all rows i _ (λ i q. with-all rows w _ (λ w r. by-all rows s _ are (λ t l.
    typed-all rows n t (write_sort (Some a.sort) (Some i.sort) (Some w.sort)) (node.Write a.arg.node i.arg w.arg) (joined (joined a.reach i.reach) w.reach) l (λ g. (a.sort, p, (i.sort, q, (w.sort, r, g))))))))
shape-all rows n (shape.Output a) are = with-all rows a _ (λ a p. shown-all rows n a.arg a.sort p)
shape-all rows n (shape.Bad a) are = with-all rows a _ (λ a p. bit-all rows n (kind.Bad a.arg) a (λ e. p ∙ ap Some e))
shape-all rows n (shape.Fair a) are = with-all rows a _ (λ a p. bit-all rows n kind.Other a (λ e. tt))
shape-all rows n (shape.Justice m as') are = justice-all rows n m as'

-- the rows with what a line gives are typed
pub shape-typed : (rows : List Row) (n : ℕ) (s : Shape) (d : Resolved) → AreTyped rows → Ok d ≡ shape_resolved rows n s → AreTyped (extended_by rows d)
shape-typed rows n s d are e = extended-typed rows d are (ok-of (IsGood rows) d (subst (AllOk (IsGood rows)) (sym e) (shape-all rows n s are)))

-- rows of lines that break no rule are typed

accepted-typed : (rows made : List Row) (d : Resolved) → AreTyped (extended_by rows d) → accepted rows d ≡ Ok made → AreTyped made
accepted-typed rows made d are = of (nat_lt 65536 (array_words rows + row_words d.row)) where
  of : (b : Bool) → (if b then Err why.TooManyWords else Ok (extended_by rows d)) ≡ Ok made → AreTyped made
  of true e = cc
  of false e = let same : extended_by rows d ≡ made = cc in subst AreTyped same are

-- a line past its first tests
tested : (b : Bool) (why : Why) (x : Result Resolved Why) (d : Resolved) → (if b then Err why else x) ≡ Ok d → x ≡ Ok d
tested true why x d e = cc
tested false why x d e = e

resolved-typed : (rows : List Row) (l : Line) (d : Resolved) → AreTyped rows → resolved rows l ≡ Ok d → AreTyped (extended_by rows d)
resolved-typed rows l d are e =
    let given = shape_resolved rows l.number l.shape in
    let third = if nat_le l.number (last_number rows) then Err why.Order else given in
    let second = if l.number == 0 then Err why.Number else third in
    let one : second ≡ Ok d = tested (nat_lt 1000000 l.at || nat_le 1000000 (length rows)) why.TooManyLines second d e in
    let two : third ≡ Ok d = tested (l.number == 0) why.Number third d one in
    shape-typed rows l.number l.shape d are (sym (tested (nat_le l.number (last_number rows)) why.Order given d two))

added-typed : (rows made : List Row) (l : Line) → AreTyped rows → added rows l ≡ Ok made → AreTyped made
added-typed rows made l are = of (resolved rows l) refl where
  of : (x : Result Resolved Why) → resolved rows l ≡ x → bind x (λ d. accepted rows d) ≡ Ok made → AreTyped made
  of (Err w) is e = cc
  of (Ok d) is e = accepted-typed rows made d (resolved-typed rows l d are is) e

pub rows_after-typed : (rows : List Row) (lines : List Line) (made : List Row) → AreTyped rows → rows_after rows lines ≡ Ok made → AreTyped made
rows_after-typed rows [] made are e = let same : rows ≡ made = cc in subst AreTyped same are
rows_after-typed rows (l ∷ ls) made are f = of (added rows l) refl (λ more typed. rows_after-typed more ls made typed) f where
  of : (x : Result (List Row) Why) → added rows l ≡ x → ((more : List Row) → AreTyped more → rows_after more ls ≡ Ok made → AreTyped made) → bind x (λ more. rows_after more ls) ≡ Ok made → AreTyped made
  of (Err w) is rest e = cc
  of (Ok more) is rest e = rest more (added-typed rows more l are is) e

none-typed : AreTyped []
none-typed k r is = cc

-- the rows of lines that break no rule
pub ruled-typed : (lines : List Line) → AreRuled lines → AreTyped (rows_of lines)
ruled-typed lines e = rows_after-typed [] lines (rows_of lines) none-typed e
