-- Lines, resolved: what each line gives over the rows of the lines before it, or the first rule that
-- it breaks. Rows stand in the order of the text; operands name rows by place.
-- Standard: BTOR2 (Niemetz, Preiner, Wolf and Biere, CAV 2018). The limits and the order of the
-- rules are the project's own.
use Rattle.std.specs.Prelude.{◌≡◌, ℕ, ◌+◌, ◌-◌, ◌^◌, ◌==◌, ◌&&◌, ◌||◌, nat_lt, nat_le, max, ℤ, pos, negsuc, List, [], ◌∷◌, ◌++◌, map, set, length, slice_get, Bool, true, false, not, Option, Some, None, is_some, Result, Ok, Err, if◌then◌else◌}
use Rattle.std.specs.Str.Parse.{digits_value}
use Rattle.knox_words.specs.Bits.{Bits, word_or}
use Rattle.knox_words.specs.declared.op.Op2.{Op2}
use Rattle.knox_words.specs.declared.op.Op2.TheVariants.{Eq, Neq}
use Rattle.circuit_nodes.specs.declared.node.Arg.{Arg}
use Rattle.circuit_nodes.specs.declared.node.Node.{Node}
use Rattle.circuit_nodes.specs.declared.node.Node.TheVariants as node
use Rattle.circuit_nodes.specs.declared.node.Next.{Next}
use Rattle.circuit_nodes.specs.declared.node.Next.TheVariants as next
use Rattle.circuit_table.specs.declared.fault.Why.{Why}
use Rattle.circuit_table.specs.declared.fault.Why.TheVariants as why
use Rattle.circuit_table.specs.declared.line.Shape.{Shape}
use Rattle.circuit_table.specs.declared.line.Shape.TheVariants as shape
use Rattle.circuit_table.specs.declared.line.Line.{Line}
use Rattle.circuit_nodes.specs.declared.node.SortOf.{SortOf}
use Rattle.circuit_nodes.specs.declared.node.SortOf.TheVariants.{Words, Arrays}
use Rattle.circuit_nodes.specs.declared.node.Reach.{Reach}
use Rattle.circuit_nodes.specs.declared.node.Kind.{Kind}
use Rattle.circuit_nodes.specs.declared.node.Kind.TheVariants as kind
use Rattle.circuit_nodes.specs.declared.node.Row.{Row}
use Rattle.circuit_nodes.specs.declared.node.Feed.{Feed}
use Rattle.circuit_nodes.specs.declared.node.Feed.TheVariants as feed
use Rattle.circuit_nodes.specs.declared.node.Resolved.{Resolved}
use Rattle.circuit_table.specs.declared.table.Operand.{Operand}
use Rattle.circuit_table.specs.declared.table.Target.{Target}
use Rattle.circuit_table.specs.Sorts.{are_one, is_arrays, element_of, is_width_up_to}
use Rattle.circuit_table.specs.Literals.{decimal}
use Rattle.circuit_table.specs.Constants.{is_unsigned, is_decimal}
use Rattle.circuit_table.specs.Operators.{un_sort, bin_sort, slice_sort, extended_sort, ite_sort, read_sort, write_sort}

-- what a step gives to the next, and the first fault else
abbrev pub bind : {A B : Type 0} → Result A Why → (A → Result B Why) → Result B Why
bind (Err e) f = Err e
bind (Ok a) f = f a

-- look-ups

-- the place of the last of some numbers that is n
abbrev pub later : Option ℕ → Bool → Option ℕ
later (Some k) b = Some (k + 1)
later None true = Some 0
later None false = None

abbrev pub last_place : List ℕ → ℕ → Option ℕ
last_place [] n = None
last_place (m ∷ ms) n = later (last_place ms n) (m == n)

abbrev pub place_of : List Row → ℕ → Option ℕ
place_of rows n = last_place (map (λ (r : Row). r.number) rows) n

-- the number of an operand's node
abbrev pub number_of : ℤ → ℕ
number_of (pos n) = n
number_of (negsuc n) = n + 1

-- whether an operand is a complement
abbrev pub is_negative : ℤ → Bool
is_negative (pos n) = false
is_negative (negsuc n) = true

-- an operand: any node but the complement of an array
abbrev pub operand_kind : ℕ → Bool → Reach → Kind → Result Operand Why
operand_kind p neg reach (kind.Value t n) =
    if neg && is_arrays t then Err why.Operand else Ok (record { sort = t; arg = record { node = p; complement = neg }; reach = reach })
operand_kind p neg reach _ = Err why.Operand

abbrev pub operand_row : ℕ → Bool → Option Row → Result Operand Why
operand_row p neg None = Err why.Operand
operand_row p neg (Some r) = operand_kind p neg r.reach r.kind

abbrev pub operand_at : List Row → Bool → Option ℕ → Result Operand Why
operand_at rows neg None = Err why.Operand
operand_at rows neg (Some p) = operand_row p neg (slice_get rows p)

abbrev pub operand : List Row → ℤ → Result Operand Why
operand rows a = operand_at rows (is_negative a) (place_of rows (number_of a))

-- a sort by the number of its line
abbrev pub sort_kind : Kind → Result SortOf Why
sort_kind (kind.Sort t) = Ok t
sort_kind _ = Err why.Sort

abbrev pub sort_row : Option Row → Result SortOf Why
sort_row None = Err why.Sort
sort_row (Some r) = sort_kind r.kind

abbrev pub sort_at : List Row → Option ℕ → Result SortOf Why
sort_at rows None = Err why.Sort
sort_at rows (Some p) = sort_row (slice_get rows p)

abbrev pub sort : List Row → ℕ → Result SortOf Why
sort rows s = sort_at rows (place_of rows s)

-- the width of a sort of words
abbrev pub words_width : SortOf → Result ℕ Why
words_width (Words w) = Ok w
words_width (Arrays i e) = Err why.Sort

abbrev pub words : List Row → ℕ → Result ℕ Why
words rows s = bind (sort rows s) words_width

-- how many words a node has as a state; none where it is no state
abbrev pub state_size : Node → Option ℕ
state_size (node.State p w) = Some 1
state_size (node.Array p n w) = Some n
state_size _ = None

-- a state that an `init` or `next` line names: no complement
abbrev pub target_of : ℕ → SortOf → Row → Option ℕ → Result Target Why
target_of p t r None = Err why.Operand
target_of p t r (Some n) = Ok (record { place = p; sort = t; words = n; next = is_some r.next; init = is_some r.init })

abbrev pub target_kind : ℕ → Row → Kind → Result Target Why
target_kind p r (kind.Value t n) = target_of p t r (state_size n)
target_kind p r _ = Err why.Operand

abbrev pub target_row : ℕ → Option Row → Result Target Why
target_row p None = Err why.Operand
target_row p (Some r) = target_kind p r r.kind

abbrev pub target_at : List Row → Option ℕ → Result Target Why
target_at rows None = Err why.Operand
target_at rows (Some p) = target_row p (slice_get rows p)

abbrev pub target : List Row → ℤ → Result Target Why
target rows a = if is_negative a then Err why.Operand else target_at rows (place_of rows (number_of a))

-- what nodes hang on

abbrev pub nothing : Reach
nothing = record { input = false; bound = 0 }

abbrev pub joined : Reach → Reach → Reach
joined a b = record { input = a.input || b.input; bound = max a.bound b.bound }

-- what lines give

abbrev pub done : ℕ → Kind → Reach → Result Resolved Why
done n k reach = Ok (record { row = record { number = n; kind = k; reach = reach; next = None; init = None }; feed = None })

abbrev pub fed_by : ℕ → Kind → Feed → Result Resolved Why
fed_by n k f = Ok (record { row = record { number = n; kind = k; reach = nothing; next = None; init = None }; feed = Some f })

-- a node whose sort has to be the one that its operands give
abbrev pub typed : ℕ → SortOf → Option SortOf → Node → Reach → Result Resolved Why
typed n t given nd reach = if are_one (Some t) given then done n (kind.Value t nd) reach else Err why.Width

abbrev pub array_of : SortOf → SortOf → Result SortOf Why
array_of (Words i) (Words e) = if is_width_up_to 12 i then Ok (Arrays i e) else Err why.Sort
array_of _ _ = Err why.Sort

-- a constant, where its digits obey their rule
abbrev pub constant : ℕ → ℕ → Bool → Bits → Result Resolved Why
constant n w fits word = if fits then done n (kind.Value (Words w) (node.Const word)) nothing else Err why.Digits

-- a row of an input or a state hangs on itself
abbrev pub itself : List Row → Bool → Reach
itself rows input = record { input = input; bound = length rows + 1 }

abbrev pub kinds_of : List Row → List Kind
kinds_of rows = map (λ (r : Row). r.kind) rows

-- the width of an input, and none of another line
abbrev pub kind_inputs : Kind → List ℕ
kind_inputs (kind.Value t (node.Input p w)) = w ∷ []
kind_inputs _ = []

abbrev pub inputs_among : List Kind → List ℕ
inputs_among [] = []
inputs_among (k ∷ ks) = kind_inputs k ++ inputs_among ks

-- the widths of the inputs in the order of the text
abbrev pub inputs_in : List Row → List ℕ
inputs_in rows = inputs_among (kinds_of rows)

-- how many words of arrays a row has
abbrev pub kind_words : Kind → ℕ
kind_words (kind.Value t (node.Array p n w)) = n
kind_words _ = 0

abbrev pub row_words : Row → ℕ
row_words r = kind_words r.kind

abbrev pub total : List ℕ → ℕ
total [] = 0
total (n ∷ ns) = n + total ns

abbrev pub array_words : List Row → ℕ
array_words rows = total (map row_words rows)

-- a state, whose words stand nowhere yet
abbrev pub state : List Row → ℕ → SortOf → Result Resolved Why
state rows n (Words w) = done n (kind.Value (Words w) (node.State 0 w)) (itself rows false)
state rows n (Arrays i e) = done n (kind.Value (Arrays i e) (node.Array 0 (2 ^ i) e)) (itself rows false)

-- what a state of so many words gets from an operand
abbrev pub taken : Operand → ℕ → Next
taken o n = if is_arrays o.sort then next.Array o.arg.node n else next.Word o.arg

-- a `next` of the sort of its state, which has none yet
abbrev pub fed_next : ℕ → SortOf → Target → Operand → Result Resolved Why
fed_next n t x v =
    if not (are_one (Some t) (Some x.sort) && are_one (Some t) (Some v.sort)) then Err why.Sort else
    if x.next then Err why.Next else fed_by n (kind.Fed v.arg) (feed.Next x.place v.arg)

-- an `init` of the sort of its state, which has none yet, or for an array one word that each of its
-- words gets; it hangs on no input, nor on the state itself or a later one
abbrev pub fed_init : ℕ → SortOf → Target → Operand → Result Resolved Why
fed_init n t x v =
    if not (are_one (Some t) (Some x.sort) && (are_one (Some t) (Some v.sort) || are_one (element_of t) (Some v.sort))) then Err why.Sort else
    if x.init || v.reach.input || nat_lt x.place v.reach.bound then Err why.Init else fed_by n kind.Other (feed.Init x.place (taken v x.words))

abbrev pub is_equality : Op2 → Bool
is_equality Eq = true
is_equality Neq = true
is_equality _ = false

-- an equality of two arrays isn't supported
abbrev pub binary : ℕ → Op2 → SortOf → Operand → Operand → Result Resolved Why
binary n o t a b =
    if is_equality o && is_arrays a.sort && is_arrays b.sort then Err why.Unsupported else
    typed n t (bin_sort o (Some a.sort) (Some b.sort)) (node.Bin o a.arg b.arg) (joined a.reach b.reach)

-- a choice between two words, or two arrays
abbrev pub choice : SortOf → Arg → Arg → Arg → Node
choice t c a b = if is_arrays t then node.Pick c a.node b.node else node.Ite c a b

-- an output, which is a word
abbrev pub shown : ℕ → Arg → SortOf → Result Resolved Why
shown n a (Words w) = done n (kind.Output a w) nothing
shown n a (Arrays i e) = Err why.Sort

-- a node that is a word of width 1
abbrev pub bit : ℕ → Kind → Operand → Result Resolved Why
bit n k a = if are_one (Some a.sort) (Some (Words 1)) then done n k nothing else Err why.Width

-- whether operands are nodes, and whether those that are have width 1
abbrev pub is_operand : Result Operand Why → Bool
is_operand (Ok a) = true
is_operand (Err e) = false

abbrev pub is_bit : Result Operand Why → Bool
is_bit (Ok a) = are_one (Some a.sort) (Some (Words 1))
is_bit (Err e) = false

abbrev pub all_operands : (Result Operand Why → Bool) → List Row → List ℤ → Bool
all_operands test rows [] = true
all_operands test rows (a ∷ as') = test (operand rows a) && all_operands test rows as'

-- nodes of width 1, one or more and as many as the line says
abbrev pub justice : List Row → ℕ → ℕ → List ℤ → Result Resolved Why
justice rows n count as' =
    if count == 0 || not (count == length as') || not (all_operands is_operand rows as') then Err why.Operand else
    if not (all_operands is_bit rows as') then Err why.Width else done n kind.Other nothing

-- what a line gives by what it says
abbrev pub shape_resolved : List Row → ℕ → Shape → Result Resolved Why
shape_resolved rows n (shape.Bitvec w) = if is_width_up_to 128 w then done n (kind.Sort (Words w)) nothing else Err why.Sort
shape_resolved rows n (shape.Array i e) =
    bind (sort rows i) (λ i. bind (sort rows e) (λ e. bind (array_of i e) (λ t. done n (kind.Sort t) nothing)))
shape_resolved rows n (shape.Const s ds) = bind (words rows s) (λ w. constant n w (is_unsigned 2 w ds) (word_or w (digits_value 2 ds)))
shape_resolved rows n (shape.Constd s ds) = bind (words rows s) (λ w. constant n w (is_decimal w ds) (decimal w ds))
shape_resolved rows n (shape.Consth s ds) = bind (words rows s) (λ w. constant n w (is_unsigned 16 w ds) (word_or w (digits_value 16 ds)))
shape_resolved rows n (shape.Zero s) = bind (words rows s) (λ w. constant n w true (word_or w 0))
shape_resolved rows n (shape.One s) = bind (words rows s) (λ w. constant n w true (word_or w 1))
shape_resolved rows n (shape.Ones s) = bind (words rows s) (λ w. constant n w true (word_or w (2 ^ w - 1)))
shape_resolved rows n (shape.Input s) = bind (words rows s) (λ w. done n (kind.Value (Words w) (node.Input (length (inputs_in rows)) w)) (itself rows true))
shape_resolved rows n (shape.State s) = bind (sort rows s) (λ t. state rows n t)
shape_resolved rows n (shape.Init s x v) = bind (target rows x) (λ x. bind (operand rows v) (λ v. bind (sort rows s) (λ t. fed_init n t x v)))
shape_resolved rows n (shape.Next s x v) = bind (target rows x) (λ x. bind (operand rows v) (λ v. bind (sort rows s) (λ t. fed_next n t x v)))
shape_resolved rows n (shape.Un o s a) = bind (operand rows a) (λ a. bind (sort rows s) (λ t. typed n t (un_sort o (Some a.sort)) (node.Un o a.arg) a.reach))
shape_resolved rows n (shape.Bin o s a b) = bind (operand rows a) (λ a. bind (operand rows b) (λ b. bind (sort rows s) (λ t. binary n o t a b)))
shape_resolved rows n (shape.Slice s a h l) = bind (operand rows a) (λ a. bind (sort rows s) (λ t. typed n t (slice_sort (Some a.sort) h l) (node.Slice a.arg h l) a.reach))
shape_resolved rows n (shape.Uext s a m) = bind (operand rows a) (λ a. bind (sort rows s) (λ t. typed n t (extended_sort (Some a.sort) m) (node.Uext a.arg m) a.reach))
shape_resolved rows n (shape.Sext s a m) = bind (operand rows a) (λ a. bind (sort rows s) (λ t. typed n t (extended_sort (Some a.sort) m) (node.Sext a.arg m) a.reach))
shape_resolved rows n (shape.Ite s c a b) =
    bind (operand rows c) (λ c. bind (operand rows a) (λ a. bind (operand rows b) (λ b. bind (sort rows s) (λ t.
    typed n t (ite_sort (Some c.sort) (Some a.sort) (Some b.sort)) (choice t c.arg a.arg b.arg) (joined (joined c.reach a.reach) b.reach)))))
shape_resolved rows n (shape.Read s a i) =
    bind (operand rows a) (λ a. bind (operand rows i) (λ i. bind (sort rows s) (λ t.
    typed n t (read_sort (Some a.sort) (Some i.sort)) (node.Read a.arg.node i.arg) (joined a.reach i.reach))))
shape_resolved rows n (shape.Write s a i w) =
    bind (operand rows a) (λ a. bind (operand rows i) (λ i. bind (operand rows w) (λ w. bind (sort rows s) (λ t.
    typed n t (write_sort (Some a.sort) (Some i.sort) (Some w.sort)) (node.Write a.arg.node i.arg w.arg) (joined (joined a.reach i.reach) w.reach)))))
shape_resolved rows n (shape.Output a) = bind (operand rows a) (λ a. shown n a.arg a.sort)
shape_resolved rows n (shape.Bad a) = bind (operand rows a) (λ a. bit n (kind.Bad a.arg) a)
shape_resolved rows n (shape.Fair a) = bind (operand rows a) (λ a. bit n kind.Other a)
shape_resolved rows n (shape.Justice count as') = justice rows n count as'

abbrev pub number_in : Option Row → ℕ
number_in None = 0
number_in (Some r) = r.number

-- the number of the last line, or 0
abbrev pub last_number : List Row → ℕ
last_number rows = number_in (slice_get rows (length rows - 1))

-- what a line gives after others: it stands among the first 1,000,000, with a number above the last
abbrev pub resolved : List Row → Line → Result Resolved Why
resolved rows l =
    if nat_lt 1000000 l.at || nat_le 1000000 (length rows) then Err why.TooManyLines else
    if l.number == 0 then Err why.Number else
    if nat_le l.number (last_number rows) then Err why.Order else
    shape_resolved rows l.number l.shape

-- what is said of a state is kept with its row
abbrev pub with_next : ℕ → Arg → Option Row → List Row → List Row
with_next p v None rows = rows
with_next p v (Some r) rows = set rows p (record r { next = Some v })

abbrev pub with_init : ℕ → Next → Option Row → List Row → List Row
with_init p v None rows = rows
with_init p v (Some r) rows = set rows p (record r { init = Some v })

abbrev pub fed : Option Feed → List Row → List Row
fed None rows = rows
fed (Some (feed.Next p v)) rows = with_next p v (slice_get rows p) rows
fed (Some (feed.Init p v)) rows = with_init p v (slice_get rows p) rows

abbrev pub extended_by : List Row → Resolved → List Row
extended_by rows d = fed d.feed (rows ++ d.row ∷ [])

-- the rows with what a line gave; array states have 65,536 words together at most
abbrev pub accepted : List Row → Resolved → Result (List Row) Why
accepted rows d = if nat_lt 65536 (array_words rows + row_words d.row) then Err why.TooManyWords else Ok (extended_by rows d)

-- the rows with one more line
abbrev pub added : List Row → Line → Result (List Row) Why
added rows l = bind (resolved rows l) (λ d. accepted rows d)

-- the rows of lines in the order of the text, after some rows
abbrev pub rows_after : List Row → List Line → Result (List Row) Why
rows_after rows [] = Ok rows
rows_after rows (l ∷ ls) = bind (added rows l) (λ more. rows_after more ls)

abbrev pub rows_or : Result (List Row) Why → List Row
rows_or (Ok rows) = rows
rows_or (Err e) = []

-- the rows of lines, and none where a line breaks a rule
abbrev pub rows_of : List Line → List Row
rows_of lines = rows_or (rows_after [] lines)

-- no line breaks a rule
abbrev pub AreRuled : List Line → Type 0
AreRuled lines = rows_after [] lines ≡ Ok (rows_of lines)
