-- The widths of expressions, and the rules that statements and bodies obey: words in range, of
-- the widths that are wanted. The project's own, as are its limits: 4,096 turns of `for` and
-- `all`, 1,000,000 of `while`, and 256 variables bound inside one another, since no text nests
-- deeper. An array has as many words, of one width, as its index can name: 2 to 4,096.
use Rattle.std.specs.Prelude.{◌≡◌, ◌<◌, ℕ, zero, suc, ◌^◌, ◌==◌, ◌&&◌, nat_lt, nat_le, List, [], ◌∷◌, ◌++◌, map, length, slice_get, drop, Option, Some, None, Bool, true, false, if◌then◌else◌}
use Rattle.knox_words.specs.Bits.{Bits, is_word}
use Rattle.knox_words.specs.Ops.{op1_width}
use Rattle.knox_words.specs.Typing.{op2_typed, slice_typed, extended, ite_typed}
use Rattle.knox_words.specs.declared.op.Op1.{Op1}
use Rattle.knox_words.specs.declared.op.Op2.{Op2}
use Rattle.knox_words.specs.Lists.{are_widths, fit, fits}
use Rattle.knox_lang.specs.declared.expr.Space.{Space}
use Rattle.knox_lang.specs.declared.expr.Space.TheVariants.{Own, Arg, Local, Bound, Copy}
use Rattle.knox_lang.specs.declared.expr.Slot.{Slot}
use Rattle.knox_lang.specs.declared.expr.Expr.{Expr, fold-Expr}
use Rattle.knox_lang.specs.declared.expr.Expr.TheOpen.{Expr-F}
use Rattle.knox_lang.specs.declared.expr.Stmt.{Stmt, fold-Stmt}
use Rattle.knox_lang.specs.declared.expr.Stmt.TheOpen.{Stmt-F}
use Rattle.knox_lang.specs.declared.parts.Fun.{Fun}
use Rattle.knox_lang.specs.declared.parts.OpHead.{OpHead}
use Rattle.knox_lang.specs.declared.scope.Spaces.{Spaces}
use Rattle.knox_lang.specs.Scope.{words_of}
use Rattle.knox_lang.specs.Eval.{calls_of}
use Rattle.knox_lang.specs.Exec.{Answering}

-- the widths of the words of each space but `Bound`
abbrev pub Widths : Type 0
Widths = Space → List ℕ

-- what gives a width, or none, under bound variables of some widths
abbrev pub Kind : Type 0
Kind = List ℕ → Option ℕ

-- the words of a space have these widths, where `vs` are those of the bound variables
abbrev pub widths_of : Widths → List ℕ → Space → List ℕ
widths_of ws vs Bound = vs
widths_of ws vs s = ws s

abbrev pub name_width : Widths → Slot → Kind
name_width ws s vs = slice_get (widths_of ws vs s.space) s.number

-- whether the first n are w
abbrev pub all_are : ℕ → ℕ → List ℕ → Bool
all_are w zero vs = true
all_are w (suc n) [] = false
all_are w (suc n) (v ∷ vs) = v == w && all_are w n vs

-- the width of n words, where there are so many and they have one width
abbrev pub array_width : ℕ → List ℕ → Option ℕ
array_width n [] = None
array_width n (v ∷ vs) = if all_are v n (v ∷ vs) then Some v else None

-- the width of the words of an array that begins at a place and has this index width
abbrev pub read_width : List ℕ → ℕ → Option ℕ → Option ℕ
read_width ws first None = None
read_width ws first (Some x) = if nat_le 1 x && nat_le x 12 then array_width (2 ^ x) (drop first ws) else None

abbrev pub un_width : Op1 → Option ℕ → Option ℕ
un_width o None = None
un_width o (Some w) = Some (op1_width o w)

abbrev pub bin_width : Op2 → Option ℕ → Option ℕ → Option ℕ
bin_width o (Some v) (Some w) = op2_typed o v w
bin_width o _ _ = None

-- the width of an extension by n bits
abbrev pub longer : ℕ → Option ℕ → Option ℕ
longer n None = None
longer n (Some w) = extended w n

abbrev pub slice_width : ℕ → ℕ → Option ℕ → Option ℕ
slice_width high low None = None
slice_width high low (Some w) = slice_typed w high low

abbrev pub ite_width : Option ℕ → Option ℕ → Option ℕ → Option ℕ
ite_width (Some c) (Some v) (Some w) = ite_typed c v w
ite_width _ _ _ = None

-- under one more bound variable, of width w
abbrev pub under : Kind → List ℕ → ℕ → Option ℕ
under k vs w = if nat_lt (length vs) 256 then k (vs ++ w ∷ []) else None

abbrev pub let_width : Option ℕ → Kind → Kind
let_width None b vs = None
let_width (Some w) b vs = under b vs w

-- whether a variable of width w can count n turns
abbrev pub turns_fit : ℕ → ℕ → Bool
turns_fit w n = nat_le 1 w && (nat_le w 128 && (nat_le n 4096 && nat_le n (2 ^ w)))

-- the width of a condition
abbrev pub test_width : Option ℕ → Option ℕ
test_width None = None
test_width (Some w) = if w == 1 then Some 1 else None

abbrev pub all_width : Kind → ℕ → ℕ → Kind
all_width a w n vs = if turns_fit w n then test_width (under a vs w) else None

-- whether all have a width, the one that is wanted
abbrev pub same_widths : List ℕ → List (Option ℕ) → Bool
same_widths [] [] = true
same_widths (w ∷ ws) (Some v ∷ vs) = v == w && same_widths ws vs
same_widths _ _ = false

abbrev pub fun_width : Option Fun → List (Option ℕ) → Option ℕ
fun_width None args = None
fun_width (Some f) args = if same_widths f.args args then Some f.width else None

-- function k of the first n
abbrev pub fun_of : List Fun → ℕ → ℕ → Option Fun
fun_of funs n k = if nat_lt k n then slice_get funs k else None

abbrev pub widths_under : List Kind → List ℕ → List (Option ℕ)
widths_under ks vs = map (λ (k : Kind). k vs) ks

-- one level of an expression, over the widths of its parts
abbrev pub width_level : List Fun → ℕ → Widths → Expr-F Kind → Kind
width_level funs n ws (Expr-F.Lit w) vs = if is_word w then Some w.width else None
width_level funs n ws (Expr-F.Name s) vs = name_width ws s vs
width_level funs n ws (Expr-F.Read s i) vs = read_width (widths_of ws vs s.space) s.number (i vs)
width_level funs n ws (Expr-F.Un o a) vs = un_width o (a vs)
width_level funs n ws (Expr-F.Bin o a b) vs = bin_width o (a vs) (b vs)
width_level funs n ws (Expr-F.Sext m a) vs = longer m (a vs)
width_level funs n ws (Expr-F.Uext m a) vs = longer m (a vs)
width_level funs n ws (Expr-F.Slice high low a) vs = slice_width high low (a vs)
width_level funs n ws (Expr-F.Ite c a b) vs = ite_width (c vs) (a vs) (b vs)
width_level funs n ws (Expr-F.Let a b) vs = let_width (a vs) b vs
width_level funs n ws (Expr-F.All w m a) vs = all_width a w m vs
width_level funs n ws (Expr-F.Fun k args) vs = fun_width (fun_of funs n k) (widths_under args vs)

-- the width of an expression that calls the first n functions, where it obeys the rules
abbrev pub width_of : List Fun → ℕ → Widths → Expr → Kind
width_of funs n ws e = fold-Expr Kind (width_level funs n ws) e

-- whether an expression has this width
abbrev pub is_width : Option ℕ → ℕ → Bool
is_width None w = false
is_width (Some v) w = v == w

-- a function sees its arguments alone
abbrev pub fun_widths : List ℕ → Widths
fun_widths args Arg = args
fun_widths args _ = []

-- whether function k obeys the rules: it calls earlier functions alone
abbrev pub fun_fits : List Fun → ℕ → Option Fun → Bool
fun_fits funs k None = false
fun_fits funs k (Some f) = are_widths f.args && is_width (width_of funs k (fun_widths f.args) f.body []) f.width

-- whether the first n functions obey the rules
abbrev pub funs_fit : List Fun → ℕ → Bool
funs_fit funs zero = true
funs_fit funs (suc n) = funs_fit funs n && fun_fits funs n (slice_get funs n)

-- what the statements of a body may do besides `assign`, `if` and `for`
pub record Leave : Type 0 where
  -- the operations that can be asked; none where no query may stand
  pub heads : List OpHead
  -- the widths of the inputs that can be set; none outside a driver
  pub inputs : List ℕ
  -- whether `while` and `tick` may stand
  pub ticks : Bool
  -- whether `copy-tick` may stand
  pub copy_ticks : Bool

-- whether a statement obeys the rules, under bound variables of some widths
abbrev pub Obeys : Type 0
Obeys = List ℕ → Bool

-- whether a word of this space can be assigned
abbrev pub is_location : Space → Bool
is_location Own = true
is_location Local = true
is_location Copy = true
is_location _ = false

-- whether a word of this width can be put there
abbrev pub takes : Widths → Slot → Option ℕ → Bool
takes ws s None = false
takes ws s (Some w) = is_location s.space && is_width (slice_get (ws s.space) s.number) w

-- whether a word of the second width can be put into the array there, which has the first as index width
abbrev pub stores : Widths → List ℕ → Slot → Option ℕ → Option ℕ → Bool
stores ws vs s i None = false
stores ws vs s i (Some w) = is_location s.space && is_width (read_width (widths_of ws vs s.space) s.number i) w

abbrev pub all_obey : List Obeys → Obeys
all_obey [] vs = true
all_obey (o ∷ os) vs = o vs && all_obey os vs

abbrev pub obeys_under : List Obeys → List ℕ → ℕ → Bool
obeys_under os vs w = if nat_lt (length vs) 256 then all_obey os (vs ++ w ∷ []) else false

abbrev pub query_fits : Widths → Slot → Option OpHead → List (Option ℕ) → Bool
query_fits ws s None args = false
query_fits ws s (Some h) args = same_widths (map (λ a. a.1) h.args) args && takes ws s (Some h.result)

-- an input of this width can be set to it
abbrev pub input_fits : Option ℕ → Option ℕ → Bool
input_fits (Some v) (Some w) = v == w
input_fits _ _ = false

-- one level of a statement, over whether its parts obey the rules
abbrev pub stmt_fits_level : List Fun → Widths → Leave → Stmt-F Obeys → Obeys
stmt_fits_level funs ws leave (Stmt-F.Assign s e) vs = takes ws s (width_of funs (length funs) ws e vs)
stmt_fits_level funs ws leave (Stmt-F.Store s i e) vs = stores ws vs s (width_of funs (length funs) ws i vs) (width_of funs (length funs) ws e vs)
stmt_fits_level funs ws leave (Stmt-F.If c as' bs) vs = is_width (width_of funs (length funs) ws c vs) 1 && (all_obey as' vs && all_obey bs vs)
stmt_fits_level funs ws leave (Stmt-F.For w n body) vs = turns_fit w n && obeys_under body vs w
stmt_fits_level funs ws leave (Stmt-F.While c n body) vs = leave.ticks && (is_width (width_of funs (length funs) ws c vs) 1 && (nat_le n 1000000 && all_obey body vs))
stmt_fits_level funs ws leave (Stmt-F.SetInput k e) vs = input_fits (slice_get leave.inputs k) (width_of funs (length funs) ws e vs)
stmt_fits_level funs ws leave Stmt-F.Tick vs = leave.ticks
stmt_fits_level funs ws leave Stmt-F.CopyTick vs = leave.copy_ticks
stmt_fits_level funs ws leave (Stmt-F.Query s k args) vs = query_fits ws s (slice_get leave.heads k) (widths_under (map (width_of funs (length funs) ws) args) vs)

-- whether a statement obeys the rules
abbrev pub stmt_fits : List Fun → Widths → Leave → Stmt → Obeys
stmt_fits funs ws leave s = fold-Stmt Obeys (stmt_fits_level funs ws leave) s

-- whether statements obey the rules
abbrev pub stmts_fit : List Fun → Widths → Leave → List Stmt → Obeys
stmts_fit funs ws leave ss = all_obey (map (stmt_fits funs ws leave) ss)

-- the words of the spaces have these widths
abbrev pub SpacesFit : Widths → Spaces → Type 0
SpacesFit ws sp = (s : Space) → fit (ws s) (words_of sp s) ≡ true

-- the first n functions give words of their widths for arguments of their widths
abbrev pub FunsGive : List Fun → ℕ → Type 0
FunsGive funs n = (k : ℕ) (f : Fun) (args : List Bits) → k < n → slice_get funs k ≡ Some f → fit f.args args ≡ true → fits f.width (calls_of funs n k args) ≡ true

-- the one who is asked replies words of the operations' widths, as long as it is good, and stays good
pub record AnswersFit (A : Type 0) (q : Answering A) (heads : List OpHead) (Good : A → Type 0) : Type 0 where
  pub replies : (a : A) (k : ℕ) (h : OpHead) (args : List Bits) → Good a → slice_get heads k ≡ Some h → fit (map (λ x. x.1) h.args) args ≡ true → fits h.result (q.reply a k args) ≡ true
  pub stays : (a : A) (k : ℕ) (h : OpHead) (args : List Bits) → Good a → slice_get heads k ≡ Some h → fit (map (λ x. x.1) h.args) args ≡ true → Good (q.after a k args)

-- the words fit, and the one who is asked is good
pub record Fine (A : Type 0) (ws : Widths) (Good : A → Type 0) (st : Spaces × A) : Type 0 where
  pub spaces : SpacesFit ws st.0
  pub asked : Good st.1
