-- What a tree is at its top. Reading gives a value, or the first fault: a fault is the earliest in
-- the text, so that what stands before is read before.
use Rattle.std.specs.Prelude.{◌≡◌, ◌&&◌, ℕ, suc, nat_le, Bool, false, if◌then◌else◌, List, [], ◌∷◌, Result, Ok, Err}
use Rattle.std.specs.Str.{bytes_eq}
use Rattle.knox_text.specs.declared.place.Place.{Place}
use Rattle.knox_sexpr.specs.declared.tree.Tree.{Tree, out-Tree}
use Rattle.knox_sexpr.specs.declared.tree.Tree.TheOpen.{Tree-F}
use Rattle.expr_read.specs.declared.faults.LangWhy.{LangWhy}
use Rattle.expr_read.specs.declared.faults.LangWhy.TheVariants.{Form, UnknownName, Twice, Width, Arity, Bound, Missing, Memory}
use Rattle.expr_read.specs.declared.faults.LangFault.{LangFault}

infixl 10 ◌>>=◌
abbrev pub ◌>>=◌ : {A B : Type 0} → Result A LangFault → (A → Result B LangFault) → Result B LangFault
(Ok x) >>= f = f x
(Err e) >>= f = Err e

abbrev pub fails : {A : Type 0} → Place → LangWhy → Result A LangFault
fails at why = Err (record { place = at; why = why })

-- What a function returned is what reading gives, unless memory ran out.
abbrev pub Fails : {A : Type 0} → LangWhy → LangFault → Result A LangFault → Type 0
Fails Memory f read = Unit {0}
Fails Form f read = read ≡ Err f
Fails UnknownName f read = read ≡ Err f
Fails Twice f read = read ≡ Err f
Fails Width f read = read ≡ Err f
Fails Arity f read = read ≡ Err f
Fails Bound f read = read ≡ Err f
Fails Missing f read = read ≡ Err f

abbrev pub Gives : {A : Type 0} → Result A LangFault → Result A LangFault → Type 0
Gives (Ok x) read = read ≡ Ok x
Gives (Err f) read = Fails f.why f read

-- the same of what is seen of it
abbrev pub Sees : {X Y : Type 0} → (X → Y) → Result X LangFault → Result Y LangFault → Type 0
Sees view (Ok x) read = read ≡ Ok (view x)
Sees view (Err f) read = Fails f.why f read

abbrev pub place_in : Tree-F Tree → Place
place_in (Tree-F.Atom at word) = at
place_in (Tree-F.Number at width value) = at
place_in (Tree-F.List at parts close) = at

abbrev pub place_of : Tree → Place
place_of t = place_in (out-Tree t)

-- the value of a number, however it is written
abbrev pub number_in : Tree-F Tree → Result ℕ LangFault
number_in (Tree-F.Atom at word) = fails at Form
number_in (Tree-F.Number at width value) = Ok value
number_in (Tree-F.List at parts close) = fails at Form

abbrev pub number_of : Tree → Result ℕ LangFault
number_of t = number_in (out-Tree t)

-- The widths of words.
abbrev pub is_width : ℕ → Bool
is_width w = nat_le 1 w && nat_le w 128

-- the width that a tree gives
abbrev pub width_of : Tree → Result ℕ LangFault
width_of t = do
  w ← number_of t
  if is_width w then Ok w else fails (place_of t) Width

-- the bytes of a symbol
abbrev pub symbol_in : Tree-F Tree → Result (List ℕ) LangFault
symbol_in (Tree-F.Atom at word) = Ok word
symbol_in (Tree-F.Number at width value) = fails at Form
symbol_in (Tree-F.List at parts close) = fails at Form

abbrev pub symbol_of : Tree → Result (List ℕ) LangFault
symbol_of t = symbol_in (out-Tree t)

-- the parts of a list
abbrev pub parts_in : Tree-F Tree → Result (List Tree) LangFault
parts_in (Tree-F.Atom at word) = fails at Form
parts_in (Tree-F.Number at width value) = fails at Form
parts_in (Tree-F.List at parts close) = Ok parts

abbrev pub parts_of : Tree → Result (List Tree) LangFault
parts_of t = parts_in (out-Tree t)

-- whether a tree is some symbol
abbrev pub is_symbol_in : List ℕ → Tree-F Tree → Bool
is_symbol_in word (Tree-F.Atom at name) = bytes_eq name word
is_symbol_in word (Tree-F.Number at width value) = false
is_symbol_in word (Tree-F.List at parts close) = false

abbrev pub is_symbol : List ℕ → Tree → Bool
is_symbol word t = is_symbol_in word (out-Tree t)

-- whether a tree is a list that begins with some symbol
abbrev pub begin : List ℕ → List Tree → Bool
begin word [] = false
begin word (head ∷ ts) = is_symbol word head

abbrev pub is_headed_in : List ℕ → Tree-F Tree → Bool
is_headed_in word (Tree-F.Atom at name) = false
is_headed_in word (Tree-F.Number at width value) = false
is_headed_in word (Tree-F.List at parts close) = begin word parts

abbrev pub is_headed : List ℕ → Tree → Bool
is_headed word t = is_headed_in word (out-Tree t)

-- what follows the symbol that a list has to begin with
abbrev pub behind : Place → List ℕ → List Tree → Result (List Tree) LangFault
behind at word [] = fails at Form
behind at word (head ∷ ts) = if is_symbol word head then Ok ts else fails at Form

abbrev pub behind_head : List ℕ → Tree → Result (List Tree) LangFault
behind_head word t = parts_of t >>= λ ts. behind (place_of t) word ts

-- how many trees at the front are lists that begin with some symbol
abbrev pub headed_count : List ℕ → List Tree → ℕ
headed_count word [] = 0
headed_count word (t ∷ ts) = if is_headed word t then suc (headed_count word ts) else 0

-- there must be no more trees
abbrev pub no_more : List Tree → Result (Unit {0}) LangFault
no_more [] = Ok tt
no_more (t ∷ ts) = fails (place_of t) Form

-- Things of a list are read from the first to the last. Each is read beside what those before it
-- gave, to which its own reading is added.
unfoldable pub each : {T A S : Type 0} → (S → T → Result A LangFault) → (S → A → S) → S → List T → Result S LangFault
each read add before [] = Ok before
each read add before (t ∷ ts) = read before t >>= λ x. each read add (add before x) ts
