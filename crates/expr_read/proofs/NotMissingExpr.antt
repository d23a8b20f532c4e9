-- No name and no expression is refused as missing.
use Rattle.std.proofs.Common.{◌≡◌, ℕ, zero, suc, ◌==◌, List, [], ◌∷◌, map, codes, sym, subst, refl, Option, Some, None, Result}
use Rattle.std.specs.List.{AllByRecursion}
use Rattle.knox_text.specs.declared.place.Place.{Place}
use Rattle.knox_words.specs.Bits.{bits, is_word}
use Rattle.knox_words.specs.Typing.{op2_typed, slice_typed, extended, ite_typed}
use Rattle.knox_words.specs.declared.op.Op2.{Op2}
use Rattle.knox_lang.specs.declared.expr.Space.{Space}
use Rattle.knox_lang.specs.declared.expr.Space.TheVariants as spaces
use Rattle.knox_sexpr.specs.declared.tree.Tree.{Tree, out-Tree}
use Rattle.knox_sexpr.specs.declared.tree.Tree.TheOpen.{Tree-F}
use Rattle.knox_sexpr.proofs.Meaning.{by_parts}
use Rattle.expr_read.specs.declared.expression.Typed.{Typed}
use Rattle.expr_read.specs.declared.expression.Extension.{Extension}
use Rattle.expr_read.specs.declared.expression.Head.{Head}
use Rattle.expr_read.specs.declared.expression.Head.TheVariants.{Un, Bin, Ite, Slice, Longer, Bv, Names, Unknown, NoSymbol}
use Rattle.expr_read.specs.declared.names.Group.{Group}
use Rattle.expr_read.specs.declared.names.Group.TheVariants.{Plain, Copy}
use Rattle.expr_read.specs.declared.names.Named.{Named}
use Rattle.expr_read.specs.declared.names.Seen.{Seen}
use Rattle.expr_read.specs.Views.{◌>>=◌, place_of, number_of, width_of, is_width, symbol_of, parts_of, is_symbol}
use Rattle.expr_read.specs.Names.{found, seen_at, seen_of, target_in, target_at, copied, target_level, target, is_declared, pair, local_in, local, locals, and_last}
use Rattle.expr_read.specs.Expressions.{Part, word, literal, meant, one, two, three, bin_typed, choice_typed, bits_typed, longer_typed, numbers, sliced, extended_by, bv_word, bv, named_symbol, named_by_form, applied, head_of, list, part, expr_of, expr_of_width}
use Rattle.expr_read.proofs.Parts.{part-Atom, part-Number, part-List}
use Rattle.expr_read.proofs.NotMissing.{NotMissing, and-then, either, all-map, in-each, in-number, in-symbol, in-parts, in-width}

-- ---- names

seen-found : (at : Place) (o : Option Seen) → NotMissing (seen_at at o)
seen-found at None = refl
seen-found at (Some s) = tt

pub in-seen : (group : Group) (t : Tree) (names : List Named) → NotMissing (seen_of group t names)
in-seen group t names = and-then (symbol_of t) _ (in-symbol t) (λ name. seen-found (place_of t) (found group name None names))

target-space : (at : Place) (s : Seen) (space : Space) → NotMissing (target_in at s space)
target-space at s spaces.Own = tt
target-space at s spaces.Arg = refl
target-space at s spaces.Local = tt
target-space at s spaces.Bound = refl
target-space at s spaces.Input = refl
target-space at s spaces.Output = refl
target-space at s spaces.Device = refl
target-space at s spaces.Noise = refl
target-space at s spaces.Spec = refl
target-space at s spaces.Emu = refl
target-space at s spaces.Copy = refl
target-space at s spaces.Taken = refl

target-found : (at : Place) (o : Option Seen) → NotMissing (target_at at o)
target-found at None = refl
target-found at (Some s) = target-space at s s.slot.space

of-copy : (at : Place) (names : List Named) (ts : List Tree) → NotMissing (copied at names ts)
of-copy at names [] = refl
of-copy at names (head ∷ []) = refl
of-copy at names (head ∷ x ∷ []) = either (is_symbol (codes "k") head) _ _ (in-seen Copy x names) refl
of-copy at names (head ∷ x ∷ y ∷ ts) = refl

target-shape : (names : List Named) (y : Tree-F Tree) → NotMissing (target_level names y)
target-shape names (Tree-F.Atom at name) = target-found at (found Plain name None names)
target-shape names (Tree-F.Number at width value) = refl
target-shape names (Tree-F.List at parts close) = of-copy at names parts

pub in-target : (t : Tree) (names : List Named) → NotMissing (target t names)
in-target t names = target-shape names (out-Tree t)

in-pair : (x w : Tree) (known : List (List ℕ × ℕ)) → NotMissing (pair x w known)
in-pair x w known = and-then (symbol_of x) _ (in-symbol x) (λ name. either (is_declared name known) _ _ refl (and-then (width_of w) _ (in-width w) (λ width. tt)))

local-parts : (at : Place) (known : List (List ℕ × ℕ)) (ts : List Tree) → NotMissing (local_in at known ts)
local-parts at known [] = refl
local-parts at known (a ∷ []) = refl
local-parts at known (a ∷ x ∷ []) = refl
local-parts at known (a ∷ x ∷ w ∷ []) = in-pair x w known
local-parts at known (a ∷ x ∷ w ∷ b ∷ ts) = refl

pub in-locals : (ts : List Tree) → NotMissing (locals ts)
in-locals ts = in-each local and_last [] ts (λ known t. and-then (parts_of t) _ (in-parts t) (λ us. local-parts (place_of t) known us))

-- ---- expressions

abbrev Good : Part → Type 0
Good p = (names : List Named) → NotMissing (p.reading names)

in-word : (at : Place) (w n : ℕ) → NotMissing (word at w n)
in-word at w n = either (is_word (bits w n)) _ _ tt refl

in-literal : (at : Place) (w n : ℕ) → NotMissing (literal at w n)
in-literal at zero n = refl
in-literal at (suc w) n = either (is_width (suc w)) _ _ (in-word at (suc w) n) refl

in-meant : (at : Place) (o : Option Seen) → NotMissing (meant at o)
in-meant at None = refl
in-meant at (Some s) = tt

in-one : (at : Place) (ps : List Part) → AllByRecursion Good ps → (names : List Named) → NotMissing (one at ps names)
in-one at [] all names = refl
in-one at (a ∷ []) all names = all.0 names
in-one at (a ∷ b ∷ ps) all names = refl

in-two : (at : Place) (ps : List Part) → AllByRecursion Good ps → (names : List Named) → NotMissing (two at ps names)
in-two at [] all names = refl
in-two at (a ∷ []) all names = refl
in-two at (a ∷ b ∷ []) all names =
    and-then (a.reading names) _ (all.0 names) (λ x. and-then (b.reading names) _ (all.1.0 names) (λ y. tt))
in-two at (a ∷ b ∷ c ∷ ps) all names = refl

in-three : (at : Place) (ps : List Part) → AllByRecursion Good ps → (names : List Named) → NotMissing (three at ps names)
in-three at [] all names = refl
in-three at (a ∷ []) all names = refl
in-three at (a ∷ b ∷ []) all names = refl
in-three at (c ∷ a ∷ b ∷ []) all names =
    and-then (c.reading names) _ (all.0 names) (λ z. and-then (a.reading names) _ (all.1.0 names) (λ x. and-then (b.reading names) _ (all.1.1.0 names) (λ y. tt)))
in-three at (a ∷ b ∷ c ∷ d ∷ ps) all names = refl

in-bin : (at : Place) (o : Op2) (p : Typed × Typed) (width : Option ℕ) → NotMissing (bin_typed at o p width)
in-bin at o p None = refl
in-bin at o p (Some w) = tt

in-choice : (at : Place) (p : Typed × Typed × Typed) (width : Option ℕ) → NotMissing (choice_typed at p width)
in-choice at p None = refl
in-choice at p (Some w) = tt

in-bits : (at : Place) (high low : ℕ) (x : Typed) (width : Option ℕ) → NotMissing (bits_typed at high low x width)
in-bits at high low x None = refl
in-bits at high low x (Some w) = tt

in-longer : (at : Place) (by : Extension) (more : ℕ) (x : Typed) (width : Option ℕ) → NotMissing (longer_typed at by more x width)
in-longer at by more x None = refl
in-longer at by more x (Some w) = tt

in-numbers : (a b : Tree) → NotMissing (numbers a b)
in-numbers a b = and-then (number_of a) _ (in-number a) (λ m. and-then (number_of b) _ (in-number b) (λ n. tt))

in-sliced : (at : Place) (ps : List Part) → AllByRecursion Good ps → (names : List Named) → NotMissing (sliced at ps names)
in-sliced at [] all names = refl
in-sliced at (a ∷ []) all names = refl
in-sliced at (a ∷ b ∷ []) all names = refl
in-sliced at (a ∷ b ∷ c ∷ []) all names =
    and-then (numbers a.tree b.tree) _ (in-numbers a.tree b.tree) (λ bounds. and-then (c.reading names) _ (all.1.1.0 names) (λ x. in-bits at bounds.0 bounds.1 x (slice_typed x.width bounds.0 bounds.1)))
in-sliced at (a ∷ b ∷ c ∷ d ∷ ps) all names = refl

in-extended : (at : Place) (by : Extension) (ps : List Part) → AllByRecursion Good ps → (names : List Named) → NotMissing (extended_by at by ps names)
in-extended at by [] all names = refl
in-extended at by (a ∷ []) all names = refl
in-extended at by (a ∷ b ∷ []) all names =
    and-then (number_of a.tree) _ (in-number a.tree) (λ more. and-then (b.reading names) _ (all.1.0 names) (λ x. in-longer at by more x (extended x.width more)))
in-extended at by (a ∷ b ∷ c ∷ ps) all names = refl

bits-word : (w n : Tree) → NotMissing (bv_word w n)
bits-word w n = and-then (width_of w) _ (in-width w) (λ width. and-then (number_of n) _ (in-number n) (λ value. in-word (place_of n) width value))

in-bv : (at : Place) (ps : List Part) → NotMissing (bv at ps)
in-bv at [] = refl
in-bv at (a ∷ []) = refl
in-bv at (a ∷ b ∷ []) = bits-word a.tree b.tree
in-bv at (a ∷ b ∷ c ∷ ps) = refl

by-symbol : (group : Group) (x : Tree) (names : List Named) → NotMissing (named_symbol group x names)
by-symbol group x names = and-then (symbol_of x) _ (in-symbol x) (λ name. in-meant (place_of x) (found group name None names))

by-form : (at : Place) (group : Group) (ps : List Part) (names : List Named) → NotMissing (named_by_form at group ps names)
by-form at group [] names = refl
by-form at group (a ∷ []) names = by-symbol group a.tree names
by-form at group (a ∷ b ∷ ps) names = refl

in-applied : (at head_at : Place) (head : Head) (ps : List Part) → AllByRecursion Good ps → (names : List Named) → NotMissing (applied at head_at head ps names)
in-applied at head_at (Un o) ps all names = and-then (one at ps names) _ (in-one at ps all names) (λ x. tt)
in-applied at head_at (Bin o) ps all names = and-then (two at ps names) _ (in-two at ps all names) (λ p. in-bin at o p (op2_typed o p.0.width p.1.width))
in-applied at head_at Ite ps all names = and-then (three at ps names) _ (in-three at ps all names) (λ p. in-choice at p (ite_typed p.0.width p.1.width p.2.width))
in-applied at head_at Slice ps all names = in-sliced at ps all names
in-applied at head_at (Longer by) ps all names = in-extended at by ps all names
in-applied at head_at Bv ps all names = in-bv at ps
in-applied at head_at (Names group) ps all names = by-form at group ps names
in-applied at head_at Unknown ps all names = refl
in-applied at head_at NoSymbol ps all names = refl

in-list : (at : Place) (ps : List Part) → AllByRecursion Good ps → (names : List Named) → NotMissing (list at ps names)
in-list at [] all names = refl
in-list at (head ∷ ps) all names = in-applied at (place_of head.tree) (head_of head.tree) ps all.1 names

good : (t : Tree) → Good (part t)
good = by_parts (λ (t : Tree). Good (part t))
    (λ at name. subst Good (sym (part-Atom at name)) (λ names. in-meant at (found Plain name None names)))
    (λ at width value. subst Good (sym (part-Number at width value)) (λ names. in-literal at width value))
    (λ at close ts all. subst Good (sym (part-List at close ts)) (in-list at (map part ts) (all-map part Good ts all)))

pub in-expr : (t : Tree) (names : List Named) → NotMissing (expr_of t names)
in-expr t names = good t names

pub in-typed : (t : Tree) (w : ℕ) (names : List Named) → NotMissing (expr_of_width t w names)
in-typed t w names = and-then (expr_of t names) _ (in-expr t names) (λ x. either (x.width == w) _ _ tt refl)
