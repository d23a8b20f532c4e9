-- No part of a text is refused as missing: what a reading gives is a value, or another fault.
use Rattle.std.proofs.Common.{◌≡◌, ℕ, zero, suc, ◌==◌, ◌&&◌, Bool, true, false, if◌then◌else◌, List, [], ◌∷◌, map, codes, refl, ap, subst, sym, Option, Some, None, Result, Ok, Err, nat_le}
use Rattle.std.specs.List.{AllByRecursion}
use Rattle.knox_text.specs.declared.place.Place.{Place}
use Rattle.knox_sexpr.specs.declared.tree.Tree.{Tree, out-Tree}
use Rattle.knox_sexpr.specs.declared.tree.Tree.TheOpen.{Tree-F}
use Rattle.expr_read.specs.declared.faults.LangWhy.{LangWhy}
use Rattle.expr_read.specs.declared.faults.LangWhy.TheVariants.{Missing}
use Rattle.expr_read.specs.declared.faults.LangFault.{LangFault}
use Rattle.expr_read.specs.Views.{◌>>=◌, fails, place_of, number_in, number_of, width_of, is_width, symbol_in, symbol_of, parts_in, parts_of, is_symbol, is_headed, behind, behind_head, no_more, each}

abbrev pub is_missing : LangWhy → Bool
is_missing Missing = true
is_missing other = false

-- what a reading gives is a value, or a fault that tells of nothing missing
abbrev pub NotMissing : {A : Type 0} → Result A LangFault → Type 0
NotMissing (Ok x) = Unit {0}
NotMissing (Err f) = is_missing f.why ≡ false

pub and-then : {A B : Type 0} (r : Result A LangFault) (g : A → Result B LangFault) → NotMissing r → ((x : A) → NotMissing (g x)) → NotMissing (r >>= g)
and-then (Ok x) g p q = q x
and-then (Err f) g p q = p

pub either : {A : Type 0} (b : Bool) (x y : Result A LangFault) → NotMissing x → NotMissing y → NotMissing (if b then x else y)
either true x y p q = p
either false x y p q = q

-- ---- lists

pub all-map : {A B : Type 0} (f : A → B) (P : B → Type 0) (xs : List A) → AllByRecursion (λ (x : A). P (f x)) xs → AllByRecursion P (map f xs)
all-map f P [] all = tt
all-map f P (x ∷ xs) all = (all.0, all-map f P xs all.1)

pub among : {T A S : Type 0} (P : T → Type 0) (read : S → T → Result A LangFault) (add : S → A → S) (s : S) (ts : List T) → ((s : S) (t : T) → P t → NotMissing (read s t)) → AllByRecursion P ts → NotMissing (each read add s ts)
unfolding each
among P read add s [] h all = tt
among P read add s (t ∷ ts) h all = and-then (read s t) (λ x. each read add (add s x) ts) (h s t all.0) (λ x. among P read add (add s x) ts h all.1)

any : {T : Type 0} (ts : List T) → AllByRecursion (λ (t : T). Unit {0}) ts
any [] = tt
any (t ∷ ts) = (tt, any ts)

pub in-each : {T A S : Type 0} (read : S → T → Result A LangFault) (add : S → A → S) (s : S) (ts : List T) → ((s : S) (t : T) → NotMissing (read s t)) → NotMissing (each read add s ts)
in-each read add s ts h = among (λ (t : _). Unit {0}) read add s ts (λ s t u. h s t) (any ts)

-- ---- views of a tree

number-level : (y : Tree-F Tree) → NotMissing (number_in y)
number-level (Tree-F.Atom at word) = refl
number-level (Tree-F.Number at width value) = tt
number-level (Tree-F.List at parts close) = refl

pub in-number : (t : Tree) → NotMissing (number_of t)
in-number t = number-level (out-Tree t)

symbol-level : (y : Tree-F Tree) → NotMissing (symbol_in y)
symbol-level (Tree-F.Atom at word) = tt
symbol-level (Tree-F.Number at width value) = refl
symbol-level (Tree-F.List at parts close) = refl

pub in-symbol : (t : Tree) → NotMissing (symbol_of t)
in-symbol t = symbol-level (out-Tree t)

parts-level : (y : Tree-F Tree) → NotMissing (parts_in y)
parts-level (Tree-F.Atom at word) = refl
parts-level (Tree-F.Number at width value) = refl
parts-level (Tree-F.List at parts close) = tt

pub in-parts : (t : Tree) → NotMissing (parts_of t)
in-parts t = parts-level (out-Tree t)

pub in-width : (t : Tree) → NotMissing (width_of t)
in-width t = and-then (number_of t) _ (in-number t) (λ w. either (is_width w) _ _ tt refl)

behind-word : (at : Place) (word : List ℕ) (ts : List Tree) → NotMissing (behind at word ts)
behind-word at word [] = refl
behind-word at word (head ∷ ts) = either (is_symbol word head) _ _ tt refl

pub in-head : (word : List ℕ) (t : Tree) → NotMissing (behind_head word t)
in-head word t = and-then (parts_of t) _ (in-parts t) (λ ts. behind-word (place_of t) word ts)

pub at-end : (ts : List Tree) → NotMissing (no_more ts)
at-end [] = tt
at-end (t ∷ ts) = refl
