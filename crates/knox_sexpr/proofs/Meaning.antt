-- A text means at most one list of trees, and then it has no fault.
use Rattle.std.proofs.Common.{◌≡◌, ℕ, suc, ◌+◌, ◌≤◌, List, [], ◌∷◌, ◌++◌, map, Option, Some, None, refl, sym, ap, subst, ◌∙◌, append_assoc, arith, Result, Ok, Err}
use Rattle.std.specs.Prelude.{IfOk, IfErr, OnOk, MatchResult}
use Rattle.std.specs.List.{flat_map, AllByRecursion}
use Rattle.std.proofs.lemmas.List.{append-nil}
use Rattle.knox_text.specs.declared.place.Place.{Place}
use Rattle.knox_text.specs.Places.{start_of, end_of}
use Rattle.knox_sexpr.specs.declared.fault.SexprFault.{SexprFault}
use Rattle.knox_sexpr.specs.declared.fault.SexprFault.TheVariants.{Memory, Unclosed, Unopened, BadAtom, TooDeep}
use Rattle.knox_sexpr.specs.declared.token.Token.{Token}
use Rattle.knox_sexpr.specs.declared.token.Token.TheVariants.{Open, Close, Atom, Number, Bad}
use Rattle.knox_sexpr.specs.declared.tree.Tree.{Tree, roll-Tree, ind-Tree, map-Tree}
use Rattle.knox_sexpr.specs.declared.tree.Tree.TheVariants as trees
use Rattle.knox_sexpr.specs.declared.tree.Tree.TheOpen.{Tree-F}
use Rattle.knox_sexpr.specs.Faults.{fault_of, first_fault}
use Rattle.knox_sexpr.specs.Steps.{IsFault}
use Rattle.knox_sexpr.specs.Grammar.{spelled, greatest, depth, Means}
use Rattle.knox_sexpr.proofs.Trees.{spelled-Atom, spelled-Number, spelled-List, depth-List, fault-Atom, fault-Number, fault-Open, fault-Close, fault-no_end}
use Rattle.knox_text.proofs.Decimals.{not-eqb}

-- ---- induction on trees

module _ (P : Tree → Type 0) (atom : (at : Place) (word : List ℕ) → P (trees.Atom at word)) (number : (at : Place) (width value : ℕ) → P (trees.Number at width value))
    (list : (at close : Place) (ts : List Tree) → AllByRecursion P ts → P (trees.List at ts close)) where
  abbrev Shown : Type 0
  Shown = (t : Tree) × P t

  abbrev tree_of : Shown → Tree
  tree_of s = s.0

  all_shown : (parts : List Shown) → AllByRecursion P (map tree_of parts)
  all_shown [] = tt
  all_shown (p ∷ parts) = (p.1, all_shown parts)

  at_level : (y : Tree-F Shown) → P (roll-Tree (map-Tree Shown Tree tree_of y))
  at_level (Tree-F.Atom at word) = subst P (sym (trees.rolls-Atom at word)) (atom at word)
  at_level (Tree-F.Number at width value) = subst P (sym (trees.rolls-Number at width value)) (number at width value)
  at_level (Tree-F.List at parts close) = subst P (sym (trees.rolls-List at (map tree_of parts) close)) (list at close (map tree_of parts) (all_shown parts))

  pub by_parts : (t : Tree) → P t
  by_parts = ind-Tree P (λ x y is. subst (λ z. P (roll-Tree z)) is (at_level y))

-- ---- trees without a fault

abbrev Passes : Tree → Type 0
Passes t = (end : Place) (d : ℕ) (ts : List Token) → depth t + d ≤ 256 → fault_of end d (spelled t ++ ts) ≡ fault_of end d ts

passes-atom : (at : Place) (word : List ℕ) → Passes (trees.Atom at word)
passes-atom at word end d ts h = rw spelled-Atom (fault-Atom end d at word ts)

passes-number : (at : Place) (width value : ℕ) → Passes (trees.Number at width value)
passes-number at width value end d ts h = rw spelled-Number (fault-Number end d at width value ts)

pass-all : (us : List Tree) → AllByRecursion Passes us → (end : Place) (d : ℕ) (ts : List Token) → greatest (map depth us) + d ≤ 256 → fault_of end d (flat_map spelled us ++ ts) ≡ fault_of end d ts
pass-all [] all end d ts h = refl
pass-all (u ∷ us) all end d ts h =
    ap (fault_of end d) (append_assoc (spelled u) (flat_map spelled us) ts) ∙ all.0 end d (flat_map spelled us ++ ts) (omega arith) ∙ pass-all us all.1 end d ts (omega arith)

passes-list : (at close : Place) (us : List Tree) → AllByRecursion Passes us → Passes (trees.List at us close)
passes-list at close us all end d ts h =
    let deep : 1 + greatest (map depth us) + d ≤ 256 = subst (λ (n : ℕ). n + d ≤ 256) (depth-List at close us) h in
    let regrouped : spelled (trees.List at us close) ++ ts ≡ Open at ∷ (flat_map spelled us ++ (Close close ∷ ts)) = ap (λ (x : List Token). x ++ ts) (spelled-List at close us) ∙ ap (λ (x : List Token). Open at ∷ x) (append_assoc (flat_map spelled us) (Close close ∷ []) ts) in
    ap (fault_of end d) regrouped ∙ fault-Open end d at (flat_map spelled us ++ (Close close ∷ ts)) (not-eqb d 256 (λ e. omega arith)) ∙ pass-all us all end (suc d) (Close close ∷ ts) (omega arith) ∙ fault-Close end d close ts

passes : (t : Tree) → Passes t
passes = by_parts Passes passes-atom passes-number passes-list

all-pass : (us : List Tree) → AllByRecursion Passes us
all-pass [] = tt
all-pass (u ∷ us) = (passes u, all-pass us)

pub no_fault : (text : List ℕ) (ts : List Tree) → Means text ts → first_fault text ≡ None
no_fault text ts m =
    let end = end_of (start_of text) in
    let none : fault_of end 0 (flat_map spelled ts) ≡ None = ap (fault_of end 0) (sym (append-nil (flat_map spelled ts))) ∙ pass-all ts (all-pass ts) end 0 [] (omega (arith, m.depths)) ∙ fault-no_end end in
    ap (fault_of end 0) m.tokens ∙ none

-- ---- one meaning

pub record Frame : Type 0 where
  pub at : Place
  pub before : List Tree

-- the trees that tokens spell, where lists are open and trees stand before
unfoldable built : List Token → List Tree → List Frame → Option (List Tree)
built [] now [] = Some now
built [] now (f ∷ fs) = None
built (Open at ∷ ts) now fs = built ts [] (record { at = at; before = now } ∷ fs)
built (Close at ∷ ts) now [] = None
built (Close at ∷ ts) now (f ∷ fs) = built ts (f.before ++ trees.List f.at now at ∷ []) fs
built (Atom at word ∷ ts) now fs = built ts (now ++ trees.Atom at word ∷ []) fs
built (Number at width value ∷ ts) now fs = built ts (now ++ trees.Number at width value ∷ []) fs
built (Bad at ∷ ts) now fs = None

abbrev Builds : Tree → Type 0
Builds t = (ts : List Token) (now : List Tree) (fs : List Frame) → built (spelled t ++ ts) now fs ≡ built ts (now ++ t ∷ []) fs

built-Atom : (at : Place) (word : List ℕ) → Builds (trees.Atom at word)
unfolding built
built-Atom at word ts now fs = rw spelled-Atom refl

built-Number : (at : Place) (width value : ℕ) → Builds (trees.Number at width value)
unfolding built
built-Number at width value ts now fs = rw spelled-Number refl

build-all : (us : List Tree) → AllByRecursion Builds us → (ts : List Token) (now : List Tree) (fs : List Frame) → built (flat_map spelled us ++ ts) now fs ≡ built ts (now ++ us) fs
build-all [] all ts now fs = ap (λ (x : List Tree). built ts x fs) (sym (append-nil now))
build-all (u ∷ us) all ts now fs =
    ap (λ (x : List Token). built x now fs) (append_assoc (spelled u) (flat_map spelled us) ts) ∙ all.0 (flat_map spelled us ++ ts) now fs ∙ build-all us all.1 ts (now ++ u ∷ []) fs
    ∙ ap (λ (x : List Tree). built ts x fs) (append_assoc now (u ∷ []) us)

built-Open : (at : Place) (ts : List Token) (now : List Tree) (fs : List Frame) → built (Open at ∷ ts) now fs ≡ built ts [] (record { at = at; before = now } ∷ fs)
unfolding built
built-Open at ts now fs = refl

built-Close : (close at : Place) (ts : List Token) (before now : List Tree) (fs : List Frame) → built (Close close ∷ ts) now (record { at = at; before = before } ∷ fs) ≡ built ts (before ++ trees.List at now close ∷ []) fs
unfolding built
built-Close close at ts before now fs = refl

built-List : (at close : Place) (us : List Tree) → AllByRecursion Builds us → Builds (trees.List at us close)
built-List at close us all ts now fs =
    let regrouped : spelled (trees.List at us close) ++ ts ≡ Open at ∷ (flat_map spelled us ++ (Close close ∷ ts)) = ap (λ (x : List Token). x ++ ts) (spelled-List at close us) ∙ ap (λ (x : List Token). Open at ∷ x) (append_assoc (flat_map spelled us) (Close close ∷ []) ts) in
    ap (λ (x : List Token). built x now fs) regrouped ∙ built-Open at (flat_map spelled us ++ (Close close ∷ ts)) now fs ∙ build-all us all (Close close ∷ ts) [] (record { at = at; before = now } ∷ fs)
    ∙ built-Close close at ts now us fs

builds : (t : Tree) → Builds t
builds = by_parts Builds built-Atom built-Number built-List

all-build : (us : List Tree) → AllByRecursion Builds us
all-build [] = tt
all-build (u ∷ us) = (builds u, all-build us)

whole : (us : List Tree) → built (flat_map spelled us) [] [] ≡ Some us
unfolding built
whole us = ap (λ (x : List Token). built x [] []) (sym (append-nil (flat_map spelled us))) ∙ build-all us (all-build us) [] [] []

pub one_meaning : (text : List ℕ) (a b : List Tree) → Means text a → Means text b → a ≡ b
one_meaning text a b m n =
    let e : Some a ≡ Some b = sym (whole a) ∙ ap (λ (x : List Token). built x [] []) (sym m.tokens ∙ n.tokens) ∙ whole b in
    cc

-- ---- the reader's clauses

pub found_is : (text : List ℕ) (r : Result (List Tree) SexprFault) → IfOk r (λ ts. Means text ts) → IfErr r (IsFault (first_fault text)) → (ts : List Tree) → Means text ts → MatchResult r (λ found. found ≡ ts) (λ f. f ≡ Memory)
found_is text (Ok found) m f ts n = one_meaning text found ts m n
found_is text (Err Memory) m f ts n = refl
found_is text (Err (Unclosed at)) m f ts n = absurd (cc (f, no_fault text ts n))
found_is text (Err (Unopened at)) m f ts n = absurd (cc (f, no_fault text ts n))
found_is text (Err (BadAtom at)) m f ts n = absurd (cc (f, no_fault text ts n))
found_is text (Err (TooDeep at)) m f ts n = absurd (cc (f, no_fault text ts n))

pub faultless : (text : List ℕ) (r : Result (List Tree) SexprFault) → IfOk r (λ ts. Means text ts) → OnOk r (first_fault text ≡ None)
faultless text (Ok found) m = no_fault text found m
faultless text (Err f) m = tt
