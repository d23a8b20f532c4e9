-- What trees are spelled, and the faults of what they are spelled.
use Rattle.std.proofs.Common.{◌≡◌, ℕ, zero, suc, ◌+◌, ◌≤◌, false, eqb, List, [], ◌∷◌, ◌++◌, map, Some, None, refl, sym, ap, subst, ◌∙◌, append_assoc, add-one, ◌-◌, arith}
use Rattle.std.specs.List.{flat_map}
use Rattle.std.proofs.lemmas.List.{append-nil, map-append}
use Rattle.std.proofs.lemmas.Grind.{flat_map-append}
use Rattle.knox_text.specs.declared.place.Place.{Place}
use Rattle.knox_text.specs.Spot.{Spot}
use Rattle.knox_text.specs.Places.{end_of, start_of}
use Rattle.knox_sexpr.specs.declared.fault.SexprFault.TheVariants.{Unclosed, Unopened, BadAtom, TooDeep}
use Rattle.knox_sexpr.specs.declared.token.Token.{Token}
use Rattle.knox_sexpr.specs.declared.token.Token.TheVariants.{Open, Close, Atom, Number, Bad}
use Rattle.knox_sexpr.specs.declared.tree.Tree.{Tree, fold-roll-Tree}
use Rattle.knox_sexpr.specs.declared.tree.Tree.TheVariants as trees
use Rattle.knox_sexpr.specs.declared.tree.Tree.TheOpen.{Tree-F}
use Rattle.knox_sexpr.specs.Tokens.{tokens_from, pieces_in}
use Rattle.knox_sexpr.specs.Faults.{fault_of, fault_from, first_fault}
use Rattle.knox_sexpr.specs.Steps.{ReadTrees, ReadTree}
use Rattle.knox_sexpr.specs.Grammar.{spelled_level, spelled, greatest, depth_level, depth, Means}

pub spelled-Atom : (at : Place) (word : List ℕ) → spelled (trees.Atom at word) ≡ Atom at word ∷ []
spelled-Atom at word = ap spelled (sym (trees.rolls-Atom at word)) ∙ fold-roll-Tree (List Token) spelled_level (Tree-F.Atom at word)

pub spelled-Number : (at : Place) (width value : ℕ) → spelled (trees.Number at width value) ≡ Number at width value ∷ []
spelled-Number at width value = ap spelled (sym (trees.rolls-Number at width value)) ∙ fold-roll-Tree (List Token) spelled_level (Tree-F.Number at width value)

flat_map-map : (ts : List Tree) → flat_map (λ p. p) (map spelled ts) ≡ flat_map spelled ts
flat_map-map [] = refl
flat_map-map (t ∷ ts) = ap (λ (rest : List Token). spelled t ++ rest) (flat_map-map ts)

pub spelled-List : (at close : Place) (ts : List Tree) → spelled (trees.List at ts close) ≡ Open at ∷ (flat_map spelled ts ++ Close close ∷ [])
spelled-List at close ts = ap spelled (sym (trees.rolls-List at ts close)) ∙ fold-roll-Tree (List Token) spelled_level (Tree-F.List at ts close) ∙ ap (λ (parts : List Token). Open at ∷ (parts ++ Close close ∷ [])) (flat_map-map ts)

pub depth-Atom : (at : Place) (word : List ℕ) → depth (trees.Atom at word) ≡ 0
depth-Atom at word = ap depth (sym (trees.rolls-Atom at word)) ∙ fold-roll-Tree ℕ depth_level (Tree-F.Atom at word)

pub depth-Number : (at : Place) (width value : ℕ) → depth (trees.Number at width value) ≡ 0
depth-Number at width value = ap depth (sym (trees.rolls-Number at width value)) ∙ fold-roll-Tree ℕ depth_level (Tree-F.Number at width value)

pub depth-List : (at close : Place) (ts : List Tree) → depth (trees.List at ts close) ≡ 1 + greatest (map depth ts)
depth-List at close ts = ap depth (sym (trees.rolls-List at ts close)) ∙ fold-roll-Tree ℕ depth_level (Tree-F.List at ts close)

pub greatest-push : (ns : List ℕ) (n limit : ℕ) → greatest ns ≤ limit → n ≤ limit → greatest (ns ++ n ∷ []) ≤ limit
greatest-push [] n limit h k = omega arith
greatest-push (m ∷ ns) n limit h k = let more = greatest-push ns n limit (omega arith) k in omega arith

-- ---- faults

pub fault-Atom : (end : Place) (d : ℕ) (at : Place) (word : List ℕ) (ts : List Token) → fault_of end d (Atom at word ∷ ts) ≡ fault_of end d ts
unfolding fault_of
fault-Atom end zero at word ts = refl
fault-Atom end (suc d) at word ts = refl

pub fault-Number : (end : Place) (d : ℕ) (at : Place) (width value : ℕ) (ts : List Token) → fault_of end d (Number at width value ∷ ts) ≡ fault_of end d ts
unfolding fault_of
fault-Number end zero at width value ts = refl
fault-Number end (suc d) at width value ts = refl

pub fault-Bad : (end : Place) (d : ℕ) (at : Place) (ts : List Token) → fault_of end d (Bad at ∷ ts) ≡ Some (BadAtom at)
unfolding fault_of
fault-Bad end zero at ts = refl
fault-Bad end (suc d) at ts = refl

pub fault-Open : (end : Place) (d : ℕ) (at : Place) (ts : List Token) → eqb d 256 ≡ false → fault_of end d (Open at ∷ ts) ≡ fault_of end (suc d) ts
unfolding fault_of
fault-Open end zero at ts h = refl
fault-Open end (suc d) at ts h = rw h refl

pub fault-deep : (end : Place) (at : Place) (ts : List Token) → fault_of end 256 (Open at ∷ ts) ≡ Some (TooDeep at)
unfolding fault_of
fault-deep end at ts = refl

pub fault-Close : (end : Place) (d : ℕ) (at : Place) (ts : List Token) → fault_of end (suc d) (Close at ∷ ts) ≡ fault_of end d ts
unfolding fault_of
fault-Close end d at ts = refl

fault-end : (end : Place) (d : ℕ) → fault_of end (suc d) [] ≡ Some (Unclosed end)
unfolding fault_of
fault-end end d = refl

pub fault-no_end : (end : Place) → fault_of end 0 [] ≡ None
unfolding fault_of
fault-no_end end = refl

pub fault-unopened : (end at : Place) (ts : List Token) → fault_of end 0 (Close at ∷ ts) ≡ Some (Unopened at)
unfolding fault_of
fault-unopened end at ts = refl

pub tokens-none : (s : Spot) → s.rest ≡ [] → tokens_from s ≡ []
unfolding tokens_from pieces_in
tokens-none s h = rw h refl

-- ---- steps

pub read-Atom : (d : ℕ) (token : Token) (s : Spot) (at : Place) (word : List ℕ) → token ≡ Atom at word → d ≤ 256 → ReadTree d token s (trees.Atom at word) s
read-Atom d token s at word e h = record {
  tokens = rw (e, spelled-Atom) refl;
  faults = ap (λ (x : Token). fault_of (end_of s) d (x ∷ tokens_from s)) e ∙ fault-Atom (end_of s) d at word (tokens_from s);
  depths = omega (arith, depth-Atom at word);
  shorter = omega arith;
}

pub read-Number : (d : ℕ) (token : Token) (s : Spot) (at : Place) (width value : ℕ) → token ≡ Number at width value → d ≤ 256 → ReadTree d token s (trees.Number at width value) s
read-Number d token s at width value e h = record {
  tokens = rw (e, spelled-Number) refl;
  faults = ap (λ (x : Token). fault_of (end_of s) d (x ∷ tokens_from s)) e ∙ fault-Number (end_of s) d at width value (tokens_from s);
  depths = omega (arith, depth-Number at width value);
  shorter = omega arith;
}

pub fault-opened : (d : ℕ) (token : Token) (s : Spot) (at : Place) → token ≡ Open at → eqb d 256 ≡ false → fault_from (d + 1) s ≡ fault_of (end_of s) d (token ∷ tokens_from s)
fault-opened d token s at e h = sym (ap (λ (x : Token). fault_of (end_of s) d (x ∷ tokens_from s)) e ∙ fault-Open (end_of s) d at (tokens_from s) h ∙ ap (λ (n : ℕ). fault_of (end_of s) n (tokens_from s)) (sym (add-one d)))

pub read-List : (d : ℕ) (token : Token) (old new : Spot) (at close : Place) (inner : List Tree) → token ≡ Open at → d ≤ 256 → eqb d 256 ≡ false
    → ReadTrees (d + 1) old inner (Some close) new → ReadTree d token old (trees.List at inner close) new
read-List d token old new at close inner e h n r = record {
  tokens = rw (e, r.tokens, spelled-List) (ap (λ (x : List Token). Open at ∷ x) (sym (append_assoc (flat_map spelled inner) (Close close ∷ []) (tokens_from new))));
  faults = sym (fault-opened d token old at e n) ∙ r.faults ∙ ap (λ (m : ℕ). fault_of (end_of new) m (Close close ∷ tokens_from new)) (add-one d) ∙ fault-Close (end_of new) d close (tokens_from new);
  depths = omega (arith, depth-List at close inner, r.depths);
  shorter = r.shorter;
}

pub unclosed : (d : ℕ) (token : Token) (old new : Spot) (at : Place) (inner : List Tree) → token ≡ Open at → eqb d 256 ≡ false → ReadTrees (d + 1) old inner None new
    → fault_of (end_of old) d (token ∷ tokens_from old) ≡ Some (Unclosed new.at)
unclosed d token old new at inner e n r =
    let nothing : tokens_from new ≡ [] = tokens-none new r.at_end in
    let end : end_of new ≡ new.at = rw r.at_end refl in
    sym (fault-opened d token old at e n) ∙ r.faults ∙ ap (λ (m : ℕ). fault_of (end_of new) m (tokens_from new)) (add-one d) ∙ ap (fault_of (end_of new) (suc d)) nothing ∙ fault-end (end_of new) d ∙ ap (λ (p : Place). Some (Unclosed p)) end

abbrev pub Done : ℕ → Spot → List Tree → Spot → Type 0
Done d old ts new = (tokens_from old ≡ flat_map spelled ts ++ tokens_from new) × (fault_from d old ≡ fault_from d new) × (greatest (map depth ts) + d ≤ 256)

pub step : (d : ℕ) (old at_token after_token new : Spot) (ts : List Tree) (t : Tree) (token : Token) → Done d old ts at_token
    → tokens_from at_token ≡ token ∷ tokens_from after_token → end_of after_token ≡ end_of at_token → ReadTree d token after_token t new → Done d old (ts ++ t ∷ []) new
step d old at_token after_token new ts t token done is end r =
    let spelled_now : flat_map spelled (ts ++ t ∷ []) ≡ flat_map spelled ts ++ spelled t = flat_map-append spelled ts (t ∷ []) ∙ ap (λ (x : List Token). flat_map spelled ts ++ x) (append-nil (spelled t)) in
    let depths_now : map depth (ts ++ t ∷ []) ≡ map depth ts ++ depth t ∷ [] = map-append depth ts (t ∷ []) in
    let below : greatest (map depth ts ++ depth t ∷ []) ≤ 256 - d = greatest-push (map depth ts) (depth t) (256 - d) (omega (arith, done.2)) (omega (arith, r.depths)) in
    let le : d ≤ 256 = omega (arith, r.depths) in (
      done.0 ∙ ap (λ (x : List Token). flat_map spelled ts ++ x) is ∙ ap (λ (x : List Token). flat_map spelled ts ++ x) r.tokens ∙ sym (append_assoc (flat_map spelled ts) (spelled t) (tokens_from new)) ∙ ap (λ (x : List Token). x ++ tokens_from new) (sym spelled_now),
      done.1 ∙ ap (fault_of (end_of at_token) d) is ∙ ap (λ (p : Place). fault_of p d (token ∷ tokens_from after_token)) (sym end) ∙ r.faults,
      subst (λ (x : List ℕ). greatest x + d ≤ 256) (sym depths_now) (omega (arith, below, le)),
    )

-- ---- whole texts

pub all-read : (text : List ℕ) (old new : Spot) (ts : List Tree) → old ≡ start_of text → ReadTrees 0 old ts None new → Means text ts
all-read text old new ts e r =
    let nothing : tokens_from new ≡ [] = tokens-none new r.at_end in
    record {
      tokens = ap tokens_from (sym e) ∙ r.tokens ∙ ap (λ (x : List Token). flat_map spelled ts ++ x) nothing ∙ append-nil (flat_map spelled ts);
      depths = omega (arith, r.depths);
    }

pub unopened : (text : List ℕ) (old new : Spot) (ts : List Tree) (at : Place) → old ≡ start_of text → ReadTrees 0 old ts (Some at) new → first_fault text ≡ Some (Unopened at)
unopened text old new ts at e r = ap (fault_from 0) (sym e) ∙ r.faults ∙ fault-unopened (end_of new) at (tokens_from new)
