-- What is printed is read again.
use Rattle.std.proofs.Common.{◌≡◌, ℕ, ◌<◌, true, false, List, [], ◌∷◌, ◌++◌, length, map, refl, sym, ap, subst, ◌∙◌, append_assoc, arith, inl, inr}
use Rattle.std.specs.List.{flat_map, AllByRecursion}
use Rattle.std.proofs.lemmas.List.{drop_at}
use Rattle.knox_text.specs.declared.place.Place.{Place}
use Rattle.knox_text.specs.Spot.{Spot}
use Rattle.knox_text.specs.Places.{next, behind, past}
use Rattle.knox_text.proofs.Numbering.{bool_cases}
use Rattle.knox_sexpr.specs.declared.token.Token.{Token}
use Rattle.knox_sexpr.specs.declared.token.Token.TheVariants.{Open, Close, Atom, Number, Bad}
use Rattle.knox_sexpr.specs.declared.tree.Tree.{Tree}
use Rattle.knox_sexpr.specs.declared.tree.Tree.TheVariants as trees
use Rattle.knox_sexpr.specs.Tokens.{is_word, run_at, token_of, tokens_from, word_token}
use Rattle.knox_sexpr.specs.Grammar.{spelled}
use Rattle.knox_sexpr.specs.Printing.{number_bytes, Shown, after_space, spaced, more_at, all_at, show, printed, line, lines, lines_at}
use Rattle.knox_sexpr.proofs.Pieces.{one_skipped, tokens-word, tokens-open, tokens-close}
use Rattle.knox_sexpr.proofs.Trees.{spelled-Atom, spelled-Number, spelled-List, tokens-none}
use Rattle.knox_sexpr.proofs.Meaning.{by_parts}
use Rattle.knox_sexpr.proofs.Shown.{show-Atom, show-Number, show-List}

abbrev spot : Place → List ℕ → Spot
spot at rest = record { at = at; rest = rest }

pub behind-append : (at : Place) (xs ys : List ℕ) → behind at (xs ++ ys) ≡ behind (behind at xs) ys
behind-append at [] ys = refl
behind-append at (x ∷ xs) ys = behind-append (next at x) xs ys

-- ---- words

-- bytes that are read as a token
abbrev pub IsLeaf : List ℕ → (Place → Token) → Type 0
IsLeaf word token = (0 < length word) × (run_at word ≡ word) × ((q : Place) → word_token q word ≡ token q)

abbrev pub IsGood : Token → Type 0
IsGood (Atom at word) = IsLeaf word (λ q. Atom q word)
IsGood (Number at width value) = IsLeaf (number_bytes width value) (λ q. Number q width value)
IsGood (Open at) = Unit {0}
IsGood (Close at) = Unit {0}
IsGood (Bad at) = Unit {0}

first-word : (b : ℕ) (word : List ℕ) → run_at (b ∷ word) ≡ b ∷ word → (is_word b ≡ true) × (run_at word ≡ word)
first-word b word h = elim (bool_cases (is_word b)) [
  | inl y ↦ let more : b ∷ run_at word ≡ b ∷ word = rw y at h in (y, cc)
  | inr n ↦ let never : [] ≡ b ∷ word = rw n at h in absurd cc
]

run-append : (word rest : List ℕ) → run_at word ≡ word → run_at rest ≡ [] → run_at (word ++ rest) ≡ word
run-append [] rest h e = e
run-append (b ∷ word) rest h e = let f = first-word b word h in rw f.0 (ap (λ (w : List ℕ). b ∷ w) (run-append word rest f.1 e))

leaf-read : (word : List ℕ) (token : Place → Token) → IsLeaf word token → (at : Place) (rest : List ℕ) → run_at rest ≡ [] → tokens_from (spot at (word ++ rest)) ≡ token at ∷ tokens_from (spot (behind at word) rest)
leaf-read [] token leaf at rest e = absurd (omega (arith, leaf.0))
leaf-read (b ∷ word) token leaf at rest e =
    let s : Spot = spot at ((b ∷ word) ++ rest) in
    let read = tokens-word s b refl (first-word b word leaf.1).0 in
    let run : run_at ((b ∷ word) ++ rest) ≡ b ∷ word = run-append (b ∷ word) rest leaf.1 e in
    let after : past (b ∷ word) s ≡ spot (behind at (b ∷ word)) rest = ap (spot (behind at (b ∷ word))) (drop_at (b ∷ word) rest (length (b ∷ word)) refl) in
    read ∙ ap (λ (w : List ℕ). word_token at w ∷ tokens_from (past w s)) run ∙ ap (λ (t : Token). t ∷ tokens_from (past (b ∷ word) s)) (leaf.2 at) ∙ ap (λ (r : Spot). token at ∷ tokens_from r) after

tokens-space : (at : Place) (rest : List ℕ) → tokens_from (spot at (32 ∷ rest)) ≡ tokens_from (spot (next at 32) rest)
unfolding tokens_from
tokens-space at rest = ap (map token_of) (one_skipped false at 32 rest refl)

tokens-feed : (at : Place) (rest : List ℕ) → tokens_from (spot at (10 ∷ rest)) ≡ tokens_from (spot (next at 10) rest)
unfolding tokens_from
tokens-feed at rest = ap (map token_of) (one_skipped false at 10 rest refl)

-- ---- trees

abbrev tokens_at : Place → List ℕ → List Token
tokens_at at rest = tokens_from (spot at rest)

-- what is shown is read as the tree that stands there
abbrev ReadsAs : Shown → Type 0
ReadsAs s = (at : Place) (rest : List ℕ) → run_at rest ≡ [] → tokens_at at (s.bytes ++ rest) ≡ spelled (s.tree_at at) ++ tokens_at (behind at s.bytes) rest

stops-more : (ss : List Shown) (rest : List ℕ) → run_at rest ≡ [] → run_at (flat_map after_space ss ++ rest) ≡ []
stops-more [] rest e = e
stops-more (s ∷ ss) rest e = refl

more-read : (ss : List Shown) → AllByRecursion ReadsAs ss → (at : Place) (rest : List ℕ) → run_at rest ≡ []
    → tokens_at at (flat_map after_space ss ++ rest) ≡ flat_map spelled (more_at at ss) ++ tokens_at (behind at (flat_map after_space ss)) rest
more-read [] all at rest e = refl
more-read (s ∷ ss) all at rest e =
    let more = flat_map after_space ss in
    let here = next at 32 in
    let there = behind here s.bytes in
    let regrouped : flat_map after_space (s ∷ ss) ++ rest ≡ 32 ∷ (s.bytes ++ (more ++ rest)) = append_assoc (32 ∷ s.bytes) more rest in
    let ends : behind at (flat_map after_space (s ∷ ss)) ≡ behind there more = behind-append at (32 ∷ s.bytes) more in
    ap (tokens_at at) regrouped ∙ tokens-space at (s.bytes ++ (more ++ rest)) ∙ all.0 here (more ++ rest) (stops-more ss rest e)
    ∙ ap (λ (x : List Token). spelled (s.tree_at here) ++ x) (more-read ss all.1 there rest e)
    ∙ sym (append_assoc (spelled (s.tree_at here)) (flat_map spelled (more_at there ss)) (tokens_at (behind there more) rest))
    ∙ ap (λ (p : Place). (spelled (s.tree_at here) ++ flat_map spelled (more_at there ss)) ++ tokens_at p rest) (sym ends)

spaced-read : (ss : List Shown) → AllByRecursion ReadsAs ss → (at : Place) (rest : List ℕ) → run_at rest ≡ []
    → tokens_at at (spaced ss ++ rest) ≡ flat_map spelled (all_at at ss) ++ tokens_at (behind at (spaced ss)) rest
spaced-read [] all at rest e = refl
spaced-read (s ∷ ss) all at rest e =
    let more = flat_map after_space ss in
    let there = behind at s.bytes in
    ap (tokens_at at) (append_assoc s.bytes more rest) ∙ all.0 at (more ++ rest) (stops-more ss rest e)
    ∙ ap (λ (x : List Token). spelled (s.tree_at at) ++ x) (more-read ss all.1 there rest e)
    ∙ sym (append_assoc (spelled (s.tree_at at)) (flat_map spelled (more_at there ss)) (tokens_at (behind there more) rest))
    ∙ ap (λ (p : Place). (spelled (s.tree_at at) ++ flat_map spelled (more_at there ss)) ++ tokens_at p rest) (sym (behind-append at s.bytes more))

abbrev listed : List Shown → Shown
listed ss = record { bytes = 40 ∷ (spaced ss ++ 41 ∷ []); tree_at = λ p. trees.List p (all_at (next p 40) ss) (behind (next p 40) (spaced ss)) }

list-read : (ss : List Shown) → AllByRecursion ReadsAs ss → ReadsAs (listed ss)
list-read ss all at rest e =
    let inside = next at 40 in
    let parts = all_at inside ss in
    let close = behind inside (spaced ss) in
    let regrouped : (40 ∷ (spaced ss ++ 41 ∷ [])) ++ rest ≡ 40 ∷ (spaced ss ++ (41 ∷ rest)) = ap (λ (x : List ℕ). 40 ∷ x) (append_assoc (spaced ss) (41 ∷ []) rest) in
    ap (tokens_at at) regrouped ∙ tokens-open (spot at (40 ∷ (spaced ss ++ (41 ∷ rest)))) refl
    ∙ ap (λ (x : List Token). Open at ∷ x) (spaced-read ss all inside (41 ∷ rest) refl ∙ ap (λ (x : List Token). flat_map spelled parts ++ x) (tokens-close (spot close (41 ∷ rest)) refl))
    ∙ ap (λ (x : List Token). Open at ∷ x) (sym (append_assoc (flat_map spelled parts) (Close close ∷ []) (tokens_at (next close 41) rest)))
    ∙ ap (λ (x : List Token). x ++ tokens_at (next close 41) rest) (sym (spelled-List at close parts))
    ∙ ap (λ (p : Place). spelled (trees.List at parts close) ++ tokens_at p rest) (sym (behind-append inside (spaced ss) (41 ∷ [])))

abbrev AreGood : List Token → Type 0
AreGood ts = AllByRecursion IsGood ts

good-front : (xs ys : List Token) → AreGood (xs ++ ys) → AreGood xs
good-front [] ys h = tt
good-front (x ∷ xs) ys h = (h.0, good-front xs ys h.1)

good-back : (xs ys : List Token) → AreGood (xs ++ ys) → AreGood ys
good-back [] ys h = h
good-back (x ∷ xs) ys h = good-back xs ys h.1

abbrev Reads : Tree → Type 0
Reads t = AreGood (spelled t) → ReadsAs (show t)

reads-Atom : (at : Place) (word : List ℕ) → Reads (trees.Atom at word)
reads-Atom at word good =
    let leaf = (subst AreGood (spelled-Atom at word) good).0 in
    subst ReadsAs (sym (show-Atom at word)) (λ p rest e. leaf-read word (λ q. Atom q word) leaf p rest e ∙ ap (λ (x : List Token). x ++ tokens_at (behind p word) rest) (sym (spelled-Atom p word)))

reads-Number : (at : Place) (width value : ℕ) → Reads (trees.Number at width value)
reads-Number at width value good =
    let leaf = (subst AreGood (spelled-Number at width value) good).0 in
    let word = number_bytes width value in
    subst ReadsAs (sym (show-Number at width value)) (λ p rest e. leaf-read word (λ q. Number q width value) leaf p rest e ∙ ap (λ (x : List Token). x ++ tokens_at (behind p word) rest) (sym (spelled-Number p width value)))

reads-all : (ts : List Tree) → AllByRecursion Reads ts → AreGood (flat_map spelled ts) → AllByRecursion ReadsAs (map show ts)
reads-all [] all good = tt
reads-all (t ∷ ts) all good = (all.0 (good-front (spelled t) (flat_map spelled ts) good), reads-all ts all.1 (good-back (spelled t) (flat_map spelled ts) good))

reads-List : (at close : Place) (ts : List Tree) → AllByRecursion Reads ts → Reads (trees.List at ts close)
reads-List at close ts all good =
    let inner = (subst AreGood (spelled-List at close ts) good).1 in
    subst ReadsAs (sym (show-List at close ts)) (list-read (map show ts) (reads-all ts all (good-front (flat_map spelled ts) (Close close ∷ []) inner)))

reads : (t : Tree) → Reads t
reads = by_parts Reads reads-Atom reads-Number reads-List

pub lines-read : (ts : List Tree) → AreGood (flat_map spelled ts) → (at : Place) → tokens_at at (lines ts) ≡ flat_map spelled (lines_at at ts)
lines-read [] good at = tokens-none (spot at []) refl
lines-read (t ∷ ts) good at =
    let there = behind at (printed t) in
    let here = (show t).tree_at at in
    let regrouped : line t ++ lines ts ≡ printed t ++ (10 ∷ lines ts) = append_assoc (printed t) (10 ∷ []) (lines ts) in
    ap (tokens_at at) regrouped ∙ reads t (good-front (spelled t) (flat_map spelled ts) good) at (10 ∷ lines ts) refl
    ∙ ap (λ (x : List Token). spelled here ++ x) (tokens-feed there (lines ts))
    ∙ ap (λ (x : List Token). spelled here ++ x) (lines-read ts (good-back (spelled t) (flat_map spelled ts) good) (next there 10))
