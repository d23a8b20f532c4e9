-- The values of terms as nodes are added, and the variables among the nodes.
use Rattle.std.proofs.Common.{◌≡◌, ℕ, zero, suc, ◌+◌, ◌<◌, ◌≤◌, Bool, List, [], ◌∷◌, ◌++◌, append-nil, length, take, drop, slice_get, Some, refl, sym, ◌∙◌, ap, arith, add-one, length-append, nat_lt, true, false, if◌then◌else◌}
use Rattle.std.proofs.Math.ListN.{get_or-append}
use Rattle.std.proofs.Math.Seq.{get_or-append_seam}
use Rattle.std.proofs.lemmas.List.{length-take-le, take-append-drop}
use Rattle.std.proofs.lemmas.Option.{slice_get_within}
use Rattle.std.proofs.lemmas.List.Sums.{fold-append}
use Rattle.std.proofs.lemmas.Bool.{lt-ltb}
use Rattle.std.specs.List.{fold, list_all}
use Rattle.knox_words.specs.Bits.{Bits, bits, word_at}
use Rattle.term_graph.specs.declared.node.Node.{Node}
use Rattle.term_graph.specs.declared.node.Node.TheVariants as node
use Rattle.term_graph.specs.Value.{level, valued, values, value, vars_from, vars_of, is_var}
use Rattle.term_graph.specs.Built.{Below, IsNext, IsBuilt}

length-folded : (v ws : List Bits) (ns : List Node) → length (fold (valued v) ws ns) ≡ length ws + length ns
length-folded v ws [] = omega arith
length-folded v ws (n ∷ ns) = omega (arith, length-folded v (valued v ws n) ns, length-append ws (level v (word_at ws) n ∷ []))

folded-kept : (v ws : List Bits) (ns : List Node) (k : ℕ) → k < length ws → word_at (fold (valued v) ws ns) k ≡ word_at ws k
folded-kept v ws [] k h = refl
folded-kept v ws (n ∷ ns) k h =
    let longer : k < length (valued v ws n) = omega (arith, length-append ws (level v (word_at ws) n ∷ [])) in
    folded-kept v (valued v ws n) ns k longer ∙ get_or-append ws (level v (word_at ws) n ∷ []) (bits 1 0) k h

pub length-values : (v : List Bits) (ns : List Node) → length (values v ns) ≡ length ns
unfolding values
length-values v ns = omega (arith, length-folded v [] ns)

pub values-append : (v : List Bits) (ns ms : List Node) → values v (ns ++ ms) ≡ fold (valued v) (values v ns) ms
unfolding values
values-append v ns ms = fold-append (valued v) [] ns ms

pub value-kept : (v : List Bits) (ns ms : List Node) (k : ℕ) → k < length ns → value v (ns ++ ms) k ≡ value v ns k
value-kept v ns ms k h =
    let lt : k < length (values v ns) = omega (arith, length-values v ns) in
    ap (λ (ws : List Bits). word_at ws k) (values-append v ns ms) ∙ folded-kept v (values v ns) ms k lt

-- the value at the seam
pub value-seam : (v : List Bits) (ns ms : List Node) (n : Node) → value v (ns ++ n ∷ ms) (length ns) ≡ level v (value v ns) n
value-seam v ns ms n =
    let ws = values v ns in
    let is : length ns ≡ length ws = sym (length-values v ns) in
    let lt : length ns < length (valued v ws n) = omega (arith, length-append ws (level v (word_at ws) n ∷ []), length-values v ns) in
    ap (λ (us : List Bits). word_at us (length ns)) (values-append v ns (n ∷ ms))
    ∙ (folded-kept v (valued v ws n) ms (length ns) lt
    ∙ (ap (word_at (valued v ws n)) is ∙ get_or-append_seam ws (level v (word_at ws) n) [] (bits 1 0)))

-- a node looks at its children alone
pub level-local : (v : List Bits) (f g : ℕ → Bits) (k : ℕ) (n : Node) → ((j : ℕ) → j < k → f j ≡ g j) → Below k n → level v f n ≡ level v g n
level-local v f g k (node.Var w n) h b = refl
level-local v f g k (node.Word w) h b = refl
level-local v f g k (node.Un o a) h b = rw (h a b) refl
level-local v f g k (node.Bin o x y) h b = rw (h x b.0, h y b.1) refl
level-local v f g k (node.Sext a n) h b = rw (h a b) refl
level-local v f g k (node.Uext a n) h b = rw (h a b) refl
level-local v f g k (node.Slice a x y) h b = rw (h a b) refl
level-local v f g k (node.Ite c x y) h b = rw (h c b.0, h x b.1, h y b.2) refl

pub slice_get-append_left : (xs ys : List Node) (k : ℕ) → k < length xs → slice_get (xs ++ ys) k ≡ slice_get xs k
slice_get-append_left [] ys k h = absurd (omega arith)
slice_get-append_left (x ∷ xs) ys zero h = refl
slice_get-append_left (x ∷ xs) ys (suc k) h = slice_get-append_left xs ys k (omega arith)

pub slice_get-seam : (xs : List Node) (x : Node) (ys : List Node) → slice_get (xs ++ x ∷ ys) (length xs) ≡ Some x
slice_get-seam [] x ys = refl
slice_get-seam (z ∷ xs) x ys = slice_get-seam xs x ys

pub split-at : (ns : List Node) (t : ℕ) (n : Node) → slice_get ns t ≡ Some n → ns ≡ take t ns ++ n ∷ drop (suc t) ns
split-at [] t n e = cc
split-at (m ∷ ns) zero n e = let is : m ≡ n = cc in rw is refl
split-at (m ∷ ns) (suc t) n e = ap (λ (xs : List Node). m ∷ xs) (split-at ns t n e)

pub value-node : (v : List Bits) (ns : List Node) (t : ℕ) (n : Node) → IsBuilt ns → slice_get ns t ≡ Some n → value v ns t ≡ level v (value v ns) n
value-node v ns t n built e =
    let parts : ns ≡ take t ns ++ n ∷ drop (suc t) ns = split-at ns t n e in
    let lt : t < length ns = slice_get_within ns t n e in
    let len : length (take t ns) ≡ t = length-take-le t ns (omega arith) in
    let next : IsNext (take t ns) n = built.each t n e in
    let same : (j : ℕ) → j < length (take t ns) → value v (take t ns) j ≡ value v ns j =
    (λ j h. sym (value-kept v (take t ns) (n ∷ drop (suc t) ns) j h) ∙ ap (λ (xs : List Node). value v xs j) (sym parts)) in
    ap (λ (xs : List Node). value v xs t) parts
    ∙ (ap (value v (take t ns ++ n ∷ drop (suc t) ns)) (sym len)
    ∙ (value-seam v (take t ns) (drop (suc t) ns) n
    ∙ level-local v (value v (take t ns)) (value v ns) (length (take t ns)) n same next.below))

-- one more node is valued
pub values-more : (v : List Bits) (ns : List Node) (i : ℕ) (n : Node) → slice_get ns i ≡ Some n → values v (take (i + 1) ns) ≡ values v (take i ns) ++ level v (word_at (values v (take i ns))) n ∷ []
values-more v ns i n e = ap (values v) (taken ns i n e) ∙ values-append v (take i ns) (n ∷ [])
  where
    taken : (ns : List Node) (i : ℕ) (n : Node) → slice_get ns i ≡ Some n → take (i + 1) ns ≡ take i ns ++ n ∷ []
    taken [] i n e = cc
    taken (m ∷ ns) zero n e = let is : m ≡ n = cc in rw is refl
    taken (m ∷ ns) (suc i) n e = rw add-one (ap (λ (xs : List Node). m ∷ xs) (sym (ap (λ (k : ℕ). take k ns) (add-one i)) ∙ taken ns i n e))

pub value-taken : (v : List Bits) (ns : List Node) (i t : ℕ) → t < i → i ≤ length ns → value v (take i ns) t ≡ value v ns t
value-taken v ns i t h le =
    let lt : t < length (take i ns) = omega (arith, length-take-le i ns le) in
    sym (value-kept v (take i ns) (drop i ns) t lt) ∙ ap (λ (xs : List Node). value v xs t) (take-append-drop i ns)

-- the last value is that of its node
pub value-last : (v : List Bits) (ns : List Node) (t : ℕ) (n : Node) → slice_get ns t ≡ Some n → value v ns t ≡ level v (word_at (values v (take t ns))) n
value-last v ns t n e =
    let parts : ns ≡ take t ns ++ n ∷ drop (suc t) ns = split-at ns t n e in
    let lt : t < length ns = slice_get_within ns t n e in
    let len : length (take t ns) ≡ t = length-take-le t ns (omega arith) in
    ap (λ (xs : List Node). value v xs t) parts ∙ (ap (value v (take t ns ++ n ∷ drop (suc t) ns)) (sym len) ∙ value-seam v (take t ns) (drop (suc t) ns) n)

pub values-none : (v : List Bits) → values v [] ≡ []
unfolding values
values-none v = refl

pub ruleset valuing = (values-more, value-last, values-none)

-- the variables of two parts
pub vars_from-append : (k : ℕ) (ns ms : List Node) → vars_from k (ns ++ ms) ≡ vars_from k ns ++ vars_from (k + length ns) ms
vars_from-append k [] ms = let is : k ≡ k + 0 = omega arith in ap (λ (j : ℕ). vars_from j ms) is
vars_from-append k (n ∷ ns) ms =
    let is : suc k + length ns ≡ k + suc (length ns) = omega arith in
    by_test (is_var n) (vars_from-append (suc k) ns ms ∙ ap (λ (j : ℕ). vars_from (suc k) ns ++ vars_from j ms) is)
  where
    by_test : (t : Bool) → vars_from (suc k) (ns ++ ms) ≡ vars_from (suc k) ns ++ vars_from (k + suc (length ns)) ms → (if t then k ∷ vars_from (suc k) (ns ++ ms) else vars_from (suc k) (ns ++ ms)) ≡ (if t then k ∷ vars_from (suc k) ns else vars_from (suc k) ns) ++ vars_from (k + suc (length ns)) ms
    by_test true later = ap (λ (l : List ℕ). k ∷ l) later
    by_test false later = later

pub vars-plain : (ns : List Node) (n : Node) → is_var n ≡ false → vars_of (ns ++ n ∷ []) ≡ vars_of ns
vars-plain ns n plain = vars_from-append 0 ns (n ∷ []) ∙ (rw plain (append-nil (vars_of ns)))

pub vars-made : (ns : List Node) (w n : ℕ) → vars_of (ns ++ node.Var w n ∷ []) ≡ vars_of ns ++ length ns ∷ []
vars-made ns w n = let is : 0 + length ns ≡ length ns = omega arith in vars_from-append 0 ns (node.Var w n ∷ []) ∙ ap (λ (k : ℕ). vars_of ns ++ k ∷ []) is

-- the places of the variables are places
pub vars-within : (k : ℕ) (ns : List Node) (m : ℕ) → k + length ns ≤ m → list_all (λ t. nat_lt t m) (vars_from k ns) ≡ true
vars-within k [] m le = refl
vars-within k (n ∷ ns) m le =
    let lt : k < m = omega arith in
    let more : suc k + length ns ≤ m = omega arith in
    by_test (is_var n) (lt-ltb k m lt) (vars-within (suc k) ns m more)
  where
    by_test : (t : Bool) → nat_lt k m ≡ true → list_all (λ t. nat_lt t m) (vars_from (suc k) ns) ≡ true → list_all (λ t. nat_lt t m) (if t then k ∷ vars_from (suc k) ns else vars_from (suc k) ns) ≡ true
    by_test true first later = rw first later
    by_test false first later = later
