-- A power-cycle: words keep their widths, and each state's words are those that its turn gives it.
use Rattle.std.proofs.Common.{◌≡◌, ℕ, zero, suc, ◌+◌, ◌<◌, ◌≤◌, ◌&&◌, List, [], ◌∷◌, ◌++◌, Option, Some, None, Bool, true, false, not, is_some, drop, replicate, length, slice_get, get_or, refl, sym, ◌∙◌, ap, subst, arith, inl, if◌then◌else◌}
use Rattle.std.proofs.lemmas.Bool.{and_parts, lt-ltb}
use Rattle.std.proofs.lemmas.List.{length-append, length-replicate}
use Rattle.knox_words.specs.Bits.{Bits, word_or}
use Rattle.knox_words.specs.Lists.{fits, fit}
use Rattle.knox_words.proofs.Lists.{fit-drop}
use Rattle.circuit_nodes.specs.declared.node.Node.{Node}
use Rattle.circuit_nodes.specs.declared.node.Next.{Next}
use Rattle.circuit_nodes.specs.declared.node.Next.TheVariants as next
use Rattle.circuit_nodes.specs.declared.node.SortOf.{SortOf}
use Rattle.circuit_nodes.specs.declared.node.SortOf.TheVariants.{Words}
use Rattle.circuit_nodes.specs.declared.node.State.{State}
use Rattle.circuit_nodes.specs.declared.power.Fresh.{Fresh}
use Rattle.circuit_nodes.specs.declared.power.Fresh.TheVariants as fresh
use Rattle.circuit_nodes.specs.Values.{Value, word_or_zero, words_within, arg_word}
use Rattle.circuit_nodes.specs.Ticks.{first_words}
use Rattle.circuit_nodes.specs.Starts.{values, first_keep, by_init, fresh_of, words_by, taken_by, placed, with_state, keep_after, built, Outside}
use Rattle.circuit_nodes.proofs.ListLemmas.{slice_get-append}
use Rattle.circuit_nodes.proofs.StartsLemmas.{length-words_by, kept-outside}
use Rattle.circuit_table.specs.Sorts.{word_width}
use Rattle.circuit_table.specs.Typed.{InitSuits}
use Rattle.knox_circuit.specs.Parts.{widths_where}
use Rattle.circuit_laws.proofs.FitLemmas.{FitsAt, Wide, first-wide, same-wide, slice_get-same, length-placed, placed-at, placed-fits}
use Rattle.circuit_laws.proofs.SuitsLemmas.{Sorts, AllSuit, arg-fits}
use Rattle.circuit_laws.proofs.StatesLemmas.{cell_count, bare_count, LaidOut, Every}
use Rattle.circuit_laws.proofs.ByCellLemmas.{turn}
use Rattle.circuit_laws.proofs.WidthsLemmas.{Placed, IsFit}

-- ---- noise

-- whether a state takes noise words
abbrev pub takes : State → List Bool → Bool
takes s keep = not (is_some s.init) && not (is_some s.next && first_keep keep)

-- the widths of the noise words
abbrev pub noise_in : List State → List Bool → List ℕ
noise_in [] keep = []
noise_in (s ∷ ss) keep = (if takes s keep then replicate s.words s.width else []) ++ noise_in ss (keep_after s keep)

-- words that fit, by place
pub fit-get : (ws : List ℕ) (xs : List Bits) (p w : ℕ) (d : Bits) → fit ws xs ≡ true → slice_get ws p ≡ Some w → fits w (get_or xs p d) ≡ true
fit-get [] xs p w d h is = cc
fit-get (v ∷ ws) [] p w d h is = cc
fit-get (v ∷ ws) (x ∷ xs) zero w d h is = let e : v ≡ w = cc in subst (λ (z : ℕ). fits z x ≡ true) e (and_parts (fits v x) (fit ws xs) h).0
fit-get (v ∷ ws) (x ∷ xs) (suc p) w d h is = fit-get ws xs p w d (and_parts (fits v x) (fit ws xs) h).1 is

record Noise (n w : ℕ) (f : Fresh) (rest : List ℕ) (noise : List Bits) : Type 0 where
  wide : f ≡ fresh.Noise → (j : ℕ) (d : Bits) → j < n → fits w (get_or noise j d) ≡ true
  left : fit rest (drop (taken_by n f) noise) ≡ true

noise-by : (n w : ℕ) (init : Option Next) (rest : List ℕ) (noise : List Bits) → fit ((if not (is_some init) && true then replicate n w else []) ++ rest) noise ≡ true → Noise n w (by_init init) rest noise
noise-by n w None rest noise h = record {
  wide = λ e j d lt. fit-get (replicate n w ++ rest) noise j w d h (slice_get-append (replicate n w) rest j (let l = length-replicate n w in omega (arith, l, lt)) ∙ slice_get-same n j w lt);
  left = ap (λ (m : ℕ). fit rest (drop m noise)) (sym (length-replicate n w)) ∙ fit-drop (replicate n w) rest noise h;
}
noise-by n w (Some (next.Word a)) rest noise h = record { wide = λ e j d lt. cc; left = h }
noise-by n w (Some (next.Array k m)) rest noise h = record { wide = λ e j d lt. cc; left = h }

noise-kept : (n w : ℕ) (b : Bool) (rest : List ℕ) (noise : List Bits) → fit ((if b && false then replicate n w else []) ++ rest) noise ≡ true → Noise n w fresh.Kept rest noise
noise-kept n w true rest noise h = record { wide = λ e j d lt. cc; left = h }
noise-kept n w false rest noise h = record { wide = λ e j d lt. cc; left = h }

noise-step : (n w : ℕ) (kept : Bool) (init : Option Next) (rest : List ℕ) (noise : List Bits) → fit ((if not (is_some init) && not kept then replicate n w else []) ++ rest) noise ≡ true → Noise n w (if kept then fresh.Kept else by_init init) rest noise
noise-step n w true init rest noise h = noise-kept n w (not (is_some init)) rest noise h
noise-step n w false init rest noise h = noise-by n w init rest noise h

-- ---- words keep their widths

pub within-word : (words : List Bits) (first n w j : ℕ) → j < n → words_within words first n w j ≡ word_or_zero words w (first + j)
within-word words first n w j lt = ap (λ (b : Bool). if b then word_or_zero words w (first + j) else word_or w 0) (lt-ltb j n lt)

init-wide : (sorts : Sorts) (at : ℕ → Value) (s : State) (t : SortOf) (old noise : List Bits) (init : Option Next) → AllSuit sorts at → word_width t ≡ s.width → InitSuits sorts (Some t) init → (by_init init ≡ fresh.Noise → (j : ℕ) (d : Bits) → j < s.words → fits s.width (get_or noise j d) ≡ true) → Wide s.words s.width (words_by at s old noise (by_init init))
init-wide sorts at s t old noise None all wide h taken =
    first-wide (words_within noise 0 s.words s.width) s.words s.width (λ j lt.
    let at : 0 + j ≡ j = omega arith in
    subst (λ (x : Bits). fits s.width x ≡ true) (sym (within-word noise 0 s.words s.width j lt ∙ ap (word_or_zero noise s.width) at)) (taken refl j (word_or s.width 0) lt))
init-wide sorts at s t old noise (Some (next.Word a)) all wide h taken =
    same-wide s.words s.width (arg_word at a) (subst (λ (w : ℕ). fits w (arg_word at a) ≡ true) wide (arg-fits at a (Words (word_width t)) (all a.node (Words (word_width t)) h)))
init-wide sorts at s t old noise (Some (next.Array k m)) all wide h taken =
    first-wide (at k) s.words s.width (λ j lt. subst (λ (w : ℕ). fits w (at k j) ≡ true) wide (all k t h j))

fresh-wide : (sorts : Sorts) (ws : List ℕ) (at : ℕ → Value) (s : State) (old noise : List Bits) (kept : Bool) → AllSuit sorts at → IsFit sorts s → Placed ws s → FitsAt ws old → ((if kept then fresh.Kept else by_init s.init) ≡ fresh.Noise → (j : ℕ) (d : Bits) → j < s.words → fits s.width (get_or noise j d) ≡ true) → Wide s.words s.width (words_by at s old noise (if kept then fresh.Kept else by_init s.init))
fresh-wide sorts ws at s old noise true all is own fo taken =
    first-wide (words_within old s.first s.words s.width) s.words s.width (λ j lt.
    subst (λ (x : Bits). fits s.width x ≡ true) (sym (within-word old s.first s.words s.width j lt)) (fo (s.first + j) s.width (own.own j lt)))
fresh-wide sorts ws at s old noise false all is own fo taken = init-wide sorts at s is.sort old noise s.init all is.wide is.init taken

pub record Built (ws : List ℕ) (state : List Bits) : Type 0 where
  pub fits : FitsAt ws state
  pub long : length state ≡ length ws

pub length-with : (ns : List Node) (s : State) (f : Fresh) (old noise state : List Bits) → s.first + s.words ≤ length state → length (with_state ns s f old noise state) ≡ length state
length-with ns s f old noise state within =
    let long = length-words_by (values ns state) s old noise f in
    length-placed state (words_by (values ns state) s old noise f) s.first (omega (arith, long, within))

pub built-fits : (sorts : Sorts) (ws : List ℕ) (ns : List Node) → ((state : List Bits) → FitsAt ws state → AllSuit sorts (values ns state)) → (ss : List State) (keep : List Bool) (old noise state : List Bits) → Every (IsFit sorts) ss → Every (Placed ws) ss → FitsAt ws old → fit (noise_in ss keep) noise ≡ true → Built ws state → Built ws (built ns ss keep old noise state)
built-fits sorts ws ns all [] keep old noise state is own fo fn h = h
built-fits sorts ws ns all (s ∷ ss) keep old noise state is own fo fn h =
    let kept = is_some s.next && first_keep keep in
    let f = fresh_of s keep in
    let step = noise-step s.words s.width kept s.init (noise_in ss (keep_after s keep)) noise fn in
    let within : s.first + s.words ≤ length state = let w = own.0.within in let l = h.long in omega (arith, w, l) in
    let wide = fresh-wide sorts ws (values ns state) s old noise kept (all state h.fits) is.0 own.0 fo step.wide in
    let put = placed-fits ws state (words_by (values ns state) s old noise f) s.first s.words s.width h.fits wide (length-words_by (values ns state) s old noise f) within own.0.own in
    built-fits sorts ws ns all ss (keep_after s keep) old (drop (taken_by s.words f) noise) (with_state ns s f old noise state) is.1 own.1 fo step.left
    (record { fits = put; long = length-with ns s f old noise state within ∙ h.long })

pub length-after : (ns : List Node) (ss : List State) (keep : List Bool) (old noise state : List Bits) → Every (λ (s : State). s.first + s.words ≤ length state) ss → length (built ns ss keep old noise state) ≡ length state
length-after ns [] keep old noise state within = refl
length-after ns (s ∷ ss) keep old noise state within =
    let f = fresh_of s keep in
    let same = length-with ns s f old noise state within.0 in
    length-after ns ss (keep_after s keep) old (drop (taken_by s.words f) noise) (with_state ns s f old noise state)
    (subst (λ (n : ℕ). Every (λ (t : State). t.first + t.words ≤ n) ss) (sym same) within.1)
    ∙ same

-- ---- each state's words stay as its turn gives them

-- states that are laid out after a place don't have it
later-outside : (ss : List State) (c b q : ℕ) → LaidOut c b ss → q < c → q < b → Every (λ (t : State). Outside t q) ss
later-outside [] c b q laid lc lb = tt
later-outside (s ∷ ss) c b q laid lc lb =
    let before : q < s.first = of (is_some s.next) laid.0 in
    (inl before, later-outside ss (c + cell_count s) (b + bare_count s) q laid.1 (omega arith) (omega arith)) where
      of : (x : Bool) → s.first ≡ (if x then c else b) → q < s.first
      of true e = omega arith
      of false e = omega arith

-- later states change no word outside theirs
built-keeps : (ns : List Node) (ss : List State) (keep : List Bool) (old noise state : List Bits) (q : ℕ) (d : Bits) → Every (λ (s : State). s.first + s.words ≤ length state) ss → Every (λ (t : State). Outside t q) ss → get_or (built ns ss keep old noise state) q d ≡ get_or state q d
built-keeps ns [] keep old noise state q d within outside = refl
built-keeps ns (s ∷ ss) keep old noise state q d within outside =
    let f = fresh_of s keep in
    let same = length-with ns s f old noise state within.0 in
    built-keeps ns ss (keep_after s keep) old (drop (taken_by s.words f) noise) (with_state ns s f old noise state) q d
    (subst (λ (n : ℕ). Every (λ (t : State). t.first + t.words ≤ n) ss) (sym same) within.1) outside.1
    ∙ sym (kept-outside ns s f old noise state within.0 q outside.0 d)

pub cell-word : (ns : List Node) (ss : List State) (keep : List Bool) (old noise state : List Bits) (c b k j : ℕ) (s : State) (d w : Bits) → LaidOut c b ss → c + length (widths_where true ss) ≤ b → Every (λ (s : State). s.first + s.words ≤ length state) ss → slice_get ss k ≡ Some s → is_some s.next ≡ true → j < s.words
    → ((noise state : List Bits) → get_or (words_by (values ns state) s old noise (fresh_of s (turn ss keep k))) j d ≡ w) → get_or (built ns ss keep old noise state) (s.first + j) d ≡ w
cell-word ns [] keep old noise state c b k j s d w laid le within is cell lt given = cc
cell-word ns (t ∷ ss) keep old noise state c b zero j s d w laid le within is cell lt given =
    let same : s ≡ t = cc in
    let f = fresh_of t keep in
    let ws = words_by (values ns state) t old noise f in
    let long : length ws ≡ t.words = length-words_by (values ns state) t old noise f in
    let few : j < t.words = subst (λ (z : State). j < z.words) same lt in
    let own : is_some t.next ≡ true = ap (λ (z : State). is_some z.next) (sym same) ∙ cell in
    let at : t.first ≡ c = laid.0 ∙ ap (λ (x : Bool). if x then c else b) own in
    let count : cell_count t ≡ t.words = ap (λ (x : Bool). if x then t.words else 0) own in
    let bare : bare_count t ≡ 0 = ap (λ (x : Bool). if x then 0 else t.words) own in
    let wide : length (widths_where true (t ∷ ss)) ≡ t.words + length (widths_where true ss) =
    ap (λ (x : Bool). length ((if x then replicate t.words t.width else []) ++ widths_where true ss)) own
    ∙ (length-append (replicate t.words t.width) (widths_where true ss) ∙ ap (λ (n : ℕ). n + length (widths_where true ss)) (length-replicate t.words t.width)) in
    let inside : t.first + t.words ≤ length state = within.0 in
    let len = length-with ns t f old noise state inside in
    let value : get_or (words_by (values ns state) t old noise (fresh_of t keep)) j d ≡ w = subst (λ (z : State). get_or (words_by (values ns state) z old noise (fresh_of z keep)) j d ≡ w) same (given noise state) in
    ap (λ (z : State). get_or (built ns (t ∷ ss) keep old noise state) (z.first + j) d) same
    ∙ (built-keeps ns ss (keep_after t keep) old (drop (taken_by t.words f) noise) (with_state ns t f old noise state) (t.first + j) d
    (subst (λ (n : ℕ). Every (λ (s : State). s.first + s.words ≤ n) ss) (sym len) within.1)
    (later-outside ss (c + cell_count t) (b + bare_count t) (t.first + j) laid.1 (omega (arith, at, count, few)) (omega (arith, at, wide, few, le)))
    ∙ (placed-at state ws t.first j d (omega (arith, long, inside)) (omega (arith, long, few)) ∙ value))
cell-word ns (t ∷ ss) keep old noise state c b (suc k) j s d w laid le within is cell lt given =
    let f = fresh_of t keep in
    let len = length-with ns t f old noise state within.0 in
    let few : c + cell_count t + length (widths_where true ss) ≤ b + bare_count t = of (is_some t.next) le in
    cell-word ns ss (keep_after t keep) old (drop (taken_by t.words f) noise) (with_state ns t f old noise state) (c + cell_count t) (b + bare_count t) k j s d w laid.1 few
    (subst (λ (n : ℕ). Every (λ (s : State). s.first + s.words ≤ n) ss) (sym len) within.1) is cell lt given where
      of : (x : Bool) → c + length ((if x then replicate t.words t.width else []) ++ widths_where true ss) ≤ b → c + (if x then t.words else 0) + length (widths_where true ss) ≤ b + (if x then 0 else t.words)
      of true h = let a = length-append (replicate t.words t.width) (widths_where true ss) in let l = length-replicate t.words t.width in omega (arith, a, l, h)
      of false h = omega (arith, h)

-- the words of the state before are looked at where cells are kept alone

abbrev pub SameKept : List State → List Bool → List Bits → List Bits → Type 0
SameKept [] keep old other = Unit {0}
SameKept (s ∷ ss) keep old other =
    ((is_some s.next && first_keep keep) ≡ true → (j : ℕ) (d : Bits) → j < s.words → get_or old (s.first + j) d ≡ get_or other (s.first + j) d) × SameKept ss (keep_after s keep) old other

first_words-same : (v u : Value) (n : ℕ) → ((j : ℕ) → j < n → v j ≡ u j) → first_words v n ≡ first_words u n
first_words-same v u zero h = refl
first_words-same v u (suc n) h = λ i. first_words-same v u n (λ j lt. h j (omega (arith, lt))) i ++ h n (omega arith) i ∷ []

fresh-same : (at : ℕ → Value) (s : State) (old other noise : List Bits) (kept : Bool) → (kept ≡ true → (j : ℕ) (d : Bits) → j < s.words → get_or old (s.first + j) d ≡ get_or other (s.first + j) d) → words_by at s old noise (if kept then fresh.Kept else by_init s.init) ≡ words_by at s other noise (if kept then fresh.Kept else by_init s.init)
fresh-same at s old other noise true h =
    first_words-same (words_within old s.first s.words s.width) (words_within other s.first s.words s.width) s.words (λ j lt.
    within-word old s.first s.words s.width j lt ∙ (h refl j (word_or s.width 0) lt ∙ sym (within-word other s.first s.words s.width j lt)))
fresh-same at s old other noise false h = of s.init where
  of : (o : Option Next) → words_by at s old noise (by_init o) ≡ words_by at s other noise (by_init o)
  of None = refl
  of (Some (next.Word a)) = refl
  of (Some (next.Array k n)) = refl

pub built-same : (ns : List Node) (ss : List State) (keep : List Bool) (old other noise state : List Bits) → SameKept ss keep old other → built ns ss keep old noise state ≡ built ns ss keep other noise state
built-same ns [] keep old other noise state h = refl
built-same ns (s ∷ ss) keep old other noise state h =
    let f = fresh_of s keep in
    ap (λ (ws : List Bits). built ns ss (keep_after s keep) old (drop (taken_by s.words f) noise) (placed state s.first ws)) (fresh-same (values ns state) s old other noise (is_some s.next && first_keep keep) h.0)
    ∙ built-same ns ss (keep_after s keep) old other (drop (taken_by s.words f) noise) (with_state ns s f other noise state) h.1
