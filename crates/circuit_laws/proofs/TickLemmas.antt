-- A tick: words keep their widths, and a cell that keeps itself its words.
use Rattle.std.proofs.Common.{◌≡◌, ℕ, zero, suc, ◌+◌, ◌<◌, ◌==◌, List, [], ◌∷◌, ◌++◌, Option, Some, None, Bool, true, not, is_some, replicate, length, slice_get, get_or, refl, sym, ◌∙◌, ap, subst, arith, if◌then◌else◌}
use Rattle.std.proofs.lemmas.Bool.{and_parts, and_from, eqb-true, not-true, lt-ltb}
use Rattle.std.proofs.lemmas.List.{length-append, length-replicate, get_or_append_left, get_or-append-add}
use Rattle.std.proofs.lemmas.Option.{slice_get_within}
use Rattle.knox_words.specs.Bits.{Bits, word_or}
use Rattle.knox_words.specs.Lists.{fits, fit}
use Rattle.knox_words.proofs.Lists.{fit-both}
use Rattle.circuit_nodes.specs.declared.node.Arg.{Arg}
use Rattle.circuit_nodes.specs.declared.node.Node.{Node}
use Rattle.circuit_nodes.specs.declared.node.Next.{Next}
use Rattle.circuit_nodes.specs.declared.node.SortOf.{SortOf}
use Rattle.circuit_nodes.specs.declared.node.State.{State}
use Rattle.circuit_nodes.specs.declared.node.Row.{Row}
use Rattle.circuit_nodes.specs.Values.{Given, Value, value_at, level, arg_word, word_or_zero}
use Rattle.circuit_nodes.specs.Ticks.{first_words, next_words, ticked}
use Rattle.circuit_nodes.proofs.ValuesLemmas.{stands}
use Rattle.circuit_nodes.proofs.SourcesLemmas.{length-first_words}
use Rattle.circuit_table.specs.Sorts.{word_width}
use Rattle.circuit_table.specs.Typed.{NextSuits}
use Rattle.knox_circuit.specs.Parts.{widths_where}
use Rattle.knox_circuit.specs.Rom.{is_itself}
use Rattle.circuit_laws.proofs.FitLemmas.{first_words-at, first-wide, wide-fit}
use Rattle.circuit_laws.proofs.SuitsLemmas.{Suits, AllSuit, arg-fits}
use Rattle.circuit_laws.proofs.StatesLemmas.{own_node, next_of, count_of, cell_count, bare_count, LaidOut, next_by, nexts_in, Stands, Every}
use Rattle.circuit_laws.proofs.WidthsLemmas.{IsFit}

-- widths

next-fits : (at : ℕ → Value) (index : Option ℕ) (n w : ℕ) (t : SortOf) (a : Arg) → count_of index n ≡ n → word_width t ≡ w → Suits t (at a.node) → fit (replicate n w) (next_words at (next_of index n a)) ≡ true
next-fits at None n w t a count wide h =
    let one : fits w (arg_word at a) ≡ true = subst (λ (v : ℕ). fits v (arg_word at a) ≡ true) wide (arg-fits at a t h) in
    subst (λ (m : ℕ). fit (replicate m w) (arg_word at a ∷ []) ≡ true) count (and_from (fits w (arg_word at a)) true one refl)
next-fits at (Some i) n w t a count wide h =
    wide-fit n w (first_words (at a.node) n) (length-first_words (at a.node) n)
    (first-wide (at a.node) n w (λ j lt. subst (λ (v : ℕ). fits v (at a.node j) ≡ true) wide (h j)))

one-tick : (sorts : ℕ → Option SortOf) (at : ℕ → Value) (s : State) (t : SortOf) (o : Option Arg) (ws : List ℕ) (rest : List Next) → AllSuit sorts at → NextSuits sorts (Some t) o → word_width t ≡ s.width → count_of s.index s.words ≡ s.words → fit ws (ticked at rest) ≡ true → fit ((if is_some o then replicate s.words s.width else []) ++ ws) (ticked at (next_by s o ++ rest)) ≡ true
one-tick sorts at s t None ws rest all h wide count more = more
one-tick sorts at s t (Some a) ws rest all h wide count more =
    fit-both (replicate s.words s.width) ws (next_words at (next_of s.index s.words a)) (ticked at rest) (next-fits at s.index s.words s.width t a count wide (all a.node t h)) more

pub tick-fits : (sorts : ℕ → Option SortOf) (at : ℕ → Value) (ss : List State) → AllSuit sorts at → Every (IsFit sorts) ss → fit (widths_where true ss) (ticked at (nexts_in ss)) ≡ true
tick-fits sorts at [] all is = refl
tick-fits sorts at (s ∷ ss) all is = one-tick sorts at s is.0.sort s.next (widths_where true ss) (nexts_in ss) all is.0.next is.0.wide is.0.count (tick-fits sorts at ss all is.1)

-- a cell that keeps itself

length-next : (at : ℕ → Value) (index : Option ℕ) (n : ℕ) (a : Arg) → count_of index n ≡ n → length (next_words at (next_of index n a)) ≡ n
length-next at None n a count = count
length-next at (Some i) n a count = length-first_words (at a.node) n

pass : (at : ℕ → Value) (s : State) (o : Option Arg) (rest : List Next) (q : ℕ) (d : Bits) → count_of s.index s.words ≡ s.words → get_or (ticked at (next_by s o ++ rest)) ((if is_some o then s.words else 0) + q) d ≡ get_or (ticked at rest) q d
pass at s None rest q d count = ap (λ (p : ℕ). get_or (ticked at rest) p d) (omega arith)
pass at s (Some a) rest q d count =
    ap (λ (n : ℕ). get_or (next_words at (next_of s.index s.words a) ++ ticked at rest) (n + q) d) (sym (length-next at s.index s.words a count))
    ∙ get_or-append-add (next_words at (next_of s.index s.words a)) (ticked at rest) q d

own-word : (at : ℕ → Value) (index : Option ℕ) (n k j : ℕ) (a : Arg) (d : Bits) → count_of index n ≡ n → is_itself k (Some a) ≡ true → j < n → get_or (next_words at (next_of index n a)) j d ≡ at k j
own-word at index n k j a d count still lt = of index count where
  both : (a.node == k ≡ true) × (not a.complement ≡ true)
  both = and_parts (a.node == k) (not a.complement) still

  of : (index : Option ℕ) → count_of index n ≡ n → get_or (next_words at (next_of index n a)) j d ≡ at k j
  of None count =
      let first : j ≡ 0 = omega arith in
      ap (λ (i : ℕ). get_or (arg_word at a ∷ []) i d) first
      ∙ (rw (not-true a.complement both.1) (ap (λ (v : ℕ). at v 0) (eqb-true a.node k both.0)) ∙ ap (at k) (sym first))
  of (Some i) count = first_words-at (at a.node) n j d lt ∙ ap (λ (v : ℕ). at v j) (eqb-true a.node k both.0)

itself-word : (at : ℕ → Value) (s : State) (o : Option Arg) (rest : List Next) (j : ℕ) (d : Bits) → count_of s.index s.words ≡ s.words → is_itself s.node o ≡ true → j < s.words → get_or (ticked at (next_by s o ++ rest)) j d ≡ at s.node j
itself-word at s None rest j d count still lt = cc
itself-word at s (Some a) rest j d count still lt =
    let long = length-next at s.index s.words a count in
    get_or_append_left (next_words at (next_of s.index s.words a)) (ticked at rest) d j (omega (arith, long, lt))
    ∙ own-word at s.index s.words s.node j a d count still lt

pub known-cell : (k : ℕ) (o : Option Arg) → is_itself k o ≡ true → is_some o ≡ true
known-cell k None e = cc
known-cell k (Some a) e = refl

pub tick-word : (sorts : ℕ → Option SortOf) (at : ℕ → Value) (ss : List State) (c b k j : ℕ) (s : State) (d : Bits) → LaidOut c b ss → Every (IsFit sorts) ss → slice_get ss k ≡ Some s → is_itself s.node s.next ≡ true → j < s.words → (q : ℕ) × (s.first ≡ c + q) × (get_or (ticked at (nexts_in ss)) (q + j) d ≡ at s.node j)
tick-word sorts at [] c b k j s d laid is here still lt = cc
tick-word sorts at (t ∷ ss) c b zero j s d laid is here still lt =
    let same : t ≡ s = cc in
    let still' : is_itself t.node t.next ≡ true = ap (λ (z : State). is_itself z.node z.next) same ∙ still in
    let first : t.first ≡ c = laid.0 ∙ ap (λ (x : Bool). if x then c else b) (known-cell t.node t.next still') in
    let few : j < t.words = subst (λ (z : State). j < z.words) (sym same) lt in (
      0,
      ap (λ (z : State). z.first) (sym same) ∙ (first ∙ omega arith),
      ap (λ (p : ℕ). get_or (ticked at (nexts_in (t ∷ ss))) p d) (omega arith) ∙ (itself-word at t t.next (nexts_in ss) j d is.0.count still' few ∙ ap (λ (z : State). at z.node j) same),
    )
tick-word sorts at (t ∷ ss) c b (suc k) j s d laid is here still lt =
    let rest = tick-word sorts at ss (c + cell_count t) (b + bare_count t) k j s d laid.1 is.1 here still lt in (
      cell_count t + rest.0,
      let e = rest.1 in omega (arith, e),
      ap (λ (p : ℕ). get_or (ticked at (nexts_in (t ∷ ss))) p d) (omega arith) ∙ (pass at t t.next (nexts_in ss) (rest.0 + j) d is.0.count ∙ rest.2),
    )

pub length-tick : (sorts : ℕ → Option SortOf) (at : ℕ → Value) (ss : List State) → Every (IsFit sorts) ss → length (ticked at (nexts_in ss)) ≡ length (widths_where true ss)
length-tick sorts at [] is = refl
length-tick sorts at (s ∷ ss) is = of s.next (length-tick sorts at ss is.1) where
  of : (o : Option Arg) → length (ticked at (nexts_in ss)) ≡ length (widths_where true ss) → length (ticked at (next_by s o ++ nexts_in ss)) ≡ length ((if is_some o then replicate s.words s.width else []) ++ widths_where true ss)
  of None more = more
  of (Some a) more =
      let one = length-next at s.index s.words a is.0.count in
      let left = length-append (next_words at (next_of s.index s.words a)) (ticked at (nexts_in ss)) in
      let right = length-append (replicate s.words s.width) (widths_where true ss) in
      let wide = length-replicate s.words s.width in
      omega (arith, one, left, right, wide, more)

-- a state's own node gives its words

own-level : (g : Given) (at : ℕ → Value) (index : Option ℕ) (first n w j : ℕ) → count_of index n ≡ n → j < n → level g at (own_node index first n w) j ≡ word_or_zero g.state w (first + j)
own-level g at None first n w j count lt = ap (word_or_zero g.state w) (omega arith)
own-level g at (Some i) first n w j count lt = ap (λ (b : Bool). if b then word_or_zero g.state w (first + j) else word_or w 0) (lt-ltb j n lt)

pub own-value : (g : Given) (rows : List Row) (ns : List Node) (s : State) (j : ℕ) → Stands 0 rows ns s → j < s.words → value_at g ns (length ns) s.node j ≡ word_or_zero g.state s.width (s.first + j)
own-value g rows ns s j h lt =
    let place : s.node ≡ h.place = h.node ∙ omega arith in
    let within = slice_get_within ns h.place (own_node s.index s.first s.words s.width) h.own in
    ap (λ (k : ℕ). value_at g ns (length ns) k j) place
    ∙ (ap (λ (v : Value). v j) (stands g ns (length ns) h.place (own_node s.index s.first s.words s.width) within h.own)
    ∙ own-level g (value_at g ns h.place) s.index s.first s.words s.width j h.count lt)
