-- Words that fit widths, place by place.
use Rattle.std.proofs.Common.{◌≡◌, ℕ, zero, suc, ◌+◌, ◌-◌, ◌<◌, ◌≤◌, List, [], ◌∷◌, ◌++◌, Some, true, take, drop, replicate, length, slice_get, get_or, refl, sym, ◌∙◌, ap, subst, arith, inl, inr}
use Rattle.std.proofs.lemmas.Bool.{and_parts, and_from, le-leb, cases_lt}
use Rattle.std.proofs.lemmas.Nat.{pow_pos}
use Rattle.std.proofs.lemmas.List.{length-append, length-take-le, length-drop, get_or_append_left, get_or-append_right, get_or-replicate}
use Rattle.knox_words.specs.Bits.{Bits, word_or}
use Rattle.knox_words.specs.Lists.{fits, fit, are_widths}
use Rattle.knox_words.proofs.Lists.{fits-bits, word_or-zero, are_widths-first, are_widths-rest}
use Rattle.circuit_nodes.specs.Values.{Value, word_or_zero}
use Rattle.circuit_nodes.specs.Ticks.{first_words}
use Rattle.circuit_nodes.specs.Starts.{placed}
use Rattle.circuit_nodes.proofs.SourcesLemmas.{length-first_words}
use Rattle.circuit_nodes.proofs.StartsLemmas.{placed-outside}

-- the word at each place fits, where the zero word stands for one that lacks
abbrev pub FitsAt : List ℕ → List Bits → Type 0
FitsAt ws xs = (p w : ℕ) → slice_get ws p ≡ Some w → fits w (word_or_zero xs w p) ≡ true

pub zero-fits : (w : ℕ) → 1 ≤ w → w ≤ 128 → fits w (word_or w 0) ≡ true
zero-fits w low high = subst (λ (x : Bits). fits w x ≡ true) (sym (word_or-zero w low high)) (fits-bits w 0 low high (pow_pos w))

pub width-at : (ws : List ℕ) (p w : ℕ) → are_widths ws ≡ true → slice_get ws p ≡ Some w → (1 ≤ w) × (w ≤ 128)
width-at [] p w are is = cc
width-at (v ∷ ws) zero w are is = let e : v ≡ w = cc in subst (λ (x : ℕ). (1 ≤ x) × (x ≤ 128)) e (are_widths-first v ws are)
width-at (v ∷ ws) (suc p) w are is = width-at ws p w (are_widths-rest v ws are) is

pub fit-at : (vs ws : List ℕ) (xs : List Bits) → are_widths (vs ++ ws) ≡ true → fit vs xs ≡ true → FitsAt (vs ++ ws) xs
fit-at [] ws [] are h p w is = let range = width-at ws p w are is in zero-fits w range.0 range.1
fit-at [] ws (x ∷ xs) are h p w is = cc
fit-at (v ∷ vs) ws [] are h p w is = cc
fit-at (v ∷ vs) ws (x ∷ xs) are h zero w is = let e : v ≡ w = cc in subst (λ (z : ℕ). fits z x ≡ true) e (and_parts (fits v x) (fit vs xs) h).0
fit-at (v ∷ vs) ws (x ∷ xs) are h (suc p) w is = fit-at vs ws xs (are_widths-rest v (vs ++ ws) are) (and_parts (fits v x) (fit vs xs) h).1 p w is

pub at-fit : (ws : List ℕ) (xs : List Bits) → length xs ≡ length ws → FitsAt ws xs → fit ws xs ≡ true
at-fit [] [] e h = refl
at-fit [] (x ∷ xs) e h = absurd (omega arith)
at-fit (w ∷ ws) [] e h = absurd (omega arith)
at-fit (w ∷ ws) (x ∷ xs) e h = and_from (fits w x) (fit ws xs) (h zero w refl) (at-fit ws xs (omega arith) (λ p v is. h (suc p) v is))

pub are_widths-both : (ws vs : List ℕ) → are_widths ws ≡ true → are_widths vs ≡ true → are_widths (ws ++ vs) ≡ true
are_widths-both [] vs h k = k
are_widths-both (w ∷ ws) vs h k =
    let range = are_widths-first w ws h in
    and_from _ (are_widths (ws ++ vs)) (and_from _ _ (le-leb 1 w range.0) (le-leb w 128 range.1)) (are_widths-both ws vs (are_widths-rest w ws h) k)

pub are_widths-same : (n w : ℕ) → 1 ≤ w → w ≤ 128 → are_widths (replicate n w) ≡ true
are_widths-same zero w low high = refl
are_widths-same (suc n) w low high = and_from _ (are_widths (replicate n w)) (and_from _ _ (le-leb 1 w low) (le-leb w 128 high)) (are_widths-same n w low high)

-- words of one width

abbrev pub Wide : ℕ → ℕ → List Bits → Type 0
Wide n w xs = (j : ℕ) (d : Bits) → j < n → fits w (get_or xs j d) ≡ true

pub first_words-at : (v : Value) (n j : ℕ) (d : Bits) → j < n → get_or (first_words v n) j d ≡ v j
first_words-at v zero j d h = absurd (omega arith)
first_words-at v (suc n) j d h = elim (cases_lt j n) [
  | inl lt ↦ get_or_append_left (first_words v n) (v n ∷ []) d j (let e = length-first_words v n in omega (arith, e, lt)) ∙ first_words-at v n j d lt
  | inr ge ↦
      let e : j ≡ n = omega arith in
      let none : j - n ≡ 0 = omega arith in
      get_or-append_right (first_words v n) (v n ∷ []) n j d (length-first_words v n) ge ∙ (ap (λ (q : ℕ). get_or (v n ∷ []) q d) none ∙ ap v (sym e))
]

pub first-wide : (v : Value) (n w : ℕ) → ((j : ℕ) → j < n → fits w (v j) ≡ true) → Wide n w (first_words v n)
first-wide v n w h j d lt = subst (λ (x : Bits). fits w x ≡ true) (sym (first_words-at v n j d lt)) (h j lt)

pub same-wide : (n w : ℕ) (x : Bits) → fits w x ≡ true → Wide n w (replicate n x)
same-wide n w x h j d lt = subst (λ (z : Bits). fits w z ≡ true) (sym (get_or-replicate n j x d lt)) h

pub slice_get-same : {X : Type 0} (n j : ℕ) (x : X) → j < n → slice_get (replicate n x) j ≡ Some x
slice_get-same zero j x h = absurd (omega arith)
slice_get-same (suc n) zero x h = refl
slice_get-same (suc n) (suc j) x h = slice_get-same n j x (omega arith)

pub wide-fit : (n w : ℕ) (xs : List Bits) → length xs ≡ n → Wide n w xs → fit (replicate n w) xs ≡ true
wide-fit zero w [] e h = refl
wide-fit zero w (x ∷ xs) e h = absurd (omega arith)
wide-fit (suc n) w [] e h = absurd (omega arith)
wide-fit (suc n) w (x ∷ xs) e h = and_from (fits w x) (fit (replicate n w) xs) (h 0 x (omega arith)) (wide-fit n w xs (omega arith) (λ j d lt. h (suc j) d (omega (arith, lt))))

-- words that are put at a place

pub length-placed : (state ws : List Bits) (first : ℕ) → first + length ws ≤ length state → length (placed state first ws) ≡ length state
length-placed state ws first within =
    let front : length (take first state) ≡ first = length-take-le first state (omega arith) in
    omega (arith, front, length-append (take first state) (ws ++ drop (first + length ws) state), length-append ws (drop (first + length ws) state), length-drop (first + length ws) state)

pub placed-at : (state ws : List Bits) (first j : ℕ) (d : Bits) → first + length ws ≤ length state → j < length ws → get_or (placed state first ws) (first + j) d ≡ get_or ws j d
placed-at state ws first j d within lt =
    let front : length (take first state) ≡ first = length-take-le first state (omega arith) in
    let past : first ≤ first + j = omega arith in
    let at : first + j - first ≡ j = omega arith in
    get_or-append_right (take first state) (ws ++ drop (first + length ws) state) first (first + j) d front past
    ∙ (ap (λ (q : ℕ). get_or (ws ++ drop (first + length ws) state) q d) at
    ∙ get_or_append_left ws (drop (first + length ws) state) d j lt)

pub placed-fits : (ws : List ℕ) (state xs : List Bits) (first n w : ℕ) → FitsAt ws state → Wide n w xs → length xs ≡ n → first + n ≤ length state → ((j : ℕ) → j < n → slice_get ws (first + j) ≡ Some w) → FitsAt ws (placed state first xs)
placed-fits ws state xs first n w h wide long within own p v is =
    let inside : first + length xs ≤ length state = omega arith in
    elim (cases_lt p first) [
      | inl lt ↦ subst (λ (x : Bits). fits v x ≡ true) (placed-outside state xs first p (word_or v 0) inside (inl lt)) (h p v is)
      | inr from ↦ elim (cases_lt (p - first) n) [
        | inl lt ↦
            let at : first + (p - first) ≡ p = omega arith in
            let same : Some v ≡ Some w = sym is ∙ (ap (slice_get ws) (sym at) ∙ own (p - first) lt) in
            let e : w ≡ v = cc in
            let here : get_or (placed state first xs) p (word_or v 0) ≡ get_or xs (p - first) (word_or v 0) =
            ap (λ (q : ℕ). get_or (placed state first xs) q (word_or v 0)) (sym at) ∙ placed-at state xs first (p - first) (word_or v 0) inside (omega arith) in
            subst (λ (x : Bits). fits v x ≡ true) (sym here) (subst (λ (z : ℕ). fits z (get_or xs (p - first) (word_or v 0)) ≡ true) e (wide (p - first) (word_or v 0) lt))
        | inr past ↦
            let behind : first + length xs ≤ p = omega arith in
            subst (λ (x : Bits). fits v x ≡ true) (placed-outside state xs first p (word_or v 0) inside (inr behind)) (h p v is)
      ]
    ]
