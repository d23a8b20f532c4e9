-- Reading by the bits of an index.
use Rattle.std.proofs.Common.{◌≡◌, ℕ, zero, suc, ◌+◌, ◌-◌, ◌*◌, ◌/◌, ◌%◌, ◌^◌, ◌<◌, ◌≤◌, ◌==◌, List, [], length, take, drop, refl, sym, ap, ◌∙◌, subst, arith, if◌then◌else◌}
use Rattle.std.proofs.lemmas.Bool.{le-leb, lt-ltb}
use Rattle.std.proofs.lemmas.List.{get_or-take, get_or-drop, take-map, drop-map}
use Rattle.std.proofs.Math.Nat.{mod-lt, mod-eq_of_lt}
use Rattle.std.proofs.lemmas.Nat.{pow_pos, mod-pow-add}
use Rattle.knox_words.specs.Bits.{Bits, bits, word_at}
use Rattle.knox_words.specs.Ops.{slice_or}
use Rattle.term_graph.specs.declared.node.Node.{Node}
use Rattle.term_graph.specs.Value.{value, width_of, ite_or}
use Rattle.term_graph.specs.Kept.{Keeps, Gives}
use Rattle.term_graph.proofs.WidthLemmas.{value-width, value-IsWord}
use Rattle.term_graph.proofs.FoldLemmas.{chosen, gives-same, keeps-within}
use Rattle.term_mem.specs.Memories.{seen, IsMemory}
use Rattle.term_mem.proofs.CellLemmas.{cell-width, low-half, high-half, halves, seen-kept, cells-kept}

bit-value : (x : Bits) (n : ℕ) → n < x.width → (slice_or x n n).value ≡ x.value / 2 ^ n % 2
bit-value x n h =
    let one : n - n + 1 ≡ 1 = omega arith in
    let same : n ≤ n = omega arith in
    rw (le-leb n n same, lt-ltb n x.width h, one) refl

-- the half that a bit names
half-at : (q : ℕ) (ws : List Bits) (h y : ℕ) → q < 2 → y < h → (if q == 1 then word_at (drop h ws) y else word_at (take h ws) y) ≡ word_at ws (q * h + y)
half-at zero ws h y p lt = get_or-take h ws y (bits 1 0) lt ∙ ap (word_at ws) (omega arith)
half-at (suc zero) ws h y p lt = get_or-drop h ws y (bits 1 0) ∙ ap (word_at ws) (omega arith)
half-at (suc (suc q)) ws h y p lt = absurd (omega arith)

lowest-more : (x n : ℕ) → x % 2 ^ (n + 1) ≡ (x / 2 ^ n % 2) * 2 ^ n + x % 2 ^ n
lowest-more x n = ap (λ (k : ℕ). x % 2 ^ k) (omega arith) ∙ mod-pow-add x 1 n

pub by-bit : (ws : List Bits) (x : Bits) (n : ℕ) → n < x.width → (word_at (drop (2 ^ n) ws) (x.value % 2 ^ n)).width ≡ (word_at (take (2 ^ n) ws) (x.value % 2 ^ n)).width → ite_or (slice_or x n n) (word_at (drop (2 ^ n) ws) (x.value % 2 ^ n)) (word_at (take (2 ^ n) ws) (x.value % 2 ^ n)) ≡ word_at ws (x.value % 2 ^ (n + 1))
by-bit ws x n h same =
    let high = word_at (drop (2 ^ n) ws) (x.value % 2 ^ n) in
    let low = word_at (take (2 ^ n) ws) (x.value % 2 ^ n) in
    chosen (slice_or x n n) high low same
    ∙ (ap (λ (q : ℕ). if q == 1 then high else low) (bit-value x n h)
    ∙ (half-at (x.value / 2 ^ n % 2) ws (2 ^ n) (x.value % 2 ^ n) (omega arith) (mod-lt _ (pow_pos n))
    ∙ ap (word_at ws) (sym (lowest-more x.value n))))

-- the width of what was read
pub read-width : (old new : List Node) (n w i t : ℕ) (cells : List ℕ) → IsMemory old n w cells → Gives new t (λ v. word_at (seen v old cells) ((value v old i).value % 2 ^ n)) → width_of new t ≡ w
read-width old new n w i t cells is g = ap (λ (x : Bits). x.width) (g.gives []) ∙ cell-width [] old w cells _ is.alike (subst (λ (k : ℕ). (value [] old i).value % 2 ^ n < k) (sym is.size) (mod-lt _ (pow_pos n)))

-- what was read of the halves is what is read of the whole
pub gives-among : (old mid end new : List Node) (n h w i a b t : ℕ) (cells low high : List ℕ) → Keeps old mid → Keeps mid end → i < length old → n < width_of old i → IsMemory old (n + 1) w cells → h ≡ length cells / 2 → low ≡ take h cells → high ≡ drop h cells → Gives mid a (λ v. word_at (seen v old low) ((value v old i).value % 2 ^ n)) → Gives end b (λ v. word_at (seen v mid high) ((value v mid i).value % 2 ^ n)) → Gives new t (λ v. ite_or (slice_or (value v end i) n n) (value v end b) (value v end a)) → Gives new t (λ v. word_at (seen v old cells) ((value v old i).value % 2 ^ (n + 1)))
gives-among old mid end new n h w i a b t cells low high first second within bit is half front back ga gb g = gives-same new t _ _ g (λ v.
    let size = (halves n h cells is.size half).0 in
    let x = value v old i in
    let ix : value v mid i ≡ x = first.values v i within in
    let iy : value v end i ≡ x = second.values v i (keeps-within old mid i first within) ∙ ix in
    let y = x.value % 2 ^ n in
    let lows : value v end a ≡ word_at (take (2 ^ n) (seen v old cells)) y =
    second.values v a ga.within ∙ (ga.gives v ∙ ap (λ (xs : List Bits). word_at xs y) (ap (seen v old) front ∙ (sym (take-map (value v old) h cells) ∙ ap (λ (k : ℕ). take k (seen v old cells)) size))) in
    let highs : value v end b ≡ word_at (drop (2 ^ n) (seen v old cells)) y =
    gb.gives v ∙ (ap (λ (z : Bits). word_at (seen v mid high) (z.value % 2 ^ n)) ix ∙ ap (λ (xs : List Bits). word_at xs y) (seen-kept v old mid w high first (high-half old n h w cells high is half back).alike ∙ (ap (seen v old) back ∙ (sym (drop-map (value v old) h cells) ∙ ap (λ (k : ℕ). drop k (seen v old cells)) size)))) in
    let below : y < 2 ^ n = mod-lt _ (pow_pos n) in
    let lowest = low-half old n h w cells low is half front in
    let highest = high-half old n h w cells high is half back in
    let low-wide : (value v end a).width ≡ w = ap (λ (z : Bits). z.width) (second.values v a ga.within ∙ ga.gives v) ∙ cell-width v old w low y lowest.alike (subst (λ (k : ℕ). y < k) (sym lowest.size) below) in
    let high-wide : (value v end b).width ≡ w = ap (λ (z : Bits). z.width) (gb.gives v ∙ ap (λ (z : Bits). word_at (seen v mid high) (z.value % 2 ^ n)) ix) ∙ cell-width v mid w high y (cells-kept old mid w high first highest.alike) (subst (λ (k : ℕ). y < k) (sym highest.size) below) in
    let wide : n < x.width = subst (λ (k : ℕ). n < k) (sym (value-width v old i)) bit in
    let same : (word_at (drop (2 ^ n) (seen v old cells)) y).width ≡ (word_at (take (2 ^ n) (seen v old cells)) y).width = ap (λ (z : Bits). z.width) (sym highs) ∙ (high-wide ∙ (sym low-wide ∙ ap (λ (z : Bits). z.width) lows)) in
    rw (iy, lows, highs) (by-bit (seen v old cells) x n wide same))

pub gives-read : (old new : List Node) (width i t : ℕ) (cells : List ℕ) → width ≡ width_of old i → Gives new t (λ v. word_at (seen v old cells) ((value v old i).value % 2 ^ width)) → Gives new t (λ v. word_at (seen v old cells) (value v old i).value)
gives-read old new width i t cells e g = gives-same new t _ _ g (λ v.
    let below : (value v old i).value < 2 ^ width = subst (λ (n : ℕ). (value v old i).value < 2 ^ n) (value-width v old i ∙ sym e) (value-IsWord v old i).fits in
    ap (word_at (seen v old cells)) (mod-eq_of_lt below))
