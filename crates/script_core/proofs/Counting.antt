-- Sums of bits up to 2^64 - 1, one summand at a time.
use Rattle.std.proofs.Common.{◌≡◌, ℕ, zero, suc, ◌+◌, ◌*◌, ◌^◌, ◌%◌, ◌≤◌, List, [], ◌∷◌, ◌++◌, length, take, drop, replicate, Option, Some, None, unwrap_or, Bool, true, false, if◌then◌else◌, ap, refl, sym, ◌∙◌, arith}
use Rattle.std.proofs.Math.Nat.{mod-eq_of_lt}
use Rattle.std.proofs.Math.Pow.{pow_mono}
use Rattle.knox_words.specs.Lists.{total, pick}
use Rattle.knox_circuit.specs.declared.port.Cell.{Cell}
use Rattle.knox_circuit.specs.Cells.{size, state_widths, first_keep, keep_mask}
use Rattle.script_core.specs.Runs.{counted}

pub counted-small : (n : ℕ) → n ≤ 18446744073709551615 → counted n ≡ n
counted-small n h = omega arith

pub counted-left : (a b : ℕ) → counted (counted a + b) ≡ counted (a + b)
counted-left a b = omega arith

pub counted-right : (a b : ℕ) → counted (a + counted b) ≡ counted (a + b)
counted-right a b = omega arith

pub counted-both : (a b : ℕ) → counted (counted a + counted b) ≡ counted (a + b)
counted-both a b = omega arith

-- one step of a sum from the first to the last: this much so far, one more, and what is left
pub sum-more : (sum one left whole was : ℕ) → was ≡ counted (sum + counted one) → counted (sum + (one + left)) ≡ counted whole → counted (was + left) ≡ counted whole
sum-more sum one left whole was e h = omega arith

pub sum-more-exact : (sum one left whole was : ℕ) → was ≡ counted (sum + one) → counted (sum + (one + left)) ≡ counted whole → counted (was + left) ≡ counted whole
sum-more-exact sum one left whole was e h = omega arith

-- and its end
pub sum-end : (sum whole : ℕ) → sum ≤ 18446744073709551615 → counted (sum + 0) ≡ counted whole → sum ≡ counted whole
sum-end sum whole le h = omega arith

-- so many times the same
pub counted-times : (n b : ℕ) → counted (n * counted b) ≡ counted (n * b)
counted-times zero b = ap counted (omega arith)
counted-times (suc n) b =
    let here : counted (suc n * counted b) ≡ counted (counted b + n * counted b) = ap counted (omega arith) in
    let there : counted (suc n * b) ≡ counted (b + n * b) = ap counted (omega arith) in
    let left = counted-left b (n * counted b) in
    let right = sym (counted-right b (n * counted b)) in
    let same = ap (λ z. counted (b + z)) (counted-times n b) in
    here ∙ (left ∙ (right ∙ (same ∙ (counted-right b (n * b) ∙ sym there))))

-- the words at the places that a mask marks, one after another

pub taken-more : (sum one was whole w : ℕ) (m : Bool) (mask marks : List Bool) (ws left : List ℕ) → mask ≡ m ∷ marks → ws ≡ w ∷ left → one ≡ (if m then w else 0) → was ≡ counted (sum + one) →
    counted (sum + total (pick mask ws)) ≡ counted whole → counted (was + total (pick marks left)) ≡ counted whole
taken-more sum one was whole w m mask marks ws left is are e f h =
    let split : total (pick mask ws) ≡ one + total (pick marks left) = (λ i. total (pick (is i) (are i))) ∙ (first m ∙ ap (λ n. n + total (pick marks left)) (sym e)) in
    sum-more-exact sum one (total (pick marks left)) whole was f (ap (λ n. counted (sum + n)) (sym split) ∙ h)
  where
    first : (b : Bool) → total (pick (b ∷ marks) (w ∷ left)) ≡ (if b then w else 0) + total (pick marks left)
    first true = refl
    first false = omega arith

pub taken-end : (sum whole : ℕ) (mask : List Bool) (ws : List ℕ) → length mask ≡ 0 → sum ≤ 18446744073709551615 → counted (sum + total (pick mask ws)) ≡ counted whole → sum ≡ counted whole
taken-end sum whole [] ws e le h = sum-end sum whole le h
taken-end sum whole (m ∷ mask) ws e le h = absurd (omega (arith, e))

pub taken-short : (sum whole : ℕ) (mask : List Bool) (ws : List ℕ) → length ws ≡ 0 → sum ≤ 18446744073709551615 → counted (sum + total (pick mask ws)) ≡ counted whole → sum ≡ counted whole
taken-short sum whole mask (w ∷ ws) e le h = absurd (omega (arith, e))
taken-short sum whole [] [] e le h = sum-end sum whole le h
taken-short sum whole (m ∷ mask) [] e le h = sum-end sum whole le h

-- two sums
pub sum-two : (x y a b r : ℕ) → a ≡ counted x → b ≡ counted y → r ≡ counted (a + b) → r ≡ counted (x + y)
sum-two x y a b r ea eb er = omega (arith, ea, eb, er)

-- the words of a width that is tried
pub words_of_width : (w : ℕ) → w ≤ 20 → (1 * 2 ^ w) % 4294967296 ≡ 2 ^ w
words_of_width w le =
    let less : 2 ^ w ≤ 1048576 = pow_mono {j = 20} le in
    let one : 1 * 2 ^ w ≡ 2 ^ w = omega arith in
    ap (λ z. z % 4294967296) one ∙ mod-eq_of_lt (omega arith)

-- so many words of one width

total-append : (xs ys : List ℕ) → total (xs ++ ys) ≡ total xs + total ys
total-append [] ys = omega arith
total-append (x ∷ xs) ys = let more = total-append xs ys in omega (arith, more)

total-replicate : (n w : ℕ) → total (replicate n w) ≡ n * w
total-replicate zero w = omega arith
total-replicate (suc n) w = let more = total-replicate n w in omega (arith, more)

pub size-counted : (i : Option ℕ) → counted (2 ^ unwrap_or i 0) ≡ counted (size i)
size-counted None = refl
size-counted (Some n) = refl

pub state-counted : (n w words r : ℕ) → words ≡ counted n → r ≡ counted (w * words) → r ≡ counted (total (replicate n w))
state-counted n w words r e f =
    let all = total-replicate n w in
    let same : w * n ≡ total (replicate n w) = omega (arith, all) in
    f ∙ (ap (λ k. counted (w * k)) e ∙ (counted-times w n ∙ ap counted same))

-- a state's words before those of others
pub state-more : (sum one was whole : ℕ) (c : Cell) (cells left : List Cell) (first : ℕ) → cells ≡ record c { first = first } ∷ left → one ≡ counted (total (replicate (size c.index) c.width)) →
    was ≡ counted (sum + one) → counted (sum + total (state_widths cells)) ≡ counted whole → counted (was + total (state_widths left)) ≡ counted whole
state-more sum one was whole c cells left first is e f h =
    let split : total (state_widths cells) ≡ total (replicate (size c.index) c.width) + total (state_widths left) =
    ap (λ cs. total (state_widths cs)) is ∙ total-append (replicate (size c.index) c.width) (state_widths left) in
    sum-more sum (total (replicate (size c.index) c.width)) (total (state_widths left)) whole was (f ∙ ap (λ k. counted (sum + k)) e) (ap (λ k. counted (sum + k)) (sym split) ∙ h)

-- ---- the words of the cells that are kept, of those that another mask marks too

abbrev pub both_total : List Bool → List Bool → List ℕ → ℕ
both_total mask free ws = total (pick (pick mask free) (pick mask ws))

none-picked : (mask : List Bool) → total (pick mask []) ≡ 0
none-picked [] = refl
none-picked (m ∷ mask) = refl

none-free : (mask : List Bool) (ws : List ℕ) → both_total mask [] ws ≡ 0
none-free [] ws = refl
none-free (m ∷ mask) ws = refl

none-wide : (mask free : List Bool) → both_total mask free [] ≡ 0
none-wide [] free = refl
none-wide (m ∷ mask) free = none-picked (pick (m ∷ mask) free)

-- the words of a cell before those of others
cell-first : (k : Bool) (n : ℕ) (mask free : List Bool) (ws : List ℕ) →
    both_total (replicate n k ++ mask) free ws ≡ (if k then total (pick (take n free) (take n ws)) else 0) + both_total mask (drop n free) (drop n ws)
cell-first true zero mask free ws = omega arith
cell-first false zero mask free ws = omega arith
cell-first true (suc n) mask [] ws = let none = none-free mask (drop (suc n) ws) in omega (arith, none)
cell-first true (suc n) mask (b ∷ free) [] =
    let one = none-wide (true ∷ (replicate n true ++ mask)) (b ∷ free) in
    let other = none-wide mask (drop n free) in
    omega (arith, one, other)
cell-first true (suc n) mask (true ∷ free) (w ∷ ws) = let more = cell-first true n mask free ws in omega (arith, more)
cell-first true (suc n) mask (false ∷ free) (w ∷ ws) = cell-first true n mask free ws
cell-first false (suc n) mask [] ws = let none = none-free mask (drop (suc n) ws) in omega (arith, none)
cell-first false (suc n) mask (b ∷ free) [] =
    let one = none-wide (false ∷ (replicate n false ++ mask)) (b ∷ free) in
    let other = none-wide mask (drop n free) in
    omega (arith, one, other)
cell-first false (suc n) mask (b ∷ free) (w ∷ ws) = cell-first false n mask free ws

-- a cell before others: its words count where it is kept
pub kept-more : (sum one was whole : ℕ) (c : Cell) (cells left : List Cell) (keep marks : List Bool) (k : Bool) (free own beyond : List Bool) (ws its sizes : List ℕ) →
    cells ≡ c ∷ left → k ≡ first_keep keep → marks ≡ drop 1 keep → own ≡ take (size c.index) free → beyond ≡ drop (size c.index) free →
    its ≡ take (size c.index) ws → sizes ≡ drop (size c.index) ws → one ≡ (if k then counted (total (pick own its)) else 0) → was ≡ counted (sum + one) →
    counted (sum + both_total (keep_mask cells keep) free ws) ≡ counted whole → counted (was + both_total (keep_mask left marks) beyond sizes) ≡ counted whole
kept-more sum one was whole c cells left keep marks k free own beyond ws its sizes is kept rest o os i ss e f h =
    let n = size c.index in
    let split : both_total (keep_mask cells keep) free ws ≡ (if k then total (pick own its) else 0) + both_total (keep_mask left marks) beyond sizes =
    ap (λ cs. both_total (keep_mask cs keep) free ws) is
    ∙ (cell-first (first_keep keep) n (keep_mask left (drop 1 keep)) free ws
    ∙ (λ j. (if sym kept j then total (pick (sym o j) (sym i j)) else 0) + both_total (keep_mask left (sym rest j)) (sym os j) (sym ss j))) in
    sum-more sum (if k then total (pick own its) else 0) (both_total (keep_mask left marks) beyond sizes) whole was
    (f ∙ ap (λ m. counted (sum + m)) (e ∙ counted-if k (total (pick own its)))) (ap (λ m. counted (sum + m)) (sym split) ∙ h)
  where
    counted-if : (b : Bool) (n : ℕ) → (if b then counted n else 0) ≡ counted (if b then n else 0)
    counted-if true n = refl
    counted-if false n = refl

pub ruleset sums = (sum-more, sum-more-exact, sum-end)
