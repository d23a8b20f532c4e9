-- Things that give way to entries, as these are put one after the other from the last to the first.
use Rattle.std.proofs.Common.{◌≡◌, ℕ, zero, suc, ◌+◌, ◌<◌, ◌==◌, false, true, List, [], ◌∷◌, ◌++◌, set, refl, sym, ap, ◌∙◌, arith}
use Rattle.std.proofs.lemmas.Bool.Decides.{nat_tests}
use Rattle.lang_read.specs.Entries.{or_this, entry_of, filled_from, filled}

equal : (a b : ℕ) → a ≡ b → (a == b) ≡ true
equal a b e = grind (arith, nat_tests)

below : (a b : ℕ) → a < b → (a == b) ≡ false
below a b lt = grind (arith, nat_tests)

above : (a b : ℕ) → b < a → (a == b) ≡ false
above a b lt = grind (arith, nat_tests)

-- an entry for a thing before these
filled-before : {A : Type 0} (k n : ℕ) (y : A) (es : List (ℕ × A)) (xs : List A) → n < k → filled_from k ((n, y) ∷ es) xs ≡ filled_from k es xs
filled-before k n y es [] lt = refl
filled-before k n y es (x ∷ xs) lt = rw (below n k lt) (ap (λ (zs : List _). or_this x (entry_of k es) ∷ zs) (filled-before (suc k) n y es xs (omega arith)))

-- an entry for one of these, or for one past them
filled-set : {A : Type 0} (k i n : ℕ) (y : A) (es : List (ℕ × A)) (xs : List A) → n ≡ k + i → filled_from k ((n, y) ∷ es) xs ≡ set (filled_from k es xs) i y
filled-set k i n y es [] is = refl
filled-set k zero n y es (x ∷ xs) is = rw (equal n k (omega arith)) (ap (λ (zs : List _). y ∷ zs) (filled-before (suc k) n y es xs (omega arith)))
filled-set k (suc i) n y es (x ∷ xs) is = rw (above n k (omega arith)) (ap (λ (zs : List _). or_this x (entry_of k es) ∷ zs) (filled-set (suc k) i n y es xs (omega arith)))

-- entries that are put from the last to the first
abbrev pub put_all : {A : Type 0} → List A → List (ℕ × A) → List A
put_all xs [] = xs
put_all xs (e ∷ es) = set (put_all xs es) e.0 e.1

-- no entries change nothing
none-filled : {A : Type 0} (k : ℕ) (xs : List A) → filled_from k [] xs ≡ xs
none-filled k [] = refl
none-filled k (x ∷ xs) = ap (λ (zs : List _). x ∷ zs) (none-filled (suc k) xs)

pub put-all : {A : Type 0} (xs : List A) (es : List (ℕ × A)) → put_all xs es ≡ filled es xs
put-all xs [] = sym (none-filled 0 xs)
put-all xs (e ∷ es) = ap (λ (zs : List _). set zs e.0 e.1) (put-all xs es) ∙ sym (filled-set 0 e.0 e.0 e.1 es xs (omega arith))

pub put-last : {A : Type 0} (xs : List A) (es : List (ℕ × A)) (e : ℕ × A) → put_all xs (es ++ e ∷ []) ≡ put_all (set xs e.0 e.1) es
put-last xs [] e = refl
put-last xs (d ∷ es) e = ap (λ (zs : List _). set zs d.0 d.1) (put-last xs es e)
