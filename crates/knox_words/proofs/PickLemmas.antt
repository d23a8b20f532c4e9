-- What stands at the places that a mask marks: taken out and put back.
use Rattle.std.proofs.Common.{◌≡◌, ℕ, zero, suc, List, [], ◌∷◌, ◌++◌, length, map, replicate, nat_le, ◌&&◌, Bool, true, false, refl, sym, ap, ◌∙◌, arith}
use Rattle.std.proofs.lemmas.Bool.{and_parts, and_from}
use Rattle.knox_words.specs.Lists.{Words, fits, fit, are_widths, pick, merge}
use Rattle.knox_words.proofs.Lists.{length-fit, are_widths-rest}

-- lengths

pub length-merge : {A : Type 0} (mask : List Bool) (base others : List A) → length (merge mask base others) ≡ length base
length-merge [] base others = refl
length-merge (m ∷ mask) [] others = refl
length-merge (true ∷ mask) (x ∷ base) [] = ap suc (length-merge mask base [])
length-merge (true ∷ mask) (x ∷ base) (y ∷ others) = ap suc (length-merge mask base others)
length-merge (false ∷ mask) (x ∷ base) others = ap suc (length-merge mask base others)

pub length-pick : {A B : Type 0} (mask : List Bool) (xs : List A) (ys : List B) → length xs ≡ length ys → length (pick mask xs) ≡ length (pick mask ys)
length-pick [] xs ys h = refl
length-pick (m ∷ mask) [] [] h = refl
length-pick (m ∷ mask) [] (y ∷ ys) h = absurd (omega arith)
length-pick (m ∷ mask) (x ∷ xs) [] h = absurd (omega arith)
length-pick (true ∷ mask) (x ∷ xs) (y ∷ ys) h = ap suc (length-pick mask xs ys (omega arith))
length-pick (false ∷ mask) (x ∷ xs) (y ∷ ys) h = length-pick mask xs ys (omega arith)

-- words that fit widths

pub are_widths-pick : (mask : List Bool) (ws : List ℕ) → are_widths ws ≡ true → are_widths (pick mask ws) ≡ true
are_widths-pick [] ws h = refl
are_widths-pick (m ∷ mask) [] h = refl
are_widths-pick (true ∷ mask) (w ∷ ws) h =
    let both = and_parts (nat_le 1 w && nat_le w 128) (are_widths ws) h in
    and_from (nat_le 1 w && nat_le w 128) (are_widths (pick mask ws)) both.0 (are_widths-pick mask ws both.1)
are_widths-pick (false ∷ mask) (w ∷ ws) h = are_widths-pick mask ws (are_widths-rest w ws h)

pub fit-pick : (mask : List Bool) (ws : List ℕ) (xs : Words) → fit ws xs ≡ true → fit (pick mask ws) (pick mask xs) ≡ true
fit-pick [] ws xs h = refl
fit-pick (m ∷ mask) [] [] h = refl
fit-pick (m ∷ mask) [] (x ∷ xs) h = cc
fit-pick (m ∷ mask) (w ∷ ws) [] h = cc
fit-pick (true ∷ mask) (w ∷ ws) (x ∷ xs) h =
    let both = and_parts (fits w x) (fit ws xs) h in
    and_from (fits w x) (fit (pick mask ws) (pick mask xs)) both.0 (fit-pick mask ws xs both.1)
fit-pick (false ∷ mask) (w ∷ ws) (x ∷ xs) h = fit-pick mask ws xs (and_parts (fits w x) (fit ws xs) h).1

pub fit-merge : (mask : List Bool) (ws : List ℕ) (base others : Words) → fit ws base ≡ true → fit (pick mask ws) others ≡ true → fit ws (merge mask base others) ≡ true
fit-merge [] ws base others h k = h
fit-merge (m ∷ mask) [] [] others h k = refl
fit-merge (m ∷ mask) [] (x ∷ base) others h k = cc
fit-merge (m ∷ mask) (w ∷ ws) [] others h k = cc
fit-merge (true ∷ mask) (w ∷ ws) (x ∷ base) [] h k = cc
fit-merge (true ∷ mask) (w ∷ ws) (x ∷ base) (y ∷ others) h k =
    let both = and_parts (fits w y) (fit (pick mask ws) others) k in
    and_from (fits w y) (fit ws (merge mask base others)) both.0 (fit-merge mask ws base others (and_parts (fits w x) (fit ws base) h).1 both.1)
fit-merge (false ∷ mask) (w ∷ ws) (x ∷ base) others h k =
    let both = and_parts (fits w x) (fit ws base) h in
    and_from (fits w x) (fit ws (merge mask base others)) both.0 (fit-merge mask ws base others both.1 k)

-- what was put in is taken out

pub pick-merge : {A : Type 0} (mask : List Bool) (base others : List A) → length (pick mask base) ≡ length others → pick mask (merge mask base others) ≡ others
pick-merge [] base [] h = refl
pick-merge [] base (y ∷ others) h = absurd (omega arith)
pick-merge (m ∷ mask) [] [] h = refl
pick-merge (m ∷ mask) [] (y ∷ others) h = absurd (omega arith)
pick-merge (true ∷ mask) (x ∷ base) [] h = absurd (omega arith)
pick-merge (true ∷ mask) (x ∷ base) (y ∷ others) h = ap (λ l. y ∷ l) (pick-merge mask base others (omega arith))
pick-merge (false ∷ mask) (x ∷ base) others h = pick-merge mask base others h

pub pick-merge-fit : (mask : List Bool) (ws : List ℕ) (base others : Words) → fit ws base ≡ true → fit (pick mask ws) others ≡ true → pick mask (merge mask base others) ≡ others
pick-merge-fit mask ws base others h k =
    pick-merge mask base others (length-pick mask base ws (length-fit ws base h) ∙ sym (length-fit (pick mask ws) others k))

-- what was taken out of a list of the same length is taken out again
pub pick-merge-pick : {A : Type 0} (mask : List Bool) (base xs : List A) → length base ≡ length xs → pick mask (merge mask base (pick mask xs)) ≡ pick mask xs
pick-merge-pick mask base xs h = pick-merge mask base (pick mask xs) (length-pick mask base xs h)

-- two lists of one length, the same at each place that a mask doesn't mark
abbrev pub SameBeside : {A : Type 0} → List Bool → List A → List A → Type 0
SameBeside [] xs ys = xs ≡ ys
SameBeside (m ∷ mask) [] [] = Unit {0}
SameBeside (m ∷ mask) [] (y ∷ ys) = ⊥
SameBeside (m ∷ mask) (x ∷ xs) [] = ⊥
SameBeside (true ∷ mask) (x ∷ xs) (y ∷ ys) = SameBeside mask xs ys
SameBeside (false ∷ mask) (x ∷ xs) (y ∷ ys) = (x ≡ y) × SameBeside mask xs ys

-- so what was taken out of one and put into the other gives the one
pub merge-pick : {A : Type 0} (mask : List Bool) (base xs : List A) → SameBeside mask base xs → merge mask base (pick mask xs) ≡ xs
merge-pick [] base xs h = h
merge-pick (m ∷ mask) [] [] h = refl
merge-pick (m ∷ mask) [] (y ∷ ys) h = absurd h
merge-pick (m ∷ mask) (x ∷ xs) [] h = absurd h
merge-pick (true ∷ mask) (x ∷ base) (y ∷ xs) h = ap (λ l. y ∷ l) (merge-pick mask base xs h)
merge-pick (false ∷ mask) (x ∷ base) (y ∷ xs) h = λ i. h.0 i ∷ merge-pick mask base xs h.1 i

pub SameBeside-refl : {A : Type 0} (mask : List Bool) (xs : List A) → SameBeside mask xs xs
SameBeside-refl [] xs = refl
SameBeside-refl (m ∷ mask) [] = tt
SameBeside-refl (true ∷ mask) (x ∷ xs) = SameBeside-refl mask xs
SameBeside-refl (false ∷ mask) (x ∷ xs) = (refl, SameBeside-refl mask xs)

pub SameBeside-merge : {A : Type 0} (mask : List Bool) (base others : List A) → SameBeside mask base (merge mask base others)
SameBeside-merge [] base others = refl
SameBeside-merge (m ∷ mask) [] others = tt
SameBeside-merge (true ∷ mask) (x ∷ base) [] = SameBeside-merge mask base []
SameBeside-merge (true ∷ mask) (x ∷ base) (y ∷ others) = SameBeside-merge mask base others
SameBeside-merge (false ∷ mask) (x ∷ base) others = (refl, SameBeside-merge mask base others)

-- part by part

pub pick-append : {A : Type 0} (mask more : List Bool) (xs ys : List A) → length mask ≡ length xs → pick (mask ++ more) (xs ++ ys) ≡ pick mask xs ++ pick more ys
pick-append [] more [] ys h = refl
pick-append [] more (x ∷ xs) ys h = absurd (omega arith)
pick-append (m ∷ mask) more [] ys h = absurd (omega arith)
pick-append (true ∷ mask) more (x ∷ xs) ys h = ap (λ l. x ∷ l) (pick-append mask more xs ys (omega arith))
pick-append (false ∷ mask) more (x ∷ xs) ys h = pick-append mask more xs ys (omega arith)

pub merge-append : {A : Type 0} (mask more : List Bool) (xs ys as' bs : List A) → length mask ≡ length xs → length (pick mask xs) ≡ length as' → merge (mask ++ more) (xs ++ ys) (as' ++ bs) ≡ merge mask xs as' ++ merge more ys bs
merge-append [] more [] ys [] bs h k = refl
merge-append [] more [] ys (a ∷ as') bs h k = absurd (omega arith)
merge-append [] more (x ∷ xs) ys as' bs h k = absurd (omega arith)
merge-append (m ∷ mask) more [] ys as' bs h k = absurd (omega arith)
merge-append (true ∷ mask) more (x ∷ xs) ys [] bs h k = absurd (omega arith)
merge-append (true ∷ mask) more (x ∷ xs) ys (a ∷ as') bs h k = ap (λ l. a ∷ l) (merge-append mask more xs ys as' bs (omega arith) (omega arith))
merge-append (false ∷ mask) more (x ∷ xs) ys as' bs h k = ap (λ l. x ∷ l) (merge-append mask more xs ys as' bs (omega arith) k)

-- entry by entry
pub pick-map : {A B : Type 0} (f : A → B) (mask : List Bool) (xs : List A) → pick mask (map f xs) ≡ map f (pick mask xs)
pick-map f [] xs = refl
pick-map f (m ∷ mask) [] = refl
pick-map f (true ∷ mask) (x ∷ xs) = ap (λ l. f x ∷ l) (pick-map f mask xs)
pick-map f (false ∷ mask) (x ∷ xs) = pick-map f mask xs

-- masks that mark all places or none

pub pick-all : {A : Type 0} (n : ℕ) (xs : List A) → length xs ≡ n → pick (replicate n true) xs ≡ xs
pick-all zero [] h = refl
pick-all zero (x ∷ xs) h = absurd (omega arith)
pick-all (suc n) [] h = refl
pick-all (suc n) (x ∷ xs) h = ap (λ l. x ∷ l) (pick-all n xs (omega arith))

pub pick-none : {A : Type 0} (n : ℕ) (xs : List A) → pick (replicate n false) xs ≡ []
pick-none zero xs = refl
pick-none (suc n) [] = refl
pick-none (suc n) (x ∷ xs) = pick-none n xs

pub merge-all : {A : Type 0} (n : ℕ) (base others : List A) → length base ≡ n → length others ≡ n → merge (replicate n true) base others ≡ others
merge-all zero [] [] h k = refl
merge-all zero (x ∷ base) others h k = absurd (omega arith)
merge-all zero [] (y ∷ others) h k = absurd (omega arith)
merge-all (suc n) [] others h k = absurd (omega arith)
merge-all (suc n) (x ∷ base) [] h k = absurd (omega arith)
merge-all (suc n) (x ∷ base) (y ∷ others) h k = ap (λ l. y ∷ l) (merge-all n base others (omega arith) (omega arith))

pub merge-none : {A : Type 0} (n : ℕ) (base others : List A) → merge (replicate n false) base others ≡ base
merge-none zero base others = refl
merge-none (suc n) [] others = refl
merge-none (suc n) (x ∷ base) others = ap (λ l. x ∷ l) (merge-none n base others)
