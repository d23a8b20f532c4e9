-- Looking a word up in a table.
use Rattle.std.proofs.Common.{◌≡◌, ℕ, zero, suc, ◌+◌, ◌<◌, true, false, List, [], ◌∷◌, length, map, drop, get_or, add-one, Some, refl, arith}
use Rattle.std.specs.Str.{bytes_eq}
use Rattle.operator_names.specs.Names.{named}

-- from a place on, where the word is the name there, and where it is another

pub named-here : {X A : Type 0} (f : X → List ℕ × A) (xs : List X) (k : ℕ) (d e : X) (word : List ℕ) → k < length xs → bytes_eq word (f (get_or xs k d)).0 ≡ true → named (drop k (map f xs)) word ≡ Some (f (get_or xs k e)).1
named-here f [] k d e word h is = absurd (omega arith)
named-here f (x ∷ xs) zero d e word h is = rw is refl
named-here f (x ∷ xs) (suc k) d e word h is = named-here f xs k d e word (omega arith) is

passed : {X A : Type 0} (f : X → List ℕ × A) (xs : List X) (k : ℕ) (d : X) (word : List ℕ) → k < length xs → bytes_eq word (f (get_or xs k d)).0 ≡ false → named (drop k (map f xs)) word ≡ named (drop (suc k) (map f xs)) word
passed f [] k d word h is = absurd (omega arith)
passed f (x ∷ xs) zero d word h is = rw is refl
passed f (x ∷ xs) (suc k) d word h is = passed f xs k d word (omega arith) is

pub named-past : {X A : Type 0} (f : X → List ℕ × A) (xs : List X) (k : ℕ) (d : X) (word : List ℕ) → k < length xs → bytes_eq word (f (get_or xs k d)).0 ≡ false → named (drop k (map f xs)) word ≡ named (drop (k + 1) (map f xs)) word
named-past f xs k d word h is = rw (add-one) (passed f xs k d word h is)
