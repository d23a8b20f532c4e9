-- What two steps do to known bytes, one after the other.
use Rattle.std.proofs.Common.{◌∙◌, ◌≤◌, ◌+◌, ◌-◌, ap, sym, List, ◌++◌, ℕ, Option, length, take, drop, arith, subst, ◌≡◌}
use Rattle.std.{proofs.lemmas.Grind.common_steps, proofs.Math.Seq.take-add, specs.Io.KnownBytes.Appends}

-- bytes that grow by xs and then by ys grow by both
pub Appends-append : (a b c : Option (List ℕ)) (xs ys : List ℕ) → Appends a b xs → Appends b c ys → Appends a c (xs ++ ys)
Appends-append a b c xs ys p q = grind (arith, common_steps)

-- bytes that grow by those before a place, and by the first n past it
pub next-bytes : (a b c : Option (List ℕ)) (xs : List ℕ) (at n : ℕ) → at ≤ length xs → Appends a b (take at xs) → Appends b c (take n (take (length xs - at) (drop at xs))) → Appends a c (take (at + n) xs)
next-bytes a b c xs at n h p q =
    let whole : take (length xs - at) (drop at xs) ≡ drop at xs = grind (arith, common_steps) in
    subst (Appends a c) (sym (take-add at n xs ∙ ap (λ z. take at xs ++ take n z) (sym whole))) (Appends-append a b c _ _ p q)
