-- Values as items are added.
use Rattle.std.proofs.Common.{◌≡◌, ℕ, zero, suc, ◌+◌, ◌<◌, List, [], ◌∷◌, ◌++◌, length, get_or, take, drop, slice_get, Some, refl, sym, ◌∙◌, ap, arith, length-append}
use Rattle.std.proofs.Math.ListN.{get_or-append}
use Rattle.std.proofs.Math.Seq.{get_or-append_seam}
use Rattle.std.proofs.lemmas.List.{length-take-le}
use Rattle.std.proofs.lemmas.Option.{slice_get_within}
use Rattle.std.proofs.lemmas.List.Sums.{fold-append}
use Rattle.std.specs.List.{fold}
use Rattle.bit_gates.specs.Rolled.{rolled, all_values, value_at}

pub split-at : {X : Type 0} (xs : List X) (t : ℕ) (x : X) → slice_get xs t ≡ Some x → xs ≡ take t xs ++ x ∷ drop (suc t) xs
split-at [] t x e = cc
split-at (m ∷ xs) zero x e = let is : m ≡ x = cc in rw is refl
split-at {X} (m ∷ xs) (suc t) x e = ap (λ (ys : List X). m ∷ ys) (split-at xs t x e)

-- an item looks at the places below k alone
pub record IsLocal {X V : Type 0} (level : (ℕ → V) → X → V) (k : ℕ) (x : X) : Type 0 where
  pub same : (f g : ℕ → V) → ((j : ℕ) → j < k → f j ≡ g j) → level f x ≡ level g x

module _ {X V : Type 0} (d : V) (level : (ℕ → V) → X → V) where
  length-folded : (vs : List V) (xs : List X) → length (fold (rolled d level) vs xs) ≡ length vs + length xs
  length-folded vs [] = omega arith
  length-folded vs (x ∷ xs) = omega (arith, length-folded (rolled d level vs x) xs, length-append vs (level (λ k. get_or vs k d) x ∷ []))

  folded-kept : (vs : List V) (xs : List X) (k : ℕ) → k < length vs → get_or (fold (rolled d level) vs xs) k d ≡ get_or vs k d
  folded-kept vs [] k h = refl
  folded-kept vs (x ∷ xs) k h =
      let longer : k < length (rolled d level vs x) = omega (arith, length-append vs (level (λ k. get_or vs k d) x ∷ [])) in
      folded-kept (rolled d level vs x) xs k longer ∙ get_or-append vs (level (λ k. get_or vs k d) x ∷ []) d k h

  pub length-all_values : (xs : List X) → length (all_values d level xs) ≡ length xs
  unfolding all_values
  length-all_values xs = omega (arith, length-folded [] xs)

  pub all_values-append : (xs ys : List X) → all_values d level (xs ++ ys) ≡ fold (rolled d level) (all_values d level xs) ys
  unfolding all_values
  all_values-append xs ys = fold-append (rolled d level) [] xs ys

  pub value-kept : (xs ys : List X) (k : ℕ) → k < length xs → value_at d level (xs ++ ys) k ≡ value_at d level xs k
  value-kept xs ys k h =
      let lt : k < length (all_values d level xs) = omega (arith, length-all_values xs) in
      ap (λ (vs : List V). get_or vs k d) (all_values-append xs ys) ∙ folded-kept (all_values d level xs) ys k lt

  pub value-seam : (xs ys : List X) (x : X) → value_at d level (xs ++ x ∷ ys) (length xs) ≡ level (value_at d level xs) x
  value-seam xs ys x =
      let vs = all_values d level xs in
      let is : length xs ≡ length vs = sym (length-all_values xs) in
      let lt : length xs < length (rolled d level vs x) = omega (arith, length-append vs (level (λ k. get_or vs k d) x ∷ []), length-all_values xs) in
      ap (λ (us : List V). get_or us (length xs) d) (all_values-append xs (x ∷ ys))
      ∙ (folded-kept (rolled d level vs x) ys (length xs) lt
      ∙ (ap (λ (k : ℕ). get_or (rolled d level vs x) k d) is ∙ get_or-append_seam vs (level (λ k. get_or vs k d) x) [] d))

  -- an item at its place, over the values of all
  pub value-own : (xs : List X) (t : ℕ) (x : X) → slice_get xs t ≡ Some x → IsLocal level t x → value_at d level xs t ≡ level (value_at d level xs) x
  value-own xs t x e local =
      let parts : xs ≡ take t xs ++ x ∷ drop (suc t) xs = split-at xs t x e in
      let lt : t < length xs = slice_get_within xs t x e in
      let len : length (take t xs) ≡ t = length-take-le t xs (omega arith) in
      let same : (j : ℕ) → j < t → value_at d level (take t xs) j ≡ value_at d level xs j =
      (λ j h. sym (value-kept (take t xs) (x ∷ drop (suc t) xs) j (omega arith)) ∙ ap (λ (ys : List X). value_at d level ys j) (sym parts)) in
      ap (λ (ys : List X). value_at d level ys t) parts
      ∙ (ap (value_at d level (take t xs ++ x ∷ drop (suc t) xs)) (sym len)
      ∙ (value-seam (take t xs) (drop (suc t) xs) x
      ∙ local.same (value_at d level (take t xs)) (value_at d level xs) same))
