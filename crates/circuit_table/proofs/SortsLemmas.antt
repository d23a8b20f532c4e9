-- Sorts that are compared are one, and the limits of sorts.
use Rattle.std.proofs.Common.{◌≡◌, ℕ, ◌≤◌, ◌==◌, ◌&&◌, nat_le, Option, Some, None, true, ap}
use Rattle.std.proofs.lemmas.Bool.{and_parts, leb-true, eqb-true}
use Rattle.circuit_nodes.specs.declared.node.SortOf.{SortOf}
use Rattle.circuit_nodes.specs.declared.node.SortOf.TheVariants.{Words, Arrays}
use Rattle.circuit_table.specs.Sorts.{same_sort, are_one, is_width_up_to, is_sort}

same_sort-is : (s t : SortOf) → same_sort s t ≡ true → t ≡ s
same_sort-is (Words w) (Words v) e = ap Words (sym-is v w e) where
  sym-is : (v w : ℕ) → w == v ≡ true → v ≡ w
  sym-is v w e = let q = eqb-true w v e in cc
same_sort-is (Words w) (Arrays i e) q = cc
same_sort-is (Arrays i e) (Words w) q = cc
same_sort-is (Arrays i e) (Arrays j f) q =
    let both = and-both q in
    let a = eqb-true i j both.0 in
    let b = eqb-true e f both.1 in
    cc
  where
    and-both : i == j && e == f ≡ true → (i == j ≡ true) × (e == f ≡ true)
    and-both h = and_parts (i == j) (e == f) h

pub are_one-is : (t : SortOf) (given : Option SortOf) → are_one (Some t) given ≡ true → given ≡ Some t
are_one-is t None e = cc
are_one-is t (Some s) e = ap Some (same_sort-is t s e)

-- limits

pub up_to : (most w : ℕ) → is_width_up_to most w ≡ true → (1 ≤ w) × (w ≤ most)
up_to most w h = let both = and_parts (nat_le 1 w) (nat_le w most) h in (leb-true 1 w both.0, leb-true w most both.1)

pub index-up_to : (i e : ℕ) → is_sort (Arrays i e) ≡ true → i ≤ 12
index-up_to i e h = (up_to 12 i (and_parts (is_width_up_to 12 i) (is_width_up_to 128 e) h).0).1

pub width-up_to : (w : ℕ) → is_sort (Words w) ≡ true → w ≤ 128
width-up_to w h = (up_to 128 w h).1

pub ruleset limit_steps = (index-up_to, width-up_to)
