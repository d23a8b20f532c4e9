-- Clauses are stored one after another.
use Rattle.std.proofs.Common.{◌≡◌, ℕ, zero, suc, ◌+◌, ◌*◌, ◌<◌, ◌≤◌, Bool, true, false, ◌||◌, List, [], ◌∷◌, ◌++◌, length, length-append, take, refl, sym, ◌∙◌, ap, subst, arith, inl, inr, if◌then◌else◌}
use Rattle.std.specs.Prelude.{slice_set, slice_index_or, nat_le}
use Rattle.knox_cnf.specs.Formulas.{clause_within, is_within}
use Rattle.std.proofs.lemmas.Bool.{and_parts, leb-true, cases_Bool, or_cases, or_left, or_right, true≢false, both_ways}
use Rattle.std.proofs.lemmas.List.{length-set, get_or-set_same}
use Rattle.knox_cnf.specs.Literals.{Literal, same_literal, has}
use Rattle.lrat_check.specs.Marks.{index_of}
use Rattle.lrat_check.proofs.LiteralLemmas.{same_literal-true, same_literal-refl, has-push}
use Rattle.sat_core.specs.Chains.{clause_at}
use Rattle.sat_core.specs.Watches.{HasSame}
use Rattle.sat_core.specs.Visits.{IsDistinct, times, watch}
use Rattle.sat_core.specs.Lists.{HasList, list_at, among, FitsLists}
use Rattle.sat_core.specs.Storing.{IsAbove, AddsOnce, IsSetOf, Fits, Lists, Stores}
use Rattle.sat_core.proofs.Listing.{among-last}
use Rattle.sat_core.proofs.Outcomes.{more-listed}

next : (k : ℕ) → suc k ≡ k + 1
next k = omega arith

take-whole : (n : ℕ) (cs : List (List Literal)) → length cs ≤ n → take n cs ≡ cs
take-whole zero [] h = refl
take-whole (suc n) [] h = refl
take-whole zero (x ∷ t) h = absurd (omega (arith, h))
take-whole (suc n) (x ∷ t) h = ap (λ (xs : List (List Literal)). x ∷ xs) (take-whole n t (omega (arith, h)))

pub all-above : (cs : List (List Literal)) (k n : ℕ) → length cs ≤ k → ((j : ℕ) → IsAbove n (clause_at (take k cs) j)) → (j : ℕ) → IsAbove n (clause_at cs j)
all-above cs k n h a = subst (λ (xs : List (List Literal)). (j : ℕ) → IsAbove n (clause_at xs j)) (take-whole k cs h) a

-- one more literal
pub above-step : (ls : List Literal) (k n m : ℕ) (x : Literal) → take (suc k) ls ≡ take k ls ++ x ∷ [] → IsAbove n (take k ls) → n ≤ m → 1 ≤ x.var → x.var ≤ m → IsAbove m (take (k + 1) ls)
above-step ls k n m x e a h low v = subst (λ (z : ℕ). IsAbove m (take z ls)) (next k) (subst (IsAbove m) (sym e) (record {
  each = λ y g. elim (or_cases (has (take k ls) y) (same_literal y x) (sym (has-push (take k ls) x y) ∙ g)) [
    | inl q ↦ (let b = a.each y q in let c = b.1 in (b.0, omega (arith, c, h)))
    | inr q ↦ subst (λ (z : Literal). (1 ≤ z.var) × (z.var ≤ m)) (sym (same_literal-true y x q)) (low, v)
  ];
}))

pub above-more : (c : List Literal) (n m : ℕ) → n ≤ m → IsAbove n c → IsAbove m c
above-more c n m h a = record { each = λ y g. let b = a.each y g in let c = b.1 in (b.0, omega (arith, c, h)) }

pub above-none : (n : ℕ) → IsAbove n []
above-none n = record { each = λ x h. absurd (true≢false (sym h)) }

-- what holds of each clause by its place, where one more is pushed
pub push-each : (P : ℕ → List Literal → Type 0) (cs : List (List Literal)) (d : List Literal) → ((k : ℕ) → P k (clause_at cs k)) → P (length cs) d → (k : ℕ) → P k (clause_at (cs ++ d ∷ []) k)
push-each P [] d f g zero = g
push-each P [] d f g (suc k) = f (suc k)
push-each P (c ∷ cs) d f g zero = f zero
push-each P (c ∷ cs) d f g (suc k) = push-each (λ j. P (suc j)) cs d (λ j. f (suc j)) g k

pub all-above-step : (cs : List (List Literal)) (k n h m : ℕ) (d c : List Literal) → take (suc k) cs ≡ take k cs ++ c ∷ [] → ((j : ℕ) → IsAbove n (clause_at (take k cs) j)) → n ≤ m → h ≤ m → d ≡ c → IsAbove h d → (j : ℕ) → IsAbove m (clause_at (take (k + 1) cs) j)
all-above-step cs k n h m d c e a p q s b =
    subst (λ (z : ℕ). (j : ℕ) → IsAbove m (clause_at (take z cs) j)) (next k)
    (subst (λ (xs : List (List Literal)). (j : ℕ) → IsAbove m (clause_at xs j)) (sym e)
    (push-each (λ j x. IsAbove m x) (take k cs) c (λ j. above-more (clause_at (take k cs) j) n m p (a j)) (subst (IsAbove m) s (above-more d h m q b))))

pub fits-above : (cs : List (List Literal)) (n m : ℕ) → m ≡ 2 * n + 2 → ((k : ℕ) → IsAbove n (clause_at cs k)) → FitsLists cs m
fits-above cs n m e a = record { each = λ k x h. let b = (a k).each x h in let c = b.1 in record { low = b.0; high = omega (arith, c, e) } }

-- ---- sets

times-append : (c d : List Literal) (x : Literal) → times (c ++ d) x ≡ times c x + times d x
times-append [] d x = nothing (times d x)
  where
    nothing : (n : ℕ) → n ≡ 0 + n
    nothing n = omega arith
times-append (y ∷ c) d x = let e = times-append c d x in omega (arith, e)

pub times-none : (c : List Literal) (x : Literal) → has c x ≡ false → times c x ≡ 0
times-none [] x h = refl
times-none (y ∷ c) x h = elim (cases_Bool (same_literal x y)) [
  | inl e ↦ absurd (both_ways (has (y ∷ c) x) h (or_left (same_literal x y) (has c x) e))
  | inr e ↦ (rw e (nothing (times c x) (times-none c x (ap (λ b. b || has c x) (sym e) ∙ h))))
]
  where
    nothing : (n : ℕ) → n ≡ 0 → 0 + n ≡ 0
    nothing n z = omega (arith, z)

once : (b : Bool) (n : ℕ) → n ≤ 1 → (b ≡ true → n ≡ 0) → n + ((if b then 1 else 0) + 0) ≤ 1
once true n h z = let e = z refl in omega (arith, e)
once false n h z = omega (arith, h)

pub set-none : IsSetOf [] []
set-none = record { same = record { each = λ x. refl }; distinct = record { each = λ x. omega arith } }

-- a literal that stands there already
set-held : (ls d : List Literal) (k : ℕ) (x : Literal) → take (suc k) ls ≡ take k ls ++ x ∷ [] → has d x ≡ true → IsSetOf (take k ls) d → IsSetOf (take (k + 1) ls) d
set-held ls d k x e h s = subst (λ (z : ℕ). IsSetOf (take z ls) d) (next k) (subst (λ c. IsSetOf c d) (sym e) (record {
  same = record { each = λ y. has-push (take k ls) x y ∙ ap (λ b. b || same_literal y x) (s.same.each y) ∙ held (has d y) (same_literal y x) (λ q. ap (has d) (same_literal-true y x q) ∙ h) };
  distinct = s.distinct;
}))
  where
    held : (a b : Bool) → (b ≡ true → a ≡ true) → (a || b) ≡ a
    held true b f = refl
    held false true f = absurd (true≢false (sym (f refl)))
    held false false f = refl

-- a new one
set-push : (ls d now : List Literal) (k : ℕ) (x : Literal) → take (suc k) ls ≡ take k ls ++ x ∷ [] → has d x ≡ false → now ≡ d ++ x ∷ [] → IsSetOf (take k ls) d → IsSetOf (take (k + 1) ls) now
set-push ls d now k x e h is s = subst (λ (z : ℕ). IsSetOf (take z ls) now) (next k) (subst (λ c. IsSetOf c now) (sym e) (subst (IsSetOf (take k ls ++ x ∷ [])) (sym is) (record {
  same = record { each = λ y. has-push (take k ls) x y ∙ ap (λ b. b || same_literal y x) (s.same.each y) ∙ sym (has-push d x y) };
  distinct = record { each = λ y. subst (λ n. n ≤ 1) (sym (times-append d (x ∷ []) y)) (once (same_literal y x) (times d y) (s.distinct.each y) (λ q. times-none d y (ap (has d) (same_literal-true y x q) ∙ h))) };
})))

pub set-step : (ls d now : List Literal) (k : ℕ) (x : Literal) → take (suc k) ls ≡ take k ls ++ x ∷ [] → AddsOnce x d now → IsSetOf (take k ls) d → IsSetOf (take (k + 1) ls) now
set-step ls d now k x e a s = elim a [
  | inl h ↦ subst (IsSetOf (take (k + 1) ls)) (sym h.1) (set-held ls d k x e h.0 s)
  | inr h ↦ set-push ls d now k x e h.0 h.1 s
]

-- ---- lists

at-has : (c : List Literal) (j : ℕ) → j < length c → has c (watch c j) ≡ true
at-has [] j h = absurd (omega (arith, h))
at-has (x ∷ c) zero h = or_left (same_literal x x) (has c x) (same_literal-refl x)
at-has (x ∷ c) (suc j) h = or_right (same_literal (watch c j) x) (has c (watch c j)) (at-has c j (omega (arith, h)))

pub watch-fits : (c : List Literal) (j n m : ℕ) (x : Literal) → j < length c → x ≡ watch c j → m ≡ n → Fits c n → index_of x < m
watch-fits c j n m x h e l f =
    subst (λ (z : ℕ). index_of x < z) (sym l) (below x.var x.positive (f.each x (ap (has c) e ∙ at-has c j h)).high)
  where
    below : (v : ℕ) (b : Bool) → 2 * v + 1 < n → 2 * v + (if b then 0 else 1) < n
    below v true g = omega (arith, g)
    below v false g = g

pub lists-long : (old new : List (List ℕ)) (p k : ℕ) → new ≡ slice_set old p (list_at old p ++ k ∷ []) → length new ≡ length old
lists-long old new p k e = ap length e ∙ length-set old p (list_at old p ++ k ∷ [])

pub lists-short : (c : List Literal) (place : ℕ) (old new : List (List ℕ)) → length c < 2 → new ≡ old → Lists c place old new
lists-short c place old new h e = subst (Lists c place old) (sym e) (record { long = refl; more = λ q i g. g; own = λ j l two. absurd (omega (arith, h, l)) })

pub lists-both : (c : List Literal) (place n : ℕ) (old mid new : List (List ℕ)) (a b : Literal) → n ≡ length old → index_of a < n → index_of b < length mid → a ≡ watch c 0 → b ≡ watch c 1 → mid ≡ slice_set old (index_of a) (list_at old (index_of a) ++ place ∷ []) → new ≡ slice_set mid (index_of b) (list_at mid (index_of b) ++ place ∷ []) → Lists c place old new
lists-both c place n old mid new a b l fa fb wa wb m e =
    subst (Lists c place old) (sym e) (record {
      long = length-set mid (index_of b) (list_at mid (index_of b) ++ place ∷ []) ∙ ap length m ∙ length-set old (index_of a) (list_at old (index_of a) ++ place ∷ []);
      more = λ q i g. second q i (first q i g);
      own = own;
    })
  where
    lt : index_of a < length old
    lt = subst (λ (z : ℕ). index_of a < z) l fa

    first : (q i : ℕ) → among i (list_at old q) ≡ true → among i (list_at mid q) ≡ true
    first q i g = subst (λ (ls : List (List ℕ)). among i (list_at ls q) ≡ true) (sym m) (more-listed old (index_of a) place lt q i g)

    second : (q i : ℕ) → among i (list_at mid q) ≡ true → among i (list_at (slice_set mid (index_of b) (list_at mid (index_of b) ++ place ∷ [])) q) ≡ true
    second q i g = more-listed mid (index_of b) place fb q i g

    here : (ls : List (List ℕ)) (p : ℕ) → p < length ls → among place (list_at (slice_set ls p (list_at ls p ++ place ∷ [])) p) ≡ true
    here ls p h = ap (among place) (get_or-set_same ls p (list_at ls p ++ place ∷ []) [] h) ∙ among-last place (list_at ls p)

    own : (j : ℕ) → 2 ≤ length c → j < 2 → among place (list_at (slice_set mid (index_of b) (list_at mid (index_of b) ++ place ∷ [])) (index_of (watch c j))) ≡ true
    own zero h two = second (index_of (watch c 0)) place (subst (λ (x : Literal). among place (list_at mid (index_of x)) ≡ true) wa (subst (λ (ls : List (List ℕ)). among place (list_at ls (index_of a)) ≡ true) (sym m) (here old (index_of a) lt)))
    own (suc zero) h two = subst (λ (x : Literal). among place (list_at (slice_set mid (index_of b) (list_at mid (index_of b) ++ place ∷ [])) (index_of x)) ≡ true) wb (here mid (index_of b) fb)
    own (suc (suc j)) h two = absurd (omega (arith, two))

-- ---- all of them

pub stores-none : (lists : List (List ℕ)) → Stores [] [] lists (length lists)
stores-none lists = record {
  same = record { long = refl; each = λ k. record { each = λ x. refl } };
  distinct = λ k. record { each = λ x. omega arith };
  listed = record { each = λ k j h two. absurd (omega (arith, h)) };
  long = refl;
}

pub same-push : (xs ys : List (List Literal)) (c d : List Literal) → length ys ≡ length xs → ((k : ℕ) → HasSame (clause_at xs k) (clause_at ys k)) → HasSame c d → (k : ℕ) → HasSame (clause_at (xs ++ c ∷ []) k) (clause_at (ys ++ d ∷ []) k)
same-push [] [] c d e f g zero = g
same-push [] [] c d e f g (suc k) = f (suc k)
same-push [] (y ∷ ys) c d e f g k = absurd (omega (arith, e))
same-push (x ∷ xs) [] c d e f g k = absurd (omega (arith, e))
same-push (x ∷ xs) (y ∷ ys) c d e f g zero = f zero
same-push (x ∷ xs) (y ∷ ys) c d e f g (suc k) = same-push xs ys c d (omega (arith, e)) (λ j. f (suc j)) g k

pub set-fits : (cs : List (List Literal)) (k n m : ℕ) (c e d : List Literal) → FitsLists cs n → c ≡ clause_at cs k → e ≡ c → IsSetOf e d → m ≡ n → Fits d m
set-fits cs k n m c e d f is s t l = record {
  each = λ x h. subst (λ (z : ℕ). HasList z x) (sym l) (f.each k x (ap (λ y. has y x) (sym (s ∙ is)) ∙ t.same.each x ∙ h));
}

pub stores-step : (cs stored now : List (List Literal)) (lists more : List (List ℕ)) (k n p : ℕ) (c e d f : List Literal) → take (suc k) cs ≡ take k cs ++ c ∷ [] → Stores (take k cs) stored lists n → e ≡ c → IsSetOf e d → p ≡ length stored → f ≡ d → Lists f p lists more → now ≡ stored ++ d ∷ [] → Stores (take (k + 1) cs) now more n
stores-step cs stored now lists more k n p c e d f t s ec set pl fd ls is =
    subst (λ (z : ℕ). Stores (take z cs) now more n) (next k) (subst (λ xs. Stores xs now more n) (sym t) (subst (λ ys. Stores (take k cs ++ c ∷ []) ys more n) (sym is) (record {
      same = record {
        long = length-append stored (d ∷ []) ∙ ap (λ z. z + 1) s.same.long ∙ sym (length-append (take k cs) (c ∷ []));
        each = same-push (take k cs) stored c d s.same.long s.same.each (subst (λ x. HasSame x d) ec set.same);
      };
      distinct = push-each (λ j x. IsDistinct x) stored d s.distinct set.distinct;
      listed = record {
        each = push-each (λ j x. (i : ℕ) → 2 ≤ length x → i < 2 → among j (list_at more (index_of (watch x i))) ≡ true) stored d
            (λ j i h two. ls.more (index_of (watch (clause_at stored j) i)) j (s.listed.each j i h two))
            (subst (λ x. (i : ℕ) → 2 ≤ length x → i < 2 → among (length stored) (list_at more (index_of (watch x i))) ≡ true) fd
            (subst (λ (z : ℕ). (i : ℕ) → 2 ≤ length f → i < 2 → among z (list_at more (index_of (watch f i))) ≡ true) pl ls.own));
      };
      long = ls.long ∙ s.long;
    })))

-- ---- the least number

pub at-most : {b : ℕ} (a m n : ℕ) → (a < n + 1 → b < n + 1 → m < n + 1) → a ≤ n → b ≤ n → m ≤ n
at-most a m n f h k = let r = f (omega (arith, h)) (omega (arith, k)) in omega (arith, r)

pub literal-within : (n : ℕ) (c : List Literal) (k : ℕ) (x : Literal) → k < length c → x ≡ slice_index_or c k x → clause_within n c ≡ true → x.var ≤ n
literal-within n [] k x h e w = absurd (omega (arith, h))
literal-within n (y ∷ c) zero x h e w = subst (λ (z : Literal). z.var ≤ n) (sym e) (leb-true y.var n (and_parts (nat_le y.var n) (clause_within n c) w).0)
literal-within n (y ∷ c) (suc k) x h e w = literal-within n c k x (omega (arith, h)) e (and_parts (nat_le y.var n) (clause_within n c) w).1

pub clause-inside : (n : ℕ) (cs : List (List Literal)) (k : ℕ) (d : List Literal) → k < length cs → d ≡ slice_index_or cs k d → is_within n cs ≡ true → clause_within n d ≡ true
clause-inside n [] k d h e w = absurd (omega (arith, h))
clause-inside n (c ∷ cs) zero d h e w = ap (clause_within n) e ∙ (and_parts (clause_within n c) (is_within n cs) w).0
clause-inside n (c ∷ cs) (suc k) d h e w = clause-inside n cs k d (omega (arith, h)) e (and_parts (clause_within n c) (is_within n cs) w).1
