-- The least number that passes a test, in a list that has all that pass and in one that rises.
use Rattle.std.proofs.Common.{◌≡◌, ℕ, suc, ◌+◌, ◌<◌, ◌≤◌, ◌==◌, Bool, true, false, cond, ◌⊎◌, List, [], ◌∷◌, ◌++◌, length, take, get_or, refl, sym, ◌∙◌, ap, subst, inl, inr, Option, Some, None, arith}
use Rattle.std.specs.List.{find}
use Rattle.std.proofs.lemmas.Bool.{true≢false, or_cases, eqb-true, cases_Bool}
use Rattle.std.proofs.lemmas.List.{take_more}
use Rattle.std.proofs.lemmas.List.Folds.{list_any-append}
use Rattle.lrat_check.specs.Register.{Rises}
use Rattle.lrat_check.proofs.PlaceLemmas.{Rises-tail}
use Rattle.rat_check.specs.Occurrences.{among}
use Rattle.rat_check.specs.Covering.{AtMost, IsLeast}

-- ---- the least

none-here : (i : ℕ) → among [] i ≡ true → ⊥
none-here i h = true≢false (sym h)

only-one : (x i : ℕ) → among (x ∷ []) i ≡ true → x ≡ i
only-one x i h =
    elim (or_cases (x == i) false h) [
      | inl t ↦ eqb-true x i t
      | inr t ↦ absurd (true≢false (sym t))
    ]

at-most-itself : (o : Option ℕ) (b : ℕ) → o ≡ Some b → AtMost o b
at-most-itself o b e = rw e (omega arith)

pub least-none : (p : ℕ → Bool) (found : Option ℕ) → IsLeast p found [] found
least-none p found = record { one = λ m e. inr e; old = at-most-itself found; each = λ i h t. absurd (none-here i h) }

-- one number, which doesn't pass, or does
pub least-same : (p : ℕ → Bool) (found : Option ℕ) (x : ℕ) → p x ≡ false → IsLeast p found (x ∷ []) found
least-same p found x f = record {
  one = λ m e. inr e;
  old = at-most-itself found;
  each = λ i h t. absurd (true≢false (sym t ∙ ap p (sym (only-one x i h)) ∙ f));
}

pub least-new : (p : ℕ → Bool) (found : Option ℕ) (x m : ℕ) → p x ≡ true → m ≤ x → ((b : ℕ) → found ≡ Some b → m ≤ b) → (m ≡ x) ⊎ (found ≡ Some m) → IsLeast p found (x ∷ []) (Some m)
least-new p found x m t low old from = record {
  one = λ n e.
      let same : m ≡ n = cc in
      elim from [
        | inl s ↦ inl (ap p (sym same ∙ s) ∙ t)
        | inr o ↦ inr (o ∙ ap (λ k. Some k) same)
      ];
  old = old;
  each = λ i h s. subst (λ (j : ℕ). m ≤ j) (only-one x i h) low;
}

at-most-then : (b c : Option ℕ) (i : ℕ) → ((n : ℕ) → b ≡ Some n → AtMost c n) → AtMost b i → AtMost c i
at-most-then None c i k h = absurd h
at-most-then (Some n) None i k h = absurd (k n refl)
at-most-then (Some n) (Some m) i k h = let le : m ≤ n = k n refl in omega arith

pub least-then : (p : ℕ → Bool) (a b c : Option ℕ) (xs ys : List ℕ) → IsLeast p a xs b → IsLeast p b ys c → IsLeast p a (xs ++ ys) c
least-then p a b c xs ys k m = record {
  one = λ n e. elim (m.one n e) [ inl t ↦ inl t | inr o ↦ k.one n o ];
  old = λ n e. at-most-then b c n m.old (k.old n e);
  each = λ i h t.
      elim (or_cases (among xs i) (among ys i) (sym (list_any-append (λ j. j == i) xs ys) ∙ h)) [
        | inl s ↦ at-most-then b c i m.old (k.each i s t)
        | inr s ↦ m.each i s t
      ];
}

-- one number more of a list
pub least-more : (p : ℕ → Bool) (a b c : Option ℕ) (ids : List ℕ) (at : ℕ) → at < length ids → IsLeast p a (take at ids) b → IsLeast p b (get_or ids at 0 ∷ []) c → IsLeast p a (take (at + 1) ids) c
least-more p a b c ids at lt k m = rw (take_more ids at 0 lt) (least-then p a b c (take at ids) (get_or ids at 0 ∷ []) k m)

-- ---- the first of rising numbers

above-first : (x i : ℕ) (xs : List ℕ) → ((j : ℕ) → j < length xs → x < get_or xs j 0) → among xs i ≡ true → x < i
above-first x i [] k h = absurd (none-here i h)
above-first x i (y ∷ xs) k h =
    elim (or_cases (y == i) (among xs i) h) [
      | inl t ↦ (let same : y ≡ i = eqb-true y i t in let lt : x < y = k 0 (omega arith) in omega arith)
      | inr t ↦ above-first x i xs (λ j lt. k (suc j) (omega arith)) t
    ]

find-none : (p : ℕ → Bool) (ids : List ℕ) → ((i : ℕ) → p i ≡ false) → None ≡ find p ids
find-none p [] k = refl
find-none p (x ∷ ids) k = rw (k x) (find-none p ids k)

find-step : (p : ℕ → Bool) (x m : ℕ) (ids : List ℕ) (b : Bool) → p x ≡ b → Rises (x ∷ ids) → p m ≡ true → among (x ∷ ids) m ≡ true → ((i : ℕ) → p i ≡ true → m ≤ i) → (among ids m ≡ true → Some m ≡ find p ids) → Some m ≡ cond b (Some x) (find p ids)
find-step p x m ids true e r t h low k =
    let le : m ≤ x = low x e in
    elim (or_cases (x == m) (among ids m) h) [
      | inl s ↦ ap (λ n. Some n) (sym (eqb-true x m s))
      | inr s ↦ (let lt : x < m = above-first x m ids (λ j inside. r.each 0 (suc j) (omega arith) (omega arith)) s in absurd (omega arith))
    ]
find-step p x m ids false e r t h low k =
    elim (or_cases (x == m) (among ids m) h) [
      | inl s ↦ absurd (true≢false (sym t ∙ ap p (sym (eqb-true x m s)) ∙ e))
      | inr s ↦ k s
    ]

find-least : (p : ℕ → Bool) (m : ℕ) (ids : List ℕ) → Rises ids → p m ≡ true → among ids m ≡ true → ((i : ℕ) → p i ≡ true → m ≤ i) → Some m ≡ find p ids
find-least p m [] r t h low = absurd (none-here m h)
find-least p m (x ∷ ids) r t h low = find-step p x m ids (p x) refl r t h low (λ s. find-least p m ids (Rises-tail x ids r) t s low)

-- the least of a list that has all that pass is the first of all
pub least-find : (p : ℕ → Bool) (some all : List ℕ) (r : Option ℕ) → Rises all → ((i : ℕ) → p i ≡ true → among all i ≡ true) → ((i : ℕ) → p i ≡ true → among some i ≡ true) → IsLeast p None some r → r ≡ find p all
least-find p some all None rises named listed h = find-none p all (λ i.
    elim (cases_Bool (p i)) [
      | inl t ↦ absurd (h.each i (listed i t) t)
      | inr f ↦ f
    ])
least-find p some all (Some m) rises named listed h =
    elim (h.one m refl) [
      | inl t ↦ find-least p m all rises t (named m t) (λ i s. h.each i (listed i s) s)
      | inr e ↦ absurd (cc)
    ]
