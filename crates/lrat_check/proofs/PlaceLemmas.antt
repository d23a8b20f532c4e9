-- The places of ids: numbers from a first one on, and then ids that rise.
use Rattle.std.proofs.Common.{◌≡◌, drop, drop-cons, take, ℕ, zero, suc, ◌+◌, ◌-◌, ◌<◌, ◌≤◌, ◌==◌, Bool, true, false, cond, ◌&&◌, List, [], ◌∷◌, ◌++◌, length, length-append, get_or, refl, sym, ◌∙◌, ap, arith, inl, inr, Option, Some, None, Err}
use Rattle.std.specs.Prelude.{slice_set, nat_lt}
use Rattle.std.specs.List.{list_all}
use Rattle.std.proofs.Math.Seq.{take-suc}
use Rattle.std.proofs.lemmas.Bool.{true≢false, eqb-true, eq-eqb, false_from_ne_true, cases_eq, lt-ltb, ltb-true, ltb-false, cases_Bool, and_parts}
use Rattle.std.proofs.lemmas.List.Folds.{list_all-append}
use Rattle.lrat_check.specs.Register.{Rises, numbers_from, later, place_in, entries, place_of, live_place, if_live, is_new, revived, revived_at, Entries, deleted, delete_then, without}

pub ne-eqb : (a b : ℕ) → (a ≡ b → ⊥) → (a == b) ≡ false
ne-eqb a b n = false_from_ne_true (a == b) (λ e. n (eqb-true a b e))

-- n places on
abbrev pub later_by : ℕ → Option ℕ → Option ℕ
later_by n None = None
later_by n (Some p) = Some (n + p)

later-later_by : (n : ℕ) (o : Option ℕ) → later (later_by n o) ≡ later_by (suc n) o
later-later_by n None = refl
later-later_by n (Some p) = ap (λ k. Some k) (omega arith)

later_by-zero : (o : Option ℕ) → o ≡ later_by zero o
later_by-zero None = refl
later_by-zero (Some p) = ap (λ k. Some k) (omega arith)

-- a number among the first
pub place_in-numbers : (n first k id : ℕ) (xs : List ℕ) → id ≡ first + k → k < n → place_in (numbers_from first n ++ xs) id ≡ Some k
place_in-numbers zero first k id xs e lt = absurd (omega arith)
place_in-numbers (suc n) first zero id xs e lt = rw (eq-eqb first id (omega arith)) refl
place_in-numbers (suc n) first (suc k) id xs e lt =
    rw (ne-eqb first id (λ q. omega arith))
    (ap later (place_in-numbers n (suc first) k id xs (omega arith) (omega arith)))

-- a number that is not among the first
pub place_in-others : (n first id : ℕ) (xs : List ℕ) → ((k : ℕ) → k < n → id ≡ first + k → ⊥) → place_in (numbers_from first n ++ xs) id ≡ later_by n (place_in xs id)
place_in-others zero first id xs out = later_by-zero (place_in xs id)
place_in-others (suc n) first id xs out =
    rw (ne-eqb first id (λ q. out 0 (omega arith) (omega arith)))
    (ap later (place_in-others n (suc first) id xs (λ k lt e. out (suc k) (omega arith) (omega arith))) ∙ later-later_by n (place_in xs id))

pub Rises-tail : (x : ℕ) (xs : List ℕ) → Rises (x ∷ xs) → Rises xs
Rises-tail x xs r = record { each = λ i j lt within. r.each (suc i) (suc j) (omega arith) (omega arith) }

-- in rising numbers each has one place
pub place_in-at : (xs : List ℕ) (i v : ℕ) → Rises xs → i < length xs → get_or xs i 0 ≡ v → place_in xs v ≡ Some i
place_in-at [] i v r lt e = absurd (omega arith)
place_in-at (x ∷ xs) zero v r lt e = rw (eq-eqb x v e) refl
place_in-at (x ∷ xs) (suc i) v r lt e =
    let below : x < get_or xs i 0 = r.each 0 (suc i) (omega arith) lt in
    rw (ne-eqb x v (λ q. omega arith))
    (ap later (place_in-at xs i v (Rises-tail x xs r) (omega arith) e))

pub place_in-none : (xs : List ℕ) (v : ℕ) → ((k : ℕ) → k < length xs → get_or xs k 0 ≡ v → ⊥) → place_in xs v ≡ None
place_in-none [] v out = refl
place_in-none (x ∷ xs) v out =
    rw (ne-eqb x v (λ q. out 0 (omega arith) q))
    (ap later (place_in-none xs v (λ k lt e. out (suc k) (omega arith) e)))

-- what a search of rising ids found is the place
pub Rises-weak : (xs : List ℕ) → Rises xs → (i j : ℕ) → i ≤ j → j < length xs → get_or xs i 0 ≤ get_or xs j 0
Rises-weak xs r i j le lt =
    elim (cases_eq i j) [
      | inl e ↦ (rw e (omega arith))
      | inr ne ↦ (let s : get_or xs i 0 < get_or xs j 0 = r.each i j (omega arith) lt in omega arith)
    ]

pub place_of-formula : (n id : ℕ) (ids : List ℕ) (live : List Bool) → 1 ≤ id → id ≤ n → place_of (entries n ids live) id ≡ Some (id - 1)
place_of-formula n id ids live low high = place_in-numbers n 1 (id - 1) id ids (omega arith) (omega arith)

past : (n id : ℕ) → ((1 ≤ id → id ≤ n → ⊥)) → (k : ℕ) → k < n → id ≡ 1 + k → ⊥
past n id out k lt e = out (omega arith) (omega arith)

pub place_of-lemmas : (n id : ℕ) (ids : List ℕ) (live : List Bool) → (1 ≤ id → id ≤ n → ⊥) → place_of (entries n ids live) id ≡ later_by n (place_in ids id)
place_of-lemmas n id ids live out = place_in-others n 1 id ids (past n id out)

pub found_apart : (xs : List ℕ) (i v : ℕ) → ((k : ℕ) → k < i → get_or xs k 0 < v) → ((k : ℕ) → i ≤ k → k < length xs → v < get_or xs k 0) → (k : ℕ) → k < length xs → get_or xs k 0 ≡ v → ⊥
found_apart xs i v low high k lt e =
    elim (cases_Bool (nat_lt k i)) [
      | inl t ↦ (let below : get_or xs k 0 < v = low k (ltb-true k i t) in omega arith)
      | inr f ↦ (let above : v < get_or xs k 0 = high k (ltb-false k i f) lt in omega arith)
    ]

-- ---- ids that are above all others

and_true : (b : Bool) → (b && true) ≡ b
and_true true = refl
and_true false = refl

and_false : (b : Bool) → (b && false) ≡ false
and_false true = refl
and_false false = refl

pub get_or-end : (xs : List ℕ) (x : ℕ) → get_or (xs ++ x ∷ []) (length xs) 0 ≡ x
get_or-end [] x = refl
get_or-end (y ∷ xs) x = get_or-end xs x

pub get_or-before : (xs ys : List ℕ) (i : ℕ) → i < length xs → get_or (xs ++ ys) i 0 ≡ get_or xs i 0
get_or-before [] ys i lt = absurd (omega arith)
get_or-before (x ∷ xs) ys zero lt = refl
get_or-before (x ∷ xs) ys (suc i) lt = get_or-before xs ys i (omega arith)

pub all-at : (xs : List ℕ) (id i : ℕ) → list_all (λ k. nat_lt k id) xs ≡ true → i < length xs → get_or xs i 0 < id
all-at [] id i a lt = absurd (omega arith)
all-at (x ∷ xs) id zero a lt = ltb-true x id (and_parts (nat_lt x id) (list_all (λ k. nat_lt k id) xs) a).0
all-at (x ∷ xs) id (suc i) a lt = all-at xs id i (and_parts (nat_lt x id) (list_all (λ k. nat_lt k id) xs) a).1 (omega arith)

-- of two numbers the greater decides
and-greater : (a b id : ℕ) → a ≤ b → (nat_lt a id && nat_lt b id) ≡ nat_lt b id
and-greater a b id le =
    elim (cases_Bool (nat_lt b id)) [
      | inl t ↦ (let lt : b < id = ltb-true b id t in rw (t, lt-ltb a id (omega arith)) refl)
      | inr f ↦ (rw f (and_false (nat_lt a id)))
    ]

-- a number is above so many numbers in a row where it is above the last
pub above-numbers : (n first id : ℕ) → list_all (λ i. nat_lt i id) (numbers_from first (suc n)) ≡ nat_lt (first + n) id
above-numbers zero first id = and_true (nat_lt first id) ∙ ap (λ k. nat_lt k id) (omega arith)
above-numbers (suc n) first id =
    ap (λ b. nat_lt first id && b) (above-numbers n (suc first) id ∙ ap (λ k. nat_lt k id) (omega arith))
    ∙ and-greater first (first + suc n) id (omega arith)

-- .. and above rising numbers where it is above the last
pub above-rising : (xs : List ℕ) (id last : ℕ) → Rises (xs ++ last ∷ []) → list_all (λ i. nat_lt i id) (xs ++ last ∷ []) ≡ nat_lt last id
above-rising [] id last r = and_true (nat_lt last id)
above-rising (x ∷ xs) id last r =
    let end : get_or (xs ++ last ∷ []) (length xs) 0 ≡ last = get_or-end xs last in
    let len : length (xs ++ last ∷ []) ≡ length xs + 1 = length-append xs (last ∷ []) in
    let lt : x < get_or (xs ++ last ∷ []) (length xs) 0 = r.each 0 (suc (length xs)) (omega arith) (omega arith) in
    ap (λ b. nat_lt x id && b) (above-rising xs id last (Rises-tail x (xs ++ last ∷ []) r))
    ∙ and-greater x last id (omega arith)

Rises-push_each : (xs : List ℕ) (id : ℕ) → Rises xs → list_all (λ i. nat_lt i id) xs ≡ true → (i j : ℕ) → i < j → j < length (xs ++ id ∷ []) → get_or (xs ++ id ∷ []) i 0 < get_or (xs ++ id ∷ []) j 0
Rises-push_each xs id r a i j lt within =
    let len : length (xs ++ id ∷ []) ≡ length xs + 1 = length-append xs (id ∷ []) in
    let low : get_or (xs ++ id ∷ []) i 0 ≡ get_or xs i 0 = get_or-before xs (id ∷ []) i (omega arith) in
    elim (cases_Bool (nat_lt j (length xs))) [
      | inl t ↦
          (let inside : j < length xs = ltb-true j (length xs) t in
          let high : get_or (xs ++ id ∷ []) j 0 ≡ get_or xs j 0 = get_or-before xs (id ∷ []) j inside in
          let each : get_or xs i 0 < get_or xs j 0 = r.each i j lt inside in omega arith)
      | inr f ↦
          (let past_end : length xs ≤ j = ltb-false j (length xs) f in
          let at : j ≡ length xs = omega arith in
          let high : get_or (xs ++ id ∷ []) j 0 ≡ id = ap (λ k. get_or (xs ++ id ∷ []) k 0) at ∙ get_or-end xs id in
          let each : get_or xs i 0 < id = all-at xs id i a (omega arith) in omega arith)
    ]

-- one more id, above all before
pub Rises-push : (xs : List ℕ) (id : ℕ) → Rises xs → list_all (λ i. nat_lt i id) xs ≡ true → Rises (xs ++ id ∷ [])
Rises-push xs id r a = record { each = λ i j lt within. Rises-push_each xs id r a i j lt within }

pub above-formula : (n id : ℕ) → 0 < n → nat_lt n id ≡ list_all (λ i. nat_lt i id) (numbers_from 1 n)
above-formula zero id lt = absurd (omega arith)
above-formula (suc n) id lt = sym (above-numbers n 1 id ∙ ap (λ k. nat_lt k id) (omega arith))

pub above-last : (xs rest : List ℕ) (last id : ℕ) → xs ≡ rest ++ last ∷ [] → Rises xs → nat_lt last id ≡ list_all (λ i. nat_lt i id) xs
above-last xs rest last id e r = rw e (sym (above-rising rest id last (rw e at r)))

pub Rises-none : Rises []
Rises-none = record { each = λ i j lt within. absurd (omega arith) }

-- an id above all others
pub new-parts : (n id : ℕ) (ids : List ℕ) (live : List Bool) → is_new (entries n ids live) id ≡ (list_all (λ i. nat_lt i id) (numbers_from 1 n) && list_all (λ i. nat_lt i id) ids)
new-parts n id ids live = list_all-append (λ i. nat_lt i id) (numbers_from 1 n) ids

pub Rises-new : (n id : ℕ) (ids : List ℕ) (live : List Bool) → Rises ids → is_new (entries n ids live) id ≡ true → Rises (ids ++ id ∷ [])
Rises-new n id ids live r e =
    Rises-push ids id r (and_parts (list_all (λ i. nat_lt i id) (numbers_from 1 n)) (list_all (λ i. nat_lt i id) ids) (sym (new-parts n id ids live) ∙ e)).1

-- ---- making clauses live again

pub revived-append : (n : ℕ) (ids : List ℕ) (live : List Bool) (before : List ℕ) (last : ℕ) → revived (entries n ids live) (before ++ last ∷ []) ≡ revived (entries n ids (revived_at live (place_of (entries n ids live) last))) before
revived-append n ids live [] last = refl
revived-append n ids live (x ∷ before) last = ap (λ l. revived_at l (place_of (entries n ids live) x)) (revived-append n ids live before last)

pub revive-step : (n : ℕ) (ids : List ℕ) (live new wanted : List Bool) (left before : List ℕ) (last : ℕ) → left ≡ before ++ last ∷ [] → new ≡ revived_at live (place_of (entries n ids live) last) → revived (entries n ids live) left ≡ wanted → revived (entries n ids new) before ≡ wanted
revive-step n ids live new wanted left before last split e h =
    ap (λ l. revived (entries n ids l) before) e ∙ sym (revived-append n ids live before last)
    ∙ ap (revived (entries n ids live)) (sym split) ∙ h

-- ---- deleting

cond-live : (b : Bool) (q p : ℕ) → cond b (Some q) None ≡ Some p → (q ≡ p) × (b ≡ true)
cond-live true q p e = (cc, refl)
cond-live false q p e = absurd (cc)

if_live-some : (live : List Bool) (o : Option ℕ) (p : ℕ) → if_live live o ≡ Some p → (o ≡ Some p) × (get_or live p false ≡ true)
if_live-some live None p e = absurd (cc)
if_live-some live (Some q) p e =
    let f = cond-live (get_or live q false) q p e in
    (ap (λ k. Some k) f.0, ap (λ k. get_or live k false) (sym f.0) ∙ f.1)

pub live_place-some : (e : Entries) (id p : ℕ) → live_place e id ≡ Some p → (place_of e id ≡ Some p) × (get_or e.live p false ≡ true)
live_place-some e id p h = if_live-some e.live (place_of e id) p h

set-back : (live : List Bool) (p : ℕ) → get_or live p false ≡ true → slice_set (slice_set live p false) p true ≡ live
set-back [] p e = absurd (true≢false (sym e))
set-back (b ∷ live) zero e = ap (λ x. x ∷ live) (sym e)
set-back (b ∷ live) (suc p) e = ap (λ l. b ∷ l) (set-back live p e)

-- a clause that was deleted, and made live again
pub revived-deleted : (n : ℕ) (ids : List ℕ) (live : List Bool) (before : List ℕ) (id p : ℕ) → live_place (entries n ids live) id ≡ Some p → revived (entries n ids (slice_set live p false)) (before ++ id ∷ []) ≡ revived (entries n ids live) before
revived-deleted n ids live before id p h =
    let f = live_place-some (entries n ids live) id p h in
    revived-append n ids (slice_set live p false) before id
    ∙ ap (λ o. revived (entries n ids (revived_at (slice_set live p false) o)) before) f.0
    ∙ ap (λ l. revived (entries n ids l) before) (set-back live p f.1)

-- one more id is deleted, or refused
pub deleted-more : (e : Entries) (gone : List ℕ) (at id p : ℕ) → at < length gone → id ≡ get_or gone at 0 → live_place e id ≡ Some p → deleted e (drop at gone) ≡ deleted (without e p) (drop (at + 1) gone)
deleted-more e gone at id p lt i h =
    ap (deleted e) (drop-cons gone at 0 lt)
    ∙ ap (λ k. delete_then e k (live_place e k) (λ f. deleted f (drop (suc at) gone))) (sym i)
    ∙ ap (λ o. delete_then e id o (λ f. deleted f (drop (suc at) gone))) h
    ∙ ap (λ k. deleted (without e p) (drop k gone)) {x = suc at} (omega arith)

pub deleted-refused : (e : Entries) (gone : List ℕ) (at id : ℕ) → at < length gone → id ≡ get_or gone at 0 → live_place e id ≡ None → deleted e (drop at gone) ≡ Err id
deleted-refused e gone at id lt i h =
    ap (deleted e) (drop-cons gone at 0 lt)
    ∙ ap (λ k. delete_then e k (live_place e k) (λ f. deleted f (drop (suc at) gone))) (sym i)
    ∙ ap (λ o. delete_then e id o (λ f. deleted f (drop (suc at) gone))) h

pub revived-more : (n : ℕ) (ids : List ℕ) (live : List Bool) (gone : List ℕ) (at id p : ℕ) → at < length gone → id ≡ get_or gone at 0 → live_place (entries n ids live) id ≡ Some p → revived (entries n ids (slice_set live p false)) (take (at + 1) gone) ≡ revived (entries n ids live) (take at gone)
revived-more n ids live gone at id p lt i h =
    ap (λ k. revived (entries n ids (slice_set live p false)) (take k gone)) {y = suc at} (omega arith)
    ∙ ap (revived (entries n ids (slice_set live p false))) (take-suc gone at 0 lt)
    ∙ ap (λ k. revived (entries n ids (slice_set live p false)) (take at gone ++ k ∷ [])) (sym i)
    ∙ revived-deleted n ids live (take at gone) id p h

pub delete-step : (n : ℕ) (ids : List ℕ) (start live new : List Bool) (gone : List ℕ) (at p : ℕ) → at < length gone → new ≡ slice_set live p false → Some p ≡ live_place (entries n ids live) (get_or gone at 0) → deleted (entries n ids start) gone ≡ deleted (entries n ids live) (drop at gone) → deleted (entries n ids start) gone ≡ deleted (entries n ids new) (drop (at + 1) gone)
delete-step n ids start live new gone at p lt e h told =
    told ∙ deleted-more (entries n ids live) gone at (get_or gone at 0) p lt refl (sym h)
    ∙ ap (λ l. deleted (entries n ids l) (drop (at + 1) gone)) (sym e)

pub back-step : (n : ℕ) (ids : List ℕ) (start live new : List Bool) (gone : List ℕ) (at p : ℕ) → at < length gone → new ≡ slice_set live p false → Some p ≡ live_place (entries n ids live) (get_or gone at 0) → revived (entries n ids live) (take at gone) ≡ start → revived (entries n ids new) (take (at + 1) gone) ≡ start
back-step n ids start live new gone at p lt e h back =
    ap (λ l. revived (entries n ids l) (take (at + 1) gone)) e
    ∙ revived-more n ids live gone at (get_or gone at 0) p lt refl (sym h) ∙ back
