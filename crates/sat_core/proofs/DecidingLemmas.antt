-- What a search keeps as it decides, goes back and stores a lemma.
use Rattle.std.proofs.Common.{◌≡◌, ℕ, suc, ◌+◌, ◌-◌, ◌<◌, ◌≤◌, true, false, ◌||◌, List, [], ◌∷◌, ◌++◌, length, length-append, take, refl, sym, ◌∙◌, ap, subst, arith, inl, inr}
use Rattle.std.specs.Prelude.{slice_index_or}
use Rattle.std.proofs.lemmas.Bool.{cases_lt, cases_eq, or_cases, or_left, or_right, both_ways, false_from_ne_true}
use Rattle.std.proofs.lemmas.List.{get_or_append_left, get_or_at, get_or-take, length-take-le, take-append-le, take-take, take_at}
use Rattle.knox_cnf.specs.Literals.{Literal, complement, same_literal, has}
use Rattle.lrat_check.specs.Marks.{index_of}
use Rattle.lrat_check.proofs.LiteralLemmas.{same_literal-true, same_literal-refl, has-push, has-push_same}
use Rattle.sat_core.specs.Chains.{asserts, falsifies, clause_at}
use Rattle.sat_core.specs.Cones.{literal_at, HasReasons, Reasoned}
use Rattle.sat_core.specs.Watches.{is_false, satisfied, guarded}
use Rattle.sat_core.specs.Visits.{IsDistinct, watch}
use Rattle.sat_core.specs.Lists.{HasList, list_at, among, settled}
use Rattle.sat_core.specs.Tables.{AreOnce}
use Rattle.sat_core.specs.Resolved.{IsFirst, IsAssertive}
use Rattle.sat_core.specs.Storing.{Fits, Lists, AreGuarded}
use Rattle.sat_core.specs.Searching.{decision_at, AreDecisions, Stands, IsAttachable}
use Rattle.sat_core.proofs.Members.{has-take, has-left, all-from, all-has, any-from}
use Rattle.sat_core.proofs.Forcing.{consistent-push}
use Rattle.sat_core.proofs.Listing.{satisfied-more, settled-satisfied, settled-more}
use Rattle.sat_core.proofs.Reasoning.{reasons-at, reasons-more, reasoned-push}
use Rattle.sat_core.proofs.Resolving.{not-before}
use Rattle.sat_core.proofs.StoringLemmas.{push-each}
use Rattle.sat_core.proofs.SearchLemmas.{guards-settle, guards-shorts}

-- ---- literals that have lists

known-push : (t : List Literal) (l : Literal) (n : ℕ) → HasList n l → ((x : Literal) → has t x ≡ true → HasList n x) → (x : Literal) → has (t ++ l ∷ []) x ≡ true → HasList n x
known-push t l n room k x h = elim (or_cases (has t x) (same_literal x l) (sym (has-push t l x) ∙ h)) [
  | inl e ↦ k x e
  | inr e ↦ subst (HasList n) (sym (same_literal-true x l e)) room
]

one-longer : (t : List Literal) (l : Literal) (n : ℕ) → n ≤ length t → n ≤ length (t ++ l ∷ [])
one-longer t l n h = omega (arith, h, length-append t (l ∷ []))

old-decision : (ds : List ℕ) (n i : ℕ) → i < length ds → decision_at (ds ++ n ∷ []) i ≡ decision_at ds i
old-decision ds n i h = get_or_append_left ds (n ∷ []) 0 i h

last-decision : (ds : List ℕ) (n i : ℕ) → i ≡ length ds → decision_at (ds ++ n ∷ []) i ≡ n
last-decision ds n i e = get_or_at ds n [] 0 i (sym e)

-- ---- a decision

decided-push : (ds : List ℕ) (t : List Literal) (l : Literal) → AreDecisions ds t → AreDecisions (ds ++ length t ∷ []) (t ++ l ∷ [])
decided-push ds t l d = record {
  rising = λ i j lt h.
      let long : length (ds ++ length t ∷ []) ≡ length ds + 1 = length-append ds (length t ∷ []) in
      let il : i < length ds = omega (arith, long, lt, h) in
      let first : decision_at (ds ++ length t ∷ []) i ≡ decision_at ds i = old-decision ds (length t) i il in
      elim (cases_lt j (length ds)) [
        | inl jl ↦
            (let second : decision_at (ds ++ length t ∷ []) j ≡ decision_at ds j = old-decision ds (length t) j jl in
            let less = d.rising i j lt jl in
            omega (arith, first, second, less))
        | inr ge ↦
            (let second : decision_at (ds ++ length t ∷ []) j ≡ length t = last-decision ds (length t) j (omega (arith, long, h, ge)) in
            let less = d.inside i il in
            omega (arith, first, second, less))
      ];
  inside = λ i h.
      let long : length (ds ++ length t ∷ []) ≡ length ds + 1 = length-append ds (length t ∷ []) in
      let more : length (t ++ l ∷ []) ≡ length t + 1 = length-append t (l ∷ []) in
      elim (cases_lt i (length ds)) [
        | inl il ↦ (let first : decision_at (ds ++ length t ∷ []) i ≡ decision_at ds i = old-decision ds (length t) i il in let less = d.inside i il in omega (arith, first, less, more))
        | inr ge ↦ (let first : decision_at (ds ++ length t ∷ []) i ≡ length t = last-decision ds (length t) i (omega (arith, long, h, ge)) in omega (arith, first, more))
      ];
}

stands-push : (stored : List (List Literal)) (lists : List (List ℕ)) (t : List Literal) (reasons ds : List ℕ) (done looked : ℕ) (l : Literal) → AreGuarded stored t → has t l ≡ false → is_false t l ≡ false → HasList (length lists) l → Stands stored lists t reasons ds done looked → Stands stored lists (t ++ l ∷ []) (reasons ++ 0 ∷ []) (ds ++ length t ∷ []) done looked
stands-push stored lists t reasons ds done looked l g n f room s = record {
  ready = record {
    fits = s.ready.fits;
    known = known-push t l (length lists) room s.ready.known;
    listed = s.ready.listed;
    quiet = λ k. settled-more t done (clause_at stored k) (l ∷ []) s.here (s.ready.quiet k);
    distinct = s.ready.distinct;
  };
  here = one-longer t l done s.here;
  consistent = consistent-push t l s.consistent f;
  shorts = λ k h short. satisfied-more t (t ++ l ∷ []) (clause_at stored k) (λ x m. has-left t (l ∷ []) x m) (s.shorts k h short);
  long = length-append reasons (0 ∷ []) ∙ ap (λ z. z + 1) s.long ∙ sym (length-append t (l ∷ []));
  reasoned = λ p h u.
      let long : length (ds ++ length t ∷ []) ≡ length ds + 1 = length-append ds (length t ∷ []) in
      let more : length (t ++ l ∷ []) ≡ length t + 1 = length-append t (l ∷ []) in
      elim (cases_lt p (length t)) [
        | inl lt ↦
            reasons-more stored t (t ++ l ∷ []) (l ∷ []) reasons (reasons ++ 0 ∷ []) p refl lt (get_or_append_left reasons (0 ∷ []) 0 p (subst (λ (z : ℕ). p < z) (sym s.long) lt))
            (s.reasoned p lt (λ i il e. u i (omega (arith, long, il)) (old-decision ds (length t) i il ∙ e)))
        | inr ge ↦ absurd (u (length ds) (omega (arith, long)) (last-decision ds (length t) (length ds) refl ∙ (let e : length t ≡ p = omega (arith, more, h, ge) in e)))
      ];
  decided = decided-push ds t l s.decided;
  guards = λ i h.
      let long : length (ds ++ length t ∷ []) ≡ length ds + 1 = length-append ds (length t ∷ []) in
      elim (cases_lt i (length ds)) [
        | inl il ↦
            (let inside = s.decided.inside i il in
            subst (λ (z : ℕ). AreGuarded stored (take z (t ++ l ∷ []))) (sym (old-decision ds (length t) i il))
            (subst (AreGuarded stored) (sym (take-append-le (decision_at ds i) t (l ∷ []) (omega (arith, inside)))) (s.guards i il)))
        | inr ge ↦
            subst (λ (z : ℕ). AreGuarded stored (take z (t ++ l ∷ []))) (sym (last-decision ds (length t) i (omega (arith, long, h, ge))))
            (subst (AreGuarded stored) (sym (take_at t (l ∷ []) (length t) refl)) g)
      ];
}

pub stands-decided : (stored : List (List Literal)) (lists : List (List ℕ)) (t new : List Literal) (reasons rs ds more : List ℕ) (done looked n : ℕ) (l : Literal) → n ≡ length t → new ≡ t ++ l ∷ [] → rs ≡ reasons ++ 0 ∷ [] → more ≡ ds ++ n ∷ [] → AreGuarded stored t → has t l ≡ false → is_false t l ≡ false → HasList (length lists) l → Stands stored lists t reasons ds done looked → Stands stored lists new rs more done looked
stands-decided stored lists t new reasons rs ds more done looked n l ne e re me g u f room s =
    subst (λ ts. Stands stored lists ts rs more done looked) (sym e)
    (subst (λ xs. Stands stored lists (t ++ l ∷ []) xs more done looked) (sym re)
    (subst (λ xs. Stands stored lists (t ++ l ∷ []) (reasons ++ 0 ∷ []) xs done looked) (sym (me ∙ ap (λ (z : ℕ). ds ++ z ∷ []) ne))
    (stands-push stored lists t reasons ds done looked l g u f room s)))

-- ---- the way back

stands-taken : (stored : List (List Literal)) (lists : List (List ℕ)) (t : List Literal) (reasons ds : List ℕ) (done looked level at : ℕ) → at ≡ decision_at ds level → level < length ds → Stands stored lists t reasons ds done looked → Stands stored lists (take at t) (take at reasons) (take level ds) at (length stored)
stands-taken stored lists t reasons ds done looked level at e lt s =
    let inside : at < length t = subst (λ (z : ℕ). z < length t) (sym e) (s.decided.inside level lt) in
    let g : AreGuarded stored (take at t) = subst (λ (z : ℕ). AreGuarded stored (take z t)) (sym e) (s.guards level lt) in
    let long : length (take at t) ≡ at = length-take-le at t (omega (arith, inside)) in
    let few : length (take level ds) ≡ level = length-take-le level ds (omega (arith, lt)) in
    let same : (i : ℕ) → i < level → decision_at (take level ds) i ≡ decision_at ds i = λ i h. get_or-take level ds i 0 h in
    record {
      ready = record {
        fits = s.ready.fits;
        known = λ x h. s.ready.known x (has-take at t x h);
        listed = s.ready.listed;
        quiet = guards-settle stored (take at t) at (omega (arith, long)) g;
        distinct = s.ready.distinct;
      };
      here = omega (arith, long);
      consistent = record { each = λ x h. false_from_ne_true (has (take at t) (complement x)) (λ m. both_ways (has t (complement x)) (s.consistent.each x (has-take at t x h)) (has-take at t (complement x) m)) };
      shorts = guards-shorts stored (take at t) (length stored) (omega arith) g;
      long = length-take-le at reasons (let l = s.long in omega (arith, l, inside)) ∙ sym long;
      reasoned = λ p h u.
          let below : p < at = omega (arith, h, long) in
          reasons-at stored t (take at t) reasons (take at reasons) p (take-take p at t (omega (arith, below))) (get_or-take at t p _ below) (get_or-take at reasons p 0 below)
          (s.reasoned p (omega (arith, below, inside)) (λ i il same_place. elim (cases_lt i level) [
            | inl low ↦ u i (omega (arith, few, low)) (same i low ∙ same_place)
            | inr high ↦ elim (cases_eq i level) [
              | inl here ↦ (let z : decision_at ds level ≡ p = ap (decision_at ds) (sym here) ∙ same_place in omega (arith, z, e, below))
              | inr other ↦ (let up = s.decided.rising level i (omega (arith, high, other)) il in let z : decision_at ds i ≡ p = same_place in omega (arith, z, e, below, up))
            ]
          ]));
      decided = record {
        rising = λ i j less h.
            let jl : j < level = omega (arith, few, h) in
            let a = same i (omega (arith, less, jl)) in
            let b = same j jl in
            let up = s.decided.rising i j less (omega (arith, jl, lt)) in
            omega (arith, a, b, up);
        inside = λ i h.
            let il : i < level = omega (arith, few, h) in
            let a = same i il in
            let up = s.decided.rising i level il lt in
            omega (arith, a, up, e, long);
      };
      guards = λ i h.
          let il : i < level = omega (arith, few, h) in
          let up = s.decided.rising i level il lt in
          subst (λ (z : ℕ). AreGuarded stored (take z (take at t))) (sym (same i il))
          (subst (AreGuarded stored) (sym (take-take (decision_at ds i) at t (omega (arith, up, e)))) (s.guards i (omega (arith, il, lt))));
    }

pub stands-back : (stored : List (List Literal)) (lists : List (List ℕ)) (t new : List Literal) (reasons rs ds less : List ℕ) (done looked level at n : ℕ) → at ≡ decision_at ds level → level < length ds → new ≡ take at t → rs ≡ take at reasons → less ≡ take level ds → n ≡ length stored → Stands stored lists t reasons ds done looked → Stands stored lists new rs less at n
stands-back stored lists t new reasons rs ds less done looked level at n e lt te re le ne s =
    subst (λ ts. Stands stored lists ts rs less at n) (sym te)
    (subst (λ xs. Stands stored lists (take at t) xs less at n) (sym re)
    (subst (λ xs. Stands stored lists (take at t) (take at reasons) xs at n) (sym le)
    (subst (Stands stored lists (take at t) (take at reasons) (take level ds) at) (sym ne) (stands-taken stored lists t reasons ds done looked level at e lt s))))

pub back-guarded : (stored : List (List Literal)) (lists : List (List ℕ)) (t new : List Literal) (reasons ds : List ℕ) (done looked level at : ℕ) → at ≡ decision_at ds level → level < length ds → new ≡ take at t → Stands stored lists t reasons ds done looked → AreGuarded stored new
back-guarded stored lists t new reasons ds done looked level at e lt te s = subst (AreGuarded stored) (sym (te ∙ ap (λ (z : ℕ). take z t) e)) (s.guards level lt)

-- ---- a lemma is stored

-- what holds of the clauses that stood, and of one more
pushed : (P : List Literal → Type 0) (cs : List (List Literal)) (d : List Literal) (k : ℕ) → k < length cs + 1 → (k < length cs → P (clause_at cs k)) → P d → P (clause_at (cs ++ d ∷ []) k)
pushed P cs d k h old own = elim (cases_lt k (length cs)) [
  | inl lt ↦ subst P (sym (get_or_append_left cs (d ∷ []) [] k lt)) (old lt)
  | inr ge ↦ subst P (sym (get_or_at cs d [] [] k (omega (arith, h, ge)))) own
]

reasons-grown : (cs : List (List Literal)) (d t : List Literal) (reasons : List ℕ) (p : ℕ) → HasReasons cs t reasons p → HasReasons (cs ++ d ∷ []) t reasons p
reasons-grown cs d t reasons p r = record {
  inside = (let i = r.inside in omega (arith, i, length-append cs (d ∷ [])));
  forced = ap (λ c. asserts (take p t) c (literal_at t p)) (get_or_append_left cs (d ∷ []) [] (slice_index_or reasons p 0) r.inside) ∙ r.forced;
}

lemma-asserts : (t ds_lemma : List Literal) (ds : List ℕ) → (a : IsAttachable t ds ds_lemma) → asserts t ds_lemma a.literal ≡ true
lemma-asserts t c ds a = all-from (λ x. has t (complement x) || same_literal a.literal x) c (λ x h.
    elim (or_cases (same_literal x a.literal) (has a.rest x) (ap (λ d. has d x) (sym a.is) ∙ h)) [
      | inl e ↦ or_right (has t (complement x)) (same_literal a.literal x) (ap (same_literal a.literal) (same_literal-true x a.literal e) ∙ same_literal-refl a.literal)
      | inr e ↦ or_left (has t (complement x)) (same_literal a.literal x) (all-has (λ y. has t (complement y)) a.rest x a.below e)
    ])

first-has : (c : List Literal) (l : Literal) (rest : List Literal) → c ≡ l ∷ rest → has c l ≡ true
first-has c l rest e = ap (λ d. has d l) e ∙ or_left (same_literal l l) (has rest l) (same_literal-refl l)

stands-stored : (stored : List (List Literal)) (lists after : List (List ℕ)) (t c : List Literal) (reasons ds : List ℕ) (done looked : ℕ) → (a : IsAttachable t ds c) → AreGuarded stored t → Fits c (length lists) → Lists c (length stored) lists after → Stands stored lists t reasons ds done looked → Stands (stored ++ c ∷ []) after (t ++ a.literal ∷ []) (reasons ++ length stored ∷ []) ds done (length stored + 1)
stands-stored stored lists after t c reasons ds done looked a g f ls s =
    let new : List Literal = t ++ a.literal ∷ [] in
    let own : has c a.literal ≡ true = first-has c a.literal a.rest a.is in
    let true_now : satisfied new c ≡ true = any-from (has new) c a.literal own (has-push_same t a.literal) in
    let more : (x : Literal) → has t x ≡ true → has new x ≡ true = λ x m. has-left t (a.literal ∷ []) x m in
    let reason : Reasoned (stored ++ c ∷ []) t new reasons (reasons ++ length stored ∷ []) =
    reasoned-push (stored ++ c ∷ []) t new a.literal reasons (reasons ++ length stored ∷ []) (length stored) refl refl s.long (omega (arith, length-append stored (c ∷ [])))
    (ap (λ d. asserts t d a.literal) (get_or_at stored c [] [] (length stored) refl) ∙ lemma-asserts t c ds a) in
    record {
      ready = record {
        fits = record { each = λ k x. push-each (λ j d. (y : Literal) → has d y ≡ true → HasList (length after) y) stored c (λ j y h. wide y (s.ready.fits.each j y h)) (λ y h. wide y (f.each y h)) k x };
        known = known-push t a.literal (length after) (wide a.literal (f.each a.literal own)) (λ x h. wide x (s.ready.known x h));
        listed = record {
          each = push-each (λ j x. (i : ℕ) → 2 ≤ length x → i < 2 → among j (list_at after (index_of (watch x i))) ≡ true) stored c
              (λ j i h two. ls.more (index_of (watch (clause_at stored j) i)) j (s.ready.listed.each j i h two)) ls.own;
        };
        quiet = push-each (λ j d. settled new done d ≡ true) stored c (λ j. settled-more t done (clause_at stored j) (a.literal ∷ []) s.here (s.ready.quiet j)) (settled-satisfied new done c true_now);
        distinct = push-each (λ j d. IsDistinct d) stored c s.ready.distinct a.distinct;
      };
      here = one-longer t a.literal done s.here;
      consistent = consistent-push t a.literal s.consistent a.free;
      shorts = λ k h. pushed (λ d. length d < 2 → satisfied new d ≡ true) stored c k h
          (λ lt short. satisfied-more t new (clause_at stored k) more (guards-shorts stored t (length stored) (omega arith) g k lt short)) (λ short. true_now);
      long = reason.long;
      reasoned = λ p h u. elim (cases_lt p (length t)) [
        | inl lt ↦ reasons-more (stored ++ c ∷ []) t new (a.literal ∷ []) reasons (reasons ++ length stored ∷ []) p refl lt (reason.kept p lt) (reasons-grown stored c t reasons p (s.reasoned p lt u))
        | inr ge ↦ reason.each p ge h
      ];
      decided = record { rising = s.decided.rising; inside = λ i h. (let lt = s.decided.inside i h in omega (arith, lt, length-append t (a.literal ∷ []))) };
      guards = λ i h k lt.
          let inside = s.decided.inside i h in
          let same : take (decision_at ds i) new ≡ take (decision_at ds i) t = take-append-le (decision_at ds i) t (a.literal ∷ []) (omega (arith, inside)) in
          subst (λ u. guarded u (clause_at (stored ++ c ∷ []) k) ≡ true) (sym same)
          (pushed (λ d. guarded (take (decision_at ds i) t) d ≡ true) stored c k (omega (arith, lt, length-append stored (c ∷ []))) (λ low. s.guards i h k low) (a.guards i h));
    }
  where
    wide : (x : Literal) → HasList (length lists) x → HasList (length after) x
    wide x h = subst (λ (z : ℕ). HasList z x) (sym ls.long) h

pub stands-attached : (stored now : List (List Literal)) (lists after : List (List ℕ)) (t new c : List Literal) (reasons rs ds : List ℕ) (done looked n seen : ℕ) (l : Literal) → (a : IsAttachable t ds c) → l ≡ a.literal → n ≡ length stored → now ≡ stored ++ c ∷ [] → new ≡ t ++ l ∷ [] → rs ≡ reasons ++ n ∷ [] → seen ≡ length now → AreGuarded stored t → Fits c (length lists) → Lists c n lists after → Stands stored lists t reasons ds done looked → Stands now after new rs ds done seen
stands-attached stored now lists after t new c reasons rs ds done looked n seen l a le ne we te re se g f ls s =
    let last : seen ≡ length stored + 1 = se ∙ ap length we ∙ length-append stored (c ∷ []) in
    subst (λ ws. Stands ws after new rs ds done seen) (sym we)
    (subst (λ ts. Stands (stored ++ c ∷ []) after ts rs ds done seen) (sym (te ∙ ap (λ (x : Literal). t ++ x ∷ []) le))
    (subst (λ xs. Stands (stored ++ c ∷ []) after (t ++ a.literal ∷ []) xs ds done seen) (sym (re ∙ ap (λ (z : ℕ). reasons ++ z ∷ []) ne))
    (subst (Stands (stored ++ c ∷ []) after (t ++ a.literal ∷ []) (reasons ++ length stored ∷ []) ds done) (sym last)
    (stands-stored stored lists after t c reasons ds done looked a g f (subst (λ (z : ℕ). Lists c z lists after) ne ls) s))))

-- ---- to which decision a lemma leads back

less-false : (t : List Literal) (n m : ℕ) (x : Literal) → n ≤ m → has (take m t) x ≡ false → has (take n t) x ≡ false
less-false t n m x le h = false_from_ne_true (has (take n t) x) (λ k. both_ways (has (take m t) x) h (has-take n (take m t) x (ap (λ u. has u x) (take-take n m t le) ∙ k)))

more-true : (t : List Literal) (n m : ℕ) (x : Literal) → n ≤ m → has (take n t) x ≡ true → has (take m t) x ≡ true
more-true t n m x le h = has-take n (take m t) x (ap (λ u. has u x) (take-take n m t le) ∙ h)

pub last-le : (ds : List ℕ) (t : List Literal) (level : ℕ) → AreDecisions ds t → level < length ds → decision_at ds level ≤ decision_at ds (length ds - 1)
last-le ds t level d lt = elim (cases_eq level (length ds - 1)) [
  | inl e ↦ (let z : decision_at ds level ≡ decision_at ds (length ds - 1) = ap (decision_at ds) e in omega (arith, z))
  | inr ne ↦ (let up = d.rising level (length ds - 1) (omega (arith, lt, ne)) (omega (arith, lt)) in omega (arith, up))
]

pub unit-attachable : (t c : List Literal) (ds : List ℕ) → 0 < length ds → AreDecisions ds t → IsAssertive t (decision_at ds (length ds - 1)) c → length c < 2 → IsAttachable (take (decision_at ds 0) t) (take 0 ds) c
unit-attachable t c ds some d a short =
    let le = last-le ds t 0 d some in
    record {
      literal = a.literal;
      rest = a.rest;
      is = a.is;
      unset = less-false t (decision_at ds 0) (decision_at ds (length ds - 1)) a.literal le a.unset;
      free = less-false t (decision_at ds 0) (decision_at ds (length ds - 1)) (complement a.literal) le a.free;
      below = none a.rest (let l : length c ≡ suc (length a.rest) = ap length a.is in omega (arith, l, short));
      guards = λ i h. absurd (omega (arith, h));
      distinct = a.distinct;
    }
  where
    none : (r : List Literal) → length r ≡ 0 → falsifies (take (decision_at ds 0) t) r ≡ true
    none [] e = refl
    none (x ∷ r) e = absurd (omega (arith, e))

-- the second literal of a lemma, and the place at which it became false
pub second-place : (t c : List Literal) (at q : ℕ) (y : Literal) → AreOnce t → at ≤ length t → (a : IsAssertive t at c) → 2 ≤ length c → y ≡ watch c 1 → IsFirst t (complement y) q → (q < at) × (literal_at t q ≡ complement y) × (falsifies (take (suc q) t) a.rest ≡ true) × ((more : List Literal) × (a.rest ≡ y ∷ more))
second-place t c at q y o le a long ye f = from a.rest refl
  where
    from : (r : List Literal) → a.rest ≡ r → (q < at) × (literal_at t q ≡ complement y) × (falsifies (take (suc q) t) a.rest ≡ true) × ((more : List Literal) × (a.rest ≡ y ∷ more))
    from [] e = absurd (let l : length c ≡ suc (length a.rest) = ap length a.is in let m : length a.rest ≡ 0 = ap length e in omega (arith, l, m, long))
    from (z ∷ more) e =
        let top = a.top z more e in
        let same : z ≡ y = sym (ap (λ d. watch d 1) (a.is ∙ ap (λ (r : List Literal). a.literal ∷ r) e)) ∙ sym ye in
        let there : literal_at t top.0 ≡ complement y = top.2 ∙ ap complement same in
        let b = top.1 in
        let inside : top.0 < length t = omega (arith, b, le) in
        let at_q : top.0 ≡ q = elim (cases_eq top.0 q) [
          | inl k ↦ k
          | inr ne ↦ elim (cases_lt top.0 q) [
            | inl lt ↦ absurd (both_ways (same_literal (complement y) (literal_at t top.0)) (f.first top.0 lt) (ap (same_literal (complement y)) there ∙ same_literal-refl (complement y)))
            | inr ge ↦ absurd (both_ways (same_literal (literal_at t top.0) (literal_at t q)) (o.each q top.0 (omega (arith, ge, ne)) inside) (ap (λ x. same_literal x (literal_at t q)) there ∙ ap (same_literal (complement y)) f.is ∙ same_literal-refl (complement y)))
          ]
        ] in (
          subst (λ (k : ℕ). k < at) at_q top.1,
          f.is,
          subst (λ (k : ℕ). falsifies (take (suc k) t) a.rest ≡ true) at_q top.3,
          (more, e ∙ ap (λ (x : Literal). x ∷ more) same),
        )

pub long-attachable : (t c : List Literal) (ds : List ℕ) (q level : ℕ) (y : Literal) → AreOnce t → AreDecisions ds t → IsAssertive t (decision_at ds (length ds - 1)) c → 2 ≤ length c → y ≡ watch c 1 → IsFirst t (complement y) q → level < length ds → q < decision_at ds level → ((i : ℕ) → i < level → decision_at ds i ≤ q) → IsAttachable (take (decision_at ds level) t) (take level ds) c
long-attachable t c ds q level y o d a long ye f lt behind before =
    let last : ℕ = decision_at ds (length ds - 1) in
    let top : last < length t = d.inside (length ds - 1) (omega (arith, lt)) in
    let p = second-place t c last q y o (omega (arith, top)) a long ye f in
    let le = last-le ds t level d lt in
    let few : length (take level ds) ≡ level = length-take-le level ds (omega (arith, lt)) in
    record {
      literal = a.literal;
      rest = a.rest;
      is = a.is;
      unset = less-false t (decision_at ds level) last a.literal le a.unset;
      free = less-false t (decision_at ds level) last (complement a.literal) le a.free;
      below = all-from (λ x. has (take (decision_at ds level) t) (complement x)) a.rest (λ x h. more-true t (suc q) (decision_at ds level) (complement x) (omega (arith, behind)) (all-has (λ z. has (take (suc q) t) (complement z)) a.rest x p.2 h));
      guards = λ i h.
          let il : i < level = omega (arith, few, h) in
          let low = before i il in
          let here : decision_at (take level ds) i ≡ decision_at ds i = get_or-take level ds i 0 il in
          let up = d.rising i level il lt in
          let same : take (decision_at (take level ds) i) (take (decision_at ds level) t) ≡ take (decision_at ds i) t =
          ap (λ (k : ℕ). take k (take (decision_at ds level) t)) here ∙ take-take (decision_at ds i) (decision_at ds level) t (omega (arith, up)) in
          let first : is_false (take (decision_at ds i) t) a.literal ≡ false = less-false t (decision_at ds i) last (complement a.literal) (omega (arith, up, le)) a.free in
          let second : is_false (take (decision_at ds i) t) y ≡ false = ap (has (take (decision_at ds i) t)) (sym p.1) ∙ not-before t (decision_at ds i) q o low f.inside in
          subst (λ u. guarded u c ≡ true) (sym same) (subst (λ e. guarded (take (decision_at ds i) t) e ≡ true) (sym (a.is ∙ ap (λ (r : List Literal). a.literal ∷ r) p.3.1)) (open-guarded (take (decision_at ds i) t) a.literal y p.3.0 first second));
      distinct = a.distinct;
    }
  where
    open-guarded : (u : List Literal) (l y : Literal) (c : List Literal) → is_false u l ≡ false → is_false u y ≡ false → guarded u (l ∷ y ∷ c) ≡ true
    open-guarded u l y c n m = rw (n, m) refl
