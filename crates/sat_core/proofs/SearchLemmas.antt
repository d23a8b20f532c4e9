-- What a search keeps, as it propagates, decides, goes back and learns.
use Rattle.std.proofs.Common.{◌≡◌, ℕ, zero, suc, ◌+◌, ◌<◌, ◌≤◌, Bool, true, false, not, ◌&&◌, ◌||◌, List, [], ◌∷◌, length, length-append, take, refl, sym, ◌∙◌, ap, subst, arith, inl, inr, ◌⊎◌, Option, Some, None}
use Rattle.std.specs.Option.{is_some}
use Rattle.std.proofs.lemmas.Bool.{cases_lt, or_left, true≢false, both_ways}
use Rattle.std.proofs.lemmas.List.{take-append-le, take_all}
use Rattle.knox_cnf.specs.Literals.{Literal, has}
use Rattle.lrat_check.specs.Derivations.{Proof}
use Rattle.sat_core.specs.declared.search.Search.{Search}
use Rattle.sat_core.specs.Solving.{IsSound}
use Rattle.sat_core.specs.Chains.{clause_at}
use Rattle.sat_core.specs.Cones.{Reasoned}
use Rattle.sat_core.specs.Watches.{is_false, satisfied, guarded}
use Rattle.sat_core.specs.Lists.{settled, AreSettled, AreRewatched, Appends}
use Rattle.sat_core.specs.Explained.{SameClauses}
use Rattle.sat_core.specs.Storing.{ShortsHold, AreGuarded, Finishes, Propagated}
use Rattle.sat_core.specs.Searching.{decision_at, Stands}
use Rattle.sat_core.proofs.Members.{has-take}
use Rattle.sat_core.proofs.Forcing.{appends-consistent}
use Rattle.sat_core.proofs.Listing.{satisfied-more}
use Rattle.sat_core.proofs.Reasoning.{reasoned-old}
use Rattle.sat_core.proofs.Walking.{appends-has, ready-on}
use Rattle.sat_core.proofs.Watching.{satisfied-same}
use Rattle.sat_core.proofs.PropagatedLemmas.{settled-zero, same-none, same-on}

-- ---- propagation

guards-on : (old new : List (List Literal)) (was is : List Literal) (d : ℕ) → AreRewatched was old new → Appends old was is → d ≤ length was → AreGuarded old (take d was) → AreGuarded new (take d is)
guards-on old new was is d w a le g = λ k h.
    subst (λ t. guarded t (clause_at new k) ≡ true) (sym (ap (take d) a.appended ∙ take-append-le d was a.added le))
    ((w.each k).guards (take d was) (has-take d was) (g k (subst (λ (n : ℕ). k < n) w.long h)))

shorts-on : (old new : List (List Literal)) (was is : List Literal) (n : ℕ) → AreRewatched was old new → Appends old was is → ShortsHold old was n → ShortsHold new is n
shorts-on old new was is n w a s = λ k h short.
    satisfied-same is (clause_at old k) (clause_at new k) (w.each k).same
    (satisfied-more was is (clause_at old k) (λ x m. appends-has old was is x a m)
    (s k h (subst (λ (z : ℕ). z < 2) (w.each k).long short)))

longer : (cs : List (List Literal)) (was is : List Literal) (n : ℕ) → Appends cs was is → n < length was → n < length is
longer cs was is n a h = let e : length is ≡ length was + length a.added = ap length a.appended ∙ length-append was a.added in omega (arith, e, h)

stands-propagated : (old new : List (List Literal)) (before after : List (List ℕ)) (was is : List Literal) (reasons later decisions : List ℕ) (done looked next seen : ℕ) (r : Option ℕ) → Stands old before was reasons decisions done looked → Propagated old new before after was is r → Reasoned new was is reasons later → next ≤ length is → AreSettled new is next → ShortsHold new is seen → Stands new after is later decisions next seen
stands-propagated old new before after was is reasons later decisions done looked next seen r s p q here settle shorts = record {
  ready = ready-on old new before after was is done next s.ready (record { rewatched = p.rewatched; appends = p.appends; long = p.long; listed = p.listed }) settle;
  here = here;
  consistent = appends-consistent old was is s.consistent p.appends;
  shorts = shorts;
  long = q.long;
  reasoned = λ k h u. elim (cases_lt k (length was)) [
    | inl lt ↦ reasoned-old old new was is reasons later k p.rewatched p.appends q lt (s.reasoned k lt u)
    | inr ge ↦ q.each k ge h
  ];
  decided = record { rising = s.decided.rising; inside = λ i h. longer old was is (decision_at decisions i) p.appends (s.decided.inside i h) };
  guards = λ i h. guards-on old new was is (decision_at decisions i) p.rewatched p.appends (let lt = s.decided.inside i h in omega (arith, lt)) (s.guards i h);
}

-- a clause is false
pub stands-conflict : (old new : List (List Literal)) (before after : List (List ℕ)) (was is : List Literal) (reasons later decisions : List ℕ) (done looked : ℕ) (r : Option ℕ) → Stands old before was reasons decisions done looked → Propagated old new before after was is r → Reasoned new was is reasons later → Stands new after is later decisions 0 looked
stands-conflict old new before after was is reasons later decisions done looked r s p q =
    stands-propagated old new before after was is reasons later decisions done looked 0 looked r s p q (omega arith) (λ k. settled-zero is (clause_at new k)) (shorts-on old new was is looked p.rewatched p.appends s.shorts)

past : (cs : List (List Literal)) (n : ℕ) → length cs ≤ n → clause_at cs n ≡ []
past [] n e = refl
past (x ∷ cs) zero e = absurd (omega (arith, e))
past (x ∷ cs) (suc n) e = past cs n (omega (arith, e))

guarded-settled : (t : List Literal) (n : ℕ) (c : List Literal) → length t ≤ n → guarded t c ≡ true → settled t n c ≡ true
guarded-settled t n [] h g = refl
guarded-settled t n (a ∷ []) h g = refl
guarded-settled t n (a ∷ b ∷ c) h g = ap (λ u. (not (is_false u a) && not (is_false u b)) || satisfied t (a ∷ b ∷ c)) (take_all n t h) ∙ g

pub guards-settle : (cs : List (List Literal)) (t : List Literal) (n : ℕ) → length t ≤ n → AreGuarded cs t → AreSettled cs t n
guards-settle cs t n h g k = elim (cases_lt k (length cs)) [
  | inl lt ↦ guarded-settled t n (clause_at cs k) h (g k lt)
  | inr ge ↦ ap (settled t n) (past cs k ge)
]

guarded-short : (t c : List Literal) → length c < 2 → guarded t c ≡ true → satisfied t c ≡ true
guarded-short t [] h g = absurd (true≢false (sym g))
guarded-short t (a ∷ []) h g = or_left (has t a) false g
guarded-short t (a ∷ b ∷ c) h g = absurd (omega (arith, h))

pub guards-shorts : (cs : List (List Literal)) (t : List Literal) (n : ℕ) → n ≤ length cs → AreGuarded cs t → ShortsHold cs t n
guards-shorts cs t n h g = λ k lt short. guarded-short t (clause_at cs k) short (g k (omega (arith, lt, h)))

finishes-none : (cs : List (List Literal)) (t : List Literal) (r : Option ℕ) → is_some r ≡ false → Finishes cs t r → AreGuarded cs t
finishes-none cs t None h f = f
finishes-none cs t (Some k) h f = absurd (true≢false h)

-- all is propagated
pub stands-quiet : (old new : List (List Literal)) (before after : List (List ℕ)) (was is : List Literal) (reasons later decisions : List ℕ) (done looked next seen : ℕ) (r : Option ℕ) → next ≡ length is → seen ≡ length new → is_some r ≡ false → Stands old before was reasons decisions done looked → Propagated old new before after was is r → Reasoned new was is reasons later → Stands new after is later decisions next seen
stands-quiet old new before after was is reasons later decisions done looked next seen r n e none s p q =
    let g : AreGuarded new is = finishes-none new is r none p.finishes in
    stands-propagated old new before after was is reasons later decisions done looked next seen r s p q (omega (arith, n)) (guards-settle new is next (omega (arith, n)) g) (guards-shorts new is seen (omega (arith, e)) g)

pub none-finishes : (cs : List (List Literal)) (t : List Literal) (r : Option ℕ) → is_some r ≡ false → Finishes cs t r → Finishes cs t None
none-finishes cs t r h f = finishes-none cs t r h f

pub same-propagated : (old new : List (List Literal)) (before after : List (List ℕ)) (was is : List Literal) (r : Option ℕ) → Propagated old new before after was is r → SameClauses old new
same-propagated old new before after was is r p = same-on old old new was (same-none old) p.rewatched

pub stands-put : (s stored : List (List Literal)) (l lists : List (List ℕ)) (t : List Literal) (reasons decisions : List ℕ) (done looked : ℕ) → s ≡ stored → l ≡ lists → Stands stored lists t reasons decisions done looked → Stands s l t reasons decisions done looked
stands-put s stored l lists t reasons decisions done looked e f k = subst (λ xs. Stands xs l t reasons decisions done looked) (sym e) (subst (λ ls. Stands stored ls t reasons decisions done looked) (sym f) k)

pub sound-of : (b : Bool) (d : Proof) (s : Search) → b ≡ false → (b ≡ true) ⊎ IsSound d s → IsSound d s
sound-of b d s n i = elim i [
  | inl y ↦ absurd (both_ways b n y)
  | inr k ↦ k
]
