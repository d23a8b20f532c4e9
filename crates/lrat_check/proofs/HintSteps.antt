-- One hint after another.
use Rattle.std.proofs.Common.{◌≡◌, ℕ, ◌+◌, ◌<◌, Bool, true, false, cond, ◌||◌, map, List, [], ◌∷◌, ◌++◌, append_assoc, length, get_or, drop, drop-cons, add-one, refl, sym, subst, ◌∙◌, ap, inl, inr, Option, Result, Ok, Err}
use Rattle.std.specs.Prelude.{ℤ, pos, unsigned_abs, unwrap_or}
use Rattle.std.specs.Result.{result_ok}
use Rattle.std.specs.List.{list_any}
use Rattle.std.proofs.lemmas.Bool.{true≢false, cond_both, cases_Bool}
use Rattle.std.proofs.lemmas.List.{append-nil}
use Rattle.knox_cnf.specs.Literals.{Literal, complement, same_literal, has}
use Rattle.lrat_check.proofs.LiteralLemmas.{same_literal-true, has-push}
use Rattle.lrat_check.specs.declared.step.Step.{Step}
use Rattle.lrat_check.specs.Marks.{with_true, all_with_true, Extends}
use Rattle.lrat_check.specs.Hints.{after_clause, then_on, after_hints, take_hints, is_tautology, check, Takes, Answers}

Takes-more : (a : Result (List Literal) (Result (Unit {0}) Step)) (rest : List Literal → Result (List Literal) (Result (Unit {0}) Step)) (t : List Literal) → Takes a (Ok false) t → then_on a rest ≡ rest t
Takes-more a rest t (inl e) = absurd (cc)
Takes-more (Ok u) rest t (inr p) = ap rest (sym p.1)
Takes-more (Err (Ok x)) rest t (inr h) = absurd (true≢false (ap (λ (r : Result Bool Step). unwrap_or (result_ok r) false) (sym h)))
Takes-more (Err (Err f)) rest t (inr h) = absurd (cc)

Takes-true : (a : Result (List Literal) (Result (Unit {0}) Step)) (rest : List Literal → Result (List Literal) (Result (Unit {0}) Step)) (t u : List Literal) → Takes a (Ok true) t → Takes (then_on a rest) (Ok true) u
Takes-true a rest t u (inl e) = inl e
Takes-true (Ok v) rest t u (inr p) = let e = p.0 in absurd (true≢false (ap (λ (r : Result Bool Step). unwrap_or (result_ok r) false) e))
Takes-true (Err (Ok x)) rest t u (inr h) = inr h
Takes-true (Err (Err f)) rest t u (inr h) = absurd (cc)

Takes-Err : (a : Result (List Literal) (Result (Unit {0}) Step)) (rest : List Literal → Result (List Literal) (Result (Unit {0}) Step)) (s : Step) (t u : List Literal) → Takes a (Err s) t → Takes (then_on a rest) (Err s) u
Takes-Err a rest s t u (inl e) = inl e
Takes-Err (Ok v) rest s t u (inr p) = let e = p.0 in absurd (cc)
Takes-Err (Err (Ok x)) rest s t u (inr h) = absurd (cc)
Takes-Err (Err (Err f)) rest s t u (inr h) = inr h

step : (clause : ℕ → Option (List Literal)) (t : List Literal) (hs : List ℤ) (i : ℕ) (id : ℕ) → i < length hs → id ≡ unsigned_abs (get_or hs i (pos 0)) → after_hints clause t (drop i hs) ≡ then_on (after_clause t id (clause id)) (λ u. after_hints clause u (drop (i + 1) hs))
step clause t hs i id inside e = rw (e, add-one, drop-cons hs i (pos 0)) refl

-- a hint after which the check goes on
pub hint-more : (clause : ℕ → Option (List Literal)) (t u : List Literal) (hs : List ℤ) (i : ℕ) (id : ℕ) → i < length hs → id ≡ unsigned_abs (get_or hs i (pos 0)) → (r : Result Bool Step) → Takes (after_clause t id (clause id)) r u → r ≡ Ok false → after_hints clause t (drop i hs) ≡ after_hints clause u (drop (i + 1) hs)
hint-more clause t u hs i id inside e r h q = step clause t hs i id inside e ∙ Takes-more (after_clause t id (clause id)) (λ w. after_hints clause w (drop (i + 1) hs)) u (subst (λ z. Takes (after_clause t id (clause id)) z u) q h)

-- .. one that ends it
pub hint-true : (clause : ℕ → Option (List Literal)) (t u : List Literal) (hs : List ℤ) (i : ℕ) (id : ℕ) → i < length hs → id ≡ unsigned_abs (get_or hs i (pos 0)) → (r : Result Bool Step) → Takes (after_clause t id (clause id)) r u → r ≡ Ok true → Takes (after_hints clause t (drop i hs)) (Ok true) u
hint-true clause t u hs i id inside e r h q = rw (step clause t hs i id inside e) (Takes-true (after_clause t id (clause id)) (λ w. after_hints clause w (drop (i + 1) hs)) u u (subst (λ z. Takes (after_clause t id (clause id)) z u) q h))

-- .. and one that is refused
pub hint-Err : (clause : ℕ → Option (List Literal)) (t u : List Literal) (hs : List ℤ) (i : ℕ) (id : ℕ) (s : Step) → i < length hs → id ≡ unsigned_abs (get_or hs i (pos 0)) → (r : Result Bool Step) → Takes (after_clause t id (clause id)) r u → r ≡ Err s → Takes (after_hints clause t (drop i hs)) (Err s) u
hint-Err clause t u hs i id s inside e r h q = rw (step clause t hs i id inside e) (Takes-Err (after_clause t id (clause id)) (λ w. after_hints clause w (drop (i + 1) hs)) s u u (subst (λ z. Takes (after_clause t id (clause id)) z u) q h))

-- ---- what is true before stays true

pub Extends-same : (t : List Literal) → Extends t t
Extends-same t = ([], sym (append-nil t))

pub Extends-with : (t : List Literal) (l : Literal) → Extends t (with_true t l)
Extends-with t l = cond_both (has t l) t (t ++ l ∷ []) (Extends t) (λ _. Extends-same t) (λ _. (l ∷ [], refl))

pub Extends-then : (a b c : List Literal) → Extends a b → Extends b c → Extends a c
Extends-then a b c (m, e) (n, f) = (m ++ n, f ∙ ap (λ x. x ++ n) e ∙ append_assoc a m n)

-- ---- literals of a lemma, which are taken to be false

pub deny-more : (t : List Literal) (ls : List Literal) (i : ℕ) (l d : Literal) → i < length ls → l ≡ get_or ls i d → all_with_true t (map complement (drop i ls)) ≡ all_with_true (with_true t (complement l)) (map complement (drop (i + 1) ls))
deny-more t ls i l d inside e = rw (e, add-one, drop-cons ls i d) refl

no-more : (ls : List Literal) → drop (length ls) ls ≡ []
no-more [] = refl
no-more (l ∷ ls) = no-more ls

pub deny-end : (t ls : List Literal) (i : ℕ) → i ≡ length ls → all_with_true t (map complement (drop i ls)) ≡ t
deny-end t ls i e = rw (e, no-more ls) refl

or-absorb : (a b : Bool) → (b ≡ true → a ≡ true) → a ≡ (a || b)
or-absorb true b k = refl
or-absorb false true k = k refl
or-absorb false false k = refl

or_assoc : (a b c : Bool) → ((a || b) || c) ≡ (a || (b || c))
or_assoc true b c = refl
or_assoc false b c = refl

or_false : (a : Bool) → (a || false) ≡ a
or_false true = refl
or_false false = refl

has-with : (t : List Literal) (x l : Literal) → has (with_true t x) l ≡ (has t l || same_literal l x)
has-with t x l =
    elim (cases_Bool (has t x)) [
      | inl e ↦ (rw e (or-absorb (has t l) (same_literal l x) (λ s. ap (has t) (same_literal-true l x s) ∙ e)))
      | inr e ↦ (rw e (has-push t x l))
    ]

pub has-all_with : (t ls : List Literal) (l : Literal) → has (all_with_true t ls) l ≡ (has t l || has ls l)
has-all_with t [] l = sym (or_false (has t l))
has-all_with t (x ∷ ls) l =
    has-all_with (with_true t x) ls l ∙ ap (λ b. b || has ls l) (has-with t x l) ∙ or_assoc (has t l) (same_literal l x) (has ls l)

-- the test for complementary literals
pub tautology-marks : (lits marks : List Literal) → marks ≡ all_with_true [] (map complement lits) → list_any (has marks) lits ≡ is_tautology lits
tautology-marks lits marks e =
    let same : has (all_with_true [] (map complement lits)) ≡ has (map complement lits) = λ i l. has-all_with [] (map complement lits) l i in
    ap (λ m. list_any (has m) lits) e ∙ ap (λ h. list_any h lits) same

pub check-tautology : (clause : ℕ → Option (List Literal)) (lits marks : List Literal) (hs : List ℤ) → marks ≡ all_with_true [] (map complement lits) → list_any (has marks) lits ≡ true → Answers (Ok tt) (check clause lits hs)
check-tautology clause lits marks hs e t =
    inr (ap (λ b. cond b (Ok tt) (take_hints clause (all_with_true [] (map complement lits)) hs)) (sym t ∙ tautology-marks lits marks e))

pub check-hints : (clause : ℕ → Option (List Literal)) (lits marks : List Literal) (hs : List ℤ) (r : Result (Unit {0}) Step) → marks ≡ all_with_true [] (map complement lits) → list_any (has marks) lits ≡ false → Answers r (take_hints clause marks hs) → Answers r (check clause lits hs)
check-hints clause lits marks hs r e t a =
    let f : is_tautology lits ≡ false = sym (tautology-marks lits marks e) ∙ t in
    rw f (subst (λ m. Answers r (take_hints clause m hs)) e a)
