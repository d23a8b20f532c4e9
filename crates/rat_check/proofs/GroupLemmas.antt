-- The parts of hints.
use Rattle.std.proofs.Common.{◌≡◌, ℕ, ◌+◌, ◌<◌, ◌==◌, Bool, true, false, not, ◌&&◌, ◌||◌, Option, List, [], ◌∷◌, ◌++◌, length, take, drop, drop-cons, get_or, add-one, refl, sym, ◌∙◌, ap, append_assoc}
use Rattle.std.specs.Prelude.{ℤ, pos, unsigned_abs}
use Rattle.std.specs.List.{list_any}
use Rattle.std.proofs.lemmas.Bool.{and_parts, or_left, or_right}
use Rattle.std.proofs.lemmas.List.{take_more, append-nil}
use Rattle.knox_cnf.specs.Literals.{Literal}
use Rattle.lrat_check.specs.Hints.{is_negative}
use Rattle.rat_check.specs.Groups.{Group, Parts, parts, group, with_hint, parts_of, has_group, PassesGroup}
use Rattle.rat_check.specs.Rat.{holds_in, is_uncovered}

at-hint : (hs : List ℤ) (at : ℕ) (h : ℤ) → at < length hs → h ≡ get_or hs at (pos 0) → parts_of (drop at hs) ≡ with_hint h (is_negative h) (parts_of (drop (at + 1) hs))
at-hint hs at h inside e = rw (e, add-one, drop-cons hs at (pos 0)) refl

-- the hints before a place stand before the groups, and the groups behind it
pub record Leads (hs : List ℤ) (at : ℕ) : Type 0 where
  pub lead : (parts_of hs).lead ≡ take at hs ++ (parts_of (drop at hs)).lead
  pub groups : (parts_of hs).groups ≡ (parts_of (drop at hs)).groups

pub Leads-more : (hs : List ℤ) (at : ℕ) (h : ℤ) → at < length hs → h ≡ get_or hs at (pos 0) → is_negative h ≡ false → Leads hs at → Leads hs (at + 1)
Leads-more hs at h inside e n k =
    let next : parts_of (drop at hs) ≡ parts (h ∷ (parts_of (drop (at + 1) hs)).lead) (parts_of (drop (at + 1) hs)).groups =
    at-hint hs at h inside e ∙ ap (λ b. with_hint h b (parts_of (drop (at + 1) hs))) n in
    let more : take (at + 1) hs ≡ take at hs ++ h ∷ [] = take_more hs at (pos 0) inside ∙ ap (λ x. take at hs ++ x ∷ []) (sym e) in
    record {
      lead = k.lead ∙ ap (λ (p : Parts). take at hs ++ p.lead) next ∙ sym (append_assoc (take at hs) (h ∷ []) (parts_of (drop (at + 1) hs)).lead)
          ∙ ap (λ l. l ++ (parts_of (drop (at + 1) hs)).lead) (sym more);
      groups = k.groups ∙ ap (λ (p : Parts). p.groups) next;
    }

pub lead-none : (hs : List ℤ) (at : ℕ) (h : ℤ) → at < length hs → h ≡ get_or hs at (pos 0) → is_negative h ≡ true → (parts_of (drop at hs)).lead ≡ []
lead-none hs at h inside e n = ap (λ (p : Parts). p.lead) (at-hint hs at h inside e ∙ ap (λ b. with_hint h b (parts_of (drop (at + 1) hs))) n)

no-more : (hs : List ℤ) → drop (length hs) hs ≡ []
no-more [] = refl
no-more (h ∷ hs) = no-more hs

pub lead-end : (hs : List ℤ) (at : ℕ) → at ≡ length hs → (parts_of (drop at hs)).lead ≡ []
lead-end hs at e = rw (e, no-more hs) refl

pub Leads-stop : (hs : List ℤ) (at : ℕ) → Leads hs at → (parts_of (drop at hs)).lead ≡ [] → (parts_of hs).lead ≡ take at hs
Leads-stop hs at k e = k.lead ∙ ap (λ l. take at hs ++ l) e ∙ append-nil (take at hs)

grouped-step : (h : ℤ) (n : Bool) (p : Parts) (id : ℕ) → has_group (with_hint h n p).groups id ≡ ((n && (unsigned_abs h == id)) || has_group p.groups id)
grouped-step h true p id = refl
grouped-step h false p id = refl

pub grouped-any : (hs : List ℤ) (id : ℕ) → list_any (λ h. is_negative h && (unsigned_abs h == id)) hs ≡ has_group (parts_of hs).groups id
grouped-any [] id = refl
grouped-any (h ∷ hs) id =
    ap (λ b. (is_negative h && (unsigned_abs h == id)) || b) (grouped-any hs id) ∙ sym (grouped-step h (is_negative h) (parts_of hs) id)

-- hints that begin with a group
starts : (h : ℤ) (n : Bool) (p : Parts) → (with_hint h n p).lead ≡ [] → n ≡ true
starts h true p e = refl
starts h false p e = absurd (cc)

pub first-group : (h : ℤ) (hs : List ℤ) → (parts_of (h ∷ hs)).lead ≡ [] → (parts_of (h ∷ hs)).groups ≡ group (unsigned_abs h) (parts_of hs).lead ∷ (parts_of hs).groups
first-group h hs e = ap (λ b. (with_hint h b (parts_of hs)).groups) (starts h (is_negative h) (parts_of hs) e)

-- ---- groups in step with the clauses

pub passes-group : (h : ℤ) (hs left rest : List ℤ) (i : ℕ) → left ≡ h ∷ hs → (is_negative h && (unsigned_abs h == i)) ≡ true → (parts_of hs).groups ≡ (parts_of rest).groups → PassesGroup left i rest
passes-group h hs left rest i split t same =
    let begins = and_parts (is_negative h) (unsigned_abs h == i) t in
    let own : (parts_of left).groups ≡ group (unsigned_abs h) (parts_of hs).lead ∷ (parts_of rest).groups =
    ap (λ l. (parts_of l).groups) split ∙ ap (λ b. (with_hint h b (parts_of hs)).groups) begins.0 ∙ ap (λ gs. group (unsigned_abs h) (parts_of hs).lead ∷ gs) same in
    record {
      about = ap (λ gs. has_group gs i) own ∙ or_left (unsigned_abs h == i) (has_group (parts_of rest).groups i) begins.1;
      others = λ j k. ap (λ gs. has_group gs j) own ∙ or_right (unsigned_abs h == j) (has_group (parts_of rest).groups j) k;
    }

and_false : (b : Bool) → (b && false) ≡ false
and_false true = refl
and_false false = refl

pub grouped-covered : (clause : ℕ → Option (List Literal)) (q : Literal) (gs : List Group) (i : ℕ) → has_group gs i ≡ true → is_uncovered clause q gs i ≡ false
grouped-covered clause q gs i e = ap (λ b. holds_in (clause i) q && not b) e ∙ and_false (holds_in (clause i) q)
