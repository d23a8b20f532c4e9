-- A formula that a text means has sizes and variables within their limits.
use Rattle.std.proofs.Common.{◌≡◌, ℕ, zero, suc, ◌+◌, ◌≤◌, ◌==◌, Bool, true, false, not, ◌&&◌, if◌then◌else◌, cond, List, [], ◌∷◌, ◌++◌, length, Option, Some, None, Result, Ok, Err, ◌⊎◌, inl, inr, refl, sym, ap, subst, ◌∙◌, arith}
use Rattle.std.specs.Prelude.{nat_le}
use Rattle.std.specs.List.{list_all}
use Rattle.std.proofs.lemmas.Bool.{le-leb, leb-true, and_from, and_parts, eqb-true, true≢false}
use Rattle.std.proofs.lemmas.List.Folds.{list_all-append}
use Rattle.knox_text.specs.declared.place.Place.{Place}
use Rattle.knox_text.specs.Lines.{lines, begins_with}
use Rattle.knox_text.specs.Places.{start_of, end_of}
use Rattle.knox_cnf.specs.Literals.{Literal, literal}
use Rattle.knox_cnf.specs.Formulas.{clause_within, is_within}
use Rattle.knox_cnf.specs.declared.formula.Cnf.{Cnf}
use Rattle.proof_text.specs.declared.fault.ProofFault.{ProofFault}
use Rattle.proof_text.specs.declared.fault.ProofFault.TheVariants.{Header, Count, Variable, Shape}
use Rattle.proof_text.specs.declared.number.Number.{Number}
use Rattle.proof_text.specs.declared.draft.Draft.{Draft}
use Rattle.proof_text.specs.declared.draft.Stage.{Stage}
use Rattle.proof_text.specs.declared.draft.Stage.TheVariants.{Start, Format, Variables, Clauses, Body}
use Rattle.knox_text.specs.Tokens.{Token, tokens, place_of}
use Rattle.knox_text.specs.Numbers.{at_most}
use Rattle.proof_text.specs.Numbers.{number_of, unsigned}
use Rattle.proof_text.specs.Results.{and_then}
use Rattle.proof_text.specs.Dimacs.{is_none, is_full, size_of, with_vars, with_count, with_number, with_clause_token, with_token, with_token_at, with_tokens, with_line, with_lines, finished, finished_at, cnf, cnf_of, nothing, at_stage, is_p, is_cnf}
use Rattle.proof_text.proofs.CnfAgain.{good, printed-read}
use Rattle.proof_text.specs.Printing.{cnf_shown}

abbrev IsBody : Stage → Type 0
IsBody Start = ⊥
IsBody Format = ⊥
IsBody Variables = ⊥
IsBody Clauses = ⊥
IsBody Body = Unit {0}

abbrev IsEmpty : Draft → Type 0
IsEmpty d = (d.clauses ≡ []) × (d.open_clause ≡ [])

record Sound (d : Draft) : Type 0 where
  vars : d.vars ≤ 10000000
  count : d.count ≤ 10000000
  whole : list_all (list_all (good d.vars)) d.clauses ≡ true
  begun : list_all (good d.vars) d.open_clause ≡ true
  before : IsBody d.stage ⊎ IsEmpty d

-- ---- results

if-ok : (b : Bool) (x e : Draft) (f : ProofFault) → cond b (Ok x) (Err f) ≡ Ok e → x ≡ e
if-ok true x e f h = cc
if-ok false x e f h = cc

bind-ok : (r : Result Draft ProofFault) (f : Draft → Result Draft ProofFault) (e : Draft) → and_then r f ≡ Ok e → (x : Draft) × (r ≡ Ok x) × (f x ≡ Ok e)
bind-ok (Ok x) f e h = (x, refl, h)
bind-ok (Err k) f e h = cc

limited-some : (b : Bool) (k n : ℕ) → (if b then Some k else None) ≡ Some n → (b ≡ true) × (k ≡ n)
limited-some true k n h = (refl, cc)
limited-some false k n h = cc

limited : (limit : ℕ) (o : Option ℕ) (n : ℕ) → at_most limit o ≡ Some n → n ≤ limit
limited limit None n h = cc
limited limit (Some k) n h =
    let p = limited-some (nat_le k limit) k n h in
    subst (λ m. m ≤ limit) p.1 (leb-true k limit p.0)

-- ---- one token

empty-of : (d : Draft) → Sound d → (IsBody d.stage → ⊥) → IsEmpty d
empty-of d s out = elim (s.before) [
  | inl b ↦ absurd (out b)
  | inr e ↦ e
]

restaged : (d : Draft) (st : Stage) → Sound d → IsEmpty d → Sound (at_stage d st)
restaged d st s e = record { vars = s.vars; count = s.count; whole = s.whole; begun = s.begun; before = inr e }

sound-vars : (d : Draft) (at : Place) (o : Option ℕ) (e : Draft) → Sound d → IsEmpty d → ((n : ℕ) → o ≡ Some n → n ≤ 10000000) → with_vars d at o ≡ Ok e → Sound e
sound-vars d at None e s m k h = cc
sound-vars d at (Some n) e s m k h =
    let q : record d { stage = Clauses; vars = n } ≡ e = cc in
    subst Sound q (record {
      vars = k n refl;
      count = s.count;
      whole = ap (list_all (list_all (good n))) m.0;
      begun = ap (list_all (good n)) m.1;
      before = inr m;
    })

sound-count : (d : Draft) (at : Place) (o : Option ℕ) (e : Draft) → Sound d → ((n : ℕ) → o ≡ Some n → n ≤ 10000000) → with_count d at o ≡ Ok e → Sound e
sound-count d at None e s k h = cc
sound-count d at (Some n) e s k h =
    let q : record d { stage = Body; count = n } ≡ e = cc in
    subst Sound q (record { vars = s.vars; count = k n refl; whole = s.whole; begun = s.begun; before = inl tt })

inverted : (a b c t : Bool) (f g h : ProofFault) (x y e : Draft) → (if a then Err f else if b then Err g else if c then Ok x else if t then Ok y else Err h) ≡ Ok e → ((c ≡ true) × (x ≡ e)) ⊎ ((c ≡ false) × (t ≡ true) × (y ≡ e))
inverted true b c t f g h x y e k = cc
inverted false true c t f g h x y e k = cc
inverted false false true t f g h x y e k = inl (refl, cc)
inverted false false false true f g h x y e k = inr (refl, refl, cc)
inverted false false false false f g h x y e k = cc

above-zero : (m : ℕ) → (m == 0) ≡ false → 1 ≤ m
above-zero zero h = absurd (true≢false h)
above-zero (suc m) h = omega arith

sound-number : (d : Draft) (at : Place) (n : Number) (e : Draft) → Sound d → IsBody d.stage → with_number d at n ≡ Ok e → Sound e
sound-number d at n e s b h = elim (inverted (n.negative && (n.magnitude == 0)) (is_full d) (n.magnitude == 0) (nat_le n.magnitude d.vars) (Shape at) (Count at) (Variable at) (record d { clauses = d.clauses ++ d.open_clause ∷ []; open_clause = [] }) (record d { open_clause = d.open_clause ++ literal n.magnitude (not n.negative) ∷ [] }) e h) [
  | inl p ↦ subst Sound p.1 (record {
    vars = s.vars;
    count = s.count;
    whole = list_all-append (list_all (good d.vars)) d.clauses (d.open_clause ∷ []) ∙ and_from (list_all (list_all (good d.vars)) d.clauses) (list_all (good d.vars) d.open_clause && true) s.whole (and_from (list_all (good d.vars) d.open_clause) true s.begun refl);
    begun = refl;
    before = inl b;
  })
  | inr p ↦ subst Sound p.2 (record {
    vars = s.vars;
    count = s.count;
    whole = s.whole;
    begun = list_all-append (good d.vars) d.open_clause (literal n.magnitude (not n.negative) ∷ []) ∙ and_from (list_all (good d.vars) d.open_clause) ((nat_le 1 n.magnitude && nat_le n.magnitude d.vars) && true) s.begun (and_from (nat_le 1 n.magnitude && nat_le n.magnitude d.vars) true (and_from (nat_le 1 n.magnitude) (nat_le n.magnitude d.vars) (le-leb 1 n.magnitude (above-zero n.magnitude p.0)) p.1) refl);
    before = inl b;
  })
]

sound-clause_token : (d : Draft) (at : Place) (w : List ℕ) (o : Option Number) (e : Draft) → Sound d → IsBody d.stage → with_clause_token d at w o ≡ Ok e → Sound e
sound-clause_token d at w None e s b h = cc
sound-clause_token d at w (Some n) e s b h = sound-number d at n e s b h

sound-token_at : (d : Draft) (st : Stage) (at : Place) (w : List ℕ) (e : Draft) → Sound d → d.stage ≡ st → with_token_at d st at w ≡ Ok e → Sound e
sound-token_at d Start at w e s q h = subst Sound (if-ok (is_p w) (at_stage d Format) e (Header at) h) (restaged d Format s (empty-of d s (λ b. subst IsBody q b)))
sound-token_at d Format at w e s q h = subst Sound (if-ok (is_cnf w) (at_stage d Variables) e (Header at) h) (restaged d Variables s (empty-of d s (λ b. subst IsBody q b)))
sound-token_at d Variables at w e s q h = sound-vars d at (size_of w) e s (empty-of d s (λ b. subst IsBody q b)) (λ n. limited 10000000 (unsigned (number_of w)) n) h
sound-token_at d Clauses at w e s q h = sound-count d at (size_of w) e s (λ n. limited 10000000 (unsigned (number_of w)) n) h
sound-token_at d Body at w e s q h = sound-clause_token d at w (number_of w) e s (subst IsBody (sym q) tt) h

-- ---- tokens and lines

sound-tokens : (ws : List Token) (d : Draft) (n width : ℕ) (e : Draft) → Sound d → with_tokens d n width ws ≡ Ok e → Sound e
sound-tokens [] d n width e s h = let q : d ≡ e = cc in subst Sound q s
sound-tokens (w ∷ ws) d n width e s h =
    let p = bind-ok (with_token d (place_of n width w.left) w.bytes) (λ z. with_tokens z n width ws) e h in
    sound-tokens ws p.0 n width e (sound-token_at d d.stage (place_of n width w.left) w.bytes p.0 s refl p.1) p.2

sound-line_if : (b : Bool) (d : Draft) (n width : ℕ) (ws : List Token) (e : Draft) → Sound d → (if b then Ok d else with_tokens d n width ws) ≡ Ok e → Sound e
sound-line_if true d n width ws e s h = let q : d ≡ e = cc in subst Sound q s
sound-line_if false d n width ws e s h = sound-tokens ws d n width e s h

sound-lines : (ls : List (List ℕ)) (d : Draft) (n : ℕ) (e : Draft) → Sound d → with_lines d n ls ≡ Ok e → Sound e
sound-lines [] d n e s h = let q : d ≡ e = cc in subst Sound q s
sound-lines (l ∷ ls) d n e s h =
    let p = bind-ok (with_line d n l) (λ z. with_lines z (n + 1) ls) e h in
    sound-lines ls p.0 (n + 1) e (sound-line_if (is_none d.open_clause && begins_with 99 l) d n (length l) (tokens l) p.0 s p.1) p.2

-- ---- the end

full-ok : (b : Bool) (x f : Cnf) (k : ProofFault) → (if b then Ok x else Err k) ≡ Ok f → (b ≡ true) × (x ≡ f)
full-ok true x f k h = (refl, cc)
full-ok false x f k h = cc

finished-ok : (d : Draft) (st : Stage) (end : Place) (f : Cnf) → finished_at d st end ≡ Ok f → (length d.clauses ≡ d.count) × (cnf d.vars d.clauses ≡ f)
finished-ok d Start end f h = cc
finished-ok d Format end f h = cc
finished-ok d Variables end f h = cc
finished-ok d Clauses end f h = cc
finished-ok d Body end f h =
    let p = full-ok (is_full d) (cnf d.vars d.clauses) f (Count end) h in
    (eqb-true (length d.clauses) d.count (and_parts (is_none d.open_clause) (length d.clauses == d.count) p.0).1, p.1)

bind-end : (r : Result Draft ProofFault) (end : Place) (f : Cnf) → and_then r (λ d. finished d end) ≡ Ok f → (x : Draft) × (r ≡ Ok x) × (finished x end ≡ Ok f)
bind-end (Ok x) end f h = (x, refl, h)
bind-end (Err k) end f h = cc

sound-nothing : Sound nothing
sound-nothing = record { vars = omega arith; count = omega arith; whole = refl; begun = refl; before = inr (refl, refl) }

again-from : (d : Draft) (f : Cnf) → Sound d → length d.clauses ≡ d.count → cnf d.vars d.clauses ≡ f → cnf_of (cnf_shown f) ≡ Ok f
again-from d f s l e =
    subst (λ (g : Cnf). cnf_of (cnf_shown g) ≡ Ok g) e
    (printed-read (cnf d.vars d.clauses) s.vars (let c = s.count in omega (arith, l, c)) s.whole)

pub printed-again : (text : List ℕ) (f : Cnf) → cnf_of text ≡ Ok f → cnf_of (cnf_shown f) ≡ Ok f
printed-again text f m =
    let end = end_of (start_of text) in
    let p = bind-end (with_lines nothing 1 (lines text)) end f m in
    let q = finished-ok p.0 p.0.stage end f p.2 in
    again-from p.0 f (sound-lines (lines text) nothing 1 p.0 sound-nothing p.1) q.0 q.1

-- ---- variables

clause-within : (vars : ℕ) (c : List Literal) → list_all (good vars) c ≡ true → clause_within vars c ≡ true
clause-within vars [] g = refl
clause-within vars (l ∷ c) g =
    let p = and_parts (good vars l) (list_all (good vars) c) g in
    and_from (nat_le l.var vars) (clause_within vars c) (and_parts (nat_le 1 l.var) (nat_le l.var vars) p.0).1 (clause-within vars c p.1)

clauses-within : (vars : ℕ) (cs : List (List Literal)) → list_all (list_all (good vars)) cs ≡ true → is_within vars cs ≡ true
clauses-within vars [] g = refl
clauses-within vars (c ∷ cs) g =
    let p = and_parts (list_all (good vars) c) (list_all (list_all (good vars)) cs) g in
    and_from (clause_within vars c) (is_within vars cs) (clause-within vars c p.0) (clauses-within vars cs p.1)

-- no variable of a formula that a text means is past its number of variables
pub meant-within : (text : List ℕ) (f : Cnf) → cnf_of text ≡ Ok f → is_within f.vars f.clauses ≡ true
meant-within text f m =
    let end = end_of (start_of text) in
    let p = bind-end (with_lines nothing 1 (lines text)) end f m in
    let q = finished-ok p.0 p.0.stage end f p.2 in
    subst (λ (g : Cnf). is_within g.vars g.clauses ≡ true) q.1
    (clauses-within p.0.vars p.0.clauses (sound-lines (lines text) nothing 1 p.0 sound-nothing p.1).whole)
