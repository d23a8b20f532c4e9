-- The numbers of a proof that a text means are within their limits.
use Rattle.std.proofs.Common.{◌≡◌, ℕ, zero, suc, ◌+◌, ◌^◌, ◌≤◌, ◌==◌, Bool, true, false, not, ◌&&◌, if◌then◌else◌, List, [], ◌∷◌, ◌++◌, length, Option, Some, None, Result, Ok, Err, refl, sym, subst, ◌∙◌, arith}
use Rattle.std.specs.Prelude.{nat_le, nat_lt, ℤ, pos, option_to_list}
use Rattle.std.specs.List.{list_all}
use Rattle.std.proofs.lemmas.Bool.{le-leb, and_from, true≢false}
use Rattle.std.proofs.lemmas.List.Folds.{list_all-append}
use Rattle.knox_text.specs.declared.place.Place.{Place}
use Rattle.knox_text.specs.Lines.{lines, begins_with}
use Rattle.knox_cnf.specs.Literals.{Literal, literal, negated}
use Rattle.proof_text.specs.declared.fault.ProofFault.{ProofFault}
use Rattle.proof_text.specs.declared.fault.ProofFault.TheVariants.{Shape}
use Rattle.proof_text.specs.declared.number.Number.{Number}
use Rattle.proof_text.specs.declared.proof_line.ProofLine.{ProofLine}
use Rattle.proof_text.specs.declared.proof_line.ProofLine.TheVariants.{Add, Delete}
use Rattle.knox_text.specs.Tokens.{Token, tokens, place_of}
use Rattle.proof_text.specs.Numbers.{number_of, unsigned}
use Rattle.proof_text.specs.Results.{and_then}
use Rattle.proof_text.specs.Lrat.{literal_number, literal_at, hint_number, hint_at, id_number, id_at, number_then, numbers, ended, addition, deletion, is_d, addition_if, after_id, with_id, entry, line_of, lines_of, lrat_of}
use Rattle.proof_text.specs.Printing.{lrat_shown, renumbered}
use Rattle.proof_text.proofs.LratAgain.{fit_literal, fit_hint, fit_id, fit_line, printed-read}

bind-ok : {A B : Type 0} (r : Result A ProofFault) (f : A → Result B ProofFault) (e : B) → and_then r f ≡ Ok e → (x : A) × (r ≡ Ok x) × (f x ≡ Ok e)
bind-ok (Ok x) f e h = (x, refl, h)
bind-ok (Err k) f e h = cc

above-zero : (m : ℕ) → (m == 0) ≡ false → 1 ≤ m
above-zero zero h = absurd (true≢false h)
above-zero (suc m) h = omega arith

-- ---- one number

limited : {A : Type 0} (a n b : Bool) (x y : A) → (if a then (if n then None else Some None) else if b then Some (Some x) else None) ≡ Some (Some y) → (a ≡ false) × (b ≡ true) × (x ≡ y)
limited true true b x y h = cc
limited true false b x y h = let k : None ≡ Some y = cc in cc
limited false n true x y h = let k : Some x ≡ Some y = cc in (refl, refl, cc)
limited false n false x y h = cc

literal-fit : (o : Option Number) (l : Literal) → literal_number o ≡ Some (Some l) → fit_literal l ≡ true
literal-fit None l h = cc
literal-fit (Some n) l h =
    let p = limited (n.magnitude == 0) n.negative (nat_lt n.magnitude (2 ^ 63)) (literal n.magnitude (not n.negative)) l h in
    subst (λ (k : Literal). fit_literal k ≡ true) p.2 (and_from (nat_le 1 n.magnitude) (nat_lt n.magnitude (2 ^ 63)) (le-leb 1 n.magnitude (above-zero n.magnitude p.0)) p.1)

abbrev hint_choice : Bool → Bool → Bool → Bool → ℕ → Option (Option ℤ)
hint_choice a n b c m = if a then (if n then None else Some None) else if n then (if b then Some (Some (negated m)) else None) else if c then Some (Some (pos m)) else None

fit-negated : (m : ℕ) → 1 ≤ m → nat_le m (2 ^ 63) ≡ true → fit_hint (negated m) ≡ true
fit-negated zero low b = absurd (omega arith)
fit-negated (suc k) low b = b

hint-chosen : (a n b c : Bool) (m : ℕ) (z : ℤ) → (a ≡ false → 1 ≤ m) → b ≡ nat_le m (2 ^ 63) → c ≡ nat_lt m (2 ^ 63) → hint_choice a n b c m ≡ Some (Some z) → fit_hint z ≡ true
hint-chosen true true b c m z low eb ec h = cc
hint-chosen true false b c m z low eb ec h = let k : None ≡ Some z = cc in cc
hint-chosen false true true c m z low eb ec h =
    let k : Some (negated m) ≡ Some z = cc in
    let j : negated m ≡ z = cc in
    subst (λ (y : ℤ). fit_hint y ≡ true) j (fit-negated m (low refl) (sym eb))
hint-chosen false true false c m z low eb ec h = cc
hint-chosen false false b true m z low eb ec h =
    let k : Some (pos m) ≡ Some z = cc in
    let j : pos m ≡ z = cc in
    subst (λ (y : ℤ). fit_hint y ≡ true) j (and_from (nat_le 1 m) (nat_lt m (2 ^ 63)) (le-leb 1 m (low refl)) (sym ec))
hint-chosen false false b false m z low eb ec h = cc

hint-fit : (o : Option Number) (z : ℤ) → hint_number o ≡ Some (Some z) → fit_hint z ≡ true
hint-fit None z h = cc
hint-fit (Some n) z h = hint-chosen (n.magnitude == 0) n.negative (nat_le n.magnitude (2 ^ 63)) (nat_lt n.magnitude (2 ^ 63)) n.magnitude z (above-zero n.magnitude) refl refl h

id-fit : (o : Option ℕ) (i : ℕ) → id_number o ≡ Some (Some i) → fit_id i ≡ true
id-fit None i h = cc
id-fit (Some n) i h =
    let p = limited (n == 0) false (nat_lt n (2 ^ 64)) n i h in
    subst (λ (k : ℕ). fit_id k ≡ true) p.2 (and_from (nat_le 1 n) (nat_lt n (2 ^ 64)) (le-leb 1 n (above-zero n p.0)) p.1)

-- ---- lists of numbers

numbers-fit : {A : Type 0} (read : List ℕ → Option (Option A)) (fit : A → Bool) → ((w : List ℕ) (x : A) → read w ≡ Some (Some x) → fit x ≡ true) → (n width : ℕ) (ws : List Token) (p : List A × List Token) → numbers read n width ws ≡ Ok p → list_all fit p.0 ≡ true
numbers-fit read fit k n width [] p h = cc
numbers-fit read fit k n width (w ∷ ws) p h = number-fit (read w.bytes) (place_of n width w.left) ws (numbers read n width ws) p fit (k w.bytes) (λ q. numbers-fit read fit k n width ws q) h
  where
    number-fit : {A : Type 0} (o : Option (Option A)) (at : Place) (ws : List Token) (more : Result (List A × List Token) ProofFault) (p : List A × List Token) (fit : A → Bool) → ((x : A) → o ≡ Some (Some x) → fit x ≡ true) → ((q : List A × List Token) → more ≡ Ok q → list_all fit q.0 ≡ true) → number_then o at ws more ≡ Ok p → list_all fit p.0 ≡ true
    number-fit None at ws more p fit k g h = cc
    number-fit (Some None) at ws more p fit k g h = let e : ([], ws) ≡ p = cc in subst (λ q. list_all fit q.0 ≡ true) e refl
    number-fit (Some (Some x)) at ws more p fit k g h =
        let b = bind-ok more (λ q. Ok (x ∷ q.0, q.1)) p h in
        let f = b.2 in
        let e : (x ∷ b.0.0, b.0.1) ≡ p = cc in
        subst (λ q. list_all fit q.0 ≡ true) e (and_from (fit x) (list_all fit b.0.0) (k x refl) (g b.0 b.1))

-- ---- lines

abbrev fit_entry : Option ProofLine → Bool
fit_entry None = true
fit_entry (Some l) = fit_line l

ended-fit : (n width : ℕ) (ws : List Token) (l : ProofLine) (o : Option ProofLine) → fit_line l ≡ true → ended n width ws l ≡ Ok o → fit_entry o ≡ true
ended-fit n width [] l o f h = let e : Some l ≡ o = cc in subst (λ k. fit_entry k ≡ true) e f
ended-fit n width (w ∷ ws) l o f h = cc

addition-fit : (n width id : ℕ) (ws : List Token) (o : Option ProofLine) → nat_lt id (2 ^ 64) ≡ true → addition n width id ws ≡ Ok o → fit_entry o ≡ true
addition-fit n width id ws o i h =
    let p = bind-ok (numbers literal_at n width ws) (λ ls. and_then (numbers hint_at n width ls.1) (λ hs. ended n width hs.1 (Add n id ls.0 hs.0))) o h in
    let q = bind-ok (numbers hint_at n width p.0.1) (λ hs. ended n width hs.1 (Add n id p.0.0 hs.0)) o p.2 in
    let lits = numbers-fit literal_at fit_literal (λ w. literal-fit (number_of w)) n width ws p.0 p.1 in
    let hints = numbers-fit hint_at fit_hint (λ w. hint-fit (number_of w)) n width p.0.1 q.0 q.1 in
    ended-fit n width q.0.1 (Add n id p.0.0 q.0.0) o (and_from (nat_lt id (2 ^ 64)) (list_all fit_literal p.0.0 && list_all fit_hint q.0.0) i (and_from (list_all fit_literal p.0.0) (list_all fit_hint q.0.0) lits hints)) q.2

deletion-fit : (n width : ℕ) (ws : List Token) (o : Option ProofLine) → deletion n width ws ≡ Ok o → fit_entry o ≡ true
deletion-fit n width ws o h =
    let p = bind-ok (numbers id_at n width ws) (λ is. ended n width is.1 (Delete n is.0)) o h in
    ended-fit n width p.0.1 (Delete n p.0.0) o (numbers-fit id_at fit_id (λ w. id-fit (unsigned (number_of w))) n width ws p.0 p.1) p.2

addition_if-fit : (b : Bool) (n width id : ℕ) (at : Place) (ws : List Token) (o : Option ProofLine) → b ≡ nat_lt id (2 ^ 64) → (if b then addition n width id ws else Err (Shape at)) ≡ Ok o → fit_entry o ≡ true
addition_if-fit true n width id at ws o e h = addition-fit n width id ws o (sym e) h
addition_if-fit false n width id at ws o e h = cc

d-fit : (b : Bool) (n width id : ℕ) (at : Place) (w : Token) (ws : List Token) (o : Option ProofLine) → (if b then deletion n width ws else addition_if n width at id (w ∷ ws)) ≡ Ok o → fit_entry o ≡ true
d-fit true n width id at w ws o h = deletion-fit n width ws o h
d-fit false n width id at w ws o h = addition_if-fit (nat_lt id (2 ^ 64)) n width id at (w ∷ ws) o refl h

after_id-fit : (n width : ℕ) (at : Place) (id : ℕ) (ws : List Token) (o : Option ProofLine) → after_id n width at id ws ≡ Ok o → fit_entry o ≡ true
after_id-fit n width at id [] o h = addition_if-fit (nat_lt id (2 ^ 64)) n width id at [] o refl h
after_id-fit n width at id (w ∷ ws) o h = d-fit (is_d w.bytes) n width id at w ws o h

with_id-fit : (n width : ℕ) (at : Place) (i : Option ℕ) (ws : List Token) (o : Option ProofLine) → with_id n width at i ws ≡ Ok o → fit_entry o ≡ true
with_id-fit n width at None ws o h = cc
with_id-fit n width at (Some id) ws o h = after_id-fit n width at id ws o h

entry-fit : (n width : ℕ) (ws : List Token) (o : Option ProofLine) → entry n width ws ≡ Ok o → fit_entry o ≡ true
entry-fit n width [] o h = let e : None ≡ o = cc in subst (λ k. fit_entry k ≡ true) e refl
entry-fit n width (w ∷ ws) o h = with_id-fit n width (place_of n width w.left) (unsigned (number_of w.bytes)) ws o h

line-fit : (b : Bool) (n width : ℕ) (ws : List Token) (o : Option ProofLine) → (if b then Ok None else entry n width ws) ≡ Ok o → fit_entry o ≡ true
line-fit true n width ws o h = let e : None ≡ o = cc in subst (λ k. fit_entry k ≡ true) e refl
line-fit false n width ws o h = entry-fit n width ws o h

fit-listed : (o : Option ProofLine) → fit_entry o ≡ true → list_all fit_line (option_to_list o) ≡ true
fit-listed None f = refl
fit-listed (Some l) f = and_from (fit_line l) true f refl

lines-fit : (texts : List (List ℕ)) (n : ℕ) (ls : List ProofLine) → lines_of n texts ≡ Ok ls → list_all fit_line ls ≡ true
lines-fit [] n ls h = let e : [] ≡ ls = cc in subst (λ k. list_all fit_line k ≡ true) e refl
lines-fit (t ∷ texts) n ls h =
    let p = bind-ok (line_of n t) (λ e. and_then (lines_of (n + 1) texts) (λ es. Ok (option_to_list e ++ es))) ls h in
    let q = bind-ok (lines_of (n + 1) texts) (λ es. Ok (option_to_list p.0 ++ es)) ls p.2 in
    let f = q.2 in
    let e : option_to_list p.0 ++ q.0 ≡ ls = cc in
    subst (λ k. list_all fit_line k ≡ true) e
    (list_all-append fit_line (option_to_list p.0) q.0
    ∙ and_from (list_all fit_line (option_to_list p.0)) (list_all fit_line q.0) (fit-listed p.0 (line-fit (begins_with 99 t) n (length t) (tokens t) p.0 p.1)) (lines-fit texts (n + 1) q.0 q.1))

pub printed-again : (text : List ℕ) (ls : List ProofLine) → lrat_of text ≡ Ok ls → lrat_of (lrat_shown ls) ≡ Ok (renumbered 1 ls)
printed-again text ls m = printed-read ls (lines-fit (lines text) 1 ls m)
