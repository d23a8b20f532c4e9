-- What is printed of a proof that a text means, means it, the numbers of its lines aside.
use Rattle.std.proofs.Common.{◌≡◌, ℕ, zero, suc, ◌+◌, ◌^◌, ◌≤◌, ◌<◌, ◌==◌, Bool, true, false, not, ◌&&◌, if◌then◌else◌, List, [], ◌∷◌, ◌++◌, length, map, append_assoc, Option, Some, None, Ok, Err, refl, sym, ap, subst, ◌∙◌, arith, inr}
use Rattle.std.specs.Prelude.{flat_map, nat_le, nat_lt, unsigned_abs, ℤ, pos, negsuc, option_to_list}
use Rattle.std.specs.List.{list_all}
use Rattle.std.specs.Fmt.{decimal}
use Rattle.std.proofs.lemmas.Bool.{leb-true, lt-ltb, ltb-true, and_from, and_parts, true≢false}
use Rattle.std.proofs.lemmas.List.Folds.{list_all-append}
use Rattle.knox_text.specs.declared.place.Place.{Place}
use Rattle.knox_text.specs.Lines.{lines}
use Rattle.knox_text.specs.Numbers.{is_digit}
use Rattle.knox_cnf.specs.Literals.{Literal, literal, number_of as number_is}
use Rattle.proof_text.specs.declared.fault.ProofFault.TheVariants.{Shape}
use Rattle.proof_text.specs.declared.proof_line.ProofLine.{ProofLine}
use Rattle.proof_text.specs.declared.proof_line.ProofLine.TheVariants.{Add, Delete}
use Rattle.knox_text.specs.Tokens.{Token, token, tokens, place_of}
use Rattle.proof_text.specs.Numbers.{number_of, unsigned}
use Rattle.proof_text.specs.Results.{and_then}
use Rattle.proof_text.specs.Lrat.{literal_number, literal_at, hint_number, hint_at, id_number, id_at, number_then, numbers, ended, addition, deletion, is_d, begins_with_d, addition_if, after_id, with_id, entry, line_of, lines_of, lrat_of}
use Rattle.proof_text.specs.Printing.{sign_shown, natural_shown, signed_shown, literal_shown, end_of_line, line_shown, lrat_shown, numbered, renumbered}
use Rattle.knox_text.proofs.Fronts.{in_token, in_line, first-token, first-line}
use Rattle.knox_text.proofs.Decimals.{decimal-natural, not-eqb}
use Rattle.proof_text.proofs.Digits.{number_of-decimal, number_of-minus, not-first}
use Rattle.proof_text.proofs.CnfAgain.{starts-on}

-- ---- what fits in a line

abbrev pub fit_literal : Literal → Bool
fit_literal l = nat_le 1 l.var && nat_lt l.var (2 ^ 63)

abbrev pub fit_hint : ℤ → Bool
fit_hint (pos n) = nat_le 1 n && nat_lt n (2 ^ 63)
fit_hint (negsuc k) = nat_le (suc k) (2 ^ 63)

abbrev pub fit_id : ℕ → Bool
fit_id i = nat_le 1 i && nat_lt i (2 ^ 64)

abbrev pub fit_line : ProofLine → Bool
fit_line (Add n id ls hs) = nat_lt id (2 ^ 64) && (list_all fit_literal ls && list_all fit_hint hs)
fit_line (Delete n ids) = list_all fit_id ids

-- ---- tokens of numbers

record IsSpelled {A : Type 0} (read : List ℕ → Option (Option A)) (w : List ℕ) (x : A) : Type 0 where
  some : 0 < length w
  in_tokens : list_all in_token w ≡ true
  in_lines : list_all in_line w ≡ true
  no_d : is_d w ≡ false
  reads : read w ≡ Some (Some x)

abbrev signed_token : ℤ → List ℕ
signed_token z = sign_shown z ++ decimal (unsigned_abs z)

not-d : (w : List ℕ) → list_all (is_digit 10) w ≡ true → is_d w ≡ false
not-d [] h = refl
not-d (b ∷ []) h = not-eqb b 100 (λ e. true≢false (sym (subst (λ (x : ℕ). list_all (is_digit 10) (x ∷ []) ≡ true) e h)))
not-d (b ∷ c ∷ w) h = refl

minus-not-d : (w : List ℕ) → is_d (45 ∷ w) ≡ false
minus-not-d [] = refl
minus-not-d (b ∷ w) = refl

zero-not : (v : ℕ) → 1 ≤ v → (v == 0) ≡ false
zero-not v low = not-eqb v 0 (λ e. omega arith)

picked : {A : Type 0} (a b : Bool) (x y z : Option (Option A)) → a ≡ false → b ≡ true → (if a then x else if b then y else z) ≡ y
picked a b x y z ea eb = rw (ea, eb) refl

literal-reads : (v : ℕ) (p : Bool) (w : List ℕ) → 1 ≤ v → v < 2 ^ 63 → number_of w ≡ Some (record { negative = not p; magnitude = v }) → literal_at w ≡ Some (Some (literal v p))
literal-reads v p w low high e =
    ap literal_number e
    ∙ picked (v == 0) (nat_lt v (2 ^ 63)) (if not p then None else Some None) (Some (Some (literal v (not (not p))))) None (zero-not v low) (lt-ltb v (2 ^ 63) high)
    ∙ ap (λ s. Some (Some (literal v s))) (not-not p)
  where
    not-not : (p : Bool) → not (not p) ≡ p
    not-not true = refl
    not-not false = refl

literal-spelled : (v : ℕ) (p : Bool) → 1 ≤ v → v < 2 ^ 63 → IsSpelled literal_at (signed_token (number_is (literal v p))) (literal v p)
literal-spelled zero p low high = absurd (omega arith)
literal-spelled (suc k) true low high =
    let d = decimal-natural (suc k) (omega arith) in
    record { some = d.some; in_tokens = d.in_tokens; in_lines = d.in_lines; no_d = not-d (decimal (suc k)) d.digits; reads = literal-reads (suc k) true (decimal (suc k)) low high (number_of-decimal (suc k) (omega arith)) }
literal-spelled (suc k) false low high =
    let d = decimal-natural (suc k) (omega arith) in
    record { some = omega arith; in_tokens = d.in_tokens; in_lines = d.in_lines; no_d = minus-not-d (decimal (suc k)); reads = literal-reads (suc k) false (45 ∷ decimal (suc k)) low high (number_of-minus (suc k) (omega arith)) }

spelled-literal : (l : Literal) → fit_literal l ≡ true → IsSpelled literal_at (signed_token (number_is l)) l
spelled-literal l f =
    let p = and_parts (nat_le 1 l.var) (nat_lt l.var (2 ^ 63)) f in
    literal-spelled l.var l.positive (leb-true 1 l.var p.0) (ltb-true l.var (2 ^ 63) p.1)

spelled-hint : (z : ℤ) → fit_hint z ≡ true → IsSpelled hint_at (signed_token z) z
spelled-hint (pos n) f =
    let p = and_parts (nat_le 1 n) (nat_lt n (2 ^ 63)) f in
    let low = leb-true 1 n p.0 in
    let high = ltb-true n (2 ^ 63) p.1 in
    let d = decimal-natural n (omega (arith, high)) in
    record { some = d.some; in_tokens = d.in_tokens; in_lines = d.in_lines; no_d = not-d (decimal n) d.digits; reads = ap hint_number (number_of-decimal n (omega (arith, high))) ∙ picked (n == 0) (nat_lt n (2 ^ 63)) (Some None) (Some (Some (pos n))) None (zero-not n low) p.1 }
spelled-hint (negsuc k) f =
    let high = leb-true (suc k) (2 ^ 63) f in
    let d = decimal-natural (suc k) (omega (arith, high)) in
    record { some = omega arith; in_tokens = d.in_tokens; in_lines = d.in_lines; no_d = minus-not-d (decimal (suc k)); reads = ap hint_number (number_of-minus (suc k) (omega (arith, high))) ∙ ap (λ (t : Bool). if suc k == 0 then None else if t then Some (Some (negsuc k)) else None) f ∙ ap (λ (t : Bool). if t then None else Some (Some (negsuc k))) (zero-not (suc k) (omega arith)) }

spelled-id : (i : ℕ) → fit_id i ≡ true → IsSpelled id_at (decimal i) i
spelled-id i f =
    let p = and_parts (nat_le 1 i) (nat_lt i (2 ^ 64)) f in
    let low = leb-true 1 i p.0 in
    let high = ltb-true i (2 ^ 64) p.1 in
    let d = decimal-natural i high in
    record { some = d.some; in_tokens = d.in_tokens; in_lines = d.in_lines; no_d = not-d (decimal i) d.digits; reads = ap (λ o. id_number (unsigned o)) (number_of-decimal i high) ∙ picked (i == 0) (nat_lt i (2 ^ 64)) (Some None) (Some (Some i)) None (zero-not i low) p.1 }

-- ---- lists of numbers

abbrev spaced : {A : Type 0} → (A → List ℕ) → A → List ℕ
spaced spell x = spell x ++ 32 ∷ []

cut-number : {A : Type 0} (spell : A → List ℕ) (x : A) (xs : List A) (t : List ℕ) → flat_map (spaced spell) (x ∷ xs) ++ t ≡ spell x ++ 32 ∷ (flat_map (spaced spell) xs ++ t)
cut-number spell x xs t =
    ap (λ w. w ++ t) (append_assoc (spell x) (32 ∷ []) (flat_map (spaced spell) xs))
    ∙ append_assoc (spell x) (32 ∷ flat_map (spaced spell) xs) t

numbers-read : {A : Type 0} (read : List ℕ → Option (Option A)) (spell : A → List ℕ) (fit : A → Bool) → ((x : A) → fit x ≡ true → IsSpelled read (spell x) x) → read (48 ∷ []) ≡ Some None → (n width left : ℕ) (xs : List A) (t : List ℕ) (ws : List Token) → list_all fit xs ≡ true → tokens t ≡ token left (48 ∷ []) ∷ ws → numbers read n width (tokens (flat_map (spaced spell) xs ++ t)) ≡ Ok (xs, ws)
numbers-read read spell fit is zero_ends n width left [] t ws g w =
    ap (numbers read n width) w ∙ ap (λ o. number_then o (place_of n width left) ws (numbers read n width ws)) zero_ends
numbers-read read spell fit is zero_ends n width left (x ∷ xs) t ws g w =
    let p = and_parts (fit x) (list_all fit xs) g in
    let s = is x p.0 in
    let rest = flat_map (spaced spell) xs ++ t in
    let at = place_of n width (length (spell x ++ 32 ∷ rest)) in
    ap (λ l. numbers read n width (tokens l)) (cut-number spell x xs t)
    ∙ ap (numbers read n width) (first-token (spell x) rest s.some s.in_tokens)
    ∙ ap (λ o. number_then o at (tokens rest) (numbers read n width (tokens rest))) s.reads
    ∙ ap (λ r. and_then r (λ p. Ok (x ∷ p.0, p.1))) (numbers-read read spell fit is zero_ends n width left xs t ws p.1 w)

numbers-in_line : {A : Type 0} (read : List ℕ → Option (Option A)) (spell : A → List ℕ) (fit : A → Bool) → ((x : A) → fit x ≡ true → IsSpelled read (spell x) x) → (xs : List A) (t : List ℕ) → list_all fit xs ≡ true → list_all in_line t ≡ true → list_all in_line (flat_map (spaced spell) xs ++ t) ≡ true
numbers-in_line read spell fit is [] t g h = h
numbers-in_line read spell fit is (x ∷ xs) t g h =
    let p = and_parts (fit x) (list_all fit xs) g in
    let rest = flat_map (spaced spell) xs ++ t in
    ap (list_all in_line) (cut-number spell x xs t)
    ∙ list_all-append in_line (spell x) (32 ∷ rest)
    ∙ and_from (list_all in_line (spell x)) (list_all in_line rest) (is x p.0).in_lines (numbers-in_line read spell fit is xs t p.1 h)

-- the literals are spelled as the numbers are
literals-spaced : (ls : List Literal) → flat_map literal_shown ls ≡ flat_map (spaced (λ (l : Literal). signed_token (number_is l))) ls
literals-spaced [] = refl
literals-spaced (l ∷ ls) =
    ap (λ w. w ++ flat_map literal_shown ls) (sym (append_assoc (sign_shown (number_is l)) (decimal (unsigned_abs (number_is l))) (32 ∷ [])))
    ∙ ap (λ r. (signed_token (number_is l) ++ 32 ∷ []) ++ r) (literals-spaced ls)

hints-spaced : (hs : List ℤ) → flat_map signed_shown hs ≡ flat_map (spaced signed_token) hs
hints-spaced [] = refl
hints-spaced (h ∷ hs) =
    ap (λ w. w ++ flat_map signed_shown hs) (sym (append_assoc (sign_shown h) (decimal (unsigned_abs h)) (32 ∷ [])))
    ∙ ap (λ r. (signed_token h ++ 32 ∷ []) ++ r) (hints-spaced hs)

-- ---- lines

abbrev behind_lits : List ℤ → List ℕ
behind_lits hs = flat_map (spaced signed_token) hs ++ 48 ∷ []

abbrev behind_id : List Literal → List ℤ → List ℕ
behind_id ls hs = flat_map (spaced (λ (l : Literal). signed_token (number_is l))) ls ++ 48 ∷ 32 ∷ behind_lits hs

-- a line without its line feed
abbrev line_text : ProofLine → List ℕ
line_text (Add n id ls hs) = decimal id ++ 32 ∷ behind_id ls hs
line_text (Delete n ids) = 48 ∷ 32 ∷ 100 ∷ 32 ∷ (flat_map (spaced decimal) ids ++ 48 ∷ [])

line-shown : (line : ProofLine) (rest : List ℕ) → line_shown line ++ rest ≡ line_text line ++ 10 ∷ rest
line-shown (Add n id ls hs) rest =
    ap (λ f. (natural_shown id ++ (f ++ (48 ∷ 32 ∷ (flat_map signed_shown hs ++ end_of_line)))) ++ rest) (literals-spaced ls)
    ∙ ap (λ f. (natural_shown id ++ (flat_map (spaced (λ (l : Literal). signed_token (number_is l))) ls ++ (48 ∷ 32 ∷ (f ++ end_of_line)))) ++ rest) (hints-spaced hs)
    ∙ moved (decimal id) (flat_map (spaced (λ (l : Literal). signed_token (number_is l))) ls) (flat_map (spaced signed_token) hs) rest
  where
    moved : (a f g rest : List ℕ) → ((a ++ 32 ∷ []) ++ (f ++ (48 ∷ 32 ∷ (g ++ (48 ∷ 10 ∷ []))))) ++ rest ≡ (a ++ 32 ∷ (f ++ 48 ∷ 32 ∷ (g ++ 48 ∷ []))) ++ 10 ∷ rest
    moved a f g rest = simp append_assoc
line-shown (Delete n ids) rest =
    ap (λ f. 48 ∷ 32 ∷ 100 ∷ 32 ∷ f) (append_assoc (flat_map (spaced decimal) ids) (48 ∷ 10 ∷ []) rest ∙ sym (append_assoc (flat_map (spaced decimal) ids) (48 ∷ []) (10 ∷ rest)))

in-zero : list_all in_line (48 ∷ []) ≡ true
in-zero = refl

line-in_line : (line : ProofLine) → fit_line line ≡ true → list_all in_line (line_text line) ≡ true
line-in_line (Add n id ls hs) f =
    let p = and_parts (nat_lt id (2 ^ 64)) (list_all fit_literal ls && list_all fit_hint hs) f in
    let q = and_parts (list_all fit_literal ls) (list_all fit_hint hs) p.1 in
    let d = decimal-natural id (ltb-true id (2 ^ 64) p.0) in
    let h = numbers-in_line hint_at signed_token fit_hint spelled-hint hs (48 ∷ []) q.1 in-zero in
    list_all-append in_line (decimal id) (32 ∷ behind_id ls hs)
    ∙ and_from (list_all in_line (decimal id)) (list_all in_line (behind_id ls hs)) d.in_lines
    (numbers-in_line literal_at (λ (l : Literal). signed_token (number_is l)) fit_literal spelled-literal ls (48 ∷ 32 ∷ behind_lits hs) q.0 h)
line-in_line (Delete n ids) f = numbers-in_line id_at decimal fit_id spelled-id ids (48 ∷ []) f in-zero

after-add : (n width id : ℕ) (at : Place) (ws : List Token) → begins_with_d ws ≡ false → after_id n width at id ws ≡ addition_if n width at id ws
after-add n width id at [] e = refl
after-add n width id at (w ∷ ws) e = ap (λ (t : Bool). if t then deletion n width ws else addition_if n width at id (w ∷ ws)) e

no-d : (ls : List Literal) (hs : List ℤ) → list_all fit_literal ls ≡ true → begins_with_d (tokens (behind_id ls hs)) ≡ false
no-d [] hs g = ap begins_with_d (first-token (48 ∷ []) (behind_lits hs) (omega arith) refl)
no-d (l ∷ ls) hs g =
    let s = spelled-literal l (and_parts (fit_literal l) (list_all fit_literal ls) g).0 in
    let spell = λ (l : Literal). signed_token (number_is l) in
    ap (λ r. begins_with_d (tokens r)) (cut-number (λ (l : Literal). signed_token (number_is l)) l ls (48 ∷ 32 ∷ behind_lits hs))
    ∙ ap begins_with_d (first-token (signed_token (number_is l)) (behind_id ls hs) s.some s.in_tokens) ∙ s.no_d

addition-read : (n width id : ℕ) (ls : List Literal) (hs : List ℤ) → list_all fit_literal ls ≡ true → list_all fit_hint hs ≡ true → addition n width id (tokens (behind_id ls hs)) ≡ Ok (Some (Add n id ls hs))
addition-read n width id ls hs g h =
    ap (λ r. and_then r (λ ms. and_then (numbers hint_at n width ms.1) (λ ks. ended n width ks.1 (Add n id ms.0 ks.0))))
    (numbers-read literal_at (λ (l : Literal). signed_token (number_is l)) fit_literal spelled-literal refl n width (length (48 ∷ 32 ∷ behind_lits hs)) ls (48 ∷ 32 ∷ behind_lits hs) (tokens (behind_lits hs)) g (first-token (48 ∷ []) (behind_lits hs) (omega arith) refl))
    ∙ ap (λ r. and_then r (λ ks. ended n width ks.1 (Add n id ls ks.0)))
    (numbers-read hint_at signed_token fit_hint spelled-hint refl n width 1 hs (48 ∷ []) [] h refl)

line-read : (line : ProofLine) (n : ℕ) → fit_line line ≡ true → line_of n (line_text line) ≡ Ok (Some (numbered n line))
line-read (Add m id ls hs) n f =
    let p = and_parts (nat_lt id (2 ^ 64)) (list_all fit_literal ls && list_all fit_hint hs) f in
    let q = and_parts (list_all fit_literal ls) (list_all fit_hint hs) p.1 in
    let small = ltb-true id (2 ^ 64) p.0 in
    let d = decimal-natural id small in
    let rest = behind_id ls hs in
    let line = decimal id ++ 32 ∷ rest in
    let width = length line in
    let at = place_of n width width in
    ap (λ (t : Bool). if t then Ok None else entry n width (tokens line)) (starts-on (decimal id) (32 ∷ rest) d.some (not-first 99 (decimal id) (inr (omega arith)) d.all))
    ∙ ap (entry n width) (first-token (decimal id) rest d.some d.in_tokens)
    ∙ ap (λ o. with_id n width at (unsigned o) (tokens rest)) (number_of-decimal id small)
    ∙ after-add n width id at (tokens rest) (no-d ls hs q.0)
    ∙ ap (λ (t : Bool). if t then addition n width id (tokens rest) else Err (Shape at)) p.0
    ∙ addition-read n width id ls hs q.0 q.1
line-read (Delete m ids) n f =
    let tail = flat_map (spaced decimal) ids ++ 48 ∷ [] in
    let line = 48 ∷ 32 ∷ 100 ∷ 32 ∷ tail in
    let width = length line in
    ap (entry n width) (first-token (48 ∷ []) (100 ∷ 32 ∷ tail) (omega arith) refl)
    ∙ ap (after_id n width (place_of n width width) 0) (first-token (100 ∷ []) tail (omega arith) refl)
    ∙ ap (λ r. and_then r (λ is. ended n width is.1 (Delete n is.0))) (numbers-read id_at decimal fit_id spelled-id refl n width 1 ids (48 ∷ []) [] f refl)

-- ---- the whole text

lines-of-text : (ls : List ProofLine) → list_all fit_line ls ≡ true → lines (lrat_shown ls) ≡ map line_text ls
lines-of-text [] f = refl
lines-of-text (l ∷ ls) f =
    let p = and_parts (fit_line l) (list_all fit_line ls) f in
    ap lines (line-shown l (lrat_shown ls))
    ∙ first-line (line_text l) (lrat_shown ls) (line-in_line l p.0)
    ∙ ap (λ r. line_text l ∷ r) (lines-of-text ls p.1)

lines-read : (ls : List ProofLine) (n : ℕ) → list_all fit_line ls ≡ true → lines_of n (map line_text ls) ≡ Ok (renumbered n ls)
lines-read [] n f = refl
lines-read (l ∷ ls) n f =
    let p = and_parts (fit_line l) (list_all fit_line ls) f in
    ap (λ r. and_then r (λ e. and_then (lines_of (n + 1) (map line_text ls)) (λ es. Ok (option_to_list e ++ es)))) (line-read l n p.0)
    ∙ ap (λ r. and_then r (λ es. Ok (numbered n l ∷ es))) (lines-read ls (n + 1) p.1)

pub printed-read : (ls : List ProofLine) → list_all fit_line ls ≡ true → lrat_of (lrat_shown ls) ≡ Ok (renumbered 1 ls)
printed-read ls f = ap (lines_of 1) (lines-of-text ls f) ∙ lines-read ls 1 f
