-- What is printed of a formula that a text means, means it.
use Rattle.std.proofs.Common.{◌≡◌, ℕ, zero, suc, ◌+◌, ◌^◌, ◌≤◌, ◌<◌, ◌==◌, Bool, true, false, not, ◌&&◌, if◌then◌else◌, List, [], ◌∷◌, ◌++◌, length, map, append_assoc, length-append, Some, None, Result, Ok, Err, refl, sym, ap, ◌∙◌, arith, inr}
use Rattle.std.specs.Prelude.{flat_map, nat_le, codes, unsigned_abs}
use Rattle.std.specs.List.{list_all}
use Rattle.std.specs.Fmt.{decimal}
use Rattle.std.proofs.lemmas.Bool.{le-leb, leb-true, and_from, and_parts, eq-eqb}
use Rattle.std.proofs.lemmas.List.{append-nil}
use Rattle.std.proofs.lemmas.List.Folds.{list_all-append}
use Rattle.knox_text.specs.declared.place.Place.{Place}
use Rattle.knox_text.specs.Lines.{lines, begins_with}
use Rattle.knox_text.specs.Places.{start_of, end_of}
use Rattle.knox_cnf.specs.Literals.{Literal, literal, number_of as number_is}
use Rattle.knox_cnf.specs.declared.formula.Cnf.{Cnf}
use Rattle.proof_text.specs.declared.fault.ProofFault.{ProofFault}
use Rattle.proof_text.specs.declared.fault.ProofFault.TheVariants.{Count, Shape}
use Rattle.proof_text.specs.declared.draft.Draft.{Draft}
use Rattle.proof_text.specs.declared.draft.Stage.TheVariants.{Format, Variables, Clauses, Body}
use Rattle.knox_text.specs.Tokens.{tokens, place_of}
use Rattle.knox_text.specs.Numbers.{at_most}
use Rattle.proof_text.specs.Numbers.{number_of, unsigned}
use Rattle.proof_text.specs.Results.{and_then}
use Rattle.proof_text.specs.Dimacs.{is_none, is_full, size_of, with_vars, with_count, with_clause_token, with_token, with_tokens, with_line, with_lines, finished, cnf, cnf_of, nothing, at_stage}
use Rattle.proof_text.specs.Printing.{sign_shown, natural_shown, literal_shown, clause_shown, header_shown, cnf_shown}
use Rattle.knox_text.proofs.Fronts.{in_token, in_line, first-token, last-token, first-line}
use Rattle.knox_text.proofs.Decimals.{decimal-natural, not-eqb}
use Rattle.proof_text.proofs.Digits.{number_of-decimal, number_of-minus, not-first}

-- ---- the token of a literal

abbrev pub lit_token : Literal → List ℕ
lit_token l = sign_shown (number_is l) ++ decimal (unsigned_abs (number_is l))

record IsLitToken (l : Literal) : Type 0 where
  some : 0 < length (lit_token l)
  in_tokens : list_all in_token (lit_token l) ≡ true
  in_lines : list_all in_line (lit_token l) ≡ true
  start : begins_with 99 (lit_token l) ≡ false
  number : number_of (lit_token l) ≡ Some (record { negative = not l.positive; magnitude = l.var })

lit-token-is : (v : ℕ) (p : Bool) → 1 ≤ v → v < 2 ^ 64 → IsLitToken (literal v p)
lit-token-is zero p low high = absurd (omega arith)
lit-token-is (suc k) true low high =
    let d = decimal-natural (suc k) high in
    record { some = d.some; in_tokens = d.in_tokens; in_lines = d.in_lines; start = not-first 99 (decimal (suc k)) (inr (omega arith)) d.all; number = number_of-decimal (suc k) high }
lit-token-is (suc k) false low high =
    let d = decimal-natural (suc k) high in
    record { some = omega arith; in_tokens = d.in_tokens; in_lines = d.in_lines; start = refl; number = number_of-minus (suc k) high }

shown-token : (l : Literal) → literal_shown l ≡ lit_token l ++ 32 ∷ []
shown-token l = sym (append_assoc (sign_shown (number_is l)) (decimal (unsigned_abs (number_is l))) (32 ∷ []))

-- ---- the line of a clause

abbrev pub clause_line : List Literal → List ℕ
clause_line c = flat_map literal_shown c ++ 48 ∷ []

cut-clause : (l : Literal) (ls : List Literal) → clause_line (l ∷ ls) ≡ lit_token l ++ 32 ∷ clause_line ls
cut-clause l ls =
    ap (λ w. (w ++ flat_map literal_shown ls) ++ 48 ∷ []) (shown-token l)
    ∙ ap (λ w. w ++ 48 ∷ []) (append_assoc (lit_token l) (32 ∷ []) (flat_map literal_shown ls))
    ∙ append_assoc (lit_token l) (32 ∷ flat_map literal_shown ls) (48 ∷ [])

clause-shown : (c : List Literal) (rest : List ℕ) → clause_shown c ++ rest ≡ clause_line c ++ 10 ∷ rest
clause-shown c rest =
    append_assoc (flat_map literal_shown c) (48 ∷ 10 ∷ []) rest
    ∙ sym (append_assoc (flat_map literal_shown c) (48 ∷ []) (10 ∷ rest))

abbrev pub good : ℕ → Literal → Bool
good vars l = nat_le 1 l.var && nat_le l.var vars

good-token : (vars : ℕ) (l : Literal) → vars < 2 ^ 64 → good vars l ≡ true → IsLitToken l
good-token vars l small g =
    let p = and_parts (nat_le 1 l.var) (nat_le l.var vars) g in
    let low = leb-true 1 l.var p.0 in
    let high = leb-true l.var vars p.1 in
    lit-token-is l.var l.positive low (omega (arith, high, small))

pub starts-on : (w rest : List ℕ) → 0 < length w → begins_with 99 w ≡ false → begins_with 99 (w ++ rest) ≡ false
starts-on [] rest some e = absurd (omega arith)
starts-on (b ∷ w) rest some e = e

clause-starts : (vars : ℕ) (c : List Literal) → vars < 2 ^ 64 → list_all (good vars) c ≡ true → begins_with 99 (clause_line c) ≡ false
clause-starts vars [] small g = refl
clause-starts vars (l ∷ ls) small g =
    let w = good-token vars l small (and_parts (good vars l) (list_all (good vars) ls) g).0 in
    ap (begins_with 99) (cut-clause l ls) ∙ starts-on (lit_token l) (32 ∷ clause_line ls) w.some w.start

clause-in_line : (vars : ℕ) (c : List Literal) → vars < 2 ^ 64 → list_all (good vars) c ≡ true → list_all in_line (clause_line c) ≡ true
clause-in_line vars [] small g = refl
clause-in_line vars (l ∷ ls) small g =
    let p = and_parts (good vars l) (list_all (good vars) ls) g in
    let w = good-token vars l small p.0 in
    ap (list_all in_line) (cut-clause l ls)
    ∙ list_all-append in_line (lit_token l) (32 ∷ clause_line ls)
    ∙ and_from (list_all in_line (lit_token l)) (list_all in_line (32 ∷ clause_line ls)) w.in_lines (clause-in_line vars ls small p.1)

-- ---- reading the line of a clause

abbrev pub body : ℕ → ℕ → List (List Literal) → List Literal → Draft
body vars count cs open_clause = record { stage = Body; vars = vars; count = count; clauses = cs; open_clause = open_clause }

not-not : (p : Bool) → not (not p) ≡ p
not-not true = refl
not-not false = refl

and-false : (a : Bool) → (a && false) ≡ false
and-false true = refl
and-false false = refl

chosen : (a b c t : Bool) (e f g : Result Draft ProofFault) (x : Result Draft ProofFault) → a ≡ false → b ≡ false → c ≡ false → t ≡ true → (if a then e else if b then f else if c then g else if t then x else Err (Shape (place_of 0 0 0))) ≡ x
chosen a b c t e f g x ea eb ec et = rw (ea, eb, ec, et) refl

picked : (a b c t : Bool) (e f g h x : Result Draft ProofFault) → a ≡ false → b ≡ false → c ≡ false → t ≡ true → (if a then e else if b then f else if c then g else if t then x else h) ≡ x
picked a b c t e f g h x ea eb ec et = rw (ea, eb, ec, et) refl

zero-not : (v : ℕ) → 1 ≤ v → (v == 0) ≡ false
zero-not v low = not-eqb v 0 (λ e. omega arith)

lit-taken : (vars count : ℕ) (cs : List (List Literal)) (before : List Literal) (l : Literal) (at : Place) → vars < 2 ^ 64 → good vars l ≡ true → is_full (body vars count cs before) ≡ false → with_token (body vars count cs before) at (lit_token l) ≡ Ok (body vars count cs (before ++ l ∷ []))
lit-taken vars count cs before l at small g full =
    let p = and_parts (nat_le 1 l.var) (nat_le l.var vars) g in
    let w = good-token vars l small g in
    let zero_no : (l.var == 0) ≡ false = zero-not l.var (leb-true 1 l.var p.0) in
    let d = body vars count cs before in
    ap (with_clause_token d at (lit_token l)) w.number
    ∙ picked (not l.positive && (l.var == 0)) (is_full d) (l.var == 0) (nat_le l.var vars) _ _ _ _ (Ok (body vars count cs (before ++ literal l.var (not (not l.positive)) ∷ []))) (ap (λ b. not l.positive && b) zero_no ∙ and-false (not l.positive)) full zero_no p.1
    ∙ ap (λ s. Ok (body vars count cs (before ++ literal l.var s ∷ []))) (not-not l.positive)

zero-taken : (vars count : ℕ) (cs : List (List Literal)) (before : List Literal) (at : Place) → is_full (body vars count cs before) ≡ false → with_token (body vars count cs before) at (48 ∷ []) ≡ Ok (body vars count (cs ++ before ∷ []) [])
zero-taken vars count cs before at full = rw full refl

none-push : (xs : List Literal) (x : Literal) → is_none (xs ++ x ∷ []) ≡ false
none-push [] x = refl
none-push (y ∷ xs) x = refl

open-full : (vars count : ℕ) (cs : List (List Literal)) (xs : List Literal) (x : Literal) → is_full (body vars count cs (xs ++ x ∷ [])) ≡ false
open-full vars count cs xs x = ap (λ b. b && (length cs == count)) (none-push xs x)

clause-taken : (vars count : ℕ) (cs : List (List Literal)) (before : List Literal) (n width : ℕ) (ls : List Literal) → vars < 2 ^ 64 → list_all (good vars) ls ≡ true → is_full (body vars count cs before) ≡ false → with_tokens (body vars count cs before) n width (tokens (clause_line ls)) ≡ Ok (body vars count (cs ++ (before ++ ls) ∷ []) [])
clause-taken vars count cs before n width [] small g full =
    ap (λ (x : Result Draft ProofFault). and_then x (λ e. with_tokens e n width [])) (zero-taken vars count cs before (place_of n width 1) full)
    ∙ ap (λ o. Ok (body vars count (cs ++ o ∷ []) [])) (sym (append-nil before))
clause-taken vars count cs before n width (l ∷ ls) small g full =
    let p = and_parts (good vars l) (list_all (good vars) ls) g in
    let w = good-token vars l small p.0 in
    let d = body vars count cs before in
    let rest = clause_line ls in
    ap (λ line. with_tokens d n width (tokens line)) (cut-clause l ls)
    ∙ ap (with_tokens d n width) (first-token (lit_token l) rest w.some w.in_tokens)
    ∙ ap (λ (x : Result Draft ProofFault). and_then x (λ e. with_tokens e n width (tokens rest))) (lit-taken vars count cs before l (place_of n width (length (lit_token l ++ 32 ∷ rest))) small p.0 full)
    ∙ clause-taken vars count cs (before ++ l ∷ []) n width ls small p.1 (open-full vars count cs before l)
    ∙ ap (λ o. Ok (body vars count (cs ++ o ∷ []) [])) (append_assoc before (l ∷ []) ls)

-- ---- all clauses

clauses-taken : (vars count : ℕ) (cs more : List (List Literal)) (n : ℕ) → vars < 2 ^ 64 → list_all (list_all (good vars)) more ≡ true → length cs + length more ≡ count → with_lines (body vars count cs []) n (map clause_line more) ≡ Ok (body vars count (cs ++ more) [])
clauses-taken vars count cs [] n small g e = ap (λ l. Ok (body vars count l [])) (sym (append-nil cs))
clauses-taken vars count cs (c ∷ more) n small g e =
    let p = and_parts (list_all (good vars) c) (list_all (list_all (good vars)) more) g in
    let d = body vars count cs [] in
    let line = clause_line c in
    let open_yet : is_full d ≡ false = not-eqb (length cs) count (λ q. omega arith) in
    let taken : with_line d n line ≡ Ok (body vars count (cs ++ c ∷ []) []) =
    ap (λ (t : Bool). if t then Ok d else with_tokens d n (length line) (tokens line)) (clause-starts vars c small p.0)
    ∙ clause-taken vars count cs [] n (length line) c small p.0 open_yet in
    let len : length (cs ++ c ∷ []) ≡ length cs + 1 = length-append cs (c ∷ []) in
    ap (λ (x : Result Draft ProofFault). and_then x (λ z. with_lines z (n + 1) (map clause_line more))) taken
    ∙ clauses-taken vars count (cs ++ c ∷ []) more (n + 1) small p.1 (omega arith)
    ∙ ap (λ l. Ok (body vars count l [])) (append_assoc cs (c ∷ []) more)

lines-of-clauses : (vars : ℕ) (more : List (List Literal)) → vars < 2 ^ 64 → list_all (list_all (good vars)) more ≡ true → lines (flat_map clause_shown more) ≡ map clause_line more
lines-of-clauses vars [] small g = refl
lines-of-clauses vars (c ∷ more) small g =
    let p = and_parts (list_all (good vars) c) (list_all (list_all (good vars)) more) g in
    ap lines (clause-shown c (flat_map clause_shown more))
    ∙ first-line (clause_line c) (flat_map clause_shown more) (clause-in_line vars c small p.0)
    ∙ ap (λ ls. clause_line c ∷ ls) (lines-of-clauses vars more small p.1)

-- ---- the header

abbrev pub header_line : ℕ → ℕ → List ℕ
header_line vars count = codes "p cnf " ++ (natural_shown vars ++ decimal count)

header-shown : (vars count : ℕ) (rest : List ℕ) → header_shown vars count ++ rest ≡ header_line vars count ++ 10 ∷ rest
header-shown vars count rest =
    ap (λ l. codes "p cnf " ++ l) (append_assoc (natural_shown vars) (decimal count ++ 10 ∷ []) rest
    ∙ ap (λ l. natural_shown vars ++ l) (append_assoc (decimal count) (10 ∷ []) rest)
    ∙ sym (append_assoc (natural_shown vars) (decimal count) (10 ∷ rest)))

sizes : (vars count : ℕ) → natural_shown vars ++ decimal count ≡ decimal vars ++ 32 ∷ decimal count
sizes vars count = append_assoc (decimal vars) (32 ∷ []) (decimal count)

header-in_line : (vars count : ℕ) → vars < 2 ^ 64 → count < 2 ^ 64 → list_all in_line (header_line vars count) ≡ true
header-in_line vars count v c =
    ap (list_all in_line) (sizes vars count)
    ∙ list_all-append in_line (decimal vars) (32 ∷ decimal count)
    ∙ and_from (list_all in_line (decimal vars)) (list_all in_line (decimal count)) (decimal-natural vars v).in_lines (decimal-natural count c).in_lines

size-read : (n : ℕ) → n ≤ 10000000 → size_of (decimal n) ≡ Some n
size-read n small =
    ap (λ o. at_most 10000000 (unsigned o)) (number_of-decimal n (omega arith))
    ∙ ap (λ (t : Bool). if t then Some n else None) (le-leb n 10000000 small)

abbrev pub at_vars : Draft
at_vars = record { stage = Variables; vars = 0; count = 0; clauses = []; open_clause = [] }

abbrev pub at_count : ℕ → Draft
at_count vars = record { stage = Clauses; vars = vars; count = 0; clauses = []; open_clause = [] }

numbers-taken : (vars count n width : ℕ) → vars ≤ 10000000 → count ≤ 10000000 → with_tokens at_vars n width (tokens (natural_shown vars ++ decimal count)) ≡ Ok (body vars count [] [])
numbers-taken vars count n width v c =
    let dv = decimal-natural vars (omega arith) in
    let dc = decimal-natural count (omega arith) in
    ap (λ l. with_tokens at_vars n width (tokens l)) (sizes vars count)
    ∙ ap (with_tokens at_vars n width) (first-token (decimal vars) (decimal count) dv.some dv.in_tokens)
    ∙ ap (λ o. and_then (with_vars at_vars (place_of n width (length (decimal vars ++ 32 ∷ decimal count))) o) (λ e. with_tokens e n width (tokens (decimal count)))) (size-read vars v)
    ∙ ap (with_tokens (at_count vars) n width) (last-token (decimal count) dc.some dc.in_tokens)
    ∙ ap (λ o. and_then (with_count (at_count vars) (place_of n width (length (decimal count))) o) (λ e. with_tokens e n width [])) (size-read count c)

header-taken : (vars count n : ℕ) → vars ≤ 10000000 → count ≤ 10000000 → with_line nothing n (header_line vars count) ≡ Ok (body vars count [] [])
header-taken vars count n v c =
    let line = header_line vars count in
    let rest = natural_shown vars ++ decimal count in
    ap (with_tokens nothing n (length line)) (first-token (112 ∷ []) (99 ∷ 110 ∷ 102 ∷ 32 ∷ rest) (omega arith) refl)
    ∙ ap (λ ws. with_tokens (at_stage nothing Format) n (length line) ws) (first-token (99 ∷ 110 ∷ 102 ∷ []) rest (omega arith) refl)
    ∙ numbers-taken vars count n (length line) v c

-- ---- the whole text

pub printed-read : (f : Cnf) → f.vars ≤ 10000000 → length f.clauses ≤ 10000000 → list_all (list_all (good f.vars)) f.clauses ≡ true → cnf_of (cnf_shown f) ≡ Ok f
printed-read f v c g =
    let vars = f.vars in
    let cs = f.clauses in
    let count = length cs in
    let end = end_of (start_of (cnf_shown f)) in
    let all : lines (cnf_shown f) ≡ header_line vars count ∷ map clause_line cs =
    ap lines (header-shown vars count (flat_map clause_shown cs))
    ∙ first-line (header_line vars count) (flat_map clause_shown cs) (header-in_line vars count (omega arith) (omega arith))
    ∙ ap (λ ls. header_line vars count ∷ ls) (lines-of-clauses vars cs (omega arith) g) in
    ap (λ ls. and_then (with_lines nothing 1 ls) (λ d. finished d end)) all
    ∙ ap (λ (x : Result Draft ProofFault). and_then (and_then x (λ z. with_lines z 2 (map clause_line cs))) (λ d. finished d end)) (header-taken vars count 1 v c)
    ∙ ap (λ (x : Result Draft ProofFault). and_then x (λ d. finished d end)) (clauses-taken vars count [] cs 2 (omega arith) g (omega arith))
    ∙ ap (λ (t : Bool). if t then Ok (cnf vars cs) else Err (Count end)) (eq-eqb (length cs) (length cs) refl)
