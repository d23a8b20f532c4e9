-- One more symbol among some.
use Rattle.std.proofs.Common.{◌≡◌, ℕ, ◌||◌, ◌&&◌, if◌then◌else◌, List, [], ◌∷◌, Bool, true, false, refl, sym, ◌∙◌, ap}
use Rattle.std.specs.List.{list_any}
use Rattle.std.specs.Ordering.{nat_cmp, is_eq, match_ordering}
use Rattle.std.specs.Cmp.Lexicographic.{slice_cmp}
use Rattle.std.specs.Str.{bytes_eq}
use Rattle.std.specs.BTreeSet.{insert_key}
use Rattle.std.specs.BTreeMap.{is_at}
use Rattle.std.specs.declared.cmp.Ordering.{Ordering}
use Rattle.std.specs.declared.cmp.Ordering.TheVariants.{Less, Equal, Greater}
use Rattle.std.proofs.lemmas.Bool.Decides.{same_from_decides}
use Rattle.std.proofs.lemmas.Slice.Eq.{bytes_eq-Decides}
use Rattle.std.proofs.lemmas.Map.Text.{is_eq-slice_cmp}
use denote.Ref.{Bor}
use Rattle.circuit_table.specs.declared.line.Line.{Line}
use Rattle.knox_circuit.specs.declared.port.Role.{Role}
use Rattle.knox_circuit.specs.declared.names.Names.{Names}
use Rattle.knox_circuit.specs.Names.{name_of, plays, bears, name_among}
use Rattle.knox_circuit.specs.Taken.{has, Know}

-- the order of symbols
abbrev pub before : Bor (List ℕ) → Bor (List ℕ) → Ordering
before x y = slice_cmp nat_cmp x.now y.now

abbrev pub is : List ℕ → Bor (List ℕ) → Bool
is q k = is_at (λ (x : Bor (List ℕ)). slice_cmp nat_cmp q x.now) k

swapped : (xs ys : List ℕ) → bytes_eq xs ys ≡ bytes_eq ys xs
swapped xs ys = same_from_decides (bytes_eq xs ys) (bytes_eq ys xs) (bytes_eq-Decides xs ys) ((λ e. sym ((bytes_eq-Decides ys xs).0 e)), (λ e. (bytes_eq-Decides ys xs).1 (sym e)))

or-back : (a b : Bool) → (a || b) ≡ (b || a)
or-back true true = refl
or-back true false = refl
or-back false true = refl
or-back false false = refl

or-over : (a b c : Bool) → (a || (b || c)) ≡ ((a || b) || c)
or-over true b c = refl
or-over false b c = refl

or-own : (a b : Bool) → (a || b) ≡ ((a || b) || a)
or-own true b = refl
or-own false true = refl
or-own false false = refl

one : (q : List ℕ) (k : Bor (List ℕ)) → is q k ≡ bytes_eq k.now q
one q k = is_eq-slice_cmp q k.now ∙ swapped q k.now

equal : (k x : Bor (List ℕ)) (q : List ℕ) → before k x ≡ Equal → bytes_eq k.now q ≡ is q x
equal k x q e =
    let same : bytes_eq k.now x.now ≡ true = sym (is_eq-slice_cmp k.now x.now) ∙ ap is_eq e in
    ap (λ z. bytes_eq z q) ((bytes_eq-Decides k.now x.now).0 same) ∙ sym (one q x)

pub inserted : (ks : List (Bor (List ℕ))) (k : Bor (List ℕ)) (q : List ℕ) → list_any (is q) (insert_key before ks k) ≡ (list_any (is q) ks || bytes_eq k.now q)
inserted [] k q = ap (λ b. b || false) (one q k) ∙ or-back (bytes_eq k.now q) false
inserted (x ∷ xs) k q = by_order (before k x) refl (inserted xs k q) where
  by_order : (o : Ordering) → before k x ≡ o → list_any (is q) (insert_key before xs k) ≡ (list_any (is q) xs || bytes_eq k.now q) → list_any (is q) (match_ordering o (k ∷ x ∷ xs) (x ∷ xs) (x ∷ insert_key before xs k)) ≡ (list_any (is q) (x ∷ xs) || bytes_eq k.now q)
  by_order Less e rest = ap (λ b. b || (is q x || list_any (is q) xs)) (one q k) ∙ or-back (bytes_eq k.now q) (is q x || list_any (is q) xs)
  by_order Equal e rest = or-own (is q x) (list_any (is q) xs) ∙ ap (λ b. (is q x || list_any (is q) xs) || b) (sym (equal k x q e))
  by_order Greater e rest = ap (λ b. is q x || b) rest ∙ or-over (is q x) (list_any (is q) xs) (bytes_eq k.now q)

-- one more line

pub noted : (names new : Names) (k : Role) (l : Line) (given : List ℕ) → plays k l.shape ≡ true → given ≡ l.symbol → ((q : List ℕ) → has new q ≡ (has names q || bytes_eq given q)) → (q : List ℕ) → has new q ≡ (has names q || bears k q l)
noted names new k l given is same added q =
    added q ∙ (ap (λ z. has names q || bytes_eq z q) same ∙ sym (ap (λ b. has names q || (b && bytes_eq l.symbol q)) is))

pub passed : (names : Names) (k : Role) (l : Line) → plays k l.shape ≡ false → (q : List ℕ) → has names q ≡ (has names q || bears k q l)
passed names k l is q = or-none (has names q) ∙ sym (ap (λ b. has names q || (b && bytes_eq l.symbol q)) is) where
  or-none : (a : Bool) → a ≡ (a || false)
  or-none true = refl
  or-none false = refl

pub ruleset note_steps = (noted, passed)

pub known-more : (k : Role) (before : List Line) (l : Line) (names new : Names) → Know names k before → ((q : List ℕ) → has new q ≡ (has names q || bears k q l)) → Know new k (l ∷ before)
known-more k before l names new had added q = added q ∙ (ap (λ b. b || bears k q l) (had q) ∙ or-back (list_any (bears k q) before) (bears k q l))

-- the name of one more line
pub name-is : (before : List Line) (k : Role) (names : Names) (symbol given name : List ℕ) → Know names k before → name ≡ (if has names given then [] else name_of given) → given ≡ symbol → name ≡ name_among k before symbol
name-is before k names symbol given name known e same =
    e
    ∙ (ap (λ z. if has names z then [] else name_of z) same
    ∙ ap (λ (b : Bool). if b then [] else name_of symbol) (known symbol))
