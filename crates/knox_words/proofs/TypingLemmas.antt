-- Values of operators have the widths that their typing says.
use Rattle.std.proofs.Common.{◌≡◌, ℕ, ◌+◌, ◌-◌, ◌<◌, ◌≤◌, ◌==◌, ◌&&◌, nat_le, nat_lt, true, Some, sym, subst, arith}
use Rattle.std.proofs.lemmas.Bool.{and_parts, leb-true, ltb-true, eqb-true, le-leb}
use Rattle.std.proofs.lemmas.Option.{cond_some}
use Rattle.knox_words.specs.Bits.{Bits, ite_value}
use Rattle.knox_words.specs.Ops.{op2_value, op2_or, fits2_of, op2_width, slice_value, slice_or, uext_value, uext_or, sext_value, sext_or}
use Rattle.knox_words.specs.Lists.{fits}
use Rattle.knox_words.specs.Typing.{op2_typed, slice_typed, extended, ite_typed}
use Rattle.knox_words.specs.declared.op.Op2.{Op2}
use Rattle.knox_words.proofs.Lists.{fits-IsWord, fits-width, fits-from}
use Rattle.knox_words.proofs.Results.{op2_value-fits, op2_or-fits, ite_value-fits, slice_value-IsWord, uext_value-IsWord, sext_value-IsWord}

pub op2_typed-fits : (o : Op2) (w v u : ℕ) (a b : Bits) → op2_typed o w v ≡ Some u → fits w a ≡ true → fits v b ≡ true → fits u (op2_value o a b) ≡ true
op2_typed-fits o w v u a b h p q =
    let typed = cond_some (fits2_of o w v) (op2_width o w v) u h in
    subst (λ (k : ℕ). fits k (op2_value o a b) ≡ true) typed.1 (op2_value-fits o w v a b typed.0 p q)

pub slice_typed-fits : (w high low u : ℕ) (a : Bits) → slice_typed w high low ≡ Some u → fits w a ≡ true → fits u (slice_value a high low) ≡ true
slice_typed-fits w high low u a h p =
    let typed = cond_some (nat_le low high && nat_lt high w) (high - low + 1) u h in
    let places = and_parts (nat_le low high) (nat_lt high w) typed.0 in
    let within : high < a.width = subst (λ (k : ℕ). high < k) (sym (fits-width w a p)) (ltb-true high w places.1) in
    fits-from u (slice_value a high low) typed.1 (slice_value-IsWord a high low (leb-true low high places.0) within (fits-IsWord w a p))

-- a word's own width, in n bits more
longer : (w n u : ℕ) (a : Bits) → extended w n ≡ Some u → fits w a ≡ true → (a.width + n ≡ u) × (a.width + n ≤ 128)
longer w n u a h p =
    let typed = cond_some (nat_le (w + n) 128) (w + n) u h in
    let same : a.width ≡ w = fits-width w a p in
    let le : w + n ≤ 128 = leb-true (w + n) 128 typed.0 in
    let sum : w + n ≡ u = typed.1 in
    (omega arith, omega arith)

pub uext_typed-fits : (w n u : ℕ) (a : Bits) → extended w n ≡ Some u → fits w a ≡ true → fits u (uext_value a n) ≡ true
uext_typed-fits w n u a h p =
    let l = longer w n u a h p in
    fits-from u (uext_value a n) l.0 (uext_value-IsWord a n l.1 (fits-IsWord w a p))

pub sext_typed-fits : (w n u : ℕ) (a : Bits) → extended w n ≡ Some u → fits w a ≡ true → fits u (sext_value a n) ≡ true
sext_typed-fits w n u a h p =
    let l = longer w n u a h p in
    fits-from u (sext_value a n) l.0 (sext_value-IsWord a n l.1 (fits-IsWord w a p))

pub ite_typed-fits : (x v w u : ℕ) (c a b : Bits) → ite_typed x v w ≡ Some u → fits v a ≡ true → fits w b ≡ true → fits u (ite_value c a b) ≡ true
ite_typed-fits x v w u c a b h p q =
    let typed = cond_some (x == 1 && v == w) v u h in
    let same : v ≡ w = eqb-true v w (and_parts (x == 1) (v == w) typed.0).1 in
    subst (λ (k : ℕ). fits k (ite_value c a b) ≡ true) typed.1 (ite_value-fits v c a b p (subst (λ (k : ℕ). fits k b ≡ true) (sym same) q))

-- the same of the operators for callers that know no widths

pub op2_or-typed : (o : Op2) (w v u : ℕ) (a b : Bits) → op2_typed o w v ≡ Some u → fits w a ≡ true → fits v b ≡ true → fits u (op2_or o a b) ≡ true
op2_or-typed o w v u a b h p q =
    let typed = cond_some (fits2_of o w v) (op2_width o w v) u h in
    subst (λ (k : ℕ). fits k (op2_or o a b) ≡ true) typed.1 (op2_or-fits o w v a b typed.0 p q)

pub slice_or-typed : (w high low u : ℕ) (a : Bits) → slice_typed w high low ≡ Some u → fits w a ≡ true → fits u (slice_or a high low) ≡ true
slice_or-typed w high low u a h p =
    let typed = cond_some (nat_le low high && nat_lt high w) (high - low + 1) u h in
    let within : nat_le low high && nat_lt high a.width ≡ true = subst (λ (k : ℕ). nat_le low high && nat_lt high k ≡ true) (sym (fits-width w a p)) typed.0 in
    rw within (slice_typed-fits w high low u a h p)

-- the sum is at most 128 as a test
narrow : (w n u : ℕ) (a : Bits) → extended w n ≡ Some u → fits w a ≡ true → nat_le (a.width + n) 128 ≡ true
narrow w n u a h p = le-leb (a.width + n) 128 (longer w n u a h p).1

pub uext_or-typed : (w n u : ℕ) (a : Bits) → extended w n ≡ Some u → fits w a ≡ true → fits u (uext_or a n) ≡ true
uext_or-typed w n u a h p = rw (narrow w n u a h p) (uext_typed-fits w n u a h p)

pub sext_or-typed : (w n u : ℕ) (a : Bits) → extended w n ≡ Some u → fits w a ≡ true → fits u (sext_or a n) ≡ true
sext_or-typed w n u a h p = rw (narrow w n u a h p) (sext_typed-fits w n u a h p)
