-- Words read with a sign: none is below itself, below the least or above the greatest of its width.
use Rattle.std.proofs.Common.{◌≡◌, ℕ, ◌-◌, ◌^◌, ◌<◌, ◌≤◌, nat_lt, Bool, true, false, refl, ap, ◌∙◌, arith, if◌then◌else◌}
use Rattle.std.specs.Prelude.{ℤ, pos, negsuc, int_lt, int_le}
use Rattle.std.proofs.lemmas.Bool.{le-leb, lt-leb, le-ltb, ltb-true, ltb-false}
use Rattle.std.proofs.lemmas.Nat.{pow_pos}
use Rattle.knox_words.specs.Signs.{sg}
use Rattle.knox_words.proofs.Signed.{sg_pos, sg_neg}

pub int_lt-same : (z : ℤ) → int_lt z z ≡ false
int_lt-same (pos n) = le-ltb n n (omega arith)
int_lt-same (negsuc n) = le-ltb n n (omega arith)

pub int_le-same : (z : ℤ) → int_le z z ≡ true
int_le-same (pos n) = le-leb n n (omega arith)
int_le-same (negsuc n) = le-leb n n (omega arith)

-- what isn't above is at most
pub int_le-from : (y z : ℤ) → int_lt z y ≡ false → int_le y z ≡ true
int_le-from (pos a) (pos b) h = le-leb a b (ltb-false b a h)
int_le-from (pos a) (negsuc b) h = cc
int_le-from (negsuc a) (pos b) h = refl
int_le-from (negsuc a) (negsuc b) h = le-leb b a (ltb-false a b h)

pub not_below_least : (w a c : ℕ) → c ≡ 2 ^ (w - 1) → int_lt (sg w a) (sg w c) ≡ false
not_below_least w a c e =
    let is : sg w (2 ^ (w - 1)) ≡ negsuc (2 ^ w - 1 - 2 ^ (w - 1)) = sg_neg w (2 ^ (w - 1)) (le-leb (2 ^ (w - 1)) (2 ^ (w - 1)) (omega arith)) in
    ap (λ (n : ℕ). int_lt (sg w a) (sg w n)) e ∙ (ap (int_lt (sg w a)) is ∙ by_test (nat_lt a (2 ^ (w - 1))) refl)
  where
    by_test : (t : Bool) → nat_lt a (2 ^ (w - 1)) ≡ t → int_lt (if t then pos a else negsuc (2 ^ w - 1 - a)) (negsuc (2 ^ w - 1 - 2 ^ (w - 1))) ≡ false
    by_test true h = refl
    by_test false h =
        let ge : 2 ^ (w - 1) ≤ a = ltb-false a (2 ^ (w - 1)) h in
        le-ltb (2 ^ w - 1 - 2 ^ (w - 1)) (2 ^ w - 1 - a) (omega arith)

pub not_above_greatest : (w a c : ℕ) → c ≡ 2 ^ (w - 1) - 1 → int_lt (sg w c) (sg w a) ≡ false
not_above_greatest w a c e =
    let some : 0 < 2 ^ (w - 1) = pow_pos (w - 1) in
    let is : sg w (2 ^ (w - 1) - 1) ≡ pos (2 ^ (w - 1) - 1) = sg_pos w (2 ^ (w - 1) - 1) (lt-leb (2 ^ (w - 1)) (2 ^ (w - 1) - 1) (omega arith)) in
    ap (λ (n : ℕ). int_lt (sg w n) (sg w a)) e ∙ (ap (λ (z : ℤ). int_lt z (sg w a)) is ∙ by_test (nat_lt a (2 ^ (w - 1))) refl)
  where
    by_test : (t : Bool) → nat_lt a (2 ^ (w - 1)) ≡ t → int_lt (pos (2 ^ (w - 1) - 1)) (if t then pos a else negsuc (2 ^ w - 1 - a)) ≡ false
    by_test true h =
        let lt : a < 2 ^ (w - 1) = ltb-true a (2 ^ (w - 1)) h in
        le-ltb (2 ^ (w - 1) - 1) a (omega arith)
    by_test false h = refl
