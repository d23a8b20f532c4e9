-- What is printed of a number is read again.
use Rattle.std.proofs.Common.{◌≡◌, ℕ, ◌^◌, ◌≤◌, ◌<◌, ◌⊎◌, Bool, true, false, if◌then◌else◌, List, [], ◌∷◌, Some, refl, ap, ◌∙◌, arith, inl}
use Rattle.std.specs.Fmt.{decimal}
use Rattle.std.specs.Str.Parse.{AllDigits}
use Rattle.knox_text.specs.Lines.{begins_with}
use Rattle.knox_text.specs.Numbers.{natural}
use Rattle.knox_text.proofs.Decimals.{digit-range, not-eqb, decimal-natural}
use Rattle.proof_text.specs.Numbers.{with_sign, number_of}

-- digits begin with no other byte
pub not-first : (byte : ℕ) (bytes : List ℕ) → (byte < 48) ⊎ (58 ≤ byte) → AllDigits 10 bytes → begins_with byte bytes ≡ false
not-first byte [] out all = refl
not-first byte (b ∷ bytes) out all = let range = digit-range b all.0 in not-eqb b byte (λ e. omega (arith, range, out, e))

unsigned-number : (bytes : List ℕ) (n : ℕ) → begins_with 45 bytes ≡ false → natural bytes ≡ Some n → number_of bytes ≡ Some (record { negative = false; magnitude = n })
unsigned-number [] n f r = cc
unsigned-number (b ∷ bytes) n f r = ap (λ (t : Bool). if t then with_sign true (natural bytes) else with_sign false (natural (b ∷ bytes))) f ∙ ap (with_sign false) r

pub number_of-decimal : (n : ℕ) → n < 2 ^ 64 → number_of (decimal n) ≡ Some (record { negative = false; magnitude = n })
number_of-decimal n lt = let d = decimal-natural n lt in unsigned-number (decimal n) n (not-first 45 (decimal n) (inl (omega arith)) d.all) d.reads

pub number_of-minus : (n : ℕ) → n < 2 ^ 64 → number_of (45 ∷ decimal n) ≡ Some (record { negative = true; magnitude = n })
number_of-minus n lt = let d = decimal-natural n lt in ap (with_sign true) d.reads
