-- The numbers below 2 ^ b cover all choices of a course whose widest path has b bits.
use Rattle.std.proofs.Common.{◌≡◌, ℕ, ◌+◌, ◌-◌, ◌*◌, ◌/◌, ◌%◌, ◌^◌, ◌<◌, ◌≤◌, [], ◌∷◌, Bool, true, false, refl, ap, sym, ◌∙◌, arith, if◌then◌else◌}
use Rattle.std.proofs.lemmas.Nat.{pow-add, mod-mul-add, div-mul-add, pow_pos}
use Rattle.knox_words.specs.Bits.{Bits, bits}
use Rattle.knox_words.specs.Lists.{fits, Words}
use Rattle.knox_words.proofs.Lists.{bits-value, fits-below}
use Rattle.knox_theory.specs.Course.{Assume, Check, Course, Done, Failed, Mark, run, Short, Take, Tell}
use Rattle.knox_theory.specs.Numbered.{choices_at, Covered, Within}

-- a word in front of a number of b - w bits
product_below : (x m y n : ℕ) → x < m → y < n → x * n + y < m * n
product_below x m y n p q = grind arith

joined : (w b : ℕ) (a : Bits) (k : ℕ) → w ≤ b → fits w a ≡ true → k < 2 ^ (b - w) → a.value * 2 ^ (b - w) + k < 2 ^ b
joined w b a k le f lt =
    let whole : w + (b - w) ≡ b = omega arith in
    let split : 2 ^ b ≡ 2 ^ w * 2 ^ (b - w) = ap (λ z. 2 ^ z) (sym whole) ∙ pow-add 2 w (b - w) in
    rw split (product_below a.value (2 ^ w) k (2 ^ (b - w)) (fits-below w a f) lt)

first : (w b : ℕ) (a : Bits) (k : ℕ) → fits w a ≡ true → k < 2 ^ (b - w) → bits w ((a.value * 2 ^ (b - w) + k) / 2 ^ (b - w)) ≡ a
first w b a k f lt =
    ap (λ z. bits w z) (div-mul-add a.value (2 ^ (b - w)) k lt) ∙ bits-value w a f

record First (w : ℕ) (rest : Bits → Course) (c : Bits) (cs : Words) (h : ℕ) : Type 0 where
  fitting : fits w c ≡ true
  fails : run (rest c) cs ≡ Failed h

took : (w : ℕ) (rest : Bits → Course) (c : Bits) (cs : Words) (h : ℕ) → run (Take w rest) (c ∷ cs) ≡ Failed h → First w rest c cs h
took w rest c cs h e = by_test (fits w c) refl e
  where
    by_test : (v : Bool) → fits w c ≡ v → (if v then run (rest c) cs else Short) ≡ Failed h → First w rest c cs h
    by_test true f p = record { fitting = f; fails = p }
    by_test false f p = cc

put : (w b : ℕ) (rest : Bits → Course) (c : Bits) (h : ℕ) → w ≤ b → fits w c ≡ true → Covered (rest c) (b - w) h → Covered (Take w rest) b h
put w b rest c h le f more =
    let n = c.value * 2 ^ (b - w) + more.number in
    let front : bits w (n / 2 ^ (b - w)) ≡ c = first w b c more.number f more.below in
    let back : n % 2 ^ (b - w) ≡ more.number = mod-mul-add c.value (2 ^ (b - w)) more.number more.below in
    let same : choices_at (Take w rest) b n ≡ c ∷ choices_at (rest c) (b - w) more.number =
    ap (λ z. z ∷ choices_at (rest z) (b - w) (n % 2 ^ (b - w))) front ∙ ap (λ z. c ∷ choices_at (rest c) (b - w) z) back in
    let goes : run (Take w rest) (c ∷ choices_at (rest c) (b - w) more.number) ≡ Failed h = rw f more.falsifies in
    record { number = n; below = joined w b c more.number le f more.below; falsifies = ap (λ z. run (Take w rest) z) same ∙ goes }

pub covered : (t : Course) (b : ℕ) → Within t b → (h : ℕ) (cs : Words) → run t cs ≡ Failed h → Covered t b h
covered (Check true k rest) b in_b h cs e =
    let c = covered rest b in_b h cs e in record { number = c.number; below = c.below; falsifies = c.falsifies }
covered (Check false k rest) b in_b h cs e = record { number = 0; below = pow_pos b; falsifies = e }
covered (Assume true rest) b in_b h cs e =
    let c = covered rest b in_b h cs e in record { number = c.number; below = c.below; falsifies = c.falsifies }
covered (Assume false rest) b in_b h cs e = cc
covered (Take w rest) b in_b h [] e = cc
covered (Take w rest) b in_b h (c ∷ cs) e =
    let one = took w rest c cs h e in
    put w b rest c h in_b.0 one.fitting (covered (rest c) (b - w) (in_b.1 c one.fitting) h cs one.fails)
covered (Mark l s rest) b in_b h cs e =
    let c = covered rest b in_b h cs e in record { number = c.number; below = c.below; falsifies = c.falsifies }
covered (Tell n rest) b in_b h cs e =
    let c = covered rest b in_b h cs e in record { number = c.number; below = c.below; falsifies = c.falsifies }
covered Done b in_b h cs e = cc
