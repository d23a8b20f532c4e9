-- A search word by word covers all choices.
use Rattle.std.proofs.Common.{◌≡◌, ℕ, ◌^◌, ◌<◌, Some, None, [], ◌∷◌, ◌++◌, append-nil, append_assoc, Bool, true, false, refl, ap, sym, ◌∙◌, if◌then◌else◌}
use Rattle.knox_words.specs.Bits.{Bits, bits}
use Rattle.knox_words.specs.Lists.{fits, Words}
use Rattle.knox_words.proofs.Lists.{bits-value, fits-below}
use Rattle.knox_theory.specs.Course.{Assume, Check, Course, Done, End, Failed, Mark, run, Safe, Short, Take, Tell}
use Rattle.knox_theory.specs.Searched.{SafeFrom, wants}

choose-end : (b : Bool) (x y x' y' : End) → (b ≡ true → x' ≡ x) → y' ≡ y → (if b then x' else y') ≡ (if b then x else y)
choose-end true x y x' y' p q = p refl
choose-end false x y x' y' p q = q

-- a run that ends, or meets a word of another width, isn't changed by more choices
pub ended : (t : Course) (front cs : Words) → wants t front ≡ None → run t (front ++ cs) ≡ run t front
ended (Check true h rest) front cs e = ended rest front cs e
ended (Check false h rest) front cs e = refl
ended (Assume true rest) front cs e = ended rest front cs e
ended (Assume false rest) front cs e = refl
ended (Take w rest) [] cs e = cc
ended (Take w rest) (c ∷ front) cs e = by_test (fits w c) e (λ p. ended (rest c) front cs p)
  where
    by_test : (b : Bool) → (if b then wants (rest c) front else None) ≡ None → (wants (rest c) front ≡ None → run (rest c) (front ++ cs) ≡ run (rest c) front) →
        (if b then run (rest c) (front ++ cs) else Short) ≡ (if b then run (rest c) front else Short)
    by_test true p go = go p
    by_test false p go = refl
ended (Mark l s rest) front cs e = ended rest front cs e
ended (Tell n rest) front cs e = ended rest front cs e
ended Done front cs e = refl

-- where a word is wanted, one of another width, or none, ends the run
pub refused : (t : Course) (front : Words) (w : ℕ) → wants t front ≡ Some w → (c : Bits) (cs : Words) → fits w c ≡ false → run t (front ++ c ∷ cs) ≡ Short
refused (Check true h rest) front w e c cs f = refused rest front w e c cs f
refused (Check false h rest) front w e c cs f = cc
refused (Assume true rest) front w e c cs f = refused rest front w e c cs f
refused (Assume false rest) front w e c cs f = cc
refused (Take v rest) [] w e c cs f = let same : v ≡ w = cc in rw (same, f) refl
refused (Take v rest) (x ∷ front) w e c cs f = by_test (fits v x) e (λ p. refused (rest x) front w p c cs f)
  where
    by_test : (b : Bool) → (if b then wants (rest x) front else None) ≡ Some w → (wants (rest x) front ≡ Some w → run (rest x) (front ++ c ∷ cs) ≡ Short) → (if b then run (rest x) (front ++ c ∷ cs) else Short) ≡ Short
    by_test true p go = go p
    by_test false p go = refl
refused (Mark l s rest) front w e c cs f = refused rest front w e c cs f
refused (Tell n rest) front w e c cs f = refused rest front w e c cs f
refused Done front w e c cs f = cc

pub wanting : (t : Course) (front : Words) (w : ℕ) → wants t front ≡ Some w → run t front ≡ Short
wanting (Check true h rest) front w e = wanting rest front w e
wanting (Check false h rest) front w e = cc
wanting (Assume true rest) front w e = wanting rest front w e
wanting (Assume false rest) front w e = cc
wanting (Take v rest) [] w e = refl
wanting (Take v rest) (x ∷ front) w e = by_test (fits v x) e (λ p. wanting (rest x) front w p)
  where
    by_test : (b : Bool) → (if b then wants (rest x) front else None) ≡ Some w → (wants (rest x) front ≡ Some w → run (rest x) front ≡ Short) → (if b then run (rest x) front else Short) ≡ Short
    by_test true p go = go p
    by_test false p go = refl
wanting (Mark l s rest) front w e = wanting rest front w e
wanting (Tell n rest) front w e = wanting rest front w e
wanting Done front w e = cc

-- a leaf of the search: the run over the choices so far ended, and didn't fail
pub leaf : (t : Course) (front : Words) → wants t front ≡ None → ((h : ℕ) → run t front ≡ Failed h → ⊥) → SafeFrom t front
leaf t front e never = record { never = λ h cs p. never h (sym (ended t front cs e) ∙ p) }

-- a branch: every word of the wanted width was tried
pub branch : (t : Course) (front : Words) (w : ℕ) → wants t front ≡ Some w → ((v : ℕ) → v < 2 ^ w → SafeFrom t (front ++ bits w v ∷ [])) → SafeFrom t front
branch t front w e all = record { never = λ h cs p. by_choices h cs p }
  where
    fitting : (h : ℕ) (c : Bits) (cs : Words) (b : Bool) → fits w c ≡ b → run t (front ++ c ∷ cs) ≡ Failed h → ⊥
    fitting h c cs true f p =
        let same : bits w c.value ≡ c = bits-value w c f in
        let there : run t ((front ++ bits w c.value ∷ []) ++ cs) ≡ Failed h = rw same (ap (λ z. run t z) (append_assoc front (c ∷ []) cs) ∙ p) in
        (all c.value (fits-below w c f)).never h cs there
    fitting h c cs false f p = let no : Short ≡ Failed h = sym (refused t front w e c cs f) ∙ p in cc

    by_choices : (h : ℕ) (cs : Words) → run t (front ++ cs) ≡ Failed h → ⊥
    by_choices h [] p = let no : Short ≡ Failed h = sym (wanting t front w e) ∙ (ap (λ z. run t z) (sym (append-nil front)) ∙ p) in cc
    by_choices h (c ∷ cs) p = fitting h c cs (fits w c) refl p

pub searched : (t : Course) → SafeFrom t [] → Safe t
searched t s = record { never = s.never }
