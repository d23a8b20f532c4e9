-- The texts of a shelf's entries from a place on, one by one.
use Rattle.std.proofs.Common.{◌≡◌, ◌∙◌, ◌≤◌, ◌+◌, ℕ, zero, suc, List, [], ◌∷◌, length, length-drop, drop, ap, sym, refl, add-one, Some, arith}
use Rattle.std.specs.List.{slice_get}
use Rattle.std.specs.Option.{option_map, unwrap_or}
use Rattle.std.proofs.lemmas.List.{drop_all}
use Rattle.knox_run.specs.Words.{Bytes, Named}
use Rattle.knox_run.specs.Reading.{texts_of}

text_at : (es : List Named) (n : ℕ) (t : Bytes) → option_map (λ e. e.1) (slice_get es n) ≡ Some t → texts_of (drop n es) ≡ t ∷ texts_of (drop (suc n) es)
text_at [] n t at = absurd (cc)
text_at (e ∷ es) zero t at = ap (λ o. unwrap_or o [] ∷ texts_of es) at
text_at (e ∷ es) (suc n) t at = text_at es n t at

-- the text at a place, and those behind it
pub text-next : (es : List Named) (n m : ℕ) (t : Bytes) (ts : List Bytes) → m ≡ n + 1 → option_map (λ e. e.1) (slice_get es n) ≡ Some t → texts_of (drop m es) ≡ ts → texts_of (drop n es) ≡ t ∷ ts
text-next es n m t ts next at behind = text_at es n t at ∙ ap (λ k. t ∷ texts_of (drop k es)) (sym (next ∙ add-one n)) ∙ ap (λ z. t ∷ z) behind

pub no-texts : (es : List Named) (n : ℕ) → length es ≤ n → texts_of (drop n es) ≡ []
no-texts es n past = ap texts_of (drop_all n es past)

pub two-texts : (es : List Named) (n : ℕ) (t u : Bytes) → length (drop n es) ≡ 2 → option_map (λ e. e.1) (slice_get es n) ≡ Some t → option_map (λ e. e.1) (slice_get es (n + 1)) ≡ Some u → texts_of (drop n es) ≡ t ∷ u ∷ []
two-texts es n t u count p q =
    text-next es n (n + 1) t (u ∷ []) refl p (text-next es (n + 1) (n + 2) u [] (omega arith) q (no-texts es (n + 2) (omega (arith, length-drop n es))))

pub one-text : (es : List Named) (n : ℕ) (t : Bytes) → length (drop n es) ≡ 1 → option_map (λ e. e.1) (slice_get es n) ≡ Some t → texts_of (drop n es) ≡ t ∷ []
one-text es n t count p = text-next es n (n + 1) t [] refl p (no-texts es (n + 1) (omega (arith, length-drop n es)))
