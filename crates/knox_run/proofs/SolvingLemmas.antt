-- Values of variables, one after another.
use Rattle.std.proofs.Common.{◌≡◌, ◌∙◌, ℕ, ◌+◌, ◌<◌, Bool, false, List, [], ◌∷◌, ◌++◌, length, take, get_or, codes, ap, sym, append_assoc, append-nil, arith}
use Rattle.std.proofs.lemmas.List.{take_more, length-take}
use Rattle.knox_run.specs.Words.{Bytes}
use Rattle.knox_run.specs.Solving.{spaced_value, values_from}

-- one more value
pub values-push : (v : ℕ) (bs : List Bool) (b : Bool) → values_from v (bs ++ b ∷ []) ≡ values_from v bs ++ spaced_value (v + length bs) b
values-push v [] b =
    let e : v ≡ v + length {A = Bool} [] = omega arith in
    append-nil (spaced_value v b) ∙ ap (λ n. spaced_value n b) e
values-push v (x ∷ bs) b =
    let e : v + 1 + length bs ≡ v + length (x ∷ bs) = omega arith in
    ap (λ w. spaced_value v x ++ w) (values-push (v + 1) bs b ∙ ap (λ n. values_from (v + 1) bs ++ spaced_value n b) e)
    ∙ sym (append_assoc (spaced_value v x) (values_from (v + 1) bs) (spaced_value (v + length (x ∷ bs)) b))

-- the text with the next value
pub values-next : (bs : List Bool) (i : ℕ) (text spaced new : Bytes) → i < length bs → new ≡ text ++ spaced → spaced ≡ spaced_value (i + 1) (get_or bs i false) →
    text ≡ codes "sat\nv" ++ values_from 1 (take i bs) → new ≡ codes "sat\nv" ++ values_from 1 (take (i + 1) bs)
values-next bs i text spaced new inside is value before =
    let cut = length-take i bs in
    let e : i + 1 ≡ 1 + length (take i bs) = omega (arith, cut, inside) in
    is ∙ ap (λ t. t ++ spaced) before
    ∙ ap (λ t. (codes "sat\nv" ++ values_from 1 (take i bs)) ++ t) (value ∙ ap (λ n. spaced_value n (get_or bs i false)) e)
    ∙ append_assoc (codes "sat\nv") (values_from 1 (take i bs)) (spaced_value (1 + length (take i bs)) (get_or bs i false))
    ∙ ap (λ t. codes "sat\nv" ++ t) (sym (values-push 1 (take i bs) (get_or bs i false)) ∙ ap (values_from 1) (sym (take_more bs i false inside)))
