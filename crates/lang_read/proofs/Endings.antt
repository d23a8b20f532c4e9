-- The last of a list and those before it.
use Rattle.std.proofs.Common.{◌≡◌, ℕ, suc, ◌-◌, ◌≤◌, List, [], ◌∷◌, length, get_or, take, refl, sym, ap, ◌∙◌, arith, Some}
use Rattle.knox_sexpr.specs.declared.tree.Tree.{Tree}
use Rattle.lang_read.specs.Bodies.{and_front, cut_last}

longer : (t : Tree) (ts : List Tree) (k : ℕ) → k ≡ suc (length ts - 1) → take k (t ∷ ts) ≡ t ∷ take (length ts - 1) ts
longer t ts k e = rw e refl

pub ending-is : (ts : List Tree) (last : Tree) → 1 ≤ length ts → last ≡ get_or ts (length ts - 1) last → cut_last ts ≡ Some (take (length ts - 1) ts, last)
ending-is [] last le e = absurd (omega arith)
ending-is (t ∷ []) last le e = ap (λ (u : Tree). Some ([], u)) (sym e)
ending-is (t ∷ u ∷ ts) last le e =
    let same : length (t ∷ u ∷ ts) - 1 ≡ suc (length (u ∷ ts) - 1) = omega arith in
    let given : last ≡ get_or (u ∷ ts) (length (u ∷ ts) - 1) last = e ∙ ap (λ k. get_or (t ∷ u ∷ ts) k last) same in
    ap (and_front t) (ending-is (u ∷ ts) last (omega arith) given) ∙ ap (λ (us : List Tree). Some (us, last)) (sym (longer t (u ∷ ts) _ same))
