-- One token after another, and one line after another.
use Rattle.std.proofs.Common.{◌≡◌, ℕ, ◌+◌, List, [], ◌∷◌, refl, sym, ◌∙◌, ap, subst, inl, inr, Result, Ok, Err}
use Rattle.knox_text.specs.Lines.{lines}
use Rattle.proof_text.specs.declared.fault.ProofFault.{ProofFault}
use Rattle.proof_text.specs.declared.draft.Draft.{Draft}
use Rattle.knox_text.specs.Tokens.{Token, token, tokens, place_of}
use Rattle.proof_text.specs.Results.{and_then}
use Rattle.proof_text.specs.Dimacs.{Takes, Gives, with_token, with_tokens, with_line, with_lines}

Gives-Ok : (new : Draft) (want : Result Draft ProofFault) → Gives (Ok tt) new want → want ≡ Ok new
Gives-Ok new (Ok d) g = ap (λ (x : Draft). Ok x) (sym g.1)
Gives-Ok new (Err f) g = cc

pub Takes-Ok : (r : Result (Unit {0}) ProofFault) (new : Draft) (want : Result Draft ProofFault) → Takes r new want → r ≡ Ok tt → want ≡ Ok new
Takes-Ok r new want (inl m) e = cc
Takes-Ok r new want (inr g) e = Gives-Ok new want (subst (λ (x : Result (Unit {0}) ProofFault). Gives x new want) e g)

Gives-Err : (f : ProofFault) (old new : Draft) (want : Result Draft ProofFault) (rest : Draft → Result Draft ProofFault) → Gives (Err f) old want → Gives (Err f) new (and_then want rest)
Gives-Err f old new (Ok d) rest g = let e = g.0 in cc
Gives-Err f old new (Err k) rest g = g

-- a refusal is that of the whole
pub Takes-Err : (r : Result (Unit {0}) ProofFault) (f : ProofFault) (old new : Draft) (want : Result Draft ProofFault) (rest : Draft → Result Draft ProofFault) → Takes r old want → r ≡ Err f → Takes (Err f) new (and_then want rest)
Takes-Err r f old new want rest (inl m) e = inl (sym e ∙ m)
Takes-Err r f old new want rest (inr g) e = inr (Gives-Err f old new want rest (subst (λ (x : Result (Unit {0}) ProofFault). Gives x old want) e g))

Takes-here : (d : Draft) → Takes (Ok tt) d (Ok d)
Takes-here d = inr (refl, refl)

-- ---- the tokens of a line

pub tokens-more : (d e : Draft) (n width left : ℕ) (bytes line rest : List ℕ) (r : Result (Unit {0}) ProofFault) → tokens line ≡ token left bytes ∷ tokens rest → Takes r e (with_token d (place_of n width left) bytes) → r ≡ Ok tt → with_tokens d n width (tokens line) ≡ with_tokens e n width (tokens rest)
tokens-more d e n width left bytes line rest r w t k =
    ap (with_tokens d n width) w ∙ ap (λ (x : Result Draft ProofFault). and_then x (λ z. with_tokens z n width (tokens rest))) (Takes-Ok r e (with_token d (place_of n width left) bytes) t k)

pub tokens-refused : (d e : Draft) (n width left : ℕ) (bytes line rest : List ℕ) (r : Result (Unit {0}) ProofFault) (f : ProofFault) → tokens line ≡ token left bytes ∷ tokens rest → Takes r e (with_token d (place_of n width left) bytes) → r ≡ Err f → Takes (Err f) e (with_tokens d n width (tokens line))
tokens-refused d e n width left bytes line rest r f w t k =
    subst (λ (ws : List Token). Takes (Err f) e (with_tokens d n width ws)) (sym w) (Takes-Err r f e e (with_token d (place_of n width left) bytes) (λ z. with_tokens z n width (tokens rest)) t k)

pub tokens-end : (d : Draft) (n width : ℕ) (ws : List Token) → ws ≡ [] → Takes (Ok tt) d (with_tokens d n width ws)
tokens-end d n width [] e = Takes-here d
tokens-end d n width (w ∷ ws) e = cc

-- ---- the lines of a text

pub lines-more : (d e : Draft) (n : ℕ) (line text rest : List ℕ) (r : Result (Unit {0}) ProofFault) → lines text ≡ line ∷ lines rest → Takes r e (with_line d n line) → r ≡ Ok tt → with_lines d n (lines text) ≡ with_lines e (n + 1) (lines rest)
lines-more d e n line text rest r w t k =
    ap (with_lines d n) w ∙ ap (λ (x : Result Draft ProofFault). and_then x (λ z. with_lines z (n + 1) (lines rest))) (Takes-Ok r e (with_line d n line) t k)

pub lines-refused : (d e : Draft) (n : ℕ) (line text rest : List ℕ) (r : Result (Unit {0}) ProofFault) (f : ProofFault) → lines text ≡ line ∷ lines rest → Takes r e (with_line d n line) → r ≡ Err f → Takes (Err f) e (with_lines d n (lines text))
lines-refused d e n line text rest r f w t k =
    subst (λ (ls : List (List ℕ)). Takes (Err f) e (with_lines d n ls)) (sym w) (Takes-Err r f e e (with_line d n line) (λ z. with_lines z (n + 1) (lines rest)) t k)

pub lines-end : (d : Draft) (n : ℕ) (text : List ℕ) → text ≡ [] → Takes (Ok tt) d (with_lines d n (lines text))
lines-end d n [] e = Takes-here d
lines-end d n (b ∷ text) e = cc
