-- Tokens are cut off one by one, up to a comment.
use Rattle.std.proofs.Common.{◌≡◌, ℕ, true, false, List, [], ◌∷◌, ap, refl}
use Rattle.knox_text.specs.Lines.{begins_with}
use Rattle.knox_text.specs.Tokens.{token, tokens, bare_tokens}
use Rattle.knox_text.proofs.TokenLemmas.{bare-more, bare-none}
use Rattle.btor_read.specs.Tokens.{Tokens, uncommented, tokens_of}

uncommented-more : (all : Tokens) (t : List ℕ) (ts : Tokens) → all ≡ t ∷ ts → begins_with 59 t ≡ false → uncommented all ≡ t ∷ uncommented ts
uncommented-more [] t ts e h = cc
uncommented-more (u ∷ us) t ts e h = let a : u ≡ t = cc in let b : us ≡ ts = cc in rw (a, b, h) refl

uncommented-none : (all : Tokens) (t : List ℕ) (ts : Tokens) → all ≡ t ∷ ts → begins_with 59 t ≡ true → uncommented all ≡ []
uncommented-none [] t ts e h = cc
uncommented-none (u ∷ us) t ts e h = let a : u ≡ t = cc in rw (a, h) refl

pub token-next : (line rest bytes : List ℕ) (left : ℕ) → tokens line ≡ token left bytes ∷ tokens rest → begins_with 59 bytes ≡ false → tokens_of line ≡ bytes ∷ tokens_of rest
token-next line rest bytes left e h = uncommented-more (bare_tokens line) bytes (bare_tokens rest) (bare-more line rest bytes left e) h

pub token-comment : (line rest bytes : List ℕ) (left : ℕ) → tokens line ≡ token left bytes ∷ tokens rest → begins_with 59 bytes ≡ true → tokens_of line ≡ []
token-comment line rest bytes left e h = uncommented-none (bare_tokens line) bytes (bare_tokens rest) (bare-more line rest bytes left e) h

pub token-none : (line : List ℕ) → tokens line ≡ [] → tokens_of line ≡ []
token-none line e = ap uncommented (bare-none line e)

pub ruleset token_steps = (token-next, token-comment, token-none)
