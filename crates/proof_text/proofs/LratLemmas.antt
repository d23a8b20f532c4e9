-- One number after another, and one line after another.
use Rattle.std.proofs.Common.{◌≡◌, ℕ, List, [], ◌∷◌, ◌++◌, refl, sym, ◌∙◌, ap, append_assoc, Option, Some, None, Result, Ok, Err}
use Rattle.std.proofs.lemmas.List.{append-nil}
use Rattle.proof_text.specs.declared.fault.ProofFault.{ProofFault}
use Rattle.proof_text.specs.declared.fault.ProofFault.TheVariants.{Shape}
use Rattle.proof_text.specs.declared.proof_line.ProofLine.{ProofLine}
use Rattle.knox_text.specs.Tokens.{Token, token, tokens, place_of}
use Rattle.proof_text.specs.Results.{and_then}
use Rattle.proof_text.specs.Lrat.{number_then, numbers}

-- ---- numbers: those that were read, before what is left gives

abbrev pub front : {A : Type 0} → List A → Result (List A × List Token) ProofFault → Result (List A × List Token) ProofFault
front xs r = and_then r (λ p. Ok (xs ++ p.0, p.1))

pub front-none : {A : Type 0} (r : Result (List A × List Token) ProofFault) → r ≡ front [] r
front-none (Ok p) = refl
front-none (Err f) = refl

front-push : {A : Type 0} (xs : List A) (x : A) (r : Result (List A × List Token) ProofFault) → front xs (and_then r (λ p. Ok (x ∷ p.0, p.1))) ≡ front (xs ++ x ∷ []) r
front-push xs x (Ok p) = ap (λ l. Ok (l, p.1)) (sym (append_assoc xs (x ∷ []) p.0))
front-push xs x (Err f) = refl

step : {A : Type 0} (read : List ℕ → Option (Option A)) (n width : ℕ) (xs : List A) (left : ℕ) (bytes line rest : List ℕ) (o : Option (Option A)) → tokens line ≡ token left bytes ∷ tokens rest → o ≡ read bytes → front xs (numbers read n width (tokens line)) ≡ front xs (number_then o (place_of n width left) (tokens rest) (numbers read n width (tokens rest)))
step read n width xs left bytes line rest o w h =
    ap (λ ws. front xs (numbers read n width ws)) w
    ∙ ap (λ k. front xs (number_then k (place_of n width left) (tokens rest) (numbers read n width (tokens rest)))) (sym h)

pub numbers-more : {A : Type 0} (read : List ℕ → Option (Option A)) (n width : ℕ) (xs : List A) (left : ℕ) (bytes line rest : List ℕ) (x : A) → tokens line ≡ token left bytes ∷ tokens rest → Some (Some x) ≡ read bytes → front xs (numbers read n width (tokens line)) ≡ front (xs ++ x ∷ []) (numbers read n width (tokens rest))
numbers-more read n width xs left bytes line rest x w h =
    step read n width xs left bytes line rest (Some (Some x)) w h ∙ front-push xs x (numbers read n width (tokens rest))

pub numbers-end : {A : Type 0} (read : List ℕ → Option (Option A)) (n width : ℕ) (xs : List A) (left : ℕ) (bytes line rest : List ℕ) → tokens line ≡ token left bytes ∷ tokens rest → Some None ≡ read bytes → front xs (numbers read n width (tokens line)) ≡ Ok (xs, tokens rest)
numbers-end read n width xs left bytes line rest w h =
    step read n width xs left bytes line rest (Some None) w h ∙ ap (λ l. Ok (l, tokens rest)) (append-nil xs)

pub numbers-refused : {A : Type 0} (read : List ℕ → Option (Option A)) (n width : ℕ) (xs : List A) (left : ℕ) (bytes line rest : List ℕ) → tokens line ≡ token left bytes ∷ tokens rest → None ≡ read bytes → front xs (numbers read n width (tokens line)) ≡ Err (Shape (place_of n width left))
numbers-refused read n width xs left bytes line rest w h = step read n width xs left bytes line rest None w h

pub numbers-missing : {A : Type 0} (read : List ℕ → Option (Option A)) (n width : ℕ) (xs : List A) (ws : List Token) → ws ≡ [] → front xs (numbers read n width ws) ≡ Err (Shape (place_of n width 0))
numbers-missing read n width xs [] e = refl
numbers-missing read n width xs (w ∷ ws) e = cc

-- ---- lines

abbrev pub after : List ProofLine → Result (List ProofLine) ProofFault → Result (List ProofLine) ProofFault
after xs r = and_then r (λ es. Ok (xs ++ es))

pub after-none : (r : Result (List ProofLine) ProofFault) → r ≡ after [] r
after-none (Ok es) = refl
after-none (Err f) = refl

after-push : (xs more : List ProofLine) (r : Result (List ProofLine) ProofFault) → after xs (and_then r (λ es. Ok (more ++ es))) ≡ after (xs ++ more) r
after-push xs more (Ok es) = ap (λ l. Ok l) (sym (append_assoc xs more es))
after-push xs more (Err f) = refl
