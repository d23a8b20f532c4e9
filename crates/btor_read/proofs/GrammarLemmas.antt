-- The symbol at the end of a line.
use Rattle.std.proofs.Common.{◌≡◌, ℕ, ◌==◌, Bool, true, false, List, [], ◌∷◌, length, Ok, Err, refl, sym, ◌∙◌, ap, arith, eqb-true}
use Rattle.circuit_table.specs.declared.fault.Why.TheVariants.{Operand}
use Rattle.btor_read.specs.Tokens.{Tokens}
use Rattle.btor_read.specs.Grammar.{symbol_of}

pub not-none : (t : List ℕ) (ts : Tokens) → (length (t ∷ ts) == 0) ≡ true → ⊥
not-none t ts h = let e : length (t ∷ ts) ≡ 0 = eqb-true _ _ h in omega (arith, e)

pub symbol-one : (all : Tokens) (t : List ℕ) (ts : Tokens) (b : Bool) → all ≡ t ∷ ts → b ≡ (length ts == 0) → b ≡ true → symbol_of all ≡ Ok t
symbol-one [] t ts b e h q = cc
symbol-one (u ∷ []) t ts b e h q = let is : u ≡ t = cc in ap (λ (z : List ℕ). Ok z) is
symbol-one (u ∷ v ∷ us) t [] b e h q = cc
symbol-one (u ∷ v ∷ us) t (w ∷ ts) b e h q = absurd (not-none w ts (sym h ∙ q))

pub symbol-many : (all : Tokens) (t : List ℕ) (ts : Tokens) (b : Bool) → all ≡ t ∷ ts → b ≡ (length ts == 0) → b ≡ false → symbol_of all ≡ Err Operand
symbol-many [] t ts b e h q = cc
symbol-many (u ∷ []) t [] b e h q = cc
symbol-many (u ∷ []) t (w ∷ ts) b e h q = cc
symbol-many (u ∷ v ∷ us) t ts b e h q = refl

pub ruleset symbol_steps = (symbol-one, symbol-many)
