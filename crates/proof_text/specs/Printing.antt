-- What formulas and proofs are printed as: a clause or a line of a proof on a line of its own, with single
-- spaces and numbers without zeros in front. A deletion is printed with the id 0.
use Rattle.std.specs.Prelude.{◌+◌, ℕ, List, [], ◌∷◌, ◌++◌, flat_map, length, codes, ℤ, pos, negsuc, unsigned_abs}
use Rattle.std.specs.Fmt.{decimal}
use Rattle.knox_cnf.specs.Literals.{Literal, number_of}
use Rattle.knox_cnf.specs.declared.formula.Cnf.{Cnf}
use Rattle.proof_text.specs.declared.proof_line.ProofLine.{ProofLine}
use Rattle.proof_text.specs.declared.proof_line.ProofLine.TheVariants.{Add, Delete}

-- the minus of a number below 0
abbrev pub sign_shown : ℤ → List ℕ
sign_shown (pos n) = []
sign_shown (negsuc n) = 45 ∷ []

-- a number and a space
abbrev pub natural_shown : ℕ → List ℕ
natural_shown n = decimal n ++ 32 ∷ []

abbrev pub signed_shown : ℤ → List ℕ
signed_shown z = sign_shown z ++ natural_shown (unsigned_abs z)

abbrev pub literal_shown : Literal → List ℕ
literal_shown l = signed_shown (number_of l)

-- the 0 that ends a line
abbrev pub end_of_line : List ℕ
end_of_line = 48 ∷ 10 ∷ []

abbrev pub clause_shown : List Literal → List ℕ
clause_shown c = flat_map literal_shown c ++ end_of_line

abbrev pub header_shown : ℕ → ℕ → List ℕ
header_shown vars count = codes "p cnf " ++ (natural_shown vars ++ (decimal count ++ 10 ∷ []))

abbrev pub cnf_shown : Cnf → List ℕ
cnf_shown f = header_shown f.vars (length f.clauses) ++ flat_map clause_shown f.clauses

abbrev pub line_shown : ProofLine → List ℕ
line_shown (Add n id lits hints) = natural_shown id ++ (flat_map literal_shown lits ++ ((48 ∷ 32 ∷ []) ++ (flat_map signed_shown hints ++ end_of_line)))
line_shown (Delete n ids) = codes "0 d " ++ (flat_map natural_shown ids ++ end_of_line)

abbrev pub lrat_shown : List ProofLine → List ℕ
lrat_shown ls = flat_map line_shown ls

-- a line with another number, and lines with numbers from a first one on
abbrev pub numbered : ℕ → ProofLine → ProofLine
numbered n (Add m id lits hints) = Add n id lits hints
numbered n (Delete m ids) = Delete n ids

abbrev pub renumbered : ℕ → List ProofLine → List ProofLine
renumbered n [] = []
renumbered n (l ∷ ls) = numbered n l ∷ renumbered (n + 1) ls
