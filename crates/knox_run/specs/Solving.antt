-- What solving a formula comes to, and what is printed of it. Standard: the lines of solvers in DIMACS, and LRAT.
use Rattle.std.specs.Prelude.{◌≡◌, ℕ, ◌+◌, ◌<◌, ◌^◌, Bool, true, false, List, [], ◌∷◌, ◌++◌, length, codes, Result, Ok, Err}
use Rattle.std.specs.List.{flat_map}
use Rattle.std.specs.Fmt.{decimal}
use Rattle.sat_core.specs.declared.answering.Solved.{Solved as Answer}
use Rattle.sat_core.specs.declared.answering.Solved.TheVariants as solved
use Rattle.knox_run.specs.Words.{Bytes, Cnf, cnf_of, Add, Proof, Lemma, line_shown, LemmasFollow, IsUnsatisfiable, Answers, Letter, F, Outcome, Text, Solved, Memory, OfProof}

-- ---- lines

-- a variable, with a minus where its value is false
abbrev pub spaced_value : ℕ → Bool → Bytes
spaced_value v true = codes " " ++ decimal v
spaced_value v false = codes " -" ++ decimal v

-- the values of the variables from one on
abbrev pub values_from : ℕ → List Bool → Bytes
values_from v [] = []
values_from v (b ∷ bs) = spaced_value v b ++ values_from (v + 1) bs

abbrev pub model_lines : List Bool → Bytes
model_lines bs = (codes "sat\nv" ++ values_from 1 bs) ++ codes " 0\n"

-- a lemma as the line of a proof that adds it
abbrev pub lemma_shown : Lemma → Bytes
lemma_shown m = line_shown (Add 0 m.id m.lits m.hints)

abbrev pub refuted_lines : List Lemma → Bytes
refuted_lines ms = codes "c unsat\n" ++ flat_map lemma_shown ms

abbrev pub spent_line : ℕ → Bytes
spent_line count = codes "spent " ++ (decimal count ++ codes "\n")

-- values, a refutation, or how many lemmas were spent
abbrev pub solved_lines : Answer → Bytes
solved_lines (solved.Sat a) = model_lines a.values
solved_lines (solved.Unsat d) = refuted_lines d.lemmas
solved_lines (solved.Spent d) = spent_line (length d.lemmas)

-- ---- a text

-- What an answer's derivation shows: its lemmas follow from its formula, which has no model where it is refuted; and a budget is spent only below the
-- number of sets of literals without a complementary pair.
abbrev pub ShowsOf : ℕ → Answer → Type 0
ShowsOf budget (solved.Sat a) = Unit {0}
ShowsOf budget (solved.Unsat d) = LemmasFollow d × IsUnsatisfiable d
ShowsOf budget (solved.Spent d) = LemmasFollow d × (budget < 3 ^ d.cnf.vars)

-- the text means a formula, and this answers it: values under which it is true, a closed derivation from it, or as many new lemmas as the budget allows
pub record IsSolved (budget : ℕ) (f : Bytes) (answer : Answer) : Type 0 where
  pub formula : Cnf
  pub meant : cnf_of f ≡ Ok formula
  pub answers : Answers formula budget answer
  pub shows : ShowsOf budget answer

-- what the outcome of solving says of its text
abbrev pub SolvesTo : ℕ → Outcome → Bytes → Type 0
SolvesTo budget (Solved answer) f = IsSolved budget f answer
SolvesTo budget (Text letter (OfProof why)) f = (letter ≡ F) × (cnf_of f ≡ Err why)
SolvesTo budget Memory f = Unit {0}
SolvesTo budget _ f = ⊥

-- the same of a list of one text
abbrev pub SolvesTexts : ℕ → Outcome → List Bytes → Type 0
SolvesTexts budget o ts = (f : Bytes) × (ts ≡ f ∷ []) × SolvesTo budget o f
