-- The keywords of lines, and the words that are refused by name.
-- Standard: BTOR2 (Niemetz, Preiner, Wolf and Biere, CAV 2018).
-- The project's own: `constraint` and the operators for overflow are left out.
use Rattle.std.specs.Prelude.{ℕ, List, [], ◌∷◌, codes, Option, Some, None, Result, Ok, Err}
use Rattle.knox_words.specs.declared.op.Op1.{Op1}
use Rattle.knox_words.specs.declared.op.Op2.{Op2}
use Rattle.operator_names.specs.Names.{named, op1_named, op2_named}
use Rattle.circuit_table.specs.declared.fault.Why.{Why}
use Rattle.circuit_table.specs.declared.fault.Why.TheVariants as why
use Rattle.btor_read.specs.declared.keyword.Keyword.{Keyword}
use Rattle.btor_read.specs.declared.keyword.Keyword.TheVariants as key

-- the keywords but the plain operators, and the words that are refused by name
abbrev pub keywords : List (List ℕ × Result Keyword Why)
keywords =
    (codes "sort", Ok key.Sort) ∷ (codes "input", Ok key.Input) ∷ (codes "state", Ok key.State)
    ∷ (codes "init", Ok key.Init) ∷ (codes "next", Ok key.Next) ∷ (codes "output", Ok key.Output)
    ∷ (codes "bad", Ok key.Bad) ∷ (codes "fair", Ok key.Fair) ∷ (codes "justice", Ok key.Justice)
    ∷ (codes "const", Ok key.Const) ∷ (codes "constd", Ok key.Constd) ∷ (codes "consth", Ok key.Consth)
    ∷ (codes "zero", Ok key.Zero) ∷ (codes "one", Ok key.One) ∷ (codes "ones", Ok key.Ones)
    ∷ (codes "slice", Ok key.Slice) ∷ (codes "uext", Ok key.Uext) ∷ (codes "sext", Ok key.Sext)
    ∷ (codes "ite", Ok key.Ite) ∷ (codes "read", Ok key.Read) ∷ (codes "write", Ok key.Write)
    ∷ (codes "constraint", Err why.Constraint)
    ∷ (codes "saddo", Err why.Unsupported) ∷ (codes "uaddo", Err why.Unsupported)
    ∷ (codes "sdivo", Err why.Unsupported) ∷ (codes "udivo", Err why.Unsupported)
    ∷ (codes "smulo", Err why.Unsupported) ∷ (codes "umulo", Err why.Unsupported)
    ∷ (codes "ssubo", Err why.Unsupported) ∷ (codes "usubo", Err why.Unsupported) ∷ []

abbrev pub operator : Option Op1 → Option Op2 → Result Keyword Why
operator (Some o) p = Ok (key.Un o)
operator None (Some o) = Ok (key.Bin o)
operator None None = Err why.Keyword

abbrev pub or_operator : List ℕ → Option (Result Keyword Why) → Result Keyword Why
or_operator word (Some k) = k
or_operator word None = operator (op1_named word) (op2_named word)

-- the keyword that a word is, or the rule that it breaks
abbrev pub keyword : List ℕ → Result Keyword Why
keyword word = or_operator word (named keywords word)
