-- What a verdict says of the parts that five texts mean.
-- What a yes says is `Agree (device p)` of knox_theory: with the meaning of the texts, it is what everybody must believe.
use Rattle.knox_verify.specs.declared.verdict.Verdict.{Verdict, TheVariants.Yes, TheVariants.Undecided, TheVariants.TooWide}
use Rattle.knox_verify.specs.Judgements.{Parts, AllHold, Undecides, IsTooWide}

-- what deciding the script says
abbrev pub Decides : Parts → Verdict → Type 0
Decides p Yes = AllHold p
Decides p (Undecided hint choices) = Undecides p hint.0 choices.words
Decides p (TooWide hint bits) = IsTooWide p hint.0 bits
