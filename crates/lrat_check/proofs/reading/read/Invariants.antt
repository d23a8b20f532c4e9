use Rattle.std.proofs.Common.{◌≡◌, ◌++◌, drop}
use Rattle.std.specs.Option.{option_to_list}
use Rattle.lrat_check.specs.Reading.{reading_of, reading_of_open, open_literals}
use Rattle.lrat_check.proofs.reading.read.Given as goal

-- the literal that is left so far, and those that will be left
abbrev pub invariant-loop-lit : goal.invariant-loop-lit
invariant-loop-lit l =
    reading_of l.marks l.lits ≡ reading_of_open (option_to_list l.only ++ open_literals l.marks (drop l.lit-index l.lits))
