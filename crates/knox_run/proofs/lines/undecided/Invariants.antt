use Rattle.std.proofs.Common.{◌≡◌, ◌++◌, take, codes, string_bytes}
use Rattle.std.specs.List.{flat_map}
use Rattle.std.specs.Fmt.{decimal}
use Rattle.knox_run.specs.Lines.{spaced}
use Rattle.knox_run.proofs.lines.undecided.Given as goal

abbrev pub invariant-loop-word : goal.invariant-loop-word
invariant-loop-word l = string_bytes l.lines ≡ (codes "undecided " ++ (decimal l.fn.hint ++ codes "\nchoices")) ++ flat_map spaced (take l.word-index l.words)
