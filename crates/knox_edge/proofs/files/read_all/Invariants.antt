use Rattle.std.{proofs.Common.◌≤◌, proofs.Common.◌+◌, proofs.Common.◌-◌, proofs.Common.length, specs.Io.KnownBytes.Consumes}
use Rattle.knox_edge.specs.Texts.{limit}
use Rattle.knox_edge.proofs.files.read_all.Given as goal

abbrev pub invariant-taking : goal.invariant-taking
invariant-taking g l = (length l.bytes.items ≤ limit + 1) × Consumes (g.S.Read.remaining l.fn.source) (g.S.Read.remaining l.source) l.bytes.items

abbrev pub decreases-taking : goal.decreases-taking
decreases-taking g l = limit + 1 - length l.bytes.items
