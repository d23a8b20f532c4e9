use Rattle.std.proofs.Common.{◌≡◌, ◌<◌, ◌+◌, length, take}
use Rattle.knox_run.specs.Words.{bytes_of}
use Rattle.knox_run.specs.Reading.{ReadWhole}
use Rattle.knox_run.proofs.reading.read_texts.Given as goal

abbrev pub invariant-loop-which : goal.invariant-loop-which
invariant-loop-which g l =
    let now = g.F.Shelf.history l.shelf in
    ReadWhole (take l.which (bytes_of l.names)) (g.F.Shelf.history l.fn.shelf) now × (0 < l.which → l.last + 1 ≡ length now.given)
