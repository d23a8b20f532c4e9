use Rattle.std.proofs.Common.{rules, ◌≡◌, ℕ, length, ◌++◌, take, sym, Ok, Err}
use Rattle.std.proofs.lemmas.List.{take-append-drop}
use Rattle.knox_run.specs.declared.status.Status.TheVariants.{WriteFault, Memory}
use Rattle.knox_run.specs.Words.{Appends, Rose}
use Rattle.knox_run.specs.Writing.{Cut}
use Rattle.knox_run.proofs.WritingLemmas.{Cut-taken, puts-next, whole-nothing}
use Rattle.knox_run.proofs.answer.put_lines.Goals as goal

pub loop-left-preserved : goal.loop-left-preserved
loop-left-preserved g c =
    let parted : c.loop-left.left.now ≡ c.split_at.result.0.now ++ c.split_at.result.1.now = rw (c.split_at.ensures.front, c.split_at.ensures.back) (sym (take-append-drop c.line_length.result c.loop-left.left.now)) in
    λ r new p. c.loop-left.invariant r new (puts-next r _ (g.K.Sink.told c.put.new.self) new _ _ c.split_at.result.1.now parted (c.in-Ok.ensures.writes, c.in-Ok.ensures.faults) p)

pub returns-in-Err-Failed : goal.returns-in-Err-Failed
returns-in-Err-Failed g c =
    let parted : c.loop-left.left.now ≡ c.split_at.result.0.now ++ c.split_at.result.1.now = rw (c.split_at.ensures.front, c.split_at.ensures.back) (sym (take-append-drop c.line_length.result c.loop-left.left.now)) in
    let old = g.K.Sink.told c.loop-left.sink in
    let new = g.K.Sink.told c.put.new.self in
    let writes : (n : ℕ) × Appends old.written new.written (take n c.split_at.result.0.now) = rw c.in-Err-Failed.field-0-is at c.in-Err-Failed.ensures.writes in
    let faults : Rose old.faults new.faults = rw c.in-Err-Failed.field-0-is at c.in-Err-Failed.ensures.faults in
    c.loop-left.invariant (Err WriteFault) new (Cut-taken old new _ _ c.split_at.result.1.now writes.0 parted writes.1, faults)

pub returns-in-Err-Memory : goal.returns-in-Err-Memory
returns-in-Err-Memory g c =
    let old = g.K.Sink.told c.loop-left.sink in
    let new = g.K.Sink.told c.put.new.self in
    let written : Cut old new c.loop-left.left.now = search rules in
    c.loop-left.invariant (Err Memory) new written

pub returns : goal.returns
returns g c =
    let now = g.K.Sink.told c.loop-left.sink in
    let none : length c.loop-left.left.now ≡ 0 = search rules in
    c.loop-left.invariant (Ok tt) now (whole-nothing now _ none)
