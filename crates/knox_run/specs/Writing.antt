-- How an answer reaches the sinks.
use Rattle.std.specs.Prelude.{◌≡◌, ◌++◌, ◌⊎◌, Result, Ok, Err}
use Rattle.knox_run.specs.declared.status.Status.TheVariants.{WriteFault, Memory}
use Rattle.knox_run.specs.Words.{Bytes, Sunk, Appends, Rose, Status}

-- where it is told, a text was appended, and no fault was counted
abbrev pub Whole : Sunk → Sunk → Bytes → Type 0
Whole old new text = Appends old.written new.written text × (new.faults ≡ old.faults)

-- where it is told, a prefix of a text was appended
abbrev pub Cut : Sunk → Sunk → Bytes → Type 0
Cut old new text = (kept : Bytes) × (rest : Bytes) × (text ≡ kept ++ rest) × Appends old.written new.written kept

-- a text was written, or not to its end, which has a status of its own: a put failed, which the sink counted, or memory was wanting
abbrev pub Puts : Bytes → Result (Unit {0}) Status → Sunk → Sunk → Type 0
Puts text (Ok _) old new = Whole old new text
Puts text (Err WriteFault) old new = Cut old new text × Rose old.faults new.faults
Puts text (Err Memory) old new = Cut old new text
Puts text (Err _) old new = ⊥

-- the status of the texts for `out` and `err`, where one of them was not written to its end
abbrev pub StopsBoth : Bytes → Bytes → Status → Sunk → Sunk → Sunk → Sunk → Type 0
StopsBoth out_text err_text WriteFault out out' err err' =
    Cut out out' out_text × Cut err err' err_text × (Rose out.faults out'.faults ⊎ Rose err.faults err'.faults)
StopsBoth out_text err_text Memory out out' err err' = Cut out out' out_text × Cut err err' err_text
StopsBoth out_text err_text _ out out' err err' = ⊥

-- the status of both: the one that was to come, or the one of a text that was not written to its end
abbrev pub Delivers : Bytes → Bytes → Status → Status → Sunk → Sunk → Sunk → Sunk → Type 0
Delivers out_text err_text wanted result out out' err err' =
    ((result ≡ wanted) × Whole out out' out_text × Whole err err' err_text) ⊎ StopsBoth out_text err_text result out out' err err'
