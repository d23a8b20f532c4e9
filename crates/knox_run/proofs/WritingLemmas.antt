-- Texts that are put line by line, and on two sinks.
use Rattle.std.proofs.Common.{◌≡◌, ◌∙◌, ℕ, List, [], ◌++◌, length, Option, None, Some, append-nil, rules, take, drop, refl, ap, sym, subst, append_assoc, Result, Ok, Err}
use Rattle.std.proofs.lemmas.List.{take-append-drop, nil_from_length}
use Rattle.knox_edge.proofs.Known.{Appends-append}
use Rattle.knox_run.specs.declared.status.Status.TheVariants.{WriteFault, Memory}
use Rattle.knox_run.specs.Words.{Bytes, Sunk, Appends, Rose, Status}
use Rattle.knox_run.specs.Writing.{Cut, Whole, Puts, Delivers}

-- a prefix of a line is one of the text
pub Cut-taken : (old new : Sunk) (text line rest : Bytes) (n : ℕ) → text ≡ line ++ rest → Appends old.written new.written (take n line) → Cut old new text
Cut-taken old new text line rest n is a =
    (take n line, drop n line ++ rest, is ∙ ap (λ z. z ++ rest) (sym (take-append-drop n line)) ∙ append_assoc (take n line) (drop n line) rest, a)

cut-next : (old mid new : Sunk) (text line rest : Bytes) → text ≡ line ++ rest → Whole old mid line → Cut mid new rest → Cut old new text
cut-next old mid new text line rest is w c =
    (line ++ c.0, c.1, is ∙ ap (λ z. line ++ z) c.2 ∙ sym (append_assoc line c.0 c.1), Appends-append old.written mid.written new.written line c.0 w.0 c.3)

-- a line, and then what stands behind it
pub puts-next : (r : Result (Unit {0}) Status) (old mid new : Sunk) (text line rest : Bytes) → text ≡ line ++ rest → Whole old mid line → Puts rest r mid new → Puts text r old new
puts-next (Ok _) old mid new text line rest is w p =
    (subst (Appends old.written new.written) (sym is) (Appends-append old.written mid.written new.written line rest w.0 p.0), p.1 ∙ w.1)
puts-next (Err WriteFault) old mid new text line rest is w p = (cut-next old mid new text line rest is w p.0, subst (λ n. Rose n new.faults) w.1 p.1)
puts-next (Err Memory) old mid new text line rest is w p = cut-next old mid new text line rest is w p
puts-next (Err _) old mid new text line rest is w p = absurd p

appends-nothing : (o : Option Bytes) → Appends o o []
appends-nothing None = tt
appends-nothing (Some xs) = sym (append-nil xs)

-- a text without bytes is written where nothing is put
pub whole-nothing : (old : Sunk) (text : Bytes) → length text ≡ 0 → Whole old old text
whole-nothing old text none = (subst (Appends old.written old.written) (sym (nil_from_length text none)) (appends-nothing old.written), refl)

-- no text is written where memory was wanting before
pub delivers-none : (wanted : Status) (o e : Sunk) (text other : Bytes) → Delivers text other wanted Memory o o e e
delivers-none wanted o e text other = search rules
