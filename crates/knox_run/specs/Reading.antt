-- What a shelf has kept after a command's texts were read one after another.
use Rattle.std.specs.Prelude.{◌≡◌, ℕ, ◌<◌, ◌≤◌, List, [], ◌++◌, length, map, take, slice_index_or, Err, ◌==◌, if◌then◌else◌}
use Rattle.std.specs.List.{All}
use Rattle.knox_edge.specs.declared.shelf.ShelfEnd.TheVariants as end
use Rattle.knox_run.specs.Words.{Bytes, Named, Reads, limit, ShelfEnd, Asks, CountsFault, TookTooMuch, Letter, C, S, D, E, H, F, P}
use Rattle.knox_run.specs.Words.{TooLong, Command, Sat, Check, Outcome, Unread, Text, Memory, OfDevice}

-- no text is over the limit
abbrev pub Within : List Bytes → Type 0
Within ts = All (λ t. length t ≤ limit) ts

-- the bytes of some texts
abbrev pub texts_of : List Named → List Bytes
texts_of es = map (λ e. e.1) es

-- the names were asked in order, and each read gave a text
pub record ReadWhole (names : List Bytes) (before after : Reads) : Type 0 where
  pub entries : List Named
  pub asked : after.names ≡ before.names ++ names
  pub given : after.given ≡ before.given ++ entries
  pub named : map (λ e. e.0) entries ≡ names
  pub within : Within (texts_of entries)
  pub faults : after.faults ≡ before.faults

-- a read of this name was refused so
pub record Refuses (name : Bytes) (end : ShelfEnd) (before after : Reads) : Type 0 where
  pub asked : Asks name (Err end) before.names after.names
  pub given : after.given ≡ before.given
  pub faults : CountsFault (Err end) before.faults after.faults
  pub taken : TookTooMuch (Err end) after.taken

-- the reads of the names before one gave texts, and that one was refused so
pub record ReadUpTo (names : List Bytes) (which : ℕ) (end : ShelfEnd) (before after : Reads) : Type 0 where
  pub inside : which < length names
  pub between : Reads
  pub whole : ReadWhole (take which names) before between
  pub refused : Refuses (slice_index_or names which []) end between after

-- the letter of a command's text, by its place: C S D E H, or F P, or F
abbrev pub letter_of : Command → ℕ → Letter
letter_of (Sat budget) which = F
letter_of Check which = if which == 0 then F else P
letter_of _ which = if which == 0 then C else (if which == 1 then S else (if which == 2 then D else (if which == 3 then E else H)))

-- the outcome of reads of which one was refused
abbrev pub RefusesRead : Command → List Bytes → Reads → Reads → Outcome → Type 0
RefusesRead command names before after (Unread which) = ReadUpTo names which end.Failed before after
RefusesRead command names before after (Text letter (OfDevice TooLong)) =
    (which : ℕ) × (letter ≡ letter_of command which) × ReadUpTo names which end.TooLong before after
RefusesRead command names before after Memory = (which : ℕ) × ReadUpTo names which end.Memory before after
RefusesRead command names before after _ = ⊥

-- the names were asked in order, each read gave a text, and this is said of the texts
abbrev pub OfTexts : (List Bytes → Type 0) → List Bytes → Reads → Reads → Type 0
OfTexts said names before after = (whole : ReadWhole names before after) × said (texts_of whole.entries)
