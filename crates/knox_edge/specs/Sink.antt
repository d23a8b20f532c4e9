-- What a put into a sink may answer, and what it leaves.
use Rattle.std.specs.Prelude.{◌≡◌, ℕ, List, [], ◌∷◌, take, Option, Some, None, Result, Ok, Err, if◌then◌else◌, ◌⊎◌}
use Rattle.std.specs.Io.KnownBytes.{Appends, Keeps}
use Rattle.knox_edge.specs.declared.sink.SinkEnd.{SinkEnd, TheVariants.Failed, TheVariants.Memory}
use Rattle.knox_edge.specs.{Counts.Rose, Counts.next_count, Texts.Bytes, Shelf.is_in}

-- which puts fail, by their numbers from 1, and how many puts were counted
pub record Failing : Type 0 where
  pub numbers : List ℕ
  pub counted : ℕ

-- what a sink tells: the bytes that were written, where they are told; how many puts have failed; and, where it is told, which puts fail,
-- and how many bytes are kept of a piece whose put fails
pub record Sunk : Type 0 where
  pub written : Option Bytes
  pub faults : ℕ
  pub fails : Option Failing
  pub keeps : Option ℕ

-- a put's answer
abbrev pub Put : Type 0
Put = Result (Unit {0}) SinkEnd

-- where it is told what is written: a piece is appended, or a prefix of it where the put failed, or nothing
abbrev pub Writes : Bytes → Put → Option Bytes → Option Bytes → Type 0
Writes piece (Ok _) old new = Appends old new piece
Writes piece (Err Failed) old new = (n : ℕ) × Appends old new (take n piece)
Writes piece (Err Memory) old new = Keeps old new

-- where it is told: a put that fails keeps the first bytes of its piece, this many or all
abbrev pub KeepsFirst : ℕ → Bytes → Put → Option Bytes → Option Bytes → Type 0
KeepsFirst kept piece (Err Failed) old new = Appends old new (take kept piece)
KeepsFirst kept piece _ old new = Unit {0}

-- the count of faults rises where a put failed, and else stays
abbrev pub CountsFault : Put → ℕ → ℕ → Type 0
CountsFault (Err Failed) before now = Rose before now
CountsFault _ before now = now ≡ before

-- where it is told: every put of a piece with bytes is counted, and fails exactly where its number is one of those that fail, but for want of memory
abbrev pub Counted : Bytes → Put → Failing → Failing → Type 0
Counted [] r old new = new ≡ old
Counted (b ∷ bs) r old new =
    (new ≡ record old { counted = next_count old.counted }) × ((r ≡ Err Memory) ⊎ (r ≡ (if is_in old.numbers (next_count old.counted) then Err Failed else Ok tt)))

-- the same at what may not be told, which stays so
abbrev pub CountedWhereTold : Bytes → Put → Option Failing → Option Failing → Type 0
CountedWhereTold piece r (Some old) (Some new) = Counted piece r old new
CountedWhereTold piece r None None = Unit {0}
CountedWhereTold piece r old new = ⊥
