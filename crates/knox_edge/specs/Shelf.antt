-- What a read of a shelf may answer, and what it leaves.
use Rattle.std.specs.Prelude.{◌≡◌, ℕ, ◌+◌, ◌≤◌, List, [], ◌∷◌, ◌++◌, length, Option, Some, None, Result, Ok, Err, Bool, if◌then◌else◌, nat_lt, ◌==◌, ◌⊎◌, MatchResult}
use Rattle.std.specs.{Str.bytes_eq, List.list_any}
use Rattle.knox_edge.specs.declared.shelf.ShelfEnd.{ShelfEnd, TheVariants.Failed, TheVariants.TooLong, TheVariants.Memory}
use Rattle.knox_edge.specs.{Counts.Rose, Texts.Bytes, Texts.Named, Texts.limit}

-- what a shelf holds, and which of its reads fail, by their numbers from 1
pub record Holding : Type 0 where
  pub entries : List Named
  pub failing : List ℕ

-- whether a number is in a list
abbrev pub is_in : List ℕ → ℕ → Bool
is_in ks n = list_any (λ k. k == n) ks

-- the bytes of the first entry with this name
abbrev pub entry_of : List Named → Bytes → Option Bytes
entry_of [] name = None
entry_of (e ∷ es) name = if bytes_eq e.0 name then Some e.1 else entry_of es name

-- a name that isn't held fails, and a text over the limit is too long
abbrev pub within_limit : Option Bytes → Result Bytes ShelfEnd
within_limit None = Err Failed
within_limit (Some bytes) = if nat_lt limit (length bytes) then Err TooLong else Ok bytes

-- what the read with this number, of this name, answers
abbrev pub answer_of : Holding → ℕ → Bytes → Result Bytes ShelfEnd
answer_of h number name = if is_in h.failing number then Err Failed else within_limit (entry_of h.entries name)

-- a read's answer is the one of what is held, but for want of memory
abbrev pub AnswersAs : Result Bytes ShelfEnd → Bytes → Result ℕ ShelfEnd → List Named → List Named → Type 0
AnswersAs told name (Ok place) old new = MatchResult told (λ bytes. new ≡ old ++ (name, bytes) ∷ []) (λ _. ⊥)
AnswersAs told name (Err Memory) old new = Unit {0}
AnswersAs told name (Err end) old new = told ≡ Err end

-- a read that succeeds appends the name and the bytes that it took, no more than the limit, and answers their place;
-- one that is refused leaves what was given
abbrev pub Gives : Bytes → Result ℕ ShelfEnd → ℕ → List Named → List Named → Type 0
Gives name (Ok place) taken old new =
    (bytes : Bytes) × (new ≡ old ++ (name, bytes) ∷ []) × (place ≡ length old) × (taken ≡ length bytes) × (taken ≤ limit)
Gives name (Err end) taken old new = new ≡ old

-- the name joins those that were asked; want of memory may leave it out
abbrev pub Asks : Bytes → Result ℕ ShelfEnd → List Bytes → List Bytes → Type 0
Asks name (Err Memory) old new = (new ≡ old) ⊎ (new ≡ old ++ name ∷ [])
Asks name _ old new = new ≡ old ++ name ∷ []

-- the count of faults rises where a read failed, and else stays
abbrev pub CountsFault : Result ℕ ShelfEnd → ℕ → ℕ → Type 0
CountsFault (Err Failed) before now = Rose before now
CountsFault _ before now = now ≡ before

-- a text is too long only where one byte more than the limit was taken
abbrev pub TookTooMuch : Result ℕ ShelfEnd → ℕ → Type 0
TookTooMuch (Err TooLong) taken = taken ≡ limit + 1
TookTooMuch _ taken = Unit {0}
