-- What the words after a program's name mean: commands, their limits, and the names of their texts.
use Rattle.std.specs.Prelude.{ℕ, ◌≡◌, ◌≤◌, List, [], ◌∷◌, Option, Some, None, codes, if◌then◌else◌, nat_le, ◌==◌, length, drop, ◌&&◌}
use Rattle.std.specs.Option.{option_map, option_and_then}
use Rattle.std.specs.Str.{bytes_eq}
use Rattle.knox_text.specs.Numbers.{natural}
use Rattle.knox_run.specs.Words.{Bytes, Command, Verify, Replay, Prove, Sat, Check, Selftest}

-- the number from 1 to a limit that a word of decimal digits stands for; leading zeros are allowed
abbrev pub limited : ℕ → Bytes → Option ℕ
limited most word = option_and_then (λ n. if nat_le 1 n && nat_le n most then Some n else None) (natural word)

-- a limit, and the words behind it: the number behind its key where the words begin with that, else its default
abbrev pub limit_after : Bytes → ℕ → ℕ → List Bytes → Option (ℕ × List Bytes)
limit_after key default most (w ∷ n ∷ ws) = if bytes_eq w key then option_map (λ k. (k, ws)) (limited most n) else Some (default, w ∷ n ∷ ws)
limit_after key default most ws = Some (default, ws)

-- how many lemmas an obligation may take, and how many branch words a call section may have
abbrev pub budget_after : List Bytes → Option (ℕ × List Bytes)
budget_after ws = limit_after (codes "budget") 1000000 4294967296 ws

abbrev pub paths_after : List Bytes → Option (ℕ × List Bytes)
paths_after ws = limit_after (codes "paths") 4096 65536 ws

-- a value, where no word is left
abbrev pub ending : {A : Type 0} → A → List Bytes → Option A
ending x [] = Some x
ending x (w ∷ ws) = None

-- C S D E H, and then the budget and the paths
abbrev pub verify_with : List Bytes → Option Command
verify_with ws = option_and_then (λ b. option_and_then (λ p. ending (Verify b.0 p.0) p.1) (paths_after b.1)) (budget_after ws)

abbrev pub verify_of : List Bytes → Option Command
verify_of ws = if nat_le 5 (length ws) then verify_with (drop 5 ws) else None

-- F, and then the budget
abbrev pub budgeted : List Bytes → Option ℕ
budgeted (f ∷ ws) = option_and_then (λ b. ending b.0 b.1) (budget_after ws)
budgeted [] = None

-- how many slots a generated device has
abbrev pub slots_of : List Bytes → Option ℕ
slots_of (n ∷ ws) = option_and_then (λ slots. ending slots ws) (limited 64 n)
slots_of [] = None

-- the command that some words are, where they are one: C S D E T stand behind a replay, and F P behind a check
abbrev pub command_of : List Bytes → Option Command
command_of [] = None
command_of (name ∷ ws) =
    if bytes_eq name (codes "verify") then verify_of ws
    else (if bytes_eq name (codes "replay") && (length ws == 5) then Some Replay
    else (if bytes_eq name (codes "prove") then option_map (λ b. Prove b) (budgeted ws)
    else (if bytes_eq name (codes "sat") then option_map (λ b. Sat b) (budgeted ws)
    else (if bytes_eq name (codes "check") && (length ws == 2) then Some Check
    else (if bytes_eq name (codes "selftest") then option_map (λ slots. Selftest slots) (slots_of ws)
    else None)))))

-- the words after a command's name are enough for its texts, and a formula's budget is no less than 1
abbrev pub HasTexts : Command → ℕ → Type 0
HasTexts (Verify budget paths) count = 5 ≤ count
HasTexts Check count = count ≡ 2
HasTexts (Sat budget) count = (1 ≤ count) × (1 ≤ budget)
HasTexts _ count = Unit {0}

-- how many names of texts stand behind a command's name at most
abbrev pub most_texts : Option Command → ℕ
most_texts (Some (Sat budget)) = 1
most_texts _ = 5
