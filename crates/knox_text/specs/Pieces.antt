-- How far lines, blanks and tokens go.
use Rattle.std.specs.Prelude.{ℕ, suc, ◌==◌, ◌&&◌, ◌||◌, Bool, false, if◌then◌else◌, List, [], ◌∷◌}
use Rattle.knox_text.specs.Lines.{begins_with}
use Rattle.knox_text.specs.Tokens.{is_blank}

-- whether a text begins with what ends a line
abbrev pub ends_line : List ℕ → Bool
ends_line [] = false
ends_line (b ∷ bytes) = b == 10 || (b == 13 && begins_with 10 bytes)

-- the length of the first line
abbrev pub line_length : List ℕ → ℕ
line_length [] = 0
line_length (b ∷ bytes) = if ends_line (b ∷ bytes) then 0 else suc (line_length bytes)

-- what stands behind a line feed
abbrev pub behind_feed : List ℕ → List ℕ
behind_feed [] = []
behind_feed (b ∷ bytes) = if b == 10 then bytes else b ∷ bytes

-- what stands behind the end of a line
abbrev pub behind_end : List ℕ → List ℕ
behind_end [] = []
behind_end (b ∷ bytes) = if b == 10 then bytes else behind_feed bytes

-- a line without the blanks at its front
abbrev pub skipped : List ℕ → List ℕ
skipped [] = []
skipped (b ∷ bytes) = if is_blank b then skipped bytes else b ∷ bytes

-- the length of the token at the front
abbrev pub token_length : List ℕ → ℕ
token_length [] = 0
token_length (b ∷ bytes) = if is_blank b then 0 else suc (token_length bytes)
