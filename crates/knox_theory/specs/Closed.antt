-- When choices falsify a hint, and when a script is closed: no choices falsify any hint.
-- The project's own. `Closed` is the one premise of the theorem that a search has to show; the others are on the design and on the script's form.
-- Nobody has to believe it for a yes. Who is told of an undecided hint must believe `Falsifies`.
use Rattle.std.specs.Prelude.{◌≡◌, ℕ, ◌<◌, ◌==◌, Option, Some, None, ◌⊎◌, List, [], ◌∷◌, ◌++◌, Bool, true, false, if◌then◌else◌}
use Rattle.knox_words.specs.Lists.{Words, fit}
use Rattle.knox_theory.specs.Design.{Design}
use Rattle.knox_theory.specs.Course.{Failed, run}
use Rattle.knox_theory.specs.Script.{Script}
use Rattle.knox_theory.specs.Segments.{Segment, segments}

-- this segment is on the list
abbrev pub IsAmong : Segment → List Segment → Type 0
IsAmong g [] = ⊥
IsAmong g (x ∷ xs) = (g ≡ x) ⊎ IsAmong g xs

-- The run of some segment over these choices fails at hint h. Where all hints differ, it is the segment of h.
pub record Falsifies {P : Type 0} (d : Design P) (s : Script P) (h : ℕ) (cs : Words) : Type 0 where
  pub segment : Segment
  pub listed : IsAmong segment (segments d s)
  pub fails : run segment.course cs ≡ Failed h

pub record Closed {P : Type 0} (d : Design P) (s : Script P) : Type 0 where
  pub never : (h : ℕ) (cs : Words) → Falsifies d s h cs → ⊥

-- no choices falsify a hint of a segment whose own number is below n
pub record ClosedBelow {P : Type 0} (d : Design P) (s : Script P) (n : ℕ) : Type 0 where
  pub never : (h : ℕ) (cs : Words) (f : Falsifies d s h cs) → f.segment.hint < n → ⊥

-- `refine` holds as the device leaves the factory: what a script without the section `factory` doesn't check
abbrev pub StartsRefined : {P : Type 0} → Design P → Script P → Type 0
StartsRefined d s =
    (noise : Words) → fit d.device.factory_noise noise ≡ true → s.refine d.device.initial (d.device.persistent_of (d.device.factory noise)) d.device.first_kept ≡ true

-- whether a hint is one of these
abbrev pub is_hint_of : ℕ → List ℕ → Bool
is_hint_of h [] = false
is_hint_of h (k ∷ ks) = if h == k then true else is_hint_of h ks

-- the hints of all these segments
abbrev pub all_hints : List Segment → List ℕ
all_hints [] = []
all_hints (g ∷ gs) = g.hints ++ all_hints gs

-- whether no number is there twice
abbrev pub all_differ : List ℕ → Bool
all_differ [] = true
all_differ (h ∷ hs) = if is_hint_of h hs then false else all_differ hs

-- the first of these segments that has this hint; where all hints differ, it is the one whose runs can fail at it
abbrev pub segment_of : ℕ → List Segment → Option Segment
segment_of h [] = None
segment_of h (g ∷ gs) = if is_hint_of h g.hints then Some g else segment_of h gs
