-- The form of scripts as the code tests it, and the numbers that it counts. The project's own; no public clause cites it.
use Rattle.std.specs.Prelude.{ℕ, ◌+◌, ◌-◌, nat_le, ◌&&◌, not, List, [], ◌∷◌, Bool, true, false, if◌then◌else◌}
use Rattle.script_core.specs.declared.parts.Kind.{Kind}
use Rattle.script_core.specs.declared.parts.Item.{Item}
use Rattle.script_core.specs.declared.parts.Section.{Section}
use Rattle.script_core.specs.Hints.{same_kind, is_wire}

-- whether a kind is among some kinds, and whether a section of it is among some sections
abbrev pub is_among : Kind → List Kind → Bool
is_among k [] = false
is_among k (x ∷ xs) = if same_kind k x then true else is_among k xs

abbrev pub stands_in : Kind → List Section → Bool
stands_in k [] = false
stands_in k (s ∷ ss) = if same_kind k s.kind then true else stands_in k ss

-- whether each section is of one of these kinds, and of another kind than those behind it
abbrev pub are_apart : List Kind → List Section → Bool
are_apart ks [] = true
are_apart ks (s ∷ ss) = is_among s.kind ks && (not (stands_in s.kind ss) && are_apart ks ss)

-- the hints of a section of a kind: its own and those of its items
abbrev pub own_hints : Kind → ℕ
own_hints k = if is_wire k then 4 else 1

-- the hint of the first of some items
abbrev pub first_hint : List Item → ℕ
first_hint [] = 0
first_hint (i ∷ is) = i.hint.0

-- the last hint of a section, and of some sections
abbrev pub last_item_hint : ℕ → List Item → ℕ
last_item_hint h [] = h
last_item_hint h (i ∷ is) = last_item_hint i.hint.0 is

abbrev pub last_hint : ℕ → List Section → ℕ
last_hint h [] = h
last_hint h (s ∷ ss) = last_hint (last_item_hint s.hint.0 s.items) ss

-- the number of the segment of a hint, by the hint of `wire`: a cut is a hint of the segment that it ends
abbrev pub segment_number : (wire hint : ℕ) → ℕ
segment_number w h = if nat_le h w then h - 1 else if nat_le h (w + 2) then h - 2 else h - 3
