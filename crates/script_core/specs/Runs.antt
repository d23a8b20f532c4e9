-- How far a run comes over some choices: its end, or the width of the word that it wants where they run out. What it comes to and what it wants are read
-- from this. The project's own; nobody has to believe it, since `run` and `wants` of the theory of scripts are what the public clauses speak of.
use Rattle.std.specs.Prelude.{ℕ, min, Option, Some, None, List, [], ◌∷◌, slice_get, if◌then◌else◌}
use Rattle.knox_words.specs.Lists.{Words, fits}
use Rattle.knox_theory.specs.Course as course
use Rattle.knox_theory.specs.Course.{Course, Check, Assume, Take, Mark, Tell, Done, End}
use Rattle.knox_theory.specs.Segments.{Segment, segments}
use Rattle.knox_circuit.specs.Circuit.{Circuit}
use Rattle.knox_lang.specs.declared.parts.SpecParts.{SpecParts}
use Rattle.knox_lang.specs.declared.parts.DriverParts.{DriverParts}
use Rattle.knox_lang.specs.declared.parts.EmuParts.{EmuParts}
use Rattle.device_design.specs.Meaning.{design_of}
use Rattle.script_core.specs.declared.parts.ScriptParts.{ScriptParts}
use Rattle.script_core.specs.declared.run.Progress.{Progress}
use Rattle.script_core.specs.declared.run.Progress.TheVariants as progress
use Rattle.script_core.specs.declared.run.ScriptEnd.{ScriptEnd}
use Rattle.script_core.specs.declared.run.ScriptEnd.TheVariants as said
use Rattle.script_core.specs.Hints.{script_of}

pub data Reach : Type 0 where
  ToEnd : Reach
  ToVacuous : Reach
  ToFailure : (hint : ℕ) → Reach
  -- no word is left where one of this width is wanted
  Wanting : (width : ℕ) → Reach
  -- the next word has another width
  Misfitting : Reach

abbrev pub reach : Course → Words → Reach
reach (Check ok h rest) cs = if ok then reach rest cs else ToFailure h
reach (Assume ok rest) cs = if ok then reach rest cs else ToVacuous
reach (Take w rest) [] = Wanting w
reach (Take w rest) (c ∷ cs) = if fits w c then reach (rest c) cs else Misfitting
reach (Mark l s rest) cs = reach rest cs
reach (Tell n rest) cs = reach rest cs
reach Done cs = ToEnd

abbrev pub end_of : Reach → End
end_of ToEnd = course.Held
end_of ToVacuous = course.Vacuous
end_of (ToFailure h) = course.Failed h
end_of (Wanting w) = course.Short
end_of Misfitting = course.Short

abbrev pub want_of : Reach → Option ℕ
want_of (Wanting w) = Some w
want_of r = None

-- the segments of a script on a device, in order of their hint numbers
abbrev pub segments_of : Circuit → SpecParts → DriverParts → EmuParts → ScriptParts → List Segment
segments_of c s d e p = segments (design_of c s d e) (script_of c s d p)

-- what is there at a segment's number: its course, the bits of its widest run, and the hint of its section or cut
abbrev pub course_of : Option Segment → Course
course_of None = Done
course_of (Some g) = g.course

abbrev pub bits_of : Option Segment → ℕ
bits_of None = 0
bits_of (Some g) = g.choice_bits

abbrev pub hint_of : Option Segment → ℕ
hint_of None = 0
hint_of (Some g) = g.hint

abbrev pub course_at : List Segment → ℕ → Course
course_at gs g = course_of (slice_get gs g)

abbrev pub bits_at : List Segment → ℕ → ℕ
bits_at gs g = bits_of (slice_get gs g)

abbrev pub hint_at : List Segment → ℕ → ℕ
hint_at gs g = hint_of (slice_get gs g)

-- what the code's answer of a run says
abbrev pub reach_of : Progress → Reach
reach_of progress.Held = ToEnd
reach_of progress.Vacuous = ToVacuous
reach_of (progress.Failed h) = ToFailure h.0
reach_of (progress.Wants w) = Wanting w
reach_of progress.Misfit = Misfitting

-- the end of a run over some choices, as it is answered
abbrev pub end_said : ScriptEnd → End
end_said said.Held = course.Held
end_said said.Vacuous = course.Vacuous
end_said (said.Failed h) = course.Failed h.0
end_said said.Short = course.Short

-- sums of bits are counted up to 2^64 - 1
abbrev pub counted : ℕ → ℕ
counted n = min n 18446744073709551615
