-- What deciding a segment answers, and what each answer says of it. The project's own.
use Rattle.std.specs.Prelude.{◌≡◌, ℕ, ◌≤◌, ◌<◌, Option, Some, None}
use Rattle.knox_words.specs.Lists.{Words}
use Rattle.knox_theory.specs.Course.{Course, Failed, Safe, run, used}
use Rattle.knox_theory.specs.Searched.{SafeFrom}
use Rattle.script_core.specs.declared.parts.HintNo.{HintNo}
use Rattle.script_core.specs.declared.decide.Plain.{Plain}
use Rattle.script_core.specs.declared.decide.Plain.TheVariants as plain
use Rattle.script_core.specs.declared.decide.Checked.{Checked}
use Rattle.script_core.specs.declared.decide.Checked.TheVariants as checked

-- choices over which a run fails at a hint: the words that it takes, and no more
pub record Falsifying (t : Course) (hint : ℕ) (choices : Words) : Type 0 where
  pub fails : run t choices ≡ Failed hint
  pub taken : used t choices ≡ choices

-- that no choices falsify a hint of this course, or choices that falsify one
abbrev pub Decides : Course → Plain → Type 0
Decides t plain.Holds = Safe t
Decides t (plain.Falsified h cs) = Falsifying t h.0 cs.words

-- the same where its runs take at most 20 bits; else the hint number of its section or cut, and the bits
abbrev pub Checks : Course → (hint bits : ℕ) → Checked → Type 0
Checks t hint bits checked.Holds = Safe t × (bits ≤ 20)
Checks t hint bits (checked.Falsified h cs) = Falsifying t h.0 cs.words × (bits ≤ 20)
Checks t hint bits (checked.TooWide h b) = (h.0 ≡ hint) × ((b ≡ bits) × (20 < bits))

-- What a search finds that tries the choices that begin with some words, over words that it leaves: that none of them falsifies a hint, and the words as
-- they were before; or a hint, and choices that falsify it. No public clause cites it.
abbrev pub Finds : Course → (tried before after : Words) → Option HintNo → Type 0
Finds t tried before after None = SafeFrom t tried × (after ≡ before)
Finds t tried before after (Some h) = Falsifying t h.0 after
