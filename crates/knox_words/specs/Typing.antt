-- The width of an operator's value on words of some widths; none where it takes no such words.
-- Standard: BTOR2 (Niemetz, Preiner, Wolf and Biere, CAV 2018).
-- The project's own: the greatest width is 128.
use Rattle.std.specs.Prelude.{ℕ, ◌+◌, ◌-◌, ◌==◌, ◌&&◌, nat_lt, nat_le, Option, Some, None, if◌then◌else◌}
use Rattle.knox_words.specs.declared.op.Op2.{Op2}
use Rattle.knox_words.specs.Ops.{fits2_of, op2_width}

-- of an operator on words of widths v and w
abbrev pub op2_typed : Op2 → ℕ → ℕ → Option ℕ
op2_typed o v w = if fits2_of o v w then Some (op2_width o v w) else None

-- of the bits from high down to low of a word of width w
abbrev pub slice_typed : ℕ → ℕ → ℕ → Option ℕ
slice_typed w high low = if nat_le low high && nat_lt high w then Some (high - low + 1) else None

-- of a word of width w in n bits more
abbrev pub extended : ℕ → ℕ → Option ℕ
extended w n = if nat_le (w + n) 128 then Some (w + n) else None

-- of a choice by a word of width c between words of widths v and w
abbrev pub ite_typed : ℕ → ℕ → ℕ → Option ℕ
ite_typed c v w = if c == 1 && v == w then Some v else None
