-- Which fields the trees of a specification or an emulator declare.
use Rattle.std.specs.Prelude.{ℕ, nat_le, Bool, true, false, if◌then◌else◌, List, [], ◌∷◌, length, None, Result, Ok}
use Rattle.std.specs.Str.{bytes_eq}
use Rattle.knox_text.specs.declared.place.Place.{Place}
use Rattle.knox_sexpr.specs.declared.tree.Tree.{Tree}
use Rattle.knox_words.specs.Bits.{Bits, bits, is_word}
use Rattle.knox_lang.specs.declared.parts.Field.{Field}
use Rattle.expr_read.specs.declared.faults.LangWhy.TheVariants.{Form, Twice, Width, Bound}
use Rattle.expr_read.specs.declared.faults.LangFault.{LangFault}
use Rattle.expr_read.specs.declared.fields.Fields.{Fields}
use Rattle.expr_read.specs.Views.{◌>>=◌, fails, place_of, number_of, width_of, symbol_of, parts_of, each}
use Rattle.expr_read.specs.Names.{and_last}

abbrev pub is_field : List ℕ → List Field → Bool
is_field name [] = false
is_field name (f ∷ fs) = if bytes_eq f.name name then true else is_field name fs

-- a field of one word, whose place is behind those of the fields before, and its initial word
abbrev pub started : Place → List Field → List ℕ → ℕ → ℕ → Result (Field × Bits) LangFault
started at known name width value =
    if is_word (bits width value) then Ok (record { name = name; width = width; index = None; first = length known }, bits width value)
    else fails at Width

abbrev pub sized : List Field → List ℕ → Tree → Tree → Result (Field × Bits) LangFault
sized known name w n = do
  width ← width_of w
  value ← number_of n
  started (place_of n) known name width value

abbrev pub word_field : List Field → Tree → Tree → Tree → Result (Field × Bits) LangFault
word_field known x w n = symbol_of x >>= λ name. if is_field name known then fails (place_of x) Twice else sized known name w n

-- (field x w n)
abbrev pub field_in : Place → List Field → List Tree → Result (Field × Bits) LangFault
field_in at known (head ∷ x ∷ w ∷ n ∷ []) = if nat_le 65536 (length known) then fails at Bound else word_field known x w n
field_in at known parts = fails at Form

abbrev pub field : List Field → Tree → Result (Field × Bits) LangFault
field known t = parts_of t >>= λ ts. field_in (place_of t) known ts

abbrev pub and_field : Fields → Field × Bits → Fields
and_field before x = record { fields = and_last before.fields x.0; init = and_last before.init x.1 }

abbrev pub no_fields : Fields
no_fields = record { fields = []; init = [] }

-- the fields of trees, each of which begins with `field`, and their initial words
abbrev pub fields_of : List Tree → Result Fields LangFault
fields_of ts = each (λ (before : Fields). field before.fields) and_field no_fields ts
