-- The fields of a reader of lines.
use Rattle.std.specs.Prelude.{◌≤◌, ◌+◌, length}
use Rattle.proof_text.specs.declared.reader.LratReader.TheInside.{Inside}
use Rattle.proof_text.specs.Unread.{Unread, unread}

abbrev pub unread_of : Inside → Unread
unread_of r = unread r.number r.rest.now

-- no line of the bytes that are left has too large a number
pub record HasRoom (r : Inside) : Type 0 where
  pub counted : 1 ≤ r.number
  pub lines : r.number + length r.rest.now ≤ 67108865
