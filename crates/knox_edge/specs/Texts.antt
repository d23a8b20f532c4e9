-- Bytes, texts with their names, and what a shelf keeps of its reads.
use Rattle.std.specs.Prelude.{ℕ, List, [], map}
use Rattle.std.specs.declared.{vec.Vec.Vec, alloc.Global.Global}
use Rattle.knox_edge.specs.declared.history.History.{History}

abbrev pub Bytes : Type 0
Bytes = List ℕ

-- how many bytes a text may have: 64 MiB
abbrev pub limit : ℕ
limit = 67108864

-- a name and the bytes of the text that it names
abbrev pub Named : Type 0
Named = Bytes × Bytes

-- the names that reads have asked, refused ones too; what successful reads have given;
-- how many bytes the last read took; how many reads have failed
pub record Reads : Type 0 where
  pub names : List Bytes
  pub given : List Named
  pub taken : ℕ
  pub faults : ℕ

-- no reads
abbrev pub unread : Reads
unread = record { names = []; given = []; taken = 0; faults = 0 }

-- the bytes of some vectors
abbrev pub bytes_of : List (Vec ℕ Global) → List Bytes
bytes_of vs = map (λ v. v.items) vs

-- the names and bytes of some pairs of vectors
abbrev pub named_of : List (Vec ℕ Global × Vec ℕ Global) → List Named
named_of vs = map (λ v. (v.0.items, v.1.items)) vs

-- what a shelf has kept
abbrev pub history_of : History → Reads
history_of h = record { names = bytes_of h.names.items; given = named_of h.given.items; taken = h.taken; faults = h.faults }
