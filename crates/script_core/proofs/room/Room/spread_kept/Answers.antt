use Rattle.std.proofs.Common.{◌∙◌, ap}
use Rattle.knox_words.specs.Lists.{merge}
use Rattle.script_core.specs.Rooms.{RoomSizes}
use Rattle.script_core.proofs.room.Room.spread_kept.Goals as goal

pub returns-clause-spread : goal.returns-clause-spread
returns-clause-spread c =
    c.in_ok-merge_words.ensures
    ∙ (λ i. merge ((c.as_slice.ensures.value ∙ ap (λ (s : RoomSizes). s.mask) c.requires) i) ((c.as_slice-2.ensures ∙ ap (λ (s : RoomSizes). s.zeros) c.requires) i) (c.as_slice-3.ensures i))
