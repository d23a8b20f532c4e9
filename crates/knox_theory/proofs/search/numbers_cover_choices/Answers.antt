use Rattle.knox_theory.proofs.Covering.{covered}
use Rattle.knox_theory.proofs.search.numbers_cover_choices.Goals as goal

pub returns : goal.returns
returns c t b within h cs e = covered t b within h cs e
