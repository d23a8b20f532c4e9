-- Short names for what the computed examples expect.
use Rattle.std.specs.Prelude.{ℕ}
use Rattle.knox_text.specs.declared.place.Place.{Place}
use Rattle.knox_text.specs.declared.cursor.BadNumber.{BadNumber}

abbrev pub place : ℕ → ℕ → Place
place line column = record { line = line; column = column }

abbrev pub bad_number : ℕ → ℕ → BadNumber
bad_number line column = record { 0 = place line column }
