-- What is refused by a fault.
use Rattle.std.proofs.Common.{◌≡◌, sym, ap, ◌∙◌, Result, Err}
use Rattle.knox_text.specs.declared.place.Place.{Place}
use Rattle.expr_read.specs.declared.faults.LangWhy.{LangWhy}
use Rattle.expr_read.specs.declared.faults.LangWhy.TheVariants.{Form, UnknownName, Twice, Width, Arity, Bound, Missing, Memory}
use Rattle.expr_read.specs.declared.faults.LangFault.{LangFault}
use Rattle.expr_read.specs.Views.{Fails, fails}

is-fault : {A : Type 0} (why : LangWhy) (f : LangFault) (r : Result A LangFault) → r ≡ Err f → Fails why f r
is-fault Memory f r e = tt
is-fault Form f r e = e
is-fault UnknownName f r e = e
is-fault Twice f r e = e
is-fault Width f r e = e
is-fault Arity f r e = e
is-fault Bound f r e = e
is-fault Missing f r e = e

-- a reading that is a fault is refused by it
pub refused : {A : Type 0} (f : LangFault) (r : Result A LangFault) (at : Place) (why : LangWhy) → f ≡ record { place = at; why = why } → r ≡ fails at why → Fails f.why f r
refused f r at why given e = is-fault f.why f r (e ∙ ap (λ (g : LangFault). Err g) (sym given))
