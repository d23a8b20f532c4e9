-- Things of a list that are read one after the other, as a loop reads them.
use Rattle.std.proofs.Common.{◌≡◌, ℕ, ◌+◌, ◌≤◌, ◌<◌, List, ◌∷◌, length, get_or, drop, Result, Ok, Err, refl, sym, subst, ap, ◌∙◌, drop-cons, add-one}
use Rattle.std.proofs.lemmas.List.{at_drop_all}
use Rattle.expr_read.specs.declared.faults.LangWhy.{LangWhy}
use Rattle.expr_read.specs.declared.faults.LangWhy.TheVariants.{Form, UnknownName, Twice, Width, Arity, Bound, Missing, Memory}
use Rattle.expr_read.specs.declared.faults.LangFault.{LangFault}
use Rattle.expr_read.specs.Views.{◌>>=◌, Fails, each}

failed : {A B : Type 0} (f : LangFault) (r : Result A LangFault) (g : A → Result B LangFault) → r ≡ Err f → (r >>= g) ≡ Err f
failed f r g e = rw e refl

-- a step that failed fails the rest
pub fails-then : {A B : Type 0} (why : LangWhy) (f : LangFault) (r : Result A LangFault) (g : A → Result B LangFault) → Fails why f r → Fails why f (r >>= g)
fails-then Memory f r g h = tt
fails-then Form f r g h = failed f r g h
fails-then UnknownName f r g h = failed f r g h
fails-then Twice f r g h = failed f r g h
fails-then Width f r g h = failed f r g h
fails-then Arity f r g h = failed f r g h
fails-then Bound f r g h = failed f r g h
fails-then Missing f r g h = failed f r g h

pub each-next : {T A S : Type 0} (read : S → T → Result A LangFault) (add : S → A → S) (s : S) (ts : List T) (i : ℕ) (t : T) → i < length ts → t ≡ get_or ts i t →
    each read add s (drop i ts) ≡ (read s t >>= λ x. each read add (add s x) (drop (i + 1) ts))
unfolding each
each-next read add s ts i t lt is =
    let here : drop i ts ≡ t ∷ drop (i + 1) ts = drop-cons ts i t lt ∙ rw (add-one, ← is) refl in
    rw here refl

-- the thing at a place is refused
pub each-fails : {T A S : Type 0} (read : S → T → Result A LangFault) (add : S → A → S) (s : S) (ts : List T) (i : ℕ) (t : T) (whole : Result S LangFault) (f : LangFault) → i < length ts → t ≡ get_or ts i t →
    each read add s (drop i ts) ≡ whole → Fails f.why f (read s t) → Fails f.why f whole
each-fails read add s ts i t whole f lt is e h =
    subst (λ (r : Result _ LangFault). Fails f.why f r) (sym (each-next read add s ts i t lt is) ∙ e) (fails-then f.why f (read s t) (λ x. each read add (add s x) (drop (i + 1) ts)) h)

-- it is read
pub each-goes : {T A S : Type 0} (read : S → T → Result A LangFault) (add : S → A → S) (s : S) (ts : List T) (i : ℕ) (t : T) (whole : Result S LangFault) (x : A) → i < length ts → t ≡ get_or ts i t →
    each read add s (drop i ts) ≡ whole → read s t ≡ Ok x → each read add (add s x) (drop (i + 1) ts) ≡ whole
each-goes read add s ts i t whole x lt is e h =
    let one = each-next read add s ts i t lt is ∙ ap (λ (r : Result _ LangFault). r >>= λ y. each read add (add s y) (drop (i + 1) ts)) h in
    sym one ∙ e

-- there are no more
pub each-ends : {T A S : Type 0} (read : S → T → Result A LangFault) (add : S → A → S) (s : S) (ts : List T) (i : ℕ) (whole : Result S LangFault) → length ts ≤ i →
    each read add s (drop i ts) ≡ whole → whole ≡ Ok s
unfolding each
each-ends read add s ts i whole le e = sym e ∙ at_drop_all (each read add s) ts i le
