-- Kinds that are left.
use Rattle.std.proofs.Common.{◌≡◌, true, false, List, ◌∷◌, Option, Some, None, refl, is_some, unwrap_or}
use Rattle.script_core.specs.declared.parts.Kind.{Kind}
use Rattle.script_core.specs.Hints.{same_kind, with_kind, without}
use Rattle.script_read.specs.Scripts.{is_left, less}

still-left : (x : Kind) (o : Option (List Kind)) → is_some (with_kind x o) ≡ is_some o
still-left x None = refl
still-left x (Some ks) = refl

pub left_behind : (k x : Kind) (xs : List Kind) → same_kind k x ≡ false → is_left k (x ∷ xs) ≡ is_left k xs
left_behind k x xs h = rw h (still-left x (without k xs))

pub left_here : (k x : Kind) (xs : List Kind) → same_kind k x ≡ true → is_left k (x ∷ xs) ≡ true
left_here k x xs h = rw h refl

still-less : (x : Kind) (xs : List Kind) (o : Option (List Kind)) → unwrap_or (with_kind x o) (x ∷ xs) ≡ x ∷ unwrap_or o xs
still-less x xs None = refl
still-less x xs (Some ks) = refl

pub less_behind : (k x : Kind) (xs : List Kind) → same_kind k x ≡ false → less k (x ∷ xs) ≡ x ∷ less k xs
less_behind k x xs h = rw h (still-less x xs (without k xs))

pub less_here : (k x : Kind) (xs : List Kind) → same_kind k x ≡ true → less k (x ∷ xs) ≡ xs
less_here k x xs h = rw h refl
