-- Lists with one entry for each device word: the cell and the place of an entry.
use Rattle.std.proofs.Common.{◌≡◌, ℕ, zero, suc, ◌+◌, ◌-◌, ◌<◌, List, [], ◌∷◌, ◌++◌, Some, Bool, true, false, is_some, replicate, length, slice_get, refl, sym, ◌∙◌, ap, arith, inl, inr, if◌then◌else◌}
use Rattle.std.proofs.lemmas.Bool.{cases_lt}
use Rattle.std.proofs.lemmas.List.{length-append, length-replicate}
use Rattle.circuit_nodes.specs.declared.node.State.{State}
use Rattle.circuit_nodes.specs.Starts.{keep_after}
use Rattle.circuit_nodes.proofs.ListLemmas.{slice_get-append}
use Rattle.knox_circuit.specs.Parts.{widths_where}
use Rattle.circuit_laws.proofs.StatesLemmas.{cell_count, bare_count, LaidOut}
use Rattle.circuit_laws.proofs.WidthsLemmas.{slice_get-behind}

-- the entries of each cell, one behind the other; `keep` has one truth value for each cell
abbrev pub by_cell : {X : Type 0} → (State → List Bool → List X) → List State → List Bool → List X
by_cell f [] keep = []
by_cell f (s ∷ ss) keep = (if is_some s.next then f s keep else []) ++ by_cell f ss (keep_after s keep)

-- what is left of `keep` at the turn of a state
abbrev pub turn : List State → List Bool → ℕ → List Bool
turn [] keep k = keep
turn (s ∷ ss) keep zero = keep
turn (s ∷ ss) keep (suc k) = turn ss (keep_after s keep) k

pub length-by_cell : {X : Type 0} (f : State → List Bool → List X) (ss : List State) (keep : List Bool) → ((s : State) (keep : List Bool) → length (f s keep) ≡ s.words) → length (by_cell f ss keep) ≡ length (widths_where true ss)
length-by_cell f [] keep long = refl
length-by_cell f (s ∷ ss) keep long = of (is_some s.next) (length-by_cell f ss (keep_after s keep) long) where
  of : (b : Bool) → length (by_cell f ss (keep_after s keep)) ≡ length (widths_where true ss) → length ((if b then f s keep else []) ++ by_cell f ss (keep_after s keep)) ≡ length ((if b then replicate s.words s.width else []) ++ widths_where true ss)
  of true more =
      let left = length-append (f s keep) (by_cell f ss (keep_after s keep)) in
      let right = length-append (replicate s.words s.width) (widths_where true ss) in
      let one = long s keep in
      let wide = length-replicate s.words s.width in
      omega (arith, left, right, one, wide, more)
  of false more = more

-- an entry is one of a cell, at the turn of the cell
pub record IsOf {X : Type 0} (f : State → List Bool → List X) (ss : List State) (keep : List Bool) (c p : ℕ) (x : X) : Type 0 where
  pub k : ℕ
  pub s : State
  pub j : ℕ
  pub state : slice_get ss k ≡ Some s
  pub few : j < s.words
  pub at : s.first + j ≡ c + p
  pub cell : is_some s.next ≡ true
  pub entry : slice_get (f s (turn ss keep k)) j ≡ Some x

one-of : {X : Type 0} (f : State → List Bool → List X) (s : State) (ss : List State) (keep : List Bool) (c b p : ℕ) (x : X) (q : Bool) → length (f s keep) ≡ s.words → is_some s.next ≡ q → s.first ≡ (if q then c else b) → slice_get ((if q then f s keep else []) ++ by_cell f ss (keep_after s keep)) p ≡ Some x
    → ((r : ℕ) → slice_get (by_cell f ss (keep_after s keep)) r ≡ Some x → IsOf f ss (keep_after s keep) (c + cell_count s) r x) → IsOf f (s ∷ ss) keep c p x
one-of f s ss keep c b p x true long own first h more = elim (cases_lt p s.words) [
  | inl lt ↦
      let here : slice_get (f s keep) p ≡ Some x = sym (slice_get-append (f s keep) (by_cell f ss (keep_after s keep)) p (omega (arith, long, lt))) ∙ h in
      record { k = 0; s = s; j = p; state = refl; few = lt; at = omega (arith, first); cell = own; entry = here }
  | inr le ↦
      let at : p ≡ length (f s keep) + (p - s.words) = omega (arith, long, le) in
      let rest : slice_get (by_cell f ss (keep_after s keep)) (p - s.words) ≡ Some x =
      sym (slice_get-behind (f s keep) (by_cell f ss (keep_after s keep)) (p - s.words)) ∙ (ap (slice_get (f s keep ++ by_cell f ss (keep_after s keep))) (sym at) ∙ h) in
      let found = more (p - s.words) rest in
      let count : cell_count s ≡ s.words = ap (λ (z : Bool). if z then s.words else 0) own in
      record { k = suc found.k; s = found.s; j = found.j; state = found.state; few = found.few; at = let e = found.at in omega (arith, e, count, le); cell = found.cell; entry = found.entry }
]
one-of f s ss keep c b p x false long own first h more =
    let found = more p h in
    let count : cell_count s ≡ 0 = ap (λ (z : Bool). if z then s.words else 0) own in
    record { k = suc found.k; s = found.s; j = found.j; state = found.state; few = found.few; at = let e = found.at in omega (arith, e, count); cell = found.cell; entry = found.entry }

pub is-of : {X : Type 0} (f : State → List Bool → List X) (ss : List State) (keep : List Bool) (c b p : ℕ) (x : X) → ((s : State) (keep : List Bool) → length (f s keep) ≡ s.words) → LaidOut c b ss → slice_get (by_cell f ss keep) p ≡ Some x → IsOf f ss keep c p x
is-of f [] keep c b p x long laid h = cc
is-of f (s ∷ ss) keep c b p x long laid h =
    one-of f s ss keep c b p x (is_some s.next) (long s keep) refl laid.0 h (λ r k. is-of f ss (keep_after s keep) (c + cell_count s) (b + bare_count s) r x long laid.1 k)
