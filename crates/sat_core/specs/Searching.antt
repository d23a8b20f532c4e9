-- What a search keeps: watches, reasons, and that before each decision every clause was guarded.
use Rattle.std.specs.Prelude.{ℕ, ◌≡◌, ◌<◌, ◌≤◌, true, false, List, ◌∷◌, length, take, slice_index_or}
use Rattle.knox_cnf.specs.Literals.{Literal, has}
use Rattle.sat_core.specs.declared.search.Search.{Search}
use Rattle.sat_core.specs.Chains.{falsifies}
use Rattle.sat_core.specs.Cones.{HasReasons}
use Rattle.sat_core.specs.Watches.{is_false, guarded, IsConsistent}
use Rattle.sat_core.specs.Visits.{IsDistinct}
use Rattle.sat_core.specs.Lists.{IsReady}
use Rattle.sat_core.specs.Storing.{ShortsHold, AreGuarded}

abbrev pub decision_at : List ℕ → ℕ → ℕ
decision_at decisions i = slice_index_or decisions i 0

-- the literal at a place was no decision
abbrev pub IsUndecided : ℕ → List ℕ → Type 0
IsUndecided p decisions = (i : ℕ) → i < length decisions → decision_at decisions i ≡ p → ⊥

-- places of a trail, each above those before it
pub record AreDecisions (decisions : List ℕ) (trail : List Literal) : Type 0 where
  pub rising : (i j : ℕ) → i < j → j < length decisions → decision_at decisions i < decision_at decisions j
  pub inside : (i : ℕ) → i < length decisions → decision_at decisions i < length trail

pub record Stands (stored : List (List Literal)) (lists : List (List ℕ)) (trail : List Literal) (reasons decisions : List ℕ) (done looked : ℕ) : Type 0 where
  pub ready : IsReady stored lists trail done
  pub here : done ≤ length trail
  pub consistent : IsConsistent trail
  pub shorts : ShortsHold stored trail looked
  pub long : length reasons ≡ length trail
  pub reasoned : (p : ℕ) → p < length trail → IsUndecided p decisions → HasReasons stored trail reasons p
  pub decided : AreDecisions decisions trail
  pub guards : (i : ℕ) → i < length decisions → AreGuarded stored (take (decision_at decisions i) trail)

abbrev pub IsSearch : Search → Type 0
IsSearch s = Stands s.stored.items s.lists.items s.trail s.reasons.items s.decisions.items s.done s.looked

-- a lemma whose first literal is unassigned and whose others are false, and that was guarded before each decision
pub record IsAttachable (trail : List Literal) (decisions : List ℕ) (lemma : List Literal) : Type 0 where
  pub literal : Literal
  pub rest : List Literal
  pub is : lemma ≡ literal ∷ rest
  pub unset : has trail literal ≡ false
  pub free : is_false trail literal ≡ false
  pub below : falsifies trail rest ≡ true
  pub guards : (i : ℕ) → i < length decisions → guarded (take (decision_at decisions i) trail) lemma ≡ true
  pub distinct : IsDistinct lemma
