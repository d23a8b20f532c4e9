-- What is left stays the same as lists that have ended are left.
use Rattle.std.proofs.Common.{◌≡◌, ℕ, zero, suc, ◌+◌, ◌-◌, ◌<◌, ◌≤◌, List, [], ◌∷◌, ◌++◌, drop, slice_get, Option, Some, refl, sym, ◌∙◌, ap, append_assoc, arith, add-one, length, Bool, true, false, nat_lt, ◌&&◌, if◌then◌else◌}
use Rattle.std.proofs.lemmas.Grind.{common_steps}
use Rattle.knox_words.specs.Bits.{word_or}
use Rattle.knox_lang.specs.declared.expr.Stmt.{Stmt, out-Stmt}
use Rattle.knox_lang.specs.declared.expr.Stmt.TheOpen.{Stmt-F}
use Rattle.driver_machine.specs.declared.position.Way.{Way}
use Rattle.driver_machine.specs.declared.position.Way.TheVariants as way
use Rattle.driver_machine.specs.declared.position.Frame.{Frame}
use Rattle.driver_machine.specs.declared.position.Position.{Position}
use Rattle.driver_machine.specs.declared.settle.Follow.TheVariants as follow
use Rattle.driver_machine.specs.Follows.{follow_of}
use Rattle.knox_words.specs.Lists.{Words}
use Rattle.driver_machine.specs.Left.{Item, on, turns_from}
use Rattle.driver_machine.specs.Place.{inner_of, inner_in, Top, top, items_left, entered, after_list, while_in, IsAtStatement}
use Rattle.driver_machine.proofs.Tops.{top-more, left-entered}

drop-none : (ss : List Stmt) (k : ℕ) → length ss ≤ k → drop k ss ≡ []
drop-none ss k h = grind (arith, common_steps)

-- a list that has ended leaves what follows it
pub left-ended : (ss : List Stmt) (fs : List Frame) (f : Frame) (p : ℕ) → length (top ss [] (fs ++ f ∷ [])).list ≤ p →
    items_left ss (record { place = p; frames = fs ++ f ∷ [] }) ≡ after_list ss (record { place = f.place; frames = fs }) f.way ++ items_left ss (record { place = f.place; frames = fs })
left-ended ss fs f p h =
    ap (λ (l : List Stmt). on (top ss [] (fs ++ f ∷ [])).bound l ++ (top ss [] (fs ++ f ∷ [])).rest) (drop-none _ p h)
    ∙ ap (λ (t : Top). t.rest) (top-more ss [] fs f)

pub left-none : (ss : List Stmt) (p : ℕ) → length ss ≤ p → items_left ss (record { place = p; frames = [] }) ≡ []
left-none ss p h = ap (λ (l : List Stmt). on [] l ++ []) (drop-none ss p h)

-- turns of an empty list
pub turns_from-empty : (w : ℕ) (b : Words) (k n : ℕ) → turns_from w [] b k n ≡ []
turns_from-empty w b k zero = refl
turns_from-empty w b k (suc n) = turns_from-empty w b (k + 1) n

pub turns_from-more : (w : ℕ) (body : List Stmt) (b : Words) (k m n : ℕ) → m ≡ n + 1 → turns_from w body b k m ≡ on (b ++ word_or w k ∷ []) body ++ turns_from w body b (k + 1) n
turns_from-more w body b k m n e = ap (turns_from w body b k) (e ∙ add-one n)

-- the list that follows is begun
pub resumed : (ss : List Stmt) (pos : Position) (w v : Way) (s : Stmt) → slice_get (top ss [] pos.frames).list (pos.place - 1) ≡ Some s →
    (inner_in w (out-Stmt s) (top ss [] pos.frames).bound).after ≡ on (inner_in v (out-Stmt s) (top ss [] pos.frames).bound).bound (inner_in v (out-Stmt s) (top ss [] pos.frames).bound).list ++ (inner_in v (out-Stmt s) (top ss [] pos.frames).bound).after →
    items_left ss (entered pos v) ≡ after_list ss pos w ++ items_left ss pos
resumed ss pos w v s at e =
    let b = (top ss [] pos.frames).bound in
    let q = inner_in v (out-Stmt s) b in
    left-entered ss pos v
    ∙ (ap (λ (o : Option Stmt). on (inner_of v o b).bound (inner_of v o b).list ++ ((inner_of v o b).after ++ items_left ss pos)) at
    ∙ (sym (append_assoc (on q.bound q.list) q.after (items_left ss pos))
    ∙ ap (λ (i : List Item). i ++ items_left ss pos) (sym e ∙ ap (λ (o : Option Stmt). (inner_of w o b).after) (sym at))))

pub resumed-inside : (ss : List Stmt) (pos : Position) (v : Way) (s : Stmt) → slice_get (top ss [] pos.frames).list (pos.place - 1) ≡ Some s →
    0 < length (inner_in v (out-Stmt s) (top ss [] pos.frames).bound).list → IsAtStatement ss (entered pos v)
resumed-inside ss pos v s at h =
    let b = (top ss [] pos.frames).bound in
    let e : (top ss [] (entered pos v).frames).list ≡ (inner_in v (out-Stmt s) b).list =
    ap (λ (t : Top). t.list) (top-more ss [] pos.frames (record { way = v; place = pos.place })) ∙ ap (λ (o : Option Stmt). (inner_of v o b).list) at in
    rw e h

by_test : (t : Bool) (k j : ℕ) → (if t then follow.Turn (k + 1) else follow.Nothing) ≡ follow.Turn j → (t ≡ true) × (k + 1 ≡ j)
by_test true k j e = (refl, cc)
by_test false k j e = cc

by_none : (t : Bool) (k : ℕ) → (if t then follow.Turn (k + 1) else follow.Nothing) ≡ follow.Nothing → t ≡ false
by_none true k e = cc
by_none false k e = refl

-- what the answers of `follow_of` mean for what is left
pub follow-turn : (w : Way) (y : Stmt-F Stmt) (b : Words) (j : ℕ) → follow_of w y ≡ follow.Turn j →
    ((inner_in w y b).after ≡ on (inner_in (way.Turn j) y b).bound (inner_in (way.Turn j) y b).list ++ (inner_in (way.Turn j) y b).after) × (0 < length (inner_in (way.Turn j) y b).list)
follow-turn (way.Turn k) (Stmt-F.For w n list) b j e =
    let p = by_test (nat_lt (k + 1) n && nat_lt 0 (length list)) k j e in
    let lt : k + 1 < n = grind (arith, common_steps, p.0) in
    let some : 0 < length list = grind (arith, common_steps, p.0) in
    let more : n - (k + 1) ≡ (n - (k + 1 + 1)) + 1 = omega arith in
    let is : nat_lt (k + 1) n ≡ true = grind (arith, common_steps, lt) in
    rw (sym p.1) (rw is (turns_from-more w list b (k + 1) (n - (k + 1)) (n - (k + 1 + 1)) more, some))
follow-turn way.Then y b j e = cc
follow-turn way.Else y b j e = cc
follow-turn (way.While m) (Stmt-F.While c n list) b j e = cc
follow-turn _ _ b j e = cc

over_turns : (w k n : ℕ) (list : List Stmt) (b : Words) → nat_lt (k + 1) n && nat_lt 0 (length list) ≡ false → turns_from w list b (k + 1) (n - (k + 1)) ≡ []
over_turns w k n [] b e = turns_from-empty w b (k + 1) (n - (k + 1))
over_turns w k n (x ∷ xs) b e =
    let none : n - (k + 1) ≡ 0 = grind (arith, common_steps, e) in
    rw none refl

pub follow-nothing : (w : Way) (y : Stmt-F Stmt) (b : Words) → follow_of w y ≡ follow.Nothing → (inner_in w y b).after ≡ []
follow-nothing (way.Turn k) (Stmt-F.For w n list) b e = over_turns w k n list b (by_none (nat_lt (k + 1) n && nat_lt 0 (length list)) k e)
follow-nothing (way.While m) (Stmt-F.While c n list) b e = cc
follow-nothing way.Then (Stmt-F.If c as' bs) b e = refl
follow-nothing way.Else (Stmt-F.If c as' bs) b e = refl
follow-nothing _ _ b e = refl

by_neither : (t : Bool) (k j : ℕ) → (if t then follow.Turn (k + 1) else follow.Nothing) ≡ follow.Test j → ⊥
by_neither true k j e = cc
by_neither false k j e = cc

pub follow-test : (w : Way) (y : Stmt-F Stmt) (j : ℕ) → follow_of w y ≡ follow.Test j → (w ≡ way.While j) × while_in y
follow-test (way.Turn k) (Stmt-F.For w n list) j e = absurd (by_neither (nat_lt (k + 1) n && nat_lt 0 (length list)) k j e)
follow-test (way.While m) (Stmt-F.While c n list) j e = (cc, tt)
follow-test _ _ j e = cc

pub ruleset resuming = (resumed, resumed-inside, follow-turn, follow-nothing, follow-test)

pub ruleset settling = (left-ended, left-none)
