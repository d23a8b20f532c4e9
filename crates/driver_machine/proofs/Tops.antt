-- What is left, as a position moves.
use Rattle.std.proofs.Common.{◌≡◌, ◌-◌, List, [], ◌∷◌, ◌++◌, drop, slice_get, ◌∙◌, ap, append_assoc, arith}
use Rattle.std.proofs.lemmas.Grind.{common_steps}
use Rattle.knox_lang.specs.declared.expr.Stmt.{Stmt}
use Rattle.driver_machine.specs.declared.position.Way.{Way}
use Rattle.driver_machine.specs.declared.position.Frame.{Frame}
use Rattle.driver_machine.specs.declared.position.Position.{Position}
use Rattle.knox_words.specs.Lists.{Words}
use Rattle.driver_machine.specs.Left.{Item, on}
use Rattle.driver_machine.specs.Place.{inner_of, Top, top, items_left, items_at, entered}

-- the list that one more frame leads to
abbrev under : Top → Frame → Top
under t f =
    let q = inner_of f.way (slice_get t.list (f.place - 1)) t.bound in
    record { list = q.list; bound = q.bound; rest = q.after ++ (on t.bound (drop f.place t.list) ++ t.rest) }

pub top-more : (ss : List Stmt) (b : Words) (fs : List Frame) (f : Frame) → top ss b (fs ++ f ∷ []) ≡ under (top ss b fs) f
top-more ss b [] f = ap (λ (r : List Item). record { list = (inner_of f.way (slice_get ss (f.place - 1)) b).list; bound = (inner_of f.way (slice_get ss (f.place - 1)) b).bound; rest = r }) (grind (arith, common_steps))
top-more ss b (g ∷ fs) f =
    let q = inner_of g.way (slice_get ss (g.place - 1)) b in
    let outer : List Item = q.after ++ on b (drop g.place ss) in
    let e = top-more q.list q.bound fs f in
    let t = top q.list q.bound fs in
    let r = inner_of f.way (slice_get t.list (f.place - 1)) t.bound in
    ap (λ (x : Top). record { list = x.list; bound = x.bound; rest = x.rest ++ outer }) e
    ∙ ap (λ (i : List Item). record { list = r.list; bound = r.bound; rest = i })
    (append_assoc r.after (on t.bound (drop f.place t.list) ++ t.rest) outer ∙ ap (λ (i : List Item). r.after ++ i) (append_assoc (on t.bound (drop f.place t.list)) t.rest outer))

-- what is left after a list was begun
pub left-entered : (ss : List Stmt) (pos : Position) (w : Way) →
    items_left ss (entered pos w) ≡
    (let t = top ss [] pos.frames in
    let q = inner_of w (slice_get t.list (pos.place - 1)) t.bound in
    on q.bound q.list ++ (q.after ++ items_left ss pos))
left-entered ss pos w = ap (λ (t : Top). items_at t 0) (top-more ss [] pos.frames (record { way = w; place = pos.place }))
