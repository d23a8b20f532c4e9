-- Steps lower the number of parts that are left, and the last one gives the reply.
use Rattle.std.proofs.Common.{◌≡◌, ℕ, ◌+◌, List, Option, refl, sym, ◌∙◌, ap, subst, arith}
use Rattle.knox_words.specs.Lists.{Words}
use Rattle.knox_theory.specs.Device.{Replied, OutOfTurns}
use Rattle.knox_theory.specs.Device as theory
use Rattle.knox_theory.specs.Design.{Config}
use Rattle.knox_circuit.specs.Line.{Line}
use Rattle.knox_lang.specs.declared.expr.Expr.{Expr}
use Rattle.knox_lang.specs.declared.parts.DriverParts.{DriverParts}
use Rattle.driver_machine.specs.declared.reply.Reply.{Reply}
use Rattle.driver_machine.specs.declared.reply.Reply.TheVariants as reply
use Rattle.driver_machine.specs.declared.reply.Moved.{Moved}
use Rattle.driver_machine.specs.declared.reply.Moved.TheVariants as moved
use Rattle.driver_machine.specs.Sight.{Run, setting}
use Rattle.driver_machine.specs.Left.{Left, Rest, Over, Next, Went, Ticks, NoTurns, AtResult, next, arrived, step}
use Rattle.driver_machine.specs.Moves.{items_parts, parts_left}
use Rattle.driver_machine.specs.Means.{means}
use Rattle.driver_machine.specs.Configs.{meant, said, moved_next, moved_of, LowersParts}
use Rattle.driver_machine.proofs.Lowers.{Lowers, lowers}
use Rattle.driver_machine.proofs.Meaning.{step-means}

next-parts : (lines : List Line) (d : DriverParts) (args : Words) (result : Option Expr) (run : Run) (m : ℕ) (n : Next) → Lowers m n →
    LowersParts (moved_next (setting lines d.funs args) result run n) (1 + m) (parts_left (arrived (setting lines d.funs args) result run n).left)
next-parts lines d args result run m (Went items run') h = omega arith
next-parts lines d args result run m (Ticks items run') h = omega arith
next-parts lines d args result run m NoTurns h = refl
next-parts lines d args result run m AtResult h = refl

in-parts : (lines : List Line) (d : DriverParts) (left : Left) (cells inputs locals : Words) →
    (let c : Config Left = record { left = left; cells = cells; inputs = inputs; locals = locals } in
    LowersParts (moved_of lines d c) (parts_left left) (parts_left (step lines d c).left))
in-parts lines d (Over r) cells inputs locals = refl
in-parts lines d (Rest items args result) cells inputs locals =
    let g = setting lines d.funs args in
    let run : Run = record { cells = cells; inputs = inputs; locals = locals } in
    next-parts lines d args result run (items_parts items) (next g items run) (lowers g items run)

step-parts : (lines : List Line) (d : DriverParts) (c : Config Left) → LowersParts (moved_of lines d c) (parts_left c.left) (parts_left (step lines d c).left)
step-parts lines d c = in-parts lines d c.left c.cells c.inputs c.locals

pub parts-from : (lines : List Line) (d : DriverParts) (c c' : Config Left) (r : Moved) → r ≡ moved_of lines d c → c' ≡ step lines d c → LowersParts r (parts_left c.left) (parts_left c'.left)
parts-from lines d c c' r e f =
    subst (λ (x : Config Left). LowersParts r (parts_left c.left) (parts_left x.left)) (sym f)
    (subst (λ (x : Moved). LowersParts x (parts_left c.left) (parts_left (step lines d c).left)) (sym e) (step-parts lines d c))

-- the reply of the last step
said-meant : (r : Reply) → said (meant r) ≡ r
said-meant (reply.Value w) = refl
said-meant reply.Stuck = refl

meant-said : (r : theory.Reply) → meant (said r) ≡ r
meant-said (Replied w) = refl
meant-said OutOfTurns = refl

done-said : (r s : Reply) → moved.Done r ≡ moved.Done s → r ≡ s
done-said r s e = cc

next-done : (lines : List Line) (d : DriverParts) (args : Words) (result : Option Expr) (run : Run) (n : Next) (r : Reply) →
    moved_next (setting lines d.funs args) result run n ≡ moved.Done r → means lines d (arrived (setting lines d.funs args) result run n) ≡ (meant r, (arrived (setting lines d.funs args) result run n).cells)
next-done lines d args result run (Went items run') r e = cc
next-done lines d args result run (Ticks items run') r e = cc
next-done lines d args result run NoTurns r e = ap (λ (x : Reply). (meant x, run.cells)) (done-said _ r e)
next-done lines d args result run AtResult r e = ap (λ (x : Reply). (meant x, run.cells)) (done-said _ r e)

in-done : (lines : List Line) (d : DriverParts) (left : Left) (cells inputs locals : Words) (r : Reply) →
    (let c : Config Left = record { left = left; cells = cells; inputs = inputs; locals = locals } in
    moved_of lines d c ≡ moved.Done r → means lines d (step lines d c) ≡ (meant r, (step lines d c).cells))
in-done lines d (Over x) cells inputs locals r e = ap (λ (y : theory.Reply). (y, cells)) (sym (meant-said x) ∙ ap meant (done-said (said x) r e))
in-done lines d (Rest items args result) cells inputs locals r e =
    let run : Run = record { cells = cells; inputs = inputs; locals = locals } in
    next-done lines d args result run (next (setting lines d.funs args) items run) r e

-- the last step gives the reply and the cells of the whole body
pub last-step : (lines : List Line) (d : DriverParts) (c c' : Config Left) (r : Reply) (whole : theory.Reply × Words) → moved.Done r ≡ moved_of lines d c → c' ≡ step lines d c → means lines d c ≡ whole →
    (r ≡ said whole.0) × (c'.cells ≡ whole.1)
last-step lines d c c' r whole e f m =
    let end : (meant r, (step lines d c).cells) ≡ whole = sym (in-done lines d c.left c.cells c.inputs c.locals r (sym e)) ∙ (step-means lines d c ∙ m) in
    (sym (said-meant r) ∙ ap (λ (w : theory.Reply × Words). said w.0) end, ap (λ (x : Config Left). x.cells) f ∙ ap (λ (w : theory.Reply × Words). w.1) end)

-- each other step keeps the meaning
pub more-steps : (lines : List Line) (d : DriverParts) (c c' : Config Left) (whole : theory.Reply × Words) → c' ≡ step lines d c → means lines d c ≡ whole → means lines d c' ≡ whole
more-steps lines d c c' whole f m = ap (means lines d) f ∙ (step-means lines d c ∙ m)

pub ruleset driving = (last-step, more-steps)
