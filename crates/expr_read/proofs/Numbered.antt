-- Operands that are read behind numbers: slices and extensions.
use Rattle.std.proofs.Common.{◌≡◌, ℕ, ◌≤◌, ◌<◌, List, [], ◌∷◌, length, get_or, map, refl, sym, ap, ◌∙◌, arith, Result, Ok}
use Rattle.knox_text.specs.declared.place.Place.{Place}
use Rattle.knox_sexpr.specs.declared.tree.Tree.{Tree}
use Rattle.expr_read.specs.declared.faults.LangFault.{LangFault}
use Rattle.expr_read.specs.declared.names.Named.{Named}
use Rattle.expr_read.specs.declared.expression.Typed.{Typed}
use Rattle.expr_read.specs.declared.expression.Extension.{Extension}
use Rattle.expr_read.specs.Views.{◌>>=◌, Fails, number_of}
use Rattle.expr_read.specs.Expressions.{Part, part, expr_of, numbers, slice_of, slice_read, sliced, longer_of, longer_read, extended_by}
use Rattle.expr_read.proofs.Parts.{tree-part}
use Rattle.expr_read.proofs.Lists.{fails-then}

-- what follows a step that succeeded
goes : {A B : Type 0} (r : Result A LangFault) (g : A → Result B LangFault) (x : A) → r ≡ Ok x → (r >>= g) ≡ g x
goes r g x e = rw e refl

-- ---- slices

pub sliced-is : (at : Place) (ts : List Tree) (h l x : Tree) (names : List Named) → 3 ≤ length ts → length ts < 4 → h ≡ get_or ts 0 h → l ≡ get_or ts 1 l → x ≡ get_or ts 2 x → slice_read at h l (expr_of x names) ≡ sliced at (map part ts) names
sliced-is at [] h l x names le lt e f g = absurd (omega arith)
sliced-is at (t ∷ []) h l x names le lt e f g = absurd (omega arith)
sliced-is at (t ∷ u ∷ []) h l x names le lt e f g = absurd (omega arith)
sliced-is at (t ∷ u ∷ v ∷ []) h l x names le lt e f g =
    ap (λ (w : Tree). slice_read at w l (expr_of x names)) (e ∙ sym (tree-part t))
    ∙ ap (λ (w : Tree). slice_read at ((part t).tree) w (expr_of x names)) (f ∙ sym (tree-part u))
    ∙ ap (λ (w : Tree). slice_read at ((part t).tree) ((part u).tree) (expr_of w names)) g
sliced-is at (t ∷ u ∷ v ∷ w ∷ ts) h l x names le lt e f g = absurd (omega arith)

pub slice-unbounded : (f : LangFault) (at : Place) (h l : Tree) (read : Result Typed LangFault) → Fails f.why f (numbers h l) → Fails f.why f (slice_read at h l read)
slice-unbounded f at h l read e = fails-then f.why f (numbers h l) (λ b. read >>= λ x. slice_of at b.0 b.1 x) e

pub slice-bounded : (at : Place) (h l : Tree) (read : Result Typed LangFault) (b : ℕ × ℕ) → numbers h l ≡ Ok b → slice_read at h l read ≡ (read >>= λ x. slice_of at b.0 b.1 x)
slice-bounded at h l read b e = goes (numbers h l) (λ b. read >>= λ x. slice_of at b.0 b.1 x) b e

pub slice-unread : (f : LangFault) (at : Place) (h l : Tree) (read : Result Typed LangFault) (b : ℕ × ℕ) → numbers h l ≡ Ok b → Fails f.why f read → Fails f.why f (slice_read at h l read)
slice-unread f at h l read b e h2 = rw (slice-bounded at h l read b e) (fails-then f.why f read (λ x. slice_of at b.0 b.1 x) h2)

pub slice-goes : (at : Place) (h l : Tree) (read : Result Typed LangFault) (b : ℕ × ℕ) (x : Typed) → numbers h l ≡ Ok b → read ≡ Ok x → slice_of at b.0 b.1 x ≡ slice_read at h l read
slice-goes at h l read b x e r = sym (slice-bounded at h l read b e ∙ goes read (λ y. slice_of at b.0 b.1 y) x r)

-- ---- extensions

pub extended-is : (at : Place) (by : Extension) (ts : List Tree) (n x : Tree) (names : List Named) → 2 ≤ length ts → length ts < 3 → n ≡ get_or ts 0 n → x ≡ get_or ts 1 x → longer_read at by n (expr_of x names) ≡ extended_by at by (map part ts) names
extended-is at by [] n x names le lt e f = absurd (omega arith)
extended-is at by (t ∷ []) n x names le lt e f = absurd (omega arith)
extended-is at by (t ∷ u ∷ []) n x names le lt e f =
    ap (λ (w : Tree). longer_read at by w (expr_of x names)) (e ∙ sym (tree-part t))
    ∙ ap (λ (w : Tree). longer_read at by ((part t).tree) (expr_of w names)) f
extended-is at by (t ∷ u ∷ v ∷ ts) n x names le lt e f = absurd (omega arith)

pub longer-unbounded : (f : LangFault) (at : Place) (by : Extension) (n : Tree) (read : Result Typed LangFault) → Fails f.why f (number_of n) → Fails f.why f (longer_read at by n read)
longer-unbounded f at by n read e = fails-then f.why f (number_of n) (λ m. read >>= λ x. longer_of at by m x) e

pub longer-bounded : (at : Place) (by : Extension) (n : Tree) (read : Result Typed LangFault) (more : ℕ) → number_of n ≡ Ok more → longer_read at by n read ≡ (read >>= λ x. longer_of at by more x)
longer-bounded at by n read more e = goes (number_of n) (λ m. read >>= λ x. longer_of at by m x) more e

pub longer-unread : (f : LangFault) (at : Place) (by : Extension) (n : Tree) (read : Result Typed LangFault) (more : ℕ) → number_of n ≡ Ok more → Fails f.why f read → Fails f.why f (longer_read at by n read)
longer-unread f at by n read more e h = rw (longer-bounded at by n read more e) (fails-then f.why f read (λ x. longer_of at by more x) h)

pub longer-goes : (at : Place) (by : Extension) (n : Tree) (read : Result Typed LangFault) (more : ℕ) (x : Typed) → number_of n ≡ Ok more → read ≡ Ok x → longer_of at by more x ≡ longer_read at by n read
longer-goes at by n read more x e r = sym (longer-bounded at by n read more e ∙ goes read (λ y. longer_of at by more y) x r)
