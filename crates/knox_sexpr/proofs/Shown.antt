-- What is printed is read again.
use Rattle.std.proofs.Common.{◌≡◌, ℕ, suc, ◌+◌, ◌-◌, ◌/◌, ◌%◌, ◌^◌, ◌≤◌, ◌<◌, List, [], ◌∷◌, ◌++◌, map, refl, sym, ap, ◌∙◌, append_assoc, arith}
use Rattle.std.proofs.Math.Nat.{div-div-eq-div-mul, pow-suc}
use Rattle.knox_text.specs.declared.place.Place.{Place}
use Rattle.knox_text.specs.Places.{next, behind}
use Rattle.knox_sexpr.specs.declared.tree.Tree.{Tree, fold-roll-Tree}
use Rattle.knox_sexpr.specs.declared.tree.Tree.TheVariants as trees
use Rattle.knox_sexpr.specs.declared.tree.Tree.TheOpen.{Tree-F}
use Rattle.knox_sexpr.specs.Printing.{binary, number_bytes, Shown, spaced, all_at, show_level, show, printed}

pub binary_more : (w i v : ℕ) → 0 < i → i ≤ w → binary (w - i) (v / 2 ^ i) ++ (48 + v / 2 ^ (i - 1) % 2) ∷ [] ≡ binary (w - (i - 1)) (v / 2 ^ (i - 1))
binary_more w i v some le =
    let k : w - (i - 1) ≡ suc (w - i) = omega arith in
    let j : i ≡ suc (i - 1) = omega arith in
    let half : v / 2 ^ (i - 1) / 2 ≡ v / 2 ^ i = div-div-eq-div-mul v (2 ^ (i - 1)) 2 ∙ ap (λ (n : ℕ). v / n) (sym (pow-suc 2 (i - 1)) ∙ ap (λ (n : ℕ). 2 ^ n) (sym j)) in
    rw (k, half) refl

pub show-Atom : (at : Place) (word : List ℕ) → show (trees.Atom at word) ≡ record { bytes = word; tree_at = λ p. trees.Atom p word }
unfolding show
show-Atom at word = ap show (sym (trees.rolls-Atom at word)) ∙ fold-roll-Tree Shown show_level (Tree-F.Atom at word)

pub show-Number : (at : Place) (width value : ℕ) → show (trees.Number at width value) ≡ record { bytes = number_bytes width value; tree_at = λ p. trees.Number p width value }
unfolding show
show-Number at width value = ap show (sym (trees.rolls-Number at width value)) ∙ fold-roll-Tree Shown show_level (Tree-F.Number at width value)

pub show-List : (at close : Place) (ts : List Tree) → show (trees.List at ts close) ≡ record { bytes = 40 ∷ (spaced (map show ts) ++ 41 ∷ []); tree_at = λ p. trees.List p (all_at (next p 40) (map show ts)) (behind (next p 40) (spaced (map show ts))) }
unfolding show
show-List at close ts = ap show (sym (trees.rolls-List at ts close)) ∙ fold-roll-Tree Shown show_level (Tree-F.List at ts close)

pub bytes-Atom : (at : Place) (word : List ℕ) → printed (trees.Atom at word) ≡ word
bytes-Atom at word = ap (λ (s : Shown). s.bytes) (show-Atom at word)

pub bytes-Number : (at : Place) (width value : ℕ) → printed (trees.Number at width value) ≡ number_bytes width value
bytes-Number at width value = ap (λ (s : Shown). s.bytes) (show-Number at width value)

pub bytes-List : (at close : Place) (ts : List Tree) → printed (trees.List at ts close) ≡ 40 ∷ (spaced (map show ts) ++ 41 ∷ [])
bytes-List at close ts = ap (λ (s : Shown). s.bytes) (show-List at close ts)

pub listed : (out mid a b d : List ℕ) → a ≡ out ++ 40 ∷ [] → b ≡ a ++ mid → d ≡ b ++ 41 ∷ [] → d ≡ out ++ (40 ∷ (mid ++ 41 ∷ []))
listed out mid a b d e f g = g ∙ rw (f, e) (ap (λ (x : List ℕ). x ++ 41 ∷ []) (append_assoc out (40 ∷ []) mid) ∙ append_assoc out (40 ∷ mid) (41 ∷ []))
