-- The cells of memories: their values and widths, and those of a part.
use Rattle.std.proofs.Common.{◌≡◌, ℕ, ◌+◌, ◌*◌, ◌/◌, ◌^◌, ◌<◌, List, [], ◌∷◌, length, take, drop, get_or, slice_get, Some, refl, sym, ap, ◌∙◌, subst, arith, add-one, length-drop}
use Rattle.std.proofs.Math.Nat.{pow-suc}
use Rattle.std.proofs.lemmas.List.{get_or-map, length-take-le}
use Rattle.std.proofs.lemmas.List.Elements.{All-get_or, All-head, All-tail, All-take, All-drop, All-weaker}
use Rattle.knox_words.specs.Bits.{Bits, bits, IsWord, word_at}
use Rattle.term_graph.specs.declared.node.Node.{Node}
use Rattle.term_graph.specs.declared.node.Node.TheVariants as node
use Rattle.term_graph.specs.Built.{IsBuilt}
use Rattle.term_graph.specs.Value.{value, width_of}
use Rattle.term_graph.specs.Kept.{Keeps, Gives}
use Rattle.term_graph.proofs.BuiltLemmas.{always-word}
use Rattle.term_graph.proofs.WidthLemmas.{value-width, value-IsWord}
use Rattle.term_graph.proofs.FoldLemmas.{keeps-within, keeps-width}
use Rattle.term_mem.specs.Memories.{seen, IsCell, AreCells, IsMemory}

pub seen-at : (v : List Bits) (ns : List Node) (cells : List ℕ) (k : ℕ) → k < length cells → word_at (seen v ns cells) k ≡ value v ns (get_or cells k 0)
seen-at v ns cells k h = get_or-map (value v ns) cells k 0 (bits 1 0) h

pub cell-width : (v : List Bits) (ns : List Node) (w : ℕ) (cells : List ℕ) (k : ℕ) → AreCells ns w cells → k < length cells → (word_at (seen v ns cells) k).width ≡ w
cell-width v ns w cells k are h = ap (λ (x : Bits). x.width) (seen-at v ns cells k h) ∙ (value-width v ns (get_or cells k 0) ∙ (All-get_or (IsCell ns w) cells k 0 h are).wide)

pub cell-kept : (old new : List Node) (w t : ℕ) → Keeps old new → IsCell old w t → IsCell new w t
cell-kept old new w t kept is = record {
  within = keeps-within old new t kept is.within;
  wide = keeps-width old new t kept is.within ∙ is.wide;
}

pub cells-kept : (old new : List Node) (w : ℕ) (cells : List ℕ) → Keeps old new → AreCells old w cells → AreCells new w cells
cells-kept old new w cells kept are = All-weaker (IsCell old w) (IsCell new w) (λ t is. cell-kept old new w t kept is) cells are

pub seen-kept : (v : List Bits) (old new : List Node) (w : ℕ) (cells : List ℕ) → Keeps old new → AreCells old w cells → seen v new cells ≡ seen v old cells
seen-kept v old new w [] kept are = refl
seen-kept v old new w (t ∷ cells) kept are =
    ap (λ (x : Bits). x ∷ seen v new cells) (kept.values v t (All-head (IsCell old w) t cells are).within)
    ∙ ap (λ (xs : List Bits). value v old t ∷ xs) (seen-kept v old new w cells kept (All-tail (IsCell old w) t cells are))

pub memory-kept : (old new : List Node) (i w : ℕ) (cells : List ℕ) → Keeps old new → IsMemory old i w cells → IsMemory new i w cells
memory-kept old new i w cells kept is = record { size = is.size; alike = cells-kept old new w cells kept is.alike }

-- places that words name

pub names-place : (ns : List Node) (t k : ℕ) (w : Bits) → IsBuilt ns → slice_get ns t ≡ Some (node.Word w) → IsWord w → k ≡ w.value → (v : List Bits) → (value v ns t).value ≡ k
names-place ns t k w built at is e v = ap (λ (x : Bits). x.value) ((always-word ns t w built at is).each v) ∙ sym e

pub place-within : (ns : List Node) (i w k : ℕ) (cells : List ℕ) → IsMemory ns (width_of ns i) w cells → ((v : List Bits) → (value v ns i).value ≡ k) → k < length cells
place-within ns i w k cells is named =
    subst (λ (n : ℕ). n < length cells) (named []) (subst (λ (n : ℕ). (value [] ns i).value < n) (sym is.size) (value-IsWord [] ns i).fits)

pub gives-named : (ns : List Node) (i w k t : ℕ) (cells : List ℕ) → IsMemory ns (width_of ns i) w cells → ((v : List Bits) → (value v ns i).value ≡ k) → t ≡ get_or cells k 0 → Gives ns t (λ v. word_at (seen v ns cells) (value v ns i).value)
gives-named ns i w k t cells is named e =
    let below = place-within ns i w k cells is named in
    record {
      within = subst (λ (s : ℕ). s < length ns) (sym e) (All-get_or (IsCell ns w) cells k 0 below is.alike).within;
      gives = λ v. ap (value v ns) e ∙ (sym (seen-at v ns cells k below) ∙ ap (word_at (seen v ns cells)) (sym (named v)));
    }

-- halves

pub halves : (n h : ℕ) (cells : List ℕ) → length cells ≡ 2 ^ (n + 1) → h ≡ length cells / 2 → (h ≡ 2 ^ n) × (length cells ≡ h + h)
halves n h cells size half =
    let p : 2 ^ (n + 1) ≡ 2 ^ n * 2 = ap (λ (k : ℕ). 2 ^ k) (add-one n) ∙ pow-suc 2 n in
    (omega arith, omega arith)

pub low-half : (ns : List Node) (n h w : ℕ) (cells low : List ℕ) → IsMemory ns (n + 1) w cells → h ≡ length cells / 2 → low ≡ take h cells → IsMemory ns n w low
low-half ns n h w cells low is half e =
    let p = halves n h cells is.size half in
    subst (IsMemory ns n w) (sym e) (record {
      size = length-take-le h cells (omega (arith, p.1)) ∙ p.0;
      alike = All-take (IsCell ns w) h cells is.alike;
    })

pub high-half : (ns : List Node) (n h w : ℕ) (cells high : List ℕ) → IsMemory ns (n + 1) w cells → h ≡ length cells / 2 → high ≡ drop h cells → IsMemory ns n w high
high-half ns n h w cells high is half e =
    let p = halves n h cells is.size half in
    subst (IsMemory ns n w) (sym e) (record {
      size = omega (arith, length-drop h cells, p.0, p.1);
      alike = All-drop (IsCell ns w) h cells is.alike;
    })
