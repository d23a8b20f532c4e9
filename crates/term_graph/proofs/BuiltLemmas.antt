-- Graphs as nodes are added: they stay graphs, and the new term has its node's value.
use Rattle.std.proofs.Common.{◌≡◌, ℕ, suc, ◌+◌, ◌<◌, ◌≤◌, Bool, List, [], ◌∷◌, ◌++◌, append-nil, length, map, take, drop, slice_get, Some, refl, sym, ◌∙◌, ap, subst, arith, length-append, false, inl, inr, if◌then◌else◌}
use Rattle.std.proofs.Math.Seq.{take-append_seam}
use Rattle.std.proofs.lemmas.List.{take-append-le}
use Rattle.std.proofs.lemmas.Option.{slice_get_within}
use Rattle.std.proofs.lemmas.Bool.{cases_lt}
use Rattle.knox_words.specs.Bits.{Bits, IsWord, bits, word_at, word_or}
use Rattle.knox_words.proofs.Lists.{IsWord-is_word, word_or-zero}
use Rattle.term_graph.specs.declared.node.Node.{Node}
use Rattle.term_graph.specs.declared.node.Node.TheVariants as node
use Rattle.term_graph.specs.Value.{level, values, value, vars_from, vars_of, is_var, of_width}
use Rattle.term_graph.specs.Built.{IsNext, IsBuilt, IsKept}
use Rattle.term_graph.specs.Kept.{Keeps, Gives, Adds, IsAlways, Makes}
use Rattle.term_graph.proofs.ValueLemmas.{slice_get-append_left, slice_get-seam, split-at, value-node, value-kept, level-local, vars-plain, vars-made, vars_from-append, values-none}
use Rattle.term_graph.proofs.WidthLemmas.{widths-more, of_width-width}

-- one more node
pub built-more : (ns : List Node) (n : Node) → IsBuilt ns → IsNext ns n → IsBuilt (ns ++ n ∷ [])
built-more ns n built next = record {
  each = λ k m e. elim (cases_lt k (length ns)) [
    | inl lt ↦
        let old : slice_get ns k ≡ Some m = sym (slice_get-append_left ns (n ∷ []) k lt) ∙ e in
        let le : k ≤ length ns = omega arith in
        subst (λ (xs : List Node). IsNext xs m) (sym (take-append-le k ns (n ∷ []) le)) (built.each k m old)
    | inr ge ↦
        let within : k < length (ns ++ n ∷ []) = slice_get_within (ns ++ n ∷ []) k m e in
        let is : k ≡ length ns = omega (arith, length-append ns (n ∷ [])) in
        let there : slice_get (ns ++ n ∷ []) (length ns) ≡ Some n = slice_get-seam ns n [] in
        let same : n ≡ m = let both : slice_get (ns ++ n ∷ []) (length ns) ≡ Some m = ap (slice_get (ns ++ n ∷ [])) (sym is) ∙ e in cc in
        rw (is, take-append_seam ns (n ∷ []), ← same) next
  ];
}

pub built-added : (ns : List Node) (widths : List ℕ) (n : Node) (w : ℕ) (new : List Node) (more : List ℕ) → Adds ns widths n w new more → IsBuilt ns → IsNext ns n → IsBuilt new
built-added ns widths n w new more adds built next = elim adds.either [
  | inl e ↦ rw e.0 built
  | inr e ↦ rw e.0 (built-more ns n built next)
]

pub kept-added : (ns : List Node) (widths : List ℕ) (n : Node) (w : ℕ) (new : List Node) (more : List ℕ) → Adds ns widths n w new more → is_var n ≡ false → Keeps ns new
kept-added ns widths n w new more adds plain = elim adds.either [
  | inl e ↦ record { more = []; longer = e.0 ∙ sym (append-nil ns); vars = ap vars_of e.0; values = λ v t h. ap (λ (xs : List Node). value v xs t) e.0 }
  | inr e ↦ record {
    more = n ∷ [];
    longer = e.0;
    vars = ap vars_of e.0 ∙ vars-plain ns n plain;
    values = λ v t h. ap (λ (xs : List Node). value v xs t) e.0 ∙ value-kept v ns (n ∷ []) t h;
  }
]

longer-added : (ns : List Node) (widths : List ℕ) (n : Node) (w : ℕ) (new : List Node) (more : List ℕ) → Adds ns widths n w new more → (ms : List Node) × (new ≡ ns ++ ms)
longer-added ns widths n w new more adds = elim adds.either [ inl e ↦ ([], e.0 ∙ sym (append-nil ns)) | inr e ↦ (n ∷ [], e.0) ]

-- a node that was added gives its level over the older values
pub gives-added : (ns : List Node) (widths : List ℕ) (n : Node) (w : ℕ) (new : List Node) (more : List ℕ) (t : ℕ) → Adds ns widths n w new more → IsBuilt ns → IsNext ns n → slice_get new t ≡ Some n → Gives new t (λ v. level v (value v ns) n)
gives-added ns widths n w new wider t adds built next at =
    let more : (ms : List Node) × (new ≡ ns ++ ms) = longer-added ns widths n w new wider adds in
    record {
      within = slice_get_within new t n at;
      gives = λ v.
          value-node v new t n (built-added ns widths n w new wider adds built next) at
          ∙ level-local v (value v new) (value v ns) (length ns) n
          (λ j h. ap (λ (xs : List Node). value v xs j) more.1 ∙ value-kept v ns more.0 j h)
          next.below;
    }

pub word_or-same : (w : Bits) → IsWord w → word_or w.width w.value ≡ w
word_or-same w is = ap (λ (b : Bool). if b then bits w.width w.value else bits 1 0) (IsWord-is_word w is)

pub gives-word : (ns : List Node) (t : ℕ) (w : Bits) → IsWord w → Gives ns t (λ v. word_or w.width w.value) → Gives ns t (λ v. w)
gives-word ns t w is g = record { within = g.within; gives = λ v. g.gives v ∙ word_or-same w is }

pub always-word : (ns : List Node) (t : ℕ) (w : Bits) → IsBuilt ns → slice_get ns t ≡ Some (node.Word w) → IsWord w → IsAlways ns t w
always-word ns t w built e is = record { each = λ v. value-node v ns t (node.Word w) built e ∙ word_or-same w is }

-- a graph with the widths and the variables stays one

pub kept-plain : (ns : List Node) (widths vars : List ℕ) (n : Node) (w : ℕ) (new : List Node) (more : List ℕ) → IsKept ns widths vars → IsNext ns n → Adds ns widths n w new more → is_var n ≡ false → w ≡ (level [] (value [] ns) n).width → IsKept new more vars
kept-plain ns widths vars n w new more kept next adds plain wide = record {
  built = built-added ns widths n w new more adds kept.built next;
  measured = elim adds.either [
    | inl e ↦ e.1 ∙ (kept.measured ∙ ap (λ (ms : List Node). map (λ (x : Bits). x.width) (values [] ms)) (sym e.0))
    | inr e ↦ e.1
        ∙ (ap (λ (l : List ℕ). l ++ w ∷ []) kept.measured
        ∙ (ap (λ (k : ℕ). map (λ (x : Bits). x.width) (values [] ns) ++ k ∷ []) wide
        ∙ (sym (widths-more ns n) ∙ ap (λ (ms : List Node). map (λ (x : Bits). x.width) (values [] ms)) (sym e.0))))
  ];
  listed = kept.listed ∙ sym (kept-added ns widths n w new more adds plain).vars;
}

-- a variable with the next number stands nowhere yet
fresh : (ns : List Node) (w t : ℕ) → IsBuilt ns → slice_get ns t ≡ Some (node.Var w (length (vars_of ns))) → ⊥
fresh ns w t built e =
    let n = node.Var w (length (vars_of ns)) in
    let parts : ns ≡ take t ns ++ n ∷ drop (suc t) ns = split-at ns t n e in
    let next : IsNext (take t ns) n = built.each t n e in
    let own : length (vars_of ns) ≡ length (vars_of (take t ns)) = next.numbered in
    let at : ℕ = 0 + length (take t ns) in
    let all : vars_of ns ≡ vars_of (take t ns) ++ vars_from at (n ∷ drop (suc t) ns) = ap vars_of parts ∙ vars_from-append 0 (take t ns) (n ∷ drop (suc t) ns) in
    let long : length (vars_from at (n ∷ drop (suc t) ns)) ≡ suc (length (vars_from (suc at) (drop (suc t) ns))) = refl in
    omega (arith, own, ap length all, long, length-append (vars_of (take t ns)) (vars_from at (n ∷ drop (suc t) ns)))

fresh-added : (ns new : List Node) (widths more : List ℕ) (w t : ℕ) → IsBuilt ns → Adds ns widths (node.Var w (length (vars_of ns))) w new more → slice_get new t ≡ Some (node.Var w (length (vars_of ns))) → (new ≡ ns ++ node.Var w (length (vars_of ns)) ∷ []) × (more ≡ widths ++ w ∷ []) × (t ≡ length ns)
fresh-added ns new widths more w t built adds e =
    let n : Node = node.Var w (length (vars_of ns)) in
    elim adds.either [
      | inl p ↦ absurd (fresh ns w t built (ap (λ (xs : List Node). slice_get xs t) (sym p.0) ∙ e))
      | inr p ↦
          let at : slice_get (ns ++ n ∷ []) t ≡ Some n = ap (λ (xs : List Node). slice_get xs t) (sym p.0) ∙ e in
          elim (cases_lt t (length ns)) [
            | inl lt ↦ absurd (fresh ns w t built (sym (slice_get-append_left ns (n ∷ []) t lt) ∙ at))
            | inr ge ↦
                let within : t < length (ns ++ n ∷ []) = slice_get_within (ns ++ n ∷ []) t n at in
                (p.0, p.1, omega (arith, length-append ns (n ∷ [])))
          ]
    ]

next-var : (ns : List Node) (w : ℕ) → 1 ≤ w → w ≤ 128 → IsNext ns (node.Var w (length (vars_of ns)))
next-var ns w wide narrow = record { below = tt; numbered = refl; fits = (wide, narrow) }

pub makes-var : (ns new : List Node) (widths more : List ℕ) (w t : ℕ) → IsBuilt ns → 1 ≤ w → w ≤ 128 → Adds ns widths (node.Var w (length (vars_of ns))) w new more → slice_get new t ≡ Some (node.Var w (length (vars_of ns))) → Makes ns w new t
makes-var ns new widths more w t built wide narrow adds e =
    let n : Node = node.Var w (length (vars_of ns)) in
    let is = fresh-added ns new widths more w t built adds e in
    record {
      longer = is.0;
      last = is.2;
      vars = ap vars_of is.0 ∙ (vars-made ns w (length (vars_of ns)) ∙ ap (λ (k : ℕ). vars_of ns ++ k ∷ []) (sym is.2));
      values = λ v s h. ap (λ (xs : List Node). value v xs s) is.0 ∙ value-kept v ns (n ∷ []) s h;
      gives = gives-added ns widths n w new more t adds built (next-var ns w wide narrow) e;
    }

pub kept-var : (ns new : List Node) (widths more vars vars' : List ℕ) (w t : ℕ) → IsKept ns widths vars → 1 ≤ w → w ≤ 128 → Adds ns widths (node.Var w (length (vars_of ns))) w new more → slice_get new t ≡ Some (node.Var w (length (vars_of ns))) → vars' ≡ vars ++ length ns ∷ [] → IsKept new more vars'
kept-var ns new widths more vars vars' w t kept wide narrow adds e all =
    let n : Node = node.Var w (length (vars_of ns)) in
    let is = fresh-added ns new widths more w t kept.built adds e in
    record {
      built = built-added ns widths n w new more adds kept.built (next-var ns w wide narrow);
      measured = is.1
          ∙ (ap (λ (l : List ℕ). l ++ w ∷ []) kept.measured
          ∙ (ap (λ (k : ℕ). map (λ (x : Bits). x.width) (values [] ns) ++ k ∷ []) (var_width w wide narrow)
          ∙ (sym (widths-more ns n) ∙ ap (λ (ms : List Node). map (λ (x : Bits). x.width) (values [] ms)) (sym is.0))));
      listed = all ∙ (ap (λ (l : List ℕ). l ++ length ns ∷ []) kept.listed ∙ (sym (vars-made ns w (length (vars_of ns))) ∙ ap vars_of (sym is.0)));
    }
  where
    var_width : (w : ℕ) → 1 ≤ w → w ≤ 128 → w ≡ (of_width w (word_at [] (length (vars_of ns)))).width
    var_width w wide narrow = sym (of_width-width w (word_at [] (length (vars_of ns))) ∙ ap (λ (x : Bits). x.width) (word_or-zero w wide narrow))

pub kept-none : (ns : List Node) (widths vars : List ℕ) → ns ≡ [] → widths ≡ [] → vars ≡ [] → IsKept ns widths vars
kept-none ns widths vars p q r =
    let built : IsBuilt [] = record { each = λ k n e. cc } in
    record {
      built = subst IsBuilt (sym p) built;
      measured = q ∙ (sym (ap (map (λ (x : Bits). x.width)) (values-none [])) ∙ ap (λ (ms : List Node). map (λ (x : Bits). x.width) (values [] ms)) (sym p));
      listed = r ∙ ap vars_of (sym p);
    }

pub ruleset wording = (gives-word, always-word)
