-- The widths of terms: a term's value is a word, of the same width under every valuation.
use Rattle.std.proofs.Common.{◌≡◌, ℕ, zero, suc, ◌+◌, ◌-◌, ◌<◌, ◌≤◌, ◌==◌, ◌&&◌, nat_le, nat_lt, Bool, List, [], ◌∷◌, ◌++◌, length, length-append, map, slice_get, slice_index_or, Some, refl, sym, ◌∙◌, ap, subst, arith, true, false, if◌then◌else◌, eqb-true}
use Rattle.std.proofs.lemmas.Bool.{leb-true, ltb-true, and_parts}
use Rattle.std.proofs.lemmas.List.{map-append, length-map}
use Rattle.std.specs.List.{fold}
use Rattle.knox_words.specs.Bits.{Bits, IsWord, bits, is_word, word_at, word_or}
use Rattle.knox_words.specs.Lists.{fits}
use Rattle.knox_words.specs.Ops.{op2_value, op2_or, op1_width, op2_width, fits2_of, sext_or, uext_or, slice_or, sext_value, uext_value, slice_value}
use Rattle.knox_words.specs.declared.op.Op2.{Op2}
use Rattle.knox_words.proofs.Lists.{is_word-IsWord, fits-width, fits-IsWord, word_or-zero}
use Rattle.knox_words.proofs.Results.{op1_value-width, op2_value-width, op1_value-IsWord, op2_value-IsWord, sext_value-IsWord, uext_value-IsWord, slice_value-IsWord}
use Rattle.term_graph.specs.declared.node.Node.{Node}
use Rattle.term_graph.specs.declared.node.Node.TheVariants as node
use Rattle.term_graph.specs.Value.{level, valued, values, value, of_width, ite_or, width_of}
use Rattle.term_graph.proofs.ValueLemmas.{values-append, length-values}

zero-IsWord : IsWord (bits 1 0)
zero-IsWord = record { wide = omega arith; narrow = omega arith; fits = omega arith }

pub word_or-IsWord : (w n : ℕ) → IsWord (word_or w n)
word_or-IsWord w n = by_test (is_word (bits w n)) refl
  where
    by_test : (t : Bool) → is_word (bits w n) ≡ t → IsWord (if t then bits w n else bits 1 0)
    by_test true e = is_word-IsWord (bits w n) e
    by_test false e = zero-IsWord

of_width-IsWord : (w : ℕ) (b : Bits) → IsWord (of_width w b)
of_width-IsWord w b = by_test (fits w b) refl
  where
    by_test : (t : Bool) → fits w b ≡ t → IsWord (if t then b else word_or w 0)
    by_test true e = fits-IsWord w b e
    by_test false e = word_or-IsWord w 0

pub of_width-width : (w : ℕ) (b : Bits) → (of_width w b).width ≡ (word_or w 0).width
of_width-width w b = by_test (fits w b) refl
  where
    by_test : (t : Bool) → fits w b ≡ t → (if t then b else word_or w 0).width ≡ (word_or w 0).width
    by_test true e =
        let is : b.width ≡ w = fits-width w b e in
        let word : IsWord b = fits-IsWord w b e in
        let wide : 1 ≤ w = subst (λ (k : ℕ). 1 ≤ k) is word.wide in
        let narrow : w ≤ 128 = subst (λ (k : ℕ). k ≤ 128) is word.narrow in
        is ∙ sym (ap (λ (x : Bits). x.width) (word_or-zero w wide narrow))
    by_test false e = refl

op2_or-width : (o : Op2) (a b : Bits) → (op2_or o a b).width ≡ (if fits2_of o a.width b.width then op2_width o a.width b.width else 1)
op2_or-width o a b = by_test (fits2_of o a.width b.width)
  where
    by_test : (t : Bool) → (if t then op2_value o a b else bits 1 0).width ≡ (if t then op2_width o a.width b.width else 1)
    by_test true = op2_value-width o a b
    by_test false = refl

pub op2_or-IsWord : (o : Op2) (a b : Bits) → IsWord a → IsWord b → IsWord (op2_or o a b)
op2_or-IsWord o a b p q = by_test (fits2_of o a.width b.width) refl
  where
    by_test : (t : Bool) → fits2_of o a.width b.width ≡ t → IsWord (if t then op2_value o a b else bits 1 0)
    by_test true e = op2_value-IsWord o a b e p q
    by_test false e = zero-IsWord

sext_or-width : (a : Bits) (n : ℕ) → (sext_or a n).width ≡ (if nat_le (a.width + n) 128 then a.width + n else 1)
sext_or-width a n = by_test (nat_le (a.width + n) 128)
  where
    by_test : (t : Bool) → (if t then sext_value a n else bits 1 0).width ≡ (if t then a.width + n else 1)
    by_test true = refl
    by_test false = refl

sext_or-IsWord : (a : Bits) (n : ℕ) → IsWord a → IsWord (sext_or a n)
sext_or-IsWord a n p = by_test (nat_le (a.width + n) 128) refl
  where
    by_test : (t : Bool) → nat_le (a.width + n) 128 ≡ t → IsWord (if t then sext_value a n else bits 1 0)
    by_test true e = sext_value-IsWord a n (leb-true (a.width + n) 128 e) p
    by_test false e = zero-IsWord

uext_or-width : (a : Bits) (n : ℕ) → (uext_or a n).width ≡ (if nat_le (a.width + n) 128 then a.width + n else 1)
uext_or-width a n = by_test (nat_le (a.width + n) 128)
  where
    by_test : (t : Bool) → (if t then uext_value a n else bits 1 0).width ≡ (if t then a.width + n else 1)
    by_test true = refl
    by_test false = refl

uext_or-IsWord : (a : Bits) (n : ℕ) → IsWord a → IsWord (uext_or a n)
uext_or-IsWord a n p = by_test (nat_le (a.width + n) 128) refl
  where
    by_test : (t : Bool) → nat_le (a.width + n) 128 ≡ t → IsWord (if t then uext_value a n else bits 1 0)
    by_test true e = uext_value-IsWord a n (leb-true (a.width + n) 128 e) p
    by_test false e = zero-IsWord

slice_or-width : (a : Bits) (h l : ℕ) → (slice_or a h l).width ≡ (if nat_le l h && nat_lt h a.width then h - l + 1 else 1)
slice_or-width a h l = by_test (nat_le l h && nat_lt h a.width)
  where
    by_test : (t : Bool) → (if t then slice_value a h l else bits 1 0).width ≡ (if t then h - l + 1 else 1)
    by_test true = refl
    by_test false = refl

slice_or-IsWord : (a : Bits) (h l : ℕ) → IsWord a → IsWord (slice_or a h l)
slice_or-IsWord a h l p = by_test (nat_le l h && nat_lt h a.width) refl
  where
    by_test : (t : Bool) → (nat_le l h && nat_lt h a.width) ≡ t → IsWord (if t then slice_value a h l else bits 1 0)
    by_test true e =
        let both = and_parts (nat_le l h) (nat_lt h a.width) e in
        slice_value-IsWord a h l (leb-true l h both.0) (ltb-true h a.width both.1) p
    by_test false e = zero-IsWord

ite_or-width : (c a b : Bits) → (ite_or c a b).width ≡ (if a.width == b.width then a.width else 1)
ite_or-width c a b = by_test (a.width == b.width) refl (c.value == 1)
  where
    by_test : (t : Bool) → (a.width == b.width) ≡ t → (u : Bool) → (if t then (if u then a else b) else bits 1 0).width ≡ (if t then a.width else 1)
    by_test true e true = refl
    by_test true e false = sym (eqb-true a.width b.width e)
    by_test false e u = refl

ite_or-IsWord : (c a b : Bits) → IsWord a → IsWord b → IsWord (ite_or c a b)
ite_or-IsWord c a b p q = by_test (a.width == b.width) (c.value == 1)
  where
    by_test : (t u : Bool) → IsWord (if t then (if u then a else b) else bits 1 0)
    by_test true true = p
    by_test true false = q
    by_test false u = zero-IsWord

-- a node's width is that of its children's widths
level-width : (v u : List Bits) (f g : ℕ → Bits) (n : Node) → ((k : ℕ) → (f k).width ≡ (g k).width) → (level v f n).width ≡ (level u g n).width
level-width v u f g (node.Var w n) h = of_width-width w (word_at v n) ∙ sym (of_width-width w (word_at u n))
level-width v u f g (node.Word b) h = refl
level-width v u f g (node.Un o a) h = op1_value-width o (f a) ∙ (ap (λ (k : ℕ). op1_width o k) (h a) ∙ sym (op1_value-width o (g a)))
level-width v u f g (node.Bin o a b) h =
    op2_or-width o (f a) (f b)
    ∙ (ap (λ (k : ℕ). if fits2_of o k (f b).width then op2_width o k (f b).width else 1) (h a)
    ∙ (ap (λ (k : ℕ). if fits2_of o (g a).width k then op2_width o (g a).width k else 1) (h b)
    ∙ sym (op2_or-width o (g a) (g b))))
level-width v u f g (node.Sext a n) h = sext_or-width (f a) n ∙ (ap (λ (k : ℕ). if nat_le (k + n) 128 then k + n else 1) (h a) ∙ sym (sext_or-width (g a) n))
level-width v u f g (node.Uext a n) h = uext_or-width (f a) n ∙ (ap (λ (k : ℕ). if nat_le (k + n) 128 then k + n else 1) (h a) ∙ sym (uext_or-width (g a) n))
level-width v u f g (node.Slice a x y) h = slice_or-width (f a) x y ∙ (ap (λ (k : ℕ). if nat_le y x && nat_lt x k then x - y + 1 else 1) (h a) ∙ sym (slice_or-width (g a) x y))
level-width v u f g (node.Ite c a b) h =
    ite_or-width (f c) (f a) (f b)
    ∙ (ap (λ (k : ℕ). if k == (f b).width then k else 1) (h a)
    ∙ (ap (λ (k : ℕ). if (g a).width == k then (g a).width else 1) (h b)
    ∙ sym (ite_or-width (g c) (g a) (g b))))

level-IsWord : (v : List Bits) (f : ℕ → Bits) (n : Node) → ((k : ℕ) → IsWord (f k)) → IsWord (level v f n)
level-IsWord v f (node.Var w n) h = of_width-IsWord w (word_at v n)
level-IsWord v f (node.Word b) h = word_or-IsWord b.width b.value
level-IsWord v f (node.Un o a) h = op1_value-IsWord o (f a) (h a)
level-IsWord v f (node.Bin o a b) h = op2_or-IsWord o (f a) (f b) (h a) (h b)
level-IsWord v f (node.Sext a n) h = sext_or-IsWord (f a) n (h a)
level-IsWord v f (node.Uext a n) h = uext_or-IsWord (f a) n (h a)
level-IsWord v f (node.Slice a x y) h = slice_or-IsWord (f a) x y (h a)
level-IsWord v f (node.Ite c a b) h = ite_or-IsWord (f c) (f a) (f b) (h a) (h b)

more-width : (ws us : List Bits) (a b : Bits) → ((k : ℕ) → (word_at ws k).width ≡ (word_at us k).width) → length ws ≡ length us → a.width ≡ b.width → (k : ℕ) → (word_at (ws ++ a ∷ []) k).width ≡ (word_at (us ++ b ∷ []) k).width
more-width [] [] a b h l e zero = e
more-width [] [] a b h l e (suc k) = refl
more-width [] (u ∷ us) a b h l e k = absurd (omega (arith, l))
more-width (w ∷ ws) [] a b h l e k = absurd (omega (arith, l))
more-width (w ∷ ws) (u ∷ us) a b h l e zero = h 0
more-width (w ∷ ws) (u ∷ us) a b h l e (suc k) = more-width ws us a b (λ j. h (suc j)) (omega (arith, l)) e k

more-IsWord : (ws : List Bits) (a : Bits) → ((k : ℕ) → IsWord (word_at ws k)) → IsWord a → (k : ℕ) → IsWord (word_at (ws ++ a ∷ []) k)
more-IsWord [] a h p zero = p
more-IsWord [] a h p (suc k) = zero-IsWord
more-IsWord (w ∷ ws) a h p zero = h 0
more-IsWord (w ∷ ws) a h p (suc k) = more-IsWord ws a (λ j. h (suc j)) p k

folded-width : (v u ws us : List Bits) (ns : List Node) → ((k : ℕ) → (word_at ws k).width ≡ (word_at us k).width) → length ws ≡ length us → (k : ℕ) → (word_at (fold (valued v) ws ns) k).width ≡ (word_at (fold (valued u) us ns) k).width
folded-width v u ws us [] h l k = h k
folded-width v u ws us (n ∷ ns) h l k =
    folded-width v u (valued v ws n) (valued u us n) ns
    (more-width ws us (level v (word_at ws) n) (level u (word_at us) n) h l (level-width v u (word_at ws) (word_at us) n h))
    (omega (arith, l, length-append ws (level v (word_at ws) n ∷ []), length-append us (level u (word_at us) n ∷ [])))
    k

folded-IsWord : (v ws : List Bits) (ns : List Node) → ((k : ℕ) → IsWord (word_at ws k)) → (k : ℕ) → IsWord (word_at (fold (valued v) ws ns) k)
folded-IsWord v ws [] h k = h k
folded-IsWord v ws (n ∷ ns) h k = folded-IsWord v (valued v ws n) ns (more-IsWord ws (level v (word_at ws) n) h (level-IsWord v (word_at ws) n h)) k

-- a term has one width under all valuations
pub value-width : (v : List Bits) (ns : List Node) (t : ℕ) → (value v ns t).width ≡ width_of ns t
unfolding values
value-width v ns t = folded-width v [] [] [] ns (λ k. refl) refl t

pub value-IsWord : (v : List Bits) (ns : List Node) (t : ℕ) → IsWord (value v ns t)
unfolding values
value-IsWord v ns t = folded-IsWord v [] ns (λ k. zero-IsWord) t

-- the widths after one node more
pub widths-more : (ns : List Node) (n : Node) → map (λ (w : Bits). w.width) (values [] (ns ++ n ∷ [])) ≡ map (λ (w : Bits). w.width) (values [] ns) ++ (level [] (value [] ns) n).width ∷ []
widths-more ns n = ap (map (λ (w : Bits). w.width)) (values-append [] ns (n ∷ [])) ∙ map-append (λ (w : Bits). w.width) (values [] ns) (level [] (value [] ns) n ∷ [])

pub width-found : (ws : List Bits) (t : ℕ) → t < length ws → slice_get (map (λ (w : Bits). w.width) ws) t ≡ Some (word_at ws t).width
width-found [] t h = absurd (omega arith)
width-found (w ∷ ws) zero h = refl
width-found (w ∷ ws) (suc t) h = width-found ws t (omega arith)

-- the width that a graph has for a term
pub width-kept : (ns : List Node) (widths : List ℕ) (t : ℕ) → widths ≡ map (λ (w : Bits). w.width) (values [] ns) → t < length ns → slice_get widths t ≡ Some (width_of ns t)
width-kept ns widths t e h = ap (λ (l : List ℕ). slice_get l t) e ∙ width-found (values [] ns) t (omega (arith, length-values [] ns))

pub length-kept : (ns : List Node) (widths : List ℕ) → widths ≡ map (λ (w : Bits). w.width) (values [] ns) → length widths ≡ length ns
length-kept ns widths e = ap length e ∙ (length-map (values [] ns) (λ (w : Bits). w.width) ∙ length-values [] ns)

pub width-read : (ns : List Node) (widths : List ℕ) (t w : ℕ) → widths ≡ map (λ (w : Bits). w.width) (values [] ns) → t < length ns → w ≡ slice_index_or widths t w → w ≡ width_of ns t
width-read ns widths t w e h is = is ∙ read widths t w (width_of ns t) (width-kept ns widths t e h)
  where
    read : (ks : List ℕ) (j d x : ℕ) → slice_get ks j ≡ Some x → slice_index_or ks j d ≡ x
    read [] j d x p = cc
    read (k ∷ ks) zero d x p = cc
    read (k ∷ ks) (suc j) d x p = read ks j d x p

pub ruleset worded = (value-IsWord)
